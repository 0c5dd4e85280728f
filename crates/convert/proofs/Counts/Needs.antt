-- The counting pass counts what the writing pass writes.
use mathlib.Core.Path.{◌≡◌, refl, ap, ◌∙◌}
use mathlib.Core.Bool.{Bool, true, false, cond}
use mathlib.Core.List.{List, [], ◌∷◌}
use Prim.Native.Nat.{ℕ, ◌+◌, ◌*◌}
use native.Mathlib.Omega.{arith}
use lib.ListN.{length, length-append}
use Rattle.pauli.specs.Gates.{Gate, gate_h, gate_x, gate_z, gate_s, gate_sdg, gate_cnot, gate_cz}
use Rattle.convert.specs.Records.{Cap, Elementary, clifford, el_t, el_tdg, el_ccx, el_ccz, el_measure, Placed, bare}
use Rattle.convert.specs.Plain.{Plain, flush_from, plain_begin, exceeds, plain_step}
use Rattle.convert.specs.Frame.{start_arena, pushed, multiplied, frame_step, total}
use Rattle.convert.specs.Words.{Words, start_words, flush_gate, flush_gates, flush_words, write_seven, write, word_step, word_run}
use Rattle.convert.specs.Conversion.{Input, gates_in, word_end}
use Rattle.convert.specs.Code.Needs.{element_nodes, element_ops, written_nodes, written_ops, Needs, need_step, need_run}

-- w is so many nodes and operations past v
pub record Past (v w : Words) (nodes ops : ℕ) : Type 0 where
  pub nodes_are : w.arena.count ≡ v.arena.count + nodes
  pub ops_are : length w.ops ≡ length v.ops + ops

past-write : (n given i : ℕ) (e : Elementary) (w : Words) → Past w (write n given i e w) (element_nodes e) (element_ops e)
unfolding write frame_step multiplied pushed write_seven
past-write n given i (clifford (gate_h q)) w = record { nodes_are = omega arith; ops_are = omega arith }
past-write n given i (clifford (gate_x q)) w = record { nodes_are = omega arith; ops_are = omega arith }
past-write n given i (clifford (gate_z q)) w = record { nodes_are = omega arith; ops_are = omega arith }
past-write n given i (clifford (gate_s q)) w = record { nodes_are = omega arith; ops_are = omega arith }
past-write n given i (clifford (gate_sdg q)) w = record { nodes_are = omega arith; ops_are = omega arith }
past-write n given i (clifford (gate_cnot c t)) w = record { nodes_are = omega arith; ops_are = omega arith }
past-write n given i (clifford (gate_cz c t)) w = record { nodes_are = omega arith; ops_are = omega arith }
past-write n given i (el_t q) w = record { nodes_are = omega arith; ops_are = simp length-append }
past-write n given i (el_tdg q) w = record { nodes_are = omega arith; ops_are = simp length-append }
past-write n given i (el_ccx a b d) w = record { nodes_are = omega arith; ops_are = simp length-append }
past-write n given i (el_ccz a b d) w = record { nodes_are = omega arith; ops_are = simp length-append }
past-write n given i (el_measure q k) w = record { nodes_are = omega arith; ops_are = simp length-append }

pub past_gate : (i : ℕ) (g : Gate) (w : Words) → Past w (flush_gate i g w) (written_nodes g) (written_ops g)
unfolding flush_gate pushed
past_gate i (gate_h q) w = record { nodes_are = omega arith; ops_are = simp length-append }
past_gate i (gate_x q) w = record { nodes_are = omega arith; ops_are = simp length-append }
past_gate i (gate_z q) w = record { nodes_are = omega arith; ops_are = simp length-append }
past_gate i (gate_s q) w = record { nodes_are = omega arith; ops_are = simp length-append }
past_gate i (gate_sdg q) w = record { nodes_are = omega arith; ops_are = simp length-append }
past_gate i (gate_cnot c t) w = record { nodes_are = omega arith; ops_are = simp length-append }
past_gate i (gate_cz c t) w = record { nodes_are = omega arith; ops_are = simp length-append }

past_gates : (gs : List (Placed Gate)) (w : Words) → Past w (flush_gates gs w) (total written_nodes (bare gs)) (total written_ops (bare gs))
unfolding flush_gates
past_gates [] w = record { nodes_are = omega arith; ops_are = omega arith }
past_gates (g ∷ gs) w = record {
  nodes_are = omega (arith, (past_gate g.index g.gate w).nodes_are, (past_gates gs (flush_gate g.index g.gate w)).nodes_are);
  ops_are = omega (arith, (past_gate g.index g.gate w).ops_are, (past_gates gs (flush_gate g.index g.gate w)).ops_are);
}

past_step : (n : ℕ) (cap : Cap) (e : Placed Elementary) (p : Plain) (w : Words)
    → Past w (word_step n cap e p w) (cond (exceeds n cap p.table e.gate) (total written_nodes (bare p.pending)) 0 + element_nodes e.gate)
    (cond (exceeds n cap p.table e.gate) (total written_ops (bare p.pending)) 0 + element_ops e.gate)
unfolding word_step flush_words
past_step n cap e p w = go (exceeds n cap p.table e.gate)
  where
    go : (b : Bool) → Past w (write n p.given e.index e.gate (cond b (flush_words n p.pending w) w)) (cond b (total written_nodes (bare p.pending)) 0 + element_nodes e.gate) (cond b (total written_ops (bare p.pending)) 0 + element_ops e.gate)
    go true = record {
      nodes_are = omega (arith, (past-write n p.given e.index e.gate (flush_words n p.pending w)).nodes_are, (past_gates p.pending w).nodes_are);
      ops_are = omega (arith, (past-write n p.given e.index e.gate (flush_words n p.pending w)).ops_are, (past_gates p.pending w).ops_are);
    }
    go false = record { nodes_are = omega (arith, (past-write n p.given e.index e.gate w).nodes_are); ops_are = omega (arith, (past-write n p.given e.index e.gate w).ops_are) }

abbrev pub have : Words → Needs
have w = record { nodes = w.arena.count; operations = length w.ops }

need_step_lem : (n : ℕ) (cap : Cap) (e : Placed Elementary) (p : Plain) (w : Words) → need_step n cap e p (have w) ≡ have (word_step n cap e p w)
unfolding need_step
need_step_lem n cap e p w = λ i. record { nodes = nodes i; operations = operations i }
  where
    nodes : w.arena.count + cond (exceeds n cap p.table e.gate) (total written_nodes (bare p.pending)) 0 + element_nodes e.gate ≡ (word_step n cap e p w).arena.count
    nodes = omega (arith, (past_step n cap e p w).nodes_are)

    operations : length w.ops + cond (exceeds n cap p.table e.gate) (total written_ops (bare p.pending)) 0 + element_ops e.gate ≡ length (word_step n cap e p w).ops
    operations = omega (arith, (past_step n cap e p w).ops_are)

-- the counting pass counts what the writing pass writes
pub needed : (n : ℕ) (cap : Cap) (es : List (Placed Elementary)) (p : Plain) (w : Words) → need_run n cap es p (have w) ≡ have (word_run n cap es p w)
unfolding need_run word_run
needed n cap [] p w = refl
needed n cap (e ∷ es) p w = ap (need_run n cap es (plain_step flush_from n cap e p)) (need_step_lem n cap e p w) ∙ needed n cap es (plain_step flush_from n cap e p) (word_step n cap e p w)

-- the counting pass counts what the writing pass writes
pub needs_counted : (x : Input)
    → need_run x.qubits x.cap (gates_in x) (plain_begin x.qubits) (record { nodes = 1 + 2 * x.qubits; operations = 0 })
    ≡ record { nodes = (word_end x).arena.count; operations = length (word_end x).ops }
unfolding word_end start_words start_arena
needs_counted x = needed x.qubits x.cap (gates_in x) (plain_begin x.qubits) (start_words x.qubits)
