-- What a conversion needs, counted without writing; and the place of the last flush.
use Rattle.std.specs.Prelude.{Bool, cond, List, [], ◌∷◌, ℕ, ◌+◌, drop}
use Rattle.pauli.specs.Gates.{Gate, gate_h, gate_x, gate_z, gate_s, gate_sdg, gate_cnot, gate_cz}
use Rattle.convert.specs.Records.{Cap, Record, Elementary, clifford, el_t, el_tdg, el_ccx, el_ccz, el_measure, Placed, placed, bare, lower_from}
use Rattle.convert.specs.Plain.{Plain, exceeds, flush_from, plain_step}
use Rattle.convert.specs.Frame.{gate_nodes, total}

-- ---- nodes and operations

abbrev pub element_nodes : Elementary → ℕ
element_nodes (clifford g) = gate_nodes g
element_nodes (el_t q) = 0
element_nodes (el_tdg q) = 0
element_nodes (el_ccx a b d) = 4
element_nodes (el_ccz a b d) = 4
element_nodes (el_measure q k) = 0

abbrev pub element_ops : Elementary → ℕ
element_ops (clifford g) = 0
element_ops (el_t q) = 1
element_ops (el_tdg q) = 1
element_ops (el_ccx a b d) = 7
element_ops (el_ccz a b d) = 7
element_ops (el_measure q k) = 1

-- what a flush writes for a gate
abbrev pub written_nodes : Gate → ℕ
written_nodes (gate_h q) = 0
written_nodes (gate_x q) = 0
written_nodes (gate_z q) = 0
written_nodes (gate_s q) = 0
written_nodes (gate_sdg q) = 0
written_nodes (gate_cnot c t) = 1
written_nodes (gate_cz c t) = 1

abbrev pub written_ops : Gate → ℕ
written_ops (gate_h q) = 3
written_ops (gate_x q) = 1
written_ops (gate_z q) = 1
written_ops (gate_s q) = 1
written_ops (gate_sdg q) = 1
written_ops (gate_cnot c t) = 3
written_ops (gate_cz c t) = 3

pub record Needs : Type 0 where
  pub nodes : ℕ
  pub operations : ℕ

unfoldable pub need_step : ℕ → Cap → Placed Elementary → Plain → Needs → Needs
need_step n cap e p k = record {
  nodes = k.nodes + cond (exceeds n cap p.table e.gate) (total written_nodes (bare p.pending)) 0 + element_nodes e.gate;
  operations = k.operations + cond (exceeds n cap p.table e.gate) (total written_ops (bare p.pending)) 0 + element_ops e.gate;
}

unfoldable pub need_run : ℕ → Cap → List (Placed Elementary) → Plain → Needs → Needs
need_run n cap [] p k = k
need_run n cap (e ∷ es) p k = need_run n cap es (plain_step flush_from n cap e p) (need_step n cap e p k)

-- ---- the place of the last flush: a record, and how many of its elementary gates are past

pub record Place : Type 0 where
  pub index : ℕ
  pub part : ℕ

abbrev pub place_of : {A : Type 0} → Placed A → Place
place_of e = record { index = e.index; part = e.part }

unfoldable pub place_step : ℕ → Cap → Placed Elementary → Plain → Place → Place
place_step n cap e p at = cond (exceeds n cap p.table e.gate) (place_of e) at

unfoldable pub place_run : ℕ → Cap → List (Placed Elementary) → Plain → Place → Place
place_run n cap [] p at = at
place_run n cap (e ∷ es) p at = place_run n cap es (plain_step flush_from n cap e p) (place_step n cap e p at)

-- the elementary gates of a list of records from a place on
unfoldable pub gates_from : (narrow : Bool) → Place → List Record → List (Placed Elementary)
gates_from narrow at rs = drop at.part (lower_from narrow at.index (drop at.index rs))

-- the frame gates among elementary gates
abbrev pub clifford_as : ℕ → ℕ → Elementary → List (Placed Gate) → List (Placed Gate)
clifford_as i j (clifford g) gs = placed i j g ∷ gs
clifford_as i j (el_t q) gs = gs
clifford_as i j (el_tdg q) gs = gs
clifford_as i j (el_ccx a b d) gs = gs
clifford_as i j (el_ccz a b d) gs = gs
clifford_as i j (el_measure q k) gs = gs

unfoldable pub cliffords : List (Placed Elementary) → List (Placed Gate)
cliffords [] = []
cliffords (e ∷ es) = clifford_as e.index e.part e.gate (cliffords es)
