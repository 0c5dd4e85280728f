-- The conversion in words: nodes, frame words, operation words. Order and node numbers are the Rust's.
use Rattle.std.specs.Prelude.{Bool, true, false, cond, List, [], ◌∷◌, ◌++◌, map, ℕ, zero, suc, ◌+◌, ◌*◌, get_or}
use Rattle.pauli.specs.Gates.{Gate, gate_h, gate_x, gate_z, gate_s, gate_sdg, gate_cnot, gate_cz}
use Rattle.pauli.specs.Doubly.{seven_rows}
use Rattle.pauli.specs.Angle.{eighths_of}
use Rattle.arena.specs.Nodes.{image}
use Rattle.arena.specs.Operations.{rotate_words, measure_words, decode_op}
use Rattle.arena.specs.Builder.{start_frame}
use Rattle.arena.specs.Expansion.{op_at, gate_word}
use Rattle.convert.specs.Types.{Header, Bit, PbcOp, Rotate, Measure, ConditionalRotate, Malformed}
use Rattle.convert.specs.Records.{Cap, Elementary, clifford, el_t, el_tdg, el_ccx, el_ccz, el_measure, Placed, From, from, map_from}
use Rattle.convert.specs.Plain.{Operation, rotate_by, measure_of, conditional_by, malformed, Plain, exceeds, flush_from, plain_step}
use Rattle.convert.specs.Frame.{Arena, start_arena, word, pushed, frame_step}

-- nodes and frame, and the words of each operation
pub record Words : Type 0 where
  pub arena : Arena
  pub ops : List (List ℕ)

unfoldable pub start_words : ℕ → Words
start_words n = record { arena = start_arena n; ops = [] }

-- the words of all operations, one after the other
abbrev pub flat : List (List ℕ) → List ℕ
flat [] = []
flat (o ∷ os) = o ++ flat os

-- ---- writing, for record i

abbrev pub add_ops : List (List ℕ) → Words → Words
add_ops os w = record { arena = w.arena; ops = w.ops ++ os }

-- the words of the nodes X and Z of qubit q
abbrev pub id_x : ℕ → ℕ
id_x q = 4 * (1 + 2 * q)

abbrev pub id_z : ℕ → ℕ
id_z q = 4 * (2 + 2 * q)

-- cnot and cz in a flush: the product of two words is pushed first, then they are turned about by 2, 2 and their product by -2
abbrev pub write_joint : ℕ → ℕ → ℕ → Words → Words
write_joint i l r w = record {
  arena = pushed l r w.arena;
  ops = w.ops ++ rotate_words l 2 i ∷ rotate_words r 2 i ∷ rotate_words (4 * w.arena.count) 6 i ∷ [];
}

-- what a flush writes for a gate
unfoldable pub flush_gate : ℕ → Gate → Words → Words
flush_gate i (gate_h q) w = add_ops (rotate_words (id_z q) 2 i ∷ rotate_words (id_x q) 2 i ∷ rotate_words (id_z q) 2 i ∷ []) w
flush_gate i (gate_x q) w = add_ops (rotate_words (id_x q) 4 i ∷ []) w
flush_gate i (gate_z q) w = add_ops (rotate_words (id_z q) 4 i ∷ []) w
flush_gate i (gate_s q) w = add_ops (rotate_words (id_z q) 2 i ∷ []) w
flush_gate i (gate_sdg q) w = add_ops (rotate_words (id_z q) 6 i ∷ []) w
flush_gate i (gate_cnot c t) w = write_joint i (id_z c) (id_x t) w
flush_gate i (gate_cz c t) w = write_joint i (id_z c) (id_z t) w

unfoldable pub flush_gates : List (Placed Gate) → Words → Words
flush_gates [] w = w
flush_gates (g ∷ gs) w = flush_gates gs (flush_gate g.index g.gate w)

-- the frame words are again those of the start
abbrev pub restarted : ℕ → Words → Words
restarted n w = record { arena = record { count = w.arena.count; nodes = w.arena.nodes; frame = start_frame n }; ops = w.ops }

unfoldable pub flush_words : ℕ → List (Placed Gate) → Words → Words
flush_words n gs w = restarted n (flush_gates gs w)

-- ccx and ccz, by the words of a, b and d: ab, ad, bd, then (ab)d are pushed
abbrev pub four_pushed : ℕ → ℕ → ℕ → Arena → Arena
four_pushed a b d s = pushed (4 * s.count) d (pushed b d (pushed a d (pushed a b s)))

-- the word of the product of those of a, b and d that are marked, where k is the node ab
abbrev pub word_as : Bool → Bool → Bool → ℕ → ℕ → ℕ → ℕ → ℕ
word_as true false false a b d k = a
word_as false true false a b d k = b
word_as false false true a b d k = d
word_as true true false a b d k = 4 * k
word_as true false true a b d k = 4 * suc k
word_as false true true a b d k = 4 * suc (suc k)
word_as true true true a b d k = 4 * suc (suc (suc k))
word_as false false false a b d k = 0

-- the rotations by the seven rows
abbrev pub seven_ops : ℕ → ℕ → ℕ → ℕ → ℕ → List (List ℕ)
seven_ops i a b d k = map (λ t. rotate_words (word_as t.a t.b t.d a b d k) t.angle i) seven_rows

unfoldable pub write_seven : ℕ → ℕ → ℕ → ℕ → Words → Words
write_seven i a b d w = record { arena = four_pushed a b d w.arena; ops = w.ops ++ seven_ops i a b d w.arena.count }

-- an elementary gate, after so many measurements
unfoldable pub write : ℕ → ℕ → ℕ → Elementary → Words → Words
write n given i (clifford g) w = record { arena = frame_step n g w.arena; ops = w.ops }
write n given i (el_t q) w = add_ops (rotate_words (word w.arena (n + q)) 1 i ∷ []) w
write n given i (el_tdg q) w = add_ops (rotate_words (word w.arena (n + q)) 7 i ∷ []) w
write n given i (el_ccx a b d) w = write_seven i (word w.arena (n + a)) (word w.arena (n + b)) (word w.arena d) w
write n given i (el_ccz a b d) w = write_seven i (word w.arena (n + a)) (word w.arena (n + b)) (word w.arena (n + d)) w
write n given i (el_measure q k) w = add_ops (measure_words (word w.arena (n + q)) given (Bit k) i ∷ []) w

-- ---- the conversion: the plain state goes beside the words and decides the flush

unfoldable pub word_step : ℕ → Cap → Placed Elementary → Plain → Words → Words
word_step n cap e p w = write n p.given e.index e.gate (cond (exceeds n cap p.table e.gate) (flush_words n p.pending w) w)

unfoldable pub word_run : ℕ → Cap → List (Placed Elementary) → Plain → Words → Words
word_run n cap [] p w = w
word_run n cap (e ∷ es) p w = word_run n cap es (plain_step flush_from n cap e p) (word_step n cap e p w)

-- ---- reading operations through nodes

-- what an operation stands for, of n qubits and k used nodes in the words
unfoldable pub meaning : ℕ → ℕ → List ℕ → PbcOp → Operation
meaning n k nodes (Rotate axis angle) = rotate_by (eighths_of angle) (image n k nodes axis.0.word)
meaning n k nodes (Measure axis outcome target) = measure_of (image n k nodes axis.0.word) outcome.1 target
meaning n k nodes (ConditionalRotate axis angle outcome) = conditional_by (eighths_of angle) (image n k nodes axis.0.word) outcome.1
meaning n k nodes Malformed = malformed

-- the operation of five words, and the record that its last word names
abbrev pub decoded : ℕ → ℕ → List ℕ → From PbcOp
decoded owner cbits ws = from (get_or ws 4 0) (decode_op owner cbits (get_or ws 0 0) (get_or ws 1 0) (get_or ws 2 0) (get_or ws 3 0))

-- operation i of a circuit
abbrev pub op_from : Header → List ℕ → ℕ → From PbcOp
op_from h ops i = from (gate_word ops i) (op_at h ops i)

-- so many operations from i on
abbrev pub ops_from : {A : Type 0} → (ℕ → A) → ℕ → ℕ → List A
ops_from op i zero = []
ops_from op i (suc k) = op i ∷ ops_from op (suc i) k

-- the used operations of a circuit, read from its words
unfoldable pub operations_in : Header → (nodes operations : List ℕ) → List (From Operation)
operations_in h nodes ops = map (map_from (meaning h.qubits h.nodes nodes)) (ops_from (op_from h ops) 0 h.operations)
