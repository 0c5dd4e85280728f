-- The frame in words (document 01, "Frame"), and what push_output_clifford answers and leaves: for acceptance and every refusal.
use Rattle.std.specs.Prelude.{Bool, false, ◌||◌, List, [], ◌∷◌, ◌++◌, ℕ, suc, ◌+◌, ◌*◌, leb, ltb, eqb, length, get_or, set, take, Result}
use Rattle.pauli.specs.Letters.{phase_number}
use Rattle.pauli.specs.Gates.{Gate, gate_h, gate_x, gate_z, gate_s, gate_sdg, gate_cnot, gate_cz}
use Rattle.arena.specs.Limits.{node_words}
use Rattle.arena.specs.Errors.{◌⟫◌⇒◌}
use Rattle.arena.specs.References.{node_in, scaled_word}
use Rattle.arena.specs.Nodes.{product_word}
use Rattle.arena.specs.Store.{breaks_limit, exceeds_nodes, no_node_room}
use Rattle.arena.specs.Builder.{Step, decided, NodesAndFrame, overlay, with_nodes, start_nodes, start_frame}
use Rattle.convert.specs.Types.{PbcError, Phase, One, PlusI, MinusOne, MinusI, Header, BadStore, NonCliffordFrameGate, QubitOutOfRange, RepeatedOperand, NoFrame, NoNodes, Checked, Fine}
use Rattle.convert.specs.Records.{GateKind, Shape, NoShape, OneQubit, TwoQubits, ThreeQubits, Measured, shape_of, kind_of, Elementary, clifford, el_t, el_tdg, el_ccx, el_ccz, el_measure, lower_as}
pub use Rattle.std.specs.Prelude.{Ok as FramePushedMade, Err as FramePushedRefused}

abbrev pub FramePushed : Type 0
FramePushed = Result Header PbcError

-- ---- a gate's work on used nodes and frame words

-- the number of used nodes, their words, and the 2n frame words
pub record Arena : Type 0 where
  pub count : ℕ
  pub nodes : List ℕ
  pub frame : List ℕ

-- a fresh circuit
unfoldable pub start_arena : ℕ → Arena
start_arena n = record { count = 1 + 2 * n; nodes = start_nodes n; frame = start_frame n }

-- the word at a place of the frame
abbrev pub word : Arena → ℕ → ℕ
word s i = get_or s.frame i 0

-- one more product
unfoldable pub pushed : ℕ → ℕ → Arena → Arena
pushed l r s = record { count = suc s.count; nodes = s.nodes ++ product_word l ∷ r ∷ []; frame = s.frame }

abbrev pub stored : ℕ → ℕ → Arena → Arena
stored i w s = record { count = s.count; nodes = s.nodes; frame = set s.frame i w }

-- the product of the words at l and r, with a phase, is stored at i
unfoldable pub multiplied : ℕ → ℕ → ℕ → Phase → Arena → Arena
multiplied i l r p s = stored i (4 * s.count + phase_number p) (pushed (word s l) (word s r) s)

-- h exchanges x and z; x negates z; z negates x; s, sdg: x becomes -i, +i times product(x, z);
-- cnot: x_c becomes product(x_c, x_t), then z_t product(z_c, z_t); cz: x_c becomes product(x_c, z_t), then x_t product(z_c, x_t)
unfoldable pub frame_step : ℕ → Gate → Arena → Arena
frame_step n (gate_h q) s = stored (n + q) (word s q) (stored q (word s (n + q)) s)
frame_step n (gate_x q) s = stored (n + q) (scaled_word MinusOne (word s (n + q))) s
frame_step n (gate_z q) s = stored q (scaled_word MinusOne (word s q)) s
frame_step n (gate_s q) s = multiplied q q (n + q) MinusI s
frame_step n (gate_sdg q) s = multiplied q q (n + q) PlusI s
frame_step n (gate_cnot c t) s = multiplied (n + t) (n + c) (n + t) One (multiplied c c t One s)
frame_step n (gate_cz c t) s = multiplied t (n + c) t One (multiplied c c (n + t) One s)

-- the nodes that a gate pushes
abbrev pub gate_nodes : Gate → ℕ
gate_nodes (gate_h q) = 0
gate_nodes (gate_x q) = 0
gate_nodes (gate_z q) = 0
gate_nodes (gate_s q) = 1
gate_nodes (gate_sdg q) = 1
gate_nodes (gate_cnot c t) = 2
gate_nodes (gate_cz c t) = 2

-- ---- operands: 7, then 8, operand by operand

-- the qubits of a shape, in declared order
abbrev pub qubits_by : Shape → ℕ → ℕ → ℕ → List ℕ
qubits_by NoShape a b c = []
qubits_by OneQubit a b c = a ∷ []
qubits_by TwoQubits a b c = a ∷ b ∷ []
qubits_by ThreeQubits a b c = a ∷ b ∷ c ∷ []
qubits_by Measured a b c = a ∷ []

unfoldable pub qubits_of : GateKind → ℕ → ℕ → ℕ → List ℕ
qubits_of k a b c = qubits_by (shape_of k) a b c

abbrev pub member : ℕ → List ℕ → Bool
member q [] = false
member q (r ∷ rs) = eqb q r || member q rs

-- the checks so far, then those of the operands of gate i after the operands seen
unfoldable pub operands_checked : Checked → ℕ → ℕ → List ℕ → List ℕ → Checked
operands_checked k n i seen [] = k
operands_checked k n i seen (q ∷ qs) =
    operands_checked (k ⟫ leb n q ⇒ QubitOutOfRange i q ⟫ member q seen ⇒ RepeatedOperand i q) n i (q ∷ seen) qs

-- ---- push_output_clifford: 3, 6, 7, 8, 13, 14

-- the frame gates among elementary gates
abbrev pub cliffords_of : List Elementary → List Gate
cliffords_of [] = []
cliffords_of (clifford g ∷ es) = g ∷ cliffords_of es
cliffords_of (el_t q ∷ es) = cliffords_of es
cliffords_of (el_tdg q ∷ es) = cliffords_of es
cliffords_of (el_ccx a b d ∷ es) = cliffords_of es
cliffords_of (el_ccz a b d ∷ es) = cliffords_of es
cliffords_of (el_measure q k ∷ es) = cliffords_of es

-- a list of one; a longer one counts as none
abbrev pub alone : List Gate → List Gate
alone [] = []
alone (g ∷ []) = g ∷ []
alone (g ∷ h ∷ gs) = []

-- the frame gate of a kind that is lowered to one, as a list; the other kinds have none
unfoldable pub frame_gates : GateKind → ℕ → ℕ → List Gate
frame_gates kind a b = alone (cliffords_of (lower_as kind a b 0))

abbrev pub total : (Gate → ℕ) → List Gate → ℕ
total f [] = 0
total f (g ∷ gs) = f g + total f gs

unfoldable pub frame_run : ℕ → List Gate → Arena → Arena
frame_run n [] s = s
frame_run n (g ∷ gs) s = frame_run n gs (frame_step n g s)

-- a word names a node that is not among the k used ones
abbrev pub names_unused : ℕ → List ℕ → Bool
names_unused k [] = false
names_unused k (w ∷ ws) = leb k (node_in w) || names_unused k ws

-- of the frame, the first 2n words that are lent are tested
unfoldable pub clifford_check : Header → (nodes : ℕ) → (frame : List ℕ) → (kind a b : ℕ) → Checked
clifford_check h nodes frame kind a b =
    operands_checked
    (Fine
    ⟫ breaks_limit h || exceeds_nodes h nodes || names_unused h.nodes (take (2 * h.qubits) frame) ⇒ BadStore
    ⟫ eqb (length (frame_gates (kind_of kind) a b)) 0 ⇒ NonCliffordFrameGate kind)
    h.qubits 0 [] (qubits_of (kind_of kind) a b 0)
    ⟫ ltb (length frame) (2 * h.qubits) ⇒ NoFrame
    ⟫ no_node_room h nodes (total gate_nodes (frame_gates (kind_of kind) a b)) ⇒ NoNodes

-- the used nodes and the 2n frame words
abbrev pub opened : Header → (nodes frame : List ℕ) → Arena
opened h nodes frame = record { count = h.nodes; nodes = take (node_words * h.nodes) nodes; frame = take (2 * h.qubits) frame }

-- the header and the words after a gate's work, over what was lent
abbrev pub closed : Arena → Header → (nodes frame : List ℕ) → Step FramePushed NodesAndFrame
closed s h nodes frame = record {
  answer = FramePushedMade (with_nodes s.count h);
  words = record { nodes = overlay s.nodes nodes; frame = overlay s.frame frame };
}

unfoldable pub clifford_step : Header → (nodes frame : List ℕ) → (kind a b : ℕ) → Step FramePushed NodesAndFrame
clifford_step h nodes frame kind a b =
    decided (clifford_check h (length nodes) frame kind a b) FramePushedRefused
    (record { nodes = nodes; frame = frame })
    (closed (frame_run h.qubits (frame_gates (kind_of kind) a b) (opened h nodes frame)) h nodes frame)
