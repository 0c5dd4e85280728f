-- Conversions and later calls, computed: which refusal comes first, what planes are left, which calls of a list are accepted. The theorems are not empty.
use mathlib.Core.Path.{◌≡◌, refl}
use mathlib.Core.List.{List, [], ◌∷◌, ◌++◌}
use Prim.Native.Nat.{ℕ, ◌+◌, ◌*◌}
use lib.ListN.{replicate}
use Rattle.pauli.specs.Angle.{angle_of}
use Rattle.pauli.specs.Letters.{power}
use Rattle.pauli.specs.Gates.{gate_h, gate_s, gate_cz}
use Rattle.pauli.specs.Table.{start, step}
use Rattle.arena.specs.Limits.{operation_words, hand_mark}
use Rattle.arena.specs.Errors.{◌⟫◌⇒◌}
use Rattle.arena.specs.References.{axis_of}
use Rattle.arena.specs.Nodes.{decode, node_at}
use Rattle.arena.specs.Sparse.{dense}
use Rattle.arena.specs.Walk.{walk}
use Rattle.arena.specs.Operations.{meas_id}
use Rattle.arena.specs.Store.{breaks_limit, exceeds_nodes, exceeds_operations, foreign, unknown, no_node_room, no_operation_room}
use Rattle.arena.specs.Builder.{single_check, single_step, product_check, product_step, rotate_check, rotate_step, measure_check, measure_step, conditional_check, conditional_step}
use Rattle.arena.specs.Readers.{expand_walk}
use Rattle.arena.specs.Expansion.{expand_check, expand_step}
use Rattle.convert.specs.Types.{X, Bit, NoTarget, PauliRef, TooManyQubits, BrokenGateList, UnsupportedGate, QubitOutOfRange, RepeatedOperand, ClassicalBitOutOfRange, CapTooSmall, NoPlanes, NoFrame, NoNodes, NoOperations, Fine, Wrong}
use Rattle.convert.specs.Records.{Cap, NoCap, AtMost, records, kind_of, lower_as, lower, lower_from, lower_all, parts_of, lower_in}
use Rattle.convert.specs.Plain.{plain_begin, flush_from, tested, exceeds, flushed, perform_as, plain_step, plain_run, rows_after, table_run}
use Rattle.convert.specs.Frame.{start_arena, pushed, multiplied, frame_step, qubits_of, operands_checked, frame_gates, frame_run, clifford_check, clifford_step}
use Rattle.convert.specs.Words.{start_words, flush_gate, flush_gates, flush_words, write_seven, write, word_step, word_run}
use Rattle.convert.specs.Planes.{mask, digits, row_words, rows_words, images, packed}
use Rattle.convert.specs.Conversion.{limits, Input, gates_in, plain_end, table_end, word_end, record_checked, records_checked, gates_check, convert_check, convert_within, convert_step, gates_checked, room_checked}
use Rattle.convert.specs.Later.{converted, LaterCall, call_frame, call_single, call_product, call_rotate, call_measure, call_conditional, call_expand, lend_operations, later, laters, gates_of, fed}
use Rattle.convert.specs.Circuits.{gate, reference}

-- n qubits, 2 classical bits, owner 7, room for so many nodes and operations
input : ℕ → Cap → ℕ → ℕ → List ℕ → Input
unfolding power flush_from start step ◌⟫◌⇒◌ decode node_at dense walk breaks_limit exceeds_nodes exceeds_operations foreign unknown no_node_room no_operation_room single_check single_step
    product_check product_step rotate_check rotate_step measure_check measure_step conditional_check conditional_step expand_walk expand_check expand_step records kind_of lower_as lower
    lower_from parts_of lower_in lower_all plain_begin tested exceeds flushed perform_as plain_step plain_run rows_after table_run start_arena pushed multiplied frame_step qubits_of operands_checked frame_gates
    frame_run clifford_check clifford_step start_words flush_gate flush_gates flush_words write_seven write word_step word_run mask digits row_words rows_words images packed gates_in plain_end
    table_end word_end record_checked records_checked gates_check gates_checked convert_check room_checked convert_within convert_step converted later laters gates_of fed
input n cap nodes ops gs = record {
  qubits = n;
  cbits = 2;
  owner = 7;
  cap = cap;
  gates = gs;
  nodes = replicate (2 * nodes) 9;
  operations = replicate (operation_words * ops) 9;
  frame = replicate 7 9;
  planes = replicate 12 9;
}

-- ---- the checks of a conversion

-- G: cnot 5 5 gives 7; cnot 1 1 gives 8; ccx 0 0 9 gives 8; measure 9 into 9 gives 7
g₁ : convert_check limits (input 2 NoCap 20 20 (gate 8 5 5 0)) ≡ Wrong (QubitOutOfRange 0 5)
unfolding input
g₁ = refl

g₂ : convert_check limits (input 2 NoCap 20 20 (gate 8 1 1 0)) ≡ Wrong (RepeatedOperand 0 1)
unfolding input
g₂ = refl

g₃ : convert_check limits (input 2 NoCap 20 20 (gate 10 0 0 9)) ≡ Wrong (RepeatedOperand 0 0)
unfolding input
g₃ = refl

g₄ : convert_check limits (input 2 NoCap 20 20 (gate 0 1 0 0 ++ gate 12 9 9 0)) ≡ Wrong (QubitOutOfRange 1 9)
unfolding input
g₄ = refl

bit-2 : convert_check limits (input 2 NoCap 20 20 (gate 12 1 1 0 ++ gate 12 1 2 0)) ≡ Wrong (ClassicalBitOutOfRange 1 2)
unfolding input
bit-2 = refl

-- the first faulty gate decides, also before the cap
first_faulty : convert_check limits (input 2 (AtMost 0) 20 20 (gate 7 0 0 0 ++ gate 0 9 0 0)) ≡ Wrong (UnsupportedGate 0 7)
unfolding input
first_faulty = refl

five_words : convert_check limits (input 2 NoCap 20 20 (9 ∷ gate 0 0 0 0)) ≡ Wrong BrokenGateList
unfolding input
five_words = refl

-- J: n = 3; ccz 0 1 2 at cap 2: two flushes come inside the record, 23 nodes and 19 operations; at cap 3 it is whole (12 plane words serve n = 3)
j₂ : convert_check limits (input 3 (AtMost 2) 23 19 (gate 11 0 1 2)) ≡ Fine
unfolding input
j₂ = refl

j₂_nodes : convert_check limits (input 3 (AtMost 2) 22 19 (gate 11 0 1 2)) ≡ Wrong NoNodes
unfolding input
j₂_nodes = refl

j₂_operations : convert_check limits (input 3 (AtMost 2) 23 18 (gate 11 0 1 2)) ≡ Wrong NoOperations
unfolding input
j₂_operations = refl

-- ccx 0 1 2 at cap 1 writes 25 operations
ccx₁ : convert_check limits (input 3 (AtMost 1) 40 25 (gate 10 0 1 2)) ≡ Fine
unfolding input
ccx₁ = refl

ccx₁_operations : convert_check limits (input 3 (AtMost 1) 40 24 (gate 10 0 1 2)) ≡ Wrong NoOperations
unfolding input
ccx₁_operations = refl

-- cap 0 is too small for every circuit
j₀ : convert_check limits (input 3 (AtMost 0) 20 20 (gate 11 0 1 2)) ≡ Wrong CapTooSmall
unfolding input
j₀ = refl

j₃ : convert_check limits (input 3 (AtMost 3) 20 20 (gate 11 0 1 2)) ≡ Fine
unfolding input
j₃ = refl

four_qubits : convert_check limits (input 4 (AtMost 3) 20 20 []) ≡ Wrong NoPlanes
unfolding input
four_qubits = refl

no_frame : convert_check limits (input 4 NoCap 20 20 []) ≡ Wrong NoFrame
unfolding input
no_frame = refl

-- E needs 8 nodes and 4 operations
e_8 : convert_check limits (input 2 (AtMost 1) 8 4 (gate 8 0 1 0 ++ gate 5 1 0 0)) ≡ Fine
unfolding input
e_8 = refl

e_7 : convert_check limits (input 2 (AtMost 1) 7 4 (gate 8 0 1 0 ++ gate 5 1 0 0)) ≡ Wrong NoNodes
unfolding input
e_7 = refl

e_3 : convert_check limits (input 2 (AtMost 1) 8 3 (gate 8 0 1 0 ++ gate 5 1 0 0)) ≡ Wrong NoOperations
unfolding input
e_3 = refl

-- ---- planes: x₀, z₀, x₁, z₁, an x part and a z part each; after cnot 0 1 they are X₀ X₁, Z₀, X₁, Z₀ Z₁

d_planes : (convert_step (input 2 (AtMost 2) 20 20 (gate 8 0 1 0))).planes ≡ 3 ∷ 0 ∷ 0 ∷ 1 ∷ 2 ∷ 0 ∷ 0 ∷ 3 ∷ 9 ∷ 9 ∷ 9 ∷ 9 ∷ []
unfolding input
d_planes = refl

-- after refusal 14 as well; after 11, and without a cap, they are left alone
d_planes-14 : (convert_step (input 2 (AtMost 2) 2 20 (gate 8 0 1 0))).planes ≡ 3 ∷ 0 ∷ 0 ∷ 1 ∷ 2 ∷ 0 ∷ 0 ∷ 3 ∷ 9 ∷ 9 ∷ 9 ∷ 9 ∷ []
unfolding input
d_planes-14 = refl

d_planes-11 : (convert_step (input 2 (AtMost 0) 20 20 (gate 8 0 1 0))).planes ≡ replicate 12 9
unfolding input
d_planes-11 = refl

d_planes_none : (convert_step (input 2 NoCap 20 20 (gate 8 0 1 0))).planes ≡ replicate 12 9
unfolding input
d_planes_none = refl

-- after a flush the table has started again
e_planes : (convert_step (input 2 (AtMost 1) 20 20 (gate 8 0 1 0 ++ gate 5 1 0 0))).planes ≡ 1 ∷ 0 ∷ 0 ∷ 1 ∷ 2 ∷ 0 ∷ 0 ∷ 2 ∷ 9 ∷ 9 ∷ 9 ∷ 9 ∷ []
unfolding input
e_planes = refl

-- ---- n = 2; h 0, measure 0 into 1; then calls, some refused; 8 nodes are lent

foreigner : PauliRef
foreigner = record { owner = 8; word = 4 }

calls : List LaterCall
unfolding foreigner
calls =
    call_frame 3 0 0  -- s 0: a node
    ∷ call_frame 8 0 0  -- cnot 0 0: 8
    ∷ call_frame 5 0 0  -- t: 6
    ∷ call_frame 9 0 1  -- cz 0 1: two nodes
    ∷ call_single 2 X  -- 7
    ∷ call_frame 4 1 0  -- sdg 1: no node is left: 14
    ∷ call_frame 0 1 0  -- h 1 needs none
    ∷ call_product (reference 4) foreigner  -- 4
    ∷ call_rotate (axis_of (reference 13)) (angle_of 3)
    ∷ lend_operations (9 ∷ [])
    ∷ call_rotate (axis_of (reference 13)) (angle_of 3)  -- 3
    ∷ lend_operations (replicate 20 0)
    ∷ call_measure (axis_of (reference 8)) (Bit 2)  -- 9
    ∷ call_measure (axis_of (reference 8)) NoTarget
    ∷ call_conditional (axis_of (reference 8)) (angle_of 5) (meas_id 7 1)
    ∷ call_conditional (axis_of (reference 8)) (angle_of 5) (meas_id 7 2)  -- 10
    ∷ call_expand (replicate 2 0) (replicate 32 0) (replicate 30 0) (reference 24) 20
    ∷ []

measured : Input
unfolding input
measured = input 2 NoCap 8 20 (gate 0 0 0 0 ++ gate 12 0 1 0)

fed-gates : fed calls (converted measured) ≡ gate_s 0 ∷ gate_cz 0 1 ∷ gate_h 1 ∷ []
unfolding measured calls
fed-gates = refl

after : laters calls (converted measured)
    ≡ record {
      header = record { qubits = 2; cbits = 2; owner = 7; nodes = 8; operations = 4; measurements = 2 };
      nodes = 0 ∷ 0 ∷ 5 ∷ 0 ∷ 13 ∷ 0 ∷ 5 ∷ 1 ∷ 13 ∷ 1 ∷ 34 ∷ 4 ∷ 94 ∷ 16 ∷ 18 ∷ 12 ∷ [];
      operations = 0 ∷ 0 ∷ 0 ∷ 0 ∷ 0 ∷ 0 ∷ 0 ∷ 0 ∷ 0 ∷ 0 ∷ 1 ∷ 8 ∷ 1 ∷ 0 ∷ hand_mark ∷ 22 ∷ 8 ∷ 1 ∷ 0 ∷ hand_mark ∷ [];
      frame = 24 ∷ 16 ∷ 4 ∷ 28 ∷ 9 ∷ 9 ∷ 9 ∷ [];
    }
unfolding measured calls
after = refl

-- ---- B: 256 qubits pass; 257 give 1. K: n = 65 with a cap: 520 plane words pass, 519 give 12

large : ℕ → Cap → ℕ → Input
unfolding input
large n cap planes = record {
  qubits = n;
  cbits = 0;
  owner = 0;
  cap = cap;
  gates = [];
  nodes = replicate (2 * (1 + 2 * n)) 0;
  operations = [];
  frame = replicate (2 * n) 0;
  planes = replicate planes 0;
}

b-256 : convert_check limits (large 256 NoCap 0) ≡ Fine
unfolding large
b-256 = refl

b-257 : convert_check limits (large 257 NoCap 0) ≡ Wrong TooManyQubits
unfolding large
b-257 = refl

k-520 : convert_check limits (large 65 (AtMost 1) 520) ≡ Fine
unfolding large
k-520 = refl

k-519 : convert_check limits (large 65 (AtMost 1) 519) ≡ Wrong NoPlanes
unfolding large
k-519 = refl
