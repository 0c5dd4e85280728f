-- Each function for C, computed: called once where it accepts and once where it refuses, with the number that it returns and every word that it leaves.
use mathlib.Core.Path.{◌≡◌, refl}
use mathlib.Core.List.{List, [], ◌∷◌, ◌++◌, map}
use Prim.Native.Nat.{ℕ}
use lib.IntN.{pos, negsuc}
use lib.ListN.{replicate}
use Rattle.pauli.specs.Angle.{remainder8}
use Rattle.pauli.specs.Letters.{power}
use Rattle.pauli.specs.Table.{start, step}
use Rattle.arena.specs.Errors.{◌⟫◌⇒◌}
use Rattle.arena.specs.Nodes.{decode, node_at, values, image, factors_commute}
use Rattle.arena.specs.Sparse.{dense}
use Rattle.arena.specs.Operations.{source_of, decode_op, axis_kind}
use Rattle.arena.specs.Store.{breaks_limit, exceeds_nodes, exceeds_operations, foreign, unknown, no_node_room, no_operation_room}
use Rattle.arena.specs.Builder.{new_check, new_step, single_check, single_step, product_check, product_step, rotate_check, rotate_step, measure_check, measure_step, conditional_check, conditional_step}
use Rattle.arena.specs.Walk.{walk}
use Rattle.arena.specs.Readers.{expand_walk, hermitian_walk, report_walk, axes_walk}
use Rattle.arena.specs.Expansion.{op_at, expand_check, expand_step, hermitian_check, hermitian_step, report_check, report_step, axes_check, axes_step}
use Rattle.convert.specs.Records.{records, kind_of, lower_as, lower, lower_from, lower_all, parts_of, lower_in}
use Rattle.convert.specs.Plain.{plain_begin, tested, exceeds, flush_from, flushed, perform_as, plain_step, plain_run, rows_after, table_run}
use Rattle.convert.specs.Frame.{start_arena, pushed, multiplied, frame_step, qubits_of, operands_checked, frame_gates, frame_run, clifford_check, clifford_step}
use Rattle.convert.specs.Words.{start_words, flush_gate, flush_gates, flush_words, write_seven, write, word_step, word_run}
use Rattle.convert.specs.Planes.{mask, digits, row_words, rows_words, images, packed}
use Rattle.convert.specs.Conversion.{gates_in, plain_end, table_end, word_end, record_checked, records_checked, gates_check, gates_checked, room_checked, convert_check, convert_within, convert_step}
use Rattle.qasm.specs.Reading.{and_then, blank, take_sign, take_word, take_number, take_this, take_index, take_bit, take_register, take_version, take_include}
use Rattle.qasm.specs.Reading.{take_end, take_one, take_two, take_three, take_measure, gate_by, take_gate, from_gates, from_creg, from_qreg, from_include, reading}
use Rattle.qasm.specs.Answers.{answer_of, left_in}
use Rattle.qasm.specs.Position.{position_in}
use Rattle.exports.specs.Words.{field_in, header_in, letter_in, angle_in, target_in, too_short, number_in, header_left, answer_left, returned}
use Rattle.exports.specs.Exports.{header_reply, singled_reply, multiplied_reply, measured_reply, headed, lent_words}
use Rattle.exports.specs.Exports.{new_call, single_call, product_call, rotate_call, measure_call, conditional_call, times_number}
use Rattle.exports.specs.Readers.{expanded_reply, hermitian_reply, weights_reply, axes_reply, expand_words, walk_words, axes_words, expand_call, hermitian_call, weights_call, expand_axes_call}
use Rattle.exports.specs.Conversion.{cap_in, clifford_call, convert_words, convert_call}
use Rattle.exports.specs.Texts.{program_reply, read_qasm_call, position_reply, text_position_call}

-- a header of two qubits, three classical bits, owner 7, six nodes, two operations and one measurement, and a word more; five words for the answer
header : List ℕ
unfolding power flush_from start step ◌⟫◌⇒◌ decode node_at values image factors_commute dense source_of decode_op axis_kind breaks_limit exceeds_nodes exceeds_operations foreign unknown no_node_room no_operation_room new_check new_step single_check
    single_step product_check product_step rotate_check rotate_step measure_check measure_step conditional_check conditional_step walk expand_walk hermitian_walk report_walk op_at expand_check
    expand_step hermitian_check hermitian_step report_check report_step records kind_of lower_as lower lower_from parts_of lower_in lower_all plain_begin tested exceeds flushed perform_as plain_step plain_run
    rows_after table_run start_arena pushed multiplied frame_step qubits_of operands_checked frame_gates frame_run clifford_check clifford_step start_words flush_gate flush_gates flush_words
    write_seven write word_step word_run mask digits row_words rows_words images packed gates_in plain_end table_end word_end record_checked records_checked gates_check gates_checked room_checked
    convert_check convert_within convert_step field_in header_in letter_in angle_in target_in too_short number_in header_left answer_left header_reply singled_reply multiplied_reply
    measured_reply new_call single_call product_call rotate_call measure_call conditional_call times_number expanded_reply hermitian_reply weights_reply expand_call hermitian_call weights_call
    axes_walk axes_check axes_step axes_reply expand_axes_call cap_in clifford_call convert_call
header = 2 ∷ 3 ∷ 7 ∷ 6 ∷ 2 ∷ 1 ∷ 9 ∷ []

abbrev answer : List ℕ
answer = 9 ∷ 9 ∷ 9 ∷ 9 ∷ 9 ∷ []

-- the identity, X₀, Z₀, X₁, Z₁, X₀ Z₁, and room for one more
abbrev nodes : List ℕ
nodes = 0 ∷ 0 ∷ 5 ∷ 0 ∷ 13 ∷ 0 ∷ 5 ∷ 1 ∷ 13 ∷ 1 ∷ 18 ∷ 16 ∷ 9 ∷ 9 ∷ []

-- Z₀ measured into bit 2, by hand; a rotation by 2 along X₀ Z₁, of gate record 65,535; and room for one more
abbrev operations : List ℕ
operations = 1 ∷ 8 ∷ 0 ∷ 3 ∷ 4294967295 ∷ 8 ∷ 20 ∷ 0 ∷ 0 ∷ 65535 ∷ 9 ∷ 9 ∷ 9 ∷ 9 ∷ 9 ∷ []

-- ---- pbc_new

new_accepted : new_call 2 3 7 (replicate 11 9) (replicate 5 9) header answer
    ≡ returned 0 (0 ∷ 0 ∷ 0 ∷ 0 ∷ 9 ∷ [])
    (headed (2 ∷ 3 ∷ 7 ∷ 5 ∷ 0 ∷ 0 ∷ 9 ∷ []) (lent_words (0 ∷ 0 ∷ 5 ∷ 0 ∷ 13 ∷ 0 ∷ 5 ∷ 1 ∷ 13 ∷ 1 ∷ 9 ∷ []) (4 ∷ 12 ∷ 8 ∷ 16 ∷ 9 ∷ [])))
unfolding header
new_accepted = refl

-- one node word too few: 14
new_refused : new_call 2 3 7 (replicate 9 9) (replicate 5 9) header answer
    ≡ returned 14 (0 ∷ 0 ∷ 0 ∷ 0 ∷ 9 ∷ [])
    (headed (2 ∷ 3 ∷ 7 ∷ 6 ∷ 2 ∷ 1 ∷ 9 ∷ []) (lent_words (9 ∷ 9 ∷ 9 ∷ 9 ∷ 9 ∷ 9 ∷ 9 ∷ 9 ∷ 9 ∷ []) (9 ∷ 9 ∷ 9 ∷ 9 ∷ 9 ∷ [])))
unfolding header
new_refused = refl

-- ---- pbc_single: letter 7 counts as 3, Z

single_accepted : single_call header nodes 1 7 answer
    ≡ returned 0 (24 ∷ 0 ∷ 0 ∷ 0 ∷ 9 ∷ []) (headed (2 ∷ 3 ∷ 7 ∷ 7 ∷ 2 ∷ 1 ∷ 9 ∷ []) (0 ∷ 0 ∷ 5 ∷ 0 ∷ 13 ∷ 0 ∷ 5 ∷ 1 ∷ 13 ∷ 1 ∷ 18 ∷ 16 ∷ 13 ∷ 1 ∷ []))
unfolding header
single_accepted = refl

-- qubit 2: 7, and the index of no gate before the operand
single_refused : single_call header nodes 2 3 answer
    ≡ returned 7 (0 ∷ 2 ∷ 0 ∷ 0 ∷ 9 ∷ []) (headed (2 ∷ 3 ∷ 7 ∷ 6 ∷ 2 ∷ 1 ∷ 9 ∷ []) (0 ∷ 0 ∷ 5 ∷ 0 ∷ 13 ∷ 0 ∷ 5 ∷ 1 ∷ 13 ∷ 1 ∷ 18 ∷ 16 ∷ 9 ∷ 9 ∷ []))
unfolding header
single_refused = refl

-- ---- pbc_product: -X₀ times i Z₁

product_accepted : product_call header nodes 7 6 7 17 answer
    ≡ returned 0 (24 ∷ 0 ∷ 0 ∷ 0 ∷ 9 ∷ []) (headed (2 ∷ 3 ∷ 7 ∷ 7 ∷ 2 ∷ 1 ∷ 9 ∷ []) (0 ∷ 0 ∷ 5 ∷ 0 ∷ 13 ∷ 0 ∷ 5 ∷ 1 ∷ 13 ∷ 1 ∷ 18 ∷ 16 ∷ 26 ∷ 17 ∷ []))
unfolding header
product_accepted = refl

-- another owner: 4
product_refused : product_call header nodes 7 6 8 17 answer
    ≡ returned 4 (0 ∷ 0 ∷ 0 ∷ 0 ∷ 9 ∷ []) (headed (2 ∷ 3 ∷ 7 ∷ 6 ∷ 2 ∷ 1 ∷ 9 ∷ []) (0 ∷ 0 ∷ 5 ∷ 0 ∷ 13 ∷ 0 ∷ 5 ∷ 1 ∷ 13 ∷ 1 ∷ 18 ∷ 16 ∷ 9 ∷ 9 ∷ []))
unfolding header
product_refused = refl

-- ---- pbc_rotate: by -1, which is 7

rotate_accepted : rotate_call header operations 7 20 (negsuc 0) answer
    ≡ returned 0 (0 ∷ 0 ∷ 0 ∷ 0 ∷ 9 ∷ []) (headed (2 ∷ 3 ∷ 7 ∷ 6 ∷ 3 ∷ 1 ∷ 9 ∷ []) (1 ∷ 8 ∷ 0 ∷ 3 ∷ 4294967295 ∷ 8 ∷ 20 ∷ 0 ∷ 0 ∷ 65535 ∷ 28 ∷ 20 ∷ 0 ∷ 0 ∷ 4294967295 ∷ []))
unfolding header
rotate_accepted = refl

-- one word too few: 15
rotate_refused : rotate_call header (1 ∷ 8 ∷ 0 ∷ 3 ∷ 4294967295 ∷ 8 ∷ 20 ∷ 0 ∷ 0 ∷ 65535 ∷ 9 ∷ 9 ∷ 9 ∷ 9 ∷ []) 7 20 (negsuc 0) answer
    ≡ returned 15 (0 ∷ 0 ∷ 0 ∷ 0 ∷ 9 ∷ []) (headed (2 ∷ 3 ∷ 7 ∷ 6 ∷ 2 ∷ 1 ∷ 9 ∷ []) (1 ∷ 8 ∷ 0 ∷ 3 ∷ 4294967295 ∷ 8 ∷ 20 ∷ 0 ∷ 0 ∷ 65535 ∷ 9 ∷ 9 ∷ 9 ∷ 9 ∷ []))
unfolding header
rotate_refused = refl

-- ---- pbc_measure: into bit 2; the measurement's number is the value

measure_accepted : measure_call header operations 7 18 3 answer
    ≡ returned 0 (1 ∷ 0 ∷ 0 ∷ 0 ∷ 9 ∷ []) (headed (2 ∷ 3 ∷ 7 ∷ 6 ∷ 3 ∷ 2 ∷ 9 ∷ []) (1 ∷ 8 ∷ 0 ∷ 3 ∷ 4294967295 ∷ 8 ∷ 20 ∷ 0 ∷ 0 ∷ 65535 ∷ 1 ∷ 18 ∷ 1 ∷ 3 ∷ 4294967295 ∷ []))
unfolding header
measure_accepted = refl

-- bit 3: 9
measure_refused : measure_call header operations 7 18 4 answer
    ≡ returned 9 (0 ∷ 3 ∷ 0 ∷ 0 ∷ 9 ∷ []) (headed (2 ∷ 3 ∷ 7 ∷ 6 ∷ 2 ∷ 1 ∷ 9 ∷ []) operations)
unfolding header
measure_refused = refl

-- ---- pbc_conditional_rotate: by 13, which is 5, on measurement 0

conditional_accepted : conditional_call header operations 7 20 (pos 13) 7 0 answer
    ≡ returned 0 (0 ∷ 0 ∷ 0 ∷ 0 ∷ 9 ∷ []) (headed (2 ∷ 3 ∷ 7 ∷ 6 ∷ 3 ∷ 1 ∷ 9 ∷ []) (1 ∷ 8 ∷ 0 ∷ 3 ∷ 4294967295 ∷ 8 ∷ 20 ∷ 0 ∷ 0 ∷ 65535 ∷ 22 ∷ 20 ∷ 0 ∷ 0 ∷ 4294967295 ∷ []))
unfolding header
conditional_accepted = refl

-- measurement 1 is not yet given: 10
conditional_refused : conditional_call header operations 7 20 (pos 13) 7 1 answer
    ≡ returned 10 (0 ∷ 0 ∷ 0 ∷ 0 ∷ 9 ∷ []) (headed (2 ∷ 3 ∷ 7 ∷ 6 ∷ 2 ∷ 1 ∷ 9 ∷ []) operations)
unfolding header
conditional_refused = refl

-- ---- pbc_expand: -X₀ Z₁, with the least cells that do, and three records; the values are phase, work, and 1, since X₀ and Z₁ commute

expand_accepted : expand_call header nodes (replicate 3 9) (replicate 25 9) (replicate 10 9) 7 22 9 answer
    ≡ returned 0 (2 ∷ 7 ∷ 1 ∷ 0 ∷ 9 ∷ [])
    (expand_words (1 ∷ 3 ∷ 9 ∷ [])
    (0 ∷ 0 ∷ 0 ∷ 0 ∷ 0 ∷ 0 ∷ 0 ∷ 0 ∷ 0 ∷ 0 ∷ 0 ∷ 0 ∷ 0 ∷ 0 ∷ 0 ∷ 0 ∷ 0 ∷ 0 ∷ 0 ∷ 0 ∷ 0 ∷ 0 ∷ 0 ∷ 0 ∷ 9 ∷ [])
    (0 ∷ 0 ∷ 0 ∷ 0 ∷ 0 ∷ 0 ∷ 0 ∷ 0 ∷ 0 ∷ 9 ∷ []))
unfolding header
expand_accepted = refl

-- X₀ Z₀ do not: the last value is 0
expand_clash : expand_call header (0 ∷ 0 ∷ 5 ∷ 0 ∷ 13 ∷ 0 ∷ 5 ∷ 1 ∷ 13 ∷ 1 ∷ 18 ∷ 8 ∷ []) (replicate 3 9) (replicate 25 9) (replicate 10 9) 7 20 8 answer
    ≡ returned 0 (3 ∷ 6 ∷ 0 ∷ 0 ∷ 9 ∷ [])
    (expand_words (2 ∷ 0 ∷ 9 ∷ [])
    (0 ∷ 0 ∷ 0 ∷ 0 ∷ 0 ∷ 0 ∷ 0 ∷ 0 ∷ 0 ∷ 0 ∷ 0 ∷ 0 ∷ 0 ∷ 0 ∷ 0 ∷ 0 ∷ 0 ∷ 0 ∷ 0 ∷ 0 ∷ 0 ∷ 0 ∷ 0 ∷ 0 ∷ 9 ∷ [])
    (0 ∷ 0 ∷ 0 ∷ 0 ∷ 0 ∷ 0 ∷ 0 ∷ 0 ∷ 0 ∷ 9 ∷ []))
unfolding header
expand_clash = refl

-- one cell less: 17; scratch and pool are zero all the same
expand_refused : expand_call header nodes (replicate 3 9) (replicate 25 9) (replicate 10 9) 7 22 8 answer
    ≡ returned 17 (0 ∷ 0 ∷ 0 ∷ 0 ∷ 9 ∷ [])
    (expand_words (9 ∷ 9 ∷ 9 ∷ [])
    (0 ∷ 0 ∷ 0 ∷ 0 ∷ 0 ∷ 0 ∷ 0 ∷ 0 ∷ 0 ∷ 0 ∷ 0 ∷ 0 ∷ 0 ∷ 0 ∷ 0 ∷ 0 ∷ 0 ∷ 0 ∷ 0 ∷ 0 ∷ 0 ∷ 0 ∷ 0 ∷ 0 ∷ 9 ∷ [])
    (0 ∷ 0 ∷ 0 ∷ 0 ∷ 0 ∷ 0 ∷ 0 ∷ 0 ∷ 0 ∷ 9 ∷ []))
unfolding header
expand_refused = refl

-- ---- pbc_hermitian_axis: the values are the word and the work

hermitian_accepted : hermitian_call header nodes (replicate 24 9) (replicate 10 9) 7 22 7 answer
    ≡ returned 0 (22 ∷ 7 ∷ 0 ∷ 0 ∷ 9 ∷ [])
    (walk_words (0 ∷ 0 ∷ 0 ∷ 0 ∷ 0 ∷ 0 ∷ 0 ∷ 0 ∷ 0 ∷ 0 ∷ 0 ∷ 0 ∷ 0 ∷ 0 ∷ 0 ∷ 0 ∷ 0 ∷ 0 ∷ 0 ∷ 0 ∷ 0 ∷ 0 ∷ 0 ∷ 0 ∷ [])
    (0 ∷ 0 ∷ 0 ∷ 0 ∷ 0 ∷ 0 ∷ 0 ∷ 0 ∷ 0 ∷ 9 ∷ []))
unfolding header
hermitian_accepted = refl

-- i X₀ Z₁: 19
hermitian_refused : hermitian_call header nodes (replicate 24 9) (replicate 10 9) 7 21 7 answer
    ≡ returned 19 (0 ∷ 0 ∷ 0 ∷ 0 ∷ 9 ∷ [])
    (walk_words (0 ∷ 0 ∷ 0 ∷ 0 ∷ 0 ∷ 0 ∷ 0 ∷ 0 ∷ 0 ∷ 0 ∷ 0 ∷ 0 ∷ 0 ∷ 0 ∷ 0 ∷ 0 ∷ 0 ∷ 0 ∷ 0 ∷ 0 ∷ 0 ∷ 0 ∷ 0 ∷ 0 ∷ [])
    (0 ∷ 0 ∷ 0 ∷ 0 ∷ 0 ∷ 0 ∷ 0 ∷ 0 ∷ 0 ∷ 9 ∷ []))
unfolding header
hermitian_refused = refl

-- ---- pbc_max_axis_weights: the values are the non-Clifford weight, the Clifford one and the work

weights_accepted : weights_call header nodes operations (replicate 24 9) (replicate 10 9) 10 answer
    ≡ returned 0 (1 ∷ 2 ∷ 10 ∷ 0 ∷ 9 ∷ [])
    (walk_words (0 ∷ 0 ∷ 0 ∷ 0 ∷ 0 ∷ 0 ∷ 0 ∷ 0 ∷ 0 ∷ 0 ∷ 0 ∷ 0 ∷ 0 ∷ 0 ∷ 0 ∷ 0 ∷ 0 ∷ 0 ∷ 0 ∷ 0 ∷ 0 ∷ 0 ∷ 0 ∷ 0 ∷ [])
    (0 ∷ 0 ∷ 0 ∷ 0 ∷ 0 ∷ 0 ∷ 0 ∷ 0 ∷ 0 ∷ 9 ∷ []))
unfolding header
weights_accepted = refl

-- two scratch words too few: 16, and nothing is zero
weights_refused : weights_call header nodes operations (replicate 22 9) (replicate 4 9) 10 answer
    ≡ returned 16 (0 ∷ 0 ∷ 0 ∷ 0 ∷ 9 ∷ [])
    (walk_words (9 ∷ 9 ∷ 9 ∷ 9 ∷ 9 ∷ 9 ∷ 9 ∷ 9 ∷ 9 ∷ 9 ∷ 9 ∷ 9 ∷ 9 ∷ 9 ∷ 9 ∷ 9 ∷ 9 ∷ 9 ∷ 9 ∷ 9 ∷ 9 ∷ 9 ∷ []) (9 ∷ 9 ∷ 9 ∷ 9 ∷ []))
unfolding header
weights_refused = refl

-- 65,536 is no gate record: 3
weights_sourceless : weights_call header nodes (1 ∷ 8 ∷ 0 ∷ 3 ∷ 4294967295 ∷ 8 ∷ 20 ∷ 0 ∷ 0 ∷ 65536 ∷ []) (replicate 24 9) (replicate 4 9) 10 answer
    ≡ returned 3 (0 ∷ 0 ∷ 0 ∷ 0 ∷ 9 ∷ []) (walk_words (replicate 24 9) (9 ∷ 9 ∷ 9 ∷ 9 ∷ []))
unfolding header
weights_sourceless = refl

-- ---- pbc_expand_axes: Z₀ and X₀ Z₁, two letters and the phase each, in six bytes, and a byte more; the value is the work

axes_accepted : expand_axes_call header nodes operations (replicate 7 9) (replicate 25 9) (replicate 10 9) 10 answer
    ≡ returned 0 (10 ∷ 0 ∷ 0 ∷ 0 ∷ 9 ∷ [])
    (axes_words (3 ∷ 0 ∷ 0 ∷ 1 ∷ 3 ∷ 0 ∷ 9 ∷ [])
    (0 ∷ 0 ∷ 0 ∷ 0 ∷ 0 ∷ 0 ∷ 0 ∷ 0 ∷ 0 ∷ 0 ∷ 0 ∷ 0 ∷ 0 ∷ 0 ∷ 0 ∷ 0 ∷ 0 ∷ 0 ∷ 0 ∷ 0 ∷ 0 ∷ 0 ∷ 0 ∷ 0 ∷ 9 ∷ [])
    (0 ∷ 0 ∷ 0 ∷ 0 ∷ 0 ∷ 0 ∷ 0 ∷ 0 ∷ 0 ∷ 9 ∷ []))
unfolding header
axes_accepted = refl

-- one less for the work: 17; rows, scratch and pool are zero
axes_refused : expand_axes_call header nodes operations (replicate 7 9) (replicate 25 9) (replicate 10 9) 9 answer
    ≡ returned 17 (0 ∷ 0 ∷ 0 ∷ 0 ∷ 9 ∷ [])
    (axes_words (0 ∷ 0 ∷ 0 ∷ 0 ∷ 0 ∷ 0 ∷ 9 ∷ [])
    (0 ∷ 0 ∷ 0 ∷ 0 ∷ 0 ∷ 0 ∷ 0 ∷ 0 ∷ 0 ∷ 0 ∷ 0 ∷ 0 ∷ 0 ∷ 0 ∷ 0 ∷ 0 ∷ 0 ∷ 0 ∷ 0 ∷ 0 ∷ 0 ∷ 0 ∷ 0 ∷ 0 ∷ 9 ∷ [])
    (0 ∷ 0 ∷ 0 ∷ 0 ∷ 0 ∷ 0 ∷ 0 ∷ 0 ∷ 0 ∷ 9 ∷ []))
unfolding header
axes_refused = refl

-- one byte too few: 16, and nothing is zero
axes_short_rows : expand_axes_call header nodes operations (replicate 5 9) (replicate 24 9) (replicate 9 9) 10 answer
    ≡ returned 16 (0 ∷ 0 ∷ 0 ∷ 0 ∷ 9 ∷ []) (axes_words (9 ∷ 9 ∷ 9 ∷ 9 ∷ 9 ∷ []) (replicate 24 9) (replicate 9 9))
unfolding header
axes_short_rows = refl

-- an answer of three words: 255
axes_short-answer : expand_axes_call header nodes operations (replicate 6 9) (replicate 24 9) (replicate 9 9) 10 (9 ∷ 9 ∷ 9 ∷ [])
    ≡ returned 255 (9 ∷ 9 ∷ 9 ∷ []) (axes_words (9 ∷ 9 ∷ 9 ∷ 9 ∷ 9 ∷ 9 ∷ []) (replicate 24 9) (replicate 9 9))
unfolding header
axes_short-answer = refl

-- ---- pbc_push_output_clifford: s 1

clifford_accepted : clifford_call header nodes (4 ∷ 12 ∷ 8 ∷ 16 ∷ 9 ∷ []) 3 1 0 answer
    ≡ returned 0 (0 ∷ 0 ∷ 0 ∷ 0 ∷ 9 ∷ [])
    (headed (2 ∷ 3 ∷ 7 ∷ 7 ∷ 2 ∷ 1 ∷ 9 ∷ []) (lent_words (0 ∷ 0 ∷ 5 ∷ 0 ∷ 13 ∷ 0 ∷ 5 ∷ 1 ∷ 13 ∷ 1 ∷ 18 ∷ 16 ∷ 50 ∷ 16 ∷ []) (4 ∷ 27 ∷ 8 ∷ 16 ∷ 9 ∷ [])))
unfolding header
clifford_accepted = refl

-- t: 6
clifford_refused : clifford_call header nodes (4 ∷ 12 ∷ 8 ∷ 16 ∷ 9 ∷ []) 5 1 0 answer
    ≡ returned 6 (0 ∷ 5 ∷ 0 ∷ 0 ∷ 9 ∷ [])
    (headed (2 ∷ 3 ∷ 7 ∷ 6 ∷ 2 ∷ 1 ∷ 9 ∷ []) (lent_words (0 ∷ 0 ∷ 5 ∷ 0 ∷ 13 ∷ 0 ∷ 5 ∷ 1 ∷ 13 ∷ 1 ∷ 18 ∷ 16 ∷ 9 ∷ 9 ∷ []) (4 ∷ 12 ∷ 8 ∷ 16 ∷ 9 ∷ [])))
unfolding header
clifford_refused = refl

-- ---- pbc_convert: cnot 0 1, t 1 at cap 2; the rotation is of gate record 1

convert_accepted : convert_call 2 3 7 2 (8 ∷ 0 ∷ 1 ∷ 9 ∷ 5 ∷ 1 ∷ 9 ∷ 9 ∷ []) (replicate 15 9) (replicate 6 9) (replicate 5 9) (replicate 9 9) header answer
    ≡ returned 0 (0 ∷ 0 ∷ 0 ∷ 0 ∷ 9 ∷ [])
    (headed (2 ∷ 3 ∷ 7 ∷ 7 ∷ 1 ∷ 0 ∷ 9 ∷ [])
    (convert_words (0 ∷ 0 ∷ 5 ∷ 0 ∷ 13 ∷ 0 ∷ 5 ∷ 1 ∷ 13 ∷ 1 ∷ 18 ∷ 12 ∷ 34 ∷ 16 ∷ 9 ∷ []) (4 ∷ 24 ∷ 0 ∷ 0 ∷ 1 ∷ 9 ∷ []) (20 ∷ 12 ∷ 8 ∷ 24 ∷ 9 ∷ [])
    (3 ∷ 0 ∷ 0 ∷ 1 ∷ 2 ∷ 0 ∷ 0 ∷ 3 ∷ 9 ∷ [])))
unfolding header
convert_accepted = refl

-- 2³² is no cap: the planes are left alone
convert_uncapped : convert_call 2 3 7 4294967296 (8 ∷ 0 ∷ 1 ∷ 9 ∷ []) (replicate 14 9) [] (replicate 4 9) (9 ∷ []) header answer
    ≡ returned 0 (0 ∷ 0 ∷ 0 ∷ 0 ∷ 9 ∷ [])
    (headed (2 ∷ 3 ∷ 7 ∷ 7 ∷ 0 ∷ 0 ∷ 9 ∷ []) (convert_words (0 ∷ 0 ∷ 5 ∷ 0 ∷ 13 ∷ 0 ∷ 5 ∷ 1 ∷ 13 ∷ 1 ∷ 18 ∷ 12 ∷ 34 ∷ 16 ∷ []) [] (20 ∷ 12 ∷ 8 ∷ 24 ∷ []) (9 ∷ [])))
unfolding header
convert_uncapped = refl

-- h 0, cnot 0 5: 7, at the gate of index 1, for the qubit 5
convert_refused : convert_call 2 3 7 2 (0 ∷ 0 ∷ 9 ∷ 9 ∷ 8 ∷ 0 ∷ 5 ∷ 9 ∷ []) (replicate 10 9) (replicate 5 9) (replicate 4 9) (replicate 8 9) header answer
    ≡ returned 7 (1 ∷ 5 ∷ 0 ∷ 0 ∷ 9 ∷ [])
    (headed (2 ∷ 3 ∷ 7 ∷ 6 ∷ 2 ∷ 1 ∷ 9 ∷ [])
    (convert_words (9 ∷ 9 ∷ 9 ∷ 9 ∷ 9 ∷ 9 ∷ 9 ∷ 9 ∷ 9 ∷ 9 ∷ []) (9 ∷ 9 ∷ 9 ∷ 9 ∷ 9 ∷ []) (9 ∷ 9 ∷ 9 ∷ 9 ∷ []) (9 ∷ 9 ∷ 9 ∷ 9 ∷ 9 ∷ 9 ∷ 9 ∷ 9 ∷ [])))
unfolding header
convert_refused = refl

-- ---- pbc_times and pbc_angle refuse nothing

-- I, X, Y, Z times I, X, Y, Z, row by row
times_table : map (λ a. map (times_number a) (0 ∷ 1 ∷ 2 ∷ 3 ∷ [])) (0 ∷ 1 ∷ 2 ∷ 3 ∷ [])
    ≡ (0 ∷ 1 ∷ 2 ∷ 3 ∷ []) ∷ (1 ∷ 0 ∷ 7 ∷ 14 ∷ []) ∷ (2 ∷ 15 ∷ 0 ∷ 5 ∷ []) ∷ (3 ∷ 6 ∷ 13 ∷ 0 ∷ []) ∷ []
unfolding header
times_table = refl

angles : map remainder8 (negsuc 0 ∷ negsuc 8 ∷ pos 8 ∷ pos 13 ∷ negsuc 9223372036854775807 ∷ []) ≡ 7 ∷ 7 ∷ 0 ∷ 5 ∷ 0 ∷ []
angles = refl

-- ---- too few words, and a word that is no number of 32 bits

-- a header of five words, or an answer of three: 255, and nothing is written
short_header : single_call (2 ∷ 3 ∷ 7 ∷ 6 ∷ 2 ∷ []) nodes 1 3 answer ≡ returned 255 (9 ∷ 9 ∷ 9 ∷ 9 ∷ 9 ∷ []) (headed (2 ∷ 3 ∷ 7 ∷ 6 ∷ 2 ∷ []) nodes)
unfolding header
short_header = refl

short-answer : single_call header nodes 1 3 (9 ∷ 9 ∷ 9 ∷ []) ≡ returned 255 (9 ∷ 9 ∷ 9 ∷ []) (headed (2 ∷ 3 ∷ 7 ∷ 6 ∷ 2 ∷ 1 ∷ 9 ∷ []) nodes)
unfolding header
short-answer = refl

-- 2³² + 6 nodes: 3
wide_header : single_call (2 ∷ 3 ∷ 7 ∷ 4294967302 ∷ 2 ∷ 1 ∷ []) nodes 1 3 answer
    ≡ returned 3 (0 ∷ 0 ∷ 0 ∷ 0 ∷ 9 ∷ []) (headed (2 ∷ 3 ∷ 7 ∷ 4294967302 ∷ 2 ∷ 1 ∷ []) nodes)
unfolding header
wide_header = refl

-- ---- pbc_read_qasm

-- OPENQASM 2.0; include "qelib1.inc"; qreg q[3]; creg c[2]; each on its line, 58 bytes, then these
lines : List ℕ → List ℕ
unfolding and_then blank take_sign take_word take_number take_this take_index take_bit take_register take_version take_include take_end take_one take_two take_three take_measure gate_by take_gate
    from_gates from_creg from_qreg from_include reading answer_of left_in position_in number_in answer_left program_reply read_qasm_call position_reply text_position_call
lines rest = (79 ∷ 80 ∷ 69 ∷ 78 ∷ 81 ∷ 65 ∷ 83 ∷ 77 ∷ 32 ∷ 50 ∷ 46 ∷ 48 ∷ 59 ∷ 10 ∷ 105 ∷ 110 ∷ 99 ∷ 108 ∷ 117 ∷ 100 ∷ 101 ∷ 32 ∷ 34 ∷ 113 ∷ 101 ∷ 108 ∷ 105 ∷ 98 ∷ 49 ∷ 46
    ∷ 105 ∷ 110 ∷ 99 ∷ 34 ∷ 59 ∷ 10 ∷ 113 ∷ 114 ∷ 101 ∷ 103 ∷ 32 ∷ 113 ∷ 91 ∷ 51 ∷ 93 ∷ 59 ∷ 10 ∷ 99 ∷ 114 ∷ 101 ∷ 103 ∷ 32 ∷ 99 ∷ 91 ∷ 50 ∷ 93 ∷ 59 ∷ 10 ∷ []) ++ rest

-- h q[0];cx q[1],q[2];
abbrev two : List ℕ
two = lines (104 ∷ 32 ∷ 113 ∷ 91 ∷ 48 ∷ 93 ∷ 59 ∷ 99 ∷ 120 ∷ 32 ∷ 113 ∷ 91 ∷ 49 ∷ 93 ∷ 44 ∷ 113 ∷ 91 ∷ 50 ∷ 93 ∷ 59 ∷ [])

-- into nine words: the values are two gates, three qubits and two classical bits
read_accepted : read_qasm_call two (replicate 9 7) answer ≡ returned 0 (2 ∷ 3 ∷ 2 ∷ 0 ∷ 9 ∷ []) (0 ∷ 0 ∷ 0 ∷ 0 ∷ 8 ∷ 1 ∷ 2 ∷ 0 ∷ 7 ∷ [])
unfolding header lines
read_accepted = refl

-- h q[0]; h q[01]; is 20 at the place of its second statement, and no word is written
read_refused : read_qasm_call (lines (104 ∷ 32 ∷ 113 ∷ 91 ∷ 48 ∷ 93 ∷ 59 ∷ 32 ∷ 104 ∷ 32 ∷ 113 ∷ 91 ∷ 48 ∷ 49 ∷ 93 ∷ 59 ∷ [])) (replicate 9 7) answer
    ≡ returned 20 (0 ∷ 66 ∷ 0 ∷ 0 ∷ 9 ∷ []) (7 ∷ 7 ∷ 7 ∷ 7 ∷ 7 ∷ 7 ∷ 7 ∷ 7 ∷ 7 ∷ [])
unfolding header lines
read_refused = refl

-- one word too few: 21
read_no_room : read_qasm_call two (replicate 7 7) answer ≡ returned 21 (0 ∷ 0 ∷ 0 ∷ 0 ∷ 9 ∷ []) (7 ∷ 7 ∷ 7 ∷ 7 ∷ 7 ∷ 7 ∷ 7 ∷ [])
unfolding header lines
read_no_room = refl

-- an answer of three words: 255
read_short-answer : read_qasm_call two (replicate 8 7) (9 ∷ 9 ∷ 9 ∷ []) ≡ returned 255 (9 ∷ 9 ∷ 9 ∷ []) (7 ∷ 7 ∷ 7 ∷ 7 ∷ 7 ∷ 7 ∷ 7 ∷ 7 ∷ [])
unfolding header lines
read_short-answer = refl

-- ---- pbc_text_position: the values are line and column; of the last byte of h; and h; on two lines

position_found : text_position_call (104 ∷ 59 ∷ 10 ∷ 104 ∷ 59 ∷ []) 4 answer ≡ returned 0 (2 ∷ 2 ∷ 0 ∷ 0 ∷ 9 ∷ []) tt
unfolding header lines
position_found = refl

position_short-answer : text_position_call (104 ∷ 59 ∷ 10 ∷ 104 ∷ 59 ∷ []) 4 (9 ∷ 9 ∷ 9 ∷ []) ≡ returned 255 (9 ∷ 9 ∷ 9 ∷ []) tt
unfolding header lines
position_short-answer = refl
