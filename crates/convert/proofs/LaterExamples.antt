-- A conversion and later calls given as words, computed: which are accepted, and what they leave.
-- kept: examples, computed: they are their own use.
use mathlib.Core.Path.{◌≡◌, refl}
use mathlib.Core.List.{List, [], ◌∷◌, ◌++◌}
use Prim.Native.Nat.{ℕ}
use lib.ListN.{replicate}
use Rattle.pauli.specs.Letters.{power}
use Rattle.pauli.specs.Gates.{gate_h, gate_s, gate_cz}
use Rattle.pauli.specs.Table.{start, step}
use Rattle.arena.specs.Limits.{hand_mark}
use Rattle.arena.specs.Errors.{◌⟫◌⇒◌}
use Rattle.arena.specs.Store.{breaks_limit, exceeds_nodes, exceeds_operations, foreign, unknown, no_node_room, no_operation_room}
use Rattle.arena.specs.Builder.{single_check, single_step, product_check, product_step, rotate_check, rotate_step, measure_check, measure_step, conditional_check, conditional_step}
use Rattle.convert.specs.Records.{NoCap, records, kind_of, lower_as, lower, lower_from, lower_all, parts_of, lower_in}
use Rattle.convert.specs.Plain.{plain_begin, flush_from, tested, exceeds, flushed, perform_as, plain_step, plain_run, rows_after, table_run}
use Rattle.convert.specs.Frame.{start_arena, pushed, multiplied, frame_step, qubits_of, operands_checked, frame_gates, frame_run, clifford_check, clifford_step}
use Rattle.convert.specs.Words.{start_words, write, word_step, word_run}
use Rattle.convert.specs.Conversion.{Input, gates_in, plain_end, table_end, word_end, record_checked, records_checked, gates_check, convert_check, convert_within, convert_step, ConvertedMade, input_of, gates_checked, room_checked}
use Rattle.convert.specs.Later.{converted, later, laters, gates_of, fed}
use Rattle.convert.specs.LaterWords.{call_in, words_at, calls_to, calls_in, run_step}
use Rattle.convert.specs.Circuits.{gate}

-- n = 2, 2 classical bits, owner 7; h 0, measure 0 into 1; room for 8 nodes and 5 operations
lent : Input
unfolding power flush_from start step ◌⟫◌⇒◌ breaks_limit exceeds_nodes exceeds_operations foreign unknown no_node_room no_operation_room single_check single_step product_check product_step
    rotate_check rotate_step measure_check measure_step conditional_check conditional_step records kind_of lower_as lower lower_from parts_of lower_in lower_all plain_begin tested exceeds flushed perform_as
    plain_step plain_run rows_after table_run start_arena pushed multiplied frame_step qubits_of operands_checked frame_gates frame_run clifford_check clifford_step start_words write word_step
    word_run gates_in plain_end table_end word_end record_checked records_checked gates_check gates_checked convert_check room_checked convert_within convert_step converted later laters gates_of
    fed call_in words_at calls_to calls_in run_step
lent = input_of 2 2 7 NoCap (gate 0 0 0 0 ++ gate 12 0 1 0) (replicate 16 9) (replicate 25 9) (replicate 5 9) []

words : List ℕ
words =
    (0 ∷ 3 ∷ 0 ∷ 0 ∷ 0 ∷ 0 ∷ [])  -- s 0: a node
    ++ (0 ∷ 8 ∷ 0 ∷ 0 ∷ 0 ∷ 0 ∷ [])  -- cnot 0 0: 8
    ++ (0 ∷ 9 ∷ 0 ∷ 4294967297 ∷ 0 ∷ 0 ∷ [])  -- cz 0 1: two nodes
    ++ (1 ∷ 2 ∷ 1 ∷ 0 ∷ 0 ∷ 0 ∷ [])  -- X on qubit 2: 7
    ++ (1 ∷ 1 ∷ 4 ∷ 0 ∷ 0 ∷ 0 ∷ [])  -- I on qubit 1
    ++ (2 ∷ 7 ∷ 4 ∷ 8 ∷ 4 ∷ 0 ∷ [])  -- a product with another owner's: 4
    ++ (3 ∷ 7 ∷ 13 ∷ 11 ∷ 0 ∷ 0 ∷ [])  -- rotate by 3
    ++ (4 ∷ 7 ∷ 8 ∷ 3 ∷ 0 ∷ 0 ∷ [])  -- measure into bit 2: 9
    ++ (4 ∷ 7 ∷ 8 ∷ 2 ∷ 0 ∷ 0 ∷ [])  -- measure into bit 1
    ++ (5 ∷ 7 ∷ 8 ∷ 13 ∷ 7 ∷ 1 ∷ [])  -- conditional_rotate by 5
    ++ (6 ∷ 7 ∷ 8 ∷ 5 ∷ 7 ∷ 2 ∷ [])  -- and where measurement 2 is not given: 10
    ++ (0 ∷ 0 ∷ 1 ∷ 0 ∷ 0 ∷ 0 ∷ [])  -- h 1
    ++ (0 ∷ 0 ∷ [])  -- fewer than six

accepted_gates : fed (calls_in words) (converted lent) ≡ gate_s 0 ∷ gate_cz 0 1 ∷ gate_h 1 ∷ []
unfolding lent words
accepted_gates = refl

left : run_step lent words
    ≡ record {
      answer = ConvertedMade (record { qubits = 2; cbits = 2; owner = 7; nodes = 8; operations = 4; measurements = 2 });
      nodes = 0 ∷ 0 ∷ 5 ∷ 0 ∷ 13 ∷ 0 ∷ 5 ∷ 1 ∷ 13 ∷ 1 ∷ 34 ∷ 4 ∷ 94 ∷ 16 ∷ 18 ∷ 12 ∷ [];
      operations = 1 ∷ 4 ∷ 0 ∷ 2 ∷ 1 ∷ 12 ∷ 13 ∷ 0 ∷ 0 ∷ hand_mark ∷ 1 ∷ 8 ∷ 1 ∷ 2 ∷ hand_mark ∷ 22 ∷ 8 ∷ 1 ∷ 0 ∷ hand_mark ∷ 9 ∷ 9 ∷ 9 ∷ 9 ∷ 9 ∷ [];
      frame = 24 ∷ 16 ∷ 4 ∷ 28 ∷ 9 ∷ [];
      planes = [];
    }
unfolding lent words
left = refl
