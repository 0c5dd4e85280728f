-- The circuits of document 01 that are followed by hand, computed.
use mathlib.Core.Path.{refl}
use Rattle.pauli.specs.Letters.{power}
use Rattle.pauli.specs.Table.{start, step}
use Rattle.arena.specs.Errors.{◌⟫◌⇒◌}
use Rattle.arena.specs.Nodes.{decode, node_at, values, image, factors_commute}
use Rattle.arena.specs.Sparse.{dense}
use Rattle.arena.specs.Walk.{walk}
use Rattle.arena.specs.Operations.{decode_op, source_of, axis_kind}
use Rattle.arena.specs.Store.{breaks_limit, exceeds_nodes, exceeds_operations, foreign, unknown, no_node_room}
use Rattle.arena.specs.Builder.{new_check, new_step, product_check, product_step}
use Rattle.arena.specs.Readers.{expand_walk, hermitian_walk, report_walk}
use Rattle.arena.specs.Expansion.{op_at, expand_check, expand_step, hermitian_check, hermitian_step, report_check, report_step}
use Rattle.convert.specs.Records.{records, kind_of, lower_as, lower, lower_from, lower_all, parts_of, lower_in}
use Rattle.convert.specs.Plain.{plain_begin, flush_from, tested, exceeds, flushed, perform_as, plain_step, plain_run}
use Rattle.convert.specs.Frame.{start_arena, pushed, multiplied, frame_step, qubits_of, operands_checked}
use Rattle.convert.specs.Words.{start_words, flush_gate, flush_gates, flush_words, write_seven, write, word_step, word_run, meaning, operations_in}
use Rattle.convert.specs.Conversion.{gates_in, plain_end, word_end, record_checked, records_checked, gates_check, convert_check, convert_within, convert_step, gates_checked, room_checked}
use Rattle.convert.specs.Circuits.{HandCircuits}

pub hand_circuits : HandCircuits
unfolding power flush_from start step ◌⟫◌⇒◌ decode node_at values image factors_commute dense walk decode_op source_of axis_kind breaks_limit exceeds_nodes exceeds_operations foreign unknown no_node_room new_check new_step
    product_check product_step expand_walk hermitian_walk report_walk op_at expand_check expand_step hermitian_check hermitian_step report_check report_step records kind_of lower_as lower
    lower_from parts_of lower_in lower_all plain_begin tested exceeds flushed perform_as plain_step plain_run start_arena pushed multiplied frame_step qubits_of operands_checked start_words flush_gate
    flush_gates flush_words write_seven write word_step word_run meaning operations_in gates_in plain_end word_end record_checked records_checked gates_check gates_checked convert_check
    room_checked convert_within convert_step
hand_circuits = record {
  a = (refl, refl);
  c = (refl, refl);
  c_axis = refl;
  c_expands = refl;
  c_stops = refl;
  d = (refl, refl);
  d_axis = refl;
  d_cap = (refl, refl);
  e = (refl, refl);
  f = (refl, refl);
  f_report = refl;
  f_stops = refl;
  f_pool = refl;
  h = (refl, refl, refl);
  i = refl;
  i_stops = refl;
  l = refl;
  l_phase = refl;
  l_stops = refl;
  m = (refl, refl);
}
