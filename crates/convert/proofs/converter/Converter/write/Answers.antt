-- `write` meets its contract: t, tdg and measure write alone, ccx and ccz seven, frame gates nothing.
use native.Mathlib.Omega.{arith}
use mathlib.Core.Path.{refl, ◌∙◌}
use borrow.Enum.Refused.{opened}
use Rattle.convert.specs.Records.{lower_as}
use Rattle.convert.specs.Code.Raw.{record_gates, put_record}
use Rattle.convert.proofs.Buffers.Reads.{read_t, read_tdg, read_measure, read_ccx, read_ccz}
use Rattle.convert.proofs.Buffers.Did.{no_frame_gates, only_frame_gates}
use Rattle.convert.proofs.GateKinds.Arms.{none_given}
use Rattle.convert.proofs.converter.Converter.write.Goals as goal

pub overflow_add-axis : goal.overflow_add-axis
overflow_add-axis c = let q = read_t (rw c.in-T.is at c.requires.record_ready) in omega (arith, q)

pub offset_bounds-self-n : goal.offset_bounds-self-n
offset_bounds-self-n c = let q = read_t (rw c.in-T.is at c.requires.record_ready) in omega (arith, q)

pub bounds-self-n : goal.bounds-self-n
bounds-self-n c = let q = read_t (rw c.in-T.is at c.requires.record_ready) in omega (arith, q)

pub lone-requires : goal.lone-requires
lone-requires c = let q = read_t (rw c.in-T.is at c.requires.record_ready) in record { room = (q.fewer, q.place) }

pub overflow_add-axis-in-Tdg : goal.overflow_add-axis-in-Tdg
overflow_add-axis-in-Tdg c = let q = read_tdg (rw c.in-Tdg.is at c.requires.record_ready) in omega (arith, q)

pub offset_bounds-self-n-in-Tdg : goal.offset_bounds-self-n-in-Tdg
offset_bounds-self-n-in-Tdg c = let q = read_tdg (rw c.in-Tdg.is at c.requires.record_ready) in omega (arith, q)

pub bounds-self-n-in-Tdg : goal.bounds-self-n-in-Tdg
bounds-self-n-in-Tdg c = let q = read_tdg (rw c.in-Tdg.is at c.requires.record_ready) in omega (arith, q)

pub lone-requires-in-Tdg : goal.lone-requires-in-Tdg
lone-requires-in-Tdg c = let q = read_tdg (rw c.in-Tdg.is at c.requires.record_ready) in record { room = (q.fewer, q.place) }

pub overflow_add-axis-in-Measure : goal.overflow_add-axis-in-Measure
overflow_add-axis-in-Measure c = let q = read_measure (rw c.in-Measure.is at c.requires.record_ready) in omega (arith, q)

pub offset_bounds-self-n-in-Measure : goal.offset_bounds-self-n-in-Measure
offset_bounds-self-n-in-Measure c = let q = read_measure (rw c.in-Measure.is at c.requires.record_ready) in omega (arith, q)

pub bounds-self-n-in-Measure : goal.bounds-self-n-in-Measure
bounds-self-n-in-Measure c = let q = read_measure (rw c.in-Measure.is at c.requires.record_ready) in omega (arith, q)

pub overflow_cast-b : goal.overflow_cast-b
overflow_cast-b c = let q = read_measure (rw c.in-Measure.is at c.requires.record_ready) in let e = q.bit refl in omega (arith, e)

pub overflow_add-b : goal.overflow_add-b
overflow_add-b c = let q = read_measure (rw c.in-Measure.is at c.requires.record_ready) in let e = q.bit refl in omega (arith, e)

pub lone-requires-in-Measure : goal.lone-requires-in-Measure
lone-requires-in-Measure c = let q = read_measure (rw c.in-Measure.is at c.requires.record_ready) in record { room = (q.fewer, q.place) }

pub overflow_add-za : goal.overflow_add-za
overflow_add-za c = let q = read_ccx (rw c.in-Ccx.is at c.requires.record_ready) in omega (arith, q)

pub offset_bounds-self-n-in-Ccx : goal.offset_bounds-self-n-in-Ccx
offset_bounds-self-n-in-Ccx c = let q = read_ccx (rw c.in-Ccx.is at c.requires.record_ready) in omega (arith, q)

pub bounds-self-n-in-Ccx : goal.bounds-self-n-in-Ccx
bounds-self-n-in-Ccx c = let q = read_ccx (rw c.in-Ccx.is at c.requires.record_ready) in omega (arith, q)

pub overflow_add-zb : goal.overflow_add-zb
overflow_add-zb c = let q = read_ccx (rw c.in-Ccx.is at c.requires.record_ready) in omega (arith, q)

pub offset_bounds-self-n-in-Ccx-2 : goal.offset_bounds-self-n-in-Ccx-2
offset_bounds-self-n-in-Ccx-2 c = let q = read_ccx (rw c.in-Ccx.is at c.requires.record_ready) in omega (arith, q)

pub bounds-self-n-in-Ccx-2 : goal.bounds-self-n-in-Ccx-2
bounds-self-n-in-Ccx-2 c = let q = read_ccx (rw c.in-Ccx.is at c.requires.record_ready) in omega (arith, q)

pub offset_bounds-self-d : goal.offset_bounds-self-d
offset_bounds-self-d c = let q = read_ccx (rw c.in-Ccx.is at c.requires.record_ready) in omega (arith, q.operand, q.qubits, c.requires.record_ready.places)

pub bounds-self-d : goal.bounds-self-d
bounds-self-d c = let q = read_ccx (rw c.in-Ccx.is at c.requires.record_ready) in omega (arith, q.operand, q.qubits, c.requires.record_ready.places)

pub seven-requires : goal.seven-requires
seven-requires c = let q = read_ccx (rw c.in-Ccx.is at c.requires.record_ready) in record { room = (q.few, q.room, q.fewer, q.place, q.small_left, q.small_right) }

pub overflow_add-za-in-Ccz : goal.overflow_add-za-in-Ccz
overflow_add-za-in-Ccz c = let q = read_ccz (rw c.in-Ccz.is at c.requires.record_ready) in omega (arith, q)

pub offset_bounds-self-n-in-Ccz : goal.offset_bounds-self-n-in-Ccz
offset_bounds-self-n-in-Ccz c = let q = read_ccz (rw c.in-Ccz.is at c.requires.record_ready) in omega (arith, q)

pub bounds-self-n-in-Ccz : goal.bounds-self-n-in-Ccz
bounds-self-n-in-Ccz c = let q = read_ccz (rw c.in-Ccz.is at c.requires.record_ready) in omega (arith, q)

pub overflow_add-zb-in-Ccz : goal.overflow_add-zb-in-Ccz
overflow_add-zb-in-Ccz c = let q = read_ccz (rw c.in-Ccz.is at c.requires.record_ready) in omega (arith, q)

pub offset_bounds-self-n-in-Ccz-2 : goal.offset_bounds-self-n-in-Ccz-2
offset_bounds-self-n-in-Ccz-2 c = let q = read_ccz (rw c.in-Ccz.is at c.requires.record_ready) in omega (arith, q)

pub bounds-self-n-in-Ccz-2 : goal.bounds-self-n-in-Ccz-2
bounds-self-n-in-Ccz-2 c = let q = read_ccz (rw c.in-Ccz.is at c.requires.record_ready) in omega (arith, q)

pub overflow_add-zd : goal.overflow_add-zd
overflow_add-zd c = let q = read_ccz (rw c.in-Ccz.is at c.requires.record_ready) in omega (arith, q.operand, q.qubits, c.requires.record_ready.places)

pub offset_bounds-self-n-in-Ccz-3 : goal.offset_bounds-self-n-in-Ccz-3
offset_bounds-self-n-in-Ccz-3 c = let q = read_ccz (rw c.in-Ccz.is at c.requires.record_ready) in omega (arith, q.operand, q.qubits, c.requires.record_ready.places)

pub bounds-self-n-in-Ccz-3 : goal.bounds-self-n-in-Ccz-3
bounds-self-n-in-Ccz-3 c = let q = read_ccz (rw c.in-Ccz.is at c.requires.record_ready) in omega (arith, q.operand, q.qubits, c.requires.record_ready.places)

pub seven-requires-in-Ccz : goal.seven-requires-in-Ccz
seven-requires-in-Ccz c = let q = read_ccz (rw c.in-Ccz.is at c.requires.record_ready) in record { room = (q.few, q.room, q.fewer, q.place, q.small_left, q.small_right) }

pub returns-in-T-clause-did : goal.returns-in-T-clause-did
unfolding record_gates lower_as put_record
returns-in-T-clause-did c = let d = c.lone.ensures in no_frame_gates c.requires.frame_ready c.in-T.is refl d.same.0 d.wrote

pub returns-in-Tdg-clause-did : goal.returns-in-Tdg-clause-did
unfolding record_gates lower_as put_record
returns-in-Tdg-clause-did c = let d = c.lone-in-Tdg.ensures in no_frame_gates c.requires.frame_ready c.in-Tdg.is refl d.same.0 d.wrote

pub returns-in-Measure-clause-did : goal.returns-in-Measure-clause-did
unfolding record_gates lower_as put_record
returns-in-Measure-clause-did c = let d = c.lone-in-Measure.ensures in no_frame_gates c.requires.frame_ready c.in-Measure.is refl d.same.0 d.wrote

pub returns-in-Ccx-clause-did : goal.returns-in-Ccx-clause-did
unfolding record_gates lower_as put_record
returns-in-Ccx-clause-did c = let d = c.seven.ensures in no_frame_gates c.requires.frame_ready c.in-Ccx.is refl d.same.0 d.wrote

pub returns-in-Ccz-clause-did : goal.returns-in-Ccz-clause-did
unfolding record_gates lower_as put_record
returns-in-Ccz-clause-did c = let d = c.seven-in-Ccz.ensures in no_frame_gates c.requires.frame_ready c.in-Ccz.is refl d.same.0 d.wrote

pub returns-in_default : goal.returns-in_default
returns-in_default c =
    let keys = opened c.in_default.in_default-own.keys6 in
    let t = c.take_up.ensures in
    record {
      did = only_frame_gates keys t.ran (t.stays.7, t.stays.9) t.same.0 t.same.2;
      gave = t.same.3 ∙ none_given _ _ keys;
      stays = t.stays;
      same = t.same.1;
    }
