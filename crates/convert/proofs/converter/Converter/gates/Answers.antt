use native.Mathlib.Omega.{arith}
use mathlib.Core.Path.{◌≡◌, refl, sym, ap, ◌∙◌}
use Prim.Native.Nat.{◌+◌}
use denote.Param.{number}
use lib.ListN.{length}
use Rattle.convert.specs.contracts.converter.Converter.gates.{NARROW-type}
use Rattle.convert.specs.Code.Raw.{Fits, measures_of}
use Rattle.convert.specs.Code.Converting.{stays_on, room_in}
use Rattle.convert.proofs.Counts.Parts.{part_wide, part_fits, next_up}
use Rattle.convert.proofs.Buffers.Writing.{room_kept, write_planes, write_flush, write_frames, write_ready, write_more, write_end}
use Rattle.convert.proofs.converter.Converter.gates.Goals as goal

pub overflow_mul-end : goal.overflow_mul-end
overflow_mul-end g c = omega (arith, c.args.self.now.short)

pub loop-p-init : goal.loop-p-init
loop-p-init g c = ((refl, refl, refl, refl, refl, refl, refl, refl, refl, refl, refl, refl), c.requires.write_at)

pub decide-flushed-requires-clause-all_proper : goal.decide-flushed-requires-clause-all_proper
decide-flushed-requires-clause-all_proper g c =
    let s = c.loop-p.self in
    let inv = c.loop-p.invariant in
    let gs = c.args.self.now.gates.now in
    let narrow = NARROW-type (number g.row.NARROW) in
    let fits : Fits s.qubits gs = rw inv.0.11 at s.fits in
    let read = c.part_at-gate.ensures in
    rw (read.kind, read.operands.0, read.operands.1, read.operands.2) (part_fits s.qubits narrow gs fits c.loop-p.p (inv.1.inside c.loop-p-test.true)).each

pub decide-flushed-requires-clause-from_le_to : goal.decide-flushed-requires-clause-from_le_to
decide-flushed-requires-clause-from_le_to g c =
    let inv = c.loop-p.invariant in
    let gs = c.args.self.now.gates.now in
    let p = c.loop-p.p in
    let read = c.part_at-gate.ensures in
    rw inv.0.11 (
      (λ off. omega (arith, inv.1.past)),
      omega (arith, c.loop-p-test.true),
      (λ off. let same = rw (off, part_wide gs p) at read.operands in (same.0, same.1)),
    )

pub flush_if-requires-clause-flush_over : goal.flush_if-requires-clause-flush_over
flush_if-requires-clause-flush_over g c =
    let s = c.loop-p.self in
    let inv = c.loop-p.invariant in
    let gs = c.args.self.now.gates.now in
    let narrow = NARROW-type (number g.row.NARROW) in
    let fits : Fits s.qubits gs = rw inv.0.11 at s.fits in
    let room = room_kept (rw inv.0.11 at (room_in s)) (sym inv.0.7) (sym inv.0.8) in
    let read = c.part_at-gate.ensures in
    let d = c.decide-flushed in
    let de = d.ensures in
    let decided = rw (read.kind, read.operands.0, read.operands.1, read.operands.2) at de.decided in
    let planes = write_planes s.qubits s.cap narrow gs _ _ _ _ _ _ _ _ _ _ _ _ _ inv.1 c.loop-p-test.true fits s.few room (inv.0.7, inv.0.8, s.images) d.result _ decided in
    rw (de.stays.11, inv.0.11, de.stays.4, de.same.0, de.same.1, de.same.3)
    (write_flush s.qubits s.cap narrow gs _ _ _ _ _ _ _ _ _ _ _ _ _ inv.1 c.loop-p-test.true fits s.few room (inv.0.7, inv.0.8, s.images) d.result planes.0)

pub loop-p-smaller : goal.loop-p-smaller
loop-p-smaller g c = omega (arith, c.loop-p-test.true, c.position_after-p.ensures, next_up (NARROW-type (number g.row.NARROW)) c.args.self.now.gates.now c.loop-p.p)

pub returns-clause-ended : goal.returns-clause-ended
returns-clause-ended g c =
    let s = c.loop-p.self in
    write_end s.qubits s.cap (NARROW-type (number g.row.NARROW)) c.args.self.now.gates.now _ _ _ _ _ _ _ _ _ _ _ c.loop-p.place c.loop-p.p c.loop-p.invariant.1 c.loop-p-test.false

pub write-requires-clause-frame_ready : goal.write-requires-clause-frame_ready
write-requires-clause-frame_ready g c =
    let s = c.loop-p.self in
    let inv = c.loop-p.invariant in
    let gs = c.args.self.now.gates.now in
    let narrow = NARROW-type (number g.row.NARROW) in
    let fits : Fits s.qubits gs = rw inv.0.11 at s.fits in
    let room = room_kept (rw inv.0.11 at (room_in s)) (sym inv.0.7) (sym inv.0.8) in
    let read = c.part_at-gate.ensures in
    let d = c.decide-flushed in
    let de = d.ensures in
    let f = c.flush_if in
    let fe = f.ensures in
    let decided = rw (read.kind, read.operands.0, read.operands.1, read.operands.2) at de.decided in
    let planes = write_planes s.qubits s.cap narrow gs _ _ _ _ _ _ _ _ _ _ _ _ _ inv.1 c.loop-p-test.true fits s.few room (inv.0.7, inv.0.8, s.images) d.result _ decided in
    let flushed = rw (de.stays.11, inv.0.11, de.stays.4, de.same.0, de.same.1, de.same.2, de.same.3) at fe.flushed_if in
    let lens₁ : (length f.new.self.nodes.now ≡ length s.nodes.now) × (length f.new.self.operations.now ≡ length s.operations.now) × (length f.new.self.frame.now ≡ length s.frame.now) = (fe.stays.7 ∙ ap (λ l. length l) de.same.0, fe.stays.8 ∙ ap (λ l. length l) de.same.1, fe.stays.9 ∙ ap (λ l. length l) de.same.2) in
    rw (fe.stays.4, de.stays.4, read.kind, read.operands.0, read.operands.1)
    (write_frames s.qubits s.cap narrow gs _ _ _ _ _ _ _ _ _ _ _ _ _ inv.1 c.loop-p-test.true fits s.few room (inv.0.7, inv.0.8, s.images) d.result planes.0 _ _ _ _ _ (flushed inv.1.pending.count inv.1.pending.ends) lens₁)

pub write-requires-clause-record_ready : goal.write-requires-clause-record_ready
write-requires-clause-record_ready g c =
    let s = c.loop-p.self in
    let inv = c.loop-p.invariant in
    let gs = c.args.self.now.gates.now in
    let narrow = NARROW-type (number g.row.NARROW) in
    let fits : Fits s.qubits gs = rw inv.0.11 at s.fits in
    let room = room_kept (rw inv.0.11 at (room_in s)) (sym inv.0.7) (sym inv.0.8) in
    let read = c.part_at-gate.ensures in
    let d = c.decide-flushed in
    let de = d.ensures in
    let f = c.flush_if in
    let fe = f.ensures in
    let decided = rw (read.kind, read.operands.0, read.operands.1, read.operands.2) at de.decided in
    let planes = write_planes s.qubits s.cap narrow gs _ _ _ _ _ _ _ _ _ _ _ _ _ inv.1 c.loop-p-test.true fits s.few room (inv.0.7, inv.0.8, s.images) d.result _ decided in
    let flushed = rw (de.stays.11, inv.0.11, de.stays.4, de.same.0, de.same.1, de.same.2, de.same.3) at fe.flushed_if in
    let lens₁ : (length f.new.self.nodes.now ≡ length s.nodes.now) × (length f.new.self.operations.now ≡ length s.operations.now) × (length f.new.self.frame.now ≡ length s.frame.now) = (fe.stays.7 ∙ ap (λ l. length l) de.same.0, fe.stays.8 ∙ ap (λ l. length l) de.same.1, fe.stays.9 ∙ ap (λ l. length l) de.same.2) in
    rw (fe.stays.4, de.stays.4, fe.same.1, de.same.4, read.kind, read.operands.0, read.operands.1, read.operands.2)
    (write_ready s.qubits s.cap narrow gs _ _ _ _ _ _ _ _ _ _ _ _ _ inv.1 c.loop-p-test.true fits s.few room (inv.0.7, inv.0.8, s.images) d.result planes.0 _ _ _ _ _ (flushed inv.1.pending.count inv.1.pending.ends) lens₁)

pub loop-p-preserved : goal.loop-p-preserved
loop-p-preserved g c =
    let a = c.args in
    let s = c.loop-p.self in
    let inv = c.loop-p.invariant in
    let gs = c.args.self.now.gates.now in
    let narrow = NARROW-type (number g.row.NARROW) in
    let fits : Fits s.qubits gs = rw inv.0.11 at s.fits in
    let room = room_kept (rw inv.0.11 at (room_in s)) (sym inv.0.7) (sym inv.0.8) in
    let gate = c.part_at-gate.result in
    let read = c.part_at-gate.ensures in
    let d = c.decide-flushed in
    let de = d.ensures in
    let f = c.flush_if in
    let fe = f.ensures in
    let w = c.write in
    let we = w.ensures in
    let decided = rw (read.kind, read.operands.0, read.operands.1, read.operands.2) at de.decided in
    let planes = write_planes s.qubits s.cap narrow gs _ _ _ _ _ _ _ _ _ _ _ _ _ inv.1 c.loop-p-test.true fits s.few room (inv.0.7, inv.0.8, s.images) d.result _ decided in
    let flushed = rw (de.stays.11, inv.0.11, de.stays.4, de.same.0, de.same.1, de.same.2, de.same.3) at fe.flushed_if in
    let lens₁ : (length f.new.self.nodes.now ≡ length s.nodes.now) × (length f.new.self.operations.now ≡ length s.operations.now) × (length f.new.self.frame.now ≡ length s.frame.now) = (fe.stays.7 ∙ ap (λ l. length l) de.same.0, fe.stays.8 ∙ ap (λ l. length l) de.same.1, fe.stays.9 ∙ ap (λ l. length l) de.same.2) in
    let did = rw (fe.stays.4, de.stays.4, fe.same.1, de.same.4, read.kind, read.operands.0, read.operands.1, read.operands.2) at we.did in
    let gave : w.new.self.given ≡ s.given + measures_of gate.kind = we.gave ∙ rw (fe.same.1, de.same.4) in
    let measured = rw read.kind at gave in (
      stays_on a.self.now f.new.self w.new.self (stays_on a.self.now d.new.self f.new.self (stays_on a.self.now s d.new.self inv.0 de.stays) fe.stays) we.stays,
      rw (we.stays.4, fe.stays.4, de.stays.4, we.stays.6, fe.stays.6, de.stays.6, we.same, fe.same.0)
          (write_more s.qubits s.cap narrow gs _ _ _ _ _ _ _ _ _ _ _ _ _ inv.1 c.loop-p-test.true fits s.few room (inv.0.7, inv.0.8, s.images) d.result planes.0 _ _ _ _ _ (flushed inv.1.pending.count inv.1.pending.ends) lens₁
          _ _ _ did.ran did.sized _ _ _ _ _ _ _ _ did.wrote planes.1 measured c.choose-place.ensures (λ on off. rw (← s.parts) ((rw inv.0.11 at de.since_2) on off)) c.position_after-p.ensures),
    )
