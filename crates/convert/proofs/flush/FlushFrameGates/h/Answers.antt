use mathlib.Core.Path.{ap, ◌∙◌}
use Rattle.pauli.specs.Gates.{gate_h}
use Rattle.arena.specs.Operations.{rotate_words}
use Rattle.convert.specs.Words.{id_x, id_z}
use Rattle.convert.specs.Code.Raw.{put_op, put_flush}
use Rattle.convert.specs.Code.Flush.{stays_on}
use Rattle.convert.proofs.Buffers.Flush.{gate_flushed}
use Rattle.convert.proofs.flush.FlushFrameGates.h.Goals as goal

pub returns : goal.returns
unfolding put_flush
returns c =
    let first = c.rotate.ensures in
    let second = c.rotate-2.ensures in
    let third = c.rotate-3.ensures in
    let s = c.args.self.now in
    let q = c.args.q in
    let one = rw c.id_z.ensures at first.after in
    let two = rw (c.id_x.ensures, first.stays.2) at second.after in
    let three = rw (c.id_z-2.ensures, second.stays.2, first.stays.2) at third.after in
    let all = three ∙ ap (put_op (rotate_words (id_z q) 2 s.gate)) (two ∙ ap (put_op (rotate_words (id_x q) 2 s.gate)) one) in
    (gate_flushed s.gate (gate_h q) all, stays_on s c.rotate.new.self c.rotate-3.new.self first.stays (stays_on c.rotate.new.self c.rotate-2.new.self c.rotate-3.new.self second.stays third.stays))
