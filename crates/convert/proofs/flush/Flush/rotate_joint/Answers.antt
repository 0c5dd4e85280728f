use mathlib.Core.Path.{ap, ◌∙◌}
use Prim.Native.Nat.{◌*◌}
use Rattle.arena.specs.Operations.{rotate_words}
use Rattle.convert.specs.Code.Raw.{put_op, put_joint}
use Rattle.convert.proofs.flush.Flush.rotate_joint.Goals as goal

pub returns-clause-after : goal.returns-clause-after
unfolding put_joint
returns-clause-after c =
    let a = c.args in
    let s = c.args.self.now in
    let first = c.rotate.ensures in
    let second = c.rotate-2.ensures in
    let third = c.rotate-3.ensures in
    let one = rw (c.push-self.ensures.0, c.push-self.ensures.1) at first.after in
    let two = rw first.stays.2 at second.after in
    let three = rw (second.stays.2, first.stays.2) at third.after in
    three ∙ ap (put_op (rotate_words (4 * s.used.nodes) 6 s.gate)) (two ∙ ap (put_op (rotate_words a.right 2 s.gate)) one)
