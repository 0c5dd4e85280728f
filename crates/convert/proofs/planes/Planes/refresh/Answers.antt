use borrow.Author.Tests.{not-true, not-false}
use Rattle.convert.proofs.planes.Planes.refresh.Goals as goal

pub returns-then-not-flushed-clause-after : goal.returns-then-not-flushed-clause-after
returns-then-not-flushed-clause-after c = rw (not-true c.args.flushed c.if-not-flushed.true-raw)

pub returns-clause-after : goal.returns-clause-after
returns-clause-after c =
    let f = not-false c.args.flushed c.if-not-flushed.false-raw in
    rw f c.reset.ensures.after
