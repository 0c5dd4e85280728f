use native.Mathlib.Omega.{arith}
use borrow.Author.Tests.{not-true, not-false}
use mathlib.Core.Path.{◌≡◌, refl}
use mathlib.Core.Bool.{false}
use denote.Param.{number}
use Rattle.convert.specs.contracts.planes.Planes.refresh_since.{NARROW-type}
use Rattle.convert.proofs.planes.Planes.refresh_since.Goals as goal

pub returns-then-not-flushed-clause-after : goal.returns-then-not-flushed-clause-after
returns-then-not-flushed-clause-after g c = rw (not-true c.args.flushed c.if-not-flushed.true-raw)

pub returns-then-this-ne0-clause-after : goal.returns-then-this-ne0-clause-after
returns-then-this-ne0-clause-after g c = rw (not-false c.args.flushed c.if-not-flushed.false-raw) c.reset.ensures.after

pub overflow_sub-to : goal.overflow_sub-to
overflow_sub-to g c =
    let off : NARROW-type (number g.row.NARROW) ≡ false = rw c.if-this-ne0.false refl in
    omega (arith, c.requires.from_le_to.0 off)

pub returns-then-self-to-clause-after : goal.returns-then-self-to-clause-after
returns-then-self-to-clause-after g c = rw (not-false c.args.flushed c.if-not-flushed.false-raw) c.reset-then-self-to.ensures.after

pub restore_since-requires-clause-from_le_to : goal.restore_since-requires-clause-from_le_to
restore_since-requires-clause-from_le_to g c =
    let off : NARROW-type (number g.row.NARROW) ≡ false = rw c.if-this-ne0.false refl in
    (c.requires.from_le_to.0 off, c.requires.from_le_to.1)

pub restore_since-requires-clause-since : goal.restore_since-requires-clause-since
restore_since-requires-clause-since g c =
    let off : NARROW-type (number g.row.NARROW) ≡ false = rw c.if-this-ne0.false refl in
    c.requires.since off

pub returns-clause-after : goal.returns-clause-after
returns-clause-after g c = rw (not-false c.args.flushed c.if-not-flushed.false-raw) c.restore_since.ensures.after
