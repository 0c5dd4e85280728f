-- `refuse_if` meets its contract.
use mathlib.Core.Path.{refl}
use Rattle.arena.specs.Errors.{◌⟫◌⇒◌}
use Rattle.arena.proofs.error.refuse_if.Goals as goal

pub returns-then-test : goal.returns-then-test
unfolding ◌⟫◌⇒◌
returns-then-test c = rw c.if-test.true refl

pub returns-else-test : goal.returns-else-test
unfolding ◌⟫◌⇒◌
returns-else-test c = rw c.if-test.false refl
