-- kept: the check does not find these alone: its attribute `unfolding` takes no operator, and `◌⟫◌⇒◌` is one
-- `then_refuse_if` meets its contract.
use Rattle.std.proofs.Common.{rules}
use Rattle.arena.specs.Errors.{◌⟫◌⇒◌}
use Rattle.arena.proofs.error.then_refuse_if.Goals as goal

pub returns-in_err-checked : goal.returns-in_err-checked
unfolding ◌⟫◌⇒◌
returns-in_err-checked c = search rules
