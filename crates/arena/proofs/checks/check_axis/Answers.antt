-- kept: the check does not find these alone: its attribute `unfolding` takes no operator, and `◌⟫◌⇒◌` is one
-- `check_axis` meets its contract, check by check.
use Rattle.std.proofs.Common.{rules}
use Rattle.arena.specs.Errors.{◌⟫◌⇒◌}
use Rattle.arena.proofs.checks.check_axis.Goals as goal

pub returns-in_err-refuse_if : goal.returns-in_err-refuse_if
unfolding ◌⟫◌⇒◌
returns-in_err-refuse_if c = search rules

pub returns : goal.returns
unfolding ◌⟫◌⇒◌
returns c = search rules
