-- kept: the check does not find this alone: its attribute `unfolding` takes no operator, and `◌⟫◌⇒◌` is one
-- `check_words` meets its contract.
use Rattle.std.proofs.Common.{rules}
use Rattle.arena.specs.Errors.{◌⟫◌⇒◌}
use Rattle.arena.proofs.checks.check_words.Goals as goal

pub returns : goal.returns
unfolding ◌⟫◌⇒◌
returns c = search rules
