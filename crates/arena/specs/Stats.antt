-- A charge of work against a limit (document 01, "Factor pool and work"): work equal to the limit passes, and a refusal adds nothing.
use Rattle.std.specs.Prelude.{cond, ℕ, ◌+◌, leb, Result, Ok}
use Rattle.arena.specs.Errors.{PbcError, ExpansionLimit}
pub use Rattle.arena.specs.declared.stats.ExpansionStats.{ExpansionStats}
pub use Rattle.std.specs.Prelude.{Err as Refused}

abbrev pub Charged : Type 0
Charged = Result (Unit {0}) PbcError

pattern abbrev pub Within : Charged
Within = Ok tt

unfoldable pub work_after : (work limit amount : ℕ) → ℕ
work_after work limit amount = cond (leb (work + amount) limit) (work + amount) work

unfoldable pub charge_answer : (work limit amount : ℕ) → Charged
charge_answer work limit amount = cond (leb (work + amount) limit) Within (Refused ExpansionLimit)

-- the limit stays
abbrev pub stats_after : ExpansionStats → ℕ → ExpansionStats
stats_after s amount = record { work = work_after s.work s.limit amount; limit = s.limit }
