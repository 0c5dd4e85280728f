-- The entry of a table at a kind's number.
use mathlib.Core.Path.{◌≡◌}
use Prim.Native.Nat.{ℕ, ◌<◌}
use lib.ListN.{get_or}
use Rattle.convert.specs.Records.{GateKind, Unsupported, kinds, kind_of}
use Rattle.convert.specs.Code.Tables.{table_of}
use Rattle.convert.proofs.Counts.Parts.{map_at}

pub table_at : (f : GateKind → ℕ) (number : ℕ) → number < 21 → get_or (table_of f) number 0 ≡ f (kind_of number)
unfolding kind_of
table_at f number h = map_at f kinds number Unsupported 0 h
