-- Whose a record of the pool is while a walk runs, read off the scratch words, the pool words and the values in hand alone.
use Rattle.std.specs.Prelude.{ℕ, zero, suc, ◌<◌, List}
use Rattle.arena.specs.PoolRuns.{Reached}
use Rattle.arena.specs.Code.Results.{Ledger, Value}
use Rattle.arena.specs.Code.WalkWords.{uses_at, value_at, head_in, count_in}

-- node i has a value and a use left, and r is a record of the value
pub record OfNode (l p : List ℕ) (i r : ℕ) : Type 0 where
  pub used : 0 < uses_at l i
  pub valued : 0 < value_at l i
  pub reached : Reached p (head_in (value_at l i)) (count_in (value_at l i)) r

-- r is a record of the value v
abbrev pub OfValue : List ℕ → Value → ℕ → Type 0
OfValue p v r = Reached p v.head v.count r

-- r is on the free list
abbrev pub Spare : List ℕ → Ledger → ℕ → Type 0
Spare p left r = Reached p left.free left.spare r

-- the factors of a value, by its uses left and its word, where it stands
abbrev pub standing : ℕ → ℕ → ℕ
standing zero w = 0
standing (suc u) zero = 0
standing (suc u) (suc w) = count_in (suc w)

-- those of node j's
abbrev pub factors_at : List ℕ → ℕ → ℕ
factors_at l j = standing (uses_at l j) (value_at l j)
