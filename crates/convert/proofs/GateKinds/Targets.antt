-- The classical bits that the records of a list measure into.
use mathlib.Core.Path.{◌≡◌, refl, ap}
use mathlib.Core.List.{List, [], ◌∷◌}
use Prim.Native.Nat.{ℕ, zero, suc, ◌+◌}
use native.Mathlib.Nat.{add-zero}
use native.Mathlib.Omega.{arith}
use lib.ListN.{length, take, drop}
use Rattle.convert.specs.Types.{Checked}
use Rattle.convert.specs.Records.{Record, records}
use Rattle.convert.specs.Conversion.{taken_with, record_checked, records_checked}

-- those taken before, then those of the records, the last one first
abbrev pub taken_in : List Record → List ℕ → List ℕ
taken_in [] taken = taken
taken_in (r ∷ rs) taken = taken_in rs (taken_with r taken)

-- the checks of the first m records, then of the rest
pub checks_split : (k : Checked) (n cbits i : ℕ) (taken : List ℕ) (rs : List Record) (m : ℕ)
    → records_checked k n cbits i taken rs ≡ records_checked (records_checked k n cbits i taken (take m rs)) n cbits (i + m) (taken_in (take m rs) taken) (drop m rs)
unfolding records_checked
checks_split k n cbits i taken [] zero = refl
checks_split k n cbits i taken [] (suc m) = refl
checks_split k n cbits i taken (r ∷ rs) zero = rw (add-zero i)
checks_split k n cbits i taken (r ∷ rs) (suc m) =
    let e : suc i + m ≡ i + suc m = omega arith in
    rw (← e) (checks_split (record_checked k n cbits i taken r) n cbits (suc i) (taken_with r taken) rs m)

-- of the first i records
abbrev pub taken_to : List ℕ → ℕ → List ℕ
taken_to gs i = taken_in (take i (records gs)) []

pub taken_more : (rs rest : List Record) (r : Record) (i : ℕ) (taken : List ℕ) → drop i rs ≡ r ∷ rest → taken_in (take (suc i) rs) taken ≡ taken_with r (taken_in (take i rs) taken)
taken_more [] rest r i taken e = absurd (differ i e)
  where
    differ : (i : ℕ) → drop i [] ≡ r ∷ rest → ⊥
    differ zero e = let z : ◌≡◌ {A = ℕ} 0 (suc (length rest)) = ap length e in omega arith
    differ (suc i) e = let z : ◌≡◌ {A = ℕ} 0 (suc (length rest)) = ap length e in omega arith
taken_more (q ∷ rs) rest r zero taken e = rw (first e)
  where
    first : q ∷ rs ≡ r ∷ rest → q ≡ r
    first e = cc
taken_more (q ∷ rs) rest r (suc i) taken e = taken_more rs rest r i (taken_with q taken) e
