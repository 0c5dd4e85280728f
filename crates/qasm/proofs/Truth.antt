-- Truth values: what a test of two tells of each.
use mathlib.Core.Path.{◌≡◌, refl}
use mathlib.Core.Bool.{Bool, true, false, ◌&&◌, ◌||◌}
use Prim.Native.Nat.{ℕ}
use native.Mathlib.Omega.{arith}

pub and_left : (s t : Bool) → s && t ≡ true → s ≡ true
and_left true t e = refl
and_left false t e = e

pub and_right : (s t : Bool) → s && t ≡ true → t ≡ true
and_right true t e = e
and_right false t e = absurd (no e)
  where
    no : false ≡ true → ⊥
    no e = let z : ◌≡◌ {A = ℕ} 0 1 = cc in omega arith

pub or_elim : {C : Type 0} (s t : Bool) → s || t ≡ true → (s ≡ true → C) → (t ≡ true → C) → C
or_elim true t e f g = f refl
or_elim false t e f g = g e

pub or-false : (t : Bool) → t || false ≡ t
or-false true = refl
or-false false = refl

pub or_assoc : (s t u : Bool) → (s || t) || u ≡ s || (t || u)
or_assoc true t u = refl
or_assoc false t u = refl
