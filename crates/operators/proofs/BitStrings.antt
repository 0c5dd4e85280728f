-- Strings of bits: flips, and when two are the same.
use mathlib.Core.Path.{◌≡◌, refl, ap, ap₂, sym}
use mathlib.Core.Logic.{◌≢◌}
use mathlib.Core.Bool.{Bool, true, false, not, ◌&&◌, beq}
use Prim.Native.Nat.{ℕ, zero, suc, ◌<◌}
use native.Mathlib.Omega.{arith}
use Rattle.operators.specs.Model.{BitString, bit_at, flip_at, same_bits}

pub flip_back : (n q : ℕ) (s t : BitString n) → same_bits n (flip_at n q s) t ≡ same_bits n s (flip_at n q t)
flip_back zero q s t = refl
flip_back (suc n) zero s t = ap (λ b. b && same_bits n s.1 t.1) (turned s.0 t.0)
  where
    turned : (x y : Bool) → beq (not x) y ≡ beq x (not y)
    turned true true = refl
    turned true false = refl
    turned false true = refl
    turned false false = refl
flip_back (suc n) (suc q) s t = ap (λ b. beq s.0 t.0 && b) (flip_back n q s.1 t.1)

pub same_sound : (n : ℕ) (s t : BitString n) → same_bits n s t ≡ true → s ≡ t
same_sound zero s t e = refl
same_sound (suc n) s t e =
    let l : beq s.0 t.0 ≡ true = left (beq s.0 t.0) (same_bits n s.1 t.1) e in
    let r : same_bits n s.1 t.1 ≡ true = right (beq s.0 t.0) (same_bits n s.1 t.1) e in
    ap₂ (λ b u. (b, u)) (bits s.0 t.0 l) (same_sound n s.1 t.1 r)
  where
    left : (x y : Bool) → (x && y) ≡ true → x ≡ true
    left true y e = refl
    left false y e = e

    right : (x y : Bool) → (x && y) ≡ true → y ≡ true
    right true y e = e
    right false true e = refl
    right false false e = e

    bits : (x y : Bool) → beq x y ≡ true → x ≡ y
    bits true true e = refl
    bits true false e = sym e
    bits false true e = e
    bits false false e = refl

pub same_self : (n : ℕ) (s : BitString n) → same_bits n s s ≡ true
same_self zero s = refl
same_self (suc n) s = ap₂ ◌&&◌ (self s.0) (same_self n s.1)
  where
    self : (x : Bool) → beq x x ≡ true
    self true = refl
    self false = refl

pub bit_other : (n a b : ℕ) → a ≢ b → (s : BitString n) → bit_at n b (flip_at n a s) ≡ bit_at n b s
bit_other zero a b ne s = refl
bit_other (suc n) zero zero ne s = absurd (ne refl)
bit_other (suc n) zero (suc b) ne s = refl
bit_other (suc n) (suc a) zero ne s = refl
bit_other (suc n) (suc a) (suc b) ne s = bit_other n a b (λ e. ne (ap suc e)) s.1

pub bit_flipped : (n q : ℕ) → q < n → (s : BitString n) → bit_at n q (flip_at n q s) ≡ not (bit_at n q s)
bit_flipped zero q h s = absurd (omega arith)
bit_flipped (suc n) zero h s = refl
bit_flipped (suc n) (suc q) h s = bit_flipped n q (omega arith) s.1
