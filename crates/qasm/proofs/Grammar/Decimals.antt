-- Numbers: the decimal of a value, and the value of a decimal.
use mathlib.Core.Path.{◌≡◌, refl, ap, ap₂, sym, ◌∙◌, subst}
use mathlib.Core.Bool.{Bool, true, false, cond, ◌&&◌, ◌||◌, not}
use mathlib.Core.List.{List, [], ◌∷◌, ◌++◌, append_assoc, append-nil}
use Prim.Native.Nat.{ℕ, zero, suc, ◌+◌, ◌-◌, ◌*◌, ◌/◌, ◌%◌, ◌^◌, ◌≤◌, ◌<◌}
use native.Mathlib.Nat.{pow-suc}
use native.Mathlib.Omega.{arith}
use lib.Dec.{eqb, leb, ltb}
use lib.ListN.{length, length-append}
use borrow.Author.Tests.{ltb-true, ltb-false, lt-ltb, le-ltb, leb-true, le-leb, eqb-true, eqb-false, ne_eqb}
use Rattle.qasm.specs.Bytes.{digit, begins, every}
use Rattle.qasm.specs.Tokens.{decimal_by}
use Rattle.qasm.specs.Reading.{value_of, plain_number}
use Rattle.qasm.proofs.Truth.{and_left, and_right}

value_snoc : (v : ℕ) (ds : List ℕ) (d : ℕ) → value_of v (ds ++ (d ∷ [])) ≡ 10 * value_of v ds + (d - 48)
value_snoc v [] d = refl
value_snoc v (e ∷ ds) d = value_snoc (10 * v + (e - 48)) ds d

every-snoc : (f : ℕ → Bool) (ds : List ℕ) (d : ℕ) → every f ds ≡ true → f d ≡ true → every f (ds ++ (d ∷ [])) ≡ true
every-snoc f [] d e k = rw k
every-snoc f (b ∷ ds) d e k = rw (and_left (f b) (every f ds) e) (every-snoc f ds d (and_right (f b) (every f ds) e) k)

digit-of : (n : ℕ) → n < 10 → digit (48 + n) ≡ true
digit-of n h = rw (le-leb 48 (48 + n) (omega arith), le-leb (48 + n) 57 (omega arith))

less_ten : (v : ℕ) → v % 10 < 10
less_ten v = omega arith

-- every decimal is of digits
pub decimal_digits : (f v : ℕ) → every digit (decimal_by f v) ≡ true
decimal_digits zero v = refl
decimal_digits (suc f) v = go (ltb v 10) refl (decimal_digits f (v / 10))
  where
    go : (t : Bool) → ltb v 10 ≡ t → every digit (decimal_by f (v / 10)) ≡ true → every digit (cond t ((48 + v) ∷ []) (decimal_by f (v / 10) ++ ((48 + v % 10) ∷ []))) ≡ true
    go true e k = rw (digit-of v (ltb-true v 10 e))
    go false e k = every-snoc digit (decimal_by f (v / 10)) (48 + v % 10) k (digit-of (v % 10) (less_ten v))

-- and stands for its value
pub decimal_value : (f v : ℕ) → v < 10 ^ f → value_of 0 (decimal_by f v) ≡ v
decimal_value zero v h = omega arith
decimal_value (suc f) v h = go (ltb v 10) refl (decimal_value f (v / 10))
  where
    tenth : v < 10 ^ suc f → v / 10 < 10 ^ f
    tenth h = fall (10 ^ f) (subst (λ z. v < z) (pow-suc 10 f) h)
      where
        fall : (z : ℕ) → v < z * 10 → v / 10 < z
        fall z k = omega arith

    one : 10 * 0 + (48 + v - 48) ≡ v
    one = omega arith

    whole : (x : ℕ) → x ≡ v / 10 → 10 * x + (48 + v % 10 - 48) ≡ v
    whole x e = omega arith

    go : (t : Bool) → ltb v 10 ≡ t → (v / 10 < 10 ^ f → value_of 0 (decimal_by f (v / 10)) ≡ v / 10) → value_of 0 (cond t ((48 + v) ∷ []) (decimal_by f (v / 10) ++ ((48 + v % 10) ∷ []))) ≡ v
    go true e k = one
    go false e k = value_snoc 0 (decimal_by f (v / 10)) (48 + v % 10) ∙ whole (value_of 0 (decimal_by f (v / 10))) (k (tenth h))

-- one digit more
pub decimal_more : (f u d : ℕ) → 1 ≤ u → d < 10 → decimal_by (suc f) (10 * u + d) ≡ decimal_by f u ++ ((48 + d) ∷ [])
decimal_more f u d h k = go (ltb (10 * u + d) 10) (le-ltb (10 * u + d) 10 (omega arith))
  where
    up : (10 * u + d) / 10 ≡ u
    up = omega arith

    low : (10 * u + d) % 10 ≡ d
    low = omega arith

    go : (t : Bool) → t ≡ false → cond t ((48 + (10 * u + d)) ∷ []) (decimal_by f ((10 * u + d) / 10) ++ ((48 + (10 * u + d) % 10) ∷ [])) ≡ decimal_by f u ++ ((48 + d) ∷ [])
    go t e = rw (e, up, low)

-- ---- more room changes nothing

tenth : (v z : ℕ) → v < z * 10 → v / 10 < z
tenth v z k = omega arith

fuel_once : (f v : ℕ) → 1 ≤ f → v < 10 ^ f → decimal_by (suc f) v ≡ decimal_by f v
fuel_once zero v k h = absurd (omega arith)
fuel_once (suc g) v k h = go (ltb v 10) refl (fuel_once g (v / 10))
  where
    some : (g : ℕ) → v < 10 ^ suc g → ltb v 10 ≡ false → 1 ≤ g
    some zero h e = absurd (omega (arith, ltb-false v 10 e))
    some (suc g) h e = omega arith

    go : (t : Bool) → ltb v 10 ≡ t → (1 ≤ g → v / 10 < 10 ^ g → decimal_by (suc g) (v / 10) ≡ decimal_by g (v / 10))
        → cond t ((48 + v) ∷ []) (decimal_by (suc g) (v / 10) ++ ((48 + v % 10) ∷ [])) ≡ cond t ((48 + v) ∷ []) (decimal_by g (v / 10) ++ ((48 + v % 10) ∷ []))
    go true e i = refl
    go false e i = ap (λ z. z ++ ((48 + v % 10) ∷ [])) (i (some g h e) (tenth v (10 ^ g) (subst (λ z. v < z) (pow-suc 10 g) h)))

grow : (f v : ℕ) → v < 10 ^ f → v < 10 ^ suc f
grow f v h = rw (pow-suc 10 f) (wide (10 ^ f) h)
  where
    wide : (z : ℕ) → v < z → v < z * 10
    wide z h = omega arith

fuel_more : (k f v : ℕ) → 1 ≤ f → v < 10 ^ f → (decimal_by (k + f) v ≡ decimal_by f v) × (v < 10 ^ (k + f))
fuel_more zero f v e h = (ap (λ z. decimal_by z v) (none f), subst (λ z. v < 10 ^ z) (sym (none f)) h)
  where
    none : (f : ℕ) → 0 + f ≡ f
    none f = omega arith
fuel_more (suc k) f v e h = (
  ap (λ z. decimal_by z v) (out k f) ∙ fuel_once (k + f) v (omega arith) (fuel_more k f v e h).1
      ∙ (fuel_more k f v e h).0,
  subst (λ z. v < 10 ^ z) (sym (out k f)) (grow (k + f) v (fuel_more k f v e h).1),
)
  where
    out : (k f : ℕ) → suc k + f ≡ suc (k + f)
    out k f = omega arith

-- ---- digits read are the decimal of their value

digit_low : (d : ℕ) → digit d ≡ true → 48 ≤ d
digit_low d e = leb-true 48 d (and_left (leb 48 d) (leb d 57) e)

digit-high : (d : ℕ) → digit d ≡ true → d ≤ 57
digit-high d e = leb-true d 57 (and_right (leb 48 d) (leb d 57) e)

record Runs (f u : ℕ) (us : List ℕ) : Type 0 where
  pub some : 1 ≤ u
  pub small : u < 10 ^ f
  pub spells : decimal_by f u ≡ us

run-digit : (f u d : ℕ) (us : List ℕ) → digit d ≡ true → Runs f u us → Runs (suc f) (10 * u + (d - 48)) (us ++ (d ∷ []))
run-digit f u d us e r = record {
  some = up r.some;
  small = rw (pow-suc 10 f) (wide (10 ^ f) r.small (digit-high d e));
  spells = decimal_more f u (d - 48) r.some (under (digit-high d e)) ∙ ap₂ (λ x y. x ++ (y ∷ [])) r.spells (again (digit_low d e));
}
  where
    up : 1 ≤ u → 1 ≤ 10 * u + (d - 48)
    up h = omega arith

    wide : (z : ℕ) → u < z → d ≤ 57 → 10 * u + (d - 48) < z * 10
    wide z h k = omega arith

    under : d ≤ 57 → d - 48 < 10
    under h = omega arith

    again : 48 ≤ d → 48 + (d - 48) ≡ d
    again h = omega arith

run_digits : (ds : List ℕ) (f u : ℕ) (us : List ℕ) → every digit ds ≡ true → Runs f u us → Runs (length ds + f) (value_of u ds) (us ++ ds)
run_digits [] f u us e r = subst (λ z. Runs z u (us ++ [])) (sym (none f)) (subst (λ z. Runs f u z) (sym (append-nil us)) r)
  where
    none : (f : ℕ) → 0 + f ≡ f
    none f = omega arith
run_digits (d ∷ ds) f u us e r = subst (λ z. Runs z (value_of (10 * u + (d - 48)) ds) (us ++ (d ∷ ds))) (shift (length ds) f) (subst (λ z. Runs (length ds + suc f)
    (value_of (10 * u + (d - 48)) ds) z) (append_assoc us (d ∷ []) ds)
    (run_digits ds (suc f) (10 * u + (d - 48)) (us ++ (d ∷ [])) (and_right (digit d) (every digit ds) e) (run-digit f u d us (and_left (digit d) (every digit ds) e) r)))
  where
    shift : (n f : ℕ) → n + suc f ≡ suc n + f
    shift n f = omega arith

pub digits_decimal : (b : ℕ) (r : List ℕ) → every digit (b ∷ r) ≡ true → (b ≡ 48 → ⊥) → length r ≤ 9 → decimal_by 10 (value_of 0 (b ∷ r)) ≡ b ∷ r
digits_decimal b r e ne h = ap (λ z. decimal_by z (value_of 0 (b ∷ r))) (ten (length r) h) ∙ (fuel_more (9 - length r) (length r + 1) (value_of 0 (b ∷ r)) (omega arith) R.small).0 ∙ R.spells
  where
    ten : (n : ℕ) → n ≤ 9 → 10 ≡ 9 - n + (n + 1)
    ten n h = omega arith

    low : 48 ≤ b
    low = digit_low b (and_left (digit b) (every digit r) e)

    high : b ≤ 57
    high = digit-high b (and_left (digit b) (every digit r) e)

    start : Runs 1 (10 * 0 + (b - 48)) (b ∷ [])
    start = record { some = omega (arith, low); small = omega (arith, high); spells = one (ltb (10 * 0 + (b - 48)) 10) (lt-ltb (10 * 0 + (b - 48)) 10 (omega (arith, high))) }
      where
        one : (t : Bool) → t ≡ true → cond t ((48 + (10 * 0 + (b - 48))) ∷ []) (decimal_by 0 ((10 * 0 + (b - 48)) / 10) ++ ((48 + (10 * 0 + (b - 48)) % 10) ∷ [])) ≡ b ∷ []
        one t k = rw k (ap (λ z. z ∷ []) (omega (arith, low)))

    R : Runs (length r + 1) (value_of (10 * 0 + (b - 48)) r) (b ∷ r)
    R = run_digits r 1 (10 * 0 + (b - 48)) (b ∷ []) (and_right (digit b) (every digit r) e) start

-- ---- a decimal's size and first digit

decimal-length : (f v : ℕ) → (1 ≤ length (decimal_by (suc f) v)) × (length (decimal_by (suc f) v) ≤ suc f)
decimal-length zero v = go (ltb v 10)
  where
    go : (t : Bool) → (1 ≤ length (cond t ((48 + v) ∷ []) ([] ++ ((48 + v % 10) ∷ [])))) × (length (cond t ((48 + v) ∷ []) ([] ++ ((48 + v % 10) ∷ []))) ≤ 1)
    go true = (omega arith, omega arith)
    go false = (omega arith, omega arith)
decimal-length (suc g) v = go (ltb v 10) (decimal-length g (v / 10))
  where
    go : (t : Bool) → (1 ≤ length (decimal_by (suc g) (v / 10))) × (length (decimal_by (suc g) (v / 10)) ≤ suc g)
        → (1 ≤ length (cond t ((48 + v) ∷ []) (decimal_by (suc g) (v / 10) ++ ((48 + v % 10) ∷ [])))) × (length (cond t ((48 + v) ∷ []) (decimal_by (suc g) (v / 10) ++
        ((48 + v % 10) ∷ []))) ≤ suc (suc g))
    go true i = (omega arith, omega arith)
    go false i = rw (length-append (decimal_by (suc g) (v / 10)) ((48 + v % 10) ∷ [])) (omega (arith, i.0), omega (arith, i.1))

data Led : List ℕ → Type 0 where
  led : {b : ℕ} {r : List ℕ} → eqb b 48 ≡ false → Led (b ∷ r)

led-more : {ds : List ℕ} (es : List ℕ) → Led ds → Led (ds ++ es)
led-more es (led e) = led e

decimal-led : (f v : ℕ) → 1 ≤ v → v < 10 ^ f → Led (decimal_by f v)
decimal-led zero v h k = absurd (omega arith)
decimal-led (suc f) v h k = go (ltb v 10) refl (decimal-led f (v / 10))
  where
    go : (t : Bool) → ltb v 10 ≡ t → (1 ≤ v / 10 → v / 10 < 10 ^ f → Led (decimal_by f (v / 10))) → Led (cond t ((48 + v) ∷ []) (decimal_by f (v / 10) ++ ((48 + v % 10) ∷ [])))
    go true e i = led (ne_eqb (48 + v) 48 (λ x. omega arith))
    go false e i = led-more ((48 + v % 10) ∷ []) (i (omega (arith, ltb-false v 10 e)) (tenth v (10 ^ f) (subst (λ z. v < z) (pow-suc 10 f) k)))

-- ---- a decimal is a plain number

plain-led : (ds : List ℕ) → Led ds → 1 ≤ length ds → length ds ≤ 10 → value_of 0 ds ≤ 4294967295 → plain_number ds ≡ true
plain-led ds l h k m = rw (le-leb 1 (length ds) h, le-leb (length ds) 10 k, le-leb (value_of 0 ds) 4294967295 m, starts l) (last (eqb (length ds) 1))
  where
    starts : {es : List ℕ} → Led es → begins (λ a. eqb a 48) es ≡ false
    starts (led e) = e

    last : (s : Bool) → (true && true && (s || not false) && true) ≡ true
    last true = refl
    last false = refl

pub plain_decimal : (v : ℕ) → v < 4294967296 → plain_number (decimal_by 10 v) ≡ true
plain_decimal zero h = refl
plain_decimal (suc u) h = plain-led (decimal_by 10 (suc u)) (decimal-led 10 (suc u) (omega arith) (omega arith)) (decimal-length 9 (suc u)).0 (decimal-length 9
    (suc u)).1 (rw (decimal_value 10 (suc u) (omega arith)) (omega arith))

pub decimal_some : (v : ℕ) → 1 ≤ length (decimal_by 10 v)
decimal_some v = (decimal-length 9 v).0

-- ---- and every plain number is a decimal

pub plain_is_decimal : (ds : List ℕ) → every digit ds ≡ true → plain_number ds ≡ true → (decimal_by 10 (value_of 0 ds) ≡ ds) × (value_of 0 ds < 4294967296)
plain_is_decimal [] e p = absurd (let z : ◌≡◌ {A = ℕ} 0 1 = cc in omega arith)
plain_is_decimal (d ∷ ds) e p = (
  go (eqb d 48) refl (and_right (leb 1 (suc (length ds)) && leb (suc (length ds)) 10) (eqb (suc (length ds)) 1 || not
      (eqb d 48)) front),
  under (leb-true (value_of 0 (d ∷ ds)) 4294967295 (and_right (leb 1 (suc (length ds)) && leb (suc (length ds)) 10 && (eqb (suc
      (length ds)) 1 || not (eqb d 48))) (leb (value_of 0 (d ∷ ds)) 4294967295) p)),
)
  where
    under : value_of 0 (d ∷ ds) ≤ 4294967295 → value_of 0 (d ∷ ds) < 4294967296
    under h = omega arith

    front : leb 1 (suc (length ds)) && leb (suc (length ds)) 10 && (eqb (suc (length ds)) 1 || not (eqb d 48)) ≡ true
    front = and_left (leb 1 (suc (length ds)) && leb (suc (length ds)) 10 && (eqb (suc (length ds)) 1 || not (eqb d 48))) (leb (value_of 0 (d ∷ ds)) 4294967295) p

    few : length ds ≤ 9
    few = less (leb-true (suc (length ds)) 10 (and_right (leb 1 (suc (length ds))) (leb (suc (length ds)) 10) (and_left (leb 1 (suc (length ds)) && leb (suc
        (length ds)) 10) (eqb (suc (length ds)) 1 || not (eqb d 48)) front)))
      where
        less : suc (length ds) ≤ 10 → length ds ≤ 9
        less h = omega arith

    alone : (es : List ℕ) → suc (length es) ≡ 1 → es ≡ []
    alone [] h = refl
    alone (b ∷ es) h = absurd (omega arith)

    or-false : (s : Bool) → s || false ≡ true → s ≡ true
    or-false true x = refl
    or-false false x = x

    go : (t : Bool) → eqb d 48 ≡ t → eqb (suc (length ds)) 1 || not t ≡ true → decimal_by 10 (value_of 0 (d ∷ ds)) ≡ d ∷ ds
    go true k x = rw (eqb-true d 48 k, alone ds (eqb-true (suc (length ds)) 1 (or-false (eqb (suc (length ds)) 1) x)))
    go false k x = digits_decimal d ds e (eqb-false d 48 k) few
