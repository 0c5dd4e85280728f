-- Weights: of one letter, of a product; and what a flush writes is light: each axis has weight at most 2 and sign +1, and each angle is even.
use mathlib.Core.Path.{◌≡◌, refl, ap, sym, subst}
use mathlib.Core.Logic.{◌≢◌}
use mathlib.Core.Bool.{Bool, true, false}
use mathlib.Core.List.{List, [], ◌∷◌, ◌++◌}
use Prim.Native.Nat.{ℕ, zero, suc, ◌+◌, ◌<◌, ◌≤◌, ◌%◌}
use native.Mathlib.Omega.{arith}
use lib.ListN.{set, replicate}
use Rattle.pauli.specs.Letters.{Pauli, One, I, X, Y, Z, ◌·◌}
use Rattle.pauli.specs.Rows.{products, ◌★◌, single, tally, present, weight}
use Rattle.pauli.specs.Gates.{Gate, gate_h, gate_x, gate_z, gate_s, gate_sdg, gate_cnot, gate_cz, Valid, AllValid}
use Rattle.pauli.specs.Rotations.{Rotation, Each, written, flush}
use Rattle.pauli.proofs.Short.{pair, pair_of}

tally-least : (b : Bool) (k : ℕ) → k ≤ tally b k
tally-least true k = omega arith
tally-least false k = omega arith

tally-most : (b : Bool) (k m : ℕ) → k ≤ m → tally b k ≤ suc m
tally-most true k m h = omega arith
tally-most false k m h = omega arith

tally-up : (b : Bool) (k m : ℕ) → k ≤ suc m → tally b k ≤ suc (tally b m)
tally-up true k m h = omega arith
tally-up false k m h = h

weight-set : (u : List Pauli) (q : ℕ) (a : Pauli) → weight (set u q a) ≤ suc (weight u)
weight-set [] q a = omega arith
weight-set (b ∷ u) zero a = tally-most (present a) (weight u) (weight (b ∷ u)) (tally-least (present b) (weight u))
weight-set (b ∷ u) (suc q) a = tally-up (present b) (weight (set u q a)) (weight u) (weight-set u q a)

-- a product has no letter where both factors have none
tally-product : (a b : Pauli) (x y z : ℕ) → x ≤ y + z → tally (present (a · b)) x ≤ tally (present a) y + tally (present b) z
tally-product I b x y z h = go (present b)
  where
    go : (c : Bool) → tally c x ≤ y + tally c z
    go true = omega arith
    go false = h
tally-product X b x y z h = omega (arith, tally-most (present (X · b)) x _ h, tally-least (present b) z)
tally-product Y b x y z h = omega (arith, tally-most (present (Y · b)) x _ h, tally-least (present b) z)
tally-product Z b x y z h = omega (arith, tally-most (present (Z · b)) x _ h, tally-least (present b) z)

pub weight-products : (us vs : List Pauli) → weight (products us vs) ≤ weight us + weight vs
weight-products [] vs = omega arith
weight-products (a ∷ us) [] = omega arith
weight-products (a ∷ us) (b ∷ vs) = tally-product a b _ (weight us) (weight vs) (weight-products us vs)

weight-I : (n : ℕ) → weight (replicate n I) ≡ 0
weight-I zero = refl
weight-I (suc n) = weight-I n

pub weight-single : (n q : ℕ) (a : Pauli) → weight (single n q a).letters ≤ 1
weight-single n q a = rw (weight-I n) at (weight-set (replicate n I) q a)

pub weight-pair : (n c t : ℕ) (a b : Pauli) → weight (pair n c t a b).letters ≤ 2
weight-pair n c t a b = omega (arith, weight-set (set (replicate n I) c a) t b, weight-single n c a)

abbrev Light : Rotation → Type 0
Light r = (weight r.axis.letters ≤ 2) × (r.axis.phase ≡ One) × (r.angle % 2 ≡ 0)

light-single : (n q : ℕ) (a : Pauli) → weight (single n q a).letters ≤ 2
light-single n q a = omega (arith, weight-single n q a)

light-pair : (n c t : ℕ) (b : Pauli) → c < n → t < n → c ≢ t → (weight (single n c Z ★ single n t b).letters ≤ 2) × ((single n c Z ★ single n t b).phase ≡ One)
light-pair n c t b hc ht ne =
    let e = pair_of n c t Z b hc ht ne in
    (subst (λ R. weight R.letters ≤ 2) (sym e) (weight-pair n c t Z b), ap (λ R. R.phase) e)

light-written : (n : ℕ) (g : Gate) → Valid n g → Each Light (written n g)
light-written n (gate_h q) v = ((light-single n q Z, refl, refl), ((light-single n q X, refl, refl), ((light-single n q Z, refl, refl), tt)))
light-written n (gate_x q) v = ((light-single n q X, refl, refl), tt)
light-written n (gate_z q) v = ((light-single n q Z, refl, refl), tt)
light-written n (gate_s q) v = ((light-single n q Z, refl, refl), tt)
light-written n (gate_sdg q) v = ((light-single n q Z, refl, refl), tt)
light-written n (gate_cnot c t) v = let p = light-pair n c t X v.0 v.1 v.2 in
    ((light-single n c Z, refl, refl), ((light-single n t X, refl, refl), ((p.0, p.1, refl), tt)))
light-written n (gate_cz c t) v = let p = light-pair n c t Z v.0 v.1 v.2 in
    ((light-single n c Z, refl, refl), ((light-single n t Z, refl, refl), ((p.0, p.1, refl), tt)))

each-++ : (A : Rotation → Type 0) (rs ss : List Rotation) → Each A rs → Each A ss → Each A (rs ++ ss)
each-++ A [] ss a b = b
each-++ A (r ∷ rs) ss a b = (a.0, each-++ A rs ss a.1 b)

pub flush-light : (n : ℕ) (gs : List Gate) → AllValid n gs → Each (λ r. (weight r.axis.letters ≤ 2) × (r.axis.phase ≡ One) × (r.angle % 2 ≡ 0)) (flush n gs)
unfolding flush
flush-light n [] v = tt
flush-light n (g ∷ gs) v = each-++ Light (written n g) (flush n gs) (light-written n g v.0) (flush-light n gs v.1)
