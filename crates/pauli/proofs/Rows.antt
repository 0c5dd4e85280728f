-- Rows under their product: associative, with an identity; any two commute up to a sign, which the places that anticommute decide.
use mathlib.Core.Path.{◌≡◌, refl, ap, ap₂, sym, ◌∙◌}
use mathlib.Core.Logic.Iff
use mathlib.Core.Logic.{◌↔◌}
use mathlib.Core.Bool.{Bool, true, false, not, cond, false≢true}
use mathlib.Core.List.{List, [], ◌∷◌}
use Prim.Native.Nat.{ℕ, zero, suc, ◌≤◌, ◌%◌}
use native.Mathlib.Nat.{le_of_suc-le-suc, not-suc-le-zero, suc_inj}
use native.Mathlib.Omega.{arith}
use lib.ListN.{length, replicate}
use Rattle.pauli.specs.Letters.{Pauli, I, Phase, One, PlusI, MinusOne, MinusI, ◌⊕◌, ◌·◌, phase_of, real}
use Rattle.pauli.specs.Rows.{Row, Width, products, phases, ◌★◌, scaled, identity, tally, anti, anti_places, odd, anticommute, minus_if}
use Rattle.pauli.specs.Bits.{◌xor◌}
use Rattle.pauli.proofs.Finite.{letters, truths, letter, phase, truth, law₁, law₂, law₃, law₄, ⊕-one, sums, ·-assoc, ·-comm, phase_of-assoc, phase_of-I}

pub row_eq : {P Q : Row} → P.letters ≡ Q.letters → P.phase ≡ Q.phase → P ≡ Q
row_eq p q = λ i. record { letters = p i; phase = q i }

middle : (p q r s : Phase) → (p ⊕ q) ⊕ (r ⊕ s) ≡ (p ⊕ r) ⊕ (q ⊕ s)
middle p q r s = simp sums

-- ---- associative

pub products-assoc : (u v w : List Pauli) → products (products u v) w ≡ products u (products v w)
products-assoc [] v w = refl
products-assoc (a ∷ u) [] w = refl
products-assoc (a ∷ u) (b ∷ v) [] = refl
products-assoc (a ∷ u) (b ∷ v) (c ∷ w) = ap₂ ◌∷◌ (·-assoc a b c) (products-assoc u v w)

pub phases-assoc : (u v w : List Pauli) → phases u v ⊕ phases (products u v) w ≡ phases v w ⊕ phases u (products v w)
phases-assoc [] v w = sym (⊕-one (phases v w))
phases-assoc (a ∷ u) [] w = refl
phases-assoc (a ∷ u) (b ∷ v) [] = ⊕-one _
phases-assoc (a ∷ u) (b ∷ v) (c ∷ w) =
    middle (phase_of a b) (phases u v) _ _ ∙ ap₂ ◌⊕◌ (phase_of-assoc a b c) (phases-assoc u v w) ∙ middle (phase_of b c) _ (phases v w) _

pub assoc : (P Q R : Row) → P ★ Q ★ R ≡ P ★ (Q ★ R)
assoc P Q R = row_eq (products-assoc P.letters Q.letters R.letters)
    (in-front P.phase Q.phase R.phase _ _ _ _ (phases-assoc P.letters Q.letters R.letters))
  where
    in-front : (p q r s t u v : Phase) → s ⊕ t ≡ u ⊕ v → p ⊕ q ⊕ s ⊕ r ⊕ t ≡ p ⊕ (q ⊕ r ⊕ u) ⊕ v
    in-front p q r s t u v e = simp sums (rw e)

-- ---- the identity row

pub products-I : (n : ℕ) (u : List Pauli) → n ≤ length u → products (replicate n I) u ≡ u
products-I zero u h = refl
products-I (suc n) [] h = absurd (not-suc-le-zero h)
products-I (suc n) (a ∷ u) h = ap (λ l. a ∷ l) (products-I n u (le_of_suc-le-suc h))

pub phases-I : (n : ℕ) (u : List Pauli) → phases (replicate n I) u ≡ One
phases-I zero u = refl
phases-I (suc n) [] = refl
phases-I (suc n) (a ∷ u) = phases-I n u

pub products-comm : (u v : List Pauli) → products u v ≡ products v u
products-comm [] [] = refl
products-comm [] (b ∷ v) = refl
products-comm (a ∷ u) [] = refl
products-comm (a ∷ u) (b ∷ v) = ap₂ ◌∷◌ (·-comm a b) (products-comm u v)

I-phases : (n : ℕ) (u : List Pauli) → phases u (replicate n I) ≡ One
I-phases zero [] = refl
I-phases zero (a ∷ u) = refl
I-phases (suc n) [] = refl
I-phases (suc n) (a ∷ u) = ap₂ ◌⊕◌ (phase_of-I a) (I-phases n u)

pub identity-left : (n : ℕ) (P : Row) → Width n P → identity n ★ P ≡ P
identity-left n P w = row_eq (products-I n P.letters (omega arith)) (ap (λ t. P.phase ⊕ t) (phases-I n P.letters) ∙ ⊕-one P.phase)

pub identity-right : (n : ℕ) (P : Row) → Width n P → P ★ identity n ≡ P
identity-right n P w = row_eq
    (products-comm P.letters (replicate n I) ∙ products-I n P.letters (omega arith))
    (ap (λ t. P.phase ⊕ One ⊕ t) (I-phases n P.letters) ∙ ⊕-one (P.phase ⊕ One) ∙ ⊕-one P.phase)

-- ---- a phase in front, and the width

pub scaled-left : (p : Phase) (P Q : Row) → scaled p P ★ Q ≡ scaled p (P ★ Q)
scaled-left p P Q = row_eq refl (simp sums)

pub scaled-right : (p : Phase) (P Q : Row) → P ★ scaled p Q ≡ scaled p (P ★ Q)
scaled-right p P Q = row_eq refl (simp sums)

length-products : (u v : List Pauli) (n : ℕ) → length u ≡ n → length v ≡ n → length (products u v) ≡ n
length-products [] v n p q = q
length-products (a ∷ u) [] n p q = p
length-products (a ∷ u) (b ∷ v) n p q = ap suc (length-products u v (length u) refl (suc_inj (q ∙ sym p))) ∙ p

pub width-★ : (n : ℕ) (P Q : Row) → Width n P → Width n Q → Width n (P ★ Q)
width-★ n P Q w k = length-products P.letters Q.letters n w k

-- ---- exchanging two rows

phase_of-swap : (a b : Pauli) → phase_of a b ≡ minus_if (anti a b) ⊕ phase_of b a
phase_of-swap = law₂ letters phase _ _ tt

minus_if-xor : (a b : Bool) → minus_if (a xor b) ≡ minus_if a ⊕ minus_if b
minus_if-xor = law₂ truths phase _ _ tt

pub odd-tally : (b : Bool) (n : ℕ) → odd (tally b n) ≡ (b xor odd n)
odd-tally true n = refl
odd-tally false n = refl

phases-swap : (u v : List Pauli) → phases u v ≡ minus_if (odd (anti_places u v)) ⊕ phases v u
phases-swap [] [] = refl
phases-swap [] (b ∷ v) = refl
phases-swap (a ∷ u) [] = refl
phases-swap (a ∷ u) (b ∷ v) =
    ap₂ ◌⊕◌ (phase_of-swap a b) (phases-swap u v) ∙ middle (minus_if (anti a b)) (phase_of b a) _ _
    ∙ ap (λ t. t ⊕ (phase_of b a ⊕ phases v u)) (sym (ap minus_if (odd-tally (anti a b) (anti_places u v)) ∙ minus_if-xor (anti a b) (odd (anti_places u v))))

pub exchange : (P Q : Row) → P ★ Q ≡ scaled (minus_if (anticommute P Q)) (Q ★ P)
exchange P Q = row_eq (products-comm P.letters Q.letters)
    (in-front P.phase Q.phase _ (minus_if (anticommute P Q)) (phases Q.letters P.letters) (phases-swap P.letters Q.letters))
  where
    in-front : (p q s t u : Phase) → s ≡ t ⊕ u → p ⊕ q ⊕ s ≡ t ⊕ (q ⊕ p ⊕ u)
    in-front p q s t u e = rw e (simp sums)

-- a phase is not its negative
pub no_minus : (p : Phase) → p ≡ MinusOne ⊕ p → ⊥
no_minus One e = let z : ◌≡◌ {A = ℕ} 0 1 = cc in omega arith
no_minus PlusI e = let z : ◌≡◌ {A = ℕ} 0 1 = cc in omega arith
no_minus MinusOne e = let z : ◌≡◌ {A = ℕ} 0 1 = cc in omega arith
no_minus MinusI e = let z : ◌≡◌ {A = ℕ} 0 1 = cc in omega arith

commute_if-not-anti : (P Q : Row) → (P ★ Q ≡ Q ★ P) ↔ (anticommute P Q ≡ false)
commute_if-not-anti P Q = (λ e. go (anticommute P Q) refl e, λ h. exchange P Q ∙ ap (λ b. scaled (minus_if b) (Q ★ P)) h)
  where
    go : (b : Bool) → anticommute P Q ≡ b → P ★ Q ≡ Q ★ P → anticommute P Q ≡ false
    go true h e = absurd (no_minus _ (ap (λ R. R.phase) (sym e ∙ exchange P Q ∙ ap (λ b. scaled (minus_if b) (Q ★ P)) h)))
    go false h e = h

not_is : (a b : Bool) → not a ≡ b → a ≡ not b
not_is true b e = ap not e
not_is false b e = ap not e

odd-mod : (n : ℕ) (b : Bool) → odd n ≡ b → n % 2 ≡ cond b 1 0
odd-mod zero true e = absurd (false≢true e)
odd-mod zero false e = refl
odd-mod (suc n) true e = let k : n % 2 ≡ 0 = odd-mod n false (not_is (odd n) true e) in omega arith
odd-mod (suc n) false e = let k : n % 2 ≡ 1 = odd-mod n true (not_is (odd n) false e) in omega arith

even_iff : (n : ℕ) → (odd n ≡ false) ↔ (n % 2 ≡ 0)
even_iff n = (odd-mod n false, λ e. go (odd n) refl e)
  where
    go : (b : Bool) → odd n ≡ b → n % 2 ≡ 0 → odd n ≡ false
    go true k e = let m : n % 2 ≡ 1 = odd-mod n true k in absurd (omega arith)
    go false k e = k

pub commute_iff_even : (P Q : Row) → (P ★ Q ≡ Q ★ P) ↔ (anti_places P.letters Q.letters % 2 ≡ 0)
commute_iff_even P Q = Iff.trans (commute_if-not-anti P Q) (even_iff _)

pub commute_iff_yes : (P Q : Row) → (not (anticommute P Q) ≡ true) ↔ (P ★ Q ≡ Q ★ P)
commute_iff_yes P Q = (λ e. (commute_if-not-anti P Q).1 (not_is (anticommute P Q) true e), λ e. ap not ((commute_if-not-anti P Q).0 e))

-- ---- anticommuting with a product: one factor and not the other

anti-· : (a b c : Pauli) → anti a (b · c) ≡ (anti a b xor anti a c)
anti-· = law₃ letters truth _ _ tt

anti-comm : (a b : Pauli) → anti a b ≡ anti b a
anti-comm = law₂ letters truth _ _ tt

anti-self : (a : Pauli) → anti a a ≡ false
anti-self = law₁ letters truth _ _ tt

xor-middle : (a b c d : Bool) → ((a xor b) xor (c xor d)) ≡ ((a xor c) xor (b xor d))
xor-middle = law₄ truths truth _ _ tt

pub xor-false : (a : Bool) → (a xor false) ≡ a
xor-false = law₁ truths truth _ _ tt

anti_places-products : (u v w : List Pauli) → odd (anti_places u (products v w)) ≡ (odd (anti_places u v) xor odd (anti_places u w))
anti_places-products [] v w = refl
anti_places-products (a ∷ u) [] w = refl
anti_places-products (a ∷ u) (b ∷ v) [] = sym (xor-false _)
anti_places-products (a ∷ u) (b ∷ v) (c ∷ w) =
    odd-tally (anti a (b · c)) _ ∙ ap₂ ◌xor◌ (anti-· a b c) (anti_places-products u v w) ∙ xor-middle (anti a b) (anti a c) (odd (anti_places u v)) _
    ∙ ap₂ ◌xor◌ (sym (odd-tally (anti a b) (anti_places u v))) (sym (odd-tally (anti a c) (anti_places u w)))

pub anticommute-★ : (P Q R : Row) → anticommute P (Q ★ R) ≡ (anticommute P Q xor anticommute P R)
anticommute-★ P Q R = anti_places-products P.letters Q.letters R.letters

anti_places-comm : (u v : List Pauli) → anti_places u v ≡ anti_places v u
anti_places-comm [] [] = refl
anti_places-comm [] (b ∷ v) = refl
anti_places-comm (a ∷ u) [] = refl
anti_places-comm (a ∷ u) (b ∷ v) = ap₂ tally (anti-comm a b) (anti_places-comm u v)

pub anticommute-comm : (P Q : Row) → anticommute P Q ≡ anticommute Q P
anticommute-comm P Q = ap odd (anti_places-comm P.letters Q.letters)

anti_places-self : (u : List Pauli) → anti_places u u ≡ 0
anti_places-self [] = refl
anti_places-self (a ∷ u) = ap₂ tally (anti-self a) (anti_places-self u)

pub anticommute-self : (P : Row) → anticommute P P ≡ false
anticommute-self P = ap odd (anti_places-self P.letters)

-- ---- a row of sign +1 or -1 is its own inverse

products-self : (u : List Pauli) → products u u ≡ replicate (length u) I
products-self [] = refl
products-self (a ∷ u) = ap₂ ◌∷◌ (law₁ letters letter (λ a. a · a) (λ a. I) tt a) (products-self u)

phases-self : (u : List Pauli) → phases u u ≡ One
phases-self [] = refl
phases-self (a ∷ u) = ap₂ ◌⊕◌ (law₁ letters phase (λ a. phase_of a a) (λ a. One) tt a) (phases-self u)

real-square : (p : Phase) → real p ≡ true → p ⊕ p ≡ One
real-square One e = refl
real-square PlusI e = absurd (false≢true e)
real-square MinusOne e = refl
real-square MinusI e = absurd (false≢true e)

pub square : (n : ℕ) (P : Row) → Width n P → real P.phase ≡ true → P ★ P ≡ identity n
square n P w r = row_eq (products-self P.letters ∙ ap (λ m. replicate m I) w) (rw (phases-self P.letters, real-square P.phase r))
