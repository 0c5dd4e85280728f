-- Rows with one letter or two: their products, and what a rule makes of them.
use mathlib.Core.Path.{◌≡◌, refl, ap, ap₂, sym, ◌∙◌}
use mathlib.Core.Logic.{◌≢◌, Ne-symm}
use mathlib.Core.List.{List}
use Prim.Native.Nat.{ℕ, ◌<◌}
use native.Mathlib.Nat.{le_refl}
use lib.ListN.{length, get_or, set, replicate, length-set, length-replicate, get_or-replicate}
use lib.Seq.{set-get_or, set-set, set_comm, get_or-set_same, get_or-set_other}
use Rattle.pauli.specs.Letters.{Pauli, I, One, ◌⊕◌, ◌·◌, phase_of}
use Rattle.pauli.specs.Rows.{Width, Row, products, phases, ◌★◌, scaled, single}
use Rattle.pauli.specs.Gates.{Image₁, Image₂, plus, plus₂, act₁, act₂}
use Rattle.pauli.proofs.Finite.{⊕-one}
use Rattle.pauli.proofs.Rows.{row_eq, products-I, phases-I}
use Rattle.pauli.proofs.Local.{products-set, phases-set, products-set₂, phases-set₂}

-- the letters a on qubit c and b on qubit t of n
abbrev pub pair : ℕ → ℕ → ℕ → Pauli → Pauli → Row
pair n c t a b = record { letters = set (set (replicate n I) c a) t b; phase = One }

pub width-single : (n q : ℕ) (a : Pauli) → Width n (single n q a)
width-single n q a = simp (length-set, length-replicate)

-- an I written over an I
pub blank : (n q : ℕ) → q < n → set (replicate n I) q I ≡ replicate n I
blank n q hq = ap (set (replicate n I) q) (sym (get_or-replicate n q I I hq)) ∙ set-get_or (replicate n I) q I

pub single-pair : (n c t : ℕ) (a : Pauli) → t < n → c ≢ t → single n c a ≡ pair n c t a I
single-pair n c t a ht ne = row_eq (ap (λ l. set l c a) (sym (blank n t ht)) ∙ set_comm (replicate n I) t c I a (Ne-symm ne)) refl

pub pair-single : (n c t : ℕ) (b : Pauli) → c < n → single n t b ≡ pair n c t I b
pair-single n c t b hc = row_eq (ap (λ l. set l t b) (sym (blank n c hc))) refl

products-II : (n : ℕ) → products (replicate n I) (replicate n I) ≡ replicate n I
products-II n = products-I n (replicate n I) (rw length-replicate (le_refl n))

pub single-★ : (n q : ℕ) (a b : Pauli) → q < n → single n q a ★ single n q b ≡ scaled (phase_of a b) (single n q (a · b))
single-★ n q a b hq = row_eq
    (products-set r r q a b k k ∙ ap (λ l. set l q (a · b)) (products-II n))
    (phases-set r r q a b k k ∙ ap (λ l. phase_of a b ⊕ phases l l) (blank n q hq) ∙ ap (λ p. phase_of a b ⊕ p) (phases-I n r))
  where
    r : List Pauli
    r = replicate n I

    k : q < length r
    k = rw length-replicate hq

pub pair-★ : (n c t : ℕ) (a a' b b' : Pauli) → c < n → t < n → c ≢ t
    → pair n c t a a' ★ pair n c t b b' ≡ scaled (phase_of a b ⊕ phase_of a' b') (pair n c t (a · b) (a' · b'))
pair-★ n c t a a' b b' hc ht ne = row_eq
    (products-set₂ r r c t a a' b b' kc kt kc kt ∙ ap (λ l. set (set l c (a · b)) t (a' · b')) (products-II n))
    (phases-set₂ r r c t a a' b b' kc kt kc kt ne ∙ rw (blank n t ht, blank n c hc, phases-I n r) refl)
  where
    r : List Pauli
    r = replicate n I

    kc : c < length r
    kc = rw length-replicate hc

    kt : t < length r
    kt = rw length-replicate ht

pub pair_of : (n c t : ℕ) (a b : Pauli) → c < n → t < n → c ≢ t → single n c a ★ single n t b ≡ scaled (phase_of a I) (pair n c t (a · I) b)
pair_of n c t a b hc ht ne = ap₂ ◌★◌ (single-pair n c t a ht ne) (pair-single n c t b hc) ∙ pair-★ n c t a I I b hc ht ne ∙ row_eq refl (ap (λ p. p ⊕ One) (⊕-one (phase_of a I)))

pub act₁-single : (f : Pauli → Image₁) (n q : ℕ) (a : Pauli) → q < n → act₁ f q (single n q a) ≡ scaled (f a).sign (single n q (f a).letter)
act₁-single f n q a hq = rw (get_or-set_same (replicate n I) q a I (rw length-replicate hq)) (row_eq (set-set (replicate n I) q a _) refl)

pub act₁-other : (f : Pauli → Image₁) → f I ≡ plus I → (n q j : ℕ) (a : Pauli) → q < n → j ≢ q → act₁ f q (single n j a) ≡ single n j a
act₁-other f e n q j a hq ne = rw (at-q, e) (row_eq (ap (set l q) (sym at-q) ∙ set-get_or l q I) refl)
  where
    l : List Pauli
    l = set (replicate n I) j a

    at-q : get_or l q I ≡ I
    at-q = get_or-set_other (replicate n I) j q a I (Ne-symm ne) ∙ get_or-replicate n q I I hq

pub act₂-pair : (f : Pauli → Pauli → Image₂) (n c t : ℕ) (a b : Pauli) → c < n → t < n → c ≢ t
    → act₂ f c t (pair n c t a b) ≡ scaled (f a b).sign (pair n c t (f a b).first (f a b).second)
act₂-pair f n c t a b hc ht ne = rw (at_c, at-t) (row_eq (sets _ _) refl)
  where
    r : List Pauli
    r = replicate n I

    at_c : get_or (set (set r c a) t b) c I ≡ a
    at_c = get_or-set_other (set r c a) t c b I ne ∙ get_or-set_same r c a I (rw length-replicate hc)

    at-t : get_or (set (set r c a) t b) t I ≡ b
    at-t = get_or-set_same (set r c a) t b I (rw (length-set, length-replicate) ht)

    sets : (a' b' : Pauli) → set (set (set (set r c a) t b) c a') t b' ≡ set (set r c a') t b'
    sets a' b' = rw (set_comm (set r c a) t c b a' (Ne-symm ne), set-set (set (set r c a) c a') t b b', set-set r c a a')

pub act₂-other : (f : Pauli → Pauli → Image₂) → f I I ≡ plus₂ I I → (n c t j : ℕ) (a : Pauli) → c < n → t < n → j ≢ c → j ≢ t
    → act₂ f c t (single n j a) ≡ single n j a
act₂-other f e n c t j a hc ht nc nt = rw (at-q c hc nc, at-q t ht nt, e)
    (row_eq (ap₂ (λ a b. set (set l c a) t b) (sym (at-q c hc nc)) (sym (at-q t ht nt)) ∙ rw (set-get_or l c I) (set-get_or l t I)) refl)
  where
    l : List Pauli
    l = set (replicate n I) j a

    at-q : (q : ℕ) → q < n → j ≢ q → get_or l q I ≡ I
    at-q q hq ne = get_or-set_other (replicate n I) j q a I (Ne-symm ne) ∙ get_or-replicate n q I I hq
