-- Letter rules at one qubit or at two of a row: when they are homomorphisms, how they compose, and when two of them act alike.
use mathlib.Core.Path.{fun_ext, ◌≡◌, refl, ap, ap₂, sym, ◌∙◌}
use mathlib.Core.Logic.{◌≢◌, Ne-symm}
use mathlib.Core.Bool.{Bool, true, ◌&&◌, false≢true}
use mathlib.Core.List.{List, [], ◌∷◌}
use Prim.Native.Nat.{ℕ, zero, suc, ◌<◌}
use native.Mathlib.Nat.{le_of_suc-le-suc, not-suc-le-zero}
use native.Mathlib.Omega.{arith}
use lib.Dec.{T}
use lib.ListN.{length, get_or, set, replicate, length-set, length-replicate, get_or-replicate}
use lib.Seq.{set-get_or, set-set, set_comm, get_or-set_same, get_or-set_other, lt-length-set}
use Rattle.pauli.specs.Letters.{Pauli, I, Phase, One, PlusI, MinusOne, MinusI, ◌⊕◌, ◌·◌, phase_of, real}
use Rattle.pauli.specs.Rows.{Row, Width, on, products, phases, ◌★◌, scaled, identity}
use Rattle.pauli.specs.Gates.{Image₁, Image₂, plus, plus₂, act₁, act₂}
use Rattle.pauli.proofs.Finite.{Test, letters, turns, letter, phase, truth, both, law₁, law₂, law₄, ⊕-assoc, ⊕-left, sums, ·-I}
use Rattle.pauli.proofs.Rows.{row_eq, width-★}

-- ---- a letter replaced in both factors of a product

pub get_or-products : (u v : List Pauli) (q : ℕ) → get_or (products u v) q I ≡ get_or u q I · get_or v q I
get_or-products [] v q = refl
get_or-products (a ∷ u) [] q = sym (·-I (get_or (a ∷ u) q I))
get_or-products (a ∷ u) (b ∷ v) zero = refl
get_or-products (a ∷ u) (b ∷ v) (suc q) = get_or-products u v q

pub products-set : (u v : List Pauli) (q : ℕ) (a b : Pauli) → q < length u → q < length v → products (set u q a) (set v q b) ≡ set (products u v) q (a · b)
products-set [] v q a b h k = absurd (not-suc-le-zero h)
products-set (c ∷ u) [] q a b h k = absurd (not-suc-le-zero k)
products-set (c ∷ u) (d ∷ v) zero a b h k = refl
products-set (c ∷ u) (d ∷ v) (suc q) a b h k = ap (λ l. (c · d) ∷ l) (products-set u v q a b (le_of_suc-le-suc h) (le_of_suc-le-suc k))

pub phases-set : (u v : List Pauli) (q : ℕ) (a b : Pauli) → q < length u → q < length v
    → phases (set u q a) (set v q b) ≡ phase_of a b ⊕ phases (set u q I) (set v q I)
phases-set [] v q a b h k = absurd (not-suc-le-zero h)
phases-set (c ∷ u) [] q a b h k = absurd (not-suc-le-zero k)
phases-set (c ∷ u) (d ∷ v) zero a b h k = refl
phases-set (c ∷ u) (d ∷ v) (suc q) a b h k =
    ap (λ p. phase_of c d ⊕ p) (phases-set u v q a b (le_of_suc-le-suc h) (le_of_suc-le-suc k)) ∙ ⊕-left (phase_of c d) (phase_of a b) _

pub products-set₂ : (u v : List Pauli) (c t : ℕ) (a a' b b' : Pauli) → c < length u → t < length u → c < length v → t < length v
    → products (set (set u c a) t a') (set (set v c b) t b') ≡ set (set (products u v) c (a · b)) t (a' · b')
products-set₂ u v c t a a' b b' cu tu cv tv =
    products-set (set u c a) (set v c b) t a' b' (lt-length-set u c a tu) (lt-length-set v c b tv)
    ∙ ap (λ l. set l t (a' · b')) (products-set u v c a b cu cv)

pub phases-set₂ : (u v : List Pauli) (c t : ℕ) (a a' b b' : Pauli) → c < length u → t < length u → c < length v → t < length v → c ≢ t
    → phases (set (set u c a) t a') (set (set v c b) t b') ≡ phase_of a b ⊕ phase_of a' b' ⊕ phases (set (set u t I) c I) (set (set v t I) c I)
phases-set₂ u v c t a a' b b' cu tu cv tv ne =
    phases-set (set u c a) (set v c b) t a' b' (lt-length-set u c a tu) (lt-length-set v c b tv)
    ∙ rw (set_comm u c t a I ne, set_comm v c t b I ne, phases-set (set u t I) (set v t I) c a b (lt-length-set u t I cu) (lt-length-set v t I cv)) (simp sums)

-- ---- one rule after another

abbrev pub then₁ : (Pauli → Image₁) → (Pauli → Image₁) → Pauli → Image₁
then₁ f g a = record { letter = (g (f a).letter).letter; sign = (g (f a).letter).sign ⊕ (f a).sign }

abbrev pub then₂ : (Pauli → Pauli → Image₂) → (Pauli → Pauli → Image₂) → Pauli → Pauli → Image₂
then₂ f g a b = record {
  first = (g (f a b).first (f a b).second).first;
  second = (g (f a b).first (f a b).second).second;
  sign = (g (f a b).first (f a b).second).sign ⊕ (f a b).sign;
}

pub act₁-then : (f g : Pauli → Image₁) (q : ℕ) (P : Row) → q < length P.letters → act₁ g q (act₁ f q P) ≡ act₁ (then₁ f g) q P
act₁-then f g q P h = rw get_or-set_same (row_eq (set-set P.letters q _ _) (rw ⊕-assoc))

pub act₂-then : (f g : Pauli → Pauli → Image₂) (c t : ℕ) (P : Row) → c < length P.letters → t < length P.letters → c ≢ t
    → act₂ g c t (act₂ f c t P) ≡ act₂ (then₂ f g) c t P
act₂-then f g c t P cu tu ne =
    rw (get_or-set_same (set u c a) t b I (lt-length-set u c a tu), get_or-set_other (set u c a) t c b I ne, get_or-set_same u c a I cu)
    (row_eq (sets _ _) (rw ⊕-assoc))
  where
    u : List Pauli
    u = P.letters

    a : Pauli
    a = (f (on P c) (on P t)).first

    b : Pauli
    b = (f (on P c) (on P t)).second

    sets : (a' b' : Pauli) → set (set (set (set u c a) t b) c a') t b' ≡ set (set u c a') t b'
    sets a' b' = rw (set_comm (set u c a) t c b a' (Ne-symm ne), set-set (set (set u c a) c a') t b b', set-set u c a a')

-- a rule at one of two qubits
abbrev pub on_first : (Pauli → Image₁) → Pauli → Pauli → Image₂
on_first f a b = record { first = (f a).letter; second = b; sign = (f a).sign }

abbrev pub on_second : (Pauli → Image₁) → Pauli → Pauli → Image₂
on_second f a b = record { first = a; second = (f b).letter; sign = (f b).sign }

pub act₁-first : (f : Pauli → Image₁) (c t : ℕ) (P : Row) → c ≢ t → act₁ f c P ≡ act₂ (on_first f) c t P
act₁-first f c t P ne = row_eq (sym (rw (sym (get_or-set_other u c t a I (Ne-symm ne))) (set-get_or (set u c a) t I))) refl
  where
    u : List Pauli
    u = P.letters

    a : Pauli
    a = (f (on P c)).letter

pub act₁-second : (f : Pauli → Image₁) (c t : ℕ) (P : Row) → act₁ f t P ≡ act₂ (on_second f) c t P
act₁-second f c t P = row_eq (rw set-get_or) refl

-- ---- rules that agree at every letter act alike

pub image₁-sound : (u v : Image₁) → T (letter.same u.letter v.letter && phase.same u.sign v.sign) → u ≡ v
image₁-sound u v t =
    let e = both (letter.same u.letter v.letter) (phase.same u.sign v.sign) t in
    λ i. record { letter = letter.sound u.letter v.letter e.0 i; sign = phase.sound u.sign v.sign e.1 i }

pub image₂-sound : (u v : Image₂) → T (letter.same u.first v.first && (letter.same u.second v.second && phase.same u.sign v.sign)) → u ≡ v
image₂-sound u v t =
    let e = both (letter.same u.first v.first) (letter.same u.second v.second && phase.same u.sign v.sign) t in
    let d = both (letter.same u.second v.second) (phase.same u.sign v.sign) e.1 in
    λ i. record {
      first = letter.sound u.first v.first e.0 i;
      second = letter.sound u.second v.second d.0 i;
      sign = phase.sound u.sign v.sign d.1 i;
    }

abbrev pub image₁ : Test Image₁
image₁ = record { same = λ u v. letter.same u.letter v.letter && phase.same u.sign v.sign; sound = image₁-sound }

abbrev pub image₂ : Test Image₂
image₂ = record {
  same = λ u v. letter.same u.first v.first && (letter.same u.second v.second && phase.same u.sign v.sign);
  sound = image₂-sound;
}

abbrev pub alike₁ : (Pauli → Image₁) → (Pauli → Image₁) → Bool
alike₁ f g = letters.every (λ a. image₁.same (f a) (g a))

abbrev pub alike₂ : (Pauli → Pauli → Image₂) → (Pauli → Pauli → Image₂) → Bool
alike₂ f g = letters.every (λ a. letters.every (λ b. image₂.same (f a b) (g a b)))

pub act₁-alike : (f g : Pauli → Image₁) → T (alike₁ f g) → (q : ℕ) (P : Row) → act₁ f q P ≡ act₁ g q P
act₁-alike f g t q P = ap (λ r. act₁ r q P) (fun_ext (law₁ letters image₁ f g t))

pub act₂-alike : (f g : Pauli → Pauli → Image₂) → T (alike₂ f g) → (c t : ℕ) (P : Row) → act₂ f c t P ≡ act₂ g c t P
act₂-alike f g e c t P = ap (λ r. act₂ r c t P) (fun_ext (λ a. fun_ext (law₂ letters image₂ f g e a)))

-- the rules that change nothing
pub act₁-plus : (q : ℕ) (P : Row) → act₁ plus q P ≡ P
act₁-plus q P = row_eq (set-get_or P.letters q I) refl

pub act₂-plus : (c t : ℕ) (P : Row) → act₂ plus₂ c t P ≡ P
act₂-plus c t P = row_eq (rw (set-get_or P.letters c I) (set-get_or P.letters t I)) refl

-- ---- homomorphisms of rows of n qubits

pub record Hom (n : ℕ) (f : Row → Row) : Type 0 where
  pub width : (P : Row) → Width n P → Width n (f P)
  pub times : (P Q : Row) → Width n P → Width n Q → f (P ★ Q) ≡ f P ★ f Q
  pub scales : (p : Phase) (P : Row) → Width n P → f (scaled p P) ≡ scaled p (f P)
  pub unit : f (identity n) ≡ identity n
  pub signs : (P : Row) → Width n P → real (f P).phase ≡ real P.phase

pub hom_id : (n : ℕ) → Hom n (λ P. P)
hom_id n = record { width = λ P w. w; times = λ P Q w k. refl; scales = λ p P w. refl; unit = refl; signs = λ P w. refl }

pub hom_after : (n : ℕ) (f g : Row → Row) → Hom n f → Hom n g → Hom n (λ P. f (g P))
hom_after n f g F G = record {
  width = λ P w. F.width (g P) (G.width P w);
  times = λ P Q w k. ap f (G.times P Q w k) ∙ F.times (g P) (g Q) (G.width P w) (G.width Q k);
  scales = λ p P w. ap f (G.scales p P w) ∙ F.scales p (g P) (G.width P w);
  unit = ap f G.unit ∙ F.unit;
  signs = λ P w. F.signs (g P) (G.width P w) ∙ G.signs P w;
}

-- what agrees on rows of n qubits with a homomorphism is one
pub hom_like : (n : ℕ) (f g : Row → Row) → Hom n g → ((P : Row) → Width n P → f P ≡ g P) → Hom n f
hom_like n f g G e = record {
  width = λ P w. rw (e P w) (G.width P w);
  times = λ P Q w k. rw (e P w, e Q k, e (P ★ Q) (width-★ n P Q w k)) (G.times P Q w k);
  scales = λ p P w. rw (e P w, e (scaled p P) w) (G.scales p P w);
  unit = e (identity n) (length-replicate n I) ∙ G.unit;
  signs = λ P w. rw (e P w) (G.signs P w);
}

-- ---- which letter rules give homomorphisms: one test over the letters

hom-phases : (p q r s t s₁ s₂ t' x x' : Phase) → s ⊕ t ≡ s₁ ⊕ s₂ ⊕ t' → x ≡ t ⊕ r → x' ≡ t' ⊕ r → s ⊕ (p ⊕ q ⊕ x) ≡ (s₁ ⊕ p) ⊕ (s₂ ⊕ q) ⊕ x'
hom-phases p q r s t s₁ s₂ t' x x' e d d' = rw (d, d') (simp sums (rw (simp sums at e)))

real-⊕ : (p q : Phase) → real p ≡ true → real (p ⊕ q) ≡ real q
real-⊕ One q e = refl
real-⊕ PlusI q e = absurd (false≢true e)
real-⊕ MinusOne q e = law₁ turns truth (λ q. real (MinusOne ⊕ q)) real tt q
real-⊕ MinusI q e = absurd (false≢true e)

pub in_row : {n q : ℕ} (P : Row) → Width n P → q < n → q < length P.letters
in_row P w h = omega arith

pub record Letter₁ (f : Pauli → Image₁) : Type 0 where
  pub letter : (a b : Pauli) → (f (a · b)).letter ≡ (f a).letter · (f b).letter
  pub sign : (a b : Pauli) → (f (a · b)).sign ⊕ phase_of a b ≡ (f a).sign ⊕ (f b).sign ⊕ phase_of (f a).letter (f b).letter
  pub unit : f I ≡ plus I
  pub signs : (a : Pauli) → real (f a).sign ≡ true

pub letter₁ : (f : Pauli → Image₁)
    → T (letters.every (λ a. letters.every (λ b. letter.same (f (a · b)).letter ((f a).letter · (f b).letter))))
    → T (letters.every (λ a. letters.every (λ b. phase.same ((f (a · b)).sign ⊕ phase_of a b) ((f a).sign ⊕ (f b).sign ⊕ phase_of (f a).letter (f b).letter))))
    → f I ≡ plus I
    → T (letters.every (λ a. truth.same (real (f a).sign) true))
    → Letter₁ f
letter₁ f t u e s = record { letter = law₂ letters letter _ _ t; sign = law₂ letters phase _ _ u; unit = e; signs = law₁ letters truth _ _ s }

module _ (f : Pauli → Image₁) (L : Letter₁ f) (n q : ℕ) (hq : q < n) where
  times₁ : (P Q : Row) → Width n P → Width n Q → act₁ f q (P ★ Q) ≡ act₁ f q P ★ act₁ f q Q
  times₁ P Q w k = row_eq
      (rw (get_or-products u v q, L.letter a b) (sym (products-set u v q _ _ (in_row P w hq) (in_row Q k hq))))
      (rw (get_or-products u v q)
      (hom-phases P.phase Q.phase r (f (a · b)).sign (phase_of a b) (f a).sign (f b).sign (phase_of (f a).letter (f b).letter) _ _
      (L.sign a b)
      (ap₂ phases (sym (set-get_or u q I)) (sym (set-get_or v q I)) ∙ phases-set u v q a b (in_row P w hq) (in_row Q k hq))
      (phases-set u v q (f a).letter (f b).letter (in_row P w hq) (in_row Q k hq))))
    where
      u : List Pauli
      u = P.letters

      v : List Pauli
      v = Q.letters

      a : Pauli
      a = on P q

      b : Pauli
      b = on Q q

      r : Phase
      r = phases (set u q I) (set v q I)

  unit₁ : act₁ f q (identity n) ≡ identity n
  unit₁ = rw (get_or-replicate n q I I hq, L.unit)
      (row_eq (ap (set (replicate n I) q) (sym (get_or-replicate n q I I hq)) ∙ set-get_or (replicate n I) q I) refl)

  pub hom₁ : Hom n (act₁ f q)
  hom₁ = record {
    width = λ P w. length-set P.letters q _ ∙ w;
    times = times₁;
    scales = λ p P w. row_eq refl (⊕-left (f (on P q)).sign p P.phase);
    unit = unit₁;
    signs = λ P w. real-⊕ (f (on P q)).sign P.phase (L.signs (on P q));
  }

pub record Letter₂ (f : Pauli → Pauli → Image₂) : Type 0 where
  pub first : (a b c d : Pauli) → (f (a · b) (c · d)).first ≡ (f a c).first · (f b d).first
  pub second : (a b c d : Pauli) → (f (a · b) (c · d)).second ≡ (f a c).second · (f b d).second
  pub sign : (a b c d : Pauli) → (f (a · b) (c · d)).sign ⊕ (phase_of a b ⊕ phase_of c d)
      ≡ (f a c).sign ⊕ (f b d).sign ⊕ (phase_of (f a c).first (f b d).first ⊕ phase_of (f a c).second (f b d).second)
  pub unit : f I I ≡ plus₂ I I
  pub signs : (a b : Pauli) → real (f a b).sign ≡ true

pub letter₂ : (f : Pauli → Pauli → Image₂)
    → T (letters.every (λ a. letters.every (λ b. letters.every (λ c. letters.every (λ d. letter.same (f (a · b) (c · d)).first ((f a c).first · (f b d).first))))))
    → T (letters.every (λ a. letters.every (λ b. letters.every (λ c. letters.every (λ d. letter.same (f (a · b) (c · d)).second ((f a c).second · (f b d).second))))))
    → T (letters.every (λ a. letters.every (λ b. letters.every (λ c. letters.every (λ d. phase.same ((f (a · b) (c · d)).sign ⊕ (phase_of a b ⊕ phase_of c d))
    ((f a c).sign ⊕ (f b d).sign ⊕ (phase_of (f a c).first (f b d).first ⊕ phase_of (f a c).second (f b d).second)))))))
    → f I I ≡ plus₂ I I
    → T (letters.every (λ a. letters.every (λ b. truth.same (real (f a b).sign) true)))
    → Letter₂ f
letter₂ f t u v e s = record {
  first = law₄ letters letter _ _ t;
  second = law₄ letters letter _ _ u;
  sign = law₄ letters phase _ _ v;
  unit = e;
  signs = law₂ letters truth _ _ s;
}

module _ (f : Pauli → Pauli → Image₂) (L : Letter₂ f) (n c t : ℕ) (hc : c < n) (ht : t < n) (ne : c ≢ t) where
  times₂ : (P Q : Row) → Width n P → Width n Q → act₂ f c t (P ★ Q) ≡ act₂ f c t P ★ act₂ f c t Q
  times₂ P Q w k = row_eq
      (rw (get_or-products u v c, get_or-products u v t, L.first a b a' b', L.second a b a' b') (sym (products-set₂ u v c t _ _ _ _ cu tu cv tv)))
      (rw (get_or-products u v c, get_or-products u v t)
      (hom-phases P.phase Q.phase r (f (a · b) (a' · b')).sign (phase_of a b ⊕ phase_of a' b') (f a a').sign (f b b').sign
      (phase_of (f a a').first (f b b').first ⊕ phase_of (f a a').second (f b b').second) _ _
      (L.sign a b a' b')
      (ap₂ phases (sym (same u)) (sym (same v)) ∙ phases-set₂ u v c t a a' b b' cu tu cv tv ne)
      (phases-set₂ u v c t (f a a').first (f a a').second (f b b').first (f b b').second cu tu cv tv ne)))
    where
      u : List Pauli
      u = P.letters

      v : List Pauli
      v = Q.letters

      cu : c < length u
      cu = in_row P w hc

      tu : t < length u
      tu = in_row P w ht

      cv : c < length v
      cv = in_row Q k hc

      tv : t < length v
      tv = in_row Q k ht

      a : Pauli
      a = on P c

      b : Pauli
      b = on Q c

      a' : Pauli
      a' = on P t

      b' : Pauli
      b' = on Q t

      r : Phase
      r = phases (set (set u t I) c I) (set (set v t I) c I)

      same : (l : List Pauli) → set (set l c (get_or l c I)) t (get_or l t I) ≡ l
      same l = rw (set-get_or l c I) (set-get_or l t I)

  unit₂ : act₂ f c t (identity n) ≡ identity n
  unit₂ = rw (get_or-replicate n c I I hc, get_or-replicate n t I I ht, L.unit)
      (row_eq (ap₂ (λ a b. set (set (replicate n I) c a) t b) (sym (get_or-replicate n c I I hc)) (sym (get_or-replicate n t I I ht))
      ∙ rw (set-get_or (replicate n I) c I) (set-get_or (replicate n I) t I)) refl)

  pub hom₂ : Hom n (act₂ f c t)
  hom₂ = record {
    width = λ P w. simp length-set w;
    times = times₂;
    scales = λ p P w. row_eq refl (⊕-left (f (on P c) (on P t)).sign p P.phase);
    unit = unit₂;
    signs = λ P w. real-⊕ (f (on P c) (on P t)).sign P.phase (L.signs (on P c) (on P t));
  }
