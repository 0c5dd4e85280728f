-- A law over a type with few elements, proved at all of them by one test that antt computes; and the laws of phases and letters so proved.
use mathlib.Core.Path.{◌≡◌, refl, ap, sym, ◌∙◌}
use mathlib.Core.Bool.{Bool, true, false, ◌&&◌, beq}
use Prim.Native.Nat.{ℕ}
use lib.Dec.{T, eqb, eqb→eq}
use Rattle.pauli.specs.Letters.{Pauli, I, X, Y, Z, Phase, One, PlusI, MinusOne, MinusI, ◌⊕◌, ◌·◌, phase_of, phase_number, pauli_number, pauli_of, power}

-- ---- types whose elements can be tried one by one

pub record Finite (A : Type 0) : Type 0 where
  pub every : (A → Bool) → Bool
  pub at : (f : A → Bool) → T (every f) → (a : A) → T (f a)

pub both : (a b : Bool) → T (a && b) → T a × T b
both true true t = (tt, tt)
both true false t = absurd t
both false b t = absurd t

four : (a b c d : Bool) → T (a && (b && (c && d))) → T a × T b × T c × T d
four a b c d t =
    let u = both a (b && (c && d)) t in
    let v = both b (c && d) u.1 in
    let w = both c d v.1 in
    (u.0, v.0, w.0, w.1)

abbrev every_letter : (Pauli → Bool) → Bool
every_letter f = f I && (f X && (f Y && f Z))

pub at-letter : (f : Pauli → Bool) → T (every_letter f) → (a : Pauli) → T (f a)
at-letter f t I = (four (f I) (f X) (f Y) (f Z) t).0
at-letter f t X = (four (f I) (f X) (f Y) (f Z) t).1
at-letter f t Y = (four (f I) (f X) (f Y) (f Z) t).2
at-letter f t Z = (four (f I) (f X) (f Y) (f Z) t).3

abbrev every_phase : (Phase → Bool) → Bool
every_phase f = f One && (f PlusI && (f MinusOne && f MinusI))

pub at-phase : (f : Phase → Bool) → T (every_phase f) → (p : Phase) → T (f p)
at-phase f t One = (four (f One) (f PlusI) (f MinusOne) (f MinusI) t).0
at-phase f t PlusI = (four (f One) (f PlusI) (f MinusOne) (f MinusI) t).1
at-phase f t MinusOne = (four (f One) (f PlusI) (f MinusOne) (f MinusI) t).2
at-phase f t MinusI = (four (f One) (f PlusI) (f MinusOne) (f MinusI) t).3

abbrev every_truth : (Bool → Bool) → Bool
every_truth f = f false && f true

pub at-truth : (f : Bool → Bool) → T (every_truth f) → (b : Bool) → T (f b)
at-truth f t true = (both (f false) (f true) t).1
at-truth f t false = (both (f false) (f true) t).0

abbrev pub letters : Finite Pauli
letters = record { every = every_letter; at = at-letter }

abbrev pub turns : Finite Phase
turns = record { every = every_phase; at = at-phase }

abbrev pub truths : Finite Bool
truths = record { every = every_truth; at = at-truth }

-- ---- tests of equality

pub record Test (A : Type 0) : Type 0 where
  pub same : A → A → Bool
  pub sound : (a b : A) → T (same a b) → a ≡ b

-- what is told apart by a number that can be turned back
abbrev numbered : {A : Type 0} → (f : A → ℕ) → (g : ℕ → A) → ((a : A) → g (f a) ≡ a) → Test A
numbered f g e = record {
  same = λ a b. eqb (f a) (f b);
  sound = λ a b t. sym (e a) ∙ ap g (eqb→eq (f a) (f b) t) ∙ e b;
}

pub pauli_of-number : (a : Pauli) → pauli_of (pauli_number a) ≡ a
pauli_of-number I = refl
pauli_of-number X = refl
pauli_of-number Y = refl
pauli_of-number Z = refl

pub power-number : (p : Phase) → power (phase_number p) ≡ p
unfolding power
power-number One = refl
power-number PlusI = refl
power-number MinusOne = refl
power-number MinusI = refl

abbrev pub letter : Test Pauli
letter = numbered pauli_number pauli_of pauli_of-number

abbrev pub phase : Test Phase
phase = numbered phase_number power power-number

abbrev pub number : Test ℕ
number = record { same = eqb; sound = eqb→eq }

pub same_truth : (a b : Bool) → T (beq a b) → a ≡ b
same_truth true true t = refl
same_truth true false t = absurd t
same_truth false true t = absurd t
same_truth false false t = refl

abbrev pub truth : Test Bool
truth = record { same = beq; sound = same_truth }

-- ---- two functions agree everywhere if a test says so

module _ {A B : Type 0} (F : Finite A) (e : Test B) where
  pub law₁ : (f g : A → B) → T (F.every (λ a. e.same (f a) (g a))) → (a : A) → f a ≡ g a
  law₁ f g t a = e.sound _ _ (F.at (λ a. e.same (f a) (g a)) t a)

  pub law₂ : (f g : A → A → B) → T (F.every (λ a. F.every (λ b. e.same (f a b) (g a b)))) → (a b : A) → f a b ≡ g a b
  law₂ f g t a b = law₁ (f a) (g a) (F.at (λ a. F.every (λ b. e.same (f a b) (g a b))) t a) b

  pub law₃ : (f g : A → A → A → B) → T (F.every (λ a. F.every (λ b. F.every (λ c. e.same (f a b c) (g a b c)))))
      → (a b c : A) → f a b c ≡ g a b c
  law₃ f g t a b c = law₂ (f a) (g a) (F.at (λ a. F.every (λ b. F.every (λ c. e.same (f a b c) (g a b c)))) t a) b c

  pub law₄ : (f g : A → A → A → A → B) → T (F.every (λ a. F.every (λ b. F.every (λ c. F.every (λ d. e.same (f a b c d) (g a b c d))))))
      → (a b c d : A) → f a b c d ≡ g a b c d
  law₄ f g t a b c d = law₃ (f a) (g a) (F.at (λ a. F.every (λ b. F.every (λ c. F.every (λ d. e.same (f a b c d) (g a b c d))))) t a) b c d

-- ---- phases: an abelian group

pub ⊕-comm : (p q : Phase) → p ⊕ q ≡ q ⊕ p
⊕-comm = law₂ turns phase _ _ tt

pub ⊕-assoc : (p q r : Phase) → p ⊕ q ⊕ r ≡ p ⊕ (q ⊕ r)
⊕-assoc = law₃ turns phase _ _ tt

pub ⊕-left : (p q r : Phase) → p ⊕ (q ⊕ r) ≡ q ⊕ (p ⊕ r)
⊕-left = law₃ turns phase _ _ tt

pub ⊕-one : (p : Phase) → p ⊕ One ≡ p
⊕-one = law₁ turns phase _ _ tt

pub minus_minus : (p : Phase) → MinusOne ⊕ (MinusOne ⊕ p) ≡ p
minus_minus = law₁ turns phase _ _ tt

-- a product of phases in one order, bracketed to the right
pub ruleset sums = (⊕-assoc, ⊕-left, ⊕-comm, ⊕-one)

-- ---- letters

pub ·-assoc : (a b c : Pauli) → a · b · c ≡ a · (b · c)
·-assoc = law₃ letters letter _ _ tt

pub ·-comm : (a b : Pauli) → a · b ≡ b · a
·-comm = law₂ letters letter _ _ tt

pub ·-I : (a : Pauli) → a · I ≡ a
·-I = law₁ letters letter _ _ tt

pub phase_of-assoc : (a b c : Pauli) → phase_of a b ⊕ phase_of (a · b) c ≡ phase_of b c ⊕ phase_of a (b · c)
phase_of-assoc = law₃ letters phase _ _ tt

pub phase_of-I : (a : Pauli) → phase_of a I ≡ One
phase_of-I = law₁ letters phase _ _ tt
