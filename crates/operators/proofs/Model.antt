-- The matrices of size 2ⁿ over any scalars with a root and halves are Operators.
use mathlib.Core.Path.{◌≡◌, refl, ap, ap₂, sym, ◌∙◌}
use mathlib.Core.HLevel.{is_prop→PathP, Π_prop}
use mathlib.Core.Bool.{Bool, true, false}
use mathlib.Core.List.{List, [], ◌∷◌}
use Prim.Native.Nat.{ℕ, zero, suc}
use native.Mathlib.Omega.{arith}
use lib.ListN.{length, replicate}
use Rattle.pauli.specs.Letters.{◌⊕◌, ◌·◌, phase_of}
use Rattle.pauli.specs.Rows.{Row, products, phases}
use Rattle.pauli.proofs.Finite.{turns as all_phases, letters as all_letters, phase, truth, law₂, law₄, ⊕-assoc}
use Rattle.operators.specs.Types.{Phase, One, PlusI, MinusOne, MinusI, Pauli, I}
use Rattle.operators.specs.Operators.{Operators}
use Rattle.operators.specs.Model.{Scalars, BitString, Amplitudes, Linear, phased, flip_by, entry_of, flip_all, entry_all}

-- ---- letters

flip_letter : (x : Bool) (a b : Pauli) → flip_by (a · b) x ≡ flip_by b (flip_by a x)
flip_letter true = law₂ all_letters truth _ _ tt
flip_letter false = law₂ all_letters truth _ _ tt

entry_letter : (x : Bool) (a b : Pauli) → phase_of a b ⊕ entry_of (a · b) x ≡ entry_of a x ⊕ entry_of b (flip_by a x)
entry_letter true = law₂ all_letters phase _ _ tt
entry_letter false = law₂ all_letters phase _ _ tt

pub exchange : (p q r s : Phase) → (p ⊕ q) ⊕ (r ⊕ s) ≡ (p ⊕ r) ⊕ (q ⊕ s)
exchange = law₄ all_phases phase _ _ tt

pub flip_product : (n : ℕ) (us vs : List Pauli) → length us ≡ n → length vs ≡ n → (s : BitString n) → flip_all n (products us vs) s ≡ flip_all n vs (flip_all n us s)
flip_product zero us vs u v s = refl
flip_product (suc n) [] vs u v s = absurd (omega arith)
flip_product (suc n) (a ∷ us) [] u v s = absurd (omega arith)
flip_product (suc n) (a ∷ us) (b ∷ vs) u v s = ap₂ (λ x t. (x, t)) (flip_letter s.0 a b) (flip_product n us vs (omega arith) (omega arith) s.1)

pub entry_product : (n : ℕ) (us vs : List Pauli) → length us ≡ n → length vs ≡ n → (s : BitString n)
    → phases us vs ⊕ entry_all n (products us vs) s ≡ entry_all n us s ⊕ entry_all n vs (flip_all n us s)
entry_product zero [] [] u v s = refl
entry_product zero [] (b ∷ vs) u v s = absurd (omega arith)
entry_product zero (a ∷ us) vs u v s = absurd (omega arith)
entry_product (suc n) [] vs u v s = absurd (omega arith)
entry_product (suc n) (a ∷ us) [] u v s = absurd (omega arith)
entry_product (suc n) (a ∷ us) (b ∷ vs) u v s =
    exchange (phase_of a b) (phases us vs) (entry_of (a · b) s.0) (entry_all n (products us vs) s.1)
    ∙ ap₂ (λ p q. p ⊕ q) (entry_letter s.0 a b) (entry_product n us vs (omega arith) (omega arith) s.1)
    ∙ exchange (entry_of a s.0) (entry_of b (flip_by a s.0)) (entry_all n us s.1) (entry_all n vs (flip_all n us s.1))

pub flip_none : (n : ℕ) (s : BitString n) → flip_all n (replicate n I) s ≡ s
flip_none zero s = refl
flip_none (suc n) s = ap (λ t. (s.0, t)) (flip_none n s.1)

pub entry_none : (n : ℕ) (s : BitString n) → entry_all n (replicate n I) s ≡ One
entry_none zero s = refl
entry_none (suc n) s = entry_none n s.1

-- ---- amplitudes

module _ (S : Scalars) where
  abbrev pub four : S.R → S.R
  four r = S.root (S.root (S.root (S.root r)))

  pub twice_minus : (r : S.R) → four (four r) ≡ r
  twice_minus r =
      sym (S.plus_none (four (four r))) ∙ ap (λ a. S.plus (four (four r)) a) (sym (S.minus r)) ∙ S.plus_comm (four (four r)) (S.plus r (four r))
      ∙ S.plus_assoc r (four r) (four (four r)) ∙ ap (S.plus r) (S.minus (four r)) ∙ S.plus_none r

  pub phased-phased : (p q : Phase) (r : S.R) → phased S (p ⊕ q) r ≡ phased S p (phased S q r)
  phased-phased One q r = refl
  phased-phased PlusI One r = refl
  phased-phased PlusI PlusI r = refl
  phased-phased PlusI MinusOne r = refl
  phased-phased PlusI MinusI r = sym (twice_minus r)
  phased-phased MinusOne One r = refl
  phased-phased MinusOne PlusI r = refl
  phased-phased MinusOne MinusOne r = sym (twice_minus r)
  phased-phased MinusOne MinusI r = sym (twice_minus (S.root (S.root r)))
  phased-phased MinusI One r = refl
  phased-phased MinusI PlusI r = sym (twice_minus r)
  phased-phased MinusI MinusOne r = sym (ap (λ a. S.root (S.root a)) (twice_minus r))
  phased-phased MinusI MinusI r = sym (twice_minus (four r))

  pub commuting : (f : S.R → S.R) → ((r : S.R) → f (S.root r) ≡ S.root (f r)) → (p : Phase) (r : S.R) → f (phased S p r) ≡ phased S p (f r)
  commuting f h = go
    where
      twice : (r : S.R) → f (S.root (S.root r)) ≡ S.root (S.root (f r))
      twice r = h (S.root r) ∙ ap S.root (h r)

      go : (p : Phase) (r : S.R) → f (phased S p r) ≡ phased S p (f r)
      go One r = refl
      go PlusI r = twice r
      go MinusOne r = twice (S.root (S.root r)) ∙ ap (λ a. S.root (S.root a)) (twice r)
      go MinusI r = twice (four r) ∙ ap (λ a. S.root (S.root a)) (twice (S.root (S.root r)) ∙ ap (λ a. S.root (S.root a)) (twice r))

  two_plus : (a b : S.R) → S.root (S.root (S.plus a b)) ≡ S.plus (S.root (S.root a)) (S.root (S.root b))
  two_plus a b = ap S.root (S.root_plus a b) ∙ S.root_plus (S.root a) (S.root b)

  four-plus : (a b : S.R) → four (S.plus a b) ≡ S.plus (four a) (four b)
  four-plus a b = ap (λ r. S.root (S.root r)) (two_plus a b) ∙ two_plus (S.root (S.root a)) (S.root (S.root b))

  pub phased-plus : (p : Phase) (a b : S.R) → phased S p (S.plus a b) ≡ S.plus (phased S p a) (phased S p b)
  phased-plus One a b = refl
  phased-plus PlusI a b = two_plus a b
  phased-plus MinusOne a b = four-plus a b
  phased-plus MinusI a b = ap (λ r. S.root (S.root r)) (four-plus a b) ∙ two_plus (four a) (four b)

  two_none : S.root (S.root S.none) ≡ S.none
  two_none = ap S.root S.root_none ∙ S.root_none

  pub phased-none : (p : Phase) → phased S p S.none ≡ S.none
  phased-none One = refl
  phased-none PlusI = two_none
  phased-none MinusOne = ap (λ r. S.root (S.root r)) two_none ∙ two_none
  phased-none MinusI = ap (λ r. S.root (S.root r)) (ap (λ r. S.root (S.root r)) two_none ∙ two_none) ∙ two_none

  pub swapped : (a b c d : S.R) → S.plus (S.plus a b) (S.plus c d) ≡ S.plus (S.plus a c) (S.plus b d)
  swapped a b c d =
      S.plus_assoc a b (S.plus c d) ∙ ap (S.plus a) (sym (S.plus_assoc b c d) ∙ ap (λ x. S.plus x d) (S.plus_comm b c) ∙ S.plus_assoc c b d) ∙ sym (S.plus_assoc a c (S.plus b d))

  -- ---- operators

  module _ (n : ℕ) where
    abbrev pub Amps : Type 0
    Amps = Amplitudes S n

    abbrev pub Op : Type 0
    Op = Linear S n

    -- two operators that do the same are the same
    pub equal : (a b : Op) → ((v : Amps) (s : BitString n) → a.act v s ≡ b.act v s) → a ≡ b
    equal a b h = λ i. record {
      act = λ v s. h v s i;
      adds = is_prop→PathP (λ i. (u v : Amps) (s : BitString n) → h (λ t. S.plus (u t) (v t)) s i ≡ S.plus (h u s i) (h v s i)) (λ i. Π_prop (λ u. Π_prop (λ v. Π_prop (λ s. S.set _ _)))) a.adds b.adds i;
      roots = is_prop→PathP (λ i. (v : Amps) (s : BitString n) → h (λ t. S.root (v t)) s i ≡ S.root (h v s i)) (λ i. Π_prop (λ v. Π_prop (λ s. S.set _ _))) a.roots b.roots i;
      halves = is_prop→PathP (λ i. (v : Amps) (s : BitString n) → h (λ t. S.half (v t)) s i ≡ S.half (h v s i)) (λ i. Π_prop (λ v. Π_prop (λ s. S.set _ _))) a.halves b.halves i;
    }

    abbrev pub none_op : Op
    none_op = record { act = λ v s. S.none; adds = λ u v s. sym (S.plus_none S.none); roots = λ v s. sym S.root_none; halves = λ v s. sym S.half_none }

    abbrev pub one_op : Op
    one_op = record { act = λ v s. v s; adds = λ u v s. refl; roots = λ v s. refl; halves = λ v s. refl }

    abbrev pub root_op : Op
    root_op = record { act = λ v s. S.root (v s); adds = λ u v s. S.root_plus (u s) (v s); roots = λ v s. refl; halves = λ v s. S.root_half (v s) }

    abbrev pub half_op : Op
    half_op = record { act = λ v s. S.half (v s); adds = λ u v s. S.half_plus (u s) (v s); roots = λ v s. sym (S.root_half (v s)); halves = λ v s. refl }

    abbrev pub plus_op : Op → Op → Op
    plus_op a b = record {
      act = λ v s. S.plus (a.act v s) (b.act v s);
      adds = λ u v s. ap₂ S.plus (a.adds u v s) (b.adds u v s) ∙ swapped (a.act u s) (a.act v s) (b.act u s) (b.act v s);
      roots = λ v s. ap₂ S.plus (a.roots v s) (b.roots v s) ∙ sym (S.root_plus (a.act v s) (b.act v s));
      halves = λ v s. ap₂ S.plus (a.halves v s) (b.halves v s) ∙ sym (S.half_plus (a.act v s) (b.act v s));
    }

    abbrev pub times_op : Op → Op → Op
    times_op a b = record {
      act = λ v s. a.act (b.act v) s;
      adds = λ u v s. ap (λ w. a.act w s) (λ i t. b.adds u v t i) ∙ a.adds (b.act u) (b.act v) s;
      roots = λ v s. ap (λ w. a.act w s) (λ i t. b.roots v t i) ∙ a.roots (b.act v) s;
      halves = λ v s. ap (λ w. a.act w s) (λ i t. b.halves v t i) ∙ a.halves (b.act v) s;
    }

    abbrev pub read_op : Row → Op
    read_op P = record {
      act = λ v s. phased S (P.phase ⊕ entry_all n P.letters s) (v (flip_all n P.letters s));
      adds = λ u v s. phased-plus (P.phase ⊕ entry_all n P.letters s) (u (flip_all n P.letters s)) (v (flip_all n P.letters s));
      roots = λ v s. sym (commuting S.root (λ r. refl) (P.phase ⊕ entry_all n P.letters s) (v (flip_all n P.letters s)));
      halves = λ v s. sym (commuting S.half (λ r. sym (S.root_half r)) (P.phase ⊕ entry_all n P.letters s) (v (flip_all n P.letters s)));
    }

    pub none_of : (a : Op) (s : BitString n) → a.act (λ t. S.none) s ≡ S.none
    none_of a s =
        ap (λ r. a.act (λ t. r) s) (sym (S.minus S.none)) ∙ a.adds (λ t. S.none) (λ t. four S.none) s
        ∙ ap (S.plus (a.act (λ t. S.none) s)) (a.roots (λ t. S.root (S.root (S.root S.none))) s
        ∙ ap S.root (a.roots (λ t. S.root (S.root S.none)) s ∙ ap S.root (a.roots (λ t. S.root S.none) s ∙ ap S.root (a.roots (λ t. S.none) s))))
        ∙ S.minus (a.act (λ t. S.none) s)

    abbrev pub matrices : Operators n
    matrices = record {
      Op = Op;
      none = none_op;
      one = one_op;
      root = root_op;
      half = half_op;
      plus = plus_op;
      times = times_op;
      read = read_op;
      plus_assoc = λ a b c. equal _ _ (λ v s. S.plus_assoc (a.act v s) (b.act v s) (c.act v s));
      plus_comm = λ a b. equal _ _ (λ v s. S.plus_comm (a.act v s) (b.act v s));
      plus_none = λ a. equal _ _ (λ v s. S.plus_none (a.act v s));
      times_assoc = λ a b c. equal _ _ (λ v s. refl);
      one_left = λ a. equal _ _ (λ v s. refl);
      one_right = λ a. equal _ _ (λ v s. refl);
      none_left = λ a. equal _ _ (λ v s. refl);
      none_right = λ a. equal _ _ (λ v s. none_of a s);
      from_left = λ a b c. equal _ _ (λ v s. a.adds (b.act v) (c.act v) s);
      from_right = λ a b c. equal _ _ (λ v s. refl);
      root_central = λ a. equal _ _ (λ v s. a.roots v s);
      half_central = λ a. equal _ _ (λ v s. a.halves v s);
      halves = equal _ _ (λ v s. S.halves (v s));
      read_times = λ P Q wP wQ. equal _ _ (λ v s.
          ap₂ (λ p t. phased S p (v t))
          (⊕-assoc (P.phase ⊕ Q.phase) (phases P.letters Q.letters) (entry_all n (products P.letters Q.letters) s)
          ∙ ap (λ p. P.phase ⊕ Q.phase ⊕ p) (entry_product n P.letters Q.letters wP wQ s)
          ∙ exchange P.phase Q.phase (entry_all n P.letters s) (entry_all n Q.letters (flip_all n P.letters s)))
          (flip_product n P.letters Q.letters wP wQ s)
          ∙ phased-phased (P.phase ⊕ entry_all n P.letters s) (Q.phase ⊕ entry_all n Q.letters (flip_all n P.letters s)) _);
      read_identity = equal _ _ (λ v s. ap₂ (λ p t. phased S p (v t)) (entry_none n s) (flip_none n s));
      read_i = λ P. equal _ _ (λ v s. ap (λ p. phased S p (v (flip_all n P.letters s))) (⊕-assoc PlusI P.phase (entry_all n P.letters s)) ∙ phased-phased PlusI (P.phase ⊕ entry_all n P.letters s) _);
      read_minus = λ P. equal _ _ (λ v s.
          ap (λ p. S.plus ((read_op P).act v s) (phased S p (v (flip_all n P.letters s)))) (⊕-assoc MinusOne P.phase (entry_all n P.letters s))
          ∙ ap (S.plus ((read_op P).act v s)) (phased-phased MinusOne (P.phase ⊕ entry_all n P.letters s) _) ∙ S.minus ((read_op P).act v s));
    }
