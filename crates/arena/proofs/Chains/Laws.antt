-- How a pool's chains, its free list and a chain that is being made fare where one record is written or changes hands.
use mathlib.Core.Path.{◌≡◌, refl, sym, subst, ◌∙◌}
use mathlib.Core.List.{List, [], ◌∷◌}
use Prim.Native.Nat.{ℕ, zero, suc, ◌+◌, ◌*◌, ◌≤◌, ◌<◌}
use native.Mathlib.Omega.{arith}
use lib.ListN.{length, set, length-set}
use lib.Seq.{get_or-set_other}
use lib.Dec.{eqb}
use borrow.Author.Tests.{eq-eqb, ne_eqb}
use mathlib.Core.Bool.{cond}
use Rattle.arena.specs.Sparse.{Factor}
use Rattle.arena.specs.Pool.{Owner, loose, spare, held, Who, next_at, qubit_at, letter_at, Lendable, Holds, Chain, Free}

-- e is the last record of a chain that is being made, whose first record is record 0's next: its factors, the last first, fall from below hi.
-- Record 0, which is never lent, stands before the first; what e's next is, this does not say
abbrev pub Made : List ℕ → Who → ℕ → ℕ → ℕ → List Factor → Type 0
Made p who t hi e [] = e ≡ 0
Made p who t hi e (f ∷ fs) =
    Holds p who t f e × (f.qubit < hi) × ((d : ℕ) × (next_at p d ≡ e) × Made p who t f.qubit d fs)

-- rs, reversed, before fs
abbrev pub onto : List Factor → List Factor → List Factor
onto [] fs = fs
onto (r ∷ rs) fs = onto rs (r ∷ fs)

-- ---- one record changes

pub record Same (p p' : List ℕ) (r : ℕ) : Type 0 where
  pub next_same : next_at p' r ≡ next_at p r
  pub qubit_same : qubit_at p' r ≡ qubit_at p r
  pub letter_same : letter_at p' r ≡ letter_at p r

-- from (p, who) to (p', who') only the record x changes
pub record Step (p : List ℕ) (who : Who) (p' : List ℕ) (who' : Who) (x : ℕ) : Type 0 where
  pub len : length p' ≡ length p
  pub same : (r : ℕ) → (r ≡ x → ⊥) → Same p p' r
  pub own : (r : ℕ) → (r ≡ x → ⊥) → who' r ≡ who r

-- the word i of the record x is written
pub put : (p : List ℕ) (who : Who) (x i v : ℕ) → 3 * x ≤ i → i ≤ 3 * x + 2 → Step p who (set p i v) who x
put p who x i v lo hi =
    record {
      len = length-set p i v;
      same = λ r ne. record {
        next_same = get_or-set_other p i (3 * r) v 0 (omega arith);
        qubit_same = get_or-set_other p i (3 * r + 1) v 0 (omega arith);
        letter_same = get_or-set_other p i (3 * r + 2) v 0 (omega arith);
      };
      own = λ r ne. refl;
    }

abbrev pub upd : Who → ℕ → Owner → Who
upd who x o r = cond (eqb r x) o (who r)

pub upd_same : (who : Who) (x : ℕ) (o : Owner) → upd who x o x ≡ o
upd_same who x o = rw (eq-eqb x x refl)

pub upd_other : (who : Who) (x : ℕ) (o : Owner) (r : ℕ) → (r ≡ x → ⊥) → upd who x o r ≡ who r
upd_other who x o r ne = rw (ne_eqb r x ne)

-- the record x changes hands
pub give : (p : List ℕ) (who : Who) (x : ℕ) (o : Owner) → Step p who p (upd who x o) x
give p who x o =
    record {
      len = refl;
      same = λ r ne. record { next_same = refl; qubit_same = refl; letter_same = refl };
      own = λ r ne. upd_other who x o r ne;
    }

-- two changes of one record are one
pub both : {p p' p'' : List ℕ} {who who' who'' : Who} {x : ℕ} → Step p who p' who' x → Step p' who' p'' who'' x → Step p who p'' who'' x
both s u =
    record {
      len = u.len ∙ s.len;
      same = λ r ne. record {
        next_same = (u.same r ne).next_same ∙ (s.same r ne).next_same;
        qubit_same = (u.same r ne).qubit_same ∙ (s.same r ne).qubit_same;
        letter_same = (u.same r ne).letter_same ∙ (s.same r ne).letter_same;
      };
      own = λ r ne. u.own r ne ∙ s.own r ne;
    }

pub no_mix : {o : Owner} {t k n : ℕ} → o ≡ spare n → o ≡ held t k → ⊥
no_mix a b = let z : ◌≡◌ {A = ℕ} 0 1 = cc in omega arith

pub not-held : {o : Owner} {t k : ℕ} → o ≡ loose → o ≡ held t k → ⊥
not-held a b = let z : ◌≡◌ {A = ℕ} 0 1 = cc in omega arith

pub not-spare : {o : Owner} {n : ℕ} → o ≡ loose → o ≡ spare n → ⊥
not-spare a b = let z : ◌≡◌ {A = ℕ} 0 1 = cc in omega arith

pub one_tag : {o : Owner} {t u k l : ℕ} → o ≡ held t k → o ≡ held u l → t ≡ u
one_tag a b = cc

pub one_qubit : {o : Owner} {t u k l : ℕ} → o ≡ held t k → o ≡ held u l → k ≡ l
one_qubit a b = cc

pub one_place : {o : Owner} {k l : ℕ} → o ≡ spare k → o ≡ spare l → k ≡ l
one_place a b = cc

module _ {p : List ℕ} {who : Who} {p' : List ℕ} {who' : Who} {x : ℕ} (s : Step p who p' who' x) where
  pub counted_step : {r : ℕ} → Lendable p r → Lendable p' r
  counted_step c = record { pos = c.pos; low = c.low; room = omega (arith, s.len, c.room) }

  pub holds_step : {t : ℕ} {f : Factor} {r : ℕ} → (r ≡ x → ⊥) → Holds p who t f r → Holds p' who' t f r
  holds_step {r = r} ne h =
      record {
        counted = counted_step h.counted;
        mine = s.own r ne ∙ h.mine;
        qubit_is = (s.same r ne).qubit_same ∙ h.qubit_is;
        letter_is = (s.same r ne).letter_same ∙ h.letter_is;
        some_letter = h.some_letter;
      }

  -- a chain that does not hold x, from lo on
  pub chain_step : (t lo h : ℕ) (fs : List Factor) → ((k : ℕ) → lo ≤ k → 0 < x → who x ≡ held t k → ⊥) → Chain p who t lo h fs → Chain p' who' t lo h fs
  chain_step t lo h [] out c = c
  chain_step t lo h (f ∷ fs) out c =
      let ne : h ≡ x → ⊥ = λ e. out f.qubit c.1 (subst (λ (y : ℕ). 0 < y) e c.0.counted.pos) (subst (λ (y : ℕ). who y ≡ held t f.qubit) e c.0.mine) in (
        holds_step ne c.0,
        c.1,
        subst (λ (y : ℕ). Chain p' who' t (suc f.qubit) y fs) (sym (s.same h ne).next_same)
            (chain_step t (suc f.qubit) (next_at p h) fs (λ k l. out k (omega (arith, c.1))) c.2),
      )

  -- a free list whose places do not hold x
  pub free_step : (h n : ℕ) → ((k : ℕ) → k ≤ n → 0 < x → who x ≡ spare k → ⊥) → Free p who h n → Free p' who' h n
  free_step h zero out c = c
  free_step h (suc n) out c =
      let ne : h ≡ x → ⊥ = λ e. out (suc n) (omega arith) (subst (λ (y : ℕ). 0 < y) e c.0.pos) (subst (λ (y : ℕ). who y ≡ spare (suc n)) e c.1) in (
        counted_step c.0,
        s.own h ne ∙ c.1,
        subst (λ (y : ℕ). Free p' who' y n) (sym (s.same h ne).next_same)
            (free_step (next_at p h) n (λ k l. out k (omega arith)) c.2),
      )

  -- the last record of a chain in the making is not x
  pub last_not : (t hi e : ℕ) (fs : List Factor) → 0 < x → ((k : ℕ) → k < hi → who x ≡ held t k → ⊥) → Made p who t hi e fs → e ≡ x → ⊥
  last_not t hi e [] pos out m eq = omega arith
  last_not t hi e (f ∷ fs) pos out m eq = out f.qubit m.1 (subst (λ (y : ℕ). who y ≡ held t f.qubit) eq m.0.mine)

  pub made_step : (t hi e : ℕ) (fs : List Factor) → 0 < x → ((k : ℕ) → k < hi → who x ≡ held t k → ⊥) → Made p who t hi e fs → Made p' who' t hi e fs
  made_step t hi e [] pos out m = m
  made_step t hi e (f ∷ fs) pos out m =
      let out' : (k : ℕ) → k < f.qubit → who x ≡ held t k → ⊥ = λ k l. out k (omega (arith, m.1)) in
      let d : ℕ = m.2.0 in (
        holds_step (last_not t hi e (f ∷ fs) pos out m) m.0,
        m.1,
        (
          d,
          (s.same d (last_not t f.qubit d fs pos out' m.2.2)).next_same ∙ m.2.1,
          made_step t f.qubit d fs pos out' m.2.2,
        ),
      )
