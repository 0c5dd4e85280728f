-- One factor lent, a chain copied, a chain given back: what each does to what is in hand.
use mathlib.Core.Path.{◌≡◌, refl, subst, ◌∙◌}
use mathlib.Core.List.{List, [], ◌∷◌}
use Prim.Native.Nat.{ℕ, zero, suc, ◌+◌, ◌-◌, ◌*◌, ◌<◌}
use native.Mathlib.Omega.{arith}
use lib.ListN.{length, set, length-set}
use lib.Seq.{get_or-set_same, get_or-set_other}
use borrow.Author.Tests.{eq-eqb, ne_eqb}
use mathlib.Core.Logic.{◌≢◌}
use Rattle.pauli.specs.Letters.{pauli_number}
use Rattle.arena.specs.Types.{I}
use Rattle.arena.specs.Sparse.{Factor}
use Rattle.arena.specs.Pool.{loose, held, Who, next_at, qubit_at, letter_at, Lendable, Holds, Chain, Free}
use Rattle.arena.specs.PoolSteps.{Lender, Lent, Source, Copied, Holding, GivenBack}
use Rattle.arena.proofs.Chains.Laws.{Step, put, upd, upd_same, give, both, no_mix, one_tag, counted_step, chain_step, free_step, onto}
use Rattle.arena.proofs.Chains.Parts.{Job, Parts, of_loose, append, push, pop, detach, advance, close, made-put, last-held, last_room, LastHeld, free_low, last_low, last_fits}
use Rattle.arena.specs.Code.Turns.{attached, head_of}

-- a record whose qubit and letter are written
module _ (p : List ℕ) (x q l : ℕ) where
  abbrev pub filled : List ℕ
  filled = set (set p (3 * x + 1) q) (3 * x + 2) l

  pub fill_step : (who : Who) → Step p who filled who x
  fill_step who = both (put p who x (3 * x + 1) q (omega arith) (omega arith)) (put (set p (3 * x + 1) q) who x (3 * x + 2) l (omega arith) (omega arith))

  pub fill_qubit : 3 * x + 2 < length p → qubit_at filled x ≡ q
  fill_qubit r = get_or-set_other (set p (3 * x + 1) q) (3 * x + 2) (3 * x + 1) l 0 (omega arith) ∙ get_or-set_same p (3 * x + 1) q 0 (omega arith)

  pub fill_letter : 3 * x + 2 < length p → letter_at filled x ≡ l
  fill_letter r = get_or-set_same (set p (3 * x + 1) q) (3 * x + 2) l 0 (rw (length-set p (3 * x + 1) q) r)

-- ---- one factor

module _ {p : List ℕ} {free : ℕ} (g : Lender p free) where
  abbrev lending : Job
  lending =
      record {
        out = λ t. t ≡ g.tr;
        p₀ = p;
        who₀ = g.who;
        ta = suc g.tr;
        tb = suc (suc g.tr);
        tr = g.tr;
        a_b = λ e. omega arith;
        a_r = λ e. omega arith;
        b_r = λ e. omega arith;
      }

  pub lent : (f : Factor) → f.pauli ≢ I
      → Lent g f (set (filled p free f.qubit (pauli_number f.pauli)) (3 * free) 0) free (next_at p free)
  lent f l1 =
      let q : ℕ = f.qubit in
      let l : ℕ = pauli_number f.pauli in
      let x : Lendable p free = g.freed.0 in
      let p₂ : List ℕ = filled p free q l in
      let p₃ : List ℕ = set p₂ (3 * free) 0 in
      let who₁ : Who = upd g.who free loose in
      let who₂ : Who = upd who₁ free (held g.tr q) in
      let w₀ : Parts lending p g.who 0 0 [] 0 0 [] 0 0 [] free (suc g.n) =
      record { chain_a = refl; chain_b = refl; made = refl; freed = g.freed; kept = λ t lo h fs no' c. c; long = refl } in
      let s : Step p who₁ p₃ who₂ free =
      both (both (fill_step p free q l who₁) (put p₂ who₁ free (3 * free) 0 (omega arith) (omega arith))) (give p₃ who₁ free (held g.tr q)) in
      let w = of_loose s x.pos (upd_same g.who free loose) (pop w₀) in
      let room : 3 * free < length p₂ = omega (arith, x.room, (fill_step p free q l who₁).len) in
      record {
        who' = who₂;
        chain = (
          record {
            counted = counted_step s x;
            mine = upd_same who₁ free _;
            qubit_is = get_or-set_other p₂ (3 * free) (3 * free + 1) 0 0 (omega arith) ∙ fill_qubit p free q l x.room;
            letter_is = get_or-set_other p₂ (3 * free) (3 * free + 2) 0 0 (omega arith) ∙ fill_letter p free q l x.room;
            some_letter = l1;
          },
          omega arith,
          get_or-set_same p₂ (3 * free) 0 0 room,
        );
        freed = w.freed;
        kept = w.kept;
        long = w.long;
      }

  pub lent' : {x l : ℕ} {p₁ p₂ p₃ : List ℕ} (f : Factor) → f.pauli ≢ I → l ≡ pauli_number f.pauli
      → x ≡ next_at p free → p₁ ≡ set p (3 * free + 1) f.qubit → p₂ ≡ set p₁ (3 * free + 2) l → p₃ ≡ set p₂ (3 * free) 0
      → Lent g f p₃ free x
  lent' f l1 l-is x-is e₁ e₂ e₃ = rw (x-is, e₃, e₂, e₁, l-is) (lent f l1)

-- ---- a copy

module _ {p₀ : List ℕ} {free₀ a₀ count : ℕ} where
  abbrev pub copying : Source p₀ free₀ a₀ count → Job
  copying g =
      record {
        out = λ t. t ≡ g.tr;
        p₀ = p₀;
        who₀ = g.who;
        ta = g.ta;
        tb = suc (g.ta + g.tr);
        tr = g.tr;
        a_b = λ e. omega arith;
        a_r = g.a_r;
        b_r = λ e. omega arith;
      }

pub record Copying {p₀ : List ℕ} {free₀ a₀ count : ℕ} (g : Source p₀ free₀ a₀ count) (p : List ℕ) (free a tail left : ℕ) : Type 0 where
  pub who : Who
  pub lo : ℕ
  pub fs : List Factor
  pub rs : List Factor
  pub n : ℕ
  pub parts : Parts (copying g) p who lo a fs 0 0 [] lo tail rs free n
  pub factors_is : onto rs fs ≡ g.fs
  pub left_is : left ≡ length fs
  pub enough : n ≡ left + g.n

-- what the code needs to be safe
pub record CopyReady (p : List ℕ) (free a tail : ℕ) : Type 0 where
  pub a_low : a < 65536
  pub a_room : 3 * a + 2 < length p
  pub free_low : free < 65536
  pub free_room : 3 * free + 2 < length p
  pub tail_low : tail < 65536
  pub tail_room : 3 * tail < length p

module _ {p₀ : List ℕ} {free₀ a₀ count : ℕ} (g : Source p₀ free₀ a₀ count) where
  pub copy_begin : Copying g p₀ free₀ a₀ 0 count
  copy_begin =
      record {
        who = g.who;
        lo = 0;
        fs = g.fs;
        rs = [];
        n = count + g.n;
        parts = record { chain_a = g.chain; chain_b = refl; made = refl; freed = g.freed; kept = λ t lo h fs no' c. c; long = refl };
        factors_is = refl;
        left_is = g.count_is;
        enough = refl;
      }

  module _ {p : List ℕ} {free a tail left : ℕ} where
    ready_of : (who : Who) (lo : ℕ) (fs rs : List Factor) (n : ℕ) → Parts (copying g) p who lo a fs 0 0 [] lo tail rs free n
        → left ≡ length fs → n ≡ left + g.n → (left ≡ 0 → ⊥) → CopyReady p free a tail
    ready_of who lo [] rs n w li en ne = absurd (ne li)
    ready_of who lo (f ∷ fs) rs zero w li en ne = absurd (let z : ◌≡◌ {A = ℕ} 0 1 = omega arith in omega arith)
    ready_of who lo (f ∷ fs) rs (suc n) w li en ne =
        let x : Lendable p a = w.chain_a.0.counted in
        record {
          a_low = x.low;
          a_room = x.room;
          free_low = w.freed.0.low;
          free_room = w.freed.0.room;
          tail_low = last_low p who g.tr lo tail rs w.made;
          tail_room = last_room p who g.tr lo tail rs (omega (arith, x.room)) w.made;
        }

    pub copy_ready : Copying g p free a tail left → (left ≡ 0 → ⊥) → CopyReady p free a tail
    copy_ready s = ready_of s.who s.lo s.fs s.rs s.n s.parts s.left_is s.enough

    turn_of : (who : Who) (lo : ℕ) (fs rs : List Factor) (n : ℕ) → Parts (copying g) p who lo a fs 0 0 [] lo tail rs free n
        → onto rs fs ≡ g.fs → left ≡ length fs → n ≡ left + g.n → (left ≡ 0 → ⊥)
        → Copying g (set (filled p free (qubit_at p a) (letter_at p a)) (3 * tail) free) (next_at p free)
        (next_at (set (filled p free (qubit_at p a) (letter_at p a)) (3 * tail) free) a) free (left - 1)
    turn_of who lo [] rs n w fi li en ne = absurd (ne li)
    turn_of who lo (f ∷ fs) rs zero w fi li en ne = absurd (let z : ◌≡◌ {A = ℕ} 0 1 = omega arith in omega arith)
    turn_of who lo (f ∷ fs) rs (suc n) w fi li en ne =
        let q : ℕ = qubit_at p a in
        let l : ℕ = letter_at p a in
        let y : Holds p who g.ta f a = w.chain_a.0 in
        let x : Lendable p free = w.freed.0 in
        let who₁ : Who = upd who free loose in
        let s : Step p who₁ (filled p free q l) who₁ free = fill_step p free q l who₁ in
        let w₂ = of_loose s x.pos (upd_same who free loose) (pop w) in
        let w₃ = append refl free f (counted_step s x) (upd_same who free loose)
        (fill_qubit p free q l x.room ∙ y.qubit_is) (fill_letter p free q l x.room ∙ y.letter_is)
        y.some_letter w.chain_a.1 w₂ in
        record {
          who = _;
          lo = suc f.qubit;
          fs = fs;
          rs = f ∷ rs;
          n = n;
          parts = advance f w₃;
          factors_is = fi;
          left_is = omega arith;
          enough = omega arith;
        }

    pub copy_turn : {x y : ℕ} {p₂ p₃ : List ℕ} → Copying g p free a tail left → (left ≡ 0 → ⊥) → x ≡ next_at p free
        → p₂ ≡ set (set p (3 * free + 1) (qubit_at p a)) (3 * free + 2) (letter_at p a) → p₃ ≡ set p₂ (3 * tail) free → y ≡ next_at p₃ a
        → Copying g p₃ x y free (left - 1)
    copy_turn s ne x-is e₂ e₃ y-is =
        rw (y-is, x-is, e₃, e₂) (turn_of s.who s.lo s.fs s.rs s.n s.parts s.factors_is s.left_is s.enough ne)

    pub copy_tail_low : Copying g p free a tail left → tail < 65536
    copy_tail_low s = last_low p s.who g.tr s.lo tail s.rs s.parts.made

    pub copy_tail_room : Copying g p free a tail left → (tail ≡ 0 → ⊥) → 3 * tail < length p
    copy_tail_room s = last_fits p s.who g.tr s.lo tail s.rs s.parts.made

    end_of : (who : Who) (lo : ℕ) (fs rs : List Factor) (n : ℕ) → Parts (copying g) p who lo a fs 0 0 [] lo tail rs free n
        → onto rs fs ≡ g.fs → left ≡ length fs → n ≡ left + g.n → left ≡ 0
        → Copied g (attached p tail 0) (head_of (attached p tail 0) tail 0) free
    end_of who lo (f ∷ fs) rs n w fi li en z = absurd (let y : ◌≡◌ {A = ℕ} 0 1 = omega arith in omega arith)
    end_of who lo [] [] n w fi li en z =
        let e : n ≡ g.n = omega arith in
        rw (eq-eqb tail 0 w.made)
        (record {
          who' = who;
          chain = subst (λ (hs : List Factor). Chain p who g.tr 0 0 hs) fi refl;
          freed = subst (λ (k : ℕ). Free p who free k) e w.freed;
          kept = w.kept;
          long = w.long;
        })
    end_of who lo [] (f ∷ rs) n w fi li en z =
        let e : n ≡ g.n = omega arith in
        let p' : List ℕ = set p (3 * tail) 0 in
        let s : Step p who p' who tail = put p who tail (3 * tail) 0 (omega arith) (omega arith) in
        let x : Lendable p tail = w.made.0.counted in
        let o : LastHeld who g.tr lo tail = last-held p who g.tr lo tail (f ∷ rs) x.pos w.made in
        rw (ne_eqb tail 0 (λ eq. omega (arith, x.pos)))
        (record {
          who' = who;
          chain = subst (λ (hs : List Factor). Chain p' who g.tr 0 (next_at p' 0) hs) fi
              (close p' who g.tr lo tail (f ∷ rs) [] (made-put p who g.tr lo lo tail 0 (f ∷ rs) (omega arith) w.made) (get_or-set_same p (3 * tail) 0 0 (omega (arith, x.room))));
          freed = subst (λ (k : ℕ). Free p' who free k) e (free_step s free n (λ k _ _ h. no_mix h o.is) w.freed);
          kept = λ t lo' h hs no' c. chain_step s t lo' h hs (λ k _ _ h'. no' (one_tag h' o.is)) (w.kept t lo' h hs no' c);
          long = s.len ∙ w.long;
        })

    pub copy_end : {p' : List ℕ} {head : ℕ} → Copying g p free a tail left → left ≡ 0 → p' ≡ attached p tail 0 → head ≡ head_of p' tail 0 → Copied g p' head free
    copy_end s z p-is h-is = rw (h-is, p-is) (end_of s.who s.lo s.fs s.rs s.n s.parts s.factors_is s.left_is s.enough z)

-- ---- a chain given back

module _ {p₀ : List ℕ} {free₀ a₀ count : ℕ} where
  abbrev pub giving : Holding p₀ free₀ a₀ count → Job
  giving g =
      record {
        out = λ t. t ≡ g.ta;
        p₀ = p₀;
        who₀ = g.who;
        ta = g.ta;
        tb = suc g.ta;
        tr = suc (suc g.ta);
        a_b = λ e. omega arith;
        a_r = λ e. omega arith;
        b_r = λ e. omega arith;
      }

pub record Giving {p₀ : List ℕ} {free₀ a₀ count : ℕ} (g : Holding p₀ free₀ a₀ count) (p : List ℕ) (free a left : ℕ) : Type 0 where
  pub who : Who
  pub lo : ℕ
  pub fs : List Factor
  pub n : ℕ
  pub parts : Parts (giving g) p who lo a fs 0 0 [] 0 0 [] free n
  pub left_is : left ≡ length fs
  pub total : n + left ≡ count + g.n

pub record GiveReady (p : List ℕ) (free a : ℕ) : Type 0 where
  pub a_low : a < 65536
  pub a_room : 3 * a + 2 < length p
  pub free_low : free < 65536

module _ {p₀ : List ℕ} {free₀ a₀ count : ℕ} (g : Holding p₀ free₀ a₀ count) where
  pub give-begin : Giving g p₀ free₀ a₀ count
  give-begin =
      record {
        who = g.who;
        lo = 0;
        fs = g.fs;
        n = g.n;
        parts = record { chain_a = g.chain; chain_b = refl; made = refl; freed = g.freed; kept = λ t lo h fs no' c. c; long = refl };
        left_is = g.count_is;
        total = omega arith;
      }

  module _ {p : List ℕ} {free a left : ℕ} where
    give-ready_of : (who : Who) (lo : ℕ) (fs : List Factor) (n : ℕ) → Parts (giving g) p who lo a fs 0 0 [] 0 0 [] free n
        → left ≡ length fs → (left ≡ 0 → ⊥) → GiveReady p free a
    give-ready_of who lo [] n w li ne = absurd (ne li)
    give-ready_of who lo (f ∷ fs) n w li ne =
        record { a_low = w.chain_a.0.counted.low; a_room = w.chain_a.0.counted.room; free_low = free_low p who free n w.freed }

    pub give-ready : Giving g p free a left → (left ≡ 0 → ⊥) → GiveReady p free a
    give-ready s = give-ready_of s.who s.lo s.fs s.n s.parts s.left_is

    give-turn_of : (who : Who) (lo : ℕ) (fs : List Factor) (n : ℕ) → Parts (giving g) p who lo a fs 0 0 [] 0 0 [] free n
        → left ≡ length fs → n + left ≡ count + g.n → (left ≡ 0 → ⊥)
        → Giving g (set p (3 * a) free) a (next_at p a) (left - 1)
    give-turn_of who lo [] n w li to ne = absurd (ne li)
    give-turn_of who lo (f ∷ fs) n w li to ne =
        record {
          who = _;
          lo = suc f.qubit;
          fs = fs;
          n = suc n;
          parts = push a w.chain_a.0.counted (upd_same who a loose) (detach refl f w);
          left_is = omega arith;
          total = omega arith;
        }

    pub give-turn : {x : ℕ} {p' : List ℕ} → Giving g p free a left → (left ≡ 0 → ⊥) → x ≡ next_at p a → p' ≡ set p (3 * a) free → Giving g p' a x (left - 1)
    give-turn s ne x-is p-is = rw (x-is, p-is) (give-turn_of s.who s.lo s.fs s.n s.parts s.left_is s.total ne)

    pub give-end : Giving g p free a left → left ≡ 0 → GivenBack g p free
    give-end s z =
        let e : s.n ≡ count + g.n = omega (arith, s.total) in
        record {
          who' = s.who;
          freed = subst (λ (k : ℕ). Free p s.who free k) e s.parts.freed;
          kept = s.parts.kept;
          long = s.parts.long;
        }
