-- What a function on the pool has in hand: two chains that it takes apart, one that it makes, the free list, and every other chain as it was.
-- The moves of a record from one of them to another.
use mathlib.Core.Path.{◌≡◌, refl, sym, ap, subst, ◌∙◌}
use mathlib.Core.List.{List, [], ◌∷◌}
use Prim.Native.Nat.{ℕ, zero, suc, ◌+◌, ◌*◌, ◌≤◌, ◌<◌}
use native.Mathlib.Omega.{arith}
use lib.ListN.{length, set}
use lib.Seq.{get_or-set_same, get_or-set_other}
use lib.Dec.{eqb}
use borrow.Author.Tests.{eq-eqb, ne_eqb}
use mathlib.Core.Logic.{◌≢◌}
use mathlib.Core.Bool.{cond}
use Rattle.pauli.specs.Letters.{pauli_number}
use Rattle.arena.specs.Types.{I}
use Rattle.arena.specs.Sparse.{Factor}
use Rattle.arena.specs.Pool.{Owner, loose, spare, held, Who, next_at, qubit_at, letter_at, Lendable, Holds, Chain, Free}
use Rattle.arena.proofs.Chains.Laws.{Step, put, upd, upd_same, give, both, no_mix, not-held, not-spare, one_tag, one_qubit, one_place, counted_step, holds_step, chain_step, free_step, last_not, made_step, Made, onto}

-- ---- a chain in the making

-- the next word of a record is written: its factor stands
pub holds_next : {p : List ℕ} {who : Who} {t : ℕ} {f : Factor} {e : ℕ} (v : ℕ) → Holds p who t f e → Holds (set p (3 * e) v) who t f e
holds_next {p} {who} {e = e} v h =
    record {
      counted = counted_step (put p who e (3 * e) v (omega arith) (omega arith)) h.counted;
      mine = h.mine;
      qubit_is = get_or-set_other p (3 * e) (3 * e + 1) v 0 (omega arith) ∙ h.qubit_is;
      letter_is = get_or-set_other p (3 * e) (3 * e + 2) v 0 (omega arith) ∙ h.letter_is;
      some_letter = h.some_letter;
    }

-- the next word of the last record is written, and the bound rises
pub made-put : (p : List ℕ) (who : Who) (t hi q e v : ℕ) (fs : List Factor) → hi ≤ q → Made p who t hi e fs → Made (set p (3 * e) v) who t q e fs
made-put p who t hi q e v [] l m = m
made-put p who t hi q e v (f ∷ fs) l m =
    let s : Step p who (set p (3 * e) v) who e = put p who e (3 * e) v (omega arith) (omega arith) in
    let pos : 0 < e = m.0.counted.pos in
    let out : (k : ℕ) → k < f.qubit → who e ≡ held t k → ⊥ = λ k lt o. omega (arith, one_qubit m.0.mine o) in
    let d : ℕ = m.2.0 in (
      holds_next v m.0,
      omega (arith, m.1),
      (
        d,
        (s.same d (last_not s t f.qubit d fs pos out m.2.2)).next_same ∙ m.2.1,
        made_step s t f.qubit d fs pos out m.2.2,
      ),
    )

pub record LastHeld (who : Who) (t hi e : ℕ) : Type 0 where
  pub at : ℕ
  pub below : at < hi
  pub is : who e ≡ held t at

pub last-held : (p : List ℕ) (who : Who) (t hi e : ℕ) (fs : List Factor) → 0 < e → Made p who t hi e fs → LastHeld who t hi e
last-held p who t hi e [] pos m = absurd (let z : ◌≡◌ {A = ℕ} 0 1 = omega arith in omega arith)
last-held p who t hi e (f ∷ fs) pos m = record { at = f.qubit; below = m.1; is = m.0.mine }

pub last_room : (p : List ℕ) (who : Who) (t hi e : ℕ) (fs : List Factor) → 0 < length p → Made p who t hi e fs → 3 * e < length p
last_room p who t hi e [] pos m = omega arith
last_room p who t hi e (f ∷ fs) pos m = omega (arith, m.0.counted.room)

pub chain_lower : (p : List ℕ) (who : Who) (t lo h lo' : ℕ) (fs : List Factor) → lo' ≤ lo → Chain p who t lo h fs → Chain p who t lo' h fs
chain_lower p who t lo h lo' [] l c = c
chain_lower p who t lo h lo' (f ∷ fs) l c = (c.0, omega (arith, c.1), c.2)

-- the last record's next is a chain: all of it is one chain, from record 0's next
pub close : (p : List ℕ) (who : Who) (t hi e : ℕ) (rs fs : List Factor) → Made p who t hi e rs → Chain p who t hi (next_at p e) fs → Chain p who t 0 (next_at p 0) (onto rs fs)
close p who t hi e [] fs m c = chain_lower p who t hi (next_at p 0) 0 fs (omega arith) (subst (λ (y : ℕ). Chain p who t hi (next_at p y) fs) m c)
close p who t hi e (f ∷ rs) fs m c =
    let d : ℕ = m.2.0 in
    close p who t f.qubit d rs (f ∷ fs) m.2.2
    (subst (λ (y : ℕ). Chain p who t f.qubit y (f ∷ fs)) (sym m.2.1) (m.0, omega arith, chain_lower p who t hi (next_at p e) (suc f.qubit) fs m.1 c))

-- ---- bounds

pub free_low : (p : List ℕ) (who : Who) (h n : ℕ) → Free p who h n → h < 65536
free_low p who h zero c = omega arith
free_low p who h (suc n) c = c.0.low

pub chain_low : (p : List ℕ) (who : Who) (t lo h : ℕ) (fs : List Factor) → Chain p who t lo h fs → h < 65536
chain_low p who t lo h [] c = omega arith
chain_low p who t lo h (f ∷ fs) c = c.0.counted.low

pub last_low : (p : List ℕ) (who : Who) (t hi e : ℕ) (fs : List Factor) → Made p who t hi e fs → e < 65536
last_low p who t hi e [] m = omega arith
last_low p who t hi e (f ∷ fs) m = m.0.counted.low

pub last_fits : (p : List ℕ) (who : Who) (t hi e : ℕ) (fs : List Factor) → Made p who t hi e fs → (e ≡ 0 → ⊥) → 3 * e < length p
last_fits p who t hi e [] m ne = absurd (ne m)
last_fits p who t hi e (f ∷ fs) m ne = omega (arith, m.0.counted.room)

-- ---- a chain gets another tag

abbrev pub renamed : ℕ → ℕ → Owner → Owner
renamed t u loose = loose
renamed t u (spare n) = spare n
renamed t u (held v k) = held (cond (eqb v t) u v) k

abbrev pub retag : ℕ → ℕ → Who → Who
retag t u who r = renamed t u (who r)

pub chain_own : (p : List ℕ) (who who' : Who) (t u lo h : ℕ) (fs : List Factor) → ((r k : ℕ) → who r ≡ held t k → who' r ≡ held u k) → Chain p who t lo h fs → Chain p who' u lo h fs
chain_own p who who' t u lo h [] m c = c
chain_own p who who' t u lo h (f ∷ fs) m c =
    let o : Holds p who t f h = c.0 in (
      record {
        counted = o.counted;
        mine = m h f.qubit o.mine;
        qubit_is = o.qubit_is;
        letter_is = o.letter_is;
        some_letter = o.some_letter;
      },
      c.1,
      chain_own p who who' t u (suc f.qubit) (next_at p h) fs m c.2,
    )

pub free_own : (p : List ℕ) (who who' : Who) (h n : ℕ) → ((r k : ℕ) → who r ≡ spare k → who' r ≡ spare k) → Free p who h n → Free p who' h n
free_own p who who' h zero m c = c
free_own p who who' h (suc n) m c = (c.0, m h (suc n) c.1, free_own p who who' (next_at p h) n m c.2)

pub made_own : (p : List ℕ) (who who' : Who) (t hi e : ℕ) (fs : List Factor) → ((r k : ℕ) → who r ≡ held t k → who' r ≡ held t k) → Made p who t hi e fs → Made p who' t hi e fs
made_own p who who' t hi e [] m c = c
made_own p who who' t hi e (f ∷ fs) m c =
    let o : Holds p who t f e = c.0 in (
      record {
        counted = o.counted;
        mine = m e f.qubit o.mine;
        qubit_is = o.qubit_is;
        letter_is = o.letter_is;
        some_letter = o.some_letter;
      },
      c.1,
      (c.2.0, c.2.1, made_own p who who' t f.qubit c.2.0 fs m c.2.2),
    )

pub retag-same : (t u : ℕ) (who : Who) (r k : ℕ) → who r ≡ held t k → retag t u who r ≡ held u k
retag-same t u who r k e = ap (renamed t u) e ∙ rw (eq-eqb t t refl)

pub retag-other : (t u v : ℕ) (who : Who) (r k : ℕ) → (v ≡ t → ⊥) → who r ≡ held v k → retag t u who r ≡ held v k
retag-other t u v who r k ne e = ap (renamed t u) e ∙ rw (ne_eqb v t ne)

pub retag-spare : (t u : ℕ) (who : Who) (r k : ℕ) → who r ≡ spare k → retag t u who r ≡ spare k
retag-spare t u who r k e = ap (renamed t u) e

-- ---- what is in hand

-- `out` has the tags whose chains need not stand at the end
pub record Job : Type 1 where
  pub out : ℕ → Type 0
  pub p₀ : List ℕ
  pub who₀ : Who
  pub ta : ℕ
  pub tb : ℕ
  pub tr : ℕ
  pub a_b : ta ≡ tb → ⊥
  pub a_r : ta ≡ tr → ⊥
  pub b_r : tb ≡ tr → ⊥

pub record Parts (j : Job) (p : List ℕ) (who : Who) (la a : ℕ) (fa : List Factor) (lb b : ℕ) (fb : List Factor) (hi e : ℕ) (rs : List Factor) (free n : ℕ) : Type 0 where
  pub chain_a : Chain p who j.ta la a fa
  pub chain_b : Chain p who j.tb lb b fb
  pub made : Made p who j.tr hi e rs
  pub freed : Free p who free n
  pub kept : (t lo h : ℕ) (fs : List Factor) → (j.out t → ⊥) → Chain j.p₀ j.who₀ t lo h fs → Chain p who t lo h fs
  pub long : length p ≡ length j.p₀

abbrev pub swapped : Job → Job
swapped j =
    record
    { out = j.out; p₀ = j.p₀; who₀ = j.who₀; ta = j.tb; tb = j.ta; tr = j.tr; a_b = λ e. j.a_b (sym e); a_r = j.b_r; b_r = j.a_r }

module _ {j : Job} {p : List ℕ} {who : Who} {la a : ℕ} {fa : List Factor} {lb b : ℕ} {fb : List Factor} {hi e : ℕ} {rs : List Factor} {free n : ℕ} where
  pub swap : Parts j p who la a fa lb b fb hi e rs free n → Parts (swapped j) p who lb b fb la a fa hi e rs free n
  swap w =
      record {
        chain_a = w.chain_b;
        chain_b = w.chain_a;
        made = w.made;
        freed = w.freed;
        kept = w.kept;
        long = w.long;
      }

  -- a record in nobody's hands is written or changes hands
  pub of_loose : {p' : List ℕ} {who' : Who} {x : ℕ} → Step p who p' who' x → 0 < x → who x ≡ loose → Parts j p who la a fa lb b fb hi e rs free n → Parts j p' who' la a fa lb b fb hi e rs free n
  of_loose s pos l w =
      record {
        chain_a = chain_step s _ la a fa (λ k _ _ o. not-held l o) w.chain_a;
        chain_b = chain_step s _ lb b fb (λ k _ _ o. not-held l o) w.chain_b;
        made = made_step s _ hi e rs pos (λ k _ o. not-held l o) w.made;
        freed = free_step s free n (λ k _ _ o. not-spare l o) w.freed;
        kept = λ t lo h fs no' c. chain_step s t lo h fs (λ k _ _ o. not-held l o) (w.kept t lo h fs no' c);
        long = s.len ∙ w.long;
      }

  -- the last record gets a loose record as its next, which thereby is the last
  pub append : j.out j.tr → (x : ℕ) (f : Factor) → Lendable p x → who x ≡ loose → qubit_at p x ≡ f.qubit → letter_at p x ≡ pauli_number f.pauli → f.pauli ≢ I → hi ≤ f.qubit
      → Parts j p who la a fa lb b fb hi e rs free n
      → Parts j (set p (3 * e) x) (upd who x (held j.tr f.qubit)) la a fa lb b fb (suc f.qubit) x (f ∷ rs) free n
  append out-r x f cx l q le l1 up w₀ =
      let who' : Who = upd who x (held j.tr f.qubit) in
      let w : Parts j p who' la a fa lb b fb hi e rs free n = of_loose (give p who x (held j.tr f.qubit)) cx.pos l w₀ in
      let s : Step p who' (set p (3 * e) x) who' e = put p who' e (3 * e) x (omega arith) (omega arith) in
      let ne : x ≡ e → ⊥ = λ eq. last_not (give p who x loose) j.tr hi e rs cx.pos (λ k _ o. not-held l o) w₀.made (sym eq) in
      record {
        chain_a = chain_step s _ la a fa (λ k _ pos o. j.a_r (one_tag o (last-held p who' j.tr hi e rs pos w.made).is)) w.chain_a;
        chain_b = chain_step s _ lb b fb (λ k _ pos o. j.b_r (one_tag o (last-held p who' j.tr hi e rs pos w.made).is)) w.chain_b;
        made = (
          holds_step s ne (record { counted = cx; mine = upd_same who x _; qubit_is = q; letter_is = le; some_letter = l1 }),
          omega arith,
          (e, get_or-set_same p (3 * e) x 0 (last_room p who' j.tr hi e rs (omega (arith, cx.room)) w.made), made-put p who' j.tr hi f.qubit e x rs up w.made),
        );
        freed = free_step s free n (λ k _ pos o. no_mix o (last-held p who' j.tr hi e rs pos w.made).is) w.freed;
        kept = λ t lo h fs no' c. chain_step s t lo h fs (λ k _ pos o. no' (subst j.out (sym (one_tag o (last-held p who' j.tr hi e rs pos w.made).is)) out-r)) (w.kept t lo h fs no' c);
        long = s.len ∙ w.long;
      }

  -- a loose record gets the free list as its next, and is its first
  pub push : (x : ℕ) → Lendable p x → who x ≡ loose → Parts j p who la a fa lb b fb hi e rs free n
      → Parts j (set p (3 * x) free) (upd who x (spare (suc n))) la a fa lb b fb hi e rs x (suc n)
  push x cx l w₀ =
      let p' : List ℕ = set p (3 * x) free in
      let who' : Who = upd who x (spare (suc n)) in
      let s : Step p who p' who' x = both (put p who x (3 * x) free (omega arith) (omega arith)) (give p' who x (spare (suc n))) in
      let w : Parts j p' who' la a fa lb b fb hi e rs free n = of_loose s cx.pos l w₀ in
      record {
        chain_a = w.chain_a;
        chain_b = w.chain_b;
        made = w.made;
        freed = (counted_step s cx, upd_same who x _, subst (λ (y : ℕ). Free p' who' y n) (sym (get_or-set_same p (3 * x) free 0 (omega (arith, cx.room)))) w.freed);
        kept = w.kept;
        long = w.long;
      }

  -- the first record of the free list is loose
  pub pop : Parts j p who la a fa lb b fb hi e rs free (suc n)
      → Parts j p (upd who free loose) la a fa lb b fb hi e rs (next_at p free) n
  pop w =
      let s : Step p who p (upd who free loose) free = give p who free loose in
      let o : who free ≡ spare (suc n) = w.freed.1 in
      record {
        chain_a = chain_step s _ la a fa (λ k _ _ h. no_mix o h) w.chain_a;
        chain_b = chain_step s _ lb b fb (λ k _ _ h. no_mix o h) w.chain_b;
        made = made_step s _ hi e rs w.freed.0.pos (λ k _ h. no_mix o h) w.made;
        freed = free_step s (next_at p free) n (λ k l _ h. omega (arith, one_place o h)) w.freed.2;
        kept = λ t lo h fs no' c. chain_step s t lo h fs (λ k _ _ h. no_mix o h) (w.kept t lo h fs no' c);
        long = w.long;
      }

  -- the first record of the first chain is loose
  pub detach : j.out j.ta → (f : Factor) → Parts j p who la a (f ∷ fa) lb b fb hi e rs free n
      → Parts j p (upd who a loose) (suc f.qubit) (next_at p a) fa lb b fb hi e rs free n
  detach out-a f w =
      let s : Step p who p (upd who a loose) a = give p who a loose in
      let o : who a ≡ held j.ta f.qubit = w.chain_a.0.mine in
      record {
        chain_a = chain_step s _ (suc f.qubit) (next_at p a) fa (λ k l _ h. omega (arith, one_qubit o h)) w.chain_a.2;
        chain_b = chain_step s _ lb b fb (λ k _ _ h. j.a_b (one_tag o h)) w.chain_b;
        made = made_step s _ hi e rs w.chain_a.0.counted.pos (λ k _ h. j.a_r (one_tag o h)) w.made;
        freed = free_step s free n (λ k _ _ h. no_mix h o) w.freed;
        kept = λ t lo h fs no' c. chain_step s t lo h fs (λ k _ _ h'. no' (subst j.out (sym (one_tag h' o)) out-a)) (w.kept t lo h fs no' c);
        long = w.long;
      }

  -- the first chain is read on, and stays whole
  pub advance : (f : Factor) → Parts j p who la a (f ∷ fa) lb b fb hi e rs free n
      → Parts j p who (suc f.qubit) (next_at p a) fa lb b fb hi e rs free n
  advance f w =
      record { chain_a = w.chain_a.2; chain_b = w.chain_b; made = w.made; freed = w.freed; kept = w.kept; long = w.long }
