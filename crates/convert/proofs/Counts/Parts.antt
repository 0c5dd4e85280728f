-- The parts of a record, and the positions that they stand at.
use mathlib.Core.Path.{◌≡◌, refl, sym, ap, ◌∙◌}
use mathlib.Core.Bool.{Bool, true, false, cond, ◌&&◌}
use mathlib.Core.List.{List, [], ◌∷◌, ◌++◌, map, append-nil}
use Prim.Native.Nat.{ℕ, zero, suc, ◌+◌, ◌*◌, ◌/◌, ◌%◌, ◌<◌, ◌≤◌}
use native.Mathlib.Omega.{arith}
use native.Mathlib.Numerals.{add-one}
use lib.Dec.{ltb}
use lib.ListN.{length, get_or, drop, get_or-append}
use borrow.Author.Tests.{ltb-true, ltb-false, lt-ltb, le-ltb}
use Rattle.pauli.specs.Gates.{gate_h, gate_cnot}
use Rattle.arena.specs.Limits.{max_cbits}
use Rattle.convert.specs.Records.{GateKind, KindH, KindX, KindZ, KindS, KindSdg, KindT, KindTdg, KindCnot, KindCz, KindCcx, KindCcz, KindMeasure, KindY, KindSx, KindSwap, KindCy, Unsupported, Record, record_of, kind_of, Elementary, clifford, el_t, el_tdg, thirteen_of, fifteen_of, parts_as, parts_of, lower, lower_as, lower_parts, lower_in, Placed, placed_from, AllProper}
use Rattle.convert.specs.Sources.{All}
use Rattle.convert.specs.Conversion.{is_doubly}
use Rattle.convert.specs.Code.Raw.{record_at, part_count, part_at, PartIn, InParts, next_part, stepped, packed_parts, unpacked_part, Fits}

-- ---- which parts there are

-- a record is its only part, or is a ccx or ccz under a narrow cap
pub data Split (narrow : Bool) (r : Record) : Type 0 where
  whole : parts_of narrow r ≡ r ∷ [] → (narrow && is_doubly (kind_of r.kind)) ≡ false → Split narrow r
  ccx : narrow ≡ true → kind_of r.kind ≡ KindCcx → parts_of narrow r ≡ fifteen_of r.a r.b r.c → Split narrow r
  ccz : narrow ≡ true → kind_of r.kind ≡ KindCcz → parts_of narrow r ≡ thirteen_of r.a r.b r.c → Split narrow r

-- what holds of each gate holds of all parts of ccz, and of ccx
pub all_thirteen : (P : Record → Type 0) (a b d : ℕ) → P (record_of 5 a 0 0) → P (record_of 5 b 0 0) → P (record_of 5 d 0 0) → P (record_of 6 b 0 0) → P (record_of 6 d 0 0)
    → P (record_of 8 a b 0) → P (record_of 8 a d 0) → P (record_of 8 b d 0) → All P (thirteen_of a b d)
all_thirteen P a b d ta tb td tb⁻ td⁻ ab ad bd = (bd, (td⁻, (ad, (td, (bd, (td⁻, (ad, (tb, (td, (ab, (ta, (tb⁻, (ab, tt)))))))))))))

all_snoc : (P : Record → Type 0) (rs : List Record) (r : Record) → All P rs → P r → All P (rs ++ r ∷ [])
all_snoc P [] r w h = (h, tt)
all_snoc P (x ∷ rs) r w h = (w.0, all_snoc P rs r w.1 h)

pub all_fifteen : (P : Record → Type 0) (a b d : ℕ) → P (record_of 0 d 0 0) → All P (thirteen_of a b d) → All P (fifteen_of a b d)
all_fifteen P a b d h w = (h, all_snoc P (thirteen_of a b d) (record_of 0 d 0 0) w h)

pub split : (narrow : Bool) (r : Record) → Split narrow r
unfolding parts_of
split false r = whole refl refl
split true r = go (kind_of r.kind) refl
  where
    same : {k : GateKind} → kind_of r.kind ≡ k → parts_as (kind_of r.kind) r ≡ parts_as k r
    same e = ap (λ (k : GateKind). parts_as k r) e

    go : (k : GateKind) → kind_of r.kind ≡ k → Split true r
    go KindH e = whole (same e) (ap is_doubly e)
    go KindX e = whole (same e) (ap is_doubly e)
    go KindZ e = whole (same e) (ap is_doubly e)
    go KindS e = whole (same e) (ap is_doubly e)
    go KindSdg e = whole (same e) (ap is_doubly e)
    go KindT e = whole (same e) (ap is_doubly e)
    go KindTdg e = whole (same e) (ap is_doubly e)
    go KindCnot e = whole (same e) (ap is_doubly e)
    go KindCz e = whole (same e) (ap is_doubly e)
    go KindCcx e = ccx refl e (same e)
    go KindCcz e = ccz refl e (same e)
    go KindMeasure e = whole (same e) (ap is_doubly e)
    go KindY e = whole (same e) (ap is_doubly e)
    go KindSx e = whole (same e) (ap is_doubly e)
    go KindSwap e = whole (same e) (ap is_doubly e)
    go KindCy e = whole (same e) (ap is_doubly e)
    go Unsupported e = whole (same e) (ap is_doubly e)

count_as : (k : GateKind) (r : Record) → length (parts_as k r) ≡ part_count k
count_as KindH r = refl
count_as KindX r = refl
count_as KindZ r = refl
count_as KindS r = refl
count_as KindSdg r = refl
count_as KindT r = refl
count_as KindTdg r = refl
count_as KindCnot r = refl
count_as KindCz r = refl
count_as KindCcx r = refl
count_as KindCcz r = refl
count_as KindMeasure r = refl
count_as KindY r = refl
count_as KindSx r = refl
count_as KindSwap r = refl
count_as KindCy r = refl
count_as Unsupported r = refl

pub parts_count : (r : Record) → length (parts_of true r) ≡ part_count (kind_of r.kind)
unfolding parts_of
parts_count r = count_as (kind_of r.kind) r

pub parts_few : (narrow : Bool) (r : Record) → (1 ≤ length (parts_of narrow r)) × (length (parts_of narrow r) ≤ 15)
parts_few narrow r = go (split narrow r)
  where
    go : Split narrow r → (1 ≤ length (parts_of narrow r)) × (length (parts_of narrow r) ≤ 15)
    go (whole e d) = rw e (omega arith, omega arith)
    go (ccx t k e) = rw e (omega arith, omega arith)
    go (ccz t k e) = rw e (omega arith, omega arith)

-- without a narrow cap the gates are those of the record
pub lower-whole : (r : Record) → lower_in false r ≡ lower r
unfolding lower_in parts_of
lower-whole r = append-nil (lower r)

-- ---- the parts of ccx and ccz are one elementary gate each

pub record Single (r : Record) : Type 0 where
  pub gate : Elementary
  pub is : lower r ≡ gate ∷ []

one_h : (q : ℕ) → Single (record_of 0 q 0 0)
unfolding lower lower_as kind_of
one_h q = record { gate = clifford (gate_h q); is = refl }

one_t : (q : ℕ) → Single (record_of 5 q 0 0)
unfolding lower lower_as kind_of
one_t q = record { gate = el_t q; is = refl }

one_tdg : (q : ℕ) → Single (record_of 6 q 0 0)
unfolding lower lower_as kind_of
one_tdg q = record { gate = el_tdg q; is = refl }

one_cnot : (c t : ℕ) → Single (record_of 8 c t 0)
unfolding lower lower_as kind_of
one_cnot c t = record { gate = clifford (gate_cnot c t); is = refl }

thirteen_singles : (a b d : ℕ) → All Single (thirteen_of a b d)
thirteen_singles a b d = all_thirteen Single a b d (one_t a) (one_t b) (one_t d) (one_tdg b) (one_tdg d) (one_cnot a b) (one_cnot a d) (one_cnot b d)

fifteen_singles : (a b d : ℕ) → All Single (fifteen_of a b d)
fifteen_singles a b d = all_fifteen Single a b d (one_h d) (thirteen_singles a b d)

drop-single : (i k : ℕ) (rs : List Record) (rest : List (Placed Elementary)) (x : Record) → All Single rs → (j : ℕ) → j < length rs
    → drop j (placed_from i k (lower_parts rs) ++ rest) ≡ placed_from i (k + j) (lower (get_or rs j x)) ++ drop (suc j) (placed_from i k (lower_parts rs) ++ rest)
drop-single i k [] rest x s j h = absurd (omega arith)
drop-single i k (r ∷ rs) rest x s zero h = let e : k + 0 ≡ k = omega arith in rw (s.0.is, e)
drop-single i k (r ∷ rs) rest x s (suc j) h =
    let e : k + suc j ≡ suc k + j = omega arith in
    rw (s.0.is, e) (drop-single i (suc k) rs rest x s.1 j (omega arith))

drop-singles : (i k : ℕ) (rs : List Record) (rest : List (Placed Elementary)) → All Single rs → drop (length rs) (placed_from i k (lower_parts rs) ++ rest) ≡ rest
drop-singles i k [] rest s = refl
drop-singles i k (r ∷ rs) rest s = rw s.0.is (drop-singles i (suc k) rs rest s.1)

abbrev More : List Record → Record → ℕ → ℕ → List (Placed Elementary) → Type 0
More rs x i j rest =
    drop j (placed_from i 0 (lower_parts rs) ++ rest) ≡ placed_from i j (lower (get_or rs j x)) ++ cond (ltb (j + 1) (length rs)) (drop (j + 1) (placed_from i 0 (lower_parts rs) ++ rest)) rest

more_singles : (rs : List Record) (x : Record) (i j : ℕ) (rest : List (Placed Elementary)) → All Single rs → j < length rs → More rs x i j rest
more_singles rs x i j rest s h = go (ltb (j + 1) (length rs)) refl
  where
    here : drop j (placed_from i 0 (lower_parts rs) ++ rest) ≡ placed_from i j (lower (get_or rs j x)) ++ drop (suc j) (placed_from i 0 (lower_parts rs) ++ rest)
    here = let e : 0 + j ≡ j = omega arith in drop-single i 0 rs rest x s j h ∙ rw e

    go : (b : Bool) → ltb (j + 1) (length rs) ≡ b
        → drop j (placed_from i 0 (lower_parts rs) ++ rest) ≡ placed_from i j (lower (get_or rs j x)) ++ cond b (drop (j + 1) (placed_from i 0 (lower_parts rs) ++ rest)) rest
    go true e = here ∙ rw (add-one j)
    go false e =
        let z : suc j ≡ length rs = omega (arith, h, ltb-false (j + 1) (length rs) e) in
        here ∙ ap (λ (l : List (Placed Elementary)). placed_from i j (lower (get_or rs j x)) ++ l) (ap (λ (m : ℕ). drop m (placed_from i 0 (lower_parts rs) ++ rest)) z ∙ drop-singles i 0 rs rest s)

-- the gates of record i from part j on are those of part j and what follows it
pub part_more : (narrow : Bool) (r : Record) (i j : ℕ) (rest : List (Placed Elementary)) → j < length (parts_of narrow r)
    → drop j (placed_from i 0 (lower_in narrow r) ++ rest)
    ≡ placed_from i j (lower (get_or (parts_of narrow r) j r)) ++ cond (ltb (j + 1) (length (parts_of narrow r))) (drop (j + 1) (placed_from i 0 (lower_in narrow r) ++ rest)) rest
unfolding lower_in
part_more narrow r i j rest h = go (split narrow r)
  where
    alone : (j : ℕ) → j < 1 → More (r ∷ []) r i j rest
    alone zero h = rw (append-nil (lower r))
    alone (suc j) h = absurd (omega arith)

    go : Split narrow r → More (parts_of narrow r) r i j rest
    go (whole e d) = rw e (alone j (rw e at h))
    go (ccx t k e) = rw e (more_singles (fifteen_of r.a r.b r.c) r i j rest (fifteen_singles r.a r.b r.c) (rw e at h))
    go (ccz t k e) = rw e (more_singles (thirteen_of r.a r.b r.c) r i j rest (thirteen_singles r.a r.b r.c) (rw e at h))

-- ---- positions

pub next_up : (narrow : Bool) (gs : List ℕ) (p : ℕ) → p < next_part narrow gs p
unfolding next_part
next_up narrow gs p = go (ltb (p % 16 + 1) (length (parts_of narrow (record_at gs (p / 16)))))
  where
    go : (b : Bool) → p < cond b (p + 1) (16 * (p / 16) + 16)
    go true = omega arith
    go false = omega arith

pub next_wide : (gs : List ℕ) (p : ℕ) → next_part false gs p ≡ 16 * (p / 16) + 16
unfolding next_part parts_of
next_wide gs p = rw (le-ltb (p % 16 + 1) 1 (omega arith))

pub stepped_up : (narrow : Bool) (gs : List ℕ) (k p : ℕ) → p + k ≤ stepped narrow gs k p
stepped_up narrow gs zero p = omega arith
stepped_up narrow gs (suc k) p = omega (arith, stepped_up narrow gs k (next_part narrow gs p), next_up narrow gs p)

-- one number of steps leads from a position to another
pub stepped-one : (narrow : Bool) (gs : List ℕ) (k m p : ℕ) → stepped narrow gs k p ≡ stepped narrow gs m p → k ≡ m
stepped-one narrow gs zero zero p e = refl
stepped-one narrow gs zero (suc m) p e = absurd (omega (arith, e, stepped_up narrow gs (suc m) p))
stepped-one narrow gs (suc k) zero p e = absurd (omega (arith, e, stepped_up narrow gs (suc k) p))
stepped-one narrow gs (suc k) (suc m) p e = ap suc (stepped-one narrow gs k m (next_part narrow gs p) e)

pub stepped-snoc : (narrow : Bool) (gs : List ℕ) (k p : ℕ) → stepped narrow gs (suc k) p ≡ next_part narrow gs (stepped narrow gs k p)
stepped-snoc narrow gs zero p = refl
stepped-snoc narrow gs (suc k) p = stepped-snoc narrow gs k (next_part narrow gs p)

pub first_in : (narrow : Bool) (gs : List ℕ) → InParts narrow gs 0
first_in narrow gs h = (omega arith, omega (arith, (parts_few narrow (record_at gs 0)).0))

pub next_in : (narrow : Bool) (gs : List ℕ) (p : ℕ) → PartIn narrow gs p → InParts narrow gs (next_part narrow gs p)
unfolding next_part
next_in narrow gs p at = go (ltb (p % 16 + 1) (length (parts_of narrow (record_at gs (p / 16))))) refl
  where
    go : (b : Bool) → ltb (p % 16 + 1) (length (parts_of narrow (record_at gs (p / 16)))) ≡ b → InParts narrow gs (cond b (p + 1) (16 * (p / 16) + 16))
    go true e h =
        let m = ltb-true (p % 16 + 1) (length (parts_of narrow (record_at gs (p / 16)))) e in
        let few = (parts_few narrow (record_at gs (p / 16))).1 in
        let e₁ : (p + 1) / 16 ≡ p / 16 = omega (arith, m, few) in
        let e₂ : (p + 1) % 16 ≡ p % 16 + 1 = omega (arith, m, few) in
        rw (e₁, e₂) (at.0, m)
    go false e h =
        let e₁ : (16 * (p / 16) + 16) / 16 ≡ p / 16 + 1 = omega arith in
        let e₂ : (16 * (p / 16) + 16) % 16 ≡ 0 = omega arith in
        rw (e₁, e₂) (omega (arith, h), omega (arith, (parts_few narrow (record_at gs (p / 16 + 1))).0))

-- ---- the words of a part

pub part_wide : (gs : List ℕ) (p : ℕ) → part_at false gs p ≡ record_at gs (p / 16)
unfolding part_at parts_of
part_wide gs p = go (p % 16)
  where
    go : (j : ℕ) → get_or (record_at gs (p / 16) ∷ []) j (record_at gs (p / 16)) ≡ record_at gs (p / 16)
    go zero = refl
    go (suc j) = refl

pub map_at : {A B : Type 0} (f : A → B) (xs : List A) (j : ℕ) (d : A) (e : B) → j < length xs → get_or (map f xs) j e ≡ f (get_or xs j d)
map_at f [] j d e h = absurd (omega arith)
map_at f (x ∷ xs) zero d e h = refl
map_at f (x ∷ xs) (suc j) d e h = map_at f xs j d e (omega arith)

fifteen_packed : (r : Record) → fifteen_of r.a r.b r.c ≡ map (unpacked_part r) packed_parts
fifteen_packed r = refl

fifteen_at : (r : Record) (j : ℕ) → j < 15 → get_or (fifteen_of r.a r.b r.c) j r ≡ unpacked_part r (get_or packed_parts j 0)
fifteen_at r j h = ap (λ (l : List Record). get_or l j r) (fifteen_packed r) ∙ map_at (unpacked_part r) packed_parts j 0 r h

pub part-ccx : (gs : List ℕ) (p : ℕ) → kind_of (get_or gs (4 * (p / 16)) 0) ≡ KindCcx → PartIn true gs p
    → (p % 16 < 15) × (part_at true gs p ≡ unpacked_part (record_at gs (p / 16)) (get_or packed_parts (p % 16) 0))
unfolding part_at parts_of
part-ccx gs p k at =
    let e : parts_as (kind_of (get_or gs (4 * (p / 16)) 0)) (record_at gs (p / 16)) ≡ parts_as KindCcx (record_at gs (p / 16)) = ap (λ (k : GateKind). parts_as k (record_at gs (p / 16))) k in
    let h : p % 16 < 15 = rw e at at.1 in
    (h, ap (λ (l : List Record). get_or l (p % 16) (record_at gs (p / 16))) e ∙ fifteen_at (record_at gs (p / 16)) (p % 16) h)

pub part-ccz : (gs : List ℕ) (p : ℕ) → kind_of (get_or gs (4 * (p / 16)) 0) ≡ KindCcz → PartIn true gs p
    → (p % 16 < 13) × (part_at true gs p ≡ unpacked_part (record_at gs (p / 16)) (get_or packed_parts (p % 16 + 1) 0))
unfolding part_at parts_of
part-ccz gs p k at =
    let r = record_at gs (p / 16) in
    let e : parts_as (kind_of (get_or gs (4 * (p / 16)) 0)) r ≡ parts_as KindCcz r = ap (λ (k : GateKind). parts_as k r) k in
    let h : p % 16 < 13 = rw e at at.1 in
    (h, ap (λ (l : List Record). get_or l (p % 16) r) e ∙ sym (get_or-append (thirteen_of r.a r.b r.c) (record_of 0 r.c 0 0 ∷ []) r (p % 16) h) ∙ rw (add-one (p % 16)) (fifteen_at r (suc (p % 16)) (omega (arith, h))))

pub part-whole : (gs : List ℕ) (p : ℕ) → is_doubly (kind_of (get_or gs (4 * (p / 16)) 0)) ≡ false → PartIn true gs p → part_at true gs p ≡ record_at gs (p / 16)
unfolding part_at
part-whole gs p d at = go (split true (record_at gs (p / 16)))
  where
    r : Record
    r = record_at gs (p / 16)

    alone : (j : ℕ) → get_or (record_at gs (p / 16) ∷ []) j (record_at gs (p / 16)) ≡ record_at gs (p / 16)
    alone zero = refl
    alone (suc j) = refl

    not-doubly : (k : GateKind) → kind_of (get_or gs (4 * (p / 16)) 0) ≡ k → is_doubly k ≡ true → ⊥
    not-doubly k e t = let z : ◌≡◌ {A = ℕ} 0 1 = let y : false ≡ true = sym d ∙ ap is_doubly e ∙ t in cc in omega arith

    go : Split true (record_at gs (p / 16)) → get_or (parts_of true (record_at gs (p / 16))) (p % 16) (record_at gs (p / 16)) ≡ record_at gs (p / 16)
    go (whole e _) = rw e (alone (p % 16))
    go (ccx t k e) = absurd (not-doubly KindCcx k refl)
    go (ccz t k e) = absurd (not-doubly KindCcz k refl)

-- ---- every part passed the checks, where its record did

pub record PartFits (n : ℕ) (r : Record) : Type 0 where
  pub known : r.kind < 21
  pub each : AllProper n (r.b + 1) (lower_as (kind_of r.kind) r.a r.b r.c)
  pub bits : AllProper n max_cbits (lower_as (kind_of r.kind) r.a r.b r.c)

fit_at : (n : ℕ) (rs : List Record) (x : Record) (j : ℕ) → All (PartFits n) rs → j < length rs → PartFits n (get_or rs j x)
fit_at n [] x j w h = absurd (omega arith)
fit_at n (r ∷ rs) x zero w h = w.0
fit_at n (r ∷ rs) x (suc j) w h = fit_at n rs x j w.1 (omega arith)

fit_h : (n q : ℕ) → q < n → PartFits n (record_of 0 q 0 0)
unfolding lower_as kind_of
fit_h n q h = record { known = omega arith; each = (h, tt); bits = (h, tt) }

fit_t : (n q : ℕ) → q < n → PartFits n (record_of 5 q 0 0)
unfolding lower_as kind_of
fit_t n q h = record { known = omega arith; each = (h, tt); bits = (h, tt) }

fit_tdg : (n q : ℕ) → q < n → PartFits n (record_of 6 q 0 0)
unfolding lower_as kind_of
fit_tdg n q h = record { known = omega arith; each = (h, tt); bits = (h, tt) }

fit_cnot : (n c t : ℕ) → AllProper n 0 (lower_as KindCnot c t 0) → PartFits n (record_of 8 c t 0)
unfolding lower_as kind_of
fit_cnot n c t h = record { known = omega arith; each = h; bits = h }

module _ (n m a b d : ℕ) (w : AllProper n m (lower_as KindCcz a b d)) where
  in_a : a < n
  unfolding lower_as
  in_a = w.0.0

  in_b : b < n
  unfolding lower_as
  in_b = w.0.1

  in_d : d < n
  unfolding lower_as
  in_d = w.0.2

  pair_ab : AllProper n 0 (lower_as KindCnot a b 0)
  unfolding lower_as
  pair_ab = ((w.0.0, w.0.1, w.0.3), tt)

  pair_ad : AllProper n 0 (lower_as KindCnot a d 0)
  unfolding lower_as
  pair_ad = ((w.0.0, w.0.2, w.0.4), tt)

  pair_bd : AllProper n 0 (lower_as KindCnot b d 0)
  unfolding lower_as
  pair_bd = ((w.0.1, w.0.2, w.0.5), tt)

  fit_thirteen : All (PartFits n) (thirteen_of a b d)
  fit_thirteen =
      all_thirteen (PartFits n) a b d (fit_t n a in_a) (fit_t n b in_b) (fit_t n d in_d) (fit_tdg n b in_b) (fit_tdg n d in_d)
      (fit_cnot n a b pair_ab) (fit_cnot n a d pair_ad) (fit_cnot n b d pair_bd)

  fit_fifteen : All (PartFits n) (fifteen_of a b d)
  fit_fifteen = all_fifteen (PartFits n) a b d (fit_h n d in_d) fit_thirteen

  proper_thirteen : AllProper n m (lower_parts (thirteen_of a b d))
  unfolding lower lower_as kind_of
  proper_thirteen =
      (pair_bd.0, (in_d, (pair_ad.0, (in_d, (pair_bd.0, (in_d, (pair_ad.0, (in_b, (in_d, (pair_ab.0, (in_a, (in_b, (pair_ab.0, tt)))))))))))))

  proper_fifteen : AllProper n m (lower_parts (fifteen_of a b d))
  unfolding lower lower_as kind_of
  proper_fifteen =
      (in_d, (pair_bd.0, (in_d, (pair_ad.0, (in_d, (pair_bd.0, (in_d, (pair_ad.0, (in_b, (in_d, (pair_ab.0, (in_a, (in_b, (pair_ab.0, (in_d, tt)))))))))))))))

as-ccz : (n m a b d : ℕ) → AllProper n m (lower_as KindCcx a b d) → AllProper n m (lower_as KindCcz a b d)
unfolding lower_as
as-ccz n m a b d w = w

parts_fit : (n : ℕ) (narrow : Bool) (r : Record) → PartFits n r → All (PartFits n) (parts_of narrow r)
parts_fit n narrow r w = go (split narrow r)
  where
    go : Split narrow r → All (PartFits n) (parts_of narrow r)
    go (whole e d) = rw e (w, tt)
    go (ccx t k e) = rw e (fit_fifteen n max_cbits r.a r.b r.c (as-ccz n max_cbits r.a r.b r.c (rw k at w.bits)))
    go (ccz t k e) = rw e (fit_thirteen n max_cbits r.a r.b r.c (rw k at w.bits))

-- the gates of a record are proper under a narrow cap too
pub proper_in : (n m : ℕ) (narrow : Bool) (r : Record) → AllProper n m (lower r) → AllProper n m (lower_in narrow r)
unfolding lower_in lower
proper_in n m narrow r w = go (split narrow r)
  where
    go : Split narrow r → AllProper n m (lower_parts (parts_of narrow r))
    go (whole e d) = rw (e, append-nil (lower r)) w
    go (ccx t k e) = rw e (proper_fifteen n m r.a r.b r.c (as-ccz n m r.a r.b r.c (rw k at w)))
    go (ccz t k e) = rw e (proper_thirteen n m r.a r.b r.c (rw k at w))

pub part_fits : (n : ℕ) (narrow : Bool) (gs : List ℕ) → Fits n gs → (p : ℕ) → PartIn narrow gs p → PartFits n (part_at narrow gs p)
unfolding part_at
part_fits n narrow gs f p at =
    fit_at n (parts_of narrow (record_at gs (p / 16))) (record_at gs (p / 16)) (p % 16)
    (parts_fit n narrow (record_at gs (p / 16)) (record { known = f.known (p / 16) at.0; each = f.each (p / 16) at.0; bits = f.bits (p / 16) at.0 })) at.1

-- ---- for the code

pub next_same : (narrow : Bool) (gs : List ℕ) (p m : ℕ) → m ≡ length (parts_of narrow (record_at gs (p / 16))) → p % 16 + 1 < m → p + 1 ≡ next_part narrow gs p
unfolding next_part
next_same narrow gs p m e h = rw (lt-ltb (p % 16 + 1) (length (parts_of narrow (record_at gs (p / 16)))) (omega (arith, e, h)))

pub next_record : (narrow : Bool) (gs : List ℕ) (p m : ℕ) → m ≡ length (parts_of narrow (record_at gs (p / 16))) → m ≤ p % 16 + 1 → 16 * (p / 16) + 16 ≡ next_part narrow gs p
unfolding next_part
next_record narrow gs p m e h = rw (le-ltb (p % 16 + 1) (length (parts_of narrow (record_at gs (p / 16)))) (omega (arith, e, h)))
