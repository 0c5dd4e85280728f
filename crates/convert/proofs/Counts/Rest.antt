-- The records from one on, and the counting pass over them.
use mathlib.Core.Path.{◌≡◌, refl, sym, ap, ◌∙◌}
use mathlib.Core.Bool.{Bool, true, false, cond}
use mathlib.Core.List.{List, [], ◌∷◌, ◌++◌}
use Prim.Native.Nat.{ℕ, zero, suc, ◌+◌, ◌*◌, ◌/◌, ◌%◌, ◌<◌, ◌≤◌}
use native.Mathlib.Omega.{arith}
use lib.Dec.{ltb}
use borrow.Author.Tests.{ltb-true}
use lib.ListN.{length, get_or, drop, drop_of_length-le}
use Rattle.pauli.specs.Rows.{Row}
use Rattle.pauli.specs.Gates.{Gate}
use Rattle.pauli.specs.Table.{start, step, run}
use Rattle.convert.specs.Records.{GateKind, KindH, KindX, KindZ, KindS, KindSdg, KindT, KindTdg, KindCnot, KindCz, KindCcx, KindCcz, KindMeasure, KindY, KindSx, KindSwap, KindCy, Unsupported, Cap, Elementary, Placed, placed_from, Record, records, kind_of, lower, lower_as, is_narrow, parts_of, lower_in, lower_from, lower_all}
use Rattle.convert.specs.Plain.{Plain, flush_from, plain_begin, plain_run}
use Rattle.convert.specs.Code.Needs.{need_run}
use Rattle.convert.specs.Code.RawPlanes.{Wide}
use Rattle.convert.specs.Code.Raw.{record_at, part_at, PartIn, next_part, plain_last, needs_last, planes_for, Decided, cost_of, costs, needed, count_for, needs_of}
use Rattle.convert.specs.Code.Lists.{rest_of}
use Rattle.convert.specs.Code.Counting.{CountAt}
use Rattle.convert.specs.declared.count.Needed.{Needed}
use Rattle.convert.proofs.Packed.Tables.{wide_step}
use Rattle.convert.proofs.Packed.Deciding.{wide-start}
use Rattle.convert.proofs.Counts.Parts.{parts_few, part_more, next_up}
use Rattle.convert.proofs.Counts.RecordSteps.{run-append, need_append, Went, one_record, count_one}

-- the records from i on
pub drop-record : (gs : List ℕ) (i : ℕ) → i < length gs / 4 → drop i (records gs) ≡ record_at gs i ∷ drop (suc i) (records gs)
unfolding records
drop-record [] i h = absurd (omega arith)
drop-record (k ∷ []) i h = absurd (omega arith)
drop-record (k ∷ a ∷ []) i h = absurd (omega arith)
drop-record (k ∷ a ∷ b ∷ []) i h = absurd (omega arith)
drop-record (k ∷ a ∷ b ∷ c ∷ gs) zero h = refl
drop-record (k ∷ a ∷ b ∷ c ∷ gs) (suc i) h =
    let e : 4 * suc i ≡ suc (suc (suc (suc (4 * i)))) = omega arith in
    drop-record gs i (omega arith) ∙ ap (λ (r : Record). r ∷ drop (suc i) (records gs)) (later k a b c gs i)
  where
    later : (k a b c : ℕ) (gs : List ℕ) (i : ℕ) → record_at gs i ≡ record_at (k ∷ a ∷ b ∷ c ∷ gs) (suc i)
    later k a b c gs i =
        let e₀ : 4 * suc i ≡ suc (suc (suc (suc (4 * i)))) = omega arith in
        let e₁ : 4 * suc i + 1 ≡ suc (suc (suc (suc (4 * i + 1)))) = omega arith in
        let e₂ : 4 * suc i + 2 ≡ suc (suc (suc (suc (4 * i + 2)))) = omega arith in
        let e₃ : 4 * suc i + 3 ≡ suc (suc (suc (suc (4 * i + 3)))) = omega arith in
        rw (e₁, e₂, e₃, e₀)

pub records-length : (gs : List ℕ) → length (records gs) ≡ length gs / 4
unfolding records
records-length [] = refl
records-length (k ∷ []) = omega arith
records-length (k ∷ a ∷ []) = omega arith
records-length (k ∷ a ∷ b ∷ []) = omega arith
records-length (k ∷ a ∷ b ∷ c ∷ gs) = let r = records-length gs in omega arith

pub no_more : (gs : List ℕ) (i : ℕ) → length gs / 4 ≤ i → drop i (records gs) ≡ []
no_more gs i h = let g : length (records gs) ≤ i = rw (records-length gs) h in drop_of_length-le (records gs) g

-- those of the part at p, and those from the next position on
pub rest_more : (narrow : Bool) (gs : List ℕ) (p : ℕ) → PartIn narrow gs p
    → rest_of narrow gs p
    ≡ placed_from (p / 16) (p % 16) (lower_as (kind_of (part_at narrow gs p).kind) (part_at narrow gs p).a (part_at narrow gs p).b (part_at narrow gs p).c) ++ rest_of narrow gs (next_part narrow gs p)
unfolding lower_from lower part_at next_part
rest_more narrow gs p at =
    let r = record_at gs (p / 16) in
    let after = lower_from narrow (suc (p / 16)) (drop (suc (p / 16)) (records gs)) in
    rw (drop-record gs (p / 16) at.0) (part_more narrow r (p / 16) (p % 16) after at.1)
    ∙ ap (λ (l : List (Placed Elementary)). placed_from (p / 16) (p % 16) (lower (get_or (parts_of narrow r) (p % 16) r)) ++ l)
    (go (ltb (p % 16 + 1) (length (parts_of narrow r))) refl)
  where
    go : (b : Bool) → ltb (p % 16 + 1) (length (parts_of narrow (record_at gs (p / 16)))) ≡ b
        → cond b (drop (p % 16 + 1) (placed_from (p / 16) 0 (lower_in narrow (record_at gs (p / 16))) ++ lower_from narrow (suc (p / 16)) (drop (suc (p / 16)) (records gs))))
        (lower_from narrow (suc (p / 16)) (drop (suc (p / 16)) (records gs)))
        ≡ rest_of narrow gs (cond b (p + 1) (16 * (p / 16) + 16))
    go true e =
        let m = ltb-true (p % 16 + 1) (length (parts_of narrow (record_at gs (p / 16)))) e in
        let few = (parts_few narrow (record_at gs (p / 16))).1 in
        let e₁ : (p + 1) / 16 ≡ p / 16 = omega (arith, m, few) in
        let e₂ : (p + 1) % 16 ≡ p % 16 + 1 = omega (arith, m, few) in
        rw (e₁, e₂, drop-record gs (p / 16) at.0)
    go false e =
        let e₁ : (16 * (p / 16) + 16) / 16 ≡ suc (p / 16) = omega arith in
        let e₂ : (16 * (p / 16) + 16) % 16 ≡ 0 = omega arith in
        rw (e₁, e₂)

drop-nil : {A : Type 0} (k : ℕ) → drop {A = A} k [] ≡ []
drop-nil zero = refl
drop-nil (suc k) = refl

pub rest_end : (narrow : Bool) (gs : List ℕ) (p : ℕ) → 16 * (length gs / 4) ≤ p → rest_of narrow gs p ≡ []
unfolding lower_from
rest_end narrow gs p h = rw (no_more gs (p / 16) (omega (arith, h))) (drop-nil (p % 16))

pub rest_all : (narrow : Bool) (gs : List ℕ) → rest_of narrow gs 0 ≡ lower_all narrow (records gs)
unfolding lower_all
rest_all narrow gs = refl

-- ---- tables stay wide

pub wide-run : (n : ℕ) (gs : List Gate) (t : List Row) → Wide n t → Wide n (run n gs t)
unfolding run
wide-run n [] t w = w
wide-run n (g ∷ gs) t w = wide-run n gs (step n g t) (wide_step n g t w)

wide-cond : (n : ℕ) (f : Bool) (t : List Row) → Wide n t → Wide n (cond f (start n) t)
wide-cond n true t w = wide-start n
wide-cond n false t w = w

pub wide_went : (n i : ℕ) (f : Bool) (gs : List Gate) (m : ℕ) (p p' : Plain) → Went n i f gs m p p' → Wide n p.table → Wide n p'.table
wide_went n i f gs m p p' e w = rw e.table (wide-run n gs (cond f (start n) p.table) (wide-cond n f p.table w))

-- ---- the counting pass

pub count-start : (n : ℕ) (cap : Cap) (narrow : Bool) (gs ps₀ ps : List ℕ) (k : Needed) → narrow ≡ is_narrow cap → n ≤ 256 → k ≡ needed (1 + 2 * n) 0 0 0 → ps ≡ planes_for cap n (start n) ps₀
    → CountAt n cap narrow gs ps₀ ps k 0
unfolding plain_begin lower_all
count-start n cap narrow gs ps₀ ps k en h e at = record {
  plain = plain_begin n;
  done = needs_of (1 + 2 * n) 0;
  wide = wide-start n;
  same = e;
  ends = rw en;
  totals = rw en;
  planes = at;
  few = rw e (omega arith, omega arith);
}

cost_few : (kind : GateKind) → ((cost_of kind).nodes + (cost_of kind).joints ≤ 16) × ((cost_of kind).operations + (cost_of kind).rotations ≤ 16)
unfolding cost_of lower_as
cost_few KindH = (omega arith, omega arith)
cost_few KindX = (omega arith, omega arith)
cost_few KindZ = (omega arith, omega arith)
cost_few KindS = (omega arith, omega arith)
cost_few KindSdg = (omega arith, omega arith)
cost_few KindT = (omega arith, omega arith)
cost_few KindTdg = (omega arith, omega arith)
cost_few KindCnot = (omega arith, omega arith)
cost_few KindCz = (omega arith, omega arith)
cost_few KindCcx = (omega arith, omega arith)
cost_few KindCcz = (omega arith, omega arith)
cost_few KindMeasure = (omega arith, omega arith)
cost_few KindY = (omega arith, omega arith)
cost_few KindSx = (omega arith, omega arith)
cost_few KindSwap = (omega arith, omega arith)
cost_few KindCy = (omega arith, omega arith)
cost_few Unsupported = (omega arith, omega arith)

pub few_cost : (kind : GateKind) (c : Needed) → c ≡ cost_of kind → (c.nodes + c.joints ≤ 16) × (c.operations + c.rotations ≤ 16)
few_cost kind c e = rw e (cost_few kind)

pub costs-few : (f : Bool) (k c : Needed) → (c.nodes + c.joints ≤ 16) × (c.operations + c.rotations ≤ 16)
    → ((costs f k c).nodes + (costs f k c).joints ≤ k.nodes + k.joints + 16) × ((costs f k c).operations + (costs f k c).rotations ≤ k.operations + k.rotations + 16)
costs-few true k c h = (omega arith, omega arith)
costs-few false k c h = (omega arith, omega arith)

pub count_more : (n : ℕ) (cap : Cap) (narrow : Bool) (gs ps₀ ps : List ℕ) (k : Needed) (i : ℕ) (kind : GateKind) (a b d : ℕ) (f : Bool) (ps' : List ℕ) (c r : Needed) (next : ℕ)
    → CountAt n cap narrow gs ps₀ ps k i → PartIn narrow gs i → Decided n cap kind a b d ps f ps' → c ≡ cost_of kind → r ≡ costs f k c
    → kind ≡ kind_of (part_at narrow gs i).kind → a ≡ (part_at narrow gs i).a → b ≡ (part_at narrow gs i).b → d ≡ (part_at narrow gs i).c → next ≡ next_part narrow gs i
    → CountAt n cap narrow gs ps₀ ps' r next
count_more n cap narrow gs ps₀ ps k i kind a b d f ps' c r next at h dec ec er ek ea eb ed enx =
    let p = at.plain in
    let els = lower_as kind a b d in
    let es = placed_from (i / 16) (i % 16) els in
    let s = dec.same p.table ps₀ at.wide at.planes in
    let o = one_record n cap (i / 16) (i % 16) kind a b d p at.done (record { arena = record { count = 0; nodes = []; frame = [] }; ops = [] }) in
    let g : rest_of narrow gs i ≡ es ++ rest_of narrow gs next = rw (ek, ea, eb, ed, enx) (rest_more narrow gs i h) in
    let up = next_up narrow gs i in
    let fw = costs-few f k c (few_cost kind c ec) in
    record {
      plain = plain_run flush_from n cap es p;
      done = need_run n cap es p at.done;
      wide = wide_went n _ _ _ _ p (plain_run flush_from n cap es p) o.went at.wide;
      same = er ∙ rw (ec, at.same, s.0) (count_one n cap (i / 16) (i % 16) kind a b d p at.done);
      ends = sym (run-append n cap es (rest_of narrow gs next) p) ∙ ap (λ (l : List (Placed Elementary)). plain_run flush_from n cap l p) (sym g) ∙ at.ends;
      totals = sym (need_append n cap es (rest_of narrow gs next) p at.done) ∙ ap (λ (l : List (Placed Elementary)). need_run n cap l p at.done) (sym g) ∙ at.totals;
      planes = s.1 ∙ rw (o.went.table, s.0);
      few = (rw er (omega (arith, fw.0, at.few.0, up, enx)), rw er (omega (arith, fw.1, at.few.1, up, enx)));
    }

pub count_end : (n : ℕ) (cap : Cap) (narrow : Bool) (gs ps₀ ps : List ℕ) (k : Needed) (i : ℕ) → CountAt n cap narrow gs ps₀ ps k i → 16 * (length gs / 4) ≤ i
    → (k ≡ count_for (plain_last n cap gs) (needs_last n cap gs))
    × (ps ≡ planes_for cap n (plain_last n cap gs).table ps₀)
unfolding plain_run need_run
count_end n cap narrow gs ps₀ ps k i at h =
    let e = rest_end narrow gs i h in
    let p : at.plain ≡ plain_last n cap gs = rw e at at.ends in
    let m : at.done ≡ needs_last n cap gs = rw e at at.totals in
    (at.same ∙ rw (p, m), at.planes ∙ rw p)
