-- The most that a conversion can need: the sums over its records, as if every flush came at the end.
use mathlib.Core.Path.{◌≡◌, refl, sym, ap, ◌∙◌}
use mathlib.Core.Bool.{Bool, true, false, true≢false, cond, ◌||◌, ◌&&◌}
use mathlib.Core.List.{List, [], ◌∷◌, ◌++◌}
use Prim.Native.Nat.{ℕ, zero, suc, ◌+◌, ◌*◌, ◌/◌, ◌%◌, ◌<◌, ◌≤◌}
use native.Mathlib.Omega.{arith}
use native.Mathlib.Numerals.{add-one}
use lib.Dec.{ltb, leb}
use lib.ListN.{length, get_or, drop, length-append}
use borrow.Author.Tests.{ltb-false, le-ltb, leb-true}
use Rattle.arena.specs.Limits.{max_nodes, max_operations, node_words, operation_words}
use Rattle.arena.specs.Errors.{◌⟫◌⇒◌}
use Rattle.arena.proofs.Accepted.{passed_before, test_passed, left_false, right-false}
use Rattle.convert.specs.Types.{PbcError, NoFrame, NoNodes, NoOperations, Checked, Fine, Wrong}
use Rattle.pauli.specs.Rows.{Row}
use Rattle.convert.specs.Records.{GateKind, Cap, NoCap, AtMost, is_narrow, Elementary, Placed, placed, placed_from, Record, record_of, records, kind_of, thirteen_of, fifteen_of, parts_as, parts_of, expanded, lower, lower_as, lower_parts, lower_in, lower_from, lower_all}
use Rattle.convert.specs.Plain.{Plain, flush_from, plain_begin, plain_run}
use Rattle.convert.specs.Code.Needs.{Needs, need_run}
use Rattle.convert.specs.Conversion.{is_doubly, room_checked, limits}
use Rattle.convert.specs.Code.RawPlanes.{Wide}
use Rattle.convert.specs.Code.Raw.{any_exceeds, cost_of, costs, summed, needed, closed, most_needed, count_for, needs_of, planes_for, plain_last, needs_last, NeedsChecked}
use Rattle.convert.specs.Code.Tables.{table_of, together, packed_cost, sum_over, sum_in}
use Rattle.convert.specs.declared.count.Needed.{Needed}
use Rattle.convert.proofs.Packed.Deciding.{never, wide-start, planes_over}
use Rattle.convert.proofs.Counts.Parts.{Split, whole, ccx, ccz, split, parts_few}
use Rattle.convert.proofs.Counts.RecordSteps.{run-append, need_append, one_record, count_one}
use Rattle.convert.proofs.Counts.Rest.{drop-record, no_more, records-length, wide_went, few_cost, costs-few}
use Rattle.convert.proofs.Counts.Light.{no_flush}
use Rattle.convert.proofs.GateKinds.Entries.{table_at}

-- ---- the sums

-- what is counted and what is pending are together the same
record Even (a b : Needed) : Type 0 where
  nodes : a.nodes + a.joints ≡ b.nodes + b.joints
  operations : a.operations + a.rotations ≡ b.operations + b.rotations

even-costs : (f g : Bool) (a b c : Needed) → Even a b → Even (costs f a c) (costs g b c)
even-costs true true a b c e = record { nodes = omega (arith, e.nodes); operations = omega (arith, e.operations) }
even-costs true false a b c e = record { nodes = omega (arith, e.nodes); operations = omega (arith, e.operations) }
even-costs false true a b c e = record { nodes = omega (arith, e.nodes); operations = omega (arith, e.operations) }
even-costs false false a b c e = record { nodes = omega (arith, e.nodes); operations = omega (arith, e.operations) }

placed-append : (i j : ℕ) (es fs : List Elementary) → placed_from i j (es ++ fs) ≡ placed_from i j es ++ placed_from i (j + length es) fs
placed-append i j [] fs = let e : j + 0 ≡ j = omega arith in rw e
placed-append i j (e ∷ es) fs = let z : j + suc (length es) ≡ suc j + length es = omega arith in rw z (ap (λ (l : List (Placed Elementary)). placed i j e ∷ l) (placed-append i (suc j) es fs))

summed-append : (k : Needed) (rs qs : List Record) → summed k (rs ++ qs) ≡ summed (summed k rs) qs
unfolding summed
summed-append k [] qs = refl
summed-append k (r ∷ rs) qs = summed-append (costs false k (cost_of (kind_of r.kind))) rs qs

-- what elementary gates make of the count beside a plain state
abbrev count_after : ℕ → Cap → List (Placed Elementary) → Plain → Needs → Needed
count_after n cap es p k = count_for (plain_run flush_from n cap es p) (need_run n cap es p k)

count_append : (n : ℕ) (cap : Cap) (es fs : List (Placed Elementary)) (p : Plain) (k : Needs)
    → count_after n cap (es ++ fs) p k ≡ count_after n cap fs (plain_run flush_from n cap es p) (need_run n cap es p k)
count_append n cap es fs p k = rw (run-append n cap es fs p, need_append n cap es fs p k)

even_parts : (n : ℕ) (cap : Cap) (i j : ℕ) (rs : List Record) (p : Plain) (k : Needs) (b : Needed) → Even (count_for p k) b
    → Even (count_after n cap (placed_from i j (lower_parts rs)) p k) (summed b rs)
unfolding lower summed plain_run need_run
even_parts n cap i j [] p k b e = e
even_parts n cap i j (r ∷ rs) p k b e =
    let kind = kind_of r.kind in
    let els = lower_as kind r.a r.b r.c in
    let es = placed_from i j els in
    let one = even-costs (any_exceeds n cap p.table els) false (count_for p k) b (cost_of kind) e in
    let h = even_parts n cap i (j + length els) rs (plain_run flush_from n cap es p) (need_run n cap es p k) (costs false b (cost_of kind)) (rw (← count_one n cap i j kind r.a r.b r.c p k) one) in
    rw (placed-append i j els (lower_parts rs), count_append n cap es (placed_from i (j + length els) (lower_parts rs)) p k) h

even_run : (n : ℕ) (cap : Cap) (narrow : Bool) (i : ℕ) (rs : List Record) (p : Plain) (k : Needs) (b : Needed) → Even (count_for p k) b
    → Even (count_after n cap (lower_from narrow i rs) p k) (summed b (expanded narrow rs))
unfolding lower_from lower_in plain_run need_run summed
even_run n cap narrow i [] p k b e = e
even_run n cap narrow i (r ∷ rs) p k b e =
    let es = placed_from i 0 (lower_parts (parts_of narrow r)) in
    let h = even_run n cap narrow (suc i) rs (plain_run flush_from n cap es p) (need_run n cap es p k) (summed b (parts_of narrow r)) (even_parts n cap i 0 (parts_of narrow r) p k b e) in
    rw (count_append n cap es (lower_from narrow (suc i) rs) p k, summed-append b (parts_of narrow r) (expanded narrow rs)) h

-- where no flush can come, the sums are the needs
module _ (n : ℕ) (cap : Cap) (quiet : (t : List Row) (es : List Elementary) → Wide n t → any_exceeds n cap t es ≡ false) where
  -- the table stays wide
  record Same (es : List (Placed Elementary)) (p : Plain) (k : Needs) (b : Needed) : Type 0 where
    is : count_after n cap es p k ≡ b
    wide : Wide n (plain_run flush_from n cap es p).table

  same_parts : (i j : ℕ) (rs : List Record) (p : Plain) (k : Needs) → Wide n p.table → Same (placed_from i j (lower_parts rs)) p k (summed (count_for p k) rs)
  unfolding lower summed plain_run need_run
  same_parts i j [] p k w = record { is = refl; wide = w }
  same_parts i j (r ∷ rs) p k w =
      let kind = kind_of r.kind in
      let els = lower_as kind r.a r.b r.c in
      let es = placed_from i j els in
      let o = one_record n cap i j kind r.a r.b r.c p k (record { arena = record { count = 0; nodes = []; frame = [] }; ops = [] }) in
      let h = same_parts i (j + length els) rs (plain_run flush_from n cap es p) (need_run n cap es p k) (wide_went n i _ _ _ p (plain_run flush_from n cap es p) o.went w) in
      let c = sym (count_one n cap i j kind r.a r.b r.c p k) ∙ ap (λ (f : Bool). costs f (count_for p k) (cost_of kind)) (quiet p.table els w) in
      record {
        is = rw (placed-append i j els (lower_parts rs), count_append n cap es (placed_from i (j + length els) (lower_parts rs)) p k) (h.is ∙ ap (λ (c : Needed). summed c rs) c);
        wide = rw (placed-append i j els (lower_parts rs), run-append n cap es (placed_from i (j + length els) (lower_parts rs)) p) h.wide;
      }

  same_run : (narrow : Bool) (i : ℕ) (rs : List Record) (p : Plain) (k : Needs) → Wide n p.table
      → count_after n cap (lower_from narrow i rs) p k ≡ summed (count_for p k) (expanded narrow rs)
  unfolding lower_from lower_in plain_run need_run summed
  same_run narrow i [] p k w = refl
  same_run narrow i (r ∷ rs) p k w =
      let es = placed_from i 0 (lower_parts (parts_of narrow r)) in
      let s = same_parts i 0 (parts_of narrow r) p k w in
      count_append n cap es (lower_from narrow (suc i) rs) p k ∙ same_run narrow (suc i) rs (plain_run flush_from n cap es p) (need_run n cap es p k) s.wide
      ∙ ap (λ (c : Needed). summed c (expanded narrow rs)) s.is ∙ sym (summed-append (count_for p k) (parts_of narrow r) (expanded narrow rs))

  same_needs : (gs : List ℕ) → ((needs_last n cap gs).nodes ≡ (most_needed n (is_narrow cap) false gs).nodes) × ((needs_last n cap gs).operations ≡ (most_needed n (is_narrow cap) false gs).operations)
  unfolding lower_all plain_begin
  same_needs gs =
      let e = same_run (is_narrow cap) 0 (records gs) (plain_begin n) (needs_of (1 + 2 * n) 0) (wide-start n) in
      (omega (arith, ap (λ (c : Needed). c.nodes) e), omega (arith, ap (λ (c : Needed). c.operations) e))

capped_needs : (n m : ℕ) (gs : List ℕ) (f : Bool) → ltb m n ≡ f
    → ((needs_last n (AtMost m) gs).nodes ≤ (most_needed n (is_narrow (AtMost m)) f gs).nodes) × ((needs_last n (AtMost m) gs).operations ≤ (most_needed n (is_narrow (AtMost m)) f gs).operations)
unfolding lower_all plain_begin
capped_needs n m gs true h =
    let e = even_run n (AtMost m) (is_narrow (AtMost m)) 0 (records gs) (plain_begin n) (needs_of (1 + 2 * n) 0) (needed (1 + 2 * n) 0 0 0) (record { nodes = refl; operations = refl }) in
    (omega (arith, e.nodes), omega (arith, e.operations))
capped_needs n m gs false h =
    let e = same_needs n (AtMost m) (λ t es w. no_flush n m t es (ltb-false m n h) w) gs in
    (omega (arith, e.0), omega (arith, e.1))

-- ---- the packed sums over the records

pub sum_more : (f : GateKind → ℕ) (costs gs : List ℕ) (i k number : ℕ) → i < length gs / 4 → number ≡ get_or gs (4 * i) 0 → number < 21 → costs ≡ table_of f
    → k + get_or costs number 0 + sum_over f (drop (i + 1) (records gs)) ≡ k + sum_over f (drop i (records gs))
unfolding sum_over
sum_more f costs gs i k number h en hn ec =
    let e : get_or costs number 0 ≡ f (kind_of (get_or gs (4 * i) 0)) = ap (λ (t : List ℕ). get_or t number 0) ec ∙ table_at f number hn ∙ ap (λ (j : ℕ). f (kind_of j)) en in
    rw (drop-record gs i h, add-one i, e) (omega arith)

pub sum_end : (f : GateKind → ℕ) (gs : List ℕ) (i : ℕ) → length gs / 4 ≤ i → sum_over f (drop i (records gs)) ≡ 0
unfolding sum_over
sum_end f gs i h = rw (no_more gs i h)

-- all entries are at most m
abbrev all_most : ℕ → List ℕ → Bool
all_most m [] = true
all_most m (x ∷ xs) = leb x m && all_most m xs

and_left : (a b : Bool) → (a && b) ≡ true → a ≡ true
and_left true b e = refl
and_left false b e = e

and_right : (a b : Bool) → (a && b) ≡ true → b ≡ true
and_right true b e = e
and_right false b e = absurd (true≢false (sym e))

all_most_lem : (m : ℕ) (xs : List ℕ) → all_most m xs ≡ true → (j : ℕ) → get_or xs j 0 ≤ m
all_most_lem m [] e j = omega arith
all_most_lem m (x ∷ xs) e zero = leb-true x m (and_left (leb x m) (all_most m xs) e)
all_most_lem m (x ∷ xs) e (suc j) = all_most_lem m xs (and_right (leb x m) (all_most m xs) e) j

few_entries : (narrow f : Bool) → all_most 137438953472 (table_of (sum_in narrow (packed_cost f))) ≡ true
unfolding sum_in sum_over packed_cost cost_of lower_as kind_of
few_entries true true = refl
few_entries true false = refl
few_entries false true = refl
few_entries false false = refl

-- a record needs at most 31 operations, and fewer nodes
pub packed_few : (narrow f : Bool) (j : ℕ) → get_or (table_of (sum_in narrow (packed_cost f))) j 0 ≤ 137438953472
packed_few narrow f = all_most_lem 137438953472 (table_of (sum_in narrow (packed_cost f))) (few_entries narrow f)

-- ---- the parts of records

sum_append : (f : GateKind → ℕ) (rs qs : List Record) → sum_over f (rs ++ qs) ≡ sum_over f rs + sum_over f qs
unfolding sum_over
sum_append f [] qs = omega arith
sum_append f (r ∷ rs) qs = omega (arith, sum_append f rs qs)

-- the operands do not matter
sum_fifteen : (f : GateKind → ℕ) (a b d : ℕ) → sum_over f (fifteen_of a b d) ≡ sum_over f (fifteen_of 0 0 0)
unfolding sum_over
sum_fifteen f a b d = refl

sum_thirteen : (f : GateKind → ℕ) (a b d : ℕ) → sum_over f (thirteen_of a b d) ≡ sum_over f (thirteen_of 0 0 0)
unfolding sum_over
sum_thirteen f a b d = refl

sum_one : (f : GateKind → ℕ) (r : Record) → sum_over f (r ∷ []) ≡ f (kind_of r.kind)
unfolding sum_over
sum_one f r = omega arith

sum_parts : (narrow : Bool) (f : GateKind → ℕ) (r : Record) → sum_over f (parts_of narrow r) ≡ sum_in narrow f (kind_of r.kind)
unfolding sum_in
sum_parts narrow f r = go (split narrow r)
  where
    go : Split narrow r → sum_over f (parts_of narrow r) ≡ cond (narrow && is_doubly (kind_of r.kind)) (sum_over f (parts_as (kind_of r.kind) (record_of 0 0 0 0))) (f (kind_of r.kind))
    go (whole e d) = rw (e, d) (sum_one f r)
    go (ccx t k e) = rw (e, t, k) (sum_fifteen f r.a r.b r.c)
    go (ccz t k e) = rw (e, t, k) (sum_thirteen f r.a r.b r.c)

sum-expanded : (narrow : Bool) (f : GateKind → ℕ) (rs : List Record) → sum_over f (expanded narrow rs) ≡ sum_over (sum_in narrow f) rs
unfolding sum_over
sum-expanded narrow f [] = refl
sum-expanded narrow f (r ∷ rs) = sum_append f (parts_of narrow r) (expanded narrow rs) ∙ omega (arith, sum_parts narrow f r, sum-expanded narrow f rs)

length-expanded : (narrow : Bool) (rs : List Record) → length (expanded narrow rs) ≤ 15 * length rs
length-expanded narrow [] = omega arith
length-expanded narrow (r ∷ rs) = omega (arith, length-append (parts_of narrow r) (expanded narrow rs), (parts_few narrow r).1, length-expanded narrow rs)

pack_one : (f : Bool) (k c : Needed) → together (closed f (costs false k c)) ≡ together (closed f k) + together (closed f c)
pack_one true k c = omega arith
pack_one false k c = omega arith

pack_run : (f : Bool) (k : Needed) (rs : List Record) → together (closed f (summed k rs)) ≡ together (closed f k) + sum_over (packed_cost f) rs
unfolding summed sum_over packed_cost
pack_run f k [] = omega arith
pack_run f k (r ∷ rs) =
    let c = cost_of (kind_of r.kind) in
    omega (arith, pack_run f (costs false k c) rs, pack_one f k c)

closed-most : (f : Bool) (k : Needed) → (closed f k).nodes ≤ k.nodes + k.joints
closed-most true k = omega arith
closed-most false k = omega arith

few_nodes : (f : Bool) (k : Needed) (rs : List Record) → (closed f (summed k rs)).nodes ≤ k.nodes + k.joints + 16 * length rs
unfolding summed
few_nodes f k [] = omega (arith, closed-most f k)
few_nodes f k (r ∷ rs) =
    let c = cost_of (kind_of r.kind) in
    omega (arith, few_nodes f (costs false k c) rs, (costs-few false k c (few_cost (kind_of r.kind) c refl)).0)

closed_is : (f : Bool) (k : Needed) (a b : ℕ) → a ≡ (closed f k).nodes → b ≡ (closed f k).operations → needed a b 0 0 ≡ closed f k
closed_is true k a b p q = rw (p, q)
closed_is false k a b p q = rw (p, q)

start_is : (f : Bool) (m : ℕ) → together (closed f (needed m 0 0 0)) ≡ m
start_is true m = omega arith
start_is false m = omega arith

pub unpacked : (narrow f : Bool) (n : ℕ) (gs : List ℕ) (k : ℕ) → n ≤ 256 → length gs ≤ 262144 → k ≡ 1 + 2 * n + sum_over (sum_in narrow (packed_cost f)) (records gs)
    → needed (k % 4294967296) (k / 4294967296) 0 0 ≡ most_needed n narrow f gs
unpacked narrow f n gs k hn hg e =
    let rs = expanded narrow (records gs) in
    let s = summed (needed (1 + 2 * n) 0 0 0) rs in
    let p = pack_run f (needed (1 + 2 * n) 0 0 0) rs in
    let q = start_is f (1 + 2 * n) in
    let r = few_nodes f (needed (1 + 2 * n) 0 0 0) rs in
    let l = records-length gs in
    let few : (closed f s).nodes < 4294967296 = omega (arith, r, length-expanded narrow (records gs), l, hn, hg) in
    let whole : k ≡ (closed f s).nodes + 4294967296 * (closed f s).operations = omega (arith, e, p, q, sum-expanded narrow (packed_cost f) (records gs)) in
    closed_is f s (k % 4294967296) (k / 4294967296) (omega (arith, few, whole)) (omega (arith, few, whole))

-- ---- the room

room_less : (k m k' m' n frame ns os : ℕ) → k ≤ k' → m ≤ m' → room_checked limits Fine k' m' n frame ns os ≡ Fine → Fine ≡ room_checked limits Fine k m n frame ns os
unfolding room_checked ◌⟫◌⇒◌
room_less k m k' m' n frame ns os hk hm e =
    let e₁₄ = passed_before (Fine ⟫ ltb frame (2 * n) ⇒ NoFrame ⟫ ltb max_nodes k' || ltb (ns / node_words) k' ⇒ NoNodes) (ltb max_operations m' || ltb (os / operation_words) m') NoOperations e in
    let e₁₃ = passed_before (Fine ⟫ ltb frame (2 * n) ⇒ NoFrame) (ltb max_nodes k' || ltb (ns / node_words) k') NoNodes e₁₄ in
    let t₁₅ : (ltb max_operations m' || ltb (os / operation_words) m') ≡ false = test_passed (Fine ⟫ ltb frame (2 * n) ⇒ NoFrame ⟫ ltb max_nodes k' || ltb (ns / node_words) k' ⇒ NoNodes) _ NoOperations e in
    let t₁₄ : (ltb max_nodes k' || ltb (ns / node_words) k') ≡ false = test_passed (Fine ⟫ ltb frame (2 * n) ⇒ NoFrame) _ NoNodes e₁₄ in
    let a : k' ≤ max_nodes = ltb-false max_nodes k' (left_false (ltb max_nodes k') (ltb (ns / node_words) k') t₁₄) in
    let b : k' ≤ ns / node_words = ltb-false (ns / node_words) k' (right-false (ltb max_nodes k') (ltb (ns / node_words) k') t₁₄) in
    let c : m' ≤ max_operations = ltb-false max_operations m' (left_false (ltb max_operations m') (ltb (os / operation_words) m') t₁₅) in
    let d : m' ≤ os / operation_words = ltb-false (os / operation_words) m' (right-false (ltb max_operations m') (ltb (os / operation_words) m') t₁₅) in
    let f : 2 * n ≤ frame = ltb-false frame (2 * n) (test_passed Fine (ltb frame (2 * n)) NoFrame e₁₃) in
    rw (le-ltb frame (2 * n) f, le-ltb max_nodes k (omega (arith, a, hk)), le-ltb (ns / node_words) k (omega (arith, b, hk)), le-ltb max_operations m (omega (arith, c, hm)), le-ltb (os / operation_words) m (omega (arith, d, hm)))

not_wrong : (e : PbcError) → Fine ≡ Wrong e → ⊥
not_wrong e p = let z : ◌≡◌ {A = ℕ} 0 1 = cc in omega arith

-- without a cap the sums are the needs
pub summed-needs : (n : ℕ) (gs ps : List ℕ) (frame ns os : ℕ) (k : Needed) (r : Checked) → k ≡ most_needed n false false gs → r ≡ room_checked limits Fine k.nodes k.operations n frame ns os
    → NeedsChecked n NoCap gs frame ns os ps r ps
summed-needs n gs ps frame ns os k r ek er =
    let h = same_needs n NoCap (λ t es w. sym (never n t es)) gs in
    record { same = er ∙ rw (ek, h.0, h.1); planes = λ t. refl; ended = λ w q. refl }

-- the most that can be needed fits
pub fits_most : (n m : ℕ) (gs ps : List ℕ) (frame ns os : ℕ) (k : Needed) (r : Checked) → k ≡ most_needed n (is_narrow (AtMost m)) (ltb m n) gs → r ≡ room_checked limits Fine k.nodes k.operations n frame ns os → r ≡ Fine
    → NeedsChecked n (AtMost m) gs frame ns os ps r ps
fits_most n m gs ps frame ns os k r ek er e =
    let h = capped_needs n m gs (ltb m n) refl in
    let f : room_checked limits Fine (most_needed n (is_narrow (AtMost m)) (ltb m n) gs).nodes (most_needed n (is_narrow (AtMost m)) (ltb m n) gs).operations n frame ns os ≡ Fine
    = ap (λ (c : Needed). room_checked limits Fine c.nodes c.operations n frame ns os) (sym ek) ∙ sym er ∙ e in
    record {
      same = e ∙ room_less _ _ _ _ n frame ns os h.0 h.1 f;
      planes = λ t. refl;
      ended = λ w q. absurd (not_wrong w (sym e ∙ q));
    }

-- what is needed was counted
pub counted : (n m : ℕ) (gs ps ps' : List ℕ) (frame ns os : ℕ) (k : Needed) (r : Checked)
    → k ≡ count_for (plain_last n (AtMost m) gs) (needs_last n (AtMost m) gs) → ps' ≡ planes_for (AtMost m) n (plain_last n (AtMost m) gs).table ps → r ≡ room_checked limits Fine k.nodes k.operations n frame ns os
    → NeedsChecked n (AtMost m) gs frame ns os ps r ps'
counted n m gs ps ps' frame ns os k r ek ep er = record {
  same = er ∙ rw ek;
  planes = λ t. planes_over (AtMost m) n t (plain_last n (AtMost m) gs).table ps ps' ep;
  ended = λ w q. ep;
}
