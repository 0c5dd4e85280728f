-- The whole conversion: what its checks leave, and how the two passes give its answer and buffers.
use mathlib.Core.Path.{◌≡◌, refl, sym, ap, ◌∙◌}
use mathlib.Core.Bool.{Bool, true, false, not, ◌||◌}
use mathlib.Core.List.{List, [], ◌∷◌, ◌++◌}
use Prim.Native.Nat.{ℕ, zero, suc, ◌+◌, ◌*◌, ◌/◌, ◌%◌, ◌-◌, ◌<◌, ◌≤◌}
use native.Mathlib.Omega.{arith}
use native.Mathlib.Nat.{suc-mul, zero-mul}
use lib.Dec.{ltb, eqb}
use lib.ListN.{length, get_or, drop}
use lib.Seq.{drop-append-add, drop-drop}
use borrow.Author.Tests.{ltb-false, le-ltb}
use Rattle.pauli.specs.Table.{start}
use Rattle.arena.specs.Limits.{max_qubits, max_cbits, max_nodes, max_operations, node_words, operation_words}
use Rattle.arena.specs.Errors.{◌⟫◌⇒◌}
use Rattle.arena.specs.Builder.{overlay, start_nodes, start_frame, new_check, new_step, header_of, new_header}
use Rattle.arena.specs.Builder.{Created, CreatedMade, CreatedRefused}
use Rattle.arena.proofs.Overlay.{length-qubit_nodes}
use Rattle.arena.proofs.Accepted.{passed_before, test_passed, left_false, right-false}
use Rattle.convert.specs.Types.{PbcError, Header, TooManyQubits, BrokenGateList, CapTooSmall, NoPlanes, NoFrame, NoNodes, NoOperations, Checked, Fine, Wrong}
use Rattle.convert.specs.Records.{GateKind, KindH, KindX, KindZ, KindS, KindSdg, KindT, KindTdg, KindCnot, KindCz, KindCcx, KindCcz, KindMeasure, KindY, KindSx, KindSwap, KindCy, Unsupported, Cap, NoCap, AtMost, is_narrow, bare, Record, records, kind_of, lower, lower_as, lower_all, AllProper}
use Rattle.convert.specs.Sources.{All}
use Rattle.convert.specs.Plain.{flush_from, plain_begin, plain_run, table_run}
use Rattle.convert.specs.Frame.{start_arena}
use Rattle.convert.specs.Words.{flat, start_words}
use Rattle.convert.specs.Code.Needs.{Needs}
use Rattle.convert.specs.Planes.{part_words, packed}
use Rattle.convert.specs.Conversion.{Input, records_checked, cap_too_small, planes_too_few, max_gate_words, limits, gates_check, convert_check, gates_in, plain_end, table_end, word_end, planes_as, planes_after, convert_within, convert_step, convert_of, ConvertedMade, ConvertedRefused, input_of, gates_checked, room_checked}
use Rattle.convert.specs.Code.Raw.{record_at, is_capped, planes_for, Fits, Room, plain_last, words_last, needs_last, needs_of}
use Rattle.convert.proofs.Accepted.{AllLowered, proper-records, passed-records, known-records}
use Rattle.convert.proofs.Counts.Needs.{needed}
use Rattle.convert.proofs.Counts.Rest.{drop-record}
use Rattle.convert.proofs.Meaning.Papers.{table-run}
use Rattle.convert.proofs.Buffers.State.{length-start}
use Rattle.convert.proofs.Buffers.Writing.{need_grows}
use Rattle.pauli.specs.Rows.{Row}

-- ---- the checks of the gate list

all_drop : (P : Record → Type 0) (rs : List Record) (i : ℕ) → All P rs → All P (drop i rs)
all_drop P rs zero w = w
all_drop P [] (suc i) w = tt
all_drop P (r ∷ rs) (suc i) w = all_drop P rs i w.1

-- what holds of all records holds of record i
all_at : (P : Record → Type 0) (gs : List ℕ) → All P (records gs) → (i : ℕ) → i < length gs / 4 → P (record_at gs i)
all_at P gs w i h = (rw (drop-record gs i h) at (all_drop P (records gs) i w)).0

proper_at : (n m : ℕ) (gs : List ℕ) → AllLowered n m (records gs) → (i : ℕ) → i < length gs / 4
    → AllProper n m (lower_as (kind_of (get_or gs (4 * i) 0)) (get_or gs (4 * i + 1) 0) (get_or gs (4 * i + 2) 0) (get_or gs (4 * i + 3) 0))
unfolding lower
proper_at n m gs w i h = all_at (λ r. AllProper n m (lower r)) gs w i h

proper_b : (n m : ℕ) (k : GateKind) (a b d : ℕ) → AllProper n m (lower_as k a b d) → AllProper n (b + 1) (lower_as k a b d)
unfolding lower_as
proper_b n m KindH a b d w = w
proper_b n m KindX a b d w = w
proper_b n m KindZ a b d w = w
proper_b n m KindS a b d w = w
proper_b n m KindSdg a b d w = w
proper_b n m KindT a b d w = w
proper_b n m KindTdg a b d w = w
proper_b n m KindCnot a b d w = w
proper_b n m KindCz a b d w = w
proper_b n m KindCcx a b d w = w
proper_b n m KindCcz a b d w = w
proper_b n m KindMeasure a b d w = ((w.0.0, omega arith), tt)
proper_b n m KindY a b d w = w
proper_b n m KindSx a b d w = w
proper_b n m KindSwap a b d w = w
proper_b n m KindCy a b d w = w
proper_b n m Unsupported a b d w = w

proper_max : (n m : ℕ) (k : GateKind) (a b d : ℕ) → m ≤ max_cbits → AllProper n m (lower_as k a b d) → AllProper n max_cbits (lower_as k a b d)
unfolding lower_as
proper_max n m KindH a b d h w = w
proper_max n m KindX a b d h w = w
proper_max n m KindZ a b d h w = w
proper_max n m KindS a b d h w = w
proper_max n m KindSdg a b d h w = w
proper_max n m KindT a b d h w = w
proper_max n m KindTdg a b d h w = w
proper_max n m KindCnot a b d h w = w
proper_max n m KindCz a b d h w = w
proper_max n m KindCcx a b d h w = w
proper_max n m KindCcz a b d h w = w
proper_max n m KindMeasure a b d h w = ((w.0.0, omega (arith, w.0.1, h)), tt)
proper_max n m KindY a b d h w = w
proper_max n m KindSx a b d h w = w
proper_max n m KindSwap a b d h w = w
proper_max n m KindCy a b d h w = w
proper_max n m Unsupported a b d h w = w

four_times : (n l : ℕ) → (n + n) * (l + l) ≡ 4 * n * l
four_times zero l = zero-mul (l + l) ∙ sym (zero-mul l)
four_times (suc n) l =
    let e : suc n + suc n ≡ suc (suc (n + n)) = omega arith in
    let f : 4 * suc n ≡ suc (suc (suc (suc (4 * n)))) = omega arith in
    let i = four_times n l in
    let a = suc-mul (suc (n + n)) (l + l) in
    let b = suc-mul (n + n) (l + l) in
    let c = suc-mul (suc (suc (suc (4 * n)))) l in
    let d = suc-mul (suc (suc (4 * n))) l in
    let g = suc-mul (suc (4 * n)) l in
    let k = suc-mul (4 * n) l in
    rw (e, f) (omega (arith, i, a, b, c, d, g, k))

-- what passing the checks up to 12 leaves
pub record GatesFit (n cbits : ℕ) (cap : Cap) (gs : List ℕ) (m : ℕ) : Type 0 where
  pub qubits : n ≤ 256
  pub cbits_fit : cbits ≤ 65536
  pub size : length gs ≤ 262144
  pub fits : Fits n gs
  pub planes : is_capped cap ≡ true → (n + n) * (part_words n + part_words n) ≤ m

planes_fit : (cap : Cap) (n m : ℕ) → planes_too_few cap n m ≡ false → is_capped cap ≡ true → (n + n) * (part_words n + part_words n) ≤ m
planes_fit NoCap n m e on = let z : ◌≡◌ {A = ℕ} 0 1 = cc in absurd (omega arith)
planes_fit (AtMost most) n m e on = rw (four_times n (part_words n)) (ltb-false _ _ e)

pub gates_fit : (n cbits : ℕ) (cap : Cap) (gs : List ℕ) (m : ℕ) → gates_checked limits n cbits cap gs m ≡ Fine → GatesFit n cbits cap gs m
unfolding gates_checked
gates_fit n cbits cap gs m e₁₂ =
    let e₁₁ = passed_before _ _ _ e₁₂ in
    let e₉ = passed_before _ _ _ e₁₁ in
    let e₂ = passed-records _ n cbits 0 [] (records gs) e₉ in
    let e₁ = passed_before _ _ _ e₂ in
    let w = proper-records _ n cbits 0 [] (records gs) e₉ in
    let c : cbits ≤ 65536 = ltb-false _ _ (right-false (ltb 256 n) _ (test_passed _ _ _ e₁)) in
    record {
      qubits = ltb-false _ _ (left_false (ltb 256 n) _ (test_passed _ _ _ e₁));
      cbits_fit = c;
      size = ltb-false _ _ (right-false (not (eqb (length gs % 4) 0)) _ (test_passed _ _ _ e₂));
      fits = record {
        known = all_at (λ r. r.kind < 21) gs (known-records _ n cbits 0 [] (records gs) e₉);
        each = λ i h. proper_b n cbits (kind_of (get_or gs (4 * i) 0)) (get_or gs (4 * i + 1) 0) (get_or gs (4 * i + 2) 0) (get_or gs (4 * i + 3) 0) (proper_at n cbits gs w i h);
        bits = λ i h. proper_max n cbits (kind_of (get_or gs (4 * i) 0)) (get_or gs (4 * i + 1) 0) (get_or gs (4 * i + 2) 0) (get_or gs (4 * i + 3) 0) c (proper_at n cbits gs w i h);
      };
      planes = planes_fit cap n m (test_passed _ _ _ e₁₂);
    }

-- the counts are those of the words
pub counts_are : (n : ℕ) (cap : Cap) (gs : List ℕ) → ((needs_last n cap gs).nodes ≡ (words_last n cap gs).arena.count) × ((needs_last n cap gs).operations ≡ length (words_last n cap gs).ops)
unfolding start_words start_arena
counts_are n cap gs =
    let e = needed n cap (lower_all (is_narrow cap) (records gs)) (plain_begin n) (start_words n) in
    (ap (λ (k : Needs). k.nodes) e, ap (λ (k : Needs). k.operations) e)

-- new words over new words over old ones
pub overlay-over : (new mid old : List ℕ) → length mid ≤ length new → overlay new (overlay mid old) ≡ overlay new old
overlay-over new mid old le =
    let split : length new ≡ length mid + (length new - length mid) = omega arith in
    ap (λ l. new ++ l) (ap (λ m. drop m (overlay mid old)) split ∙ drop-append-add mid (drop (length mid) old) (length new - length mid) ∙ drop-drop (length new - length mid) (length mid) old ∙ ap (λ m. drop m old) (sym split))

-- ---- the answer and the buffers

module _ (q c o : ℕ) (cap : Cap) (gs ns os fs ps : List ℕ) where
  abbrev x : Input
  x = input_of q c o cap gs ns os fs ps

  gates_check_lem : gates_check limits x ≡ gates_checked limits q c cap gs (length ps)
  unfolding gates_check gates_checked
  gates_check_lem = refl

  planes_as_lem : planes_for cap q (plain_last q cap gs).table ps ≡ planes_as cap x
  unfolding table_end gates_in plain_begin
  planes_as_lem = go cap (table-run flush_from q cap (lower_all (is_narrow cap) (records gs)) (plain_begin q))
    where
      go : (k : Cap) → (plain_run flush_from q cap (lower_all (is_narrow cap) (records gs)) (plain_begin q)).table ≡ table_run q cap (bare (lower_all (is_narrow cap) (records gs))) (start q)
          → planes_for k q (plain_last q cap gs).table ps ≡ planes_as k x
      go NoCap e = refl
      go (AtMost most) e = ap (λ (t : List Row). overlay (packed q t) ps) e

  -- refused before anything is counted
  pub refused_first : (e : PbcError) → gates_checked limits q c cap gs (length ps) ≡ Wrong e
      → convert_of (ConvertedRefused e) ns os fs ps ≡ convert_step x
  unfolding convert_step convert_within convert_check room_checked ◌⟫◌⇒◌
  refused_first e h = rw (gates_check_lem, h)

  module _ (passed : gates_checked limits q c cap gs (length ps) ≡ Fine) (k m : ℕ) (ek : k ≡ (words_last q cap gs).arena.count) (em : m ≡ length (words_last q cap gs).ops) where
    room_check : convert_check limits x ≡ room_checked limits Fine k m q (length fs) (length ns) (length os)
    unfolding convert_check room_checked word_end gates_in
    room_check = rw (gates_check_lem, passed, ek, em)

    planes_after_lem : planes_after (gates_check limits x) x ≡ planes_for cap q (plain_last q cap gs).table ps
    planes_after_lem = rw (gates_check_lem, passed) (sym planes_as_lem)

    pub refused_second : (e : PbcError) (ps' : List ℕ) → room_checked limits Fine k m q (length fs) (length ns) (length os) ≡ Wrong e → ps' ≡ planes_for cap q (plain_last q cap gs).table ps
        → convert_of (ConvertedRefused e) ns os fs ps' ≡ convert_step x
    unfolding convert_step convert_within
    refused_second e ps' h ep = rw (room_check, h) (ap (convert_of (ConvertedRefused e) ns os fs) (ep ∙ sym planes_after_lem))

    pub made : room_checked limits Fine k m q (length fs) (length ns) (length os) ≡ Fine → (r₁ r₂ r₃ : ℕ) (ns' os' fs' ps' : List ℕ)
        → r₁ ≡ (words_last q cap gs).arena.count → r₂ ≡ length (words_last q cap gs).ops → r₃ ≡ (plain_last q cap gs).given
        → ns' ≡ overlay (words_last q cap gs).arena.nodes ns → os' ≡ overlay (flat (words_last q cap gs).ops) os → fs' ≡ overlay (words_last q cap gs).arena.frame fs
        → ps' ≡ planes_for cap q (plain_last q cap gs).table ps
        → convert_of (ConvertedMade (header_of q c o r₁ r₂ r₃)) ns' os' fs' ps' ≡ convert_step x
    unfolding convert_step convert_within word_end plain_end gates_in
    made h r₁ r₂ r₃ ns' os' fs' ps' e₁ e₂ e₃ en eo ef ep =
        rw (room_check, h) (λ i. convert_of (ConvertedMade (header_of q c o (e₁ i) (e₂ i) (e₃ i))) (en i) (eo i) (ef i) ((ep ∙ sym planes_after_lem) i))

room_parts : (k m q frame ns os : ℕ) → room_checked limits Fine k m q frame ns os ≡ Fine → (2 * q ≤ frame) × (k ≤ ns / node_words)
unfolding room_checked
room_parts k m q frame ns os e =
    let e₁₄ = passed_before _ _ _ e in
    let e₁₃ = passed_before _ _ _ e₁₄ in
    (ltb-false _ _ (test_passed _ _ _ e₁₃), ltb-false _ _ (right-false (ltb max_nodes k) _ (test_passed _ _ _ e₁₄)))

-- a fresh circuit fits where the conversion does
pub new_fine : (q c : ℕ) (gs : List ℕ) (cap : Cap) (ns os fs ps : List ℕ) (k m : ℕ) → GatesFit q c cap gs (length ps) → room_checked limits Fine k m q (length fs) (length ns) (length os) ≡ Fine → 1 + 2 * q ≤ k
    → new_check q c (length ns) (length fs) ≡ Fine
unfolding new_check ◌⟫◌⇒◌
new_fine q c gs cap ns os fs ps k m g e h =
    let r = room_parts k m q (length fs) (length ns) (length os) e in
    rw (le-ltb 256 q g.qubits, le-ltb 65536 c g.cbits_fit, le-ltb (length fs) (2 * q) r.0, le-ltb (length ns / node_words) (1 + 2 * q) (omega (arith, r.1, h)))

pub room_from : (q : ℕ) (cap : Cap) (gs ns os fs : List ℕ) (k m : ℕ) → room_checked limits Fine k m q (length fs) (length ns) (length os) ≡ Fine → k ≡ (needs_last q cap gs).nodes → m ≡ (needs_last q cap gs).operations
    → Room q cap gs ns os × (2 * q ≤ length fs)
unfolding room_checked
room_from q cap gs ns os fs k m e ek em =
    let e₁₄ = passed_before _ _ _ e in
    let e₁₃ = passed_before _ _ _ e₁₄ in
    let a : k ≤ max_nodes = ltb-false _ _ (left_false (ltb max_nodes k) _ (test_passed _ _ _ e₁₄)) in
    let b : k ≤ length ns / node_words = ltb-false _ _ (right-false (ltb max_nodes k) _ (test_passed _ _ _ e₁₄)) in
    let d : m ≤ max_operations = ltb-false _ _ (left_false (ltb max_operations m) _ (test_passed _ _ _ e)) in
    let g : m ≤ length os / operation_words = ltb-false _ _ (right-false (ltb max_operations m) _ (test_passed _ _ _ e)) in
    (record { nodes = omega (arith, a, ek); nodes_lent = omega (arith, b, ek); operations = omega (arith, d, em); operations_lent = omega (arith, g, em) }, ltb-false _ _ (test_passed _ _ _ e₁₃))

pub start-least : (n : ℕ) (cap : Cap) (gs : List ℕ) → 1 + 2 * n ≤ (needs_last n cap gs).nodes
start-least n cap gs = (need_grows n cap (lower_all (is_narrow cap) (records gs)) (plain_begin n) (needs_of (1 + 2 * n) 0)).0

-- ---- the fresh circuit that is written over

pub new_words : (q c o : ℕ) (ns fs : List ℕ) → new_check q c (length ns) (length fs) ≡ Fine
    → ((new_step q c o ns fs).answer ≡ CreatedMade (new_header q c o)) × ((new_step q c o ns fs).words.nodes ≡ overlay (start_nodes q) ns) × ((new_step q c o ns fs).words.frame ≡ overlay (start_frame q) fs)
unfolding new_step
new_words q c o ns fs e = rw e (refl, refl, refl)

pub not-refused : (h : Header) (e : PbcError) (r : Created) → r ≡ CreatedMade h → r ≡ CreatedRefused e → ⊥
not-refused h e r p q = let z : ◌≡◌ {A = ℕ} 0 1 = cc in omega arith

pub start-again : (us ws ws' : List ℕ) → ws' ≡ overlay us ws → ws' ≡ overlay us ws'
start-again us ws ws' e = e ∙ sym (ap (overlay us) e ∙ overlay-over us us ws (omega arith))

pub room_again : (q : ℕ) (cap : Cap) (gs ns os ns' : List ℕ) → Room q cap gs ns os → length ns' ≡ length ns → Room q cap gs ns' os
room_again q cap gs ns os ns' r e = record { nodes = r.nodes; nodes_lent = omega (arith, r.nodes_lent, e); operations = r.operations; operations_lent = r.operations_lent }

pub over-start : (q : ℕ) (cap : Cap) (gs ns ns' ns'' : List ℕ) → ns' ≡ overlay (start_nodes q) ns → ns'' ≡ overlay (words_last q cap gs).arena.nodes ns'
    → length (words_last q cap gs).arena.nodes ≡ 2 * (words_last q cap gs).arena.count → ns'' ≡ overlay (words_last q cap gs).arena.nodes ns
over-start q cap gs ns ns' ns'' e₁ e₂ len =
    let s = start-least q cap gs in
    let k = (counts_are q cap gs).0 in
    e₂ ∙ ap (overlay (words_last q cap gs).arena.nodes) e₁ ∙ overlay-over (words_last q cap gs).arena.nodes (start_nodes q) ns (omega (arith, len, s, k, length-qubit_nodes q))

pub over_frame : (q : ℕ) (cap : Cap) (gs fs fs' fs'' : List ℕ) → fs' ≡ overlay (start_frame q) fs → fs'' ≡ overlay (words_last q cap gs).arena.frame fs'
    → length (words_last q cap gs).arena.frame ≡ q + q → fs'' ≡ overlay (words_last q cap gs).arena.frame fs
over_frame q cap gs fs fs' fs'' e₁ e₂ len =
    e₂ ∙ ap (overlay (words_last q cap gs).arena.frame) e₁ ∙ overlay-over (words_last q cap gs).arena.frame (start_frame q) fs (omega (arith, len, length-start q))

-- ---- the checks, one after the other

-- past 1 the classical bits are few enough
pub bits_checked : (n cbits : ℕ) (gs : List ℕ) (r₁ r₂ : Checked) → r₁ ≡ (Fine ⟫ ltb max_qubits n || ltb max_cbits cbits ⇒ TooManyQubits)
    → r₂ ≡ (r₁ ⟫ not (eqb (length gs % 4) 0) || ltb max_gate_words (length gs) ⇒ BrokenGateList) → r₂ ≡ Fine → cbits ≤ max_cbits
bits_checked n cbits gs r₁ r₂ e₁ e₂ e =
    ltb-false _ _ (right-false (ltb max_qubits n) _ (test_passed _ _ _ (sym e₁ ∙ passed_before _ _ _ (sym e₂ ∙ e))))

pub gates_checked_lem : (n cbits : ℕ) (cap : Cap) (gs : List ℕ) (m : ℕ) (r₁ r₂ r₃ r₄ r₅ : Checked) (x y : Bool) → r₁ ≡ (Fine ⟫ ltb max_qubits n || ltb max_cbits cbits ⇒ TooManyQubits)
    → r₂ ≡ (r₁ ⟫ not (eqb (length gs % 4) 0) || ltb max_gate_words (length gs) ⇒ BrokenGateList) → r₃ ≡ records_checked r₂ n cbits 0 [] (records gs)
    → x ≡ cap_too_small cap → r₄ ≡ (r₃ ⟫ x ⇒ CapTooSmall) → y ≡ planes_too_few cap n m → r₅ ≡ (r₄ ⟫ y ⇒ NoPlanes) → r₅ ≡ gates_checked limits n cbits cap gs m
unfolding gates_checked
gates_checked_lem n cbits cap gs m r₁ r₂ r₃ r₄ r₅ x y e₁ e₂ e₃ ex e₄ ey e₅ = rw (e₅, e₄, e₃, e₂, e₁, ex, ey)

pub room_checked_lem : (k m n frame ns os : ℕ) (r₁ r₂ r₃ : Checked) → r₁ ≡ (Fine ⟫ ltb frame (2 * n) ⇒ NoFrame) → r₂ ≡ (r₁ ⟫ ltb max_nodes k || ltb (ns / node_words) k ⇒ NoNodes)
    → r₃ ≡ (r₂ ⟫ ltb max_operations m || ltb (os / operation_words) m ⇒ NoOperations) → r₃ ≡ room_checked limits Fine k m n frame ns os
unfolding room_checked
room_checked_lem k m n frame ns os r₁ r₂ r₃ e₁ e₂ e₃ = rw (e₃, e₂, e₁)
