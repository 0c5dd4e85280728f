-- The writing pass over the records.
use mathlib.Core.Path.{◌≡◌, refl, sym, ap, ◌∙◌}
use mathlib.Core.Bool.{Bool, true, false, cond}
use mathlib.Core.List.{List, [], ◌∷◌, ◌++◌, map, append_assoc, append-nil}
use Prim.Native.Nat.{ℕ, zero, suc, ◌+◌, ◌-◌, ◌*◌, ◌/◌, ◌%◌, ◌<◌, ◌≤◌}
use native.Mathlib.Omega.{arith}
use native.Mathlib.Nat.{le_refl}
use lib.ListN.{length, get_or, drop, get_or-append}
use Rattle.pauli.specs.Gates.{Gate, AllValid}
use Rattle.pauli.specs.Table.{start}
use Rattle.arena.specs.Builder.{overlay, start_nodes, start_frame, image_words}
use Rattle.arena.proofs.Overlay.{length-qubit_nodes}
use Rattle.convert.specs.Records.{GateKind, KindH, KindX, KindZ, KindS, KindSdg, KindT, KindTdg, KindCnot, KindCz, KindCcx, KindCcz, KindMeasure, KindY, KindSx, KindSwap, KindCy, Unsupported, Cap, Elementary, Placed, placed_from, From, from, without_index, kind_of, is_narrow, lower_as, lower_all}
use Rattle.convert.specs.Plain.{Plain, flush_from, plain_begin, plain_step, plain_run}
use Rattle.convert.specs.Frame.{start_arena, gate_nodes, total}
use Rattle.convert.specs.Words.{start_words, flush_words, word_run}
use Rattle.convert.specs.Code.Needs.{Needs, need_step, need_run}
use Rattle.convert.specs.Planes.{part_words}
use Rattle.convert.specs.Code.RawPlanes.{Since}
use Rattle.convert.specs.Code.Raw.{is_capped, record_gates, record_from, flushed_nodes, flushed_ops, planes_for, Decided, Fits, Small, FrameReady, Ran, FlushOver, FlushedIf, PartIn, InParts, part_at, next_part, stepped, RecordReady, gates_over, any_exceeds, cost_of, lone_nodes, measures_of, needs_of, put_record, put_seven, put_four, put_rows, Writing, writing, plain_last, words_last, needs_last, Room}
use Rattle.convert.specs.Code.Lists.{rest_of}
use Rattle.convert.specs.Code.Writing.{unplaced, Stands, Pending, WriteAt}
use Rattle.convert.proofs.Meaning.Words.{without_append, without_from, valid_append}
use Rattle.convert.proofs.Packed.Since.{since-start}
use Rattle.convert.proofs.Packed.Deciding.{valid_of, wide-start}
use Rattle.convert.proofs.Counts.Parts.{PartFits, part_fits, stepped_up, stepped-snoc, next_up, next_wide, first_in, next_in}
use Rattle.convert.proofs.Counts.RecordSteps.{bare-unplaced, run-append, need_append, word_append, One, one_record, framed, write_record, needs_eq}
use Rattle.convert.proofs.Counts.Rest.{rest_more, rest_end, wide_went}
use Rattle.convert.proofs.Buffers.State.{stands_frames, stands_if, stands_record, write_lone, lone_after, length-start}

-- ---- needs only grow

pub need_grows : (n : ℕ) (cap : Cap) (es : List (Placed Elementary)) (p : Plain) (k : Needs) → (k.nodes ≤ (need_run n cap es p k).nodes) × (k.operations ≤ (need_run n cap es p k).operations)
unfolding need_run need_step
need_grows n cap [] p k = (le_refl k.nodes, le_refl k.operations)
need_grows n cap (e ∷ es) p k = let r = need_grows n cap es (plain_step flush_from n cap e p) (need_step n cap e p k) in (omega (arith, r.0), omega (arith, r.1))

-- ---- pending gates

valid_over : (n i : ℕ) (gs : List Gate) (hs : List (From Gate)) → AllValid n gs → AllValid n (without_index hs) → AllValid n (without_index (map (from i) gs ++ hs))
valid_over n i gs hs u v = rw (without_append (map (from i) gs) hs, without_from i gs) (valid_append n gs (without_index hs) u v)

gates_valid : (n : ℕ) (narrow : Bool) (gs : List ℕ) → Fits n gs → (k p : ℕ) → InParts narrow gs p → stepped narrow gs k p ≤ 16 * (length gs / 4) → AllValid n (without_index (gates_over narrow gs p k))
gates_valid n narrow gs f zero p i h = tt
gates_valid n narrow gs f (suc k) p i h =
    let r = part_at narrow gs p in
    let in_p = i (omega (arith, stepped_up narrow gs k (next_part narrow gs p), next_up narrow gs p, h)) in
    valid_over n (p / 16) (record_gates (kind_of r.kind) r.a r.b) (gates_over narrow gs (next_part narrow gs p) k)
    (valid_of n (kind_of r.kind) r.a r.b r.c (part_fits n narrow gs f p in_p).each) (gates_valid n narrow gs f k (next_part narrow gs p) (next_in narrow gs p in_p) h)

-- the frame gates of the part at p
abbrev part_from : Bool → List ℕ → ℕ → List (From Gate)
part_from narrow gs p = record_from (p / 16) (kind_of (part_at narrow gs p).kind) (part_at narrow gs p).a (part_at narrow gs p).b

gates_snoc : (narrow : Bool) (gs : List ℕ) (k p : ℕ) → gates_over narrow gs p (suc k) ≡ gates_over narrow gs p k ++ part_from narrow gs (stepped narrow gs k p)
gates_snoc narrow gs zero p = append-nil _
gates_snoc narrow gs (suc k) p =
    ap (λ (l : List (From Gate)). part_from narrow gs p ++ l) (gates_snoc narrow gs k (next_part narrow gs p))
    ∙ sym (append_assoc (part_from narrow gs p) (gates_over narrow gs (next_part narrow gs p) k) _)

pending_more : (f : Bool) (narrow : Bool) (gs : List ℕ) (p place next : ℕ) (us : List (From Gate)) → Pending narrow gs place p us → next ≡ next_part narrow gs p
    → Pending narrow gs (cond f p place) next (cond f [] us ++ part_from narrow gs p)
pending_more true narrow gs p place next us s en = record { count = 1; ends = sym en; same = sym (append-nil _) }
pending_more false narrow gs p place next us s en = record {
  count = suc s.count;
  ends = stepped-snoc narrow gs s.count place ∙ ap (next_part narrow gs) s.ends ∙ sym en;
  same = rw s.same (ap (λ (q : ℕ). gates_over narrow gs place s.count ++ part_from narrow gs q) (sym s.ends)) ∙ sym (gates_snoc narrow gs s.count place);
}

-- ---- frame words are small

abbrev Little : List ℕ → Type 0
Little us = (i : ℕ) → get_or us i 0 < 262144

little_append : (us vs : List ℕ) → Little us → Little vs → Little (us ++ vs)
little_append [] vs f g i = g i
little_append (u ∷ us) vs f g zero = f 0
little_append (u ∷ us) vs f g (suc i) = little_append us vs (λ j. f (suc j)) g i

little_one : (x : ℕ) → x < 262144 → Little (x ∷ [])
little_one x h zero = h
little_one x h (suc i) = omega arith

little_images : (first q : ℕ) → first ≤ 2 → q ≤ 256 → Little (image_words first q)
little_images first zero h g i = omega arith
little_images first (suc q) h g i = little_append (image_words first q) (4 * (first + 2 * q) ∷ []) (little_images first q h (omega arith)) (little_one (4 * (first + 2 * q)) (omega arith)) i

small-start : (n : ℕ) (fs : List ℕ) → n ≤ 256 → Small n (overlay (start_frame n) fs)
small-start n fs h i lt =
    rw (get_or-append (start_frame n) (drop (length (start_frame n)) fs) 0 i (omega (arith, length-start n)))
    (little_append (image_words 1 n) (image_words 2 n) (little_images 1 n (omega arith) h) (little_images 2 n (omega arith) h) i)

small_if : (f : Bool) (n : ℕ) (gs : List (From Gate)) {c : ℕ} {ns fs : List ℕ} {u : ℕ} {os : List ℕ} {c' : ℕ} {ns' fs' : List ℕ} {u' : ℕ} {os' : List ℕ} → n ≤ 256 → Small n fs
    → FlushedIf f n gs c ns fs u os c' ns' fs' u' os' → Small n fs'
small_if true n gs {fs = fs} h s d i lt = rw (d.frame refl) (small-start n fs h i lt)
small_if false n gs h s d i lt = rw (d.not refl).2 (s i lt)

counted_if : (f : Bool) (n : ℕ) (gs : List (From Gate)) {c : ℕ} {ns fs : List ℕ} {u : ℕ} {os : List ℕ} {c' : ℕ} {ns' fs' : List ℕ} {u' : ℕ} {os' : List ℕ}
    → FlushedIf f n gs c ns fs u os c' ns' fs' u' os' → (c' ≡ c + cond f (flushed_nodes gs) 0) × (u' ≡ u + cond f (flushed_ops gs) 0)
counted_if true n gs d = ((d.is refl).counted, (d.is refl).turned)
counted_if false n gs d = let k = d.not refl in (omega (arith, k.0), omega (arith, k.3))

node_parts : (kind : GateKind) (a b : ℕ) → total gate_nodes (record_gates kind a b) + lone_nodes kind ≡ (cost_of kind).nodes
unfolding cost_of record_gates lower_as
node_parts KindH a b = omega arith
node_parts KindX a b = omega arith
node_parts KindZ a b = omega arith
node_parts KindS a b = omega arith
node_parts KindSdg a b = omega arith
node_parts KindT a b = omega arith
node_parts KindTdg a b = omega arith
node_parts KindCnot a b = omega arith
node_parts KindCz a b = omega arith
node_parts KindCcx a b = omega arith
node_parts KindCcz a b = omega arith
node_parts KindMeasure a b = omega arith
node_parts KindY a b = omega arith
node_parts KindSx a b = omega arith
node_parts KindSwap a b = omega arith
node_parts KindCy a b = omega arith
node_parts Unsupported a b = omega arith

pub measures_few : (kind : GateKind) → measures_of kind ≤ 1
measures_few KindH = omega arith
measures_few KindX = omega arith
measures_few KindZ = omega arith
measures_few KindS = omega arith
measures_few KindSdg = omega arith
measures_few KindT = omega arith
measures_few KindTdg = omega arith
measures_few KindCnot = omega arith
measures_few KindCz = omega arith
measures_few KindCcx = omega arith
measures_few KindCcz = omega arith
measures_few KindMeasure = omega arith
measures_few KindY = omega arith
measures_few KindSx = omega arith
measures_few KindSwap = omega arith
measures_few KindCy = omega arith
measures_few Unsupported = omega arith

record_counts : (n given i : ℕ) (kind : GateKind) (a b d : ℕ) (fs : List ℕ) (c : ℕ) (ns : List ℕ) (u : ℕ) (os : List ℕ) (c' : ℕ) (ns' : List ℕ) (u' : ℕ) (os' : List ℕ)
    → writing c' ns' u' os' ≡ put_record n given i kind a b d fs (writing c ns u os) → (c' ≡ c + lone_nodes kind) × (u' ≡ u + (cost_of kind).operations)
unfolding cost_of lower_as put_record put_seven put_four put_rows
record_counts n given i KindH a b d fs c ns u os c' ns' u' os' e = (ap (λ (s : Writing). s.count) e ∙ omega arith, ap (λ (s : Writing). s.used) e ∙ omega arith)
record_counts n given i KindX a b d fs c ns u os c' ns' u' os' e = (ap (λ (s : Writing). s.count) e ∙ omega arith, ap (λ (s : Writing). s.used) e ∙ omega arith)
record_counts n given i KindZ a b d fs c ns u os c' ns' u' os' e = (ap (λ (s : Writing). s.count) e ∙ omega arith, ap (λ (s : Writing). s.used) e ∙ omega arith)
record_counts n given i KindS a b d fs c ns u os c' ns' u' os' e = (ap (λ (s : Writing). s.count) e ∙ omega arith, ap (λ (s : Writing). s.used) e ∙ omega arith)
record_counts n given i KindSdg a b d fs c ns u os c' ns' u' os' e = (ap (λ (s : Writing). s.count) e ∙ omega arith, ap (λ (s : Writing). s.used) e ∙ omega arith)
record_counts n given i KindT a b d fs c ns u os c' ns' u' os' e = (ap (λ (s : Writing). s.count) e ∙ omega arith, ap (λ (s : Writing). s.used) e ∙ omega arith)
record_counts n given i KindTdg a b d fs c ns u os c' ns' u' os' e = (ap (λ (s : Writing). s.count) e ∙ omega arith, ap (λ (s : Writing). s.used) e ∙ omega arith)
record_counts n given i KindCnot a b d fs c ns u os c' ns' u' os' e = (ap (λ (s : Writing). s.count) e ∙ omega arith, ap (λ (s : Writing). s.used) e ∙ omega arith)
record_counts n given i KindCz a b d fs c ns u os c' ns' u' os' e = (ap (λ (s : Writing). s.count) e ∙ omega arith, ap (λ (s : Writing). s.used) e ∙ omega arith)
record_counts n given i KindCcx a b d fs c ns u os c' ns' u' os' e = (ap (λ (s : Writing). s.count) e ∙ omega arith, ap (λ (s : Writing). s.used) e ∙ omega arith)
record_counts n given i KindCcz a b d fs c ns u os c' ns' u' os' e = (ap (λ (s : Writing). s.count) e ∙ omega arith, ap (λ (s : Writing). s.used) e ∙ omega arith)
record_counts n given i KindMeasure a b d fs c ns u os c' ns' u' os' e = (ap (λ (s : Writing). s.count) e ∙ omega arith, ap (λ (s : Writing). s.used) e ∙ omega arith)
record_counts n given i KindY a b d fs c ns u os c' ns' u' os' e = (ap (λ (s : Writing). s.count) e ∙ omega arith, ap (λ (s : Writing). s.used) e ∙ omega arith)
record_counts n given i KindSx a b d fs c ns u os c' ns' u' os' e = (ap (λ (s : Writing). s.count) e ∙ omega arith, ap (λ (s : Writing). s.used) e ∙ omega arith)
record_counts n given i KindSwap a b d fs c ns u os c' ns' u' os' e = (ap (λ (s : Writing). s.count) e ∙ omega arith, ap (λ (s : Writing). s.used) e ∙ omega arith)
record_counts n given i KindCy a b d fs c ns u os c' ns' u' os' e = (ap (λ (s : Writing). s.count) e ∙ omega arith, ap (λ (s : Writing). s.used) e ∙ omega arith)
record_counts n given i Unsupported a b d fs c ns u os c' ns' u' os' e = (ap (λ (s : Writing). s.count) e ∙ omega arith, ap (λ (s : Writing). s.used) e ∙ omega arith)

-- ---- before position p

pub write-start : (n : ℕ) (cap : Cap) (narrow : Bool) (gs ns fs os ps : List ℕ) → narrow ≡ is_narrow cap → n ≤ 256 → ns ≡ overlay (start_nodes n) ns → fs ≡ overlay (start_frame n) fs → ps ≡ planes_for cap n (start n) ps
    → WriteAt n cap narrow gs ns fs os ps (1 + 2 * n) ns fs 0 os ps 0 0 0
unfolding plain_begin start_words start_arena lower_all
write-start n cap narrow gs ns fs os ps ew h en ef ep = record {
  plain = plain_begin n;
  words = start_words n;
  wide = wide-start n;
  stands = record {
    count = refl;
    nodes = en;
    frame = ef;
    used = refl;
    operations = refl;
    even = record { nodes = omega (arith, length-qubit_nodes n); frame = length-start n };
    sized = refl;
  };
  small = λ i lt. rw ef (small-start n fs h i lt);
  planes = ep;
  gave = refl;
  few = omega arith;
  pending = record { count = 0; ends = refl; same = refl };
  past = omega arith;
  begun = first_in narrow gs;
  inside = first_in narrow gs;
  since = λ on off. since-start n cap ps gs 0 0 ep on;
  ends = rw ew;
  leads = rw ew;
  totals = rw ew;
}

-- it fits buffers of the same lengths
pub room_kept : {n : ℕ} {cap : Cap} {gs ns os ns' os' : List ℕ} → Room n cap gs ns os → length ns' ≡ length ns → length os' ≡ length os → Room n cap gs ns' os'
room_kept r ln lo = record {
  nodes = r.nodes;
  nodes_lent = omega (arith, r.nodes_lent, ln);
  operations = r.operations;
  operations_lent = omega (arith, r.operations_lent, lo);
}

module _ (n : ℕ) (cap : Cap) (narrow : Bool) (gs ns₀ fs₀ os₀ ps₀ : List ℕ) (c : ℕ) (ns fs : List ℕ) (u : ℕ) (os ps : List ℕ) (given place p : ℕ)
    (at : WriteAt n cap narrow gs ns₀ fs₀ os₀ ps₀ c ns fs u os ps given place p) (h : p < 16 * (length gs / 4)) (fits : Fits n gs) (qubits : n ≤ 256) (room : Room n cap gs ns₀ os₀)
    (lens : (length ns ≡ length ns₀) × (length os ≡ length os₀) × (n + n ≤ length fs)) where
  abbrev kind_i : GateKind
  kind_i = kind_of (part_at narrow gs p).kind

  abbrev a_i : ℕ
  a_i = (part_at narrow gs p).a

  abbrev b_i : ℕ
  b_i = (part_at narrow gs p).b

  abbrev d_i : ℕ
  d_i = (part_at narrow gs p).c

  abbrev these_i : List (Placed Elementary)
  these_i = placed_from (p / 16) (p % 16) (lower_as kind_i a_i b_i d_i)

  abbrev flush_i : Bool
  flush_i = any_exceeds n cap at.plain.table (lower_as kind_i a_i b_i d_i)

  abbrev pending_i : List (From Gate)
  pending_i = gates_over narrow gs place at.pending.count

  pub write_inside : PartIn narrow gs p
  write_inside = at.inside h

  fits_i : PartFits n (part_at narrow gs p)
  fits_i = part_fits n narrow gs fits p write_inside

  one_i : One n cap (p / 16) (p % 16) (lower_as kind_i a_i b_i d_i) (record_gates kind_i a_i b_i) (measures_of kind_i) (cost_of kind_i).nodes (cost_of kind_i).operations (write_record n at.plain.given (p / 16) kind_i a_i b_i d_i) at.plain (needs_of c u) at.words
  one_i = one_record n cap (p / 16) (p % 16) kind_i a_i b_i d_i at.plain (needs_of c u) at.words

  -- the needs after this record
  pub within : (c + cond flush_i (flushed_nodes pending_i) 0 + (cost_of kind_i).nodes ≤ (needs_last n cap gs).nodes)
      × (u + cond flush_i (flushed_ops pending_i) 0 + (cost_of kind_i).operations ≤ (needs_last n cap gs).operations)
  within =
      let e = need_append n cap these_i (rest_of narrow gs (next_part narrow gs p)) at.plain (needs_of c u) in
      let t = at.totals in
      let g = need_grows n cap (rest_of narrow gs (next_part narrow gs p)) (plain_run flush_from n cap these_i at.plain) (need_run n cap these_i at.plain (needs_of c u)) in
      let k = one_i.needs in
      let tot : need_run n cap (rest_of narrow gs (next_part narrow gs p)) (plain_run flush_from n cap these_i at.plain) (need_run n cap these_i at.plain (needs_of c u)) ≡ needs_last n cap gs
      = sym e ∙ ap (λ (l : List (Placed Elementary)). need_run n cap l at.plain (needs_of c u)) (sym (rest_more narrow gs p write_inside)) ∙ t in
      let g₂ = rw (tot, k, bare-unplaced at.plain.pending, at.pending.same) at g in
      g₂

  pub write_planes : (f : Bool) (ps' : List ℕ) → Decided n cap kind_i a_i b_i d_i ps f ps'
      → (f ≡ flush_i) × (ps' ≡ planes_for cap n (plain_run flush_from n cap these_i at.plain).table ps₀)
  write_planes f ps' dec =
      let s = dec.same at.plain.table ps₀ at.wide at.planes in
      (s.0, s.1 ∙ rw (one_i.went.table, s.0))

  pub write_flush : (f : Bool) → f ≡ flush_i → f ≡ true → FlushOver n narrow gs place p c ns u os
  write_flush f ef on =
      let w = within in
      let x : flush_i ≡ true = sym ef ∙ on in
      let w₂ = rw x at w in
      record {
        count = at.pending.count;
        ends = at.pending.ends;
        ready = record {
          valid = gates_valid n narrow gs fits at.pending.count place at.begun (omega (arith, at.pending.ends, h));
          qubits = qubits;
          few = omega (arith, w₂.0, room.nodes);
          room = omega (arith, w₂.0, room.nodes_lent, lens.0);
          fewer = omega (arith, w₂.1, room.operations);
          place = omega (arith, w₂.1, room.operations_lent, lens.1);
        };
      }

  module _ (f : Bool) (ef : f ≡ flush_i) (c₁ : ℕ) (ns₁ fs₁ : List ℕ) (u₁ : ℕ) (os₁ : List ℕ) (d₁ : FlushedIf f n pending_i c ns fs u os c₁ ns₁ fs₁ u₁ os₁)
      (lens₁ : (length ns₁ ≡ length ns) × (length os₁ ≡ length os) × (length fs₁ ≡ length fs)) where
    counted₁ : (c₁ ≡ c + cond flush_i (flushed_nodes pending_i) 0) × (u₁ ≡ u + cond flush_i (flushed_ops pending_i) 0)
    counted₁ = rw ef at (counted_if f n pending_i d₁)

    pub write_frames : FrameReady n (record_gates kind_i a_i b_i) c₁ ns₁ fs₁
    write_frames =
        let w = within in
        let k = counted₁ in
        let np = node_parts kind_i a_i b_i in
        record {
          valid = valid_of n kind_i a_i b_i d_i fits_i.each;
          qubits = qubits;
          places = omega (arith, lens.2, lens₁.2);
          small = small_if f n pending_i qubits at.small d₁;
          few = omega (arith, w.0, k.0, np, room.nodes);
          room = omega (arith, w.0, k.0, np, room.nodes_lent, lens.0, lens₁.0);
        }

    pub write_ready : RecordReady n given kind_i a_i b_i d_i c₁ ns₁ u₁ os₁ fs₁
    write_ready =
        let w = within in
        let k = counted₁ in
        let np = node_parts kind_i a_i b_i in
        record {
          proper = fits_i.bits;
          qubits = qubits;
          places = omega (arith, lens.2, lens₁.2);
          small = small_if f n pending_i qubits at.small d₁;
          few = omega (arith, w.0, k.0, np, room.nodes);
          room = omega (arith, w.0, k.0, np, room.nodes_lent, lens.0, lens₁.0);
          fewer = omega (arith, w.1, k.1, room.operations);
          place = omega (arith, w.1, k.1, room.operations_lent, lens.1, lens₁.1);
        }

    module _ (c₂ : ℕ) (ns₂ fs₂ : List ℕ) (d₂ : Ran n (record_gates kind_i a_i b_i) c₁ ns₁ fs₁ c₂ ns₂ fs₂)
        (lens₂ : (length ns₂ ≡ length ns₁) × (length fs₂ ≡ length fs₁)) where
      pub write_more : (c₃ : ℕ) (ns₃ : List ℕ) (u₃ : ℕ) (os₃ ps₃ : List ℕ) (given₃ place₃ next : ℕ)
          → writing c₃ ns₃ u₃ os₃ ≡ put_record n given (p / 16) kind_i a_i b_i d_i fs₂ (writing c₂ ns₂ u₁ os₁)
          → ps₃ ≡ planes_for cap n (plain_run flush_from n cap these_i at.plain).table ps₀ → given₃ ≡ given + measures_of kind_i → place₃ ≡ cond f p place
          → (is_capped cap ≡ true → narrow ≡ false → Since n (part_words n) ps₃ gs (cond f (p / 16) (place / 16)) (p / 16 + 1 - cond f (p / 16) (place / 16)))
          → next ≡ next_part narrow gs p
          → WriteAt n cap narrow gs ns₀ fs₀ os₀ ps₀ c₃ ns₃ fs₂ u₃ os₃ ps₃ given₃ place₃ next
      write_more c₃ ns₃ u₃ os₃ ps₃ given₃ place₃ next e₃ ep eg el es enx =
          let w = within in
          let k = counted₁ in
          let np = node_parts kind_i a_i b_i in
          let s₁ = stands_if flush_i n at.plain.pending ns₀ fs₀ os₀ c ns fs u os at.words c₁ ns₁ fs₁ u₁ os₁ at.stands (rw at.pending.same (rw ef at d₁))
          (rw at.pending.same (omega (arith, w.0, room.nodes_lent))) (rw at.pending.same (omega (arith, w.1, room.operations_lent))) in
          let s₂ = stands_frames n (record_gates kind_i a_i b_i) ns₀ fs₀ os₀ c₁ ns₁ fs₁ u₁ os₁ _ c₂ ns₂ fs₂ s₁ d₂ (valid_of n kind_i a_i b_i d_i fits_i.each)
          (omega (arith, w.0, k.0, np, room.nodes_lent)) in
          let s₃ = stands_record n given (p / 16) kind_i a_i b_i d_i ns₀ fs₀ os₀ c₂ ns₂ fs₂ u₁ os₁ _ c₃ ns₃ u₃ os₃ s₂ fits_i.bits e₃
          (omega (arith, w.0, k.0, np, d₂.counted, room.nodes_lent)) (omega (arith, w.1, k.1, room.operations_lent)) in
          let q = plain_run flush_from n cap these_i at.plain in
          let ew : word_run n cap these_i at.plain at.words ≡ write_lone n given (p / 16) kind_i a_i b_i d_i (framed n (record_gates kind_i a_i b_i) (cond flush_i (flush_words n at.plain.pending at.words) at.words))
          = one_i.words ∙ lone_after n at.plain.given (p / 16) kind_i a_i b_i d_i _ ∙ rw (← at.gave) in
          let rest : rest_of narrow gs p ≡ these_i ++ rest_of narrow gs next = rw enx (rest_more narrow gs p write_inside) in
          let en : needs_of c₃ u₃ ≡ need_run n cap these_i at.plain (needs_of c u) = needs-here c₃ ns₃ u₃ os₃ e₃ in
          record {
            plain = q;
            words = word_run n cap these_i at.plain at.words;
            wide = wide_went n _ _ _ _ at.plain q one_i.went at.wide;
            stands = rw ew s₃;
            small = d₂.small;
            planes = ep;
            gave = eg ∙ ap (λ (x : ℕ). x + measures_of kind_i) at.gave ∙ sym one_i.went.given;
            few = omega (arith, eg, at.few, measures_few kind_i, next_up narrow gs p, enx);
            pending = rw (one_i.went.pending, el, ef) (pending_more flush_i narrow gs p place next (unplaced at.plain.pending) at.pending enx);
            past = place-past f;
            begun = rw el (begun-here f);
            inside = rw enx (next_in narrow gs p write_inside);
            since = λ on off. rw el (since-here f (es on off) off);
            ends = sym (run-append n cap these_i (rest_of narrow gs next) at.plain) ∙ ap (λ (l : List (Placed Elementary)). plain_run flush_from n cap l at.plain) (sym rest) ∙ at.ends;
            leads = sym (word_append n cap these_i (rest_of narrow gs next) at.plain at.words) ∙ ap (λ (l : List (Placed Elementary)). word_run n cap l at.plain at.words) (sym rest) ∙ at.leads;
            totals = ap (need_run n cap (rest_of narrow gs next) q) en ∙ sym (need_append n cap these_i (rest_of narrow gs next) at.plain (needs_of c u))
                ∙ ap (λ (l : List (Placed Elementary)). need_run n cap l at.plain (needs_of c u)) (sym rest) ∙ at.totals;
          }
        where
          place-past : (b : Bool) → place₃ ≤ next
          place-past b = rw el (go f)
            where
              go : (b : Bool) → cond b p place ≤ next
              go true = omega (arith, next_up narrow gs p, enx)
              go false = omega (arith, at.past, next_up narrow gs p, enx)

          begun-here : (b : Bool) → InParts narrow gs (cond b p place)
          begun-here true = at.inside
          begun-here false = at.begun

          one-record-on : narrow ≡ false → next / 16 ≡ p / 16 + 1
          one-record-on off = let w : next_part narrow gs p ≡ 16 * (p / 16) + 16 = rw off (next_wide gs p) in omega (arith, enx, w)

          since-here : (b : Bool) → Since n (part_words n) ps₃ gs (cond b (p / 16) (place / 16)) (p / 16 + 1 - cond b (p / 16) (place / 16)) → narrow ≡ false
              → Since n (part_words n) ps₃ gs (cond b p place / 16) (next / 16 - cond b p place / 16)
          since-here true s off = rw (one-record-on off) s
          since-here false s off = rw (one-record-on off) s

          needs-here : (c₃ : ℕ) (ns₃ : List ℕ) (u₃ : ℕ) (os₃ : List ℕ) → writing c₃ ns₃ u₃ os₃ ≡ put_record n given (p / 16) kind_i a_i b_i d_i fs₂ (writing c₂ ns₂ u₁ os₁) → needs_of c₃ u₃ ≡ need_run n cap these_i at.plain (needs_of c u)
          needs-here c₃ ns₃ u₃ os₃ e =
              let k = counted₁ in
              let np = node_parts kind_i a_i b_i in
              let r = record_counts n given (p / 16) kind_i a_i b_i d_i fs₂ c₂ ns₂ u₁ os₁ c₃ ns₃ u₃ os₃ e in
              let x = c + cond flush_i (flushed_nodes pending_i) 0 + (cost_of kind_i).nodes in
              let y = u + cond flush_i (flushed_ops pending_i) 0 + (cost_of kind_i).operations in
              let first : needs_of c₃ u₃ ≡ needs_of x y = needs_eq (omega (arith, r.0, d₂.counted, k.0, np)) (omega (arith, r.1, k.1)) in
              let second : needs_of x y ≡ need_run n cap these_i at.plain (needs_of c u) = rw (← at.pending.same, ← bare-unplaced at.plain.pending) (sym one_i.needs) in
              first ∙ second

pub write_end : (n : ℕ) (cap : Cap) (narrow : Bool) (gs ns₀ fs₀ os₀ ps₀ : List ℕ) (c : ℕ) (ns fs : List ℕ) (u : ℕ) (os ps : List ℕ) (given place p : ℕ)
    → WriteAt n cap narrow gs ns₀ fs₀ os₀ ps₀ c ns fs u os ps given place p → 16 * (length gs / 4) ≤ p
    → Stands n ns₀ fs₀ os₀ c ns fs u os (words_last n cap gs) × (given ≡ (plain_last n cap gs).given) × (ps ≡ planes_for cap n (plain_last n cap gs).table ps₀)
unfolding plain_run word_run
write_end n cap narrow gs ns₀ fs₀ os₀ ps₀ c ns fs u os ps given place p at h =
    let e = rest_end narrow gs p h in
    let q : at.plain ≡ plain_last n cap gs = rw e at at.ends in
    let w : at.words ≡ words_last n cap gs = rw e at at.leads in
    (rw (← w) at.stands, at.gave ∙ ap (λ (x : Plain). x.given) q, at.planes ∙ ap (λ (x : Plain). planes_for cap n x.table ps₀) q)
