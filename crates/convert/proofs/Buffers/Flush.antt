-- A flush in the buffers, gate by gate.
use mathlib.Core.Path.{◌≡◌, refl, sym, ap, ◌∙◌}
use mathlib.Core.Bool.{Bool, true, false}
use mathlib.Core.List.{List, [], ◌∷◌, ◌++◌}
use Prim.Native.Nat.{ℕ, zero, suc, ◌+◌, ◌*◌, ◌/◌, ◌<◌, ◌≤◌}
use native.Mathlib.Omega.{arith}
use lib.ListN.{length}
use Rattle.pauli.specs.Gates.{Gate, gate_h, gate_x, gate_z, gate_s, gate_sdg, gate_cnot, gate_cz, Valid, AllValid}
use Rattle.arena.specs.Limits.{max_qubits}
use Rattle.convert.specs.Records.{kind_of, From, from, without_index}
use Rattle.convert.specs.Frame.{total}
use Rattle.convert.specs.Code.Needs.{written_nodes, written_ops}
use Rattle.convert.specs.Code.Raw.{Writing, writing, put_joint, put_flush, put_flushes, FlushReady, Flushed, FlushOver, FlushedIf, PartIn, InParts, part_at, next_part, stepped, record_from, gates_over}
use Rattle.convert.proofs.Counts.Parts.{stepped_up, stepped-one, next_in}
use Rattle.arena.specs.Builder.{overlay, start_frame}

-- what a gate adds
put_count : (i : ℕ) (g : Gate) (s : Writing) → ((put_flush i g s).count ≡ s.count + written_nodes g) × ((put_flush i g s).used ≡ s.used + written_ops g)
unfolding put_flush put_joint
put_count i (gate_h q) s = (omega arith, omega arith)
put_count i (gate_x q) s = (omega arith, omega arith)
put_count i (gate_z q) s = (omega arith, omega arith)
put_count i (gate_s q) s = (omega arith, omega arith)
put_count i (gate_sdg q) s = (omega arith, omega arith)
put_count i (gate_cnot c t) s = (omega arith, omega arith)
put_count i (gate_cz c t) s = (omega arith, omega arith)

pub gate_flushed : (i : ℕ) (g : Gate) {c : ℕ} {ns : List ℕ} {u : ℕ} {os : List ℕ} {c' : ℕ} {ns' : List ℕ} {u' : ℕ} {os' : List ℕ}
    → writing c' ns' u' os' ≡ put_flush i g (writing c ns u os) → Flushed (from i g ∷ []) c ns u os c' ns' u' os'
unfolding put_flushes
gate_flushed i g {c} {ns} {u} {os} e =
    let k = put_count i g (writing c ns u os) in
    record {
      same = e;
      counted = let h = ap (λ (s : Writing). s.count) e ∙ k.0 in omega (arith, h);
      turned = let h = ap (λ (s : Writing). s.used) e ∙ k.1 in omega (arith, h);
    }

-- ---- several gates

valid_more : (n m : ℕ) → n ≤ m → (g : Gate) → Valid n g → Valid m g
valid_more n m h (gate_h q) v = omega (arith, h, v)
valid_more n m h (gate_x q) v = omega (arith, h, v)
valid_more n m h (gate_z q) v = omega (arith, h, v)
valid_more n m h (gate_s q) v = omega (arith, h, v)
valid_more n m h (gate_sdg q) v = omega (arith, h, v)
valid_more n m h (gate_cnot c t) v = (omega (arith, h, v.0), omega (arith, h, v.1), v.2)
valid_more n m h (gate_cz c t) v = (omega (arith, h, v.0), omega (arith, h, v.1), v.2)

all_valid_more : (n m : ℕ) → n ≤ m → (gs : List Gate) → AllValid n gs → AllValid m gs
all_valid_more n m h [] v = tt
all_valid_more n m h (g ∷ gs) v = (valid_more n m h g v.0, all_valid_more n m h gs v.1)

-- the gates of fewer qubits are gates of the most that there can be
pub flush_wider : {n : ℕ} {gs : List (From Gate)} {c : ℕ} {ns : List ℕ} {u : ℕ} {os : List ℕ} → FlushReady n gs c ns u os → FlushReady max_qubits gs c ns u os
flush_wider {n} {gs} r = record {
  valid = all_valid_more n max_qubits r.qubits (without_index gs) r.valid;
  qubits = omega arith;
  few = r.few;
  room = r.room;
  fewer = r.fewer;
  place = r.place;
}

pub over_wider : {n : ℕ} {narrow : Bool} {gs : List ℕ} {first to c : ℕ} {ns : List ℕ} {u : ℕ} {os : List ℕ} → FlushOver n narrow gs first to c ns u os → FlushOver max_qubits narrow gs first to c ns u os
over_wider o = record { count = o.count; ends = o.ends; ready = flush_wider o.ready }

none_flushed : {c : ℕ} {ns : List ℕ} {u : ℕ} {os : List ℕ} → Flushed [] c ns u os c ns u os
unfolding put_flushes
none_flushed = record { same = refl; counted = omega arith; turned = omega arith }

total-over : (f : Gate → ℕ) (gs hs : List (From Gate)) → total f (without_index (gs ++ hs)) ≡ total f (without_index gs) + total f (without_index hs)
total-over f [] hs = omega arith
total-over f (g ∷ gs) hs = omega (arith, total-over f gs hs)

valid_split : (n : ℕ) (gs hs : List (From Gate)) → AllValid n (without_index (gs ++ hs)) → AllValid n (without_index gs) × AllValid n (without_index hs)
valid_split n [] hs v = (tt, v)
valid_split n (g ∷ gs) hs v = let r = valid_split n gs hs v.1 in ((v.0, r.0), r.1)

flushes_append : (gs hs : List (From Gate)) (s : Writing) → put_flushes (gs ++ hs) s ≡ put_flushes hs (put_flushes gs s)
unfolding put_flushes
flushes_append [] hs s = refl
flushes_append (g ∷ gs) hs s = flushes_append gs hs (put_flush g.index g.what s)

flush_first : (n : ℕ) (gs hs : List (From Gate)) (c : ℕ) (ns : List ℕ) (u : ℕ) (os : List ℕ) → FlushReady n (gs ++ hs) c ns u os → FlushReady n gs c ns u os
flush_first n gs hs c ns u os r =
    let t = total-over written_nodes gs hs in
    let s = total-over written_ops gs hs in
    record {
      valid = (valid_split n gs hs r.valid).0;
      qubits = r.qubits;
      few = omega arith;
      room = omega arith;
      fewer = omega arith;
      place = omega arith;
    }

flush_last : (n : ℕ) (gs hs : List (From Gate)) (c : ℕ) (ns : List ℕ) (u : ℕ) (os : List ℕ) (c' : ℕ) (ns' : List ℕ) (u' : ℕ) (os' : List ℕ) → FlushReady n (gs ++ hs) c ns u os
    → Flushed gs c ns u os c' ns' u' os' → length ns' ≡ length ns → length os' ≡ length os → FlushReady n hs c' ns' u' os'
flush_last n gs hs c ns u os c' ns' u' os' r d ln lo =
    let t = total-over written_nodes gs hs in
    let s = total-over written_ops gs hs in
    record {
      valid = (valid_split n gs hs r.valid).1;
      qubits = r.qubits;
      few = omega (arith, d.counted, r.few);
      room = omega (arith, d.counted, r.room);
      fewer = omega (arith, d.turned, r.fewer);
      place = omega (arith, d.turned, r.place);
    }

flushed_append : (gs hs : List (From Gate)) (c : ℕ) (ns : List ℕ) (u : ℕ) (os : List ℕ) (c₁ : ℕ) (ns₁ : List ℕ) (u₁ : ℕ) (os₁ : List ℕ) (c₂ : ℕ) (ns₂ : List ℕ) (u₂ : ℕ) (os₂ : List ℕ)
    → Flushed gs c ns u os c₁ ns₁ u₁ os₁ → Flushed hs c₁ ns₁ u₁ os₁ c₂ ns₂ u₂ os₂ → Flushed (gs ++ hs) c ns u os c₂ ns₂ u₂ os₂
flushed_append gs hs c ns u os c₁ ns₁ u₁ os₁ c₂ ns₂ u₂ os₂ a b =
    let t = total-over written_nodes gs hs in
    let s = total-over written_ops gs hs in
    record {
      same = b.same ∙ ap (put_flushes hs) a.same ∙ sym (flushes_append gs hs (writing c ns u os));
      counted = omega (arith, a.counted, b.counted);
      turned = omega (arith, a.turned, b.turned);
    }

-- ---- the parts from one position to another

-- so far the parts up to p are written; what the others lead to is what is asked, for the number of parts that there are
pub record FlushAt (n : ℕ) (narrow : Bool) (gs : List ℕ) (first to : ℕ) (c₀ : ℕ) (ns₀ : List ℕ) (u₀ : ℕ) (os₀ : List ℕ) (c : ℕ) (ns : List ℕ) (u : ℕ) (os : List ℕ) (p : ℕ) : Type 0 where
  pub left : ℕ
  pub ends : stepped narrow gs left p ≡ to
  pub inside : InParts narrow gs p
  pub ready : FlushReady n (gates_over narrow gs p left) c ns u os
  pub leads : (c' : ℕ) (ns' : List ℕ) (u' : ℕ) (os' : List ℕ) → Flushed (gates_over narrow gs p left) c ns u os c' ns' u' os'
      → (k : ℕ) → stepped narrow gs k first ≡ to → Flushed (gates_over narrow gs first k) c₀ ns₀ u₀ os₀ c' ns' u' os'

pub flush_start : (n : ℕ) (narrow : Bool) (gs : List ℕ) (first to c : ℕ) (ns : List ℕ) (u : ℕ) (os : List ℕ) → FlushOver n narrow gs first to c ns u os → InParts narrow gs first
    → FlushAt n narrow gs first to c ns u os c ns u os first
flush_start n narrow gs first to c ns u os r i = record {
  left = r.count;
  ends = r.ends;
  inside = i;
  ready = r.ready;
  leads = λ c' ns' u' os' d k e. rw (stepped-one narrow gs k r.count first (e ∙ sym r.ends)) d;
}

module _ (n : ℕ) (narrow : Bool) (gs : List ℕ) (first to : ℕ) (c₀ : ℕ) (ns₀ : List ℕ) (u₀ : ℕ) (os₀ : List ℕ) (c : ℕ) (ns : List ℕ) (u : ℕ) (os : List ℕ) (p : ℕ)
    (at : FlushAt n narrow gs first to c₀ ns₀ u₀ os₀ c ns u os p) (h : p < to) (top : to ≤ 16 * (length gs / 4)) where
  abbrev these : List (From Gate)
  these = record_from (p / 16) (kind_of (part_at narrow gs p).kind) (part_at narrow gs p).a (part_at narrow gs p).b

  pub flush_inside : PartIn narrow gs p
  flush_inside = at.inside (omega arith)

  -- one part is written, and so many are left
  record OneMore : Type 0 where
    others : ℕ
    ends : stepped narrow gs others (next_part narrow gs p) ≡ to
    same : gates_over narrow gs p at.left ≡ these ++ gates_over narrow gs (next_part narrow gs p) others

  one_more : OneMore
  one_more = go at.left refl at.ends
    where
      go : (k : ℕ) → at.left ≡ k → stepped narrow gs k p ≡ to → OneMore
      go zero e s = absurd (omega (arith, s, h))
      go (suc k) e s = record { others = k; ends = s; same = rw e }

  pub flush_one : FlushReady n these c ns u os
  flush_one = flush_first n these (gates_over narrow gs (next_part narrow gs p) one_more.others) c ns u os (rw one_more.same at at.ready)

  pub flush_more : (c' : ℕ) (ns' : List ℕ) (u' : ℕ) (os' : List ℕ) (next : ℕ) → Flushed these c ns u os c' ns' u' os' → length ns' ≡ length ns → length os' ≡ length os → next ≡ next_part narrow gs p
      → FlushAt n narrow gs first to c₀ ns₀ u₀ os₀ c' ns' u' os' next
  flush_more c' ns' u' os' next f ln lo e = rw e (record {
    left = one_more.others;
    ends = one_more.ends;
    inside = next_in narrow gs p flush_inside;
    ready = flush_last n these (gates_over narrow gs (next_part narrow gs p) one_more.others) c ns u os c' ns' u' os' (rw one_more.same at at.ready) f ln lo;
    leads = λ c₂ ns₂ u₂ os₂ d. at.leads c₂ ns₂ u₂ os₂
        (rw one_more.same (flushed_append these (gates_over narrow gs (next_part narrow gs p) one_more.others) c ns u os c' ns' u' os' c₂ ns₂ u₂ os₂ f d));
  })

pub flush_end : (n : ℕ) (narrow : Bool) (gs : List ℕ) (first to c₀ : ℕ) (ns₀ : List ℕ) (u₀ : ℕ) (os₀ : List ℕ) (c : ℕ) (ns : List ℕ) (u : ℕ) (os : List ℕ) (p : ℕ)
    → FlushAt n narrow gs first to c₀ ns₀ u₀ os₀ c ns u os p → to ≤ p → (k : ℕ) → stepped narrow gs k first ≡ to → Flushed (gates_over narrow gs first k) c₀ ns₀ u₀ os₀ c ns u os
flush_end n narrow gs first to c₀ ns₀ u₀ os₀ c ns u os p at h =
    let e : at.left ≡ 0 = omega (arith, stepped_up narrow gs at.left p, at.ends, h) in
    at.leads c ns u os (rw e none_flushed)

pub no_both : {f : Bool} → f ≡ true → f ≡ false → ⊥
no_both p q = let z : ◌≡◌ {A = ℕ} 0 1 = cc in omega arith

-- ---- a flush, or none

pub not_flushed : {f : Bool} (n : ℕ) (gs : List (From Gate)) {c : ℕ} {ns fs : List ℕ} {u : ℕ} {os : List ℕ} → f ≡ false → FlushedIf f n gs c ns fs u os c ns fs u os
not_flushed n gs e = record { is = λ on. absurd (no_both on e); frame = λ on. absurd (no_both on e); not = λ off. (refl, refl, refl, refl, refl) }

pub is_flushed : {f : Bool} (n : ℕ) {gs : List (From Gate)} {c : ℕ} {ns fs : List ℕ} {u : ℕ} {os : List ℕ} {c' : ℕ} {ns' fs' : List ℕ} {u' : ℕ} {os' : List ℕ} → f ≡ true
    → Flushed gs c ns u os c' ns' u' os' → fs' ≡ overlay (start_frame n) fs → FlushedIf f n gs c ns fs u os c' ns' fs' u' os'
is_flushed n e d s = record { is = λ on. d; frame = λ on. s; not = λ off. absurd (no_both e off) }
