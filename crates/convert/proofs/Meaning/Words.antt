-- Means: at every point of the conversion the words stand for the plain state.
use mathlib.Core.Path.{◌≡◌, refl, ap, ap₂, sym, ◌∙◌}
use mathlib.Core.Bool.{Bool, true, false, cond}
use mathlib.Core.List.{List, [], ◌∷◌, ◌++◌, map, append_assoc, append-nil}
use Prim.Native.Nat.{ℕ, suc, ◌+◌, ◌*◌, ◌≤◌, ◌<◌}
use native.Mathlib.Numerals.{add-one}
use native.Mathlib.Omega.{arith}
use borrow.Author.Tests.{le-leb}
use Rattle.pauli.specs.Rows.{Row, ◌★◌, single}
use Rattle.pauli.specs.Gates.{Gate, gate_h, gate_x, gate_z, gate_s, gate_sdg, gate_cnot, gate_cz, Valid, AllValid}
use Rattle.pauli.specs.Table.{start, step, run, table, x_row, z_row}
use Rattle.pauli.specs.Rotations.{Rotation, written, flush}
use Rattle.pauli.specs.Angle.{eighths_of}
use Rattle.pauli.proofs.Table.{table-snoc}
use Rattle.arena.specs.Nodes.{image}
use Rattle.arena.specs.Operations.{measure_words, decode_op}
use Rattle.convert.specs.Types.{One, X, Z, Bit, PbcOp, Rotate, Measure, ConditionalRotate, Malformed}
use Rattle.convert.specs.Records.{Cap, Elementary, clifford, el_t, el_tdg, el_ccx, el_ccz, el_measure, Placed, placed, bare, From, from, map_from, without_index, Proper, AllProper}
use Rattle.convert.specs.Plain.{Operation, rotate_by, measure_of, conditional_by, Plain, plain_begin, rotate_seven, as_rotation, flush_from, exceeds, flushed, perform_as, perform, plain_step, plain_run}
use Rattle.convert.specs.Frame.{Arena, word, pushed}
use Rattle.convert.specs.Words.{id_x, id_z, Words, decoded, meaning, add_ops, write_joint, flush_gate, flush_gates, restarted, flush_words, write_seven, write, word_step, word_run, start_words}
use Rattle.convert.proofs.Meaning.FrameRows.{Keeps, keeps_trans, Shows, shown, word-under, keeps-pushed, shows-pushed, new-image, shows-step, keeps-step}
use Rattle.convert.proofs.Meaning.StartRows.{Leaves, leaves_kept, leaves-start, leaf_x, leaf_z, shows-start, shows_begin}

pub map-append : {A B : Type 0} (f : A → B) (l m : List A) → map f (l ++ m) ≡ map f l ++ map f m
map-append f [] m = refl
map-append f (x ∷ l) m = ap (λ r. f x ∷ r) (map-append f l m)

-- ---- with the index of a gate record, and without

pub map-from : {A B : Type 0} (f : A → B) (i : ℕ) (l : List A) → map (map_from f) (map (from i) l) ≡ map (from i) (map f l)
map-from f i [] = refl
map-from f i (x ∷ l) = ap (λ r. from i (f x) ∷ r) (map-from f i l)

pub without_from : {A : Type 0} (i : ℕ) (l : List A) → without_index (map (from i) l) ≡ l
without_from i [] = refl
without_from i (x ∷ l) = ap (λ r. x ∷ r) (without_from i l)

pub without_mapped : {A B : Type 0} (f : A → B) (l : List (From A)) → without_index (map (map_from f) l) ≡ map f (without_index l)
without_mapped f [] = refl
without_mapped f (x ∷ l) = ap (λ r. f x.what ∷ r) (without_mapped f l)

pub without_append : {A : Type 0} (l m : List (From A)) → without_index (l ++ m) ≡ without_index l ++ without_index m
without_append l m = map-append (λ x. x.what) l m

-- what one gate record adds
pub without_more : {A : Type 0} (l : List (From A)) (i : ℕ) (m : List A) → without_index (l ++ map (from i) m) ≡ without_index l ++ m
without_more l i m = without_append l (map (from i) m) ∙ ap (λ r. without_index l ++ r) (without_from i m)

-- a flush
pub flush-without : (n : ℕ) (gs : List (Placed Gate)) → without_index (flush_from n gs) ≡ flush n (bare gs)
unfolding flush_from flush
flush-without n [] = refl
flush-without n (g ∷ gs) = without_append (map (from g.index) (written n g.gate)) (flush_from n gs) ∙ ap₂ ◌++◌ (without_from g.index (written n g.gate)) (flush-without n gs)

-- what a flush adds
pub without-flushed : (l : List (From Operation)) (rs : List (From Rotation)) → without_index (l ++ map (map_from as_rotation) rs) ≡ without_index l ++ map as_rotation (without_index rs)
without-flushed l rs = without_append l (map (map_from as_rotation) rs) ∙ ap (λ r. without_index l ++ r) (without_mapped as_rotation rs)

-- ---- operations

-- the axis names a node below k
abbrev pub OpUnder : ℕ → PbcOp → Type 0
OpUnder k (Rotate x a) = x.0.word < 4 * k
OpUnder k (Measure x m t) = x.0.word < 4 * k
OpUnder k (ConditionalRotate x a m) = x.0.word < 4 * k
OpUnder k Malformed = Unit {0}

abbrev pub OpsUnder : ℕ → List (From PbcOp) → Type 0
OpsUnder k [] = Unit {0}
OpsUnder k (o ∷ os) = OpUnder k o.what × OpsUnder k os

-- ops stand for the operations os, of the same gate records
pub record Written (n : ℕ) (s : Arena) (ops : List (From PbcOp)) (os : List (From Operation)) : Type 0 where
  pub below : OpsUnder s.count ops
  pub reads : map (map_from (meaning n s.count s.nodes)) ops ≡ os

op_more : (k m : ℕ) (o : PbcOp) → k ≤ m → OpUnder k o → OpUnder m o
op_more k m (Rotate x a) le u = omega arith
op_more k m (Measure x i t) le u = omega arith
op_more k m (ConditionalRotate x a i) le u = omega arith
op_more k m Malformed le u = tt

pub ops_more : (k m : ℕ) (ops : List (From PbcOp)) → k ≤ m → OpsUnder k ops → OpsUnder m ops
ops_more k m [] le u = tt
ops_more k m (o ∷ ops) le u = (op_more k m o.what le u.0, ops_more k m ops le u.1)

ops_append : (k : ℕ) (ops new : List (From PbcOp)) → OpsUnder k ops → OpsUnder k new → OpsUnder k (ops ++ new)
ops_append k [] new u v = v
ops_append k (o ∷ ops) new u v = (u.0, ops_append k ops new u.1 v)

read_kept : (n : ℕ) (s s' : Arena) → Keeps n s s' → (o : PbcOp) → OpUnder s.count o → meaning n s'.count s'.nodes o ≡ meaning n s.count s.nodes o
unfolding meaning
read_kept n s s' K (Rotate x a) lt = ap (rotate_by (eighths_of a)) (K.same x.0.word lt)
read_kept n s s' K (Measure x m t) lt = ap (λ P. measure_of P m.1 t) (K.same x.0.word lt)
read_kept n s s' K (ConditionalRotate x a m) lt = ap (λ P. conditional_by (eighths_of a) P m.1) (K.same x.0.word lt)
read_kept n s s' K Malformed lt = refl

pub reads_kept : (n : ℕ) (s s' : Arena) → Keeps n s s' → (ops : List (From PbcOp)) → OpsUnder s.count ops
    → map (map_from (meaning n s'.count s'.nodes)) ops ≡ map (map_from (meaning n s.count s.nodes)) ops
reads_kept n s s' K [] u = refl
reads_kept n s s' K (o ∷ ops) u = ap₂ ◌∷◌ (ap (from o.index) (read_kept n s s' K o.what u.0)) (reads_kept n s s' K ops u.1)

written-kept : {n : ℕ} {s s' : Arena} {ops : List (From PbcOp)} {os : List (From Operation)} → Keeps n s s' → Written n s ops os → Written n s' ops os
written-kept {n} {s} {s'} {ops} K W = record { below = ops_more s.count s'.count ops K.more W.below; reads = reads_kept n s s' K ops W.below ∙ W.reads }

written-more : {n : ℕ} {s : Arena} (f : List ℕ → From PbcOp) (ops new : List (List ℕ)) {os os' : List (From Operation)} → Written n s (map f ops) os → Written n s (map f new) os'
    → Written n s (map f (ops ++ new)) (os ++ os')
written-more {n} {s} f ops new {os} {os'} W W' = rw (map-append f ops new) (record {
  below = ops_append s.count (map f ops) (map f new) W.below W'.below;
  reads = map-append (map_from (meaning n s.count s.nodes)) (map f ops) (map f new) ∙ ap₂ ◌++◌ W.reads W'.reads;
})

-- ---- words beside a table and plain operations

pub record Core (n o c : ℕ) (w : Words) (t : List Row) (os : List (From Operation)) : Type 0 where
  pub shows : Shows n w.arena t
  pub leaves : Leaves n w.arena
  pub written : Written n w.arena (map (decoded o c) w.ops) os

core_add : (n o c : ℕ) (w : Words) {t : List Row} {os new' : List (From Operation)} (new : List (List ℕ)) → Core n o c w t os → Written n w.arena (map (decoded o c) new) new'
    → Core n o c (add_ops new w) t (os ++ new')
core_add n o c w new C W' = record { shows = C.shows; leaves = C.leaves; written = written-more (decoded o c) w.ops new C.written W' }

-- ---- a flush

module _ (n o c : ℕ) (w : Words) (t : List Row) (os : List (From Operation)) (C : Core n o c w t os) where
  leaf_at_x : (q : ℕ) → q < n → image n w.arena.count w.arena.nodes (id_x q) ≡ single n q X
  leaf_at_x = leaf_x n w.arena C.leaves

  leaf_at_z : (q : ℕ) → q < n → image n w.arena.count w.arena.nodes (id_z q) ≡ single n q Z
  leaf_at_z = leaf_z n w.arena C.leaves

  -- a product of two identity images, and three rotations
  joint : (g l r : ℕ) (P Q : Row) → l < 4 * w.arena.count → r < 4 * w.arena.count
      → image n w.arena.count w.arena.nodes l ≡ P → image n w.arena.count w.arena.nodes r ≡ Q
      → Core n o c (write_joint g l r w) t (os ++ map (from g) (rotate_by 2 P ∷ rotate_by 2 Q ∷ rotate_by 6 (P ★ Q) ∷ []))
  unfolding meaning decode_op pushed
  joint g l r P Q hl hr el er = record {
    shows = shows-pushed n s t C.shows l r;
    leaves = leaves_kept K C.leaves;
    written = written-more (decoded o c) w.ops _ (written-kept K C.written) (record {
      below = (omega arith, (omega arith, (omega arith, tt)));
      reads = λ i. from g (rotate_by 2 (left i)) ∷ from g (rotate_by 2 (right i)) ∷ from g (rotate_by 6 (both i)) ∷ [];
    });
  }
    where
      s : Arena
      s = w.arena

      K : Keeps n s (pushed l r s)
      K = keeps-pushed n s t C.shows l r

      left : image n (pushed l r s).count (pushed l r s).nodes l ≡ P
      left = K.same l hl ∙ el

      right : image n (pushed l r s).count (pushed l r s).nodes r ≡ Q
      right = K.same r hr ∙ er

      both : image n (pushed l r s).count (pushed l r s).nodes (4 * s.count) ≡ P ★ Q
      both = ap (image n (pushed l r s).count (pushed l r s).nodes) (omega arith) ∙ new-image n s t C.shows l r One hl hr ∙ ap₂ ◌★◌ el er

  flush-gate : (r : ℕ) (g : Gate) → Valid n g → Core n o c (flush_gate r g w) t (os ++ map (from r) (map as_rotation (written n g)))
  unfolding flush_gate meaning decode_op
  flush-gate r (gate_h q) v = core_add n o c w _ C (record {
    below = (omega (arith, C.leaves.size), (omega (arith, C.leaves.size), (omega (arith, C.leaves.size), tt)));
    reads = λ i. from r (rotate_by 2 (leaf_at_z q v i)) ∷ from r (rotate_by 2 (leaf_at_x q v i)) ∷ from r (rotate_by 2 (leaf_at_z q v i)) ∷ [];
  })
  flush-gate r (gate_x q) v = core_add n o c w _ C (record { below = (omega (arith, C.leaves.size), tt); reads = λ i. from r (rotate_by 4 (leaf_at_x q v i)) ∷ [] })
  flush-gate r (gate_z q) v = core_add n o c w _ C (record { below = (omega (arith, C.leaves.size), tt); reads = λ i. from r (rotate_by 4 (leaf_at_z q v i)) ∷ [] })
  flush-gate r (gate_s q) v = core_add n o c w _ C (record { below = (omega (arith, C.leaves.size), tt); reads = λ i. from r (rotate_by 2 (leaf_at_z q v i)) ∷ [] })
  flush-gate r (gate_sdg q) v = core_add n o c w _ C (record { below = (omega (arith, C.leaves.size), tt); reads = λ i. from r (rotate_by 6 (leaf_at_z q v i)) ∷ [] })
  flush-gate r (gate_cnot d u) v = joint r (id_z d) (id_x u) (single n d Z) (single n u X)
      (omega (arith, C.leaves.size, v.0)) (omega (arith, C.leaves.size, v.1)) (leaf_at_z d v.0) (leaf_at_x u v.1)
  flush-gate r (gate_cz d u) v = joint r (id_z d) (id_z u) (single n d Z) (single n u Z)
      (omega (arith, C.leaves.size, v.0)) (omega (arith, C.leaves.size, v.1)) (leaf_at_z d v.0) (leaf_at_z u v.1)

flush-gates : (n o c : ℕ) (gs : List (Placed Gate)) (w : Words) (t : List Row) (os : List (From Operation)) → Core n o c w t os → AllValid n (bare gs)
    → Core n o c (flush_gates gs w) t (os ++ map (map_from as_rotation) (flush_from n gs))
unfolding flush_gates flush_from
flush-gates n o c [] w t os C v = rw append-nil C
flush-gates n o c (g ∷ gs) w t os C v =
    rw (
      map-append (map_from as_rotation) (map (from g.index) (written n g.gate)) (flush_from n gs),
      map-from as_rotation g.index (written n g.gate),
      ← (append_assoc os (map (from g.index) (map as_rotation (written n g.gate))) (map (map_from as_rotation) (flush_from n gs))),
    )
    (flush-gates n o c gs (flush_gate g.index g.gate w) t _ (flush-gate n o c w t os C g.index g.gate v.0) v.1)

core-restarted : (n o c : ℕ) (w : Words) (t : List Row) (os : List (From Operation)) → Core n o c w t os → Core n o c (restarted n w) (start n) os
core-restarted n o c w t os C = record {
  shows = shows-start n w.arena C.leaves C.shows.even;
  leaves = record { size = C.leaves.size; kept = C.leaves.kept };
  written = record { below = C.written.below; reads = C.written.reads };
}

-- ---- ccx and ccz

module _ (n o c : ℕ) (w : Words) (t : List Row) (os : List (From Operation)) (C : Core n o c w t os) (r a b d : ℕ) (P Q R : Row)
    (ha : a < 4 * w.arena.count) (hb : b < 4 * w.arena.count) (hd : d < 4 * w.arena.count)
    (ea : image n w.arena.count w.arena.nodes a ≡ P) (eb : image n w.arena.count w.arena.nodes b ≡ Q)
    (ed : image n w.arena.count w.arena.nodes d ≡ R) where
  core_seven : Core n o c (write_seven r a b d w) t (os ++ map (from r) (rotate_seven P Q R))
  unfolding write_seven meaning decode_op pushed
  core_seven = record {
    shows = shows-pushed n s₃ t S₃ (4 * k) d;
    leaves = leaves_kept K C.leaves;
    written = written-more (decoded o c) w.ops _ (written-kept K C.written) (record {
      below = (omega arith, (omega arith, (omega arith, (omega arith, (omega arith, (omega arith, (omega arith, tt)))))));
      reads = λ i. from r (rotate_by 1 (kept a ha ea i)) ∷ from r (rotate_by 1 (kept b hb eb i)) ∷ from r (rotate_by 1 (kept d hd ed i))
          ∷ from r (rotate_by 7 (ab i)) ∷ from r (rotate_by 7 (ad i)) ∷ from r (rotate_by 7 (bd i)) ∷ from r (rotate_by 1 (abd i)) ∷ [];
    });
  }
    where
      k : ℕ
      k = w.arena.count

      s₀ : Arena
      s₀ = w.arena

      s₁ : Arena
      s₁ = pushed a b s₀

      s₂ : Arena
      s₂ = pushed a d s₁

      s₃ : Arena
      s₃ = pushed b d s₂

      s₄ : Arena
      s₄ = pushed (4 * k) d s₃

      S₁ : Shows n s₁ t
      S₁ = shows-pushed n s₀ t C.shows a b

      S₂ : Shows n s₂ t
      S₂ = shows-pushed n s₁ t S₁ a d

      S₃ : Shows n s₃ t
      S₃ = shows-pushed n s₂ t S₂ b d

      K₁ : Keeps n s₀ s₁
      K₁ = keeps-pushed n s₀ t C.shows a b

      K₂ : Keeps n s₁ s₂
      K₂ = keeps-pushed n s₁ t S₁ a d

      K₃ : Keeps n s₂ s₃
      K₃ = keeps-pushed n s₂ t S₂ b d

      K₄ : Keeps n s₃ s₄
      K₄ = keeps-pushed n s₃ t S₃ (4 * k) d

      K₀₂ : Keeps n s₀ s₂
      K₀₂ = keeps_trans K₁ K₂

      K₀₃ : Keeps n s₀ s₃
      K₀₃ = keeps_trans K₀₂ K₃

      K : Keeps n s₀ s₄
      K = keeps_trans K₀₃ K₄

      at : Arena → ℕ → Row
      at s x = image n s.count s.nodes x

      kept : (x : ℕ) {A : Row} → x < 4 * k → at s₀ x ≡ A → at s₄ x ≡ A
      kept x lt e = K.same x lt ∙ e

      -- the product that is pushed next
      new : (s : Arena) → Shows n s t → (x y m : ℕ) → m ≡ s.count → x < 4 * s.count → y < 4 * s.count → at (pushed x y s) (4 * m) ≡ at s x ★ at s y
      new s S x y m e hx hy = ap (at (pushed x y s)) (omega arith) ∙ new-image n s t S x y One hx hy

      ab₁ : at s₁ (4 * k) ≡ P ★ Q
      ab₁ = new s₀ C.shows a b k refl ha hb ∙ ap₂ ◌★◌ ea eb

      ab₃ : at s₃ (4 * k) ≡ P ★ Q
      ab₃ = (keeps_trans K₂ K₃).same (4 * k) (omega arith) ∙ ab₁

      ab : at s₄ (4 * k) ≡ P ★ Q
      ab = K₄.same (4 * k) (omega arith) ∙ ab₃

      ad : at s₄ (4 * suc k) ≡ P ★ R
      ad = (keeps_trans K₃ K₄).same (4 * suc k) (omega arith) ∙ new s₁ S₁ a d (suc k) refl (omega arith) (omega arith) ∙ ap₂ ◌★◌ (K₁.same a ha ∙ ea) (K₁.same d hd ∙ ed)

      bd : at s₄ (4 * suc (suc k)) ≡ Q ★ R
      bd = K₄.same (4 * suc (suc k)) (omega arith) ∙ new s₂ S₂ b d (suc (suc k)) refl (omega arith) (omega arith)
          ∙ ap₂ ◌★◌ (K₀₂.same b hb ∙ eb) (K₀₂.same d hd ∙ ed)

      abd : at s₄ (4 * suc (suc (suc k))) ≡ P ★ Q ★ R
      abd = new s₃ S₃ (4 * k) d (suc (suc (suc k))) refl (omega arith) (omega arith) ∙ ap₂ ◌★◌ ab₃ (K₀₃.same d hd ∙ ed)

-- ---- the run of the conversion

-- the words stand for the plain state, whose table is that of the gates since the last flush
pub record Meant (n o c : ℕ) (p : Plain) (w : Words) : Type 0 where
  pub core : Core n o c w p.table p.operations
  pub valid : AllValid n (bare p.pending)
  pub table_of : p.table ≡ table n (bare p.pending)

pub valid_append : (n : ℕ) (gs hs : List Gate) → AllValid n gs → AllValid n hs → AllValid n (gs ++ hs)
valid_append n [] hs vs v = v
valid_append n (g ∷ gs) hs vs v = (vs.0, valid_append n gs hs vs.1 v)

pub bare-snoc : {A : Type 0} (gs : List (Placed A)) (i j : ℕ) (g : A) → bare (gs ++ placed i j g ∷ []) ≡ bare gs ++ g ∷ []
bare-snoc gs i j g = map-append _ gs (placed i j g ∷ [])

pub meant_begin : (n o c : ℕ) → Meant n o c (plain_begin n) (start_words n)
unfolding plain_begin start_words table run
meant_begin n o c = record {
  core = record { shows = shows_begin n; leaves = leaves-start n; written = record { below = tt; reads = refl } };
  valid = tt;
  table_of = refl;
}

pub meant-flushed : (n o c : ℕ) (p : Plain) (w : Words) → Meant n o c p w → Meant n o c (flushed flush_from n p) (flush_words n p.pending w)
unfolding flushed flush_words table run
meant-flushed n o c p w M = record {
  core = core-restarted n o c (flush_gates p.pending w) p.table _ (flush-gates n o c p.pending w p.table p.operations M.core M.valid);
  valid = tt;
  table_of = refl;
}

module _ (n o c : ℕ) (i j : ℕ) (p : Plain) (w : Words) (M : Meant n o c p w) where
  under : (k : ℕ) → word w.arena k < 4 * w.arena.count
  under = word-under n w.arena p.table M.core.shows

  at_x : (q : ℕ) → q < n → image n w.arena.count w.arena.nodes (word w.arena q) ≡ x_row n p.table q
  at_x q h = shown n w.arena p.table M.core.shows q (omega arith)

  at_z : (q : ℕ) → q < n → image n w.arena.count w.arena.nodes (word w.arena (n + q)) ≡ z_row n p.table q
  at_z q h = shown n w.arena p.table M.core.shows (n + q) (omega arith)

  measured : (q k : ℕ) → q < n → k < c → Written n w.arena (map (decoded o c) (measure_words (word w.arena (n + q)) p.given (Bit k) i ∷ []))
      (from i (measure_of (z_row n p.table q) p.given (Bit k)) ∷ [])
  unfolding meaning decode_op
  measured q k hq lt =
      let e : k + 1 ≡ suc k = add-one k in
      let b = le-leb (suc k) c lt in
      rw (e, b) (record { below = (under (n + q), tt); reads = λ t. from i (measure_of (at_z q hq t) p.given (Bit k)) ∷ [] })

  meant-write : (e : Elementary) → Proper n c e → Meant n o c (perform_as n i j e p) (write n p.given i e w)
  unfolding perform_as write meaning decode_op
  meant-write (clifford g) v = record {
    core = record {
      shows = shows-step n w.arena p.table M.core.shows g v;
      leaves = leaves_kept (keeps-step n w.arena p.table M.core.shows g v) M.core.leaves;
      written = written-kept (keeps-step n w.arena p.table M.core.shows g v) M.core.written;
    };
    valid = rw (bare-snoc p.pending i j g) (valid_append n (bare p.pending) (g ∷ []) M.valid (v, tt));
    table_of = ap (step n g) M.table_of ∙ sym (table-snoc n (bare p.pending) g) ∙ ap (table n) (sym (bare-snoc p.pending i j g));
  }
  meant-write (el_t q) v = record {
    core = core_add n o c w _ M.core (record { below = (under (n + q), tt); reads = λ t. from i (rotate_by 1 (at_z q v t)) ∷ [] });
    valid = M.valid;
    table_of = M.table_of;
  }
  meant-write (el_tdg q) v = record {
    core = core_add n o c w _ M.core (record { below = (under (n + q), tt); reads = λ t. from i (rotate_by 7 (at_z q v t)) ∷ [] });
    valid = M.valid;
    table_of = M.table_of;
  }
  meant-write (el_ccx a b d) v = record {
    core = core_seven n o c w p.table p.operations M.core i _ _ _ _ _ _ (under (n + a)) (under (n + b)) (under d) (at_z a v.0) (at_z b v.1) (at_x d v.2);
    valid = M.valid;
    table_of = M.table_of;
  }
  meant-write (el_ccz a b d) v = record {
    core = core_seven n o c w p.table p.operations M.core i _ _ _ _ _ _ (under (n + a)) (under (n + b)) (under (n + d)) (at_z a v.0) (at_z b v.1) (at_z d v.2);
    valid = M.valid;
    table_of = M.table_of;
  }
  meant-write (el_measure q k) v = record {
    core = core_add n o c w _ M.core (measured q k v.0 v.1);
    valid = M.valid;
    table_of = M.table_of;
  }

pub meant-step : (n o c : ℕ) (cap : Cap) (e : Placed Elementary) (p : Plain) (w : Words) → Proper n c e.gate → Meant n o c p w
    → Meant n o c (plain_step flush_from n cap e p) (word_step n cap e p w)
unfolding plain_step word_step flushed
meant-step n o c cap e p w v M = go (exceeds n cap p.table e.gate)
  where
    go : (b : Bool) → Meant n o c (perform n e (cond b (flushed flush_from n p) p)) (write n p.given e.index e.gate (cond b (flush_words n p.pending w) w))
    go true = meant-write n o c e.index e.part (flushed flush_from n p) (flush_words n p.pending w) (meant-flushed n o c p w M) e.gate v
    go false = meant-write n o c e.index e.part p w M e.gate v

meant-run : (n o c : ℕ) (cap : Cap) (es : List (Placed Elementary)) (p : Plain) (w : Words) → AllProper n c (bare es) → Meant n o c p w
    → Meant n o c (plain_run flush_from n cap es p) (word_run n cap es p w)
unfolding plain_run word_run
meant-run n o c cap [] p w v M = M
meant-run n o c cap (e ∷ es) p w v M = meant-run n o c cap es (plain_step flush_from n cap e p) (word_step n cap e p w) v.1 (meant-step n o c cap e p w v.0 M)

pub meant : (n o c : ℕ) (cap : Cap) (es : List (Placed Elementary)) → AllProper n c (bare es)
    → Meant n o c (plain_run flush_from n cap es (plain_begin n)) (word_run n cap es (plain_begin n) (start_words n))
meant n o c cap es v = meant-run n o c cap es (plain_begin n) (start_words n) v (meant_begin n o c)
