-- A later call leaves the used operations, or one more after them: the one that it pushes.
use mathlib.Core.Path.{◌≡◌, refl, ap, sym, ◌∙◌, subst}
use mathlib.Core.List.{List, [], ◌∷◌, ◌++◌, append-nil, append_assoc}
use Prim.Native.Nat.{ℕ, ◌+◌, ◌*◌, ◌/◌, ◌≤◌}
use native.Mathlib.Omega.{arith}
use lib.ListN.{length, take}
use lib.Seq.{sets-eq, take_at, length-take-le}
use Rattle.pauli.specs.Angle.{angle_of, eighths_of}
use Rattle.pauli.specs.Gates.{Gate}
use Rattle.arena.specs.Limits.{node_words, operation_words, hand_mark}
use Rattle.arena.specs.Nodes.{single_word, product_word}
use Rattle.arena.specs.Operations.{rotate_words, measure_words, conditional_words}
use Rattle.arena.specs.Builder.{overlay, with_nodes, node_put, with_operation, operation_put, single_check, single_step, product_check, product_step, rotate_check, rotate_step, measure_check, measure_step, conditional_check, conditional_step}
use Rattle.arena.proofs.Accepted.{passed_before, test_passed, fits_single, fits_product, FitsOperation, fits_rotate, fits_measure, fits_conditional}
use Rattle.convert.specs.Records.{kind_of, from, map_from}
use Rattle.convert.specs.Plain.{Operation, rotate_by, conditional_by}
use Rattle.convert.specs.Frame.{frame_gates, frame_run, clifford_check, opened, clifford_step}
use Rattle.convert.specs.Words.{decoded, meaning}
use Rattle.convert.specs.Later.{Circuit, circuit_of, LaterCall, call_frame, call_single, call_product, call_rotate, call_measure, call_conditional, call_expand, call_hermitian, call_weights}
use Rattle.convert.specs.Later.{lend_operations, later, Carried}
use Rattle.convert.proofs.Accepted.{fits_gate}
use Rattle.convert.proofs.Calls.Table.{framed, later-framed}
use Rattle.convert.proofs.Meaning.Words.{OpUnder}
use Rattle.operators.specs.Types.{Pauli, I, X, Y, Z, PauliAngle, PauliRef, PauliAxis, MeasId, Target, PbcOp, PbcError, Checked, Fine, Wrong}
use Rattle.operators.specs.Whole.{sourced_of}
use Rattle.operators.specs.After.{image_of, pushed_by, by_hand}
use Rattle.operators.proofs.Reading.{Kept, Names, names_kept, reads_kept, under_pushed, reads_pushed}
use Rattle.operators.proofs.Decoding.{decode_rotate, decode_measure, decode_conditional, Extends, extends_run}

-- ---- calls that push no operation

kept_self : (s : Circuit) → Kept s s
kept_self s = record { qubits = refl; owner = refl; cbits = refl; operations = refl; more = omega arith; older = refl; words = refl }

kept-framed : (s : Circuit) (gs : List Gate) → 2 * s.header.nodes ≤ length s.nodes → Kept s (framed gs s)
kept-framed s gs used = record {
  qubits = refl;
  owner = refl;
  cbits = refl;
  operations = refl;
  more = E.more;
  older = sym (ap (λ l. take (2 * s.header.nodes) (overlay l s.nodes)) E.nodes
      ∙ ap (take (2 * s.header.nodes)) (append_assoc (take (2 * s.header.nodes) s.nodes) E.words _)
      ∙ take_at (take (2 * s.header.nodes) s.nodes) _ (2 * s.header.nodes) (length-take-le (2 * s.header.nodes) s.nodes used));
  words = refl;
}
  where
    E : Extends (opened s.header s.nodes s.frame) (frame_run s.header.qubits gs (opened s.header s.nodes s.frame))
    E = extends_run s.header.qubits gs (opened s.header s.nodes s.frame)

module _ (s : Circuit) where
  kept_node : (a b : ℕ) → s.header.nodes + 1 ≤ length s.nodes / node_words
      → Kept s (circuit_of (with_nodes (s.header.nodes + 1) s.header) (node_put s.header s.nodes a b) s.operations s.frame)
  kept_node a b room = record {
    qubits = refl;
    owner = refl;
    cbits = refl;
    operations = refl;
    more = omega arith;
    older = sym (ap (take (2 * s.header.nodes)) (sets-eq (a ∷ b ∷ []) s.nodes (2 * s.header.nodes) (omega arith) ∙ append_assoc (take (2 * s.header.nodes) s.nodes) (a ∷ b ∷ []) _)
        ∙ take_at (take (2 * s.header.nodes) s.nodes) _ (2 * s.header.nodes) (length-take-le (2 * s.header.nodes) s.nodes (omega arith)));
    words = refl;
  }

  frame_kept : (k a b : ℕ) (x : PbcError) → clifford_check s.header (length s.nodes) s.frame k a b ≡ Wrong x → later (call_frame k a b) s ≡ s
  unfolding later clifford_step
  frame_kept k a b x e = rw e

  kept_frame : (k a b : ℕ) → Kept s (later (call_frame k a b) s)
  kept_frame k a b = go (clifford_check s.header (length s.nodes) s.frame k a b) refl
    where
      go : (c : Checked) → clifford_check s.header (length s.nodes) s.frame k a b ≡ c → Kept s (later (call_frame k a b) s)
      go Fine e = rw (later-framed s k a b e) (kept-framed s (frame_gates (kind_of k) a b) (fits_gate s.header (length s.nodes) s.frame k a b e).used)
      go (Wrong x) e = rw (frame_kept k a b x e) (kept_self s)

  kept_single : (q : ℕ) (a : Pauli) → Kept s (later (call_single q a) s)
  unfolding later single_step
  kept_single q a = go a (single_check s.header (length s.nodes) q a) refl
    where
      go : (a : Pauli) (c : Checked) → single_check s.header (length s.nodes) q a ≡ c → Kept s (later (call_single q a) s)
      go I Fine e = rw e (kept_self s)
      go X Fine e = rw e (kept_node (single_word X) q (fits_single s.header (length s.nodes) q X e).room.lent)
      go Y Fine e = rw e (kept_node (single_word Y) q (fits_single s.header (length s.nodes) q Y e).room.lent)
      go Z Fine e = rw e (kept_node (single_word Z) q (fits_single s.header (length s.nodes) q Z e).room.lent)
      go a (Wrong x) e = rw e (kept_self s)

  kept_product : (l r : PauliRef) → Kept s (later (call_product l r) s)
  unfolding later product_step
  kept_product l r = go (product_check s.header (length s.nodes) l r) refl
    where
      go : (c : Checked) → product_check s.header (length s.nodes) l r ≡ c → Kept s (later (call_product l r) s)
      go Fine e = rw e (kept_node (product_word l.word) r.word (fits_product s.header (length s.nodes) l r e).room.lent)
      go (Wrong x) e = rw e (kept_self s)

-- ---- calls that push one

-- the circuit s' has the operations of s and then os, by hand
pub record Reads (s s' : Circuit) (os : List Operation) : Type 0 where
  pub names : Names s'
  pub reads : sourced_of s' ≡ sourced_of s ++ by_hand os

module _ (s : Circuit) (U : Names s) where
  quiet : (s' : Circuit) → Kept s s' → Reads s s' []
  quiet s' K = record { names = names_kept s s' K U; reads = reads_kept s s' K U ∙ sym (append-nil (sourced_of s)) }

  -- the circuit with the words of one more operation, and so many measurements
  abbrev more : ℕ → List ℕ → Circuit
  more m vs = circuit_of (with_operation m s.header) s.nodes (operation_put s.header s.operations vs) s.frame

  one_more : (m : ℕ) (x : PauliAxis) (vs : List ℕ) (p : PbcOp) (o : Operation) → FitsOperation s.header (length s.operations) x → length vs ≡ operation_words
      → decoded s.header.owner s.header.cbits vs ≡ from hand_mark p → OpUnder s.header.nodes p → meaning s.header.qubits s.header.nodes s.nodes p ≡ o
      → Reads s (more m vs) (o ∷ [])
  one_more m x vs p o F size d u e = record {
    names = under_pushed s.header (with_operation m s.header) s.operations vs size (omega (arith, F.room.lent)) refl refl refl refl refl U
        (subst (λ q. OpUnder s.header.nodes q.what) (sym d) u);
    reads = reads_pushed s.header (with_operation m s.header) s.operations vs size (omega (arith, F.room.lent)) refl refl refl refl refl s.nodes (from hand_mark o)
        (ap (map_from (meaning s.header.qubits s.header.nodes s.nodes)) d ∙ ap (from hand_mark) e);
  }

  rotate_call : (x : PauliAxis) (k : PauliAngle) → Reads s (later (call_rotate x k) s) (pushed_by (call_rotate x k) s)
  unfolding later pushed_by rotate_step meaning
  rotate_call x k = go (rotate_check s.header (length s.operations) x) refl
    where
      go : (c : Checked) → rotate_check s.header (length s.operations) x ≡ c → Reads s (later (call_rotate x k) s) (pushed_by (call_rotate x k) s)
      go Fine e =
          let F = fits_rotate s.header (length s.operations) x e in
          let same : eighths_of (angle_of (eighths_of k)) ≡ eighths_of k = omega arith in
          rw (e, pushed_by) (one_more s.header.measurements x (rotate_words x.0.word (eighths_of k) hand_mark) _ _ F refl
          (ap (from hand_mark) (decode_rotate s.header.owner s.header.cbits (eighths_of k) x.0.word (omega arith))) (omega (arith, F.axis_own.used)) (ap (λ j. rotate_by j (image_of s x.0.word)) same))
      go (Wrong y) e = rw (e, pushed_by) (quiet s (kept_self s))

  conditional_call : (x : PauliAxis) (k : PauliAngle) (m : MeasId) → Reads s (later (call_conditional x k m) s) (pushed_by (call_conditional x k m) s)
  unfolding later pushed_by conditional_step meaning
  conditional_call x k m = go (conditional_check s.header (length s.operations) x m) refl
    where
      go : (c : Checked) → conditional_check s.header (length s.operations) x m ≡ c → Reads s (later (call_conditional x k m) s) (pushed_by (call_conditional x k m) s)
      go Fine e =
          let F = fits_conditional s.header (length s.operations) x m e in
          let same : eighths_of (angle_of (eighths_of k)) ≡ eighths_of k = omega arith in
          rw (e, pushed_by) (one_more s.header.measurements x (conditional_words x.0.word (eighths_of k) m.1 hand_mark) _ _ F refl
          (ap (from hand_mark) (decode_conditional s.header.owner s.header.cbits (eighths_of k) x.0.word m.1 (omega arith))) (omega (arith, F.axis_own.used))
          (ap (λ j. conditional_by j (image_of s x.0.word) m.1) same))
      go (Wrong y) e = rw (e, pushed_by) (quiet s (kept_self s))

  measure_call : (x : PauliAxis) (t : Target) → Reads s (later (call_measure x t) s) (pushed_by (call_measure x t) s)
  unfolding later pushed_by measure_step meaning measure_check
  measure_call x t = go (measure_check s.header (length s.operations) x t) refl
    where
      go : (c : Checked) → measure_check s.header (length s.operations) x t ≡ c → Reads s (later (call_measure x t) s) (pushed_by (call_measure x t) s)
      go Fine e =
          let F = (fits_measure s.header (length s.operations) x t e).0 in
          rw (e, pushed_by) (one_more (s.header.measurements + 1) x (measure_words x.0.word s.header.measurements t hand_mark) _ _ F refl
          (ap (from hand_mark) (decode_measure s.header x.0.word s.header.measurements t (test_passed _ _ _ (passed_before _ _ _ e)))) (omega (arith, F.axis_own.used)) refl)
      go (Wrong y) e = rw (e, pushed_by) (quiet s (kept_self s))

  -- ---- any call; other operation words that are lent carry those in use

  kept_lent : (words : List ℕ) → Carried (lend_operations words) s → Kept s (circuit_of s.header s.nodes words s.frame)
  kept_lent words c = record { qubits = refl; owner = refl; cbits = refl; operations = refl; more = omega arith; older = refl; words = c }

  pub call_reads : (c : LaterCall) → Carried c s → Reads s (later c s) (pushed_by c s)
  unfolding later pushed_by
  call_reads (call_frame k a b) h = quiet _ (kept_frame s k a b)
  call_reads (call_single q a) h = quiet _ (kept_single s q a)
  call_reads (call_product l r) h = quiet _ (kept_product s l r)
  call_reads (call_rotate x k) h = rotate_call x k
  call_reads (call_measure x t) h = measure_call x t
  call_reads (call_conditional x k m) h = conditional_call x k m
  call_reads (call_expand letters scratch pool r cells) h = quiet s (kept_self s)
  call_reads (call_hermitian scratch pool r limit) h = quiet s (kept_self s)
  call_reads (call_weights scratch pool limit) h = quiet s (kept_self s)
  call_reads (lend_operations words) h = quiet _ (kept_lent words h)
