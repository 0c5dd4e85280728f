-- Later calls keep the operations of a circuit readable, where other words that the caller goes on with hold those in use.
use mathlib.Core.Path.{◌≡◌, refl, ap, sym, ◌∙◌, subst}
use mathlib.Core.Bool.{false}
use mathlib.Core.List.{List, [], ◌∷◌}
use Prim.Native.Nat.{ℕ, ◌+◌, ◌*◌, ◌≤◌, ◌<◌}
use native.Mathlib.Decide.{ℕ_discrete}
use native.Mathlib.Omega.{arith}
use lib.ListN.{length, get_or, take, length-take}
use lib.Seq.{length-sets, get_or-take}
use Rattle.arena.specs.Limits.{operation_words, hand_mark}
use Rattle.pauli.specs.Gates.{Gate}
use Rattle.pauli.specs.Angle.{angle_of, eighths_of}
use Rattle.arena.specs.Operations.{meas_id, rotate_words, measure_words, conditional_words, source_of}
use Rattle.arena.specs.Builder.{with_nodes, with_operation, single_check, single_step, product_check, product_step, rotate_check, rotate_step, measure_check, measure_step, conditional_check, conditional_step}
use Rattle.arena.specs.Expansion.{op_at, gate_word, is_bad_op, is_no_source, is_bad_at, bad_operations}
use Rattle.arena.proofs.Accepted.{left_false, right-false, fits_rotate, fits_measure, fits_conditional}
use Rattle.arena.proofs.Readable.{both_false, owned, given, Grows, good_more, operations_read, operations_used}
use Rattle.arena.proofs.Written.{op_older, gate_older, rotate_read, rotate_by_hand, rotate_older, rotate_sources_older, measure_read, measure_by_hand, measure_older, measure_sources_older}
use Rattle.arena.proofs.Written.{known, conditional_read, conditional_by_hand, conditional_older, conditional_sources_older}
use Rattle.convert.specs.Types.{Pauli, I, X, Y, Z, PauliAngle, Header, PauliRef, PauliAxis, MeasId, Target, Rotate, ConditionalRotate, Checked, Fine, Wrong, PushedMade, MeasuredMade}
use Rattle.convert.specs.Records.{kind_of}
use Rattle.convert.specs.Frame.{frame_gates, clifford_check, opened, clifford_step}
use Rattle.convert.specs.Later.{Circuit, circuit_of, LaterCall, call_frame, call_single, call_product, call_rotate, call_measure, call_conditional, call_expand, call_hermitian, call_weights}
use Rattle.convert.specs.Later.{lend_operations, later, laters, Carried, AllCarried}
use Rattle.convert.proofs.Buffers.Words.{count_run}
use Rattle.convert.proofs.Calls.Table.{framed}

pub record Operates (s : Circuit) : Type 0 where
  pub used : operation_words * s.header.operations ≤ length s.operations
  pub good : (i : ℕ) → i < s.header.operations → is_bad_at s.header s.operations i ≡ false

pub operates_on : (s : Circuit) → Operates s → bad_operations s.header s.operations ≡ false
operates_on s O = operations_read s.header s.operations O.used O.good

pub operates_back : (s : Circuit) → bad_operations s.header s.operations ≡ false → Operates s
operates_back s e = let u = operations_used s.header s.operations e in record { used = u.0; good = u.1 }

-- what a call adds came from somewhere
hand-known : (g : ℕ) → g ≡ hand_mark → is_no_source (source_of g) ≡ false
unfolding source_of
hand-known g e = rw e

module _ (s : Circuit) (O : Operates s) where
  -- an operation of the same words, under a header with no fewer nodes and measurements
  good_kept : (h : Header) → Grows s.header h → (ops : List ℕ) (i : ℕ) → i < s.header.operations
      → op_at h ops i ≡ op_at s.header s.operations i → gate_word ops i ≡ gate_word s.operations i → is_bad_at h ops i ≡ false
  good_kept h G ops i lt same source = both_false _ _
      (ap (is_bad_op h) same ∙ good_more s.header h G (op_at s.header s.operations i) (left_false (is_bad_op s.header (op_at s.header s.operations i)) _ (O.good i lt)))
      (ap (λ g. is_no_source (source_of g)) source ∙ right-false (is_bad_op s.header (op_at s.header s.operations i)) _ (O.good i lt))

  -- more nodes
  operates_nodes : (k : ℕ) (nodes frame : List ℕ) → s.header.nodes ≤ k → Operates (circuit_of (with_nodes k s.header) nodes s.operations frame)
  unfolding op_at
  operates_nodes k nodes frame le = record {
    used = O.used;
    good = λ i lt. good_kept (with_nodes k s.header) (record { owner = refl; nodes = le; measurements = omega arith }) s.operations i lt refl refl;
  }

  -- one operation more, added by hand
  operates_more : (h : Header) (ops : List ℕ) → Grows s.header h → h.operations ≡ s.header.operations + 1 → operation_words * (s.header.operations + 1) ≤ length ops
      → ((i : ℕ) → i < s.header.operations → op_at h ops i ≡ op_at s.header s.operations i)
      → ((i : ℕ) → i < s.header.operations → gate_word ops i ≡ gate_word s.operations i)
      → is_bad_op h (op_at h ops s.header.operations) ≡ false → gate_word ops s.header.operations ≡ hand_mark
      → Operates (circuit_of h s.nodes ops s.frame)
  operates_more h ops G one room older sources new hand = record { used = rw one room; good = λ i lt. go i (ℕ_discrete i s.header.operations) (omega arith) }
    where
      go : (i : ℕ) → Dec (i ≡ s.header.operations) → i < s.header.operations + 1 → is_bad_at h ops i ≡ false
      go i (yes e) lt = rw e (both_false _ _ new (hand-known _ hand))
      go i (no ne) lt = good_kept h G ops i (omega arith) (older i (omega arith)) (sources i (omega arith))

  operates_frame_call : (k a b : ℕ) → Operates (later (call_frame k a b) s)
  unfolding later clifford_step
  operates_frame_call k a b = go (clifford_check s.header (length s.nodes) s.frame k a b) refl
    where
      gs : List Gate
      gs = frame_gates (kind_of k) a b

      go : (c : Checked) → clifford_check s.header (length s.nodes) s.frame k a b ≡ c → Operates (later (call_frame k a b) s)
      go Fine e = rw e (operates_nodes (framed gs s).header.nodes (framed gs s).nodes (framed gs s).frame
          (omega (arith, count_run s.header.qubits gs (opened s.header s.nodes s.frame))))
      go (Wrong x) e = rw e O

  operates_single_call : (q : ℕ) (a : Pauli) → Operates (later (call_single q a) s)
  unfolding later single_step
  operates_single_call q a = go a (single_check s.header (length s.nodes) q a) refl
    where
      go : (a : Pauli) (c : Checked) → single_check s.header (length s.nodes) q a ≡ c → Operates (later (call_single q a) s)
      go I Fine e = rw e O
      go X Fine e = rw e (operates_nodes (s.header.nodes + 1) _ s.frame (omega arith))
      go Y Fine e = rw e (operates_nodes (s.header.nodes + 1) _ s.frame (omega arith))
      go Z Fine e = rw e (operates_nodes (s.header.nodes + 1) _ s.frame (omega arith))
      go a (Wrong x) e = rw e O

  operates_product_call : (l r : PauliRef) → Operates (later (call_product l r) s)
  unfolding later product_step
  operates_product_call l r = go (product_check s.header (length s.nodes) l r) refl
    where
      go : (c : Checked) → product_check s.header (length s.nodes) l r ≡ c → Operates (later (call_product l r) s)
      go Fine e = rw e (operates_nodes (s.header.nodes + 1) _ s.frame (omega arith))
      go (Wrong x) e = rw e O

  grows : (m : ℕ) → s.header.measurements ≤ m → Grows s.header (with_operation m s.header)
  grows m le = record { owner = refl; nodes = omega arith; measurements = le }

  rotate_made : (x : PauliAxis) (k : PauliAngle) → rotate_check s.header (length s.operations) x ≡ Fine
      → (rotate_step s.header s.operations x k).answer ≡ PushedMade (with_operation s.header.measurements s.header)
  unfolding rotate_step
  rotate_made x k e = rw e

  rotate_size : (x : PauliAxis) (k : PauliAngle) → rotate_check s.header (length s.operations) x ≡ Fine
      → length (rotate_step s.header s.operations x k).words ≡ length s.operations
  unfolding rotate_step
  rotate_size x k e = rw e (length-sets s.operations (operation_words * s.header.operations) (rotate_words x.0.word (eighths_of k) hand_mark))

  operates_rotated : (x : PauliAxis) (k : PauliAngle) → rotate_check s.header (length s.operations) x ≡ Fine
      → Operates (circuit_of (with_operation s.header.measurements s.header) s.nodes (rotate_step s.header s.operations x k).words s.frame)
  operates_rotated x k e =
      let f = fits_rotate s.header (length s.operations) x e in
      let G = grows s.header.measurements (omega arith) in
      operates_more _ _ G refl (omega (arith, rotate_size x k e, f.room.lent))
      (rotate_older s.header s.operations x k _ (rotate_made x k e)) (rotate_sources_older s.header s.operations x k _ (rotate_made x k e))
      (ap (is_bad_op _) (rotate_read s.header s.operations x k _ (rotate_made x k e))
      ∙ good_more s.header _ G (Rotate x (angle_of (eighths_of k))) (owned s.header x.0 f.axis_own))
      (rotate_by_hand s.header s.operations x k _ (rotate_made x k e))

  later-rotated : (x : PauliAxis) (k : PauliAngle) → rotate_check s.header (length s.operations) x ≡ Fine → later (call_rotate x k) s
      ≡ circuit_of (with_operation s.header.measurements s.header) s.nodes (rotate_step s.header s.operations x k).words s.frame
  unfolding later rotate_step
  later-rotated x k e = rw e

  operates_rotate_call : (x : PauliAxis) (k : PauliAngle) → Operates (later (call_rotate x k) s)
  unfolding later rotate_step
  operates_rotate_call x k = go (rotate_check s.header (length s.operations) x) refl
    where
      go : (c : Checked) → rotate_check s.header (length s.operations) x ≡ c → Operates (later (call_rotate x k) s)
      go Fine e = subst Operates (sym (later-rotated x k e)) (operates_rotated x k e)
      go (Wrong y) e = rw e O

  measure_made : (x : PauliAxis) (u : Target) → measure_check s.header (length s.operations) x u ≡ Fine
      → (measure_step s.header s.operations x u).answer
      ≡ MeasuredMade (with_operation (s.header.measurements + 1) s.header) (meas_id s.header.owner s.header.measurements)
  unfolding measure_step
  measure_made x u e = rw e

  measure_size : (x : PauliAxis) (u : Target) → measure_check s.header (length s.operations) x u ≡ Fine
      → length (measure_step s.header s.operations x u).words ≡ length s.operations
  unfolding measure_step
  measure_size x u e = rw e (length-sets s.operations (operation_words * s.header.operations) (measure_words x.0.word s.header.measurements u hand_mark))

  operates_measured : (x : PauliAxis) (u : Target) → measure_check s.header (length s.operations) x u ≡ Fine
      → Operates (circuit_of (with_operation (s.header.measurements + 1) s.header) s.nodes (measure_step s.header s.operations x u).words s.frame)
  operates_measured x u e =
      let f = (fits_measure s.header (length s.operations) x u e).0 in
      operates_more _ _ (grows (s.header.measurements + 1) (omega arith)) refl (omega (arith, measure_size x u e, f.room.lent))
      (measure_older s.header s.operations x u _ _ (measure_made x u e)) (measure_sources_older s.header s.operations x u _ _ (measure_made x u e))
      (ap (is_bad_op _) (measure_read s.header s.operations x u _ _ (measure_made x u e))
      ∙ both_false _ _ (owned (with_operation (s.header.measurements + 1) s.header) x.0 (record { owner = f.axis_own.owner; used = f.axis_own.used }))
      (given (with_operation (s.header.measurements + 1) s.header) (meas_id s.header.owner s.header.measurements) refl (omega arith)))
      (measure_by_hand s.header s.operations x u _ _ (measure_made x u e))

  later-measured : (x : PauliAxis) (u : Target) → measure_check s.header (length s.operations) x u ≡ Fine → later (call_measure x u) s
      ≡ circuit_of (with_operation (s.header.measurements + 1) s.header) s.nodes (measure_step s.header s.operations x u).words s.frame
  unfolding later measure_step
  later-measured x u e = rw e

  operates_measure_call : (x : PauliAxis) (u : Target) → Operates (later (call_measure x u) s)
  unfolding later measure_step
  operates_measure_call x u = go (measure_check s.header (length s.operations) x u) refl
    where
      go : (c : Checked) → measure_check s.header (length s.operations) x u ≡ c → Operates (later (call_measure x u) s)
      go Fine e = subst Operates (sym (later-measured x u e)) (operates_measured x u e)
      go (Wrong y) e = rw e O

  conditional_made : (x : PauliAxis) (k : PauliAngle) (m : MeasId) → conditional_check s.header (length s.operations) x m ≡ Fine
      → (conditional_step s.header s.operations x k m).answer ≡ PushedMade (with_operation s.header.measurements s.header)
  unfolding conditional_step
  conditional_made x k m e = rw e

  conditional_size : (x : PauliAxis) (k : PauliAngle) (m : MeasId) → conditional_check s.header (length s.operations) x m ≡ Fine
      → length (conditional_step s.header s.operations x k m).words ≡ length s.operations
  unfolding conditional_step
  conditional_size x k m e = rw e (length-sets s.operations (operation_words * s.header.operations) (conditional_words x.0.word (eighths_of k) m.1 hand_mark))

  operates_conditional : (x : PauliAxis) (k : PauliAngle) (m : MeasId) → conditional_check s.header (length s.operations) x m ≡ Fine
      → Operates (circuit_of (with_operation s.header.measurements s.header) s.nodes (conditional_step s.header s.operations x k m).words s.frame)
  operates_conditional x k m e =
      let f = fits_conditional s.header (length s.operations) x m e in
      let G = grows s.header.measurements (omega arith) in
      operates_more _ _ G refl (omega (arith, conditional_size x k m e, f.room.lent))
      (conditional_older s.header s.operations x k m _ (conditional_made x k m e)) (conditional_sources_older s.header s.operations x k m _ (conditional_made x k m e))
      (ap (is_bad_op _) (conditional_read s.header s.operations x k m _ (conditional_made x k m e))
      ∙ good_more s.header _ G (ConditionalRotate x (angle_of (eighths_of k)) m)
      (both_false _ _ (owned s.header x.0 f.axis_own) (known s.header s.operations x m e)))
      (conditional_by_hand s.header s.operations x k m _ (conditional_made x k m e))

  later-conditional : (x : PauliAxis) (k : PauliAngle) (m : MeasId) → conditional_check s.header (length s.operations) x m ≡ Fine → later (call_conditional x k m) s
      ≡ circuit_of (with_operation s.header.measurements s.header) s.nodes (conditional_step s.header s.operations x k m).words s.frame
  unfolding later conditional_step
  later-conditional x k m e = rw e

  operates_conditional_call : (x : PauliAxis) (k : PauliAngle) (m : MeasId) → Operates (later (call_conditional x k m) s)
  unfolding later conditional_step
  operates_conditional_call x k m = go (conditional_check s.header (length s.operations) x m) refl
    where
      go : (c : Checked) → conditional_check s.header (length s.operations) x m ≡ c → Operates (later (call_conditional x k m) s)
      go Fine e = subst Operates (sym (later-conditional x k m e)) (operates_conditional x k m e)
      go (Wrong y) e = rw e O

  -- other words that hold those in use
  operates_lent : (words : List ℕ) → take (operation_words * s.header.operations) words ≡ take (operation_words * s.header.operations) s.operations
      → Operates (circuit_of s.header s.nodes words s.frame)
  operates_lent words e = record {
    used = omega (arith, O.used, sym (length-take (operation_words * s.header.operations) words) ∙ ap length e ∙ length-take (operation_words * s.header.operations) s.operations);
    good = λ i lt. good_kept s.header (record { owner = refl; nodes = omega arith; measurements = omega arith }) words i lt
        (op_older s.header s.header.operations s.operations words same i lt) (gate_older s.header.operations s.operations words same i lt);
  }
    where
      same : (j : ℕ) → j < operation_words * s.header.operations → get_or words j 0 ≡ get_or s.operations j 0
      same j lt = sym (get_or-take (operation_words * s.header.operations) words j 0 lt) ∙ ap (λ l. get_or l j 0) e ∙ get_or-take (operation_words * s.header.operations) s.operations j 0 lt

  operates-later : (c : LaterCall) → Carried c s → Operates (later c s)
  unfolding later
  operates-later (call_frame k a b) e = operates_frame_call k a b
  operates-later (call_single q a) e = operates_single_call q a
  operates-later (call_product l r) e = operates_product_call l r
  operates-later (call_rotate x k) e = operates_rotate_call x k
  operates-later (call_measure x u) e = operates_measure_call x u
  operates-later (call_conditional x k m) e = operates_conditional_call x k m
  operates-later (call_expand letters scratch pool r cells) e = O
  operates-later (call_hermitian scratch pool r limit) e = O
  operates-later (call_weights scratch pool limit) e = O
  operates-later (lend_operations words) e = operates_lent words e

pub operates-laters : (cs : List LaterCall) (s : Circuit) → AllCarried cs s → Operates s → Operates (laters cs s)
unfolding laters AllCarried
operates-laters [] s a O = O
operates-laters (c ∷ cs) s a O = operates-laters cs (later c s) a.1 (operates-later s O c a.0)
