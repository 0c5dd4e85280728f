-- An operation that a call adds is read back as it was asked for, and the older ones read as before.
use mathlib.Core.Path.{◌≡◌, refl, ap, ap₂, sym, ◌∙◌}
use mathlib.Core.Logic.{inl}
use mathlib.Core.Bool.{false}
use mathlib.Core.List.{List, [], ◌∷◌, ◌++◌, append_assoc}
use Prim.Native.Nat.{ℕ, suc, ◌+◌, ◌*◌, ◌/◌, ◌%◌, ◌≤◌, ◌<◌}
use native.Mathlib.Numerals.{add-one}
use native.Mathlib.Omega.{arith}
use borrow.Author.Tests.{lt-ltb, le-leb, leb-false, eqb-true, not-false}
use lib.Dec.{eqb, leb}
use lib.ListN.{length, get_or, take, drop, get_or-append}
use lib.Seq.{sets, sets-eq, get_or-append-add, length-take-le}
use Rattle.pauli.specs.Angle.{angle_of, eighths_of}
use Rattle.arena.specs.Types.{PauliAngle}
use Rattle.arena.specs.Limits.{operation_words, hand_mark}
use Rattle.arena.specs.Errors.{Checked, Fine, Wrong}
use Rattle.arena.specs.References.{PauliAxis, axis_of}
use Rattle.arena.specs.Operations.{MeasId, meas_id, Target, Bit, NoTarget, target_word, Rotate, Measure, ConditionalRotate, decode_op}
use Rattle.arena.specs.Store.{Header, unknown, target_outside}
use Rattle.arena.specs.Builder.{step_of, decided, with_operation, PushedMade, PushedRefused, MeasuredMade, MeasuredRefused, rotate_check, rotate_step, measure_check, measure_step, conditional_check, conditional_step}
use Rattle.arena.specs.Calls.{call_rotate, call_measure, call_conditional, Slices, checked, after}
use Rattle.arena.specs.Expansion.{op_at, gate_word}
use Rattle.arena.proofs.Made.{made_same}
use Rattle.arena.proofs.Accepted.{passed_before, test_passed, left_false, Own, fits_rotate, fits_measure, fits_conditional}
use Rattle.arena.proofs.Spans.{accepted_used_only}

zero_is_one : ◌≡◌ {A = ℕ} 0 1 → ⊥
zero_is_one z = omega arith

-- ---- the words of an operation

module _ (ws : List ℕ) (k : ℕ) (vs : List ℕ) (room : operation_words * k + length vs ≤ length ws) where
  word_put : (j m : ℕ) → m ≡ operation_words * k + j → j < length vs → get_or (sets ws (operation_words * k) vs) m 0 ≡ get_or vs j 0
  word_put j m at lt =
      let size : length (take (operation_words * k) ws) ≡ operation_words * k = length-take-le (operation_words * k) ws (omega arith) in
      ap₂ (λ l p. get_or l p 0) (sets-eq vs ws (operation_words * k) room ∙ append_assoc (take (operation_words * k) ws) vs (drop (operation_words * k + length vs) ws)) (at ∙ ap (λ i. i + j) (sym size))
      ∙ get_or-append-add (take (operation_words * k) ws) (vs ++ drop (operation_words * k + length vs) ws) j 0
      ∙ get_or-append vs (drop (operation_words * k + length vs) ws) 0 j lt

op_put : (h : Header) (ws : List ℕ) (k a b c d e : ℕ) → k + 1 ≤ length ws / operation_words
    → op_at h (sets ws (operation_words * k) (a ∷ b ∷ c ∷ d ∷ e ∷ [])) k ≡ decode_op h.owner h.cbits a b c d
unfolding op_at
op_put h ws k a b c d e lent = λ t. decode_op h.owner h.cbits (word 0 (operation_words * k) (omega arith) (omega arith) t) (word 1 (operation_words * k + 1) (omega arith) (omega arith) t)
    (word 2 (operation_words * k + 2) (omega arith) (omega arith) t) (word 3 (operation_words * k + 3) (omega arith) (omega arith) t)
  where
    word : (j m : ℕ) → m ≡ operation_words * k + j → j < operation_words → get_or (sets ws (operation_words * k) (a ∷ b ∷ c ∷ d ∷ e ∷ [])) m 0 ≡ get_or (a ∷ b ∷ c ∷ d ∷ e ∷ []) j 0
    word j m at lt = word_put ws k (a ∷ b ∷ c ∷ d ∷ e ∷ []) (omega arith) j m at lt

gate_put : (ws : List ℕ) (k a b c d e : ℕ) → k + 1 ≤ length ws / operation_words → gate_word (sets ws (operation_words * k) (a ∷ b ∷ c ∷ d ∷ e ∷ [])) k ≡ e
gate_put ws k a b c d e lent = word_put ws k (a ∷ b ∷ c ∷ d ∷ e ∷ []) (omega arith) 4 (operation_words * k + 4) refl (omega arith)

-- words that agree below operation k give the older ones the same meaning
pub op_older : (h : Header) (k : ℕ) (ws vs : List ℕ) → ((j : ℕ) → j < operation_words * k → get_or vs j 0 ≡ get_or ws j 0) → (i : ℕ) → i < k → op_at h vs i ≡ op_at h ws i
unfolding op_at
op_older h k ws vs same i lt = λ t. decode_op h.owner h.cbits (same (operation_words * i) (omega arith) t) (same (operation_words * i + 1) (omega arith) t)
    (same (operation_words * i + 2) (omega arith) t) (same (operation_words * i + 3) (omega arith) t)

pub gate_older : (k : ℕ) (ws vs : List ℕ) → ((j : ℕ) → j < operation_words * k → get_or vs j 0 ≡ get_or ws j 0) → (i : ℕ) → i < k → gate_word vs i ≡ gate_word ws i
gate_older k ws vs same i lt = same (operation_words * i + 4) (omega arith)

-- ---- decoding what was encoded

own_axis : (h : Header) (x : PauliAxis) → Own h x.0 → axis_of (record { owner = h.owner; word = x.0.word }) ≡ x
own_axis h x o = ap (λ owner. axis_of (record { owner = owner; word = x.0.word })) (sym o.owner)

own_outcome : (h : Header) (m : MeasId) → unknown h m ≡ false → meas_id h.owner m.1 ≡ m
unfolding unknown
own_outcome h m e = ap (λ owner. meas_id owner m.1) (sym (eqb-true m.0 h.owner (not-false (eqb m.0 h.owner) (left_false _ (leb h.measurements m.1) e))))

rotate_decodes : (owner cbits w a : ℕ) → a < 8 → decode_op owner cbits (4 * a) w 0 0 ≡ Rotate (axis_of (record { owner = owner; word = w })) (angle_of a)
unfolding decode_op
rotate_decodes owner cbits w a lt =
    let kind : 4 * a % 4 ≡ 0 = omega arith in
    let rest : 4 * a / 4 ≡ a = omega arith in
    rw (kind, rest, lt-ltb a 8 lt)

conditional_decodes : (owner cbits w a m : ℕ) → a < 8
    → decode_op owner cbits (2 + 4 * a) w m 0 ≡ ConditionalRotate (axis_of (record { owner = owner; word = w })) (angle_of a) (meas_id owner m)
unfolding decode_op
conditional_decodes owner cbits w a m lt =
    let kind : (2 + 4 * a) % 4 ≡ 2 = omega arith in
    let rest : (2 + 4 * a) / 4 ≡ a = omega arith in
    rw (kind, rest, lt-ltb a 8 lt)

measure_decodes : (h : Header) (w m : ℕ) (t : Target) → target_outside h t ≡ false
    → decode_op h.owner h.cbits 1 w m (target_word t) ≡ Measure (axis_of (record { owner = h.owner; word = w })) (meas_id h.owner m) t
unfolding decode_op
measure_decodes h w m (Bit b) e =
    let fits = le-leb (suc b) h.cbits (leb-false h.cbits b e) in
    rw (add-one b, fits)
measure_decodes h w m NoTarget e = rw (le-leb 0 h.cbits (omega arith))

-- ---- the three calls

pushed_made : (c : Checked) (ops ws : List ℕ) (g h' : Header) → (decided c PushedRefused ops (step_of (PushedMade g) ws)).answer ≡ PushedMade h' → (c ≡ Fine) × (g ≡ h')
pushed_made Fine ops ws g h' e = (refl, cc)
pushed_made (Wrong w) ops ws g h' e = let z : ◌≡◌ {A = ℕ} 0 1 = cc in absurd (zero_is_one z)

measured_made : (c : Checked) (ops ws : List ℕ) (g h' : Header) (i m : MeasId) → (decided c MeasuredRefused ops (step_of (MeasuredMade g i) ws)).answer ≡ MeasuredMade h' m
    → (c ≡ Fine) × (g ≡ h') × (i ≡ m)
measured_made Fine ops ws g h' i m e = (refl, ap (λ (p : Header × MeasId). p.0) (made_same e), ap (λ (p : Header × MeasId). p.1) (made_same e))
measured_made (Wrong w) ops ws g h' i m e = let z : ◌≡◌ {A = ℕ} 0 1 = cc in absurd (zero_is_one z)

module _ (h : Header) (ops : List ℕ) (x : PauliAxis) where
  lent : Slices
  lent = record { nodes = []; operations = ops; frame = [] }

  pub rotate_made : (k : PauliAngle) (h' : Header) → (rotate_step h ops x k).answer ≡ PushedMade h'
      → (rotate_check h (length ops) x ≡ Fine) × (with_operation h.measurements h ≡ h')
  unfolding rotate_step
  rotate_made k h' e = pushed_made (rotate_check h (length ops) x) ops _ (with_operation h.measurements h) h' e

  pub rotate_read : (k : PauliAngle) (h' : Header) → (rotate_step h ops x k).answer ≡ PushedMade h'
      → op_at h' (rotate_step h ops x k).words h.operations ≡ Rotate x (angle_of (eighths_of k))
  unfolding rotate_step
  rotate_read k h' e =
      let m = rotate_made k h' e in
      let f = fits_rotate h (length ops) x m.0 in
      rw (← m.1, m.0) (op_put (with_operation h.measurements h) ops h.operations _ _ _ _ _ f.room.lent
      ∙ rotate_decodes h.owner h.cbits x.0.word (eighths_of k) (omega arith)
      ∙ ap (λ axis. Rotate axis (angle_of (eighths_of k))) (own_axis h x f.axis_own))

  pub rotate_by_hand : (k : PauliAngle) (h' : Header) → (rotate_step h ops x k).answer ≡ PushedMade h' → gate_word (rotate_step h ops x k).words h.operations ≡ hand_mark
  unfolding rotate_step
  rotate_by_hand k h' e =
      let m = rotate_made k h' e in
      rw m.0 (gate_put ops h.operations _ _ _ _ hand_mark (fits_rotate h (length ops) x m.0).room.lent)

  pub rotate_sources_older : (k : PauliAngle) (h' : Header) → (rotate_step h ops x k).answer ≡ PushedMade h'
      → (i : ℕ) → i < h.operations → gate_word (rotate_step h ops x k).words i ≡ gate_word ops i
  unfolding lent checked after
  rotate_sources_older k h' e =
      gate_older h.operations ops (rotate_step h ops x k).words
      (λ j lt. (accepted_used_only lent (call_rotate h x k) (rotate_made k h' e).0).operations.outside j (inl lt))

  pub rotate_older : (k : PauliAngle) (h' : Header) → (rotate_step h ops x k).answer ≡ PushedMade h'
      → (i : ℕ) → i < h.operations → op_at h' (rotate_step h ops x k).words i ≡ op_at h ops i
  unfolding op_at lent checked after
  rotate_older k h' e =
      let m = rotate_made k h' e in
      rw (← m.1) (op_older h h.operations ops (rotate_step h ops x k).words (λ j lt. (accepted_used_only lent (call_rotate h x k) m.0).operations.outside j (inl lt)))

  pub measure_made : (t : Target) (h' : Header) (m : MeasId) → (measure_step h ops x t).answer ≡ MeasuredMade h' m
      → (measure_check h (length ops) x t ≡ Fine) × (with_operation (h.measurements + 1) h ≡ h') × (meas_id h.owner h.measurements ≡ m)
  unfolding measure_step
  measure_made t h' m e = measured_made (measure_check h (length ops) x t) ops _ (with_operation (h.measurements + 1) h) h' (meas_id h.owner h.measurements) m e

  inside : (t : Target) → measure_check h (length ops) x t ≡ Fine → target_outside h t ≡ false
  unfolding measure_check
  inside t p = test_passed _ _ _ (passed_before _ _ _ p)

  pub measure_read : (t : Target) (h' : Header) (m : MeasId) → (measure_step h ops x t).answer ≡ MeasuredMade h' m
      → op_at h' (measure_step h ops x t).words h.operations ≡ Measure x m t
  unfolding measure_step
  measure_read t h' m e =
      let a = measure_made t h' m e in
      let f = (fits_measure h (length ops) x t a.0).0 in
      rw (← a.1, ← a.2, a.0) (op_put (with_operation (h.measurements + 1) h) ops h.operations _ _ _ _ _ f.room.lent
      ∙ measure_decodes h x.0.word h.measurements t (inside t a.0)
      ∙ ap (λ axis. Measure axis (meas_id h.owner h.measurements) t) (own_axis h x f.axis_own))

  pub measure_by_hand : (t : Target) (h' : Header) (m : MeasId) → (measure_step h ops x t).answer ≡ MeasuredMade h' m
      → gate_word (measure_step h ops x t).words h.operations ≡ hand_mark
  unfolding measure_step
  measure_by_hand t h' m e =
      let a = measure_made t h' m e in
      rw a.0 (gate_put ops h.operations _ _ _ _ hand_mark (fits_measure h (length ops) x t a.0).0.room.lent)

  pub measure_sources_older : (t : Target) (h' : Header) (m : MeasId) → (measure_step h ops x t).answer ≡ MeasuredMade h' m
      → (i : ℕ) → i < h.operations → gate_word (measure_step h ops x t).words i ≡ gate_word ops i
  unfolding lent checked after
  measure_sources_older t h' m e =
      gate_older h.operations ops (measure_step h ops x t).words
      (λ j lt. (accepted_used_only lent (call_measure h x t) (measure_made t h' m e).0).operations.outside j (inl lt))

  pub measure_older : (t : Target) (h' : Header) (m : MeasId) → (measure_step h ops x t).answer ≡ MeasuredMade h' m
      → (i : ℕ) → i < h.operations → op_at h' (measure_step h ops x t).words i ≡ op_at h ops i
  unfolding op_at lent checked after
  measure_older t h' m e =
      let a = measure_made t h' m e in
      rw (← a.1) (op_older h h.operations ops (measure_step h ops x t).words (λ j lt. (accepted_used_only lent (call_measure h x t) a.0).operations.outside j (inl lt)))

  pub conditional_made : (k : PauliAngle) (m : MeasId) (h' : Header) → (conditional_step h ops x k m).answer ≡ PushedMade h'
      → (conditional_check h (length ops) x m ≡ Fine) × (with_operation h.measurements h ≡ h')
  unfolding conditional_step
  conditional_made k m h' e = pushed_made (conditional_check h (length ops) x m) ops _ (with_operation h.measurements h) h' e

  pub known : (m : MeasId) → conditional_check h (length ops) x m ≡ Fine → unknown h m ≡ false
  unfolding conditional_check
  known m p = test_passed _ _ _ (passed_before _ _ _ p)

  pub conditional_read : (k : PauliAngle) (m : MeasId) (h' : Header) → (conditional_step h ops x k m).answer ≡ PushedMade h'
      → op_at h' (conditional_step h ops x k m).words h.operations ≡ ConditionalRotate x (angle_of (eighths_of k)) m
  unfolding conditional_step
  conditional_read k m h' e =
      let a = conditional_made k m h' e in
      let f = fits_conditional h (length ops) x m a.0 in
      rw (← a.1, a.0) (op_put (with_operation h.measurements h) ops h.operations _ _ _ _ _ f.room.lent
      ∙ conditional_decodes h.owner h.cbits x.0.word (eighths_of k) m.1 (omega arith)
      ∙ ap₂ (λ axis outcome. ConditionalRotate axis (angle_of (eighths_of k)) outcome) (own_axis h x f.axis_own) (own_outcome h m (known m a.0)))

  pub conditional_by_hand : (k : PauliAngle) (m : MeasId) (h' : Header) → (conditional_step h ops x k m).answer ≡ PushedMade h'
      → gate_word (conditional_step h ops x k m).words h.operations ≡ hand_mark
  unfolding conditional_step
  conditional_by_hand k m h' e =
      let a = conditional_made k m h' e in
      rw a.0 (gate_put ops h.operations _ _ _ _ hand_mark (fits_conditional h (length ops) x m a.0).room.lent)

  pub conditional_sources_older : (k : PauliAngle) (m : MeasId) (h' : Header) → (conditional_step h ops x k m).answer ≡ PushedMade h'
      → (i : ℕ) → i < h.operations → gate_word (conditional_step h ops x k m).words i ≡ gate_word ops i
  unfolding lent checked after
  conditional_sources_older k m h' e =
      gate_older h.operations ops (conditional_step h ops x k m).words
      (λ j lt. (accepted_used_only lent (call_conditional h x k m) (conditional_made k m h' e).0).operations.outside j (inl lt))

  pub conditional_older : (k : PauliAngle) (m : MeasId) (h' : Header) → (conditional_step h ops x k m).answer ≡ PushedMade h'
      → (i : ℕ) → i < h.operations → op_at h' (conditional_step h ops x k m).words i ≡ op_at h ops i
  unfolding op_at lent checked after
  conditional_older k m h' e =
      let a = conditional_made k m h' e in
      rw (← a.1) (op_older h h.operations ops (conditional_step h ops x k m).words (λ j lt. (accepted_used_only lent (call_conditional h x k m) a.0).operations.outside j (inl lt)))
