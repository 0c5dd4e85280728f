-- The checks of gates, by their shape.
use mathlib.Core.Path.{◌≡◌, refl, sym, ap, ap₂, ◌∙◌}
use mathlib.Core.Bool.{Bool, true, false, not, ◌&&◌, ◌||◌}
use mathlib.Core.List.{List, [], ◌∷◌, map}
use Prim.Native.Nat.{ℕ, zero, suc, ◌+◌, ◌*◌, ◌/◌, ◌<◌, ◌≤◌}
use native.Mathlib.Nat.{mul-le-mul_left, add-zero, zero-add}
use native.Mathlib.Numerals.{add-one}
use lib.ListN.{length, get_or, take, drop, get_or-map}
use native.Mathlib.Omega.{arith}
use lib.Dec.{leb, ltb, eqb}
use mathlib.Core.Logic.{⊎_elim}
use types.Run.{OneOf}
use denote.Enum.Declared.{tag_of}
use Rattle.convert.specs.contracts.gate.Shape.{the_type}
use lib.Bits.{bit_or, or_zero_r}
use borrow.Author.Tests.{eqb-true, lt-leb, ne_eqb}
use Rattle.std.specs.List.{list_any}
use Rattle.arena.specs.Errors.{◌⟫◌⇒◌}
use Rattle.convert.specs.Types.{PbcError, QubitOutOfRange, RepeatedOperand, UnsupportedGate, ClassicalBitOutOfRange, TargetTaken, BadStore, NonCliffordFrameGate, NoFrame, NoNodes, Header, Checked, Fine, Wrong}
use Rattle.arena.specs.Store.{breaks_limit, exceeds_nodes, no_node_room}
use Rattle.convert.specs.Planes.{part_words}
use Rattle.convert.proofs.Counts.Rest.{drop-record, no_more}
use Rattle.convert.specs.Records.{GateKind, KindH, KindX, KindZ, KindS, KindSdg, KindT, KindTdg, KindCnot, KindCz, KindCcx, KindCcz, KindMeasure, KindY, KindSx, KindSwap, KindCy, Unsupported, Shape, NoShape, OneQubit, TwoQubits, ThreeQubits, Measured, shape_of, shape_number, has_shape, Record, records, kinds, kind_of, record_of, lower_as}
use Rattle.convert.specs.Frame.{qubits_by, qubits_of, member, operands_checked, names_unused, frame_gates, gate_nodes, total, clifford_check}
use Rattle.convert.specs.Conversion.{is_doubly, is_measure, taken_with, record_checked, records_checked}
use Rattle.convert.specs.Code.Raw.{is_frame, frame_nodes, measures_of}
use Rattle.convert.specs.Code.Tables.{table_of, bound_by, bound_of, apart_by, apart_of, Passes}
use Rattle.convert.specs.Code.Marks.{is_marked, marked, Marks}
use Rattle.convert.proofs.GateKinds.Entries.{table_at}
use Rattle.convert.proofs.GateKinds.Marks.{more_marks, target_test}
use Rattle.convert.proofs.GateKinds.Targets.{taken_to, taken_more}

pub stopped : (f : PbcError) (b : Bool) (e : PbcError) → Wrong f ≡ (Wrong f ⟫ b ⇒ e)
unfolding ◌⟫◌⇒◌
stopped f b e = refl

no_test : (k : Checked) (e : PbcError) → (k ⟫ false ⇒ e) ≡ k
unfolding ◌⟫◌⇒◌
no_test Fine e = refl
no_test (Wrong f) e = refl

or-false : (b : Bool) → b || false ≡ b
or-false true = refl
or-false false = refl

-- ---- shapes

shape_at : ℕ → Shape
shape_at j = get_or (NoShape ∷ OneQubit ∷ TwoQubits ∷ ThreeQubits ∷ []) j Measured

at_number : (s : Shape) → shape_at (shape_number s) ≡ s
unfolding shape_at
at_number NoShape = refl
at_number OneQubit = refl
at_number TwoQubits = refl
at_number ThreeQubits = refl
at_number Measured = refl

pub has_shape_lem : (k : GateKind) (s : Shape) → has_shape k s ≡ true → shape_of k ≡ s
has_shape_lem k s e = sym (at_number (shape_of k)) ∙ ap shape_at (eqb-true (shape_number (shape_of k)) (shape_number s) e) ∙ at_number s

-- the one qubit of these shapes
pub lone_qubit : (t : Shape) (a b c : ℕ) → OneOf (1 ∷ 4 ∷ []) (tag_of the_type t) → qubits_by t a b c ≡ a ∷ []
lone_qubit NoShape a b c o = ⊎_elim (λ e. absurd (omega (arith, e))) (λ e. absurd (omega (arith, e))) o
lone_qubit OneQubit a b c o = refl
lone_qubit TwoQubits a b c o = ⊎_elim (λ e. absurd (omega (arith, e))) (λ e. absurd (omega (arith, e))) o
lone_qubit ThreeQubits a b c o = ⊎_elim (λ e. absurd (omega (arith, e))) (λ e. absurd (omega (arith, e))) o
lone_qubit Measured a b c o = refl

module _ (n i a b c : ℕ) where
  pub one_checked : (f : Checked) → f ≡ (Fine ⟫ leb n a ⇒ QubitOutOfRange i a) → f ≡ operands_checked Fine n i [] (a ∷ [])
  unfolding operands_checked
  one_checked f ef = ef ∙ sym (no_test (Fine ⟫ leb n a ⇒ QubitOutOfRange i a) (RepeatedOperand i a))

  pub pair_checked : (f g h : Checked) → f ≡ (Fine ⟫ leb n a ⇒ QubitOutOfRange i a) → g ≡ (f ⟫ leb n b ⇒ QubitOutOfRange i b) → h ≡ (g ⟫ eqb b a ⇒ RepeatedOperand i b)
      → h ≡ operands_checked Fine n i [] (a ∷ b ∷ [])
  unfolding operands_checked
  pair_checked f g h ef eg eh = rw (eh, eg, ef, no_test (Fine ⟫ leb n a ⇒ QubitOutOfRange i a) (RepeatedOperand i a), or-false (eqb b a))

  pub three_checked : (p j m : Checked) → p ≡ operands_checked Fine n i [] (a ∷ b ∷ []) → j ≡ (p ⟫ leb n c ⇒ QubitOutOfRange i c) → m ≡ (j ⟫ eqb c b || eqb c a ⇒ RepeatedOperand i c)
      → m ≡ operands_checked Fine n i [] (a ∷ b ∷ c ∷ [])
  unfolding operands_checked
  three_checked p j m ep ej em = rw (em, ej, ep, or-false (eqb c a))

pub record_checked_lem : (s : Checked) (n cbits i number a b c : ℕ) (ws : List ℕ) (u q r v : Checked) → u ≡ (s ⟫ has_shape (kind_of number) NoShape ⇒ UnsupportedGate i number)
    → q ≡ operands_checked u n i [] (qubits_of (kind_of number) a b c) → r ≡ (q ⟫ has_shape (kind_of number) Measured && leb cbits b ⇒ ClassicalBitOutOfRange i b)
    → v ≡ (r ⟫ has_shape (kind_of number) Measured && is_marked b ws ⇒ TargetTaken i b) → cbits ≤ 64 * length ws
    → (taken : List ℕ) → Marks taken ws → v ≡ record_checked s n cbits i taken (record_of number a b c)
unfolding record_checked
record_checked_lem s n cbits i number a b c ws u q r v eu eq er ev h taken M =
    rw (ev, er, eq, eu) (target_test _ (has_shape (kind_of number) Measured) cbits b _ _ taken ws h M)

-- ---- the list

pub targets_more : (gs : List ℕ) (i : ℕ) → i < length gs / 4
    → taken_to gs (i + 1) ≡ taken_with (record_of (get_or gs (4 * i) 0) (get_or gs (4 * i + 1) 0) (get_or gs (4 * i + 2) 0) (get_or gs (4 * i + 3) 0)) (taken_to gs i)
targets_more gs i h = rw (add-one i) (taken_more (records gs) (drop (suc i) (records gs)) _ i [] (drop-record gs i h))

pub checks_more : (s : Checked) (n cbits : ℕ) (gs : List ℕ) (i : ℕ) → i < length gs / 4
    → records_checked s n cbits i (taken_to gs i) (drop i (records gs))
    ≡ records_checked (record_checked s n cbits i (taken_to gs i) (record_of (get_or gs (4 * i) 0) (get_or gs (4 * i + 1) 0) (get_or gs (4 * i + 2) 0) (get_or gs (4 * i + 3) 0))) n cbits (i + 1) (taken_to gs (i + 1)) (drop (i + 1) (records gs))
unfolding records_checked
checks_more s n cbits gs i h = rw (targets_more gs i h, drop-record gs i h, add-one i)

pub checks_end : (s : Checked) (n cbits : ℕ) (gs : List ℕ) (i : ℕ) (taken : List ℕ) → length gs / 4 ≤ i → records_checked s n cbits i taken (drop i (records gs)) ≡ s
unfolding records_checked
checks_end s n cbits gs i taken h = rw (no_more gs i h)

-- ---- past a refusal

pub wrong_operands : (e : PbcError) (n i : ℕ) (seen qs : List ℕ) → operands_checked (Wrong e) n i seen qs ≡ Wrong e
unfolding operands_checked ◌⟫◌⇒◌
wrong_operands e n i seen [] = refl
wrong_operands e n i seen (q ∷ qs) = wrong_operands e n i (q ∷ seen) qs

pub wrong_record : (e : PbcError) (n cbits i : ℕ) (taken : List ℕ) (r : Record) → record_checked (Wrong e) n cbits i taken r ≡ Wrong e
unfolding record_checked ◌⟫◌⇒◌
wrong_record e n cbits i taken r = rw (wrong_operands e n i [] (qubits_of (kind_of r.kind) r.a r.b r.c))

pub wrong-records : (e : PbcError) (n cbits i : ℕ) (taken : List ℕ) (rs : List Record) → records_checked (Wrong e) n cbits i taken rs ≡ Wrong e
unfolding records_checked
wrong-records e n cbits i taken [] = refl
wrong-records e n cbits i taken (r ∷ rs) = rw (wrong_record e n cbits i taken r) (wrong-records e n cbits (suc i) (taken_with r taken) rs)

-- what is refused already stays so
pub stays_refused : (k : Checked) (n cbits i : ℕ) (taken : List ℕ) (rs : List Record) → (k ≡ Fine → ⊥) → k ≡ records_checked k n cbits i taken rs
stays_refused Fine n cbits i taken rs h = absurd (h refl)
stays_refused (Wrong e) n cbits i taken rs h = sym (wrong-records e n cbits i taken rs)

-- 4nL does not overflow
pub plane_words : (n l : ℕ) → n < 4294967296 → l ≡ part_words n → 4 * n * l ≤ 4 * n * 67108864
plane_words n l h e = mul-le-mul_left (4 * n) (omega arith)

-- ---- frame gates

unused_any : (k : ℕ) (ws : List ℕ) → list_any (λ w. leb k (w / 4)) ws ≡ names_unused k ws
unused_any k [] = refl
unused_any k (w ∷ ws) = ap (λ b. leb k (w / 4) || b) (unused_any k ws)

frame_by : (k : GateKind) (a b : ℕ) → eqb (length (frame_gates k a b)) 0 ≡ not (is_frame k)
unfolding is_frame frame_gates lower_as
frame_by KindH a b = refl
frame_by KindX a b = refl
frame_by KindZ a b = refl
frame_by KindS a b = refl
frame_by KindSdg a b = refl
frame_by KindT a b = refl
frame_by KindTdg a b = refl
frame_by KindCnot a b = refl
frame_by KindCz a b = refl
frame_by KindCcx a b = refl
frame_by KindCcz a b = refl
frame_by KindMeasure a b = refl
frame_by KindY a b = refl
frame_by KindSx a b = refl
frame_by KindSwap a b = refl
frame_by KindCy a b = refl
frame_by Unsupported a b = refl

nodes_by : (k : GateKind) (a b : ℕ) → total gate_nodes (frame_gates k a b) ≡ frame_nodes k
unfolding frame_nodes frame_gates lower_as
nodes_by KindH a b = refl
nodes_by KindX a b = refl
nodes_by KindZ a b = refl
nodes_by KindS a b = refl
nodes_by KindSdg a b = refl
nodes_by KindT a b = refl
nodes_by KindTdg a b = refl
nodes_by KindCnot a b = refl
nodes_by KindCz a b = refl
nodes_by KindCcx a b = refl
nodes_by KindCcz a b = refl
nodes_by KindMeasure a b = refl
nodes_by KindY a b = refl
nodes_by KindSx a b = refl
nodes_by KindSwap a b = refl
nodes_by KindCy a b = refl
nodes_by Unsupported a b = refl

pub clifford_checked : (h : Header) (nodes : ℕ) (fs : List ℕ) (kind a b : ℕ) (r₁ r₂ r₃ r₄ r₅ : Checked)
    → r₁ ≡ (Fine ⟫ breaks_limit h || exceeds_nodes h nodes || names_unused h.nodes (take (2 * h.qubits) fs) ⇒ BadStore) → r₂ ≡ (r₁ ⟫ not (is_frame (kind_of kind)) ⇒ NonCliffordFrameGate kind)
    → r₃ ≡ operands_checked r₂ h.qubits 0 [] (qubits_of (kind_of kind) a b 0) → r₄ ≡ (r₃ ⟫ ltb (length fs) (2 * h.qubits) ⇒ NoFrame)
    → r₅ ≡ (r₄ ⟫ no_node_room h nodes (frame_nodes (kind_of kind)) ⇒ NoNodes) → r₅ ≡ clifford_check h nodes fs kind a b
unfolding clifford_check
clifford_checked h nodes fs kind a b r₁ r₂ r₃ r₄ r₅ e₁ e₂ e₃ e₄ e₅ =
    rw (e₅, e₄, e₃, e₂, e₁, unused_any h.nodes (take (2 * h.qubits) fs), frame_by (kind_of kind) a b, nodes_by (kind_of kind) a b)

pub measures_by : (k : GateKind) → (has_shape k Measured ≡ true → 1 ≡ measures_of k) × (has_shape k Measured ≡ false → 0 ≡ measures_of k)
measures_by k = ((λ e. rw e), λ e. rw e)

-- ---- a record that passes its checks

pub and_both : (a b : Bool) → (a && b) ≡ true → (a ≡ true) × (b ≡ true)
and_both true b e = (refl, e)
and_both false b e = (e, (let z : ◌≡◌ {A = ℕ} 0 1 = cc in absurd (omega arith)))

sound_by : (s : Checked) (n cbits i number : ℕ) (t : Shape) (a b c : ℕ) → a < n → b < bound_by n t → (bit_or b (apart_by t) ≡ a → ⊥)
    → (eqb (shape_number t) 3 ≡ true → (c < n) × (c ≡ a → ⊥) × (c ≡ b → ⊥))
    → (operands_checked (s ⟫ eqb (shape_number t) 0 ⇒ UnsupportedGate i number) n i [] (qubits_by t a b c) ⟫ eqb (shape_number t) 4 && leb cbits b ⇒ ClassicalBitOutOfRange i b) ≡ s
unfolding operands_checked ◌⟫◌⇒◌
sound_by s n cbits i number NoShape a b c ha hb hd hc = absurd (omega arith)
sound_by s n cbits i number Measured a b c ha hb hd hc = absurd (omega arith)
sound_by (Wrong e) n cbits i number OneQubit a b c ha hb hd hc = refl
sound_by (Wrong e) n cbits i number TwoQubits a b c ha hb hd hc = refl
sound_by (Wrong e) n cbits i number ThreeQubits a b c ha hb hd hc = refl
sound_by Fine n cbits i number OneQubit a b c ha hb hd hc = rw (lt-leb n a ha)
sound_by Fine n cbits i number TwoQubits a b c ha hb hd hc = rw (lt-leb n a ha, lt-leb n b hb, ne_eqb b a (λ e. hd (or_zero_r b ∙ e)))
sound_by Fine n cbits i number ThreeQubits a b c ha hb hd hc =
    let r = hc refl in
    rw (lt-leb n a ha, lt-leb n b hb, ne_eqb b a (λ e. hd (or_zero_r b ∙ e)), lt-leb n c r.0, ne_eqb c a r.1, ne_eqb c b r.2)

sound_measure : (s : Checked) (n cbits i number a b c : ℕ) → a < n → b < cbits
    → (operands_checked (s ⟫ false ⇒ UnsupportedGate i number) n i [] (qubits_by Measured a b c) ⟫ leb cbits b ⇒ ClassicalBitOutOfRange i b) ≡ s
unfolding operands_checked ◌⟫◌⇒◌
sound_measure (Wrong e) n cbits i number a b c ha hb = refl
sound_measure Fine n cbits i number a b c ha hb = rw (lt-leb n a ha, lt-leb cbits b hb)

-- of a measurement whose operands are sound, 24 alone is left
pub target_record : (s : Checked) (n cbits i : ℕ) (taken : List ℕ) (r : Record) → is_measure (kind_of r.kind) ≡ true → r.a < n → r.b < cbits
    → record_checked s n cbits i taken r ≡ (s ⟫ member r.b taken ⇒ TargetTaken i r.b)
unfolding record_checked qubits_of
target_record s n cbits i taken r m ha hb = rw (has_shape_lem (kind_of r.kind) Measured m, sound_measure s n cbits i r.kind r.a r.b r.c ha hb)

pub taken_record : (n cbits i : ℕ) (taken : List ℕ) (r : Record) → is_measure (kind_of r.kind) ≡ true → r.a < n → r.b < cbits → member r.b taken ≡ true
    → record_checked Fine n cbits i taken r ≡ Wrong (TargetTaken i r.b)
unfolding ◌⟫◌⇒◌
taken_record n cbits i taken r m ha hb again = target_record Fine n cbits i taken r m ha hb ∙ rw again

pub refuted : {A : Type 0} → false ≡ true → A
refuted e = let z : ◌≡◌ {A = ℕ} 0 1 = cc in absurd (omega arith)

-- of k numbers from j on, which pass a test
passing : (ℕ → Bool) → ℕ → ℕ → List Bool
passing f j zero = []
passing f j (suc k) = f j ∷ passing f (suc j) k

passing_at : (f : ℕ → Bool) (j k m : ℕ) → m < k → get_or (passing f j k) m false ≡ f (j + m)
unfolding passing
passing_at f j zero m h = absurd (omega arith)
passing_at f j (suc k) zero h = rw (add-zero j)
passing_at f j (suc k) (suc m) h = let e : suc j + m ≡ j + suc m = omega arith in passing_at f (suc j) k m (omega arith) ∙ ap f e

-- a test of kinds, by their numbers
test_at : (f : ℕ → Bool) (g : GateKind → Bool) → passing f 0 21 ≡ map g kinds → g Unsupported ≡ false → (number : ℕ) → number < 21 → f number ≡ g (kind_of number)
unfolding kind_of
test_at f g e u number h =
    ap f (sym (zero-add number))
    ∙ sym (passing_at f 0 21 number h)
    ∙ ap₂ (λ (l : List Bool) (d : Bool). get_or l number d) e (sym u)
    ∙ get_or-map g kinds number Unsupported

measures_at : (number : ℕ) → number < 21 → eqb number 12 ≡ is_measure (kind_of number)
unfolding passing
measures_at = test_at (λ q. eqb q 12) is_measure refl refl

doubly_at : (number : ℕ) → number < 21 → eqb (number / 2) 5 ≡ is_doubly (kind_of number)
unfolding passing
doubly_at = test_at (λ q. eqb (q / 2) 5) is_doubly refl refl

-- what has a word below its bound is no measurement
no_measure : (n b : ℕ) (t : Shape) → b < bound_by n t → eqb (shape_number t) 4 ≡ false
no_measure n b NoShape h = refl
no_measure n b OneQubit h = refl
no_measure n b TwoQubits h = refl
no_measure n b ThreeQubits h = refl
no_measure n b Measured h = absurd (omega arith)

pub passes : (n number bound above a b c : ℕ) → number < 21 → a < n → b < bound → (bit_or b above ≡ a → ⊥) → (number / 2 ≡ 5 → (c < n) × (c ≡ a → ⊥) × (c ≡ b → ⊥))
    → Passes n number bound above a b c
unfolding record_checked qubits_of
passes n number bound above a b c hn ha hb hd hc eb eo =
    let other = no_measure n b (shape_of (kind_of number)) (rw (← eb) hb) in (
      other,
      λ s cbits i taken. rw (other, no_test _ (TargetTaken i b))
          (rw other at (sound_by s n cbits i number (shape_of (kind_of number)) a b c ha (rw (← eb) hb) (rw (← eo) hd) (λ h. hc (eqb-true (number / 2) 5 (doubly_at number hn ∙ h))))),
    )

module _ (gs : List ℕ) (i number : ℕ) (h : i < length gs / 4) (en : number ≡ get_or gs (4 * i) 0) (hn : number < 21) where
  -- a record that is no measurement takes no bit
  pub same_targets : is_measure (kind_of number) ≡ false → taken_to gs (i + 1) ≡ taken_to gs i
  same_targets other = rw (targets_more gs i h, ← en, other)

  -- the records up to here pass, as does this one, which is no measurement
  pub pass_more : (n : ℕ) (bounds above : List ℕ) → Passes n number (get_or bounds number 0) (get_or above number 0) (get_or gs (4 * i + 1) 0) (get_or gs (4 * i + 2) 0) (get_or gs (4 * i + 3) 0)
      → bounds ≡ table_of (bound_of n) → above ≡ table_of apart_of → (cbits : ℕ) (s : Checked)
      → (taken_to gs (i + 1) ≡ taken_to gs i)
      × (records_checked s n cbits i (taken_to gs i) (drop i (records gs)) ≡ records_checked s n cbits (i + 1) (taken_to gs (i + 1)) (drop (i + 1) (records gs)))
  pass_more n bounds above p eb eo cbits s =
      let q = p (ap (λ t. get_or t number 0) eb ∙ table_at (bound_of n) number hn) (ap (λ t. get_or t number 0) eo ∙ table_at apart_of number hn) in (
        same_targets q.0,
        checks_more s n cbits gs i h ∙ ap (λ (t : Checked). records_checked t n cbits (i + 1) (taken_to gs (i + 1)) (drop (i + 1) (records gs))) (rw (← en) (q.1 s cbits i (taken_to gs i))),
      )

  -- a measurement takes its bit
  pub marks_more : (b : ℕ) → b ≡ get_or gs (4 * i + 2) 0 → eqb number 12 ≡ true → (ws ws' : List ℕ) → ws' ≡ marked b ws → Marks (taken_to gs i) ws → Marks (taken_to gs (i + 1)) ws'
  marks_more b eb₂ m ws ws' words M = rw (targets_more gs i h, words, ← eb₂, ← en, ← measures_at number hn, m) (more_marks b (taken_to gs i) ws M)

  -- and passes where it was not taken
  pub target_more : (n cbits a b : ℕ) → a ≡ get_or gs (4 * i + 1) 0 → b ≡ get_or gs (4 * i + 2) 0 → eqb number 12 ≡ true → a < n → b < cbits
      → (ws : List ℕ) → is_marked b ws ≡ false → cbits ≤ 64 * length ws → Marks (taken_to gs i) ws → (s : Checked)
      → records_checked s n cbits i (taken_to gs i) (drop i (records gs)) ≡ records_checked s n cbits (i + 1) (taken_to gs (i + 1)) (drop (i + 1) (records gs))
  target_more n cbits a b ea eb₂ m ha hb ws free room M s =
      let new : member b (taken_to gs i) ≡ false = sym (M.same b (omega arith)) ∙ free in
      checks_more s n cbits gs i h
      ∙ ap (λ (t : Checked). records_checked t n cbits (i + 1) (taken_to gs (i + 1)) (drop (i + 1) (records gs)))
      (rw (← en, ← ea, ← eb₂) (target_record s n cbits i (taken_to gs i) (record_of number a b _) (sym (measures_at number hn) ∙ m) ha hb ∙ rw new (no_test s (TargetTaken i b))))
