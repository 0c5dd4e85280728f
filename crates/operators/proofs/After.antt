-- A conversion and any later calls, as operators.
use mathlib.Core.Path.{◌≡◌, refl, ap, sym, ◌∙◌, subst}
use mathlib.Core.Bool.{Bool, true, false, cond}
use mathlib.Core.List.{List, [], ◌∷◌, ◌++◌, map, append-nil, append_assoc}
use Prim.Native.Nat.{ℕ, ◌+◌, ◌*◌, ◌<◌}
use lib.Dec.{eqb}
use lib.ListN.{length, get_or}
use Rattle.pauli.specs.Rows.{Row, Width, identity}
use Rattle.pauli.specs.Gates.{Gate, gate_h, gate_x, gate_z, gate_s, gate_sdg, gate_cnot, gate_cz, Valid, AllValid, forward}
use Rattle.pauli.specs.Table.{start, run}
use Rattle.pauli.specs.Rotations.{written, flush}
use Rattle.pauli.proofs.Conj.{hom-forward, forward-back, back-forward}
use Rattle.arena.specs.Builder.{rotate_step, measure_step, conditional_step}
use Rattle.arena.proofs.Accepted.{passed_before, test_passed}
use Rattle.convert.specs.Records.{kind_of, lower_as, bare}
use Rattle.convert.specs.Plain.{Operation, rotate_by, measure_of, conditional_by, malformed, flush_from}
use Rattle.convert.specs.Frame.{frame_gates, qubits_of, clifford_check, clifford_step}
use Rattle.convert.specs.Conversion.{Input, limits, gates_in, plain_end, paper_end, convert_check}
use Rattle.convert.specs.Later.{Circuit, converted, LaterCall, call_frame, call_single, call_product, call_rotate, call_measure, call_conditional, call_expand, call_hermitian, call_weights}
use Rattle.convert.specs.Later.{lend_operations, later, laters, gates_of, fed}
use Rattle.convert.specs.Statement.{Frame, frame_images, end_gates}
use Rattle.convert.proofs.Accepted.{accepted, passed_operands, fits_gate}
use Rattle.convert.proofs.Meaning.Papers.{agrees}
use Rattle.convert.proofs.Calls.Table.{Good, gates-framed, good-laters, good-converted}
use Rattle.convert.proofs.Theorems.{demand3}
use Rattle.operators.specs.Types.{PbcError, Checked, Fine, Wrong, Pushed, PushedMade, PushedRefused, Measured, MeasuredMade, MeasuredRefused}
use Rattle.operators.specs.Types.{GateKind, KindH, KindX, KindZ, KindS, KindSdg, KindT, KindTdg, KindCnot, KindCz, KindCcx, KindCcz, KindMeasure, KindY, KindSx, KindSwap, KindCy, Unsupported, Target}
use Rattle.operators.specs.Operators.{Operators, root_to, turn}
use Rattle.operators.specs.Textbook.{seen, record_operator, gate_operator, gates_operator}
use Rattle.operators.specs.Whole.{operations_of, operation_operator, operations_operator}
use Rattle.operators.specs.After.{pushed_by, pushed, at_end, call_operator, after_operator, After}
use Rattle.operators.proofs.Widths.{wide}
use Rattle.operators.proofs.Elements.{turns}
use Rattle.operators.proofs.Ring.{root_past, root_add}
use Rattle.operators.proofs.Eigen.{turn-back}
use Rattle.operators.proofs.Gates.{gate_phase, gate-turns, turns-append, flush-snoc}
use Rattle.operators.proofs.Carried.{gates_phase, as_gates, undo, undone_left, undone_right, row_past}
use Rattle.operators.proofs.Records.{kind_operator, by_kind}
use Rattle.operators.proofs.Runs.{ops_append, seen_back}
use Rattle.operators.proofs.Whole.{image-back, width_place, Ends, ends}

-- ---- the axes of operations
abbrev WideOperation : ℕ → Operation → Type 0
WideOperation n (rotate_by k P) = Width n P
WideOperation n (measure_of P m t) = Width n P
WideOperation n (conditional_by k P m) = Width n P
WideOperation n malformed = Unit {0}

abbrev AllWide : ℕ → List Operation → Type 0
AllWide n [] = Unit {0}
AllWide n (o ∷ os) = WideOperation n o × AllWide n os

wide-made : (n : ℕ) (a : Pushed) (o : Operation) → WideOperation n o → AllWide n (elim a [ PushedMade h ↦ o ∷ [] | PushedRefused e ↦ [] ])
wide-made n (PushedMade h) o w = (w, tt)
wide-made n (PushedRefused e) o w = tt

wide-measured : (n : ℕ) (a : Measured) (P : Row) (t : Target) → Width n P → AllWide n (elim a [ MeasuredMade h m ↦ measure_of P m.1 t ∷ [] | MeasuredRefused e ↦ [] ])
wide-measured n (MeasuredMade h m) P t w = (w, tt)
wide-measured n (MeasuredRefused e) P t w = tt

module _ {n : ℕ} (O : Operators n) (outcome : ℕ → Bool) where
  infixl 65 ◌⊠◌
  abbrev ◌⊠◌ : O.Op → O.Op → O.Op
  a ⊠ b = O.times a b

  abbrev ops : List Operation → O.Op
  ops os = operations_operator O outcome os

  abbrev since : List Gate → O.Op
  since gs = turns O (flush n gs)

  -- ---- a frame gate

  gate_after : (g : Gate) → Valid n g → (gs : List Gate) → gate_operator O g ⊠ since gs ≡ root_to O (gate_phase O g) ⊠ since (gs ++ g ∷ [])
  gate_after g v gs =
      ap (λ a. a ⊠ since gs) (gate-turns O g v) ∙ O.times_assoc (root_to O (gate_phase O g)) (turns O (written n g)) (since gs)
      ∙ ap (λ a. root_to O (gate_phase O g) ⊠ a) (sym (turns-append O (flush n gs) (written n g)) ∙ ap (turns O) (sym (flush-snoc O gs g)))

  -- what a does after the gates gs is what the operations os do, and then the gates gs'
  pub record Moved (a : O.Op) (gs gs' : List Gate) (os : List Operation) : Type 0 where
    pub phase : ℕ
    pub same : (b : O.Op) → a ⊠ (since gs ⊠ b) ≡ root_to O phase ⊠ (since gs' ⊠ (ops os ⊠ b))

  moved_gate : (g : Gate) → Valid n g → (gs : List Gate) → Moved (gate_operator O g) gs (gs ++ g ∷ []) []
  moved_gate g v gs = record {
    phase = gate_phase O g;
    same = λ b. sym (O.times_assoc (gate_operator O g) (since gs) b) ∙ ap (λ a. a ⊠ b) (gate_after g v gs) ∙ O.times_assoc (root_to O (gate_phase O g)) (since (gs ++ g ∷ [])) b
        ∙ ap (λ c. root_to O (gate_phase O g) ⊠ (since (gs ++ g ∷ []) ⊠ c)) (sym (O.one_left b));
  }

  moved_kind : (k : GateKind) (a b : ℕ) (gs : List Gate) → eqb (length (frame_gates k a b)) 0 ≡ false → AllValid n (frame_gates k a b)
      → Moved (kind_operator O outcome (outcome 0) a b 0 k) gs (gs ++ frame_gates k a b) []
  unfolding frame_gates lower_as
  moved_kind KindH a b gs e v = moved_gate (gate_h a) v.0 gs
  moved_kind KindX a b gs e v = moved_gate (gate_x a) v.0 gs
  moved_kind KindZ a b gs e v = moved_gate (gate_z a) v.0 gs
  moved_kind KindS a b gs e v = moved_gate (gate_s a) v.0 gs
  moved_kind KindSdg a b gs e v = moved_gate (gate_sdg a) v.0 gs
  moved_kind KindCnot a b gs e v = moved_gate (gate_cnot a b) v.0 gs
  moved_kind KindCz a b gs e v = moved_gate (gate_cz a b) v.0 gs
  moved_kind KindT a b gs e v = absurd (subst (λ c. cond c (Unit {0}) ⊥) e tt)
  moved_kind KindTdg a b gs e v = absurd (subst (λ c. cond c (Unit {0}) ⊥) e tt)
  moved_kind KindCcx a b gs e v = absurd (subst (λ c. cond c (Unit {0}) ⊥) e tt)
  moved_kind KindCcz a b gs e v = absurd (subst (λ c. cond c (Unit {0}) ⊥) e tt)
  moved_kind KindMeasure a b gs e v = absurd (subst (λ c. cond c (Unit {0}) ⊥) e tt)
  moved_kind KindY a b gs e v = absurd (subst (λ c. cond c (Unit {0}) ⊥) e tt)
  moved_kind KindSx a b gs e v = absurd (subst (λ c. cond c (Unit {0}) ⊥) e tt)
  moved_kind KindSwap a b gs e v = absurd (subst (λ c. cond c (Unit {0}) ⊥) e tt)
  moved_kind KindCy a b gs e v = absurd (subst (λ c. cond c (Unit {0}) ⊥) e tt)
  moved_kind Unsupported a b gs e v = absurd (subst (λ c. cond c (Unit {0}) ⊥) e tt)

  moved_nothing : (gs : List Gate) → Moved O.one gs (gs ++ []) []
  moved_nothing gs = rw append-nil (record { phase = 0; same = λ b. ap (λ a. O.one ⊠ (since gs ⊠ a)) (sym (O.one_left b)) })

  module _ (k a b : ℕ) (gs : List Gate) (s : Circuit) (q : s.header.qubits ≡ n) where
    made : clifford_check s.header (length s.nodes) s.frame k a b ≡ Fine
        → call_operator O outcome gs (call_frame k a b) s ≡ record_operator O outcome 0 (record { kind = k; a = a; b = b; c = 0 })
    unfolding call_operator clifford_step
    made e = rw (e, call_operator)

    refused : (x : PbcError) → clifford_check s.header (length s.nodes) s.frame k a b ≡ Wrong x → call_operator O outcome gs (call_frame k a b) s ≡ O.one
    unfolding call_operator clifford_step
    refused x e = rw (e, call_operator)

    gates_none : (x : PbcError) → clifford_check s.header (length s.nodes) s.frame k a b ≡ Wrong x → gates_of (call_frame k a b) s ≡ []
    unfolding gates_of clifford_step
    gates_none x e = rw (e, gates_of)

    moved-accepted : clifford_check s.header (length s.nodes) s.frame k a b ≡ Fine
        → Moved (record_operator O outcome 0 (record { kind = k; a = a; b = b; c = 0 })) gs (gs ++ frame_gates (kind_of k) a b) []
    unfolding clifford_check
    moved-accepted e = rw (by_kind O outcome (outcome 0) a b 0 k) (moved_kind (kind_of k) a b gs some valid)
      where
        some : eqb (length (frame_gates (kind_of k) a b)) 0 ≡ false
        some = test_passed _ _ _ (passed_operands _ s.header.qubits 0 [] (qubits_of (kind_of k) a b 0) (passed_before _ _ _ (passed_before _ _ _ e)))

        valid : AllValid n (frame_gates (kind_of k) a b)
        valid = subst (λ m. AllValid m (frame_gates (kind_of k) a b)) q (fits_gate s.header (length s.nodes) s.frame k a b e).valid

    moved_frame : Moved (call_operator O outcome gs (call_frame k a b) s) gs (gs ++ gates_of (call_frame k a b) s) []
    moved_frame = go (clifford_check s.header (length s.nodes) s.frame k a b) refl
      where
        go : (c : Checked) → clifford_check s.header (length s.nodes) s.frame k a b ≡ c
            → Moved (call_operator O outcome gs (call_frame k a b) s) gs (gs ++ gates_of (call_frame k a b) s) []
        go Fine e = rw (made e, gates-framed s k a b e) (moved-accepted e)
        go (Wrong x) e = rw (refused x e, gates_none x e) (moved_nothing gs)

  -- ---- operations

  operation_back : (gs : List Gate) → AllValid n gs → (o : Operation) → WideOperation n o
      → operation_operator O outcome (at_end gs o) ⊠ since gs ≡ since gs ⊠ operation_operator O outcome o
  operation_back gs v (rotate_by k P) w = turn-back O gs v k (forward gs P) ((hom-forward n gs v).width P w) ∙ ap (λ R. since gs ⊠ turn O k R) (back-forward n gs P v w)
  operation_back gs v (measure_of P m t) w =
      seen_back O outcome gs v (outcome m) (forward gs P) ((hom-forward n gs v).width P w) ∙ ap (λ R. since gs ⊠ seen O (outcome m) R) (back-forward n gs P v w)
  operation_back gs v (conditional_by k P m) w = go (outcome m)
    where
      go : (x : Bool) → cond x (turn O k (forward gs P)) O.one ⊠ since gs ≡ since gs ⊠ cond x (turn O k P) O.one
      go true = turn-back O gs v k (forward gs P) ((hom-forward n gs v).width P w) ∙ ap (λ R. since gs ⊠ turn O k R) (back-forward n gs P v w)
      go false = O.one_left (since gs) ∙ sym (O.one_right (since gs))
  operation_back gs v malformed w = O.none_left (since gs) ∙ sym (O.none_right (since gs))

  operations_back : (gs : List Gate) → AllValid n gs → (os : List Operation) → AllWide n os → ops (map (at_end gs) os) ⊠ since gs ≡ since gs ⊠ ops os
  operations_back gs v [] w = O.one_left (since gs) ∙ sym (O.one_right (since gs))
  operations_back gs v (o ∷ os) w =
      O.times_assoc (ops (map (at_end gs) os)) (operation_operator O outcome (at_end gs o)) (since gs) ∙ ap (λ a. ops (map (at_end gs) os) ⊠ a) (operation_back gs v o w.0)
      ∙ sym (O.times_assoc (ops (map (at_end gs) os)) (since gs) (operation_operator O outcome o)) ∙ ap (λ a. a ⊠ operation_operator O outcome o) (operations_back gs v os w.1)
      ∙ O.times_assoc (since gs) (ops os) (operation_operator O outcome o)

  moved_operations : (gs : List Gate) → AllValid n gs → (os : List Operation) → AllWide n os → Moved (ops (map (at_end gs) os)) gs (gs ++ []) os
  moved_operations gs v os w = rw append-nil (record {
    phase = 0;
    same = λ b. sym (O.times_assoc (ops (map (at_end gs) os)) (since gs) b) ∙ ap (λ a. a ⊠ b) (operations_back gs v os w) ∙ O.times_assoc (since gs) (ops os) b ∙ sym (O.one_left _);
  })

  -- ---- a call

  moved_call : (c : LaterCall) (gs : List Gate) → AllValid n gs → (s : Circuit) → s.header.qubits ≡ n
      → Moved (call_operator O outcome gs c s) gs (gs ++ gates_of c s) (pushed_by c s)
  unfolding call_operator pushed_by gates_of
  moved_call (call_frame k a b) gs v s q = moved_frame k a b gs s q
  moved_call (call_single j a) gs v s q = moved_nothing gs
  moved_call (call_product l r) gs v s q = moved_nothing gs
  moved_call (call_rotate x k) gs v s q = moved_operations gs v _ (wide-made n (rotate_step s.header s.operations x k).answer _ (wide n s q x.0.word))
  moved_call (call_measure x t) gs v s q = moved_operations gs v _ (wide-measured n (measure_step s.header s.operations x t).answer _ t (wide n s q x.0.word))
  moved_call (call_conditional x k m) gs v s q = moved_operations gs v _ (wide-made n (conditional_step s.header s.operations x k m).answer _ (wide n s q x.0.word))
  moved_call (call_expand letters scratch pool r cells) gs v s q = moved_nothing gs
  moved_call (call_hermitian scratch pool r limit) gs v s q = moved_nothing gs
  moved_call (call_weights scratch pool limit) gs v s q = moved_nothing gs
  moved_call (lend_operations words) gs v s q = moved_nothing gs

  -- ---- any calls

  then : (a b : O.Op) (gs gs₁ gs₂ : List Gate) (os ps : List Operation) → Moved a gs gs₁ os → Moved b gs₁ gs₂ ps → Moved (b ⊠ a) gs gs₂ (os ++ ps)
  then a b gs gs₁ gs₂ os ps A B = record {
    phase = A.phase + B.phase;
    same = λ c. O.times_assoc b a (since gs ⊠ c) ∙ ap (λ d. b ⊠ d) (A.same c) ∙ root_past O b A.phase (since gs₁ ⊠ (ops os ⊠ c))
        ∙ ap (λ d. root_to O A.phase ⊠ d) (B.same (ops os ⊠ c)) ∙ root_add O A.phase B.phase _
        ∙ ap (λ d. root_to O (A.phase + B.phase) ⊠ (since gs₂ ⊠ d)) (sym (O.times_assoc (ops ps) (ops os) c) ∙ ap (λ d. d ⊠ c) (sym (ops_append O outcome os ps)));
  }

  good_next : (c : LaterCall) (s : Circuit) (t : List Row) (gs : List Gate) → Good n s t gs → Good n (later c s) (run n (gates_of c s) t) (gs ++ gates_of c s)
  unfolding laters fed
  good_next c s t gs G = subst (λ hs. Good n (later c s) (run n hs t) (gs ++ hs)) (append-nil (gates_of c s)) (good-laters n (c ∷ []) s t gs G)

  pub all_called : (cs : List LaterCall) (gs : List Gate) (s : Circuit) (t : List Row) → Good n s t gs → Moved (after_operator O outcome gs cs s) gs (gs ++ fed cs s) (pushed cs s)
  unfolding after_operator pushed fed
  all_called [] gs s t G = moved_nothing gs
  all_called (c ∷ cs) gs s t G =
      then _ _ gs (gs ++ gates_of c s) _ (pushed_by c s) (pushed cs (later c s)) (moved_call c gs G.valid s G.qubits)
      (subst (λ hs. Moved (after_operator O outcome (gs ++ gates_of c s) cs (later c s)) (gs ++ gates_of c s) hs (pushed cs (later c s))) (append_assoc gs (gates_of c s) (fed cs (later c s)))
      (all_called cs (gs ++ gates_of c s) (later c s) _ (good_next c s t gs G)))

-- ---- an accepted conversion and any later calls

module _ (x : Input) (e : convert_check limits x ≡ Fine) (cs : List LaterCall) where
  start-good : Good x.qubits (converted x) (plain_end x).table (bare (paper_end x).since)
  unfolding plain_end paper_end
  start-good = subst (λ gs. Good x.qubits (converted x) (plain_end x).table gs)
      (ap (λ gs. bare gs) (agrees flush_from x.qubits x.cbits x.cap (gates_in x) (accepted limits x e).proper).pending) (good-converted x e)

  same_gates : end_gates x cs ≡ bare (paper_end x).since ++ fed cs (converted x)
  unfolding plain_end paper_end end_gates
  same_gates = ap (λ gs. bare gs ++ fed cs (converted x)) (agrees flush_from x.qubits x.cbits x.cap (gates_in x) (accepted limits x e).proper).pending

  all_valid : AllValid x.qubits (bare (paper_end x).since ++ fed cs (converted x))
  all_valid = (good-laters x.qubits cs (converted x) (plain_end x).table (bare (paper_end x).since) start-good).valid

  framed : Frame x.qubits (bare (paper_end x).since ++ fed cs (converted x)) (frame_images (laters cs (converted x)))
  framed = subst (λ gs. Frame x.qubits gs (frame_images (laters cs (converted x)))) same_gates (demand3 x e cs).frame

  -- an operation pushed along the image of a place acts at the circuit's end along the place's own X or Z
  pub place_own : (j : ℕ) → j < x.qubits + x.qubits
      → forward (end_gates x cs) (get_or (frame_images (laters cs (converted x))) j (identity x.qubits)) ≡ get_or (start x.qubits) j (identity x.qubits)
  place_own j hj =
      ap (λ gs. forward gs (get_or (frame_images (laters cs (converted x))) j (identity x.qubits))) same_gates
      ∙ ap (forward (bare (paper_end x).since ++ fed cs (converted x))) (sym (image-back x.qubits _ _ framed j hj))
      ∙ forward-back x.qubits (bare (paper_end x).since ++ fed cs (converted x)) (get_or (start x.qubits) j (identity x.qubits)) all_valid (width_place x.qubits j)

  pub after : (O : Operators x.qubits) (outcome : ℕ → Bool) → After x cs O outcome
  after O outcome = record {
    gates = gs;
    valid = all_valid;
    inverse = undo O gs;
    left = undone_left O gs all_valid;
    right = undone_right O gs all_valid;
    phase = E.phase + C.phase + 7 * gates_phase O gs;
    same =
        ap (λ a. O.times (after_operator O outcome (bare (paper_end x).since) cs (converted x)) a) E.same
        ∙ root_past O _ E.phase _ ∙ ap (λ a. O.times (root_to O E.phase) a) (C.same _) ∙ root_add O E.phase C.phase _
        ∙ ap (λ a. O.times (root_to O (E.phase + C.phase)) (O.times (turns O (flush x.qubits gs)) a)) (sym (ops_append O outcome (operations_of (converted x)) (pushed cs (converted x))))
        ∙ as_gates O gs all_valid (E.phase + C.phase) (operations_operator O outcome (operations_of (converted x) ++ pushed cs (converted x)));
    framed = λ j hj. row_past O gs all_valid (get_or (start x.qubits) j (identity x.qubits)) (width_place x.qubits j)
        ∙ ap (λ P. O.times (gates_operator O gs) (O.read P)) (image-back x.qubits gs _ framed j hj);
  }
    where
      gs : List Gate
      gs = bare (paper_end x).since ++ fed cs (converted x)

      E : Ends x O outcome
      E = ends x e O outcome

      C : Moved O outcome (after_operator O outcome (bare (paper_end x).since) cs (converted x)) (bare (paper_end x).since) gs (pushed cs (converted x))
      C = all_called O outcome cs (bare (paper_end x).since) (converted x) (plain_end x).table start-good
