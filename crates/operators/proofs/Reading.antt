-- Operations read from words: what changes no used operation leaves the reading, and one more operation is read after the others.
use mathlib.Core.Path.{◌≡◌, refl, ap, ap₂, sym, ◌∙◌, subst}
use mathlib.Core.List.{List, [], ◌∷◌, ◌++◌, map, append_assoc}
use Prim.Native.Nat.{ℕ, zero, suc, ◌+◌, ◌*◌, ◌≤◌, ◌<◌}
use native.Mathlib.Numerals.{add-one}
use native.Mathlib.Omega.{arith}
use lib.ListN.{length, get_or, take, drop, get_or-append}
use lib.Seq.{sets, sets-eq, length-take-le, get_or-append-add, get_or-take}
use Rattle.pauli.specs.Angle.{eighths_of}
use Rattle.arena.specs.Limits.{operation_words}
use Rattle.arena.specs.Operations.{decode_op}
use Rattle.arena.specs.Expansion.{op_at}
use Rattle.arena.proofs.NodeRows.{image-older}
use Rattle.convert.specs.Records.{From, from, map_from}
use Rattle.convert.specs.Plain.{Operation, rotate_by, measure_of, conditional_by}
use Rattle.convert.specs.Words.{decoded, op_from, meaning, ops_from, operations_in}
use Rattle.convert.specs.Later.{Circuit}
use Rattle.convert.proofs.Meaning.Words.{ops_more, map-append, OpUnder, OpsUnder}
use Rattle.operators.specs.Types.{Header, PbcOp, Rotate, Measure, ConditionalRotate, MalformedOp}
use Rattle.operators.specs.Whole.{sourced_of}

-- ---- lists of operations

ops_agree : {A : Type 0} (f g : ℕ → A) (i k : ℕ) → ((j : ℕ) → j < i + k → f j ≡ g j) → ops_from f i k ≡ ops_from g i k
ops_agree f g i zero h = refl
ops_agree f g i (suc k) h = ap₂ ◌∷◌ (h i (omega arith)) (ops_agree f g (suc i) k (λ j lt. h j (omega arith)))

ops_snoc : {A : Type 0} (f : ℕ → A) (i k : ℕ) → ops_from f i (suc k) ≡ ops_from f i k ++ f (i + k) ∷ []
ops_snoc f i zero = let e : i ≡ i + 0 = omega arith in ap (λ j. f j ∷ []) e
ops_snoc f i (suc k) = let e : suc i + k ≡ i + suc k = omega arith in ap (λ l. f i ∷ l) (ops_snoc f (suc i) k ∙ ap (λ j. ops_from f (suc i) k ++ f j ∷ []) e)

under_snoc : (k : ℕ) (os : List (From PbcOp)) (o : From PbcOp) → OpsUnder k os → OpUnder k o.what → OpsUnder k (os ++ o ∷ [])
under_snoc k [] o u v = (v, tt)
under_snoc k (p ∷ os) o u v = (u.0, under_snoc k os o u.1 v)

-- ---- older operations through newer nodes

module _ (n k m : ℕ) (ws vs : List ℕ) (le : k ≤ m) (e : take (2 * k) ws ≡ take (2 * k) vs) where
  meaning-older : (o : PbcOp) → OpUnder k o → meaning n m vs o ≡ meaning n k ws o
  unfolding meaning
  meaning-older (Rotate x a) u = ap (rotate_by (eighths_of a)) (image-older n k m ws vs x.0.word (omega arith) le e)
  meaning-older (Measure x i t) u = ap (λ P. measure_of P i.1 t) (image-older n k m ws vs x.0.word (omega arith) le e)
  meaning-older (ConditionalRotate x a i) u = ap (λ P. conditional_by (eighths_of a) P i.1) (image-older n k m ws vs x.0.word (omega arith) le e)
  meaning-older MalformedOp u = refl

  meanings-older : (os : List (From PbcOp)) → OpsUnder k os → map (map_from (meaning n m vs)) os ≡ map (map_from (meaning n k ws)) os
  meanings-older [] u = refl
  meanings-older (o ∷ os) u = ap₂ ◌∷◌ (ap (from o.index) (meaning-older o.what u.0)) (meanings-older os u.1)

-- a circuit with the same used operations over more nodes
pub record Kept (s s' : Circuit) : Type 0 where
  pub qubits : s'.header.qubits ≡ s.header.qubits
  pub owner : s'.header.owner ≡ s.header.owner
  pub cbits : s'.header.cbits ≡ s.header.cbits
  pub operations : s'.header.operations ≡ s.header.operations
  pub more : s.header.nodes ≤ s'.header.nodes
  pub older : take (2 * s.header.nodes) s.nodes ≡ take (2 * s.header.nodes) s'.nodes
  pub words : take (operation_words * s.header.operations) s'.operations ≡ take (operation_words * s.header.operations) s.operations

abbrev pub used_ops : Circuit → List (From PbcOp)
used_ops s = ops_from (op_from s.header s.operations) 0 s.header.operations

-- the axis of each used operation names a used node
abbrev pub Names : Circuit → Type 0
Names s = OpsUnder s.header.nodes (used_ops s)

module _ (s s' : Circuit) (K : Kept s s') (U : Names s) where
  same_word : (i : ℕ) → i < operation_words * s.header.operations → get_or s'.operations i 0 ≡ get_or s.operations i 0
  same_word i lt = sym (get_or-take (operation_words * s.header.operations) s'.operations i 0 lt) ∙ ap (λ l. get_or l i 0) K.words ∙ get_or-take (operation_words * s.header.operations) s.operations i 0 lt

  same_op : (i : ℕ) → i < s.header.operations → op_from s'.header s'.operations i ≡ op_from s.header s.operations i
  unfolding op_at
  same_op i lt = λ t. from (same_word (operation_words * i + 4) (omega arith) t)
      (decode_op (K.owner t) (K.cbits t) (same_word (operation_words * i) (omega arith) t) (same_word (operation_words * i + 1) (omega arith) t)
      (same_word (operation_words * i + 2) (omega arith) t) (same_word (operation_words * i + 3) (omega arith) t))

  same_ops : used_ops s' ≡ used_ops s
  same_ops = ap (ops_from (op_from s'.header s'.operations) 0) K.operations
      ∙ ops_agree (op_from s'.header s'.operations) (op_from s.header s.operations) 0 s.header.operations (λ j lt. same_op j (omega arith))

  pub names_kept : Names s'
  names_kept = subst (λ l. OpsUnder s'.header.nodes l) (sym same_ops) (ops_more s.header.nodes s'.header.nodes (used_ops s) K.more U)

  pub reads_kept : sourced_of s' ≡ sourced_of s
  unfolding operations_in
  reads_kept =
      ap₂ (λ q l. map (map_from (meaning q s'.header.nodes s'.nodes)) l) K.qubits same_ops
      ∙ meanings-older s.header.qubits s.header.nodes s'.header.nodes s.nodes s'.nodes K.more K.older (used_ops s) U

-- ---- one more operation

module _ (h h' : Header) (ops vs : List ℕ) (size : length vs ≡ operation_words) (room : operation_words * (h.operations + 1) ≤ length ops)
    (owner : h'.owner ≡ h.owner) (cbits : h'.cbits ≡ h.cbits) (count : h'.operations ≡ h.operations + 1) (nodes : h'.nodes ≡ h.nodes) (qubits : h'.qubits ≡ h.qubits) where
  after : List ℕ
  after = sets ops (operation_words * h.operations) vs

  laid : after ≡ take (operation_words * h.operations) ops ++ (vs ++ drop (operation_words * h.operations + length vs) ops)
  unfolding after
  laid = sets-eq vs ops (operation_words * h.operations) (omega arith) ∙ append_assoc (take (operation_words * h.operations) ops) vs (drop (operation_words * h.operations + length vs) ops)

  front : length (take (operation_words * h.operations) ops) ≡ operation_words * h.operations
  front = length-take-le (operation_words * h.operations) ops (omega arith)

  old_word : (i : ℕ) → i < operation_words * h.operations → get_or after i 0 ≡ get_or ops i 0
  old_word i lt = ap (λ l. get_or l i 0) laid ∙ get_or-append (take (operation_words * h.operations) ops) _ 0 i (omega (arith, front)) ∙ get_or-take (operation_words * h.operations) ops i 0 lt

  new_word : (i j : ℕ) → i ≡ operation_words * h.operations + j → j < operation_words → get_or after i 0 ≡ get_or vs j 0
  new_word i j at lt =
      let f : i ≡ length (take (operation_words * h.operations) ops) + j = at ∙ ap (λ m. m + j) (sym front) in
      ap₂ (λ l m. get_or l m 0) laid f ∙ get_or-append-add (take (operation_words * h.operations) ops) _ j 0 ∙ get_or-append vs _ 0 j (omega arith)

  old_op : (i : ℕ) → i < h.operations → op_from h' after i ≡ op_from h ops i
  unfolding op_at
  old_op i lt = λ t. from (old_word (operation_words * i + 4) (omega arith) t)
      (decode_op (owner t) (cbits t) (old_word (operation_words * i) (omega arith) t) (old_word (operation_words * i + 1) (omega arith) t)
      (old_word (operation_words * i + 2) (omega arith) t) (old_word (operation_words * i + 3) (omega arith) t))

  new_op : op_from h' after h.operations ≡ decoded h.owner h.cbits vs
  unfolding op_at
  new_op = λ t. from (new_word (operation_words * h.operations + 4) 4 (omega arith) (omega arith) t)
      (decode_op (owner t) (cbits t) (new_word (operation_words * h.operations) 0 (omega arith) (omega arith) t) (new_word (operation_words * h.operations + 1) 1 (omega arith) (omega arith) t)
      (new_word (operation_words * h.operations + 2) 2 (omega arith) (omega arith) t) (new_word (operation_words * h.operations + 3) 3 (omega arith) (omega arith) t))

  -- the operations before, and the new one
  abbrev older : List (From PbcOp)
  older = ops_from (op_from h ops) 0 h.operations

  abbrev newest : From PbcOp
  newest = decoded h.owner h.cbits vs

  all_ops : ops_from (op_from h' after) 0 h'.operations ≡ older ++ newest ∷ []
  all_ops =
      let z : 0 + h.operations ≡ h.operations = omega arith in
      ap (ops_from (op_from h' after) 0) (count ∙ add-one h.operations) ∙ ops_snoc (op_from h' after) 0 h.operations
      ∙ ap₂ (λ l o. l ++ o ∷ []) (ops_agree (op_from h' after) (op_from h ops) 0 h.operations (λ j lt. old_op j (omega arith))) (ap (op_from h' after) z ∙ new_op)

  pub under_pushed : OpsUnder h.nodes older → OpUnder h.nodes newest.what
      → OpsUnder h'.nodes (ops_from (op_from h' (sets ops (operation_words * h.operations) vs)) 0 h'.operations)
  unfolding after
  under_pushed U u = subst (λ l. OpsUnder h'.nodes l) (sym all_ops)
      (subst (λ m. OpsUnder m (older ++ newest ∷ [])) (sym nodes) (under_snoc h.nodes older newest U u))

  pub reads_pushed : (ws : List ℕ) (o : From Operation) → map_from (meaning h.qubits h.nodes ws) newest ≡ o
      → operations_in h' ws (sets ops (operation_words * h.operations) vs) ≡ operations_in h ws ops ++ o ∷ []
  unfolding operations_in after
  reads_pushed ws o e =
      ap₂ (λ q l. map (map_from (meaning q h'.nodes ws)) l) qubits all_ops
      ∙ ap (λ m. map (map_from (meaning h.qubits m ws)) (older ++ newest ∷ [])) nodes
      ∙ map-append (map_from (meaning h.qubits h.nodes ws)) older (newest ∷ [])
      ∙ ap (λ p. map (map_from (meaning h.qubits h.nodes ws)) older ++ p ∷ []) e
