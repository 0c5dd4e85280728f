-- What an accepted conversion leaves can be read; its reports are within the cap.
use mathlib.Core.Path.{◌≡◌, refl, ap, sym, ◌∙◌, subst}
use mathlib.Core.Bool.{Bool, true, false, cond, true≢false}
use mathlib.Core.List.{List, [], ◌∷◌, map}
use Prim.Native.Nat.{ℕ, zero, suc, ◌*◌, ◌%◌, ◌≤◌, ◌<◌}
use native.Mathlib.Omega.{arith}
use borrow.Author.Tests.{lt-ltb, eqb-true, eqb-false}
use lib.Dec.{eqb}
use lib.ListN.{length, drop, length-map}
use Rattle.pauli.specs.Angle.{eighths_of}
use Rattle.pauli.specs.Rows.{Row}
use Rattle.arena.specs.Limits.{operation_words, max_gates}
use Rattle.arena.specs.Nodes.{image}
use Rattle.arena.specs.declared.op.AxisKind.TheVariants.{the_data as AxisKind, None as NoKind, Pi8, Clifford}
use Rattle.arena.specs.Operations.{source_of, angle_kind, axis_kind}
use Rattle.arena.specs.Builder.{overlay}
use Rattle.arena.specs.Walk.{fine}
use Rattle.arena.specs.Readers.{counts_non_clifford, counts_clifford, Report}
use Rattle.arena.specs.Expansion.{op_at, is_bad_op, is_no_source, axis_word, report_by}
use Rattle.arena.specs.Reports.{kind_at, weight_at, Largest}
use Rattle.arena.proofs.Overlay.{length-overlay}
use Rattle.arena.proofs.Accepted.{Sound}
use Rattle.arena.proofs.Readable.{both_false, formed_over}
use Rattle.arena.proofs.WeightReports.{report-largest}
use Rattle.convert.specs.Types.{Header, PbcError, PbcOp, Rotate, Measure, ConditionalRotate, Malformed, Checked, Fine, Wrong}
use Rattle.convert.specs.Records.{Cap, NoCap, AtMost, records, From, map_from, without_index}
use Rattle.convert.specs.Plain.{plain_begin}
use Rattle.convert.specs.Words.{start_words, flat, decoded, meaning, op_from, ops_from, operations_in}
use Rattle.convert.specs.Conversion.{limits, Input, gates_in, plain_end, word_end, gates_check, convert_check, planes_after, converted_header, ConvertedMade, ConvertedRefused, convert_as, convert_within, convert_step}
use Rattle.convert.specs.Later.{converted}
use Rattle.convert.specs.Sources.{All}
use Rattle.convert.specs.Routing.{Within, Light, Routed, AllRouted, RoutedWeights}
use Rattle.convert.proofs.Accepted.{Accepted, accepted}
use Rattle.convert.proofs.Counts.Rest.{records-length}
use Rattle.convert.proofs.Meaning.Words.{Meant, without_mapped}
use Rattle.convert.proofs.Meaning.Formed.{Formed, formed_words}
use Rattle.convert.proofs.Meaning.Numbers.{Given, given-plain, AllNumbered, good_ops, all_at}
use Rattle.convert.proofs.Meaning.Operations.{AllSized, sized_run, length-flat, ops_read}
use Rattle.convert.proofs.Meaning.Sources.{all_mapped, paper_below}
use Rattle.convert.proofs.Calls.Table.{made-step, meant-input, agrees-input}
use Rattle.convert.proofs.Calls.Readable.{Reads}
use Rattle.convert.proofs.Calls.Operations.{Operates}

pub sized_words : (x : Input) → AllSized (word_end x).ops
unfolding word_end start_words
sized_words x = sized_run x.qubits x.cap (gates_in x) (plain_begin x.qubits) (start_words x.qubits) tt

gate_known : (g : ℕ) → g < max_gates → is_no_source (source_of g) ≡ false
unfolding source_of
gate_known g lt = rw (lt-ltb g max_gates lt)

module _ (x : Input) (e : convert_check limits x ≡ Fine) where
  A : Accepted limits x
  A = accepted limits x e

  M : Meant x.qubits x.owner x.cbits (plain_end x) (word_end x)
  M = meant-input x e

  given_input : Given (plain_end x)
  unfolding plain_end
  given_input = given-plain x.qubits x.cap (gates_in x)

  formed_input : Formed x.qubits (word_end x).arena
  unfolding word_end
  formed_input = formed_words x.qubits x.cbits x.cap (gates_in x) (accepted limits x e).proper

  -- as many operation words as plain operations
  ops_many : length (word_end x).ops ≡ length (plain_end x).operations
  ops_many =
      sym (length-map (map (decoded x.owner x.cbits) (word_end x).ops) (map_from (meaning x.qubits (word_end x).arena.count (word_end x).arena.nodes))
      ∙ length-map (word_end x).ops (decoded x.owner x.cbits))
      ∙ ap length M.core.written.reads

  sound_input : Sound (converted_header x)
  sound_input = record {
    qubits = A.qubits;
    cbits = A.cbits;
    some = omega (arith, M.core.leaves.size);
    nodes = A.nodes;
    operations = A.operations;
    measurements = omega (arith, given_input.few, ops_many);
  }

  nodes_are : (convert_step x).nodes ≡ overlay (word_end x).arena.nodes x.nodes
  nodes_are = ap (λ r. r.nodes) (made-step x e)

  operations_are : (convert_step x).operations ≡ overlay (flat (word_end x).ops) x.operations
  operations_are = ap (λ r. r.operations) (made-step x e)

  pub reads-converted : Reads (converted x)
  unfolding converted
  reads-converted = record {
    sound = sound_input;
    used = rw (nodes_are, length-overlay (word_end x).arena.nodes x.nodes (omega (arith, formed_input.even, A.nodes_lent))) (omega (arith, A.nodes_lent));
    formed = rw nodes_are (formed_over x.qubits (word_end x).arena.count (word_end x).arena.nodes (drop (length (word_end x).arena.nodes) x.nodes) formed_input.even
        ∙ formed_input.formed);
  }

  flat-size : length (flat (word_end x).ops) ≡ operation_words * length (word_end x).ops
  flat-size = length-flat (word_end x).ops (sized_words x)

  -- the operations that the words are read as
  ops : List (From PbcOp)
  ops = map (decoded x.owner x.cbits) (word_end x).ops

  all_good : All (λ o. is_bad_op (converted_header x) o.what ≡ false) ops
  unfolding ops
  all_good = good_ops (converted_header x) x.qubits (word_end x).arena.count (word_end x).arena.nodes (word_end x).ops M.core.written.below
      (subst (AllNumbered (plain_end x).given) (sym M.core.written.reads) given_input.numbered)

  -- each names a gate record of the list
  all_below : All (λ o. o.index < length (records x.gates)) ops
  unfolding ops
  all_below = all_mapped (λ i. i < length (records x.gates)) (meaning x.qubits (word_end x).arena.count (word_end x).arena.nodes) ops
      (subst (All (λ o. o.index < length (records x.gates))) (sym (M.core.written.reads ∙ (agrees-input x e).operations)) (paper_below x))

  few-records : length (records x.gates) ≤ max_gates
  few-records = omega (arith, records-length x.gates, A.gate_words)

  -- what holds of all of them holds of operation i of the words lent
  at_each : (P : From PbcOp → Type 0) → All P ops → (i : ℕ) → i < length (word_end x).ops → P (op_from (converted_header x) (overlay (flat (word_end x).ops) x.operations) i)
  unfolding ops
  at_each P h i lt = all_at P (op_from (converted_header x) (overlay (flat (word_end x).ops) x.operations)) 0 (length (word_end x).ops)
      (subst (All P) (sym (ops_read (converted_header x) (word_end x).ops _ (sized_words x))) h) i (omega arith) (omega arith)

  pub operates-converted : Operates (converted x)
  unfolding converted
  operates-converted = record {
    used = rw (operations_are, length-overlay (flat (word_end x).ops) x.operations (omega (arith, flat-size, A.operations_lent))) (omega (arith, A.operations_lent));
    good = λ i lt. rw operations_are (both_false _ _
        (at_each (λ o. is_bad_op (converted_header x) o.what ≡ false) all_good i lt)
        (gate_known _ (omega (arith, few-records, at_each (λ o. o.index < length (records x.gates)) all_below i lt))));
  }

-- ---- the weight reports, by the operations that are routed

ops_without : (op : ℕ → From PbcOp) (i k : ℕ) → without_index (ops_from op i k) ≡ ops_from (λ j. (op j).what) i k
ops_without op i zero = refl
ops_without op i (suc k) = ap (λ l. (op i).what ∷ l) (ops_without op (suc i) k)

all_map : {A B : Type 0} (P : B → Type 0) (f : A → B) (l : List A) → All P (map f l) → All (λ a. P (f a)) l
all_map P f [] h = tt
all_map P f (a ∷ l) h = (h.0, all_map P f l h.1)

-- a kind that counts as other than Clifford is of an odd angle, one that counts as Clifford of an even one
odd : (a : ℕ) → counts_non_clifford (angle_kind a) ≡ true → a % 2 ≡ 1
odd a = go (eqb a 0) (eqb (a % 2) 1) refl
  where
    go : (b c : Bool) → eqb (a % 2) 1 ≡ c → counts_non_clifford (cond b NoKind (cond c Pi8 Clifford)) ≡ true → a % 2 ≡ 1
    go true c p e = absurd (true≢false (sym e))
    go false true p e = eqb-true (a % 2) 1 p
    go false false p e = absurd (true≢false (sym e))

even : (zeros : Bool) (a : ℕ) → counts_clifford zeros (angle_kind a) ≡ true → a % 2 ≡ 0
even zeros a = go (eqb a 0) (eqb (a % 2) 1) refl refl
  where
    go : (b c : Bool) → eqb a 0 ≡ b → eqb (a % 2) 1 ≡ c → counts_clifford zeros (cond b NoKind (cond c Pi8 Clifford)) ≡ true → a % 2 ≡ 0
    go true c p q e = ap (λ k. k % 2) (eqb-true a 0 p)
    go false true p q e = absurd (true≢false (sym e))
    go false false p q e = let ne : a % 2 ≡ 1 → ⊥ = eqb-false (a % 2) 1 q in omega arith

module _ (zeros : Bool) (cap : Cap) (h : Header) (nodes ops : List ℕ) (a : AllRouted cap (without_index (operations_in h nodes ops))) where
  abbrev seen : ℕ → Row
  seen w = image h.qubits h.nodes nodes w

  plain : without_index (operations_in h nodes ops) ≡ map (meaning h.qubits h.nodes nodes) (ops_from (op_at h ops) 0 h.operations)
  unfolding operations_in
  plain = without_mapped (meaning h.qubits h.nodes nodes) (ops_from (op_from h ops) 0 h.operations)
      ∙ ap (map (meaning h.qubits h.nodes nodes)) (ops_without (op_from h ops) 0 h.operations)

  routed_at : (i : ℕ) → i < h.operations → Routed cap (meaning h.qubits h.nodes nodes (op_at h ops i))
  routed_at i lt = all_at (λ o. Routed cap (meaning h.qubits h.nodes nodes o)) (op_at h ops) 0 h.operations
      (all_map (Routed cap) (meaning h.qubits h.nodes nodes) (ops_from (op_at h ops) 0 h.operations) (subst (AllRouted cap) plain a)) i (omega arith) (omega arith)

  counts_within : (o : PbcOp) → Routed cap (meaning h.qubits h.nodes nodes o) → counts_non_clifford (axis_kind o) ≡ true → Within cap (seen (axis_word o))
  unfolding meaning axis_kind
  counts_within (Rotate x k) r e = (r.0 (odd (eighths_of k) e)).1
  counts_within (Measure x m t) r e = r.1
  counts_within (ConditionalRotate x k m) r e = absurd r
  counts_within Malformed r e = absurd r

  counts_light : (o : PbcOp) → Routed cap (meaning h.qubits h.nodes nodes o) → counts_clifford zeros (axis_kind o) ≡ true → Light cap (seen (axis_word o))
  unfolding meaning axis_kind
  counts_light (Rotate x k) r e = r.1 (even zeros (eighths_of k) e)
  counts_light (Measure x m t) r e = absurd (true≢false (sym e))
  counts_light (ConditionalRotate x k m) r e = absurd r
  counts_light Malformed r e = absurd r

  -- what holds of 0 and of each weight that counts holds of the largest
  by_largest : (P : ℕ → Type 0) (counts : AxisKind → Bool) (most : ℕ) → Largest h nodes ops counts most → P 0
      → ((i : ℕ) → i < h.operations → counts (kind_at h nodes ops i) ≡ true → P (weight_at h nodes ops i)) → P most
  by_largest P counts zero L z f = z
  by_largest P counts (suc m) L z f = let r = L.reached (λ (e : suc m ≡ 0). omega arith) in subst P r.3 (f r.0 r.1 r.2)

  pub weights_routed : (scratch pool : List ℕ) (limit : ℕ) (r : Report) → (report_by zeros h nodes ops scratch pool limit).answer ≡ fine r → RoutedWeights cap r.weights
  weights_routed scratch pool limit r p = go cap refl
    where
      L : Largest h nodes ops counts_non_clifford r.weights.non_clifford × Largest h nodes ops (counts_clifford zeros) r.weights.clifford
      L = report-largest zeros h nodes ops scratch pool limit r p

      light : (i : ℕ) → i < h.operations → counts_clifford zeros (kind_at h nodes ops i) ≡ true → Light cap (seen (axis_word (op_at h ops i)))
      light i lt e = counts_light (op_at h ops i) (routed_at i lt) e

      go : (c : Cap) → cap ≡ c → RoutedWeights c r.weights
      go NoCap e = by_largest (λ m. m ≡ 0) (counts_clifford zeros) r.weights.clifford L.1 refl (λ i lt k. absurd (subst (λ c. Light c (seen (axis_word (op_at h ops i)))) e (light i lt k)))
      go (AtMost w) e = (
        by_largest (λ m. m ≤ w) counts_non_clifford r.weights.non_clifford L.0 (omega arith)
            (λ i lt k. subst (λ c. Within c (seen (axis_word (op_at h ops i)))) e (counts_within (op_at h ops i) (routed_at i lt) k)),
        by_largest (λ m. m ≤ 2) (counts_clifford zeros) r.weights.clifford L.1 (omega arith)
            (λ i lt k. (subst (λ c. Light c (seen (axis_word (op_at h ops i)))) e (light i lt k)).1),
      )

-- ---- the answer of a conversion

pub converted-made : (x : Input) (h : Header) → (convert_step x).answer ≡ ConvertedMade h → (convert_check limits x ≡ Fine) × (h ≡ converted_header x)
unfolding convert_step convert_within
converted-made x h = go (convert_check limits x) refl
  where
    go : (c : Checked) → convert_check limits x ≡ c → (convert_as c (planes_after (gates_check limits x) x) x).answer ≡ ConvertedMade h
        → (convert_check limits x ≡ Fine) × (h ≡ converted_header x)
    go Fine p e = let same : converted_header x ≡ h = cc in (p, sym same)
    go (Wrong y) p e = let z : ◌≡◌ {A = ℕ} 0 1 = cc in absurd (omega arith)

pub converted-refused : (x : Input) (error : PbcError) → (convert_step x).answer ≡ ConvertedRefused error → convert_check limits x ≡ Wrong error
unfolding convert_step convert_within
converted-refused x error = go (convert_check limits x) refl
  where
    go : (c : Checked) → convert_check limits x ≡ c → (convert_as c (planes_after (gates_check limits x) x) x).answer ≡ ConvertedRefused error → convert_check limits x ≡ Wrong error
    go Fine p e = let z : ◌≡◌ {A = ℕ} 0 1 = cc in absurd (omega arith)
    go (Wrong y) p e = let same : y ≡ error = cc in p ∙ ap Wrong same
