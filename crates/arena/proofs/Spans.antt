-- A refused call leaves every slice; an accepted one writes the entries that it takes into use, and no other.
use mathlib.Core.Path.{◌≡◌, refl, ap, ◌∙◌}
use mathlib.Core.Logic.{inl, inr}
use mathlib.Core.List.{List, [], ◌∷◌}
use Prim.Native.Nat.{ℕ, suc, ◌+◌, ◌-◌, ◌*◌, ◌≤◌, ◌<◌}
use native.Mathlib.Omega.{arith}
use lib.ListN.{length, get_or, drop, set, length-append}
use lib.Seq.{sets, length-sets, get_or-set_other, get_or-append-add, get_or-drop}
use Rattle.arena.specs.Limits.{hand_mark, operation_words}
use Rattle.arena.specs.Types.{Pauli, I, X, Y, Z}
use Rattle.arena.specs.Errors.{PbcError, Checked, Fine, Wrong}
use Rattle.pauli.specs.Angle.{eighths_of}
use Rattle.arena.specs.Nodes.{single_word, product_word}
use Rattle.arena.specs.Operations.{rotate_words, measure_words, conditional_words}
use Rattle.arena.specs.Store.{Header}
use Rattle.arena.specs.Builder.{NodesAndFrame, Step, decided, overlay, start_nodes, image_words, start_frame, new_check, new_step, single_check, single_step, product_check, product_step, rotate_check, rotate_step, measure_check, measure_step, conditional_check, conditional_step}
use Rattle.arena.specs.Calls.{Call, call_new, call_single, call_product, call_rotate, call_measure, call_conditional, Slices, checked, with_node_words, with_operation_words, after, Span, span, spans, Outside, Kept, KeptSlices}
use Rattle.arena.proofs.Accepted.{fits_new}
use Rattle.arena.proofs.Overlay.{length-overlay, length-qubit_nodes, length-image_words}

-- ---- refused

decided-wrong : {A B : Type 0} (k : Checked) (refused : PbcError → A) (ws : B) (step : Step A B) (e : PbcError) → k ≡ Wrong e → (decided k refused ws step).words ≡ ws
decided-wrong k refused ws step e p = ap (λ k. (decided k refused ws step).words) p

pub refused_untouched : (c : Call) (s : Slices) (e : PbcError) → checked c s ≡ Wrong e → after c s ≡ s
unfolding checked after new_step single_step product_step rotate_step measure_step conditional_step
refused_untouched (call_new n c o) s e p =
    ap (λ (w : NodesAndFrame). record { nodes = w.nodes; operations = s.operations; frame = w.frame }) (decided-wrong (new_check n c (length s.nodes) (length s.frame)) _ _ _ e p)
refused_untouched (call_single h q a) s e p = ap (λ w. with_node_words w s) (decided-wrong (single_check h (length s.nodes) q a) _ _ _ e p)
refused_untouched (call_product h l r) s e p = ap (λ w. with_node_words w s) (decided-wrong (product_check h (length s.nodes) l r) _ _ _ e p)
refused_untouched (call_rotate h x k) s e p = ap (λ w. with_operation_words w s) (decided-wrong (rotate_check h (length s.operations) x) _ _ _ e p)
refused_untouched (call_measure h x t) s e p = ap (λ w. with_operation_words w s) (decided-wrong (measure_check h (length s.operations) x t) _ _ _ e p)
refused_untouched (call_conditional h x k m) s e p = ap (λ w. with_operation_words w s) (decided-wrong (conditional_check h (length s.operations) x m) _ _ _ e p)

-- ---- accepted

kept_all : (sp : Span) (ws : List ℕ) → Kept sp ws ws
kept_all sp ws = record { size = refl; outside = λ i o. refl }

sets_below : (vs ws : List ℕ) (k i : ℕ) → i < k → get_or (sets ws k vs) i 0 ≡ get_or ws i 0
sets_below [] ws k i h = refl
sets_below (v ∷ vs) ws k i h = sets_below vs (set ws k v) (suc k) i (omega arith) ∙ get_or-set_other ws k i v 0 (omega arith)

sets-above : (vs ws : List ℕ) (k i : ℕ) → k + length vs ≤ i → get_or (sets ws k vs) i 0 ≡ get_or ws i 0
sets-above [] ws k i h = refl
sets-above (v ∷ vs) ws k i h = sets-above vs (set ws k v) (suc k) i (omega arith) ∙ get_or-set_other ws k i v 0 (omega arith)

kept_sets : (vs ws : List ℕ) (from to : ℕ) → from + length vs ≤ to → Kept (span from to) ws (sets ws from vs)
kept_sets vs ws from to h = record { size = length-sets ws from vs; outside = go }
  where
    go : (i : ℕ) → Outside (span from to) i → get_or (sets ws from vs) i 0 ≡ get_or ws i 0
    go i (inl l) = sets_below vs ws from i l
    go i (inr g) = sets-above vs ws from i (omega arith)

kept-overlay : (us ws : List ℕ) (to : ℕ) → length us ≡ to → to ≤ length ws → Kept (span 0 to) ws (overlay us ws)
kept-overlay us ws to e h = record { size = length-overlay us ws (omega arith); outside = go }
  where
    past : (i j : ℕ) → i ≡ length us + j → get_or (overlay us ws) i 0 ≡ get_or ws i 0
    past i j p = rw p (get_or-append-add us (drop (length us) ws) j 0 ∙ get_or-drop (length us) ws j 0)

    go : (i : ℕ) → Outside (span 0 to) i → get_or (overlay us ws) i 0 ≡ get_or ws i 0
    go i (inl l) = absurd (omega arith)
    go i (inr g) = past i (i - length us) (omega arith)

-- what the checks let through
decided-fine : {A B : Type 0} (k : Checked) (refused : PbcError → A) (ws : B) (step : Step A B) → k ≡ Fine → decided k refused ws step ≡ step
decided-fine k refused ws step p = ap (λ k. decided k refused ws step) p

module _ (s : Slices) where
  nodes_kept : (c : Call) (ws : List ℕ) → Kept (spans c).nodes s.nodes ws → KeptSlices c s (with_node_words ws s)
  nodes_kept c ws k = record { nodes = k; operations = kept_all (spans c).operations s.operations; frame = kept_all (spans c).frame s.frame }

  operations_kept : (c : Call) (ws : List ℕ) → Kept (spans c).operations s.operations ws → KeptSlices c s (with_operation_words ws s)
  operations_kept c ws k = record { nodes = kept_all (spans c).nodes s.nodes; operations = k; frame = kept_all (spans c).frame s.frame }

  single_kept : (h : Header) (q : ℕ) (a : Pauli) → single_check h (length s.nodes) q a ≡ Fine → Kept (spans (call_single h q a)).nodes s.nodes (single_step h s.nodes q a).words
  unfolding single_step
  single_kept h q I p = rw p (kept_all (spans (call_single h q I)).nodes s.nodes)
  single_kept h q X p = rw p (kept_sets (single_word X ∷ q ∷ []) s.nodes (2 * h.nodes) (2 * (h.nodes + 1)) (omega arith))
  single_kept h q Y p = rw p (kept_sets (single_word Y ∷ q ∷ []) s.nodes (2 * h.nodes) (2 * (h.nodes + 1)) (omega arith))
  single_kept h q Z p = rw p (kept_sets (single_word Z ∷ q ∷ []) s.nodes (2 * h.nodes) (2 * (h.nodes + 1)) (omega arith))

  pub accepted_used_only : (c : Call) → checked c s ≡ Fine → KeptSlices c s (after c s)
  unfolding checked after new_step product_step rotate_step measure_step conditional_step
  accepted_used_only (call_new n c o) p =
      let f = fits_new n c (length s.nodes) (length s.frame) p in
      rw p record {
        nodes = kept-overlay (start_nodes n) s.nodes (2 * (1 + 2 * n)) (omega (arith, length-qubit_nodes n)) (omega (arith, f));
        operations = kept_all (span 0 0) s.operations;
        frame = kept-overlay (start_frame n) s.frame (2 * n) (length-append (image_words 1 n) (image_words 2 n) ∙ omega (arith, length-image_words 1 n, length-image_words 2 n)) (omega (arith, f));
      }
  accepted_used_only (call_single h q a) p = nodes_kept (call_single h q a) _ (single_kept h q a p)
  accepted_used_only (call_product h l r) p =
      rw p (nodes_kept (call_product h l r) _ (kept_sets (product_word l.word ∷ r.word ∷ []) s.nodes (2 * h.nodes) (2 * (h.nodes + 1)) (omega arith)))
  accepted_used_only (call_rotate h x k) p =
      rw p (operations_kept (call_rotate h x k) _ (kept_sets (rotate_words x.0.word (eighths_of k) hand_mark) s.operations (operation_words * h.operations) (operation_words * (h.operations + 1)) (omega arith)))
  accepted_used_only (call_measure h x t) p =
      rw p (operations_kept (call_measure h x t) _ (kept_sets (measure_words x.0.word h.measurements t hand_mark) s.operations (operation_words * h.operations) (operation_words * (h.operations + 1)) (omega arith)))
  accepted_used_only (call_conditional h x k m) p =
      rw p (operations_kept (call_conditional h x k m) _ (kept_sets (conditional_words x.0.word (eighths_of k) m.1 hand_mark) s.operations (operation_words * h.operations) (operation_words * (h.operations + 1)) (omega arith)))
