-- The visitor that weighs: what it leaves are the largest weights of what was shown.
use mathlib.Core.Path.{◌≡◌, ap, ap₂, sym, ◌∙◌}
use mathlib.Core.Bool.{Bool}
use mathlib.Core.List.{List, [], ◌∷◌, map}
use Prim.Native.Nat.{ℕ, suc, ◌+◌}
use native.Mathlib.Omega.{arith}
use lib.ListN.{length}
use Rattle.std.specs.Prelude.{max}
use Rattle.arena.specs.Errors.{PbcError}
use Rattle.arena.specs.Nodes.{node_at}
use Rattle.arena.specs.Store.{Header}
use Rattle.arena.specs.Sparse.{Sparse, size}
use Rattle.arena.specs.Walk.{Out, fine, refused, bind, Walked, answer_of, walk, walk_nodes}
use Rattle.arena.specs.Readers.{Weighed, Weights, counts_non_clifford, counts_clifford, raised, largest, words_of, Report, report_walk}
use Rattle.arena.specs.Expansion.{WeightsMade, WeightsRefused, max_weights_of, op_at}
use Rattle.arena.specs.Code.Roots.{weighed_at, axes_of, weights_of, visited}
use Rattle.arena.specs.declared.weights.Largest.{Largest}
use Rattle.arena.proofs.Walk.Outcomes.{bind_assoc}
use Rattle.arena.proofs.Steps.Weights.{axes_from, from_front, both, both-weigh}

abbrev pub largest_step : Largest → ℕ → Sparse → Largest
largest_step v i x = record v {
  non_clifford = raised (counts_non_clifford (weighed_at v.header v.operations.now i).kind) (size x) v.non_clifford;
  clifford = raised (counts_clifford v.zeros (weighed_at v.header v.operations.now i).kind) (size x) v.clifford;
}

abbrev pub weights_in : Largest → Weights
weights_in v = weights_of v.non_clifford v.clifford

pub largest_visited : (v : Largest) (i : ℕ) (xs : List Sparse)
    → weights_in (visited largest_step v i xs) ≡ both (weights_in v) (largest v.zeros (axes_from (op_at v.header v.operations.now) i (length xs)) (map size xs))
largest_visited v i [] =
    let e : v.non_clifford ≡ max v.non_clifford 0 = omega arith in
    let f : v.clifford ≡ max v.clifford 0 = omega arith in
    ap₂ weights_of e f
largest_visited v i (x ∷ xs) =
    let e : i + 1 ≡ suc i = omega arith in
    largest_visited (largest_step v i x) (i + 1) xs
    ∙ ap (λ (j : ℕ). both (weights_in (largest_step v i x)) (largest v.zeros (axes_from (op_at v.header v.operations.now) j (length xs)) (map size xs))) e
    ∙ both-weigh v.zeros (weighed_at v.header v.operations.now i).kind (size x) (weights_in v) (largest v.zeros (axes_from (op_at v.header v.operations.now) (suc i) (length xs)) (map size xs))

pub largest_all : (h : Header) (ops : List ℕ) (v : Largest) (xs : List Sparse) → v.header ≡ h → v.operations.now ≡ ops → v.non_clifford ≡ 0 → v.clifford ≡ 0 → length xs ≡ h.operations
    → weights_in (visited largest_step v 0 xs) ≡ largest v.zeros (axes_of h ops) (map size xs)
largest_all h ops v xs h-is ops-is a b many =
    let l : Weights = largest v.zeros (axes_of h ops) (map size xs) in
    let e : max 0 l.non_clifford ≡ l.non_clifford = omega arith in
    let f : max 0 l.clifford ≡ l.clifford = omega arith in
    largest_visited v 0 xs
    ∙ ap₂ (λ (w : Weights) (ys : List Weighed). both w (largest v.zeros ys (map size xs))) (ap₂ weights_of a b)
    (ap₂ (λ (g : Header) (o : List ℕ). axes_from (op_at g o) 0 (length xs)) h-is ops-is ∙ ap (λ (k : ℕ). axes_from (op_at h ops) 0 k) many ∙ sym (from_front (op_at h ops) h.operations))
    ∙ ap₂ weights_of e f

-- ---- the report

module _ (zeros : Bool) (limit room n count : ℕ) (words : List ℕ) (xs : List Weighed) where
  abbrev reported : Walked → Out Report
  reported r = fine (record { weights = largest zeros xs (map size r.shown); work = r.state.work })

  walk_reported : report_walk zeros limit room n count words xs ≡ bind (walk_nodes limit room (node_at n words) count (words_of xs)) reported
  unfolding report_walk walk
  walk_reported = bind_assoc (walk_nodes limit room (node_at n words) count (words_of xs)) (λ r. fine (answer_of r)) (λ a. fine (record { weights = largest zeros xs (map size a.shown); work = a.work }))

  pub none-reported : {e : PbcError} → walk_nodes limit room (node_at n words) count (words_of xs) ≡ refused e → WeightsRefused e ≡ max_weights_of (report_walk zeros limit room n count words xs)
  none-reported q = sym (ap max_weights_of (walk_reported ∙ ap (λ o. bind o reported) q))

  pub all_reported : {r : Walked} {w : Weights} {work : ℕ} → walk_nodes limit room (node_at n words) count (words_of xs) ≡ fine r → w ≡ largest zeros xs (map size r.shown) → work ≡ r.state.work
      → WeightsMade w.non_clifford w.clifford work ≡ max_weights_of (report_walk zeros limit room n count words xs)
  all_reported q e f = ap₂ (λ (w : Weights) (k : ℕ). WeightsMade w.non_clifford w.clifford k) e f ∙ sym (ap max_weights_of (walk_reported ∙ ap (λ o. bind o reported) q))
