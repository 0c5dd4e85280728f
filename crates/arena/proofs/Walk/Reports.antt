-- What the readers of an accepted walk answer, by the images.
use mathlib.Core.Path.{◌≡◌, refl, ap}
use mathlib.Core.Bool.{Bool, true, false, cond}
use mathlib.Core.List.{List, [], ◌∷◌, map}
use Prim.Native.Nat.{ℕ, ◌-◌, ◌<◌}
use lib.Dec.{leb}
use Rattle.pauli.specs.Letters.{real}
use Rattle.pauli.specs.Rows.{Row, weight}
use Rattle.arena.specs.Errors.{ExpansionLimit, NonHermitianAxis}
use Rattle.arena.specs.References.{node_in}
use Rattle.arena.specs.Nodes.{image}
use Rattle.arena.specs.Sparse.{Sparse, dense}
use Rattle.arena.specs.Walk.{Named, Out, fine, refused, bind, Answer, walk}
use Rattle.arena.specs.Readers.{first_of, Expanded, expanded_of, expand_walk, hermitian_walk, Weighed, largest, words_of, report_walk}
use Rattle.arena.proofs.Walk.Means.{walk-means, walk-weights}

first-dense : (n : ℕ) (vs : List Sparse) (P : Row) → map (dense n) vs ≡ P ∷ [] → dense n (first_of vs) ≡ P
first-dense n [] P e = cc
first-dense n (v ∷ vs) P e = cc

module _ (room n count : ℕ) (words : List ℕ) (w : ℕ) (named : node_in w < count) where
  shown_first : (limit : ℕ) (a : Answer) → walk limit room n count words (w ∷ []) ≡ fine a → dense n (first_of a.shown) ≡ image n count words w
  shown_first limit a e = first-dense n a.shown (image n count words w) (walk-means limit room n count words (w ∷ []) a (named, tt) e)

  -- an accepted expansion is the image
  pub expand_means : (cells : ℕ) (x : Expanded) → expand_walk cells room n count words w ≡ fine x → x.row ≡ image n count words w
  unfolding expand_walk
  expand_means cells x e = go (leb n cells) (walk (cells - n) room n count words (w ∷ [])) refl e
    where
      go : (b : Bool) (o : Out Answer) → walk (cells - n) room n count words (w ∷ []) ≡ o
          → cond b (bind o (λ a. fine (expanded_of n count words w a))) (refused ExpansionLimit) ≡ fine x
          → x.row ≡ image n count words w
      go true (fine a) q e = let d = shown_first (cells - n) a q in cc
      go true (refused k) q e = cc
      go false o q e = cc

  -- past the walk, the answer turns on the image's phase alone
  pub hermitian_means : (limit : ℕ) (a : Answer) → walk limit room n count words (w ∷ []) ≡ fine a
      → hermitian_walk limit room n count words w ≡ cond (real (image n count words w).phase) (fine a.work) (refused NonHermitianAxis)
  unfolding hermitian_walk dense
  hermitian_means limit a e =
      rw e (ap (λ (P : Row). cond (real P.phase) (fine a.work) (refused NonHermitianAxis)) (shown_first limit a e))

-- the report is about the weights of the images
pub report_means : (zeros : Bool) (limit room n count : ℕ) (words : List ℕ) (axes : List Weighed) (a : Answer) → Named count (words_of axes)
    → walk limit room n count words (words_of axes) ≡ fine a
    → report_walk zeros limit room n count words axes
    ≡ fine (record { weights = largest zeros axes (map (λ w. weight (image n count words w).letters) (words_of axes)); work = a.work })
unfolding report_walk
report_means zeros limit room n count words axes a h e =
    rw e (ap (λ ks. fine (record { weights = largest zeros axes ks; work = a.work })) (walk-weights limit room n count words (words_of axes) a h e))
