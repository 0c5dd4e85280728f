-- The start: nodes 1 + 2q and 2 + 2q stand for the X and the Z of qubit q, and the frame words for the start of the table.
use mathlib.Core.Path.{◌≡◌, refl, ap, ap₂, sym, ◌∙◌}
use mathlib.Core.List.{List, [], ◌∷◌, ◌++◌, map, append-nil}
use Prim.Native.Nat.{ℕ, zero, suc, ◌+◌, ◌*◌, ◌<◌}
use native.Mathlib.Nat.{not-suc-le-zero}
use native.Mathlib.Decide.{ℕ_discrete}
use native.Mathlib.Omega.{arith}
use lib.ListN.{length, get_or, take, drop, length-append, get_or-append, get_or-map}
use lib.Seq.{get_or-append-add, get_or_at, take_all}
use Rattle.pauli.specs.Rows.{identity, single}
use Rattle.pauli.specs.Table.{start}
use Rattle.pauli.proofs.Table.{holds-start}
use Rattle.arena.specs.Nodes.{decode, node_at, image}
use Rattle.arena.specs.Builder.{overlay, start_nodes, image_words, start_frame}
use Rattle.arena.proofs.Overlay.{length-qubit_nodes, length-image_words}
use Rattle.arena.proofs.Images.{new_images}
use Rattle.arena.proofs.NodeRows.{image-of_node}
use Rattle.convert.specs.Types.{X, Z}
use Rattle.convert.specs.Frame.{Arena, start_arena}
use Rattle.convert.specs.Words.{id_x, id_z}
use Rattle.convert.proofs.Meaning.FrameRows.{Under, Keeps, Shows}

-- ---- the frame words of the start

frame_word : (first n q d : ℕ) → q < n → get_or (image_words first n) q d ≡ 4 * (first + 2 * q)
frame_word first zero q d lt = absurd (not-suc-le-zero lt)
frame_word first (suc n) q d lt = go (ℕ_discrete q n) (λ h. frame_word first n q d h)
  where
    go : Dec (q ≡ n) → (q < n → get_or (image_words first n) q d ≡ 4 * (first + 2 * q)) → get_or (image_words first n ++ (4 * (first + 2 * n) ∷ [])) q d ≡ 4 * (first + 2 * q)
    go (yes e) before = rw e (get_or_at (image_words first n) (4 * (first + 2 * n)) [] d n (length-image_words first n))
    go (no ne) before = get_or-append (image_words first n) _ d q (rw length-image_words (omega arith)) ∙ before (omega arith)

under_append : (k : ℕ) (us vs : List ℕ) → Under k us → Under k vs → Under k (us ++ vs)
under_append k [] vs u v = v
under_append k (w ∷ us) vs u v = (u.0, under_append k us vs u.1 v)

under_words : (k first n : ℕ) → first + 2 * n < k + 2 → Under k (image_words first n)
under_words k first zero h = tt
under_words k first (suc n) h = under_append k (image_words first n) _ (under_words k first n (omega arith)) (omega arith, tt)

pub under-start : (n k : ℕ) → 2 * n < k → Under k (start_frame n)
under-start n k h = under_append k (image_words 1 n) (image_words 2 n) (under_words k 1 n (omega arith)) (under_words k 2 n (omega arith))

length-start : (n : ℕ) → length (start_frame n) ≡ 2 * n
length-start n = length-append (image_words 1 n) (image_words 2 n) ∙ omega (arith, length-image_words 1 n, length-image_words 2 n)

-- ---- the images of the start

drop-nil : (k : ℕ) → drop {A = ℕ} k [] ≡ []
drop-nil zero = refl
drop-nil (suc k) = refl

overlay-nil : (us : List ℕ) → overlay us [] ≡ us
overlay-nil us = ap (λ l. us ++ l) (drop-nil (length us)) ∙ append-nil us

pub start-images : (n : ℕ) → map (image n (1 + 2 * n) (start_nodes n)) (start_frame n) ≡ start n
start-images n =
    ap₂ (λ ns fs. map (image n (1 + 2 * n) ns) fs) (sym (overlay-nil (start_nodes n)))
    (sym (ap (take (2 * n)) (overlay-nil (start_frame n)) ∙ take_all (2 * n) (start_frame n) (omega (arith, length-start n))))
    ∙ new_images n [] []

start-zeroth : (n : ℕ) → image n (1 + 2 * n) (start_nodes n) 0 ≡ identity n
unfolding node_at decode
start-zeroth n = image-of_node n (1 + 2 * n) (start_nodes n) 0 (omega arith)

module _ (n q : ℕ) (hq : q < n) where
  start-x : image n (1 + 2 * n) (start_nodes n) (id_x q) ≡ single n q X
  start-x =
      ap (image n (1 + 2 * n) (start_nodes n)) (sym (get_or-append (image_words 1 n) (image_words 2 n) 0 q (rw length-image_words hq) ∙ frame_word 1 n q 0 hq))
      ∙ sym (get_or-map (image n (1 + 2 * n) (start_nodes n)) (start_frame n) q 0)
      ∙ ap₂ (λ l d. get_or l q d) (start-images n) (start-zeroth n) ∙ (holds-start n).at_x q hq

  start-z : image n (1 + 2 * n) (start_nodes n) (id_z q) ≡ single n q Z
  start-z =
      ap (image n (1 + 2 * n) (start_nodes n)) (sym (ap (λ m. get_or (start_frame n) (m + q) 0) (sym (length-image_words 1 n))
      ∙ get_or-append-add (image_words 1 n) (image_words 2 n) q 0 ∙ frame_word 2 n q 0 hq))
      ∙ sym (get_or-map (image n (1 + 2 * n) (start_nodes n)) (start_frame n) (n + q) 0)
      ∙ ap₂ (λ l d. get_or l (n + q) d) (start-images n) (start-zeroth n) ∙ (holds-start n).at_z q hq

-- ---- an arena that has all that a fresh circuit has

pub record Leaves (n : ℕ) (s : Arena) : Type 0 where
  pub size : 2 * n < s.count
  pub kept : (w : ℕ) → w < 4 * (1 + 2 * n) → image n s.count s.nodes w ≡ image n (1 + 2 * n) (start_nodes n) w

pub leaves-start : (n : ℕ) → Leaves n (start_arena n)
unfolding start_arena
leaves-start n = record { size = omega arith; kept = λ w lt. refl }

pub leaves_kept : {n : ℕ} {s s' : Arena} → Keeps n s s' → Leaves n s → Leaves n s'
leaves_kept K L = record { size = omega (arith, K.more, L.size); kept = λ w lt. K.same w (omega (arith, L.size)) ∙ L.kept w lt }

module _ (n : ℕ) (s : Arena) (L : Leaves n s) where
  pub leaf_x : (q : ℕ) → q < n → image n s.count s.nodes (id_x q) ≡ single n q X
  leaf_x q hq = L.kept (id_x q) (omega arith) ∙ start-x n q hq

  pub leaf_z : (q : ℕ) → q < n → image n s.count s.nodes (id_z q) ≡ single n q Z
  leaf_z q hq = L.kept (id_z q) (omega arith) ∙ start-z n q hq

  images_of : (ws : List ℕ) → Under (1 + 2 * n) ws → map (image n s.count s.nodes) ws ≡ map (image n (1 + 2 * n) (start_nodes n)) ws
  images_of [] u = refl
  images_of (w ∷ ws) u = ap₂ ◌∷◌ (L.kept w u.0) (images_of ws u.1)

  -- the frame words of the start stand for the start of the table
  pub shows-start : length s.nodes ≡ 2 * s.count → Shows n (record { count = s.count; nodes = s.nodes; frame = start_frame n }) (start n)
  shows-start even = record {
    even = even;
    some = omega (arith, L.size);
    size = length-start n ∙ omega arith;
    under = under-start n s.count L.size;
    rows = images_of (start_frame n) (under-start n (1 + 2 * n) (omega arith)) ∙ start-images n;
  }

pub shows_begin : (n : ℕ) → Shows n (start_arena n) (start n)
unfolding start_arena
shows_begin n = shows-start n (start_arena n) (leaves-start n) (omega (arith, length-qubit_nodes n))
