-- The axes of operations as rows of bytes: a row laid down, and the walk that shows each axis.
use mathlib.Core.Path.{◌≡◌, ap, sym, ◌∙◌}
use mathlib.Core.List.{List, [], ◌∷◌, ◌++◌, map, append_assoc, append-nil}
use Prim.Native.Nat.{ℕ, suc, ◌+◌, ◌*◌, ◌-◌, ◌≤◌, ◌<◌}
use native.Mathlib.Nat.{suc-mul, mul-le-mul, mul-le-mul_right}
use native.Mathlib.Omega.{arith}
use borrow.Author.Tests.{ltb-false}
use borrow.Rule.Slice.PartMut.{mid_of, put_mid}
use lib.Dec.{ltb}
use lib.ListN.{length, set, take, drop, replicate, length-map, length-take, take-append-drop}
use Rattle.pauli.specs.Letters.{pauli_number}
use Rattle.arena.specs.Errors.{PbcError, Fine}
use Rattle.arena.specs.References.{node_in}
use Rattle.arena.specs.Nodes.{node_at}
use Rattle.arena.specs.Store.{Header}
use Rattle.arena.specs.Builder.{overlay}
use Rattle.arena.specs.Sparse.{Factor, Sparse, spread, dense}
use Rattle.arena.specs.Walk.{Out, fine, refused, bind, State, Walked, show_roots, walk_nodes, answer_of, walk}
use Rattle.arena.specs.Readers.{words_of, Axes, axes_walk}
use Rattle.arena.specs.Limits.{cap_of}
use Rattle.arena.specs.Expansion.{AxesMade, expanded_axes_of, row_bytes, axes_bytes, axes_size, axes_check, rows_made}
use Rattle.arena.specs.Code.Results.{Ledger, Value, Says}
use Rattle.arena.specs.Code.WalkWords.{Rooted, ShowReady, bytes, letters_written}
use Rattle.arena.specs.Code.Roots.{start_of, Begun, show_root, RootShown, Fit, axes_of, OpsSound, AxesCounted, cells, laid_at, RowsShown}
use Rattle.arena.proofs.Accepted.{passed_before, test_passed, left_false, right-false}
use Rattle.arena.proofs.Overlay.{overlay-sets, overlay-part, overlay-rest}
use Rattle.arena.proofs.Walk.Outcomes.{bind_assoc}
use Rattle.arena.proofs.Steps.Saying.{said-fine, said-refused, says_as, refuses_on, says-refused}
use Rattle.arena.proofs.Walk.Readers.{spread-length}
use Rattle.arena.proofs.Steps.Readers.{Walkable}
use Rattle.arena.proofs.Steps.Weights.{seen, axes_rootable, begun_at, readable}

-- ---- the places of rows

-- row i of width k ends within m rows
pub row_ends : (k i m : ℕ) → i < m → i * k + k ≤ m * k
row_ends k i m h = let l : suc i ≤ m = omega arith in omega (arith, suc-mul i k, mul-le-mul_right k l)

pub size_fits : (m n : ℕ) → m < 4294967296 → n < 4294967296 → m * (n + 1) < 18446744073709551616
size_fits m n a b =
    let a' : m ≤ 4294967295 = omega arith in
    let b' : n + 1 ≤ 4294967296 = omega arith in
    let e : m * (n + 1) ≤ 4294967295 * 4294967296 = mul-le-mul a' b' in
    omega arith

-- ---- a row

length-bytes : (n : ℕ) (fs : List Factor) → length (bytes (spread n 0 fs)) ≡ n
length-bytes n fs = length-map (spread n 0 fs) pauli_number ∙ spread-length n 0 fs

-- the letters, and the phase past them
pub row_filled : (n : ℕ) (fs : List Factor) (phase : ℕ) (was : List ℕ) {mid : List ℕ} → n < length was → mid ≡ letters_written n fs was → set mid n phase ≡ overlay (cells n fs phase) was
row_filled n fs phase was lt mid-is =
    ap (λ (l : List ℕ). set l n phase) (mid-is ∙ ap (λ (k : ℕ). bytes (spread n 0 fs) ++ drop k was) (sym (length-bytes n fs)))
    ∙ overlay-sets (bytes (spread n 0 fs)) (phase ∷ []) was n (length-bytes n fs) (omega (arith, length-bytes n fs))

-- the rest of the bytes from k on, lent as a part
pub row_laid : (k : ℕ) (vs was ys : List ℕ) → k ≤ length was → ys ≡ overlay vs (mid_of k (length was - k) was) → put_mid k (length was - k) was ys ≡ laid_at k vs was
row_laid k vs was ys h y =
    overlay-rest (take k was) vs was was ys k long h whole y ∙ sym (overlay-part (take k was) vs was k long) ∙ ap (λ (l : List ℕ). laid_at k vs l) (sym whole)
  where
    long : length (take k was) ≡ k
    long = simp length-take (omega arith)

    whole : was ≡ overlay (take k was) was
    whole = sym (take-append-drop k was) ∙ ap (λ (m : ℕ). take k was ++ drop m was) (sym long)

pub rows_more : (n : ℕ) (xs : List Sparse) (x : Sparse) → axes_bytes (map (dense n) (xs ++ (x ∷ []))) ≡ axes_bytes (map (dense n) xs) ++ row_bytes (dense n x)
rows_more n [] x = append-nil (row_bytes (dense n x))
rows_more n (y ∷ xs) x =
    ap (λ (l : List ℕ). row_bytes (dense n y) ++ l) (rows_more n xs x) ∙ sym (append_assoc (row_bytes (dense n y)) (axes_bytes (map (dense n) xs)) (row_bytes (dense n x)))

-- ---- an axis shown

module _ (w : ℕ) {words l p : List ℕ} {count limit : ℕ} {left : Ledger} (g : Rooted words l p count limit (node_in w) left) {l₁ p₁ : List ℕ} {y : Out (Value × Ledger)}
    (o : Says (show_root limit g.at.room (node_at g.at.n words) count (node_in w) g.at.s) y (RootShown w g l₁ p₁)) where
  pub row-refused : {B : Type 0} {S : State → B → Type 0} {e : PbcError} → y ≡ refused e
      → Says (show_root limit g.at.room (node_at g.at.n words) count (node_in w) g.at.s) (refused e) S
  row-refused q = says-refused (said-refused o q)

  module _ {v : Value} {rest : Ledger} (z : y ≡ fine (v, rest)) where
    abbrev pub to_fill : ShowReady p₁ v.head v.count
    to_fill = record { who = (seen w g o z).2.who; tag = node_in w + 2; fs = ((seen w g o z).0.value (node_in w)).factors; chain = (seen w g o z).2.value.chain; counted = (seen w g o z).2.value.count_is }

-- ---- the whole walk

module _ {h : Header} {words l : List ℕ} (ops : List ℕ) (f : Fit h words l) (sound : OpsSound h ops) (few : h.operations ≤ 65536) {l₁ : List ℕ} (e₁ : l₁ ≡ replicate (length l) 0)
    {l₂ : List ℕ} (c : AxesCounted h ops l₂) (len : length l₂ ≡ length l₁) (limit : ℕ) (p : List ℕ) {l₃ p₁ : List ℕ} {y : Out Ledger}
    (b : Says (start_of limit (node_at h.qubits words) h.nodes (words_of (axes_of h ops))) y (Begun (axes_rootable ops f sound few e₁ c len) limit (cap_of (length p) - 1) l₃ p₁)) where
  abbrev showing : State → Out Walked
  showing s = show_roots limit (cap_of (length p) - 1) (node_at h.qubits words) h.nodes (words_of (axes_of h ops)) s

  pub axes-refused : {B : Type 0} {S : Walked → B → Type 0} {e : PbcError} → y ≡ refused e
      → Says (walk_nodes limit (cap_of (length p) - 1) (node_at h.qubits words) h.nodes (words_of (axes_of h ops))) (refused e) S
  axes-refused q = refuses_on b showing q

  pub axes-shown : {left : Ledger} (z : y ≡ fine left) {B : Type 0} {o : Out B} {S : Walked → B → Type 0}
      → Says (show_roots limit (cap_of (length p) - 1) (node_at h.qubits words) h.nodes (words_of (axes_of h ops)) (begun_at ops f sound few e₁ c len limit p b z).0) o S
      → Says (walk_nodes limit (cap_of (length p) - 1) (node_at h.qubits words) h.nodes (words_of (axes_of h ops))) o S
  axes-shown z o = says_as o (ap (λ q. bind q showing) (begun_at ops f sound few e₁ c len limit p b z).1)

-- ---- what is answered

module _ (limit room n count : ℕ) (words ws : List ℕ) where
  abbrev axes_in : Out Walked → Out Axes
  axes_in x = bind x (λ r. fine (record { rows = map (dense n) r.shown; work = r.state.work }))

  walk-axes : axes_walk limit room n count words ws ≡ axes_in (walk_nodes limit room (node_at n words) count ws)
  unfolding axes_walk walk
  walk-axes = bind_assoc (walk_nodes limit room (node_at n words) count ws) (λ r. fine (answer_of r)) (λ a. fine (record { rows = map (dense n) a.shown; work = a.work }))

  module _ {rows : List ℕ} {y : Out ℕ} (o : Says (walk_nodes limit room (node_at n words) count ws) y (RowsShown n rows)) where
    pub answer-refused : {e : PbcError} → y ≡ refused e → axes_walk limit room n count words ws ≡ refused e
    answer-refused q = walk-axes ∙ ap axes_in (said-refused o q)

    module _ {work : ℕ} (z : y ≡ fine work) where
      made : axes_walk limit room n count words ws ≡ fine (record { rows = map (dense n) (said-fine o z).0.shown; work = (said-fine o z).0.state.work })
      made = walk-axes ∙ ap axes_in (said-fine o z).1

      pub answer_made : AxesMade work ≡ expanded_axes_of (axes_walk limit room n count words ws)
      answer_made = ap (λ (k : ℕ). AxesMade k) (said-fine o z).2.work_is ∙ sym (ap expanded_axes_of made)

      pub answer_rows : (size : ℕ) → rows ≡ rows_made (axes_walk limit room n count words ws) size
      answer_rows size = (said-fine o z).2.rows_are ∙ sym (ap (λ x. rows_made x size) made)

-- ---- what passed the checks

pub fits_axes : (h : Header) (words ops : List ℕ) (rows scratch : ℕ) → axes_check h words ops rows scratch ≡ Fine → (Walkable h words scratch × OpsSound h ops) × (axes_size h ≤ rows)
unfolding axes_check
fits_axes h words ops rows scratch e =
    let t = test_passed _ _ _ e in
    (readable h words ops scratch (test_passed _ _ _ (passed_before _ _ _ e)) (left_false (ltb scratch (4 * h.nodes)) _ t), ltb-false _ _ (right-false (ltb scratch (4 * h.nodes)) _ t))

-- ---- what is left in the rows

-- the first k bytes written, and past them what was there
pub left_rows : (h : Header) (was x made : List ℕ) (k : ℕ) → k ≡ axes_size h → x ≡ made → x ++ drop k was ≡ made ++ drop (axes_size h) was
left_rows h was x made k k-is x-is = ap (λ (y : List ℕ). y ++ drop k was) x-is ∙ ap (λ (m : ℕ). made ++ drop m was) k-is
