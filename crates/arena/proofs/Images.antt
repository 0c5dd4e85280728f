-- What the references that the calls answer stand for.
use mathlib.Core.Path.{◌≡◌, refl, ap, ap₂, sym, ◌∙◌}
use mathlib.Core.Bool.{true}
use mathlib.Core.List.{List, [], ◌∷◌, ◌++◌, map}
use Prim.Native.Nat.{ℕ, zero, suc, ◌+◌, ◌*◌, ◌/◌, ◌≤◌, ◌<◌}
use native.Mathlib.Nat.{not-suc-le-zero, zero-add, add-zero, suc-add, add-suc}
use native.Mathlib.Decide.{ℕ_discrete}
use native.Mathlib.Numerals.{add-one}
use native.Mathlib.Omega.{arith}
use lib.ListN.{length, get_or, take, drop, set, length-append, get_or-append}
use lib.Seq.{sets, take-set-le, take_at, get_or-set_same, get_or-set_other, get_or-append-add, lt-length-set}
use Rattle.pauli.specs.Rows.{Row, ◌★◌, single, present}
use Rattle.pauli.specs.Table.{column, start}
use Rattle.arena.specs.Types.{Pauli, I, X, Y, Z}
use Rattle.arena.specs.Errors.{Fine}
use Rattle.arena.specs.References.{PauliRef, node_in}
use Rattle.arena.specs.Nodes.{single_word, product_word, decode, node_at, row_of, values, image}
use Rattle.arena.specs.Store.{Header}
use Rattle.arena.specs.Builder.{overlay, qubit_nodes, start_nodes, image_words, start_frame, node_put, nodes_for, single_check, product_check}
use Rattle.arena.proofs.Accepted.{FitsSingle, fits_single, FitsProduct, fits_product}
use Rattle.arena.proofs.Overlay.{length-qubit_nodes, length-image_words}
use Rattle.arena.proofs.NodeRows.{image-older, image-of_node, single_decodes, product_decodes}

-- ---- a node put after k others

module _ (ws : List ℕ) (k a b : ℕ) (room : 2 * k + 1 < length ws) where
  pub put_older : take (2 * k) ws ≡ take (2 * k) (sets ws (2 * k) (a ∷ b ∷ []))
  put_older = sym (take-set-le (2 * k) (set ws (2 * k) a) (suc (2 * k)) b (omega arith) ∙ take-set-le (2 * k) ws (2 * k) a (omega arith))

  put_node : (n : ℕ) → node_at n (sets ws (2 * k) (a ∷ b ∷ [])) k ≡ decode n k a b
  unfolding node_at
  put_node n = ap₂ (decode n k) first second
    where
      first : get_or (set (set ws (2 * k) a) (suc (2 * k)) b) (2 * k) 0 ≡ a
      first = get_or-set_other (set ws (2 * k) a) (suc (2 * k)) (2 * k) b 0 (omega arith) ∙ get_or-set_same ws (2 * k) a 0 (omega arith)

      second : get_or (set (set ws (2 * k) a) (suc (2 * k)) b) (2 * k + 1) 0 ≡ b
      second = rw (add-one (2 * k)) (get_or-set_same (set ws (2 * k) a) (suc (2 * k)) b 0 (lt-length-set ws (2 * k) a (omega arith)))

-- ---- single and product

pub single-image : (h : Header) (ws : List ℕ) (q : ℕ) (a : Pauli) → single_check h (length ws) q a ≡ Fine → present a ≡ true
    → image h.qubits (h.nodes + 1) (node_put h ws (single_word a) q) (4 * h.nodes) ≡ single h.qubits q a
single-image h ws q a p some =
    image-of_node h.qubits (h.nodes + 1) (node_put h ws (single_word a) q) h.nodes (omega arith)
    ∙ ap (row_of h.qubits _) (put_node ws h.nodes (single_word a) q (room a some f.room.lent) h.qubits ∙ single_decodes h.qubits h.nodes q a some f.qubit)
  where
    f : FitsSingle h (length ws) q a
    f = fits_single h (length ws) q a p

    room : (a : Pauli) → present a ≡ true → h.nodes + nodes_for a ≤ length ws / 2 → 2 * h.nodes + 1 < length ws
    room I s e = let z : ◌≡◌ {A = ℕ} 0 1 = cc in absurd (omega arith)
    room X s e = omega arith
    room Y s e = omega arith
    room Z s e = omega arith

pub product-image : (h : Header) (ws : List ℕ) (l r : PauliRef) → product_check h (length ws) l r ≡ Fine
    → image h.qubits (h.nodes + 1) (node_put h ws (product_word l.word) r.word) (4 * h.nodes)
    ≡ image h.qubits h.nodes ws l.word ★ image h.qubits h.nodes ws r.word
unfolding image
product-image h ws l r p =
    image-of_node n (k + 1) vs k (omega arith)
    ∙ ap (row_of n (values n (k + 1) vs)) (put_node ws k (product_word l.word) r.word room n ∙ product_decodes n k l.word r.word f.left.used f.right.used)
    ∙ ap₂ ◌★◌ (older l.word f.left.used) (older r.word f.right.used)
  where
    f : FitsProduct h (length ws) l r
    f = fits_product h (length ws) l r p

    n : ℕ
    n = h.qubits

    k : ℕ
    k = h.nodes

    vs : List ℕ
    vs = node_put h ws (product_word l.word) r.word

    room : 2 * k + 1 < length ws
    room = omega (arith, f.room.lent)

    older : (w : ℕ) → node_in w < k → image n (k + 1) vs w ≡ image n k ws w
    older w u = image-older n k (k + 1) ws vs w u (omega arith) (put_older ws k (product_word l.word) r.word room)

-- ---- a new circuit

column-snoc : (n : ℕ) (a : Pauli) (q k : ℕ) → column n a q (suc k) ≡ column n a q k ++ (single n (q + k) a ∷ [])
column-snoc n a q zero = ap (λ m. single n m a ∷ []) (sym (add-zero q))
column-snoc n a q (suc k) = ap (λ l. single n q a ∷ l) (column-snoc n a (suc q) k ∙ ap (λ m. column n a (suc q) k ++ (single n m a ∷ [])) (suc-add q k ∙ sym (add-suc q k)))

map-++ : (f : ℕ → Row) (us vs : List ℕ) → map f (us ++ vs) ≡ map f us ++ map f vs
map-++ f [] vs = refl
map-++ f (u ∷ us) vs = ap (λ l. f u ∷ l) (map-++ f us vs)

-- words whose images are the letter a on each qubit
images-column : (f : ℕ → Row) (n first : ℕ) (a : Pauli) (k : ℕ) → ((q : ℕ) → q < k → f (4 * (first + 2 * q)) ≡ single n q a) → map f (image_words first k) ≡ column n a 0 k
images-column f n first a zero h = refl
images-column f n first a (suc k) h =
    map-++ f (image_words first k) (4 * (first + 2 * k) ∷ [])
    ∙ ap₂ (λ l x. l ++ (x ∷ [])) (images-column f n first a k (λ q lt. h q (omega arith))) (h k (omega arith) ∙ ap (λ m. single n m a) (sym (zero-add k)))
    ∙ sym (column-snoc n a 0 k)

-- the four words of qubit q
qubit_word : (n q j : ℕ) → q < n → j < 4 → get_or (qubit_nodes n) (4 * q + j) 0 ≡ get_or (single_word X ∷ q ∷ single_word Z ∷ q ∷ []) j 0
qubit_word zero q j h l = absurd (not-suc-le-zero h)
qubit_word (suc n) q j h l = go (ℕ_discrete q n) (λ lt. qubit_word n q j lt l)
  where
    go : Dec (q ≡ n) → (q < n → get_or (qubit_nodes n) (4 * q + j) 0 ≡ get_or (single_word X ∷ q ∷ single_word Z ∷ q ∷ []) j 0)
        → get_or (qubit_nodes n ++ (single_word X ∷ n ∷ single_word Z ∷ n ∷ [])) (4 * q + j) 0 ≡ get_or (single_word X ∷ q ∷ single_word Z ∷ q ∷ []) j 0
    go (yes e) before = rw (e, ← length-qubit_nodes n) (get_or-append-add (qubit_nodes n) (single_word X ∷ n ∷ single_word Z ∷ n ∷ []) j 0)
    go (no ne) before = get_or-append (qubit_nodes n) _ 0 (4 * q + j) (rw length-qubit_nodes (omega arith)) ∙ before (omega arith)

module _ (n : ℕ) (ws : List ℕ) where
  start_word : (q j : ℕ) → q < n → j < 4 → get_or (overlay (start_nodes n) ws) (suc (suc (4 * q + j))) 0 ≡ get_or (single_word X ∷ q ∷ single_word Z ∷ q ∷ []) j 0
  start_word q j h l = get_or-append (qubit_nodes n) _ 0 (4 * q + j) (rw length-qubit_nodes (omega arith)) ∙ qubit_word n q j h l

  -- its X is node 1 + 2q, its Z node 2 + 2q
  start-node : (a : Pauli) (q j i : ℕ) → q < n → j + 1 < 4 → 2 * i ≡ suc (suc (4 * q + j)) → get_or (single_word X ∷ q ∷ single_word Z ∷ q ∷ []) j 0 ≡ single_word a
      → get_or (single_word X ∷ q ∷ single_word Z ∷ q ∷ []) (j + 1) 0 ≡ q → present a ≡ true → i < 1 + 2 * n
      → image n (1 + 2 * n) (overlay (start_nodes n) ws) (4 * i) ≡ single n q a
  unfolding node_at
  start-node a q j i h l e first second some lt =
      let e' : 2 * i + 1 ≡ suc (suc (4 * q + (j + 1))) = omega arith in
      image-of_node n (1 + 2 * n) (overlay (start_nodes n) ws) i lt
      ∙ ap (row_of n _) (ap₂ (decode n i) (ap (λ m. get_or (overlay (start_nodes n) ws) m 0) e ∙ start_word q j h (omega arith) ∙ first)
      (ap (λ m. get_or (overlay (start_nodes n) ws) m 0) e' ∙ start_word q (j + 1) h l ∙ second) ∙ single_decodes n i q a some h)

pub new_images : (n : ℕ) (nodes frame : List ℕ)
    → map (image n (1 + 2 * n) (overlay (start_nodes n) nodes)) (take (2 * n) (overlay (start_frame n) frame)) ≡ start n
unfolding start
new_images n nodes frame =
    ap (map f) (take_at (start_frame n) (drop (length (start_frame n)) frame) (2 * n) (length-append (image_words 1 n) (image_words 2 n) ∙ omega (arith, length-image_words 1 n, length-image_words 2 n)))
    ∙ map-++ f (image_words 1 n) (image_words 2 n)
    ∙ ap₂ ◌++◌ (images-column f n 1 X n (λ q h. start-node n nodes X q 0 (1 + 2 * q) h (omega arith) (omega arith) refl refl refl (omega arith)))
    (images-column f n 2 Z n (λ q h. start-node n nodes Z q 2 (2 + 2 * q) h (omega arith) (omega arith) refl refl refl (omega arith)))
  where
    f : ℕ → Row
    f = image n (1 + 2 * n) (overlay (start_nodes n) nodes)
