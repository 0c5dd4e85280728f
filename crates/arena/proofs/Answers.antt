-- The images of what the calls answer, said of the answers themselves.
use mathlib.Core.Path.{◌≡◌, refl, ap, sym, ◌∙◌}
use mathlib.Core.Bool.{true, cond}
use mathlib.Core.List.{List, map}
use Prim.Native.Nat.{ℕ, ◌+◌, ◌*◌, ◌/◌, ◌≤◌, ◌<◌}
use native.Mathlib.Omega.{arith}
use lib.Dec.{eqb}
use lib.ListN.{length, take}
use Rattle.pauli.specs.Rows.{◌★◌, single, present}
use Rattle.pauli.specs.Table.{start}
use Rattle.arena.specs.Types.{Pauli, I, X, Y, Z}
use Rattle.arena.specs.Errors.{Checked, Fine, Wrong}
use Rattle.arena.specs.References.{PauliRef, PauliAxis, axis_of, node_in}
use Rattle.arena.specs.Nodes.{single_word, product_word, image}
use Rattle.arena.specs.Store.{Header}
use Rattle.arena.specs.Builder.{Step, NodesAndFrame, decided, overlay, start_nodes, start_frame, new_header, with_nodes, node_put, ref_to, nodes_for, Created, CreatedMade, CreatedRefused, Singled, SingledMade, SingledRefused, Multiplied, MultipliedMade, MultipliedRefused, new_check, new_step, single_check, single_step, product_check, product_step}
use Rattle.arena.proofs.Made.{made_same}
use Rattle.arena.proofs.Images.{put_older, single-image, product-image, new_images}
use Rattle.arena.proofs.Accepted.{fits_single, fits_product}
use Rattle.arena.proofs.NodeRows.{image-older}

zero-is-one : ◌≡◌ {A = ℕ} 0 1 → ⊥
zero-is-one z = omega arith

-- ---- single

abbrev single_made : Header → List ℕ → ℕ → Pauli → Step Singled (List ℕ)
single_made h ws q a = record { answer = SingledMade (with_nodes (h.nodes + 1) h) (axis_of (ref_to h h.nodes)); words = node_put h ws (single_word a) q }

pushed : (h : Header) (ws : List ℕ) (q : ℕ) (a : Pauli) (other : Step Singled (List ℕ)) → present a ≡ true → cond (eqb (nodes_for a) 0) other (single_made h ws q a) ≡ single_made h ws q a
pushed h ws q I other s = let z : ◌≡◌ {A = ℕ} 0 1 = cc in absurd (zero-is-one z)
pushed h ws q X other s = refl
pushed h ws q Y other s = refl
pushed h ws q Z other s = refl

pub single-answer : (h : Header) (ws : List ℕ) (q : ℕ) (a : Pauli) (h' : Header) (x : PauliAxis) → present a ≡ true → (single_step h ws q a).answer ≡ SingledMade h' x
    → image h'.qubits h'.nodes (single_step h ws q a).words x.0.word ≡ single h.qubits q a
unfolding single_step
single-answer h ws q a h' x some = go (single_check h (length ws) q a) refl
  where
    first : Step Singled (List ℕ)
    first = record { answer = SingledMade h (axis_of (ref_to h 0)); words = ws }

    made : Step Singled (List ℕ)
    made = cond (eqb (nodes_for a) 0) first (single_made h ws q a)

    go : (k : Checked) → single_check h (length ws) q a ≡ k → (decided k SingledRefused ws made).answer ≡ SingledMade h' x
        → image h'.qubits h'.nodes (decided k SingledRefused ws made).words x.0.word ≡ single h.qubits q a
    go Fine p e =
        let m = pushed h ws q a first some in
        let e₂ : SingledMade (with_nodes (h.nodes + 1) h) (axis_of (ref_to h h.nodes)) ≡ SingledMade h' x = sym (ap (λ (s : Step Singled (List ℕ)). s.answer) m) ∙ e in
        let same : (with_nodes (h.nodes + 1) h, axis_of (ref_to h h.nodes)) ≡ (h', x) = made_same e₂ in
        let eh : with_nodes (h.nodes + 1) h ≡ h' = ap (λ (p : Header × PauliAxis). p.0) same in
        let ex : axis_of (ref_to h h.nodes) ≡ x = ap (λ (p : Header × PauliAxis). p.1) same in
        rw (m, ← eh, ← ex) (single-image h ws q a p some)
    go (Wrong w) p e = let z : ◌≡◌ {A = ℕ} 0 1 = cc in absurd (zero-is-one z)

-- ---- product

pub product-answer : (h : Header) (ws : List ℕ) (l r : PauliRef) (h' : Header) (x : PauliRef) → (product_step h ws l r).answer ≡ MultipliedMade h' x
    → image h'.qubits h'.nodes (product_step h ws l r).words x.word ≡ image h.qubits h.nodes ws l.word ★ image h.qubits h.nodes ws r.word
unfolding product_step
product-answer h ws l r h' x = go (product_check h (length ws) l r) refl
  where
    made : Step Multiplied (List ℕ)
    made = record { answer = MultipliedMade (with_nodes (h.nodes + 1) h) (ref_to h h.nodes); words = node_put h ws (product_word l.word) r.word }

    go : (k : Checked) → product_check h (length ws) l r ≡ k → (decided k MultipliedRefused ws made).answer ≡ MultipliedMade h' x
        → image h'.qubits h'.nodes (decided k MultipliedRefused ws made).words x.word ≡ image h.qubits h.nodes ws l.word ★ image h.qubits h.nodes ws r.word
    go Fine p e =
        let same : (with_nodes (h.nodes + 1) h, ref_to h h.nodes) ≡ (h', x) = made_same e in
        let eh : with_nodes (h.nodes + 1) h ≡ h' = ap (λ (p : Header × PauliRef). p.0) same in
        let ex : ref_to h h.nodes ≡ x = ap (λ (p : Header × PauliRef). p.1) same in
        rw (← eh, ← ex) (product-image h ws l r p)
    go (Wrong w) p e = let z : ◌≡◌ {A = ℕ} 0 1 = cc in absurd (zero-is-one z)

-- ---- new

pub new-answer : (qubits cbits owner : ℕ) (nodes frame : List ℕ) (h : Header) → (new_step qubits cbits owner nodes frame).answer ≡ CreatedMade h
    → map (image h.qubits h.nodes (new_step qubits cbits owner nodes frame).words.nodes) (take (2 * h.qubits) (new_step qubits cbits owner nodes frame).words.frame) ≡ start h.qubits
unfolding new_step
new-answer qubits cbits owner nodes frame h = go (new_check qubits cbits (length nodes) (length frame))
  where
    lent : NodesAndFrame
    lent = record { nodes = nodes; frame = frame }

    made : Step Created NodesAndFrame
    made = record { answer = CreatedMade (new_header qubits cbits owner); words = record { nodes = overlay (start_nodes qubits) nodes; frame = overlay (start_frame qubits) frame } }

    go : (k : Checked) → (decided k CreatedRefused lent made).answer ≡ CreatedMade h
        → map (image h.qubits h.nodes (decided k CreatedRefused lent made).words.nodes) (take (2 * h.qubits) (decided k CreatedRefused lent made).words.frame) ≡ start h.qubits
    go Fine e =
        let eh : new_header qubits cbits owner ≡ h = cc in
        rw (← eh) (new_images qubits nodes frame)
    go (Wrong w) e = let z : ◌≡◌ {A = ℕ} 0 1 = cc in absurd (zero-is-one z)

-- ---- older references keep their images

put_keeps : (h : Header) (ws : List ℕ) (a b w : ℕ) → h.nodes + 1 ≤ length ws / 2 → node_in w < h.nodes
    → image h.qubits (h.nodes + 1) (node_put h ws a b) w ≡ image h.qubits h.nodes ws w
put_keeps h ws a b w room u = image-older h.qubits h.nodes (h.nodes + 1) ws (node_put h ws a b) w u (omega arith) (put_older ws h.nodes a b (omega arith))

pub product-older : (h : Header) (ws : List ℕ) (l r : PauliRef) (h' : Header) (x : PauliRef) → (product_step h ws l r).answer ≡ MultipliedMade h' x
    → (w : ℕ) → node_in w < h.nodes → image h'.qubits h'.nodes (product_step h ws l r).words w ≡ image h.qubits h.nodes ws w
unfolding product_step
product-older h ws l r h' x e w u = go (product_check h (length ws) l r) refl e
  where
    made : Step Multiplied (List ℕ)
    made = record { answer = MultipliedMade (with_nodes (h.nodes + 1) h) (ref_to h h.nodes); words = node_put h ws (product_word l.word) r.word }

    go : (k : Checked) → product_check h (length ws) l r ≡ k → (decided k MultipliedRefused ws made).answer ≡ MultipliedMade h' x
        → image h'.qubits h'.nodes (decided k MultipliedRefused ws made).words w ≡ image h.qubits h.nodes ws w
    go Fine p e =
        let eh : with_nodes (h.nodes + 1) h ≡ h' = ap (λ (p : Header × PauliRef). p.0) (made_same e) in
        rw (← eh) (put_keeps h ws (product_word l.word) r.word w (fits_product h (length ws) l r p).room.lent u)
    go (Wrong k) p e = let z : ◌≡◌ {A = ℕ} 0 1 = cc in absurd (zero-is-one z)

pub single-older : (h : Header) (ws : List ℕ) (q : ℕ) (a : Pauli) (h' : Header) (x : PauliAxis) → (single_step h ws q a).answer ≡ SingledMade h' x
    → (w : ℕ) → node_in w < h.nodes → image h'.qubits h'.nodes (single_step h ws q a).words w ≡ image h.qubits h.nodes ws w
unfolding single_step
single-older h ws q a h' x e w u = go a (single_check h (length ws) q a) refl e
  where
    made : Pauli → Step Singled (List ℕ)
    made a = cond (eqb (nodes_for a) 0) (record { answer = SingledMade h (axis_of (ref_to h 0)); words = ws }) (single_made h ws q a)

    node : (a : Pauli) → (single_made h ws q a).answer ≡ SingledMade h' x → h.nodes + 1 ≤ length ws / 2
        → image h'.qubits h'.nodes (single_made h ws q a).words w ≡ image h.qubits h.nodes ws w
    node a e room =
        let eh : with_nodes (h.nodes + 1) h ≡ h' = ap (λ (p : Header × PauliAxis). p.0) (made_same e) in
        rw (← eh) (put_keeps h ws (single_word a) q w room u)

    go : (a : Pauli) (k : Checked) → single_check h (length ws) q a ≡ k → (decided k SingledRefused ws (made a)).answer ≡ SingledMade h' x
        → image h'.qubits h'.nodes (decided k SingledRefused ws (made a)).words w ≡ image h.qubits h.nodes ws w
    go I Fine p e = let eh : h ≡ h' = ap (λ (p : Header × PauliAxis). p.0) (made_same e) in rw (← eh)
    go X Fine p e = node X e (fits_single h (length ws) q X p).room.lent
    go Y Fine p e = node Y e (fits_single h (length ws) q Y p).room.lent
    go Z Fine p e = node Z e (fits_single h (length ws) q Z p).room.lent
    go a (Wrong k) p e = let z : ◌≡◌ {A = ℕ} 0 1 = cc in absurd (zero-is-one z)
