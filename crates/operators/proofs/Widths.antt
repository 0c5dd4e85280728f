-- What a word stands for has as many letters as the circuit has qubits.
use mathlib.Core.Path.{◌≡◌, subst}
use mathlib.Core.List.{List, [], ◌∷◌, ◌++◌}
use Prim.Native.Nat.{ℕ, zero, suc}
use lib.ListN.{get_or, length-replicate}
use Rattle.pauli.specs.Rows.{Row, Width, identity}
use Rattle.pauli.proofs.Rows.{width-★}
use Rattle.pauli.proofs.Short.{width-single}
use Rattle.arena.specs.Nodes.{image, image_in, row_of, rows_to, values, node_at}
use Rattle.convert.specs.Later.{Circuit}
use Rattle.operators.specs.Types.{PauliNode, Identity, Single, Product, MalformedNode}
use Rattle.operators.specs.After.{image_of}

abbrev pub AllWidth : ℕ → List Row → Type 0
AllWidth n [] = Unit {0}
AllWidth n (P ∷ Ps) = Width n P × AllWidth n Ps

width_append : (n : ℕ) (Ps : List Row) (P : Row) → AllWidth n Ps → Width n P → AllWidth n (Ps ++ P ∷ [])
width_append n [] P h w = (w, tt)
width_append n (Q ∷ Ps) P h w = (h.0, width_append n Ps P h.1 w)

width_at : (n : ℕ) (Ps : List Row) → AllWidth n Ps → (j : ℕ) → Width n (get_or Ps j (identity n))
width_at n [] h j = length-replicate n _
width_at n (P ∷ Ps) h zero = h.0
width_at n (P ∷ Ps) h (suc j) = width_at n Ps h.1 j

width_row : (n : ℕ) (rows : List Row) → AllWidth n rows → (p : PauliNode) → Width n (row_of n rows p)
width_row n rows h Identity = length-replicate n _
width_row n rows h (Single q a) = width-single n q a
width_row n rows h (Product l r) = width-★ n (image_in n rows l) (image_in n rows r) (width_at n rows h _) (width_at n rows h _)
width_row n rows h MalformedNode = length-replicate n _

width_rows : (n : ℕ) (node : ℕ → PauliNode) (k : ℕ) → AllWidth n (rows_to n node k)
width_rows n node zero = tt
width_rows n node (suc k) =
    width_append n (rows_to n node k) (row_of n (rows_to n node k) (node k)) (width_rows n node k) (width_row n (rows_to n node k) (width_rows n node k) (node k))

width-image : (n k : ℕ) (words : List ℕ) (w : ℕ) → Width n (image n k words w)
unfolding image values
width-image n k words w = width_at n (rows_to n (node_at n words) k) (width_rows n (node_at n words) k) _

pub wide : (n : ℕ) (s : Circuit) → s.header.qubits ≡ n → (w : ℕ) → Width n (image_of s w)
wide n s q w = subst (λ m. Width m (image_of s w)) q (width-image s.header.qubits s.header.nodes s.nodes w)
