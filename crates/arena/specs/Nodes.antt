-- Nodes (document 01): what two words stand for, and the row of each node, read from the front.
use Rattle.std.specs.Prelude.{Bool, true, cond, not, ◌&&◌, List, [], ◌∷◌, ◌++◌, ℕ, zero, suc, ◌+◌, ◌*◌, ◌/◌, ◌%◌, leb, ltb, eqb, get_or}
use Rattle.pauli.specs.Letters.{pauli_of, pauli_number}
use Rattle.pauli.specs.Rows.{Row, ◌★◌, scaled, identity, single, anticommute}
use Rattle.arena.specs.Types.{Pauli}
use Rattle.arena.specs.References.{node_in, phase_in}
pub use Rattle.arena.specs.declared.node.PauliNode.TheVariants.{the_data as PauliNode, Identity, Single, Product, Malformed}

-- the first word of a single, and of a product whose left child has the word l; the second word is the qubit, or the right child's word
abbrev pub single_word : Pauli → ℕ
single_word a = 1 + 4 * pauli_number a

abbrev pub product_word : ℕ → ℕ
product_word l = 2 + 4 * l

-- node i of n qubits by what its first word leaves modulo 4, the rest of that word, and the second word
abbrev pub decode_as : ℕ → ℕ → ℕ → ℕ → ℕ → PauliNode
decode_as zero n i rest b = cond (eqb rest 0 && eqb b 0) Identity Malformed
decode_as (suc zero) n i rest b = cond (leb 1 rest && leb rest 3 && ltb b n) (Single b (pauli_of rest)) Malformed
decode_as (suc (suc zero)) n i rest b = cond (ltb (node_in rest) i && ltb (node_in b) i) (Product rest b) Malformed
decode_as (suc (suc (suc k))) n i rest b = Malformed

unfoldable pub decode : ℕ → ℕ → ℕ → ℕ → PauliNode
decode n i a b = decode_as (a % 4) n i (a / 4) b

-- node i among the words
unfoldable pub node_at : ℕ → List ℕ → ℕ → PauliNode
node_at n words i = decode n i (get_or words (2 * i) 0) (get_or words (2 * i + 1) 0)

-- ---- what a word stands for

-- the row of a reference word, by the rows of the nodes
abbrev pub image_in : ℕ → List Row → ℕ → Row
image_in n rows w = scaled (phase_in w) (get_or rows (node_in w) (identity n))

-- the row of a node, by the rows of the nodes before it; a malformed one stands for the identity
abbrev pub row_of : ℕ → List Row → PauliNode → Row
row_of n rows Identity = identity n
row_of n rows (Single q a) = single n q a
row_of n rows (Product l r) = image_in n rows l ★ image_in n rows r
row_of n rows Malformed = identity n

-- the rows of the first k nodes
abbrev pub rows_to : ℕ → (ℕ → PauliNode) → ℕ → List Row
rows_to n node zero = []
rows_to n node (suc k) = rows_to n node k ++ (row_of n (rows_to n node k) (node k) ∷ [])

unfoldable pub values : ℕ → ℕ → List ℕ → List Row
values n k words = rows_to n (node_at n words) k

-- what a reference word stands for, of n qubits and k used nodes in the words
unfoldable pub image : ℕ → ℕ → List ℕ → ℕ → Row
image n k words w = image_in n (values n k words) w

-- whether the two factors of a product commute, with all their letters (E7 of document 02); yes of a node that is no product
unfoldable pub factors_commute : ℕ → ℕ → List ℕ → PauliNode → Bool
factors_commute n k words Identity = true
factors_commute n k words (Single q a) = true
factors_commute n k words (Product l r) = not (anticommute (image n k words l) (image n k words r))
factors_commute n k words Malformed = true
