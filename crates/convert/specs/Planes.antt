-- Planes (document 01): for each image an x part and a z part of the table's letters, 64 qubits to a word.
use Rattle.std.specs.Prelude.{Bool, List, [], ◌∷◌, ◌++◌, ℕ, zero, suc, ◌+◌, ◌*◌, ◌/◌, ◌%◌, ◌^◌, max}
use Rattle.pauli.specs.Rows.{Row, tally}
use Rattle.pauli.specs.Bits.{x_bit, z_bit}
use Rattle.pauli.specs.Table.{x_row, z_row}
use Rattle.convert.specs.Types.{Pauli}

-- the number whose bit q is that of the letter on qubit q
unfoldable pub mask : (Pauli → Bool) → List Pauli → ℕ
mask f [] = 0
mask f (a ∷ us) = tally (f a) (2 * mask f us)

-- the lowest 64 l bits of a number, as l words: qubit q is bit q % 64 of word q / 64
unfoldable pub digits : ℕ → ℕ → List ℕ
digits zero m = []
digits (suc l) m = m % 2 ^ 64 ∷ digits l (m / 2 ^ 64)

-- L, the words of a part
abbrev pub part_words : ℕ → ℕ
part_words n = max 1 ((n + 63) / 64)

-- an x part, then a z part
unfoldable pub row_words : ℕ → Row → List ℕ
row_words l P = digits l (mask x_bit P.letters) ++ digits l (mask z_bit P.letters)

unfoldable pub rows_words : ℕ → List Row → List ℕ
rows_words l [] = []
rows_words l (P ∷ Ps) = row_words l P ++ rows_words l Ps

-- x_q, z_q, x_(q+1), .., for k qubits
unfoldable pub images : ℕ → List Row → ℕ → ℕ → List Row
images n t q zero = []
images n t q (suc k) = x_row n t q ∷ z_row n t q ∷ images n t (suc q) k

-- the plane words of a table
unfoldable pub packed : ℕ → List Row → List ℕ
packed n t = rows_words (part_words n) (images n t 0 n)
