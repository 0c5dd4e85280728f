-- A place of a text as people count: lines and columns from 1, a column in bytes.
use Rattle.std.specs.Prelude.{cond, List, [], ◌∷◌, ℕ, ◌+◌, eqb, take}
pub use Rattle.qasm.specs.declared.position.TextPosition.{TextPosition}

-- from a line and a column on, past these bytes: a line feed begins a line
abbrev pub position_from : ℕ → ℕ → List ℕ → TextPosition
position_from line column [] = record { line = line; column = column }
position_from line column (b ∷ bs) = cond (eqb b 10) (position_from (line + 1) 1 bs) (position_from line (column + 1) bs)

-- where the byte at a place stands; past the text, where the next one would
unfoldable pub position_in : List ℕ → ℕ → TextPosition
position_in text place = position_from 1 1 (take place text)
