-- The buffers' lengths, what of them is lent, and work on their words.
use Rattle.std.specs.Prelude.{ℕ, ◌+◌, ◌%◌, Bool, cond, ◌||◌, List, [], ◌∷◌, length, take, drop, replicate, nat_le, nat_lt, slice_index}
pub use Rattle.pbc.specs.declared.buffers.Buffers.{Buffers}
pub use Rattle.pbc.specs.declared.buffers.Lends.{Lends}

-- every word of every buffer is the value; the numbers of the line stay
abbrev pub filled : Buffers → ℕ → Buffers
filled b value = record {
  words = b.words;
  nodes = replicate (length b.nodes) value;
  operations = replicate (length b.operations) value;
  frame = replicate (length b.frame) value;
  planes = replicate (length b.planes) value;
  scratch = replicate (length b.scratch) value;
  pool = replicate (length b.pool) value;
  letters = replicate (length b.letters) (value % 256);
}

-- every buffer whole
abbrev pub all_lends : Lends
all_lends = record {
  nodes = 131080;
  operations = 327700;
  frame = 512;
  planes = 4096;
  scratch = 262144;
  pool = 196620;
  letters = 1048576;
}

-- what seven numbers say
abbrev pub lends_of : List ℕ → Lends
lends_of ws = record {
  nodes = slice_index ws 0;
  operations = slice_index ws 1;
  frame = slice_index ws 2;
  planes = slice_index ws 3;
  scratch = slice_index ws 4;
  pool = slice_index ws 5;
  letters = slice_index ws 6;
}

-- more is lent than a buffer has
unfoldable pub lends_exceed : Lends → Bool
lends_exceed l =
    nat_lt all_lends.nodes l.nodes || nat_lt all_lends.operations l.operations || nat_lt all_lends.frame l.frame || nat_lt all_lends.planes l.planes
    || nat_lt all_lends.scratch l.scratch || nat_lt all_lends.pool l.pool || nat_lt all_lends.letters l.letters

-- so many words from a place on, none if they are not all there
unfoldable pub part_of : {A : Type 0} → List A → ℕ → ℕ → List A
part_of ws from count = cond (nat_le (from + count) (length ws)) (take count (drop from ws)) []

-- the first words of the second list become those of the first, as far as it goes
unfoldable pub copied : List ℕ → List ℕ → List ℕ
copied [] ws = ws
copied (u ∷ us) [] = []
copied (u ∷ us) (w ∷ ws) = u ∷ copied us ws
