-- What is read of a line: how many numbers it has, of which range, whether it names a buffer, and a number with a sign.
use Rattle.std.specs.Prelude.{ℕ, Bool, true, false, cond, not, ◌&&◌, List, ℤ, pos, negsuc, ◌-ℤ◌, ◌==◌, nat_le, nat_lt, slice_index, Option, Some, None, is_some}
use Rattle.pbc.specs.Names.{no_name}
pub use Rattle.pbc.specs.declared.line.Line.{Line}
pub use Rattle.pbc.specs.declared.line.Number.{Number}
pub use Rattle.pbc.specs.declared.line.Wide.{Wide}
pub use Rattle.pbc.specs.declared.line.Token.TheVariants.{the_data as Token, Between, Hex}

abbrev pub new_line : Line
new_line = record {
  length = 0;
  bad = false;
  name = no_name;
  buffer = no_name;
  numbers = 0;
  wide = None;
  token = Between;
  digits = 0;
}

-- no command, whatever follows
abbrev pub spoilt_line : Line → Line
spoilt_line l = record l { bad = true }

-- nothing is being read
abbrev pub between_line : Line → Line
between_line l = record l { token = Between }

-- no buffer's name
abbrev pub no_buffer : Line → Bool
no_buffer l = l.buffer.length == 0

-- every number is below 2^32, or every one but that at a place
abbrev pub all_small : Option Wide → Bool
all_small w = not (is_some w)

abbrev pub small_but : Option Wide → ℕ → Bool
small_but None place = true
small_but (Some w) place = w.place == place

-- so many numbers, each below 2^32, and no buffer's name
unfoldable pub has_numbers : Line → ℕ → Bool
has_numbers l count = (l.numbers == count && no_buffer l) && all_small l.wide

-- the same, but that the number at a place is any of 64 bits with a sign
unfoldable pub has_signed : Line → ℕ → ℕ → Bool
has_signed l count place = (l.numbers == count && no_buffer l) && small_but l.wide place

-- both with more numbers allowed
unfoldable pub has_more : Line → ℕ → Bool
has_more l count = (nat_le count l.numbers && no_buffer l) && all_small l.wide

unfoldable pub has_more_signed : Line → ℕ → ℕ → Bool
has_more_signed l count place = (nat_le count l.numbers && no_buffer l) && small_but l.wide place

-- a buffer's name and so many numbers, each below 2^32
unfoldable pub has_buffer : Line → ℕ → Bool
has_buffer l count = (l.numbers == count && not (no_buffer l)) && all_small l.wide

-- the value of a number of 64 bits
unfoldable pub signed_of : Number → ℤ
signed_of n = cond (nat_lt 9223372036854775807 n.magnitude) (negsuc 9223372036854775807) (cond n.negative (pos 0 -ℤ pos n.magnitude) (pos n.magnitude))

-- the number at a place, with its sign
abbrev pub signed_by : Option Wide → List ℕ → ℕ → ℤ
signed_by None ws place = pos (slice_index ws place)
signed_by (Some w) ws place = signed_of w.number

unfoldable pub signed_at : Line → List ℕ → ℕ → ℤ
signed_at l ws place = signed_by l.wide ws place
