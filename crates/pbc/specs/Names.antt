-- Names of commands and buffers: lower-case letters and decimal digits, at most twelve.
use Rattle.std.specs.Prelude.{ℕ, ◌+◌, Bool, cond, ◌&&◌, ◌||◌, List, take, replicate, nat_le, nat_lt, nat_eq, slice_set, Option, Some, None}
use Rattle.std.specs.Cmp.Lexicographic.{pointwise}
pub use Rattle.pbc.specs.declared.names.Name.{Name}

abbrev pub no_name : Name
no_name = record { bytes = replicate 12 0; length = 0 }

abbrev pub name_bytes : Name → List ℕ
name_bytes n = take n.length n.bytes

-- a lower-case letter or a decimal digit
unfoldable pub name_byte : ℕ → Bool
name_byte byte = (nat_le 97 byte && nat_le byte 122) || (nat_le 48 byte && nat_le byte 57)

-- a name with one byte more: none if the name has twelve bytes already, or the byte is no letter and no digit
unfoldable pub extended_name : Name → ℕ → Option Name
extended_name n byte = cond (nat_lt n.length 12 && name_byte byte) (Some (record { bytes = slice_set n.bytes n.length byte; length = n.length + 1 })) None

-- whether these are the bytes of a name
abbrev pub is_name : List ℕ → List ℕ → Bool
is_name bytes name = pointwise nat_eq bytes name
