-- Classical bits that are taken, as bits of words: bit b % 64 of word b / 64.
use Rattle.std.specs.Prelude.{◌≡◌, Bool, List, ℕ, ◌*◌, ◌/◌, ◌%◌, ◌^◌, ◌<◌, eqb, length, get_or, set}
use Rattle.std.specs.Int.Bits.{bit_or}
use Rattle.convert.specs.Frame.{member}

abbrev pub is_marked : ℕ → List ℕ → Bool
is_marked b ws = eqb (get_or ws (b / 64) 0 / 2 ^ (b % 64) % 2) 1

-- a bit past the words is not marked
abbrev pub marked : ℕ → List ℕ → List ℕ
marked b ws = set ws (b / 64) (bit_or (get_or ws (b / 64) 0) (2 ^ (b % 64)))

-- as far as the words go, the marked bits are those taken
pub record Marks (taken ws : List ℕ) : Type 0 where
  pub same : (b : ℕ) → b < 64 * length ws → is_marked b ws ≡ member b taken
