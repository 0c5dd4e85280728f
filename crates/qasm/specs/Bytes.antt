-- Kinds of bytes, and tests on words of bytes.
use Rattle.std.specs.Prelude.{Bool, true, false, ◌&&◌, ◌||◌, List, [], ◌∷◌, ℕ, leb, eqb}

-- space, tab, carriage return, line feed
abbrev pub white : ℕ → Bool
white b = eqb b 32 || eqb b 9 || eqb b 13 || eqb b 10

abbrev pub between : ℕ → ℕ → ℕ → Bool
between lo hi b = leb lo b && leb b hi

-- a to z
abbrev pub lower_case : ℕ → Bool
lower_case b = between 97 122 b

-- or A to Z
abbrev pub letter : ℕ → Bool
letter b = lower_case b || between 65 90 b

-- 0 to 9
abbrev pub digit : ℕ → Bool
digit b = between 48 57 b

-- letters, digits and underscores: what a word runs over
abbrev pub word_byte : ℕ → Bool
word_byte b = letter b || digit b || eqb b 95

abbrev pub every : (ℕ → Bool) → List ℕ → Bool
every f [] = true
every f (b ∷ bs) = f b && every f bs

abbrev pub begins : (ℕ → Bool) → List ℕ → Bool
begins f [] = false
begins f (b ∷ bs) = f b

abbrev pub same_bytes : List ℕ → List ℕ → Bool
same_bytes [] [] = true
same_bytes [] (b ∷ bs) = false
same_bytes (a ∷ us) [] = false
same_bytes (a ∷ us) (b ∷ bs) = eqb a b && same_bytes us bs

abbrev pub among : List ℕ → List (List ℕ) → Bool
among w [] = false
among w (v ∷ vs) = same_bytes w v || among w vs
