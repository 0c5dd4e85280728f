-- Stored words tested by numbers, case by case: the functions of src/stored.rt that are not public promise what is said here.
use Rattle.std.specs.Prelude.{Bool, ◌||◌, ◌&&◌, not, ℕ, ◌/◌, ◌%◌, leb, ltb, eqb}
use Rattle.arena.specs.Limits.{max_gates, hand_mark}
use Rattle.arena.specs.References.{node_in}
use Rattle.arena.specs.Store.{Header}

-- the two words of a product that is node i, of a single among n qubits, and of the identity
abbrev pub is_product : ℕ → ℕ → ℕ → Bool
is_product i a b = eqb (a % 4) 2 && ltb (node_in (a / 4)) i && ltb (node_in b) i

abbrev pub is_single : ℕ → ℕ → ℕ → Bool
is_single n a b = eqb (a % 4) 1 && leb 1 (a / 4) && leb (a / 4) 3 && ltb b n

abbrev pub is_identity : ℕ → ℕ → Bool
is_identity a b = eqb (a % 4) 0 && eqb (a / 4) 0 && eqb b 0

-- the first, the third and the fourth word of an operation, by its kind; measurements are those already given
abbrev pub is_rotation : ℕ → ℕ → ℕ → Bool
is_rotation a m t = eqb (a % 4) 0 && ltb (a / 4) 8 && eqb m 0 && eqb t 0

abbrev pub is_measurement : Header → ℕ → ℕ → ℕ → Bool
is_measurement h a m t = eqb (a % 4) 1 && eqb (a / 4) 0 && leb t h.cbits && not (leb h.measurements m)

abbrev pub is_conditional : Header → ℕ → ℕ → ℕ → Bool
is_conditional h a m t = eqb (a % 4) 2 && ltb (a / 4) 8 && eqb t 0 && not (leb h.measurements m)

-- the fifth word
abbrev pub is_source : ℕ → Bool
is_source g = ltb g max_gates || eqb g hand_mark
