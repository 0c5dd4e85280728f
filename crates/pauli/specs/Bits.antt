-- Aaronson and Gottesman's tableau row: bits x and z for each qubit and a sign bit r, with their rules for h (Hadamard), s (phase) and cnot,
-- and the phase g of a product of two letters (their section on rowsum).
use Rattle.std.specs.Prelude.{Bool, true, false, not, ◌&&◌, List, map, ℕ, get_or, set}
use Rattle.pauli.specs.Letters.{Pauli, I, X, Y, Z, Phase, One, PlusI, MinusOne, MinusI}
use Rattle.pauli.specs.Rows.{Row}

infixl 30 ◌xor◌
abbrev pub ◌xor◌ : Bool → Bool → Bool
true xor b = not b
false xor b = b

-- X is 1 0, Z is 0 1, Y is 1 1
abbrev pub x_bit : Pauli → Bool
x_bit I = false
x_bit X = true
x_bit Y = true
x_bit Z = false

abbrev pub z_bit : Pauli → Bool
z_bit I = false
z_bit X = false
z_bit Y = true
z_bit Z = true

-- -1; the paper's rows have no other phases than +1 and -1, and -i goes with -1 here
abbrev pub r_bit : Phase → Bool
r_bit One = false
r_bit PlusI = false
r_bit MinusOne = true
r_bit MinusI = true

pub record BitRow : Type 0 where
  pub x : List Bool
  pub z : List Bool
  pub r : Bool

abbrev pub bits : Row → BitRow
bits P = record { x = map x_bit P.letters; z = map z_bit P.letters; r = r_bit P.phase }

abbrev pub bit : List Bool → ℕ → Bool
bit bs q = get_or bs q false

-- Hadamard on a: r := r ⊕ x_a z_a, and x_a and z_a change places
abbrev pub bit_h : ℕ → BitRow → BitRow
bit_h a R = record {
  x = set R.x a (bit R.z a);
  z = set R.z a (bit R.x a);
  r = R.r xor (bit R.x a && bit R.z a);
}

-- phase on a: r := r ⊕ x_a z_a, z_a := z_a ⊕ x_a
abbrev pub bit_s : ℕ → BitRow → BitRow
bit_s a R = record {
  x = R.x;
  z = set R.z a (bit R.z a xor bit R.x a);
  r = R.r xor (bit R.x a && bit R.z a);
}

-- cnot from a to b: r := r ⊕ x_a z_b (x_b ⊕ z_a ⊕ 1), x_b := x_b ⊕ x_a, z_a := z_a ⊕ z_b
abbrev pub bit_cnot : ℕ → ℕ → BitRow → BitRow
bit_cnot a b R = record {
  x = set R.x b (bit R.x b xor bit R.x a);
  z = set R.z a (bit R.z a xor bit R.z b);
  r = R.r xor (bit R.x a && (bit R.z b && (bit R.x b xor bit R.z a xor true)));
}

-- the power of i that z₂ - x₂ names
abbrev pub difference : Bool → Bool → Phase
difference true true = One
difference true false = PlusI
difference false true = MinusI
difference false false = One

-- g(x₁, z₁, x₂, z₂): 0 for I; z₂ - x₂ for Y; z₂ (2 x₂ - 1) for X; x₂ (1 - 2 z₂) for Z
abbrev pub g : Bool → Bool → Bool → Bool → Phase
g false false x₂ z₂ = One
g true true x₂ z₂ = difference z₂ x₂
g true false x₂ true = difference x₂ (not x₂)
g true false x₂ false = One
g false true true z₂ = difference (not z₂) z₂
g false true false z₂ = One
