-- ccx and ccz as seven rotations (document 01, "Operation"), and what seven rotations along commuting axes do to a joint eigenstate.
use Rattle.std.specs.Prelude.{Bool, true, false, cond, ◌&&◌, List, [], ◌∷◌, ℕ, ◌+◌, ◌-◌, ◌%◌}
use Rattle.pauli.specs.Bits.{◌xor◌}

-- a rotation along the product of those of the axes a, b and d that are marked, by so many eighths
pub record Term : Type 0 where
  pub a : Bool
  pub b : Bool
  pub d : Bool
  pub angle : ℕ

abbrev pub term : Bool → Bool → Bool → ℕ → Term
term a b d k = record { a = a; b = b; d = d; angle = k }

-- a +1, b +1, d +1, ab -1, ad -1, bd -1, abd +1; an angle counts modulo 8, so that 7 is -1
abbrev pub seven_rows : List Term
seven_rows =
    term true false false 1 ∷ term false true false 1 ∷ term false false true 1
    ∷ term true true false 7 ∷ term true false true 7 ∷ term false true true 7
    ∷ term true true true 1 ∷ []

-- whether the product of the marked axes has the eigenvalue -1 where x, y and z say whether a, b and d have it
abbrev pub minus_on : Term → Bool → Bool → Bool → Bool
minus_on t x y z = (t.a && x) xor (t.b && y) xor (t.d && z)

-- exp(-i k π/8 P) multiplies an eigenstate by exp(-i k π/8) or, at eigenvalue -1, by exp(i k π/8): the angle in units of π/8, modulo 16
abbrev pub turned_by : Term → Bool → Bool → Bool → ℕ
turned_by t x y z = cond (minus_on t x y z) t.angle (16 - t.angle)

abbrev pub all_turned_by : List Term → Bool → Bool → Bool → ℕ
all_turned_by [] x y z = 0
all_turned_by (t ∷ ts) x y z = (turned_by t x y z + all_turned_by ts x y z) % 16
