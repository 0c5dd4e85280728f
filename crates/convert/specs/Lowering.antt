-- What y, sx, swap and cy do to a row by conjugation, U P U†, letter by letter; and what their lowered gates do.
use Rattle.std.specs.Prelude.{List, ℕ}
use Rattle.pauli.specs.Rows.{Row}
use Rattle.pauli.specs.Gates.{Image₁, Image₂, plus, minus, plus₂, rule₁, rule₂, Gate, forward}
use Rattle.convert.specs.Types.{Pauli, I, X, Y, Z}
use Rattle.convert.specs.Records.{GateKind, lower_as}
use Rattle.convert.specs.Frame.{cliffords_of}

-- Y commutes with Y, and anticommutes with X and Z
abbrev pub rule_y : Pauli → Image₁
rule_y = rule₁ (minus X) (minus Z)

-- the square root of X is a quarter turn about X: Z becomes -Y
abbrev pub rule_sx : Pauli → Image₁
rule_sx = rule₁ (plus X) (minus Y)

-- the letters change places
abbrev pub rule_swap : Pauli → Pauli → Image₂
rule_swap a b = plus₂ b a

-- controlled Y: X of the control brings Y to the target; X and Z of the target bring Z to the control
abbrev pub rule_cy : Pauli → Pauli → Image₂
rule_cy = rule₂ (plus₂ X Y) (plus₂ Z I) (plus₂ Z X) (plus₂ Z Z)

-- the frame gates that a kind is lowered to
abbrev pub lowered_gates : GateKind → ℕ → ℕ → List Gate
lowered_gates k a b = cliffords_of (lower_as k a b 0)

-- U P U† for these gates U
abbrev pub lowered_acts : GateKind → ℕ → ℕ → Row → Row
lowered_acts k a b P = forward (lowered_gates k a b) P
