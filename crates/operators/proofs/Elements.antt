-- Rotations in turn, and the elementary gates, as operators.
use mathlib.Core.Bool.{Bool}
use mathlib.Core.List.{List, [], ◌∷◌}
use Prim.Native.Nat.{ℕ, suc}
use Rattle.pauli.specs.Rows.{single}
use Rattle.pauli.specs.Rotations.{Rotation}
use Rattle.convert.specs.Records.{Elementary, clifford, el_t, el_tdg, el_ccx, el_ccz, el_measure}
use Rattle.operators.specs.Types.{Z}
use Rattle.operators.specs.Operators.{Operators, root_to, turn}
use Rattle.operators.specs.Textbook.{seen, x_of, z_of, if_one, gate_operator}

-- rotations, the first first
abbrev pub turns : {n : ℕ} (O : Operators n) → List Rotation → O.Op
turns O [] = O.one
turns O (r ∷ rs) = O.times (turns O rs) (turn O r.angle r.axis)

-- after m measurements
abbrev pub element_operator : {n : ℕ} (O : Operators n) → (ℕ → Bool) → ℕ → Elementary → O.Op
element_operator O outcome m (clifford g) = gate_operator O g
element_operator O outcome m (el_t q) = if_one O q (root_to O 1)
element_operator O outcome m (el_tdg q) = if_one O q (root_to O 7)
element_operator O outcome m (el_ccx a b d) = if_one O a (if_one O b (x_of O d))
element_operator O outcome m (el_ccz a b d) = if_one O a (if_one O b (z_of O d))
element_operator {n} O outcome m (el_measure q k) = seen O (outcome m) (single n q Z)

-- the measurements given after a gate
abbrev pub given_after : Elementary → ℕ → ℕ
given_after (clifford g) m = m
given_after (el_t q) m = m
given_after (el_tdg q) m = m
given_after (el_ccx a b d) m = m
given_after (el_ccz a b d) m = m
given_after (el_measure q k) m = suc m

-- gates, the first first
abbrev pub elements_operator : {n : ℕ} (O : Operators n) → (ℕ → Bool) → ℕ → List Elementary → O.Op
elements_operator O outcome m [] = O.one
elements_operator O outcome m (e ∷ es) = O.times (elements_operator O outcome (given_after e m) es) (element_operator O outcome m e)

abbrev pub given_all : List Elementary → ℕ → ℕ
given_all [] m = m
given_all (e ∷ es) m = given_all es (given_after e m)
