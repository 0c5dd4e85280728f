-- The gates of any textbook, by number, and a circuit of them, for given outcomes of the measurements (by number; true is the eigenvalue -1).
-- No lowering and no kind's name is used.
use Rattle.std.specs.Prelude.{Bool, true, false, cond, List, [], ◌∷◌, ℕ, suc, eqb, get_or}
use Rattle.pauli.specs.Rows.{Row, single}
use Rattle.pauli.specs.Gates.{Gate, gate_h, gate_x, gate_z, gate_s, gate_sdg, gate_cnot, gate_cz}
use Rattle.convert.specs.Records.{Record}
use Rattle.operators.specs.Types.{X, Y, Z}
use Rattle.operators.specs.Operators.{Operators, root_to, on_plus, on_minus}

-- the projection that an outcome is
abbrev pub seen : {n : ℕ} (O : Operators n) → Bool → Row → O.Op
seen O true P = on_minus O P
seen O false P = on_plus O P

-- t where P is -1, and one where it is +1
abbrev pub controlled : {n : ℕ} (O : Operators n) → Row → O.Op → O.Op
controlled O P t = O.plus (on_plus O P) (O.times (on_minus O P) t)

-- ---- the gates

-- X, Y and Z of a qubit
abbrev pub x_of : {n : ℕ} (O : Operators n) → ℕ → O.Op
x_of {n} O q = O.read (single n q X)

abbrev pub y_of : {n : ℕ} (O : Operators n) → ℕ → O.Op
y_of {n} O q = O.read (single n q Y)

abbrev pub z_of : {n : ℕ} (O : Operators n) → ℕ → O.Op
z_of {n} O q = O.read (single n q Z)

-- t where qubit q is |1⟩, and one where it is |0⟩
abbrev pub if_one : {n : ℕ} (O : Operators n) → ℕ → O.Op → O.Op
if_one {n} O q t = controlled O (single n q Z) t

-- (X + Z) / √2, and 1 / √2 is half the sum of the root and its inverse
abbrev pub hadamard_of : {n : ℕ} (O : Operators n) → ℕ → O.Op
hadamard_of O q = O.times O.half (O.times (O.plus (root_to O 1) (root_to O 7)) (O.plus (x_of O q) (z_of O q)))

-- ((1 + i) + (1 - i) X) / 2
abbrev pub sx_of : {n : ℕ} (O : Operators n) → ℕ → O.Op
sx_of O q = O.times O.half (O.plus (O.plus O.one (root_to O 2)) (O.times (O.plus O.one (root_to O 6)) (x_of O q)))

-- (1 + X X + Y Y + Z Z) / 2
abbrev pub swap_of : {n : ℕ} (O : Operators n) → ℕ → ℕ → O.Op
swap_of O a b = O.times O.half
    (O.plus (O.plus O.one (O.times (x_of O a) (x_of O b))) (O.plus (O.times (y_of O a) (y_of O b)) (O.times (z_of O a) (z_of O b))))

-- by number, from 0 on, on operands a, b, c, and x the outcome if it measures; s and t multiply |1⟩ by i and by the root
abbrev pub gates : {n : ℕ} (O : Operators n) → Bool → (a b c : ℕ) → List O.Op
gates {n} O x a b c =
    hadamard_of O a  -- 0 h
    ∷ x_of O a  -- 1 x
    ∷ z_of O a  -- 2 z
    ∷ if_one O a (root_to O 2)  -- 3 s
    ∷ if_one O a (root_to O 6)  -- 4 sdg
    ∷ if_one O a (root_to O 1)  -- 5 t
    ∷ if_one O a (root_to O 7)  -- 6 tdg
    ∷ O.none  -- 7 is not supported
    ∷ if_one O a (x_of O b)  -- 8 cnot
    ∷ if_one O a (z_of O b)  -- 9 cz
    ∷ if_one O a (if_one O b (x_of O c))  -- 10 ccx
    ∷ if_one O a (if_one O b (z_of O c))  -- 11 ccz
    ∷ seen O x (single n a Z)  -- 12 measure
    ∷ O.none  -- 13
    ∷ O.none  -- 14
    ∷ y_of O a  -- 15 y
    ∷ sx_of O a  -- 16 sx
    ∷ O.none  -- 17
    ∷ O.none  -- 18
    ∷ swap_of O a b  -- 19 swap
    ∷ if_one O a (y_of O b)  -- 20 cy
    ∷ []

-- ---- circuits

-- a record after m measurements; a number that is not supported is the operator 0
abbrev pub record_operator : {n : ℕ} (O : Operators n) → (ℕ → Bool) → ℕ → Record → O.Op
record_operator O outcome m r = get_or (gates O (outcome m) r.a r.b r.c) r.kind O.none

-- the measurements given after it
abbrev pub given_by : Record → ℕ → ℕ
given_by r m = cond (eqb r.kind 12) (suc m) m

-- records, the first first
abbrev pub circuit_operator : {n : ℕ} (O : Operators n) → (ℕ → Bool) → ℕ → List Record → O.Op
circuit_operator O outcome m [] = O.one
circuit_operator O outcome m (r ∷ rs) = O.times (circuit_operator O outcome (given_by r m) rs) (record_operator O outcome m r)

-- ---- the seven frame gates, which the rules of conjugation are about

abbrev pub gate_operator : {n : ℕ} (O : Operators n) → Gate → O.Op
gate_operator O (gate_h q) = hadamard_of O q
gate_operator O (gate_x q) = x_of O q
gate_operator O (gate_z q) = z_of O q
gate_operator O (gate_s q) = if_one O q (root_to O 2)
gate_operator O (gate_sdg q) = if_one O q (root_to O 6)
gate_operator O (gate_cnot c t) = if_one O c (x_of O t)
gate_operator O (gate_cz c t) = if_one O c (z_of O t)

-- gates, the first first
abbrev pub gates_operator : {n : ℕ} (O : Operators n) → List Gate → O.Op
gates_operator O [] = O.one
gates_operator O (g ∷ gs) = O.times (gates_operator O gs) (gate_operator O g)
