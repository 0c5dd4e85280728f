-- The plain table of document 01 ("Frame"): 2n rows, the x rows by rising qubit, then the z rows; its start and its seven rules.
use Rattle.std.specs.Prelude.{Bool, true, false, List, [], ◌∷◌, ◌++◌, ℕ, zero, suc, ◌+◌, get_or, set}
use Rattle.pauli.specs.Letters.{Pauli, X, Z, PlusI, MinusOne, MinusI}
use Rattle.pauli.specs.Rows.{Row, ◌★◌, scaled, identity, single}
use Rattle.pauli.specs.Gates.{Gate, gate_h, gate_x, gate_z, gate_s, gate_sdg, gate_cnot, gate_cz}

-- the letter a on qubit q, then on the next, for k qubits of n
abbrev pub column : ℕ → Pauli → ℕ → ℕ → List Row
column n a q zero = []
column n a q (suc k) = single n q a ∷ column n a (suc q) k

-- X on each qubit, then Z on each
unfoldable pub start : ℕ → List Row
start n = column n X 0 n ++ column n Z 0 n

-- the x row and the z row of qubit q
abbrev pub x_row : ℕ → List Row → ℕ → Row
x_row n t q = get_or t q (identity n)

abbrev pub z_row : ℕ → List Row → ℕ → Row
z_row n t q = get_or t (n + q) (identity n)

abbrev pub set_x : ℕ → List Row → ℕ → Row → List Row
set_x n t q P = set t q P

abbrev pub set_z : ℕ → List Row → ℕ → Row → List Row
set_z n t q P = set t (n + q) P

-- the second row that cnot and cz rewrite, after the first
abbrev pub cnot_z : ℕ → ℕ → ℕ → List Row → List Row
cnot_z n c t r = set_z n r t (z_row n r c ★ z_row n r t)

abbrev pub cz_x : ℕ → ℕ → ℕ → List Row → List Row
cz_x n c t r = set_x n r t (z_row n r c ★ x_row n r t)

-- what a gate makes of the table
unfoldable pub step : ℕ → Gate → List Row → List Row
step n (gate_h q) r = set_z n (set_x n r q (z_row n r q)) q (x_row n r q)
step n (gate_x q) r = set_z n r q (scaled MinusOne (z_row n r q))
step n (gate_z q) r = set_x n r q (scaled MinusOne (x_row n r q))
step n (gate_s q) r = set_x n r q (scaled MinusI (x_row n r q ★ z_row n r q))
step n (gate_sdg q) r = set_x n r q (scaled PlusI (x_row n r q ★ z_row n r q))
step n (gate_cnot c t) r = cnot_z n c t (set_x n r c (x_row n r c ★ x_row n r t))
step n (gate_cz c t) r = cz_x n c t (set_x n r c (x_row n r c ★ z_row n r t))

-- gates, the first first
unfoldable pub run : ℕ → List Gate → List Row → List Row
run n [] r = r
run n (g ∷ gs) r = run n gs (step n g r)

unfoldable pub table : ℕ → List Gate → List Row
table n gs = run n gs (start n)

-- the product, in frame order, of the rows at the marked places; a set of places is a list of marks
unfoldable pub product_over : ℕ → List Bool → List Row → Row
product_over n [] rs = identity n
product_over n (b ∷ bs) [] = identity n
product_over n (true ∷ bs) (r ∷ rs) = r ★ product_over n bs rs
product_over n (false ∷ bs) (r ∷ rs) = product_over n bs rs
