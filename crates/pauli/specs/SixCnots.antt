-- E4 of document 02: the six cnots among the thirteen gates that stand for ccz a b d, on the plain table.
-- The other seven gates are t and tdg, each along the z row that its qubit then has.
use Rattle.std.specs.Prelude.{◌≡◌, List, [], ◌∷◌, ℕ, take}
use Rattle.pauli.specs.Rows.{Row, ◌★◌}
use Rattle.pauli.specs.Gates.{Gate, gate_cnot}
use Rattle.pauli.specs.Table.{z_row, run}

abbrev pub six_cnots : ℕ → ℕ → ℕ → List Gate
six_cnots a b d = gate_cnot b d ∷ gate_cnot a d ∷ gate_cnot b d ∷ gate_cnot a d ∷ gate_cnot a b ∷ gate_cnot a b ∷ []

-- the z row of qubit q after the first k of them
abbrev pub z_after : ℕ → ℕ → ℕ → ℕ → List Row → ℕ → ℕ → Row
z_after n a b d t k q = z_row n (run n (take k (six_cnots a b d)) t) q

-- the rows that the seven gates meet, in their order, are the products bd, abd, ad, b, d, a and ab of the z rows that t has; and t is left at the end
pub record SevenMet (n a b d : ℕ) (t : List Row) : Type 0 where
  pub row_bd : z_after n a b d t 1 d ≡ z_row n t b ★ z_row n t d
  pub row_abd : z_after n a b d t 2 d ≡ z_row n t a ★ z_row n t b ★ z_row n t d
  pub row_ad : z_after n a b d t 3 d ≡ z_row n t a ★ z_row n t d
  pub row_b : z_after n a b d t 4 b ≡ z_row n t b
  pub row_d : z_after n a b d t 4 d ≡ z_row n t d
  pub row_a : z_after n a b d t 5 a ≡ z_row n t a
  pub row_ab : z_after n a b d t 5 b ≡ z_row n t a ★ z_row n t b
  pub table_same : run n (six_cnots a b d) t ≡ t
