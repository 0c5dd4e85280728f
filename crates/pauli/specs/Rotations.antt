-- Litinski's rotations exp(-i k π/8 P), and the rotations that a flush writes for each gate (document 01, "Planes").
use Rattle.std.specs.Prelude.{◌≡◌, ◌⊎◌, cond, List, [], ◌∷◌, ◌++◌, ℕ, zero, suc, ◌/◌}
use Rattle.pauli.specs.Letters.{X, Z, MinusI}
use Rattle.pauli.specs.Rows.{Row, ◌★◌, scaled, single, anticommute}
use Rattle.pauli.specs.Gates.{Gate, gate_h, gate_x, gate_z, gate_s, gate_sdg, gate_cnot, gate_cz}

-- U Q U† for U = exp(-i π/4 P), a quarter turn along P: Q where they commute, else exp(-i π/2 P) Q = -i P Q
abbrev pub quarter : Row → Row → Row
quarter P Q = cond (anticommute P Q) (scaled MinusI (P ★ Q)) Q

abbrev pub quarters : ℕ → Row → Row → Row
quarters zero P Q = Q
quarters (suc m) P Q = quarter P (quarters m P Q)

-- U Q U† for U = exp(-i k π/8 P) and an even k, k / 2 quarter turns. (An odd k makes two rows of one; none is written by a flush.)
abbrev pub rotate : ℕ → Row → Row → Row
rotate k P Q = quarters (k / 2) P Q

-- exp(-i φ Q) is cos φ - i sin φ Q at any angle φ. In a product with 1 - i P, which is √2 exp(-i π/4 P), cos φ stands before 1 - i P,
-- and sin φ before a sum of two rows: (1 - i P) (-i Q) where the quarter turn comes second, (-i Q) (1 - i P) where it comes first.
pub record Sum : Type 0 where
  pub first : Row
  pub second : Row

abbrev pub quarter_last : Row → Row → Sum
quarter_last P Q = record { first = scaled MinusI Q; second = scaled MinusI P ★ scaled MinusI Q }

abbrev pub quarter_first : Row → Row → Sum
quarter_first P Q = record { first = scaled MinusI Q; second = scaled MinusI Q ★ scaled MinusI P }

abbrev pub SameSum : Sum → Sum → Type 0
SameSum s t = ((s.first ≡ t.first) × (s.second ≡ t.second)) ⊎ ((s.first ≡ t.second) × (s.second ≡ t.first))

-- ---- what a flush writes

pub record Rotation : Type 0 where
  pub axis : Row
  pub angle : ℕ

abbrev pub by : Row → ℕ → Rotation
by P k = record { axis = P; angle = k }

-- rotations, the first first
abbrev pub rotations : List Rotation → Row → Row
rotations [] Q = Q
rotations (r ∷ rs) Q = rotations rs (rotate r.angle r.axis Q)

-- what a flush writes for a gate, in order; 6 is -2
abbrev pub written : ℕ → Gate → List Rotation
written n (gate_h q) = by (single n q Z) 2 ∷ by (single n q X) 2 ∷ by (single n q Z) 2 ∷ []
written n (gate_x q) = by (single n q X) 4 ∷ []
written n (gate_z q) = by (single n q Z) 4 ∷ []
written n (gate_s q) = by (single n q Z) 2 ∷ []
written n (gate_sdg q) = by (single n q Z) 6 ∷ []
written n (gate_cnot c t) = by (single n c Z) 2 ∷ by (single n t X) 2 ∷ by (single n c Z ★ single n t X) 6 ∷ []
written n (gate_cz c t) = by (single n c Z) 2 ∷ by (single n t Z) 2 ∷ by (single n c Z ★ single n t Z) 6 ∷ []

-- what it writes for the pending gates
unfoldable pub flush : ℕ → List Gate → List Rotation
flush n [] = []
flush n (g ∷ gs) = written n g ++ flush n gs

-- what holds of each rotation of a list
abbrev pub Each : (Rotation → Type 0) → List Rotation → Type 0
Each A [] = Unit {0}
Each A (r ∷ rs) = A r × Each A rs
