-- Sparse products (document 01, "Factor pool and work"): a phase, and the letters other than I with their qubits, which rise.
use Rattle.std.specs.Prelude.{cond, List, [], ◌∷◌, ℕ, zero, suc, ltb, eqb, length}
use Rattle.pauli.specs.Letters.{◌⊕◌, ◌·◌, phase_of}
use Rattle.pauli.specs.Rows.{Row}
use Rattle.arena.specs.Types.{Pauli, I, X, Y, Z, Phase, One}

pub record Factor : Type 0 where
  pub qubit : ℕ
  pub pauli : Pauli

pub record Sparse : Type 0 where
  pub phase : Phase
  pub factors : List Factor

abbrev pub factor : ℕ → Pauli → Factor
factor q a = record { qubit = q; pauli = a }

abbrev pub empty : Sparse
empty = record { phase = One; factors = [] }

abbrev pub one : ℕ → Pauli → Sparse
one q a = record { phase = One; factors = factor q a ∷ [] }

-- a phase in front
abbrev pub turned : Phase → Sparse → Sparse
turned p v = record { phase = p ⊕ v.phase; factors = v.factors }

abbrev pub size : Sparse → ℕ
size v = length v.factors

-- ---- the product of two, merged by qubit

abbrev pub with_factor : Factor → Sparse → Sparse
with_factor f v = record { phase = v.phase; factors = f ∷ v.factors }

-- a factor with the letter I is none
abbrev pub with_letter : ℕ → Pauli → Sparse → Sparse
with_letter q I v = v
with_letter q X v = with_factor (factor q X) v
with_letter q Y v = with_factor (factor q Y) v
with_letter q Z v = with_factor (factor q Z) v

-- two factors of one qubit: the left one's letter stands on the left
abbrev pub together : Factor → Factor → Sparse → Sparse
together f g v = turned (phase_of f.pauli g.pauli) (with_letter f.qubit (f.pauli · g.pauli) v)

-- f and then fs, times gs; `rest` is fs times what it is given
abbrev pub merge_one : Factor → List Factor → (List Factor → Sparse) → List Factor → Sparse
merge_one f fs rest [] = record { phase = One; factors = f ∷ fs }
merge_one f fs rest (g ∷ gs) =
    cond (ltb f.qubit g.qubit) (with_factor f (rest (g ∷ gs)))
    (cond (ltb g.qubit f.qubit) (with_factor g (merge_one f fs rest gs)) (together f g (rest gs)))

abbrev pub merge : List Factor → List Factor → Sparse
merge [] gs = record { phase = One; factors = gs }
merge (f ∷ fs) gs = merge_one f fs (λ hs. merge fs hs) gs

abbrev pub multiply : Sparse → Sparse → Sparse
multiply u v = turned (u.phase ⊕ v.phase) (merge u.factors v.factors)

-- ---- what it stands for

-- the letters of the k qubits from `at` on
abbrev pub spread : ℕ → ℕ → List Factor → List Pauli
spread zero at fs = []
spread (suc k) at [] = I ∷ spread k (suc at) []
spread (suc k) at (f ∷ fs) = cond (eqb f.qubit at) (f.pauli ∷ spread k (suc at) fs) (I ∷ spread k (suc at) (f ∷ fs))

-- as a row of n qubits
unfoldable pub dense : ℕ → Sparse → Row
dense n v = record { letters = spread n 0 v.factors; phase = v.phase }
