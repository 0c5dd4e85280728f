-- Rows: the Pauli operators on n qubits, a letter for each qubit and a phase in front.
-- { X Z, MinusOne } is -(X on qubit 0) (Z on qubit 1).
use Rattle.std.specs.Prelude.{◌≡◌, Bool, true, false, not, List, [], ◌∷◌, ℕ, zero, suc, length, get_or, set, replicate}
use Rattle.pauli.specs.Letters.{Pauli, I, X, Y, Z, Phase, One, MinusOne, ◌⊕◌, real, ◌·◌, phase_of}

infixl 70 ◌★◌
pub record Row : Type 0 where
  pub letters : List Pauli
  pub phase : Phase

-- a row of n qubits
abbrev pub Width : ℕ → Row → Type 0
Width n P = length P.letters ≡ n

-- the letter on qubit q
abbrev pub on : Row → ℕ → Pauli
on P q = get_or P.letters q I

-- the product of two lists of letters, place by place: the letters (a list counts as going on with I)
abbrev pub products : List Pauli → List Pauli → List Pauli
products [] vs = vs
products (a ∷ us) [] = a ∷ us
products (a ∷ us) (b ∷ vs) = (a · b) ∷ products us vs

-- and all the phases
abbrev pub phases : List Pauli → List Pauli → Phase
phases [] vs = One
phases (a ∷ us) [] = One
phases (a ∷ us) (b ∷ vs) = phase_of a b ⊕ phases us vs

-- the product of two rows: letter by letter, with every phase
abbrev pub ◌★◌ : Row → Row → Row
P ★ Q = record {
  letters = products P.letters Q.letters;
  phase = P.phase ⊕ Q.phase ⊕ phases P.letters Q.letters;
}

-- a phase times a row
abbrev pub scaled : Phase → Row → Row
scaled p P = record { letters = P.letters; phase = p ⊕ P.phase }

-- I on each of n qubits
abbrev pub identity : ℕ → Row
identity n = record { letters = replicate n I; phase = One }

-- the letter a on qubit q of n, I elsewhere
abbrev pub single : ℕ → ℕ → Pauli → Row
single n q a = record { letters = set (replicate n I) q a; phase = One }

-- ---- counts of places

abbrev pub tally : Bool → ℕ → ℕ
tally true k = suc k
tally false k = k

abbrev pub present : Pauli → Bool
present I = false
present X = true
present Y = true
present Z = true

-- the number of letters other than I
abbrev pub weight : List Pauli → ℕ
weight [] = 0
weight (a ∷ us) = tally (present a) (weight us)

-- two letters anticommute where their product has the phase i or -i: two different letters other than I
abbrev pub anti : Pauli → Pauli → Bool
anti a b = not (real (phase_of a b))

-- the number of places that hold two different letters other than I
abbrev pub anti_places : List Pauli → List Pauli → ℕ
anti_places [] vs = zero
anti_places (a ∷ us) [] = zero
anti_places (a ∷ us) (b ∷ vs) = tally (anti a b) (anti_places us vs)

abbrev pub odd : ℕ → Bool
odd zero = false
odd (suc n) = not (odd n)

-- two rows anticommute if an odd number of places do
abbrev pub anticommute : Row → Row → Bool
anticommute P Q = odd (anti_places P.letters Q.letters)

-- the sign that exchanging them brings
abbrev pub minus_if : Bool → Phase
minus_if true = MinusOne
minus_if false = One
