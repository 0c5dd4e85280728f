-- Clifford gates as they act on a row by conjugation, U P U†: Aaronson and Gottesman's h, s and cnot on letters,
-- and x, z, sdg and cz made of these three. specs/Bits.antt has the same rules in the paper's bits.
use Rattle.std.specs.Prelude.{◌≢◌, List, [], ◌∷◌, ℕ, ◌<◌, set}
use Rattle.pauli.specs.Letters.{Pauli, I, X, Y, Z, Phase, One, PlusI, MinusOne, ◌⊕◌, ◌·◌, phase_of}
use Rattle.pauli.specs.Rows.{Row, on}

-- what a gate makes of the letter on its qubit, and the sign in front
pub record Image₁ : Type 0 where
  pub letter : Pauli
  pub sign : Phase

-- the same of the letters on its two qubits
pub record Image₂ : Type 0 where
  pub first : Pauli
  pub second : Pauli
  pub sign : Phase

abbrev pub plus : Pauli → Image₁
plus a = record { letter = a; sign = One }

abbrev pub minus : Pauli → Image₁
minus a = record { letter = a; sign = MinusOne }

abbrev pub plus₂ : Pauli → Pauli → Image₂
plus₂ a b = record { first = a; second = b; sign = One }

-- the product of two images, the left one first
abbrev pub times₂ : Image₂ → Image₂ → Image₂
times₂ u v = record {
  first = u.first · v.first;
  second = u.second · v.second;
  sign = u.sign ⊕ v.sign ⊕ phase_of u.first v.first ⊕ phase_of u.second v.second;
}

-- a gate is known by what it makes of X and of Z, since Y is iXZ
abbrev pub rule₁ : Image₁ → Image₁ → Pauli → Image₁
rule₁ x z I = plus I
rule₁ x z X = x
rule₁ x z Y = record { letter = x.letter · z.letter; sign = PlusI ⊕ x.sign ⊕ z.sign ⊕ phase_of x.letter z.letter }
rule₁ x z Z = z

abbrev pub image_of : Image₂ → Image₂ → Pauli → Image₂
image_of x z I = plus₂ I I
image_of x z X = x
image_of x z Y = times₂ (record { first = I; second = I; sign = PlusI }) (times₂ x z)
image_of x z Z = z

-- on two qubits: by X and Z of the first, X and Z of the second
abbrev pub rule₂ : Image₂ → Image₂ → Image₂ → Image₂ → Pauli → Pauli → Image₂
rule₂ x z x' z' a b = times₂ (image_of x z a) (image_of x' z' b)

-- ---- the paper's three gates

-- h: X becomes Z, Z becomes X
abbrev pub rule_h : Pauli → Image₁
rule_h = rule₁ (plus Z) (plus X)

-- s: X becomes Y, Z stays
abbrev pub rule_s : Pauli → Image₁
rule_s = rule₁ (plus Y) (plus Z)

-- cnot: of the control X becomes XX, Z stays; of the target X stays, Z becomes ZZ
abbrev pub rule_cnot : Pauli → Pauli → Image₂
rule_cnot = rule₂ (plus₂ X X) (plus₂ Z I) (plus₂ I X) (plus₂ Z Z)

-- a letter rule at work on qubit q of a row
abbrev pub act₁ : (Pauli → Image₁) → ℕ → Row → Row
act₁ f q P = record {
  letters = set P.letters q (f (on P q)).letter;
  phase = (f (on P q)).sign ⊕ P.phase;
}

-- and on qubits c and t
abbrev pub act₂ : (Pauli → Pauli → Image₂) → ℕ → ℕ → Row → Row
act₂ f c t P = record {
  letters = set (set P.letters c (f (on P c) (on P t)).first) t (f (on P c) (on P t)).second;
  phase = (f (on P c) (on P t)).sign ⊕ P.phase;
}

abbrev pub by_h : ℕ → Row → Row
by_h = act₁ rule_h

abbrev pub by_s : ℕ → Row → Row
by_s = act₁ rule_s

abbrev pub by_cnot : ℕ → ℕ → Row → Row
by_cnot = act₂ rule_cnot

-- ---- the seven frame gates

pub data Gate : Type 0 where
  gate_h gate_x gate_z gate_s gate_sdg : ℕ → Gate
  gate_cnot gate_cz : ℕ → ℕ → Gate

-- the operands are among the n qubits, and those of one gate differ
abbrev pub Valid : ℕ → Gate → Type 0
Valid n (gate_h q) = q < n
Valid n (gate_x q) = q < n
Valid n (gate_z q) = q < n
Valid n (gate_s q) = q < n
Valid n (gate_sdg q) = q < n
Valid n (gate_cnot c t) = (c < n) × (t < n) × (c ≢ t)
Valid n (gate_cz c t) = (c < n) × (t < n) × (c ≢ t)

abbrev pub AllValid : ℕ → List Gate → Type 0
AllValid n [] = Unit {0}
AllValid n (g ∷ gs) = Valid n g × AllValid n gs

-- U P U† for a gate U
unfoldable pub conj : Gate → Row → Row
conj (gate_h q) P = by_h q P
conj (gate_s q) P = by_s q P
conj (gate_cnot c t) P = by_cnot c t P
conj (gate_z q) P = by_s q (by_s q P)
conj (gate_sdg q) P = by_s q (by_s q (by_s q P))
conj (gate_x q) P = by_h q (by_s q (by_s q (by_h q P)))
conj (gate_cz c t) P = by_h t (by_cnot c t (by_h t P))

abbrev pub inverse : Gate → Gate
inverse (gate_h q) = gate_h q
inverse (gate_x q) = gate_x q
inverse (gate_z q) = gate_z q
inverse (gate_s q) = gate_sdg q
inverse (gate_sdg q) = gate_s q
inverse (gate_cnot c t) = gate_cnot c t
inverse (gate_cz c t) = gate_cz c t

-- U P U† for U = gₖ ⋯ g₁, the gates in the order of the list
unfoldable pub forward : List Gate → Row → Row
forward [] P = P
forward (g ∷ gs) P = forward gs (conj g P)

-- U† P U for the same U
unfoldable pub back : List Gate → Row → Row
back [] P = P
back (g ∷ gs) P = conj (inverse g) (back gs P)

-- ---- direct rules of the gates made of the three

abbrev pub rule_x : Pauli → Image₁
rule_x = rule₁ (plus X) (minus Z)

abbrev pub rule_z : Pauli → Image₁
rule_z = rule₁ (minus X) (plus Z)

abbrev pub rule_sdg : Pauli → Image₁
rule_sdg = rule₁ (minus Y) (plus Z)

abbrev pub rule_cz : Pauli → Pauli → Image₂
rule_cz = rule₂ (plus₂ X Z) (plus₂ Z I) (plus₂ Z X) (plus₂ I Z)

-- each gate by one letter rule
abbrev pub direct : Gate → Row → Row
direct (gate_h q) = act₁ rule_h q
direct (gate_x q) = act₁ rule_x q
direct (gate_z q) = act₁ rule_z q
direct (gate_s q) = act₁ rule_s q
direct (gate_sdg q) = act₁ rule_sdg q
direct (gate_cnot c t) = act₂ rule_cnot c t
direct (gate_cz c t) = act₂ rule_cz c t
