-- Letters and phases (document 01, "Phase, letter, angle"): the Pauli matrices of one qubit, and the power of i in front of a product.
-- They are the enums of src/pauli.rt. Only the phase I has another name here, PlusI, since I is the letter.
use Rattle.std.specs.Prelude.{Bool, true, false, cond, List, ℕ, zero, suc, ltb, codes}
pub use Rattle.pauli.specs.declared.pauli.Phase.TheVariants.{the_data as Phase, One, I as PlusI, MinusOne, MinusI}
pub use Rattle.pauli.specs.declared.pauli.Pauli.TheVariants.{the_data as Pauli, I, X, Y, Z}
pub use Rattle.std.specs.Prelude.{Option, Some, None}
pub use Rattle.pauli.specs.declared.pauli.PauliProduct.{PauliProduct}
pub use Rattle.pauli.specs.declared.pauli.NumberProduct.{NumberProduct}

infixl 65 ◌⊕◌
infixl 70 ◌·◌
-- i times a phase
abbrev pub times_i : Phase → Phase
times_i One = PlusI
times_i PlusI = MinusOne
times_i MinusOne = MinusI
times_i MinusI = One

-- the product of two phases: the powers of i add up
abbrev pub ◌⊕◌ : Phase → Phase → Phase
One ⊕ q = q
PlusI ⊕ q = times_i q
MinusOne ⊕ q = times_i (times_i q)
MinusI ⊕ q = times_i (times_i (times_i q))

-- the phases +1 and -1
abbrev pub real : Phase → Bool
real One = true
real PlusI = false
real MinusOne = true
real MinusI = false

abbrev pub phased : Phase → Pauli → PauliProduct
phased p a = record { phase = p; pauli = a }

-- the product of two letters, a phase and a letter: XY = iZ, YZ = iX, ZX = iY; reversed -i; equal letters give I; I is neutral
abbrev pub product_of : Pauli → Pauli → PauliProduct
product_of I b = phased One b
product_of X I = phased One X
product_of X X = phased One I
product_of X Y = phased PlusI Z
product_of X Z = phased MinusI Y
product_of Y I = phased One Y
product_of Y X = phased MinusI Z
product_of Y Y = phased One I
product_of Y Z = phased PlusI X
product_of Z I = phased One Z
product_of Z X = phased PlusI Y
product_of Z Y = phased MinusI X
product_of Z Z = phased One I

abbrev pub ◌·◌ : Pauli → Pauli → Pauli
a · b = (product_of a b).pauli

abbrev pub phase_of : Pauli → Pauli → Phase
phase_of a b = (product_of a b).phase

-- ---- numbers

abbrev pub phase_number : Phase → ℕ
phase_number One = 0
phase_number PlusI = 1
phase_number MinusOne = 2
phase_number MinusI = 3

-- iⁿ: the phase with the number n, which counts modulo 4
unfoldable pub power : ℕ → Phase
power zero = One
power (suc n) = times_i (power n)

abbrev pub pauli_number : Pauli → ℕ
pauli_number I = 0
pauli_number X = 1
pauli_number Y = 2
pauli_number Z = 3

-- the letter with the number n; a number past 3 stands for I
abbrev pub pauli_of : ℕ → Pauli
pauli_of zero = I
pauli_of (suc zero) = X
pauli_of (suc (suc zero)) = Y
pauli_of (suc (suc (suc zero))) = Z
pauli_of (suc (suc (suc (suc n)))) = I

-- the same where a number past 3 is no letter
unfoldable pub pauli_at : ℕ → Option Pauli
pauli_at n = cond (ltb n 4) (Some (pauli_of n)) None

-- the product of two letters, all by their numbers
abbrev pub number_product : ℕ → ℕ → NumberProduct
number_product a b = record { phase = phase_number (phase_of (pauli_of a) (pauli_of b)); pauli = pauli_number (pauli_of a · pauli_of b) }

-- ---- what is printed

abbrev pub phase_text : Phase → List ℕ
phase_text One = codes "+"
phase_text PlusI = codes "+i"
phase_text MinusOne = codes "-"
phase_text MinusI = codes "-i"

abbrev pub pauli_text : Pauli → List ℕ
pauli_text I = codes "I"
pauli_text X = codes "X"
pauli_text Y = codes "Y"
pauli_text Z = codes "Z"
