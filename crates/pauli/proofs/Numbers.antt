-- Phases and letters by their numbers.
use mathlib.Core.Path.{◌≡◌, refl, ap, ap₂, sym, ◌∙◌}
use mathlib.Core.Logic.{◌≢◌}
use mathlib.Core.Bool.{Bool, true, false}
use Prim.Native.Nat.{ℕ, zero, suc, ◌+◌, ◌*◌, ◌/◌, ◌%◌, ◌≤◌, ◌<◌}
use native.Mathlib.Omega.{arith}
use mir.Val.{bool_byte}
use lib.Dec.{ltb}
use lib.Bits.{bit_and, bit_or, bit_xor}
use borrow.Author.Tests.{le-ltb}
use Rattle.pauli.specs.Letters.{Phase, One, PlusI, MinusOne, MinusI, ◌⊕◌, times_i, power, phase_number, Pauli, I, X, Y, Z, pauli_of, pauli_number, phase_of, ◌·◌}
use Rattle.pauli.proofs.Finite.{turns, phase, letters, number, law₁, law₂}

four_i : (p : Phase) → times_i (times_i (times_i (times_i p))) ≡ p
four_i = law₁ turns phase _ _ tt

power-fours : (k r : ℕ) → power (k * 4 + r) ≡ power r
unfolding power
power-fours zero r = let e : 0 * 4 + r ≡ r = omega arith in ap power e
power-fours (suc k) r =
    let e : suc k * 4 + r ≡ suc (suc (suc (suc (k * 4 + r)))) = omega arith in
    ap power e ∙ four_i (power (k * 4 + r)) ∙ power-fours k r

-- iⁿ goes by the remainder of n by 4
pub power-rest : (n r : ℕ) → n % 4 ≡ r → power n ≡ power r
power-rest n r e = let k : n ≡ n / 4 * 4 + r = omega arith in ap power k ∙ power-fours (n / 4) r

pub power-sum : (p q : Phase) → power (phase_number p + phase_number q) ≡ p ⊕ q
unfolding power
power-sum = law₂ turns phase _ _ tt

pub phase_number-small : (p : Phase) → phase_number p < 4
phase_number-small One = omega arith
phase_number-small PlusI = omega arith
phase_number-small MinusOne = omega arith
phase_number-small MinusI = omega arith

pub pauli_of-rest : (n : ℕ) → n ≢ 1 → n ≢ 2 → n ≢ 3 → pauli_of n ≡ I
pauli_of-rest zero p q r = refl
pauli_of-rest (suc zero) p q r = absurd (p refl)
pauli_of-rest (suc (suc zero)) p q r = absurd (q refl)
pauli_of-rest (suc (suc (suc zero))) p q r = absurd (r refl)
pauli_of-rest (suc (suc (suc (suc n)))) p q r = refl

-- a phase times iⁿ, by the numbers
pub power-plus : (n : ℕ) (p : Phase) → power ((n + phase_number p) % 4) ≡ p ⊕ power n
unfolding power
power-plus n p = sym (power-rest (n + phase_number p) ((n + phase_number p) % 4) refl) ∙ go p
  where
    go : (p : Phase) → power (n + phase_number p) ≡ p ⊕ power n
    go One = let e : n + 0 ≡ n = omega arith in ap power e
    go PlusI = let e : n + 1 ≡ suc n = omega arith in ap power e
    go MinusOne = let e : n + 2 ≡ suc (suc n) = omega arith in ap power e
    go MinusI = let e : n + 3 ≡ suc (suc (suc n)) = omega arith in ap power e

pub pauli_number-small : (a : Pauli) → pauli_number a < 4
pauli_number-small I = omega arith
pauli_number-small X = omega arith
pauli_number-small Y = omega arith
pauli_number-small Z = omega arith

-- ---- products by the bits of the letters' numbers

-- a number past 3 counts as that of I
pub letter_low : (a : ℕ) → a * bool_byte (ltb a 4) ≡ pauli_number (pauli_of a)
letter_low zero = refl
letter_low (suc zero) = refl
letter_low (suc (suc zero)) = refl
letter_low (suc (suc (suc zero))) = refl
letter_low (suc (suc (suc (suc n)))) = rw (le-ltb (suc (suc (suc (suc n)))) 4 (omega arith)) (omega arith)

pub letter_fits : (a : ℕ) → a * bool_byte (ltb a 4) ≤ a
letter_fits a = at_most (ltb a 4)
  where
    at_most : (b : Bool) → a * bool_byte b ≤ a
    at_most true = omega arith
    at_most false = omega arith

-- the letter of a product: the exclusive or
pub letter_bits : (p q : Pauli) → bit_xor (pauli_number p) (pauli_number q) ≡ pauli_number (p · q)
letter_bits = law₂ letters number _ _ tt

-- the power of i in front, as `phase_number` computes it
abbrev phase_bits : ℕ → ℕ → ℕ
phase_bits a b =
    let lowHigh = bit_and a (b / 2) in
    let anticommute = bit_and (bit_xor lowHigh (bit_and (a / 2) b)) 1 in
    let letter = bit_xor a b in
    let reversed = bit_xor lowHigh (bit_and letter (letter / 2)) in
    bit_or anticommute ((bit_and anticommute reversed * 2) % 4294967296)

phase-bits_at : (p q : Pauli) → phase_bits (pauli_number p) (pauli_number q) ≡ phase_number (phase_of p q)
phase-bits_at = law₂ letters number _ _ tt

pub phase-bits : (a b : ℕ) (p q : Pauli) → a ≡ pauli_number p → b ≡ pauli_number q → phase_bits a b ≡ phase_number (phase_of p q)
phase-bits a b p q e f = ap₂ phase_bits e f ∙ phase-bits_at p q
