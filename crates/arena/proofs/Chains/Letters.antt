-- Letters and phases as the pool's words have them.
use mathlib.Core.Path.{◌≡◌, refl, ap, ◌∙◌}
use mathlib.Core.Logic.{◌≢◌}
use Prim.Native.Nat.{ℕ, zero, suc, ◌+◌, ◌%◌, ◌≤◌, ◌<◌}
use native.Mathlib.Nat.{not-suc-le-zero}
use native.Mathlib.Omega.{arith}
use Rattle.pauli.specs.Letters.{power, phase_of, phase_number, pauli_of, pauli_number, ◌⊕◌, ◌·◌}
use Rattle.pauli.proofs.Finite.{⊕-comm}
use Rattle.pauli.proofs.Numbers.{power-plus}
use Rattle.arena.specs.Types.{Pauli, I, X, Y, Z, Phase, One}
use Rattle.arena.specs.Sparse.{Factor, Sparse, factor, turned, with_factor, with_letter, together}

pub of_number : (a : Pauli) → pauli_of (pauli_number a) ≡ a
of_number I = refl
of_number X = refl
of_number Y = refl
of_number Z = refl

pub number_of : (k : ℕ) → k ≤ 3 → pauli_number (pauli_of k) ≡ k
number_of zero h = refl
number_of (suc zero) h = refl
number_of (suc (suc zero)) h = refl
number_of (suc (suc (suc zero))) h = refl
number_of (suc (suc (suc (suc k)))) h = absurd (omega arith)

-- the numbers 1 to 3 are the letters other than I
pub some_letter_of : (k : ℕ) → 1 ≤ k → k ≤ 3 → pauli_of k ≢ I
some_letter_of zero h m = absurd (not-suc-le-zero h)
some_letter_of (suc zero) h m = λ e. let z : ◌≡◌ {A = ℕ} 0 1 = cc in omega arith
some_letter_of (suc (suc zero)) h m = λ e. let z : ◌≡◌ {A = ℕ} 0 1 = cc in omega arith
some_letter_of (suc (suc (suc zero))) h m = λ e. let z : ◌≡◌ {A = ℕ} 0 1 = cc in omega arith
some_letter_of (suc (suc (suc (suc k)))) h m = absurd (omega arith)

pub number-power : (k : ℕ) → k < 4 → phase_number (power k) ≡ k
unfolding power
number-power zero h = refl
number-power (suc zero) h = refl
number-power (suc (suc zero)) h = refl
number-power (suc (suc (suc zero))) h = refl
number-power (suc (suc (suc (suc k)))) h = absurd (omega arith)

pub power-one : power 0 ≡ One
unfolding power
power-one = refl

pub power-times : (k : ℕ) (t : Phase) → power ((k + phase_number t) % 4) ≡ power k ⊕ t
power-times k t = power-plus k t ∙ ⊕-comm t (power k)

-- ---- two factors of one qubit

-- they cancel
pub together-none : (f h : Factor) (r : Sparse) → pauli_number (f.pauli · h.pauli) ≡ 0 → together f h r ≡ r
together-none f h r = go f.pauli h.pauli
  where
    go : (a b : Pauli) → pauli_number (a · b) ≡ 0 → turned (phase_of a b) (with_letter f.qubit (a · b) r) ≡ r
    go I I e = refl
    go I X e = absurd (omega arith)
    go I Y e = absurd (omega arith)
    go I Z e = absurd (omega arith)
    go X I e = absurd (omega arith)
    go X X e = refl
    go X Y e = absurd (omega arith)
    go X Z e = absurd (omega arith)
    go Y I e = absurd (omega arith)
    go Y X e = absurd (omega arith)
    go Y Y e = refl
    go Y Z e = absurd (omega arith)
    go Z I e = absurd (omega arith)
    go Z X e = absurd (omega arith)
    go Z Y e = absurd (omega arith)
    go Z Z e = refl

some_number : (a : Pauli) → (pauli_number a ≡ 0 → ⊥) → a ≢ I
some_number a ne e = ne (ap pauli_number e)

-- they do not: one factor is left, with a phase
pub third_some : (f h : Factor) → (pauli_number (f.pauli · h.pauli) ≡ 0 → ⊥) → f.pauli · h.pauli ≢ I
third_some f h = some_number (f.pauli · h.pauli)

with_some : (q : ℕ) (a : Pauli) (r : Sparse) → a ≢ I → with_letter q a r ≡ with_factor (factor q a) r
with_some q I r h = absurd (h refl)
with_some q X r h = refl
with_some q Y r h = refl
with_some q Z r h = refl

pub together-some : (f h : Factor) (r : Sparse) → (pauli_number (f.pauli · h.pauli) ≡ 0 → ⊥)
    → together f h r ≡ turned (phase_of f.pauli h.pauli) (with_factor (factor f.qubit (f.pauli · h.pauli)) r)
together-some f h r ne = ap (turned (phase_of f.pauli h.pauli)) (with_some f.qubit (f.pauli · h.pauli) r (third_some f h ne))
