-- What is routed, at the edge of each clause: each falls if the definition departs from E6 of document 02.
-- kept: pins, which docs/TRUST.md names: they are their own use.
use mathlib.Core.Path.{◌≡◌, refl, ap, sym}
use mathlib.Core.Bool.{true≢false}
use mathlib.Core.List.{List, [], ◌∷◌}
use Prim.Native.Nat.{ℕ, ◌≤◌}
use native.Mathlib.Omega.{arith}
use Rattle.pauli.specs.Letters.{phase_number}
use Rattle.pauli.specs.Rows.{Row}
use Rattle.arena.specs.Readers.{Weights}
use Rattle.convert.specs.Types.{Pauli, I, Z, Phase, One, PlusI, MinusOne, Bit}
use Rattle.convert.specs.Records.{Cap, NoCap, AtMost}
use Rattle.convert.specs.Plain.{rotate_by, measure_of, conditional_by, malformed}
use Rattle.convert.specs.Routing.{Routed, RoutedWeights}

abbrev row : List Pauli → Phase → Row
row letters phase = record { letters = letters; phase = phase }

abbrev one : List Pauli
one = Z ∷ I ∷ I ∷ []

abbrev two : List Pauli
two = Z ∷ I ∷ Z ∷ []

abbrev three : List Pauli
three = Z ∷ Z ∷ Z ∷ []

-- ---- routed

odd_at_cap : Routed (AtMost 2) (rotate_by 7 (row two MinusOne))
odd_at_cap = ((λ e. (refl, omega arith)), λ e. absurd (omega arith))

odd_free : Routed NoCap (rotate_by 1 (row three MinusOne))
odd_free = ((λ e. (refl, tt)), λ e. absurd (omega arith))

measured_at_cap : Routed (AtMost 2) (measure_of (row two MinusOne) 0 (Bit 0))
measured_at_cap = (refl, omega arith)

-- also at cap 1
even_at-two : Routed (AtMost 1) (rotate_by 6 (row two One))
even_at-two = ((λ e. absurd (omega arith)), λ e. (refl, omega arith))

-- ---- not routed

odd_too_heavy : Routed (AtMost 1) (rotate_by 1 (row two One)) → ⊥
odd_too_heavy r = let le : 2 ≤ 1 = (r.0 refl).1 in omega arith

measured_too_heavy : Routed (AtMost 1) (measure_of (row two One) 0 (Bit 0)) → ⊥
measured_too_heavy r = let le : 2 ≤ 1 = r.1 in omega arith

even_too_heavy : Routed (AtMost 3) (rotate_by 2 (row three One)) → ⊥
even_too_heavy r = let le : 3 ≤ 2 = (r.1 refl).1 in omega arith

odd_unreal : (cap : Cap) → Routed cap (rotate_by 1 (row one PlusI)) → ⊥
odd_unreal cap r = true≢false (sym (r.0 refl).0)

measured_unreal : (cap : Cap) → Routed cap (measure_of (row one PlusI) 0 (Bit 0)) → ⊥
measured_unreal cap r = true≢false (sym r.0)

even_minus : Routed (AtMost 3) (rotate_by 6 (row one MinusOne)) → ⊥
even_minus r = let e : phase_number MinusOne ≡ 0 = ap phase_number (r.1 refl).0 in omega arith

even_free : Routed NoCap (rotate_by 4 (row one One)) → ⊥
even_free r = r.1 refl

conditional_none : (cap : Cap) → Routed cap (conditional_by 4 (row one One) 0) → ⊥
conditional_none cap r = r

malformed-none : (cap : Cap) → Routed cap malformed → ⊥
malformed-none cap r = r

-- ---- the two numbers of a report

abbrev weights : ℕ → ℕ → Weights
weights other clifford = record { non_clifford = other; clifford = clifford }

report_at_cap : RoutedWeights (AtMost 3) (weights 3 2)
report_at_cap = (omega arith, omega arith)

report_free : RoutedWeights NoCap (weights 9 0)
report_free = refl

report_too_heavy : RoutedWeights (AtMost 3) (weights 4 2) → ⊥
report_too_heavy r = let le : 4 ≤ 3 = r.0 in omega arith

report_clifford_too_heavy : RoutedWeights (AtMost 3) (weights 3 3) → ⊥
report_clifford_too_heavy r = let le : 3 ≤ 2 = r.1 in omega arith

report_free_clifford : RoutedWeights NoCap (weights 9 1) → ⊥
report_free_clifford r = let e : ◌≡◌ {A = ℕ} 1 0 = r in omega arith
