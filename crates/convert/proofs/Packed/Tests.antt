-- What is tested before a gate, by weights of packed rows.
use mathlib.Core.Path.{◌≡◌, refl, sym, ◌∙◌}
use mathlib.Core.Bool.{Bool, true, false, ◌||◌}
use mathlib.Core.Logic.{◌⊎◌, inl, inr}
use mathlib.Core.List.{List, [], ◌∷◌, ◌++◌}
use Prim.Native.Nat.{ℕ, suc, ◌+◌, ◌*◌, ◌<◌}
use native.Mathlib.Omega.{arith}
use native.Mathlib.Numerals.{add-one}
use lib.Dec.{ltb}
use lib.ListN.{length, get_or}
use Rattle.pauli.specs.Rows.{Row, products, identity, weight}
use Rattle.pauli.specs.Table.{x_row, z_row}
use Rattle.convert.specs.Types.{Pauli}
use Rattle.convert.specs.Records.{AtMost, GateKind, KindH, KindX, KindZ, KindS, KindSdg, KindT, KindTdg, KindCnot, KindCz, KindCcx, KindCcz, KindMeasure, KindY, KindSx, KindSwap, KindCy, Unsupported, lower_as, AllProper}
use Rattle.convert.specs.Plain.{any_above, seven, tested, exceeds}
use Rattle.convert.specs.Planes.{part_words, packed, images}
use Rattle.convert.specs.Code.Raw.{tests_of, any_exceeds}
use Rattle.convert.specs.Code.RawPlanes.{weight_to, Wide, seven_above}
use Rattle.convert.proofs.Packed.Words
use Rattle.convert.proofs.Packed.Tables.{plane-weight}
use Rattle.convert.proofs.Packed.Words.{chosen}

products-nil : (us : List Pauli) → products us [] ≡ us
products-nil [] = refl
products-nil (a ∷ us) = refl

or-false : (b : Bool) → b || false ≡ b
or-false true = refl
or-false false = refl

pub light : (n cap : ℕ) (t : List Row) (K : GateKind) (a b d : ℕ) → tests_of K ≡ 0 → false ≡ any_exceeds n (AtMost cap) t (lower_as K a b d)
unfolding tests_of lower_as exceeds tested
light n cap t KindH a b d e = refl
light n cap t KindX a b d e = refl
light n cap t KindZ a b d e = refl
light n cap t KindS a b d e = refl
light n cap t KindSdg a b d e = refl
light n cap t KindT a b d e = absurd (omega arith)
light n cap t KindTdg a b d e = absurd (omega arith)
light n cap t KindCnot a b d e = refl
light n cap t KindCz a b d e = refl
light n cap t KindCcx a b d e = absurd (omega arith)
light n cap t KindCcz a b d e = absurd (omega arith)
light n cap t KindMeasure a b d e = absurd (omega arith)
light n cap t KindY a b d e = refl
light n cap t KindSx a b d e = refl
light n cap t KindSwap a b d e = refl
light n cap t KindCy a b d e = refl
light n cap t Unsupported a b d e = refl

z_case : (n cap : ℕ) (t : List Row) (K : GateKind) (a b d : ℕ) → tests_of K ≡ 1 → AllProper n (b + 1) (lower_as K a b d)
    → (a < n) × (ltb cap (weight (z_row n t a).letters) ≡ any_exceeds n (AtMost cap) t (lower_as K a b d))
unfolding tests_of lower_as exceeds tested
z_case n cap t KindH a b d e v = absurd (omega arith)
z_case n cap t KindX a b d e v = absurd (omega arith)
z_case n cap t KindZ a b d e v = absurd (omega arith)
z_case n cap t KindS a b d e v = absurd (omega arith)
z_case n cap t KindSdg a b d e v = absurd (omega arith)
z_case n cap t KindT a b d e v = (v.0, sym (or-false (ltb cap (weight (z_row n t a).letters) || false) ∙ or-false (ltb cap (weight (z_row n t a).letters))))
z_case n cap t KindTdg a b d e v = (v.0, sym (or-false (ltb cap (weight (z_row n t a).letters) || false) ∙ or-false (ltb cap (weight (z_row n t a).letters))))
z_case n cap t KindCnot a b d e v = absurd (omega arith)
z_case n cap t KindCz a b d e v = absurd (omega arith)
z_case n cap t KindCcx a b d e v = absurd (omega arith)
z_case n cap t KindCcz a b d e v = absurd (omega arith)
z_case n cap t KindMeasure a b d e v = (v.0.0, sym (or-false (ltb cap (weight (z_row n t a).letters) || false) ∙ or-false (ltb cap (weight (z_row n t a).letters))))
z_case n cap t KindY a b d e v = absurd (omega arith)
z_case n cap t KindSx a b d e v = absurd (omega arith)
z_case n cap t KindSwap a b d e v = absurd (omega arith)
z_case n cap t KindCy a b d e v = absurd (omega arith)
z_case n cap t Unsupported a b d e v = absurd (omega arith)

ccx_case : (n cap : ℕ) (t : List Row) (K : GateKind) (a b d : ℕ) → tests_of K ≡ 2 → AllProper n (b + 1) (lower_as K a b d)
    → (a < n) × (b < n) × (d < n) × (any_above cap (seven (z_row n t a) (z_row n t b) (x_row n t d)) ≡ any_exceeds n (AtMost cap) t (lower_as K a b d))
unfolding tests_of lower_as exceeds tested
ccx_case n cap t KindH a b d e v = absurd (omega arith)
ccx_case n cap t KindX a b d e v = absurd (omega arith)
ccx_case n cap t KindZ a b d e v = absurd (omega arith)
ccx_case n cap t KindS a b d e v = absurd (omega arith)
ccx_case n cap t KindSdg a b d e v = absurd (omega arith)
ccx_case n cap t KindT a b d e v = absurd (omega arith)
ccx_case n cap t KindTdg a b d e v = absurd (omega arith)
ccx_case n cap t KindCnot a b d e v = absurd (omega arith)
ccx_case n cap t KindCz a b d e v = absurd (omega arith)
ccx_case n cap t KindCcx a b d e v = (v.0.0, v.0.1, v.0.2, sym (or-false (any_above cap (seven (z_row n t a) (z_row n t b) (x_row n t d)))))
ccx_case n cap t KindCcz a b d e v = absurd (omega arith)
ccx_case n cap t KindMeasure a b d e v = absurd (omega arith)
ccx_case n cap t KindY a b d e v = absurd (omega arith)
ccx_case n cap t KindSx a b d e v = absurd (omega arith)
ccx_case n cap t KindSwap a b d e v = absurd (omega arith)
ccx_case n cap t KindCy a b d e v = absurd (omega arith)
ccx_case n cap t Unsupported a b d e v = absurd (omega arith)

ccz_case : (n cap : ℕ) (t : List Row) (K : GateKind) (a b d : ℕ) → tests_of K ≡ 3 → AllProper n (b + 1) (lower_as K a b d)
    → (a < n) × (b < n) × (d < n) × (any_above cap (seven (z_row n t a) (z_row n t b) (z_row n t d)) ≡ any_exceeds n (AtMost cap) t (lower_as K a b d))
unfolding tests_of lower_as exceeds tested
ccz_case n cap t KindH a b d e v = absurd (omega arith)
ccz_case n cap t KindX a b d e v = absurd (omega arith)
ccz_case n cap t KindZ a b d e v = absurd (omega arith)
ccz_case n cap t KindS a b d e v = absurd (omega arith)
ccz_case n cap t KindSdg a b d e v = absurd (omega arith)
ccz_case n cap t KindT a b d e v = absurd (omega arith)
ccz_case n cap t KindTdg a b d e v = absurd (omega arith)
ccz_case n cap t KindCnot a b d e v = absurd (omega arith)
ccz_case n cap t KindCz a b d e v = absurd (omega arith)
ccz_case n cap t KindCcx a b d e v = absurd (omega arith)
ccz_case n cap t KindCcz a b d e v = (v.0.0, v.0.1, v.0.2, sym (or-false (any_above cap (seven (z_row n t a) (z_row n t b) (z_row n t d)))))
ccz_case n cap t KindMeasure a b d e v = absurd (omega arith)
ccz_case n cap t KindY a b d e v = absurd (omega arith)
ccz_case n cap t KindSx a b d e v = absurd (omega arith)
ccz_case n cap t KindSwap a b d e v = absurd (omega arith)
ccz_case n cap t KindCy a b d e v = absurd (omega arith)
ccz_case n cap t Unsupported a b d e v = absurd (omega arith)

pub a_qubit : (n : ℕ) (K : GateKind) (a b d : ℕ) → tests_of K ≡ 1 → AllProper n (b + 1) (lower_as K a b d) → a < n
a_qubit n K a b d e v = (z_case n 0 [] K a b d e v).0

pub three_qubits : (n : ℕ) (K : GateKind) (a b d : ℕ) → tests_of K ≡ 2 → AllProper n (b + 1) (lower_as K a b d) → (a < n) × (b < n) × (d < n)
three_qubits n K a b d e v = let r = ccx_case n 0 [] K a b d e v in (r.0, r.1, r.2)

pub three_qubits_z : (n : ℕ) (K : GateKind) (a b d : ℕ) → tests_of K ≡ 3 → AllProper n (b + 1) (lower_as K a b d) → (a < n) × (b < n) × (d < n)
three_qubits_z n K a b d e v = let r = ccz_case n 0 [] K a b d e v in (r.0, r.1, r.2)

pub z_heavy : (n l cap : ℕ) (K : GateKind) (a b d : ℕ) (ps : List ℕ) (t : List Row) (rest : List ℕ) → l ≡ part_words n → tests_of K ≡ 1 → AllProper n (b + 1) (lower_as K a b d)
    → Wide n t → ps ≡ packed n t ++ rest
    → ltb cap (weight_to ps l 1 0 0 ((a + a + 1) * (l + l)) ((a + a + 1) * (l + l)) ((a + a + 1) * (l + l)) l) ≡ any_exceeds n (AtMost cap) t (lower_as K a b d)
z_heavy n l cap K a b d ps t rest el e v w ep =
    let z = z_case n cap t K a b d e v in
    let A = z_row n t a in
    let fA = Words.first_z n t a z.0 in
    let pw = plane-weight n t rest w 1 0 0 (suc (a + a)) (suc (a + a)) (suc (a + a)) A A A (omega arith) (omega arith) (omega arith) fA fA fA (w.widths (n + a)) (w.widths (n + a)) (w.widths (n + a)) in
    rw (el, ep, add-one (a + a), pw, products-nil (products A.letters []), products-nil A.letters) z.1

-- the seven weights
seven-heavy : (n cap : ℕ) (t : List Row) (rest : List ℕ) → Wide n t → (i j k : ℕ) (A B D : Row) → i < n + n → j < n + n → k < n + n
    → get_or (images n t 0 n) i (identity n) ≡ A → get_or (images n t 0 n) j (identity n) ≡ B → get_or (images n t 0 n) k (identity n) ≡ D
    → length A.letters ≡ n → length B.letters ≡ n → length D.letters ≡ n
    → seven_above (packed n t ++ rest) (part_words n) cap (i * (part_words n + part_words n)) (j * (part_words n + part_words n)) (k * (part_words n + part_words n))
    ≡ any_above cap (seven A B D)
seven-heavy n cap t rest w i j k A B D hi hj hk eA eB eD wA wB wD =
    rw (
      at 1 0 0,
      at 0 1 0,
      at 0 0 1,
      at 1 1 0,
      at 1 0 1,
      at 0 1 1,
      at 1 1 1,
      products-nil (products A.letters []),
      products-nil A.letters,
      products-nil B.letters,
      products-nil (products A.letters B.letters),
      or-false (ltb cap (weight (products (products A.letters B.letters) D.letters))),
    )
  where
    at : (ua ub ud : ℕ) → weight_to (packed n t ++ rest) (part_words n) ua ub ud (i * (part_words n + part_words n)) (j * (part_words n + part_words n)) (k * (part_words n + part_words n)) (part_words n)
        ≡ weight (chosen ua ub ud A B D)
    at ua ub ud = plane-weight n t rest w ua ub ud i j k A B D hi hj hk eA eB eD wA wB wD

pub ccx_heavy : (n l cap : ℕ) (K : GateKind) (a b d : ℕ) (ps : List ℕ) (t : List Row) (rest : List ℕ) → l ≡ part_words n → tests_of K ≡ 2 → AllProper n (b + 1) (lower_as K a b d)
    → Wide n t → ps ≡ packed n t ++ rest
    → seven_above ps l cap ((a + a + 1) * (l + l)) ((b + b + 1) * (l + l)) ((d + d) * (l + l)) ≡ any_exceeds n (AtMost cap) t (lower_as K a b d)
ccx_heavy n l cap K a b d ps t rest el e v w ep =
    let z = ccx_case n cap t K a b d e v in
    rw (el, ep, add-one (a + a), add-one (b + b))
    (seven-heavy n cap t rest w (suc (a + a)) (suc (b + b)) (d + d) (z_row n t a) (z_row n t b) (x_row n t d) (omega arith) (omega arith) (omega arith)
    (Words.first_z n t a z.0) (Words.first_z n t b z.1) (Words.first_x n t d z.2) (w.widths (n + a)) (w.widths (n + b)) (w.widths d) ∙ z.3)

pub ccz_heavy : (n l cap : ℕ) (K : GateKind) (a b d : ℕ) (ps : List ℕ) (t : List Row) (rest : List ℕ) → l ≡ part_words n → tests_of K ≡ 3 → AllProper n (b + 1) (lower_as K a b d)
    → Wide n t → ps ≡ packed n t ++ rest
    → seven_above ps l cap ((a + a + 1) * (l + l)) ((b + b + 1) * (l + l)) ((d + d + 1) * (l + l)) ≡ any_exceeds n (AtMost cap) t (lower_as K a b d)
ccz_heavy n l cap K a b d ps t rest el e v w ep =
    let z = ccz_case n cap t K a b d e v in
    rw (el, ep, add-one (a + a), add-one (b + b), add-one (d + d))
    (seven-heavy n cap t rest w (suc (a + a)) (suc (b + b)) (suc (d + d)) (z_row n t a) (z_row n t b) (z_row n t d) (omega arith) (omega arith) (omega arith)
    (Words.first_z n t a z.0) (Words.first_z n t b z.1) (Words.first_z n t d z.2) (w.widths (n + a)) (w.widths (n + b)) (w.widths (n + d)) ∙ z.3)

-- ---- the kinds that are tested

pub tests_alone : (k : GateKind) → (k ≡ KindT) ⊎ ((k ≡ KindTdg) ⊎ (k ≡ KindMeasure)) → tests_of k ≡ 1
unfolding tests_of lower_as
tests_alone k (inl e) = rw e
tests_alone k (inr (inl e)) = rw e
tests_alone k (inr (inr e)) = rw e

pub tests_ccx : (k : GateKind) → k ≡ KindCcx → tests_of k ≡ 2
unfolding tests_of lower_as
tests_ccx k e = rw e

pub tests_ccz : (k : GateKind) → k ≡ KindCcz → tests_of k ≡ 3
unfolding tests_of lower_as
tests_ccz k e = rw e
