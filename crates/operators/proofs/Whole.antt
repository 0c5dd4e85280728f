-- An accepted conversion, as an operator, is its circuit.
use mathlib.Core.Path.{◌≡◌, refl, ap, sym, ◌∙◌}
use mathlib.Core.Bool.{Bool}
use mathlib.Core.List.{List, [], ◌∷◌}
use Prim.Native.Nat.{ℕ, zero, suc, ◌+◌, ◌*◌, ◌<◌}
use native.Mathlib.Nat.{not-suc-le-zero, le_of_suc-le-suc}
use native.Mathlib.Omega.{arith}
use lib.ListN.{length, get_or, get_or-map}
use Rattle.pauli.specs.Rows.{Row, Width, identity}
use Rattle.pauli.specs.Gates.{Gate, AllValid, back}
use Rattle.pauli.specs.Table.{start}
use Rattle.pauli.specs.Rotations.{flush}
use Rattle.arena.proofs.Accepted.{passed_before}
use Rattle.convert.specs.Records.{is_narrow, records, lower_all, bare, without_index}
use Rattle.convert.specs.Paper.{paper_begin}
use Rattle.convert.specs.Conversion.{Input, limits, gates_in, paper_end, convert_check, room_checked, gates_check, gates_checked}
use Rattle.convert.specs.Later.{converted}
use Rattle.convert.specs.Statement.{Frame}
use Rattle.convert.proofs.Accepted.{accepted}
use Rattle.convert.proofs.Packed.Deciding.{wide-start}
use Rattle.convert.proofs.Theorems.{converts}
use Rattle.operators.specs.Types.{Fine}
use Rattle.operators.specs.Operators.{Operators, root_to}
use Rattle.operators.specs.Textbook.{circuit_operator, gates_operator}
use Rattle.operators.specs.Whole.{operations_of, operations_operator, Whole}
use Rattle.operators.proofs.Elements.{turns, elements_operator}
use Rattle.operators.proofs.Ring.{root_add}
use Rattle.operators.proofs.Carried.{gates_phase, as_gates, undo, undone_left, undone_right, row_past}
use Rattle.operators.proofs.Runs.{value, Run, run_value}
use Rattle.operators.proofs.Records.{AllSupported, supported_records, Lowers, lowers}

-- ---- the image of a place is U† P U

get_d_any : (l : List Row) (i : ℕ) (d d' : Row) → i < length l → get_or l i d ≡ get_or l i d'
get_d_any [] i d d' lt = absurd (not-suc-le-zero lt)
get_d_any (x ∷ l) zero d d' lt = refl
get_d_any (x ∷ l) (suc i) d d' lt = get_d_any l i d d' (le_of_suc-le-suc lt)

pub image-back : (n : ℕ) (gs : List Gate) (t : List Row) → Frame n gs t → (j : ℕ) → j < n + n → back gs (get_or (start n) j (identity n)) ≡ get_or t j (identity n)
image-back n gs t F j hj =
    sym (get_or-map (back gs) (start n) j (identity n)) ∙ ap (λ l. get_or l j (back gs (identity n))) (sym F.conjugated)
    ∙ get_d_any t j (back gs (identity n)) (identity n) (omega (arith, F.size))

pub width_place : (n j : ℕ) → Width n (get_or (start n) j (identity n))
width_place n j = (wide-start n).widths j

-- ---- an accepted conversion

supported : (x : Input) → convert_check limits x ≡ Fine → AllSupported (records x.gates)
unfolding convert_check room_checked gates_check gates_checked
supported x e₁₅ =
    supported_records _ x.qubits x.cbits 0 [] (records x.gates)
    (passed_before _ _ _ (passed_before _ _ _ (passed_before _ _ _ (passed_before _ _ _ (passed_before _ _ _ e₁₅)))))

-- the operators of an accepted conversion, with the gates since its last flush
pub record Ends (x : Input) (O : Operators x.qubits) (outcome : ℕ → Bool) : Type 0 where
  pub valid : AllValid x.qubits (bare (paper_end x).since)
  pub phase : ℕ
  pub same : circuit_operator O outcome 0 (records x.gates)
      ≡ O.times (root_to O phase) (O.times (turns O (flush x.qubits (bare (paper_end x).since))) (operations_operator O outcome (operations_of (converted x))))

pub ends : (x : Input) → convert_check limits x ≡ Fine → (O : Operators x.qubits) (outcome : ℕ → Bool) → Ends x O outcome
unfolding paper_end flush gates_in lower_all converted
ends x e O outcome = record {
  valid = R.valid;
  phase = L.phase + R.phase;
  same =
      L.same ∙ ap (λ a. O.times (root_to O L.phase) a) lowered ∙ root_add O L.phase R.phase _
      ∙ ap (λ os. O.times (root_to O (L.phase + R.phase)) (O.times (turns O (flush x.qubits (bare (paper_end x).since))) (operations_operator O outcome os))) (sym (ap (λ os. without_index os) (converts x e).operations));
}
  where
    R : Run O outcome 0 (gates_in x) paper_begin (paper_end x)
    R = run_value O outcome x.cbits x.cap (gates_in x) paper_begin (accepted limits x e).proper tt

    start-value : value O outcome paper_begin ≡ O.one
    start-value = O.one_left O.one

    L : Lowers O outcome 0 (records x.gates) (bare (gates_in x))
    L = lowers O outcome (is_narrow x.cap) x.cbits 0 0 (records x.gates) (supported x e) (accepted limits x e).proper

    lowered : elements_operator O outcome 0 (bare (gates_in x))
        ≡ O.times (root_to O R.phase) (O.times (turns O (flush x.qubits (bare (paper_end x).since))) (operations_operator O outcome (without_index (paper_end x).operations)))
    lowered = sym (O.one_right _) ∙ ap (λ a. O.times (elements_operator O outcome 0 (bare (gates_in x))) a) (sym start-value) ∙ R.same

pub whole : (x : Input) → convert_check limits x ≡ Fine → (O : Operators x.qubits) (outcome : ℕ → Bool) → Whole x O outcome
whole x e O outcome = record {
  gates = gs;
  valid = E.valid;
  inverse = undo O gs;
  left = undone_left O gs E.valid;
  right = undone_right O gs E.valid;
  phase = E.phase + 7 * gates_phase O gs;
  same = E.same ∙ as_gates O gs E.valid E.phase (operations_operator O outcome (operations_of (converted x)));
  framed = λ j hj. row_past O gs E.valid (get_or (start n) j (identity n)) (width_place n j)
      ∙ ap (λ P. O.times (gates_operator O gs) (O.read P)) (image-back n gs _ (converts x e).frame j hj);
}
  where
    n : ℕ
    n = x.qubits

    gs : List Gate
    gs = bare (paper_end x).since

    E : Ends x O outcome
    E = ends x e O outcome
