-- What is known of a call that no check refused.
use mathlib.Core.Path.{◌≡◌, refl}
use mathlib.Core.Bool.{Bool, true, false, ◌||◌, not, true≢false}
use Prim.Native.Nat.{ℕ, ◌+◌, ◌*◌, ◌/◌, ◌≤◌, ◌<◌}
use native.Mathlib.Omega.{arith}
use borrow.Author.Tests.{ltb-false, leb-false, eqb-true, not-false, eqb-false}
use lib.Dec.{ltb, eqb}
use Rattle.arena.specs.Types.{Pauli}
use Rattle.arena.specs.Limits.{max_qubits, max_cbits, max_nodes, max_operations, node_words, operation_words}
use Rattle.arena.specs.Errors.{PbcError, Checked, Fine, Wrong, ◌⟫◌⇒◌}
use Rattle.arena.specs.References.{PauliRef, PauliAxis, node_in}
use Rattle.arena.specs.Operations.{MeasId, Target, Bit, NoTarget}
use Rattle.arena.specs.Store.{Header, breaks_limit, foreign, target_bit, target_outside, no_node_room, no_operation_room}
use Rattle.arena.specs.Builder.{nodes_for, new_check, single_check, product_check, rotate_check, measure_check, conditional_check}

-- ---- reading a chain of checks from its end

never : (e : PbcError) → Wrong e ≡ Fine → ⊥
never e p = let z : ◌≡◌ {A = ℕ} 0 1 = cc in omega arith

pub passed_before : (c : Checked) (b : Bool) (e : PbcError) → (c ⟫ b ⇒ e) ≡ Fine → c ≡ Fine
unfolding ◌⟫◌⇒◌
passed_before Fine b e p = refl
passed_before (Wrong x) b e p = absurd (never x p)

pub test_passed : (c : Checked) (b : Bool) (e : PbcError) → (c ⟫ b ⇒ e) ≡ Fine → b ≡ false
unfolding ◌⟫◌⇒◌
test_passed Fine true e p = absurd (never e p)
test_passed Fine false e p = refl
test_passed (Wrong x) b e p = absurd (never x p)

pub left_false : (a b : Bool) → (a || b) ≡ false → a ≡ false
left_false false b p = refl
left_false true b p = p

pub right-false : (a b : Bool) → (a || b) ≡ false → b ≡ false
right-false false b p = p
right-false true b p = absurd (true≢false p)

-- ---- the single tests

pub record Sound (h : Header) : Type 0 where
  pub qubits : h.qubits ≤ max_qubits
  pub cbits : h.cbits ≤ max_cbits
  pub some : 0 < h.nodes
  pub nodes : h.nodes ≤ max_nodes
  pub operations : h.operations ≤ max_operations
  pub measurements : h.measurements ≤ h.operations

nonzero : (k : ℕ) → eqb k 0 ≡ false → 0 < k
nonzero k e = let n : k ≡ 0 → ⊥ = eqb-false k 0 e in omega arith

pub sound : (h : Header) → breaks_limit h ≡ false → Sound h
unfolding breaks_limit
sound h e =
    let m = left_false _ (ltb h.operations h.measurements) e in
    let o = left_false _ (ltb max_operations h.operations) m in
    let n = left_false _ (ltb max_nodes h.nodes) o in
    let z = left_false _ (eqb h.nodes 0) n in
    record {
      qubits = ltb-false _ _ (left_false _ (ltb max_cbits h.cbits) z);
      cbits = ltb-false _ _ (right-false (ltb max_qubits h.qubits) _ z);
      some = nonzero h.nodes (right-false (ltb max_qubits h.qubits || ltb max_cbits h.cbits) _ n);
      nodes = ltb-false _ _ (right-false (ltb max_qubits h.qubits || ltb max_cbits h.cbits || eqb h.nodes 0) _ o);
      operations = ltb-false _ _ (right-false (ltb max_qubits h.qubits || ltb max_cbits h.cbits || eqb h.nodes 0 || ltb max_nodes h.nodes) _ m);
      measurements = ltb-false _ _ (right-false (ltb max_qubits h.qubits || ltb max_cbits h.cbits || eqb h.nodes 0 || ltb max_nodes h.nodes || ltb max_operations h.operations) _ e);
    }

pub record NodeRoom (h : Header) (len more : ℕ) : Type 0 where
  pub allowed : h.nodes + more ≤ max_nodes
  pub lent : h.nodes + more ≤ len / node_words

pub node_room : (h : Header) (len more : ℕ) → no_node_room h len more ≡ false → NodeRoom h len more
unfolding no_node_room
node_room h len more e = record {
  allowed = ltb-false _ _ (left_false (ltb max_nodes (h.nodes + more)) _ e);
  lent = ltb-false _ _ (right-false (ltb max_nodes (h.nodes + more)) _ e);
}

pub record OperationRoom (h : Header) (len more : ℕ) : Type 0 where
  pub allowed : h.operations + more ≤ max_operations
  pub lent : h.operations + more ≤ len / operation_words

pub operation_room : (h : Header) (len more : ℕ) → no_operation_room h len more ≡ false → OperationRoom h len more
unfolding no_operation_room
operation_room h len more e = record {
  allowed = ltb-false _ _ (left_false (ltb max_operations (h.operations + more)) _ e);
  lent = ltb-false _ _ (right-false (ltb max_operations (h.operations + more)) _ e);
}

pub record Own (h : Header) (r : PauliRef) : Type 0 where
  pub owner : r.owner ≡ h.owner
  pub used : node_in r.word < h.nodes

pub own : (h : Header) (r : PauliRef) → foreign h r ≡ false → Own h r
unfolding foreign
own h r e = record {
  owner = eqb-true _ _ (not-false _ (left_false (not (eqb r.owner h.owner)) _ e));
  used = leb-false _ _ (right-false (not (eqb r.owner h.owner)) _ e);
}

target_inside : (h : Header) (t : Target) → h.cbits ≤ max_cbits → target_outside h t ≡ false → target_bit t < max_cbits
target_inside h (Bit b) c e = omega (arith, leb-false h.cbits b e)
target_inside h NoTarget c e = omega arith

-- ---- the calls

pub record FitsNew (qubits cbits nodes frame : ℕ) : Type 0 where
  pub qubits_fit : qubits ≤ max_qubits
  pub frame_fits : 2 * qubits ≤ frame
  pub nodes_fit : 1 + 2 * qubits ≤ nodes / node_words

pub fits_new : (qubits cbits nodes frame : ℕ) → new_check qubits cbits nodes frame ≡ Fine → FitsNew qubits cbits nodes frame
unfolding new_check
fits_new qubits cbits nodes frame e =
    let e₂ = passed_before _ _ _ e in
    let e₁ = passed_before _ _ _ e₂ in
    record {
      qubits_fit = ltb-false _ _ (left_false (ltb max_qubits qubits) _ (test_passed _ _ _ e₁));
      frame_fits = ltb-false _ _ (test_passed _ _ _ e₂);
      nodes_fit = ltb-false _ _ (test_passed _ _ _ e);
    }

pub record FitsSingle (h : Header) (len q : ℕ) (a : Pauli) : Type 0 where
  pub header : Sound h
  pub qubit : q < h.qubits
  pub room : NodeRoom h len (nodes_for a)

pub fits_single : (h : Header) (len q : ℕ) (a : Pauli) → single_check h len q a ≡ Fine → FitsSingle h len q a
unfolding single_check
fits_single h len q a e =
    let e₂ = passed_before _ _ _ e in
    record {
      header = sound h (left_false (breaks_limit h) _ (test_passed _ _ _ (passed_before _ _ _ e₂)));
      qubit = leb-false _ _ (test_passed _ _ _ e₂);
      room = node_room h len (nodes_for a) (test_passed _ _ _ e);
    }

pub record FitsProduct (h : Header) (len : ℕ) (l r : PauliRef) : Type 0 where
  pub header : Sound h
  pub left : Own h l
  pub right : Own h r
  pub room : NodeRoom h len 1

pub fits_product : (h : Header) (len : ℕ) (l r : PauliRef) → product_check h len l r ≡ Fine → FitsProduct h len l r
unfolding product_check
fits_product h len l r e =
    let e₂ = passed_before _ _ _ e in
    record {
      header = sound h (left_false (breaks_limit h) _ (test_passed _ _ _ (passed_before _ _ _ e₂)));
      left = own h l (left_false (foreign h l) _ (test_passed _ _ _ e₂));
      right = own h r (right-false (foreign h l) _ (test_passed _ _ _ e₂));
      room = node_room h len 1 (test_passed _ _ _ e);
    }

-- an operation of any kind: the header is sound, the axis its own, and there is room
pub record FitsOperation (h : Header) (len : ℕ) (axis : PauliAxis) : Type 0 where
  pub header : Sound h
  pub axis_own : Own h axis.0
  pub room : OperationRoom h len 1

pub fits_rotate : (h : Header) (len : ℕ) (axis : PauliAxis) → rotate_check h len axis ≡ Fine → FitsOperation h len axis
unfolding rotate_check
fits_rotate h len axis e =
    let e₂ = passed_before _ _ _ e in
    record {
      header = sound h (left_false (breaks_limit h) _ (test_passed _ _ _ (passed_before _ _ _ e₂)));
      axis_own = own h axis.0 (test_passed _ _ _ e₂);
      room = operation_room h len 1 (test_passed _ _ _ e);
    }

pub fits_measure : (h : Header) (len : ℕ) (axis : PauliAxis) (t : Target) → measure_check h len axis t ≡ Fine → FitsOperation h len axis × (target_bit t < max_cbits)
unfolding measure_check
fits_measure h len axis t e =
    let e₃ = passed_before _ _ _ e in
    let e₂ = passed_before _ _ _ e₃ in
    let header = sound h (left_false (breaks_limit h) _ (test_passed _ _ _ (passed_before _ _ _ e₂))) in (
      record {
        header = header;
        axis_own = own h axis.0 (test_passed _ _ _ e₂);
        room = operation_room h len 1 (test_passed _ _ _ e);
      },
      target_inside h t header.cbits (test_passed _ _ _ e₃),
    )

pub fits_conditional : (h : Header) (len : ℕ) (axis : PauliAxis) (m : MeasId) → conditional_check h len axis m ≡ Fine → FitsOperation h len axis
unfolding conditional_check
fits_conditional h len axis m e =
    let e₂ = passed_before _ _ _ (passed_before _ _ _ e) in
    record {
      header = sound h (left_false (breaks_limit h) _ (test_passed _ _ _ (passed_before _ _ _ e₂)));
      axis_own = own h axis.0 (test_passed _ _ _ e₂);
      room = operation_room h len 1 (test_passed _ _ _ e);
    }
