-- The words of one operation are decoded as that operation; frame gates add nodes after those that are there.
use mathlib.Core.Path.{◌≡◌, refl, ap, ap₂, sym, ◌∙◌}
use mathlib.Core.Bool.{false, cond, ◌&&◌}
use mathlib.Core.List.{List, [], ◌∷◌, ◌++◌, append-nil, append_assoc}
use Prim.Native.Nat.{ℕ, suc, ◌+◌, ◌*◌, ◌/◌, ◌%◌, ◌≤◌, ◌<◌}
use native.Mathlib.Numerals.{add-one}
use native.Mathlib.Omega.{arith}
use borrow.Author.Tests.{lt-ltb, le-leb, leb-false}
use lib.Dec.{eqb}
use Rattle.pauli.specs.Angle.{angle_of}
use Rattle.pauli.specs.Gates.{Gate, gate_h, gate_x, gate_z, gate_s, gate_sdg, gate_cnot, gate_cz}
use Rattle.arena.specs.References.{axis_of}
use Rattle.arena.specs.Operations.{meas_id, target_word, decode_op_as, decode_op}
use Rattle.arena.specs.Store.{target_outside}
use Rattle.convert.specs.Frame.{Arena, pushed, multiplied, frame_step, frame_run}
use Rattle.operators.specs.Types.{Header, Target, Bit, NoTarget, Rotate, Measure, ConditionalRotate, MalformedOp}

-- ---- words of one operation

pub decode_rotate : (o c a w : ℕ) → a < 8 → decode_op o c (4 * a) w 0 0 ≡ Rotate (axis_of (record { owner = o; word = w })) (angle_of a)
unfolding decode_op
decode_rotate o c a w lt =
    let e : (4 * a) % 4 ≡ 0 = omega arith in
    let f : (4 * a) / 4 ≡ a = omega arith in
    ap₂ (λ r q. decode_op_as r o c q w 0 0) e f ∙ ap (λ b. cond (b && eqb 0 0 && eqb 0 0) (Rotate (axis_of (record { owner = o; word = w })) (angle_of a)) MalformedOp) (lt-ltb a 8 lt)

pub decode_conditional : (o c a w m : ℕ) → a < 8 → decode_op o c (2 + 4 * a) w m 0 ≡ ConditionalRotate (axis_of (record { owner = o; word = w })) (angle_of a) (meas_id o m)
unfolding decode_op
decode_conditional o c a w m lt =
    let e : (2 + 4 * a) % 4 ≡ 2 = omega arith in
    let f : (2 + 4 * a) / 4 ≡ a = omega arith in
    ap₂ (λ r q. decode_op_as r o c q w m 0) e f ∙ ap (λ b. cond (b && eqb 0 0) (ConditionalRotate (axis_of (record { owner = o; word = w })) (angle_of a) (meas_id o m)) MalformedOp) (lt-ltb a 8 lt)

pub decode_measure : (h : Header) (w m : ℕ) (t : Target) → target_outside h t ≡ false
    → decode_op h.owner h.cbits 1 w m (target_word t) ≡ Measure (axis_of (record { owner = h.owner; word = w })) (meas_id h.owner m) t
unfolding decode_op
decode_measure h w m (Bit b) e =
    let lt : b < h.cbits = leb-false h.cbits b e in
    ap (λ k. decode_op_as 1 h.owner h.cbits 0 w m k) (add-one b)
    ∙ ap (λ x. cond (eqb 0 0 && x) (Measure (axis_of (record { owner = h.owner; word = w })) (meas_id h.owner m) (Bit b)) MalformedOp) (le-leb (suc b) h.cbits lt)
decode_measure h w m NoTarget e =
    ap (λ x. cond (eqb 0 0 && x) (Measure (axis_of (record { owner = h.owner; word = w })) (meas_id h.owner m) NoTarget) MalformedOp) (le-leb 0 h.cbits (omega arith))

-- ---- frame gates add nodes after those that are there

pub record Extends (a a' : Arena) : Type 0 where
  pub words : List ℕ
  pub nodes : a'.nodes ≡ a.nodes ++ words
  pub more : a.count ≤ a'.count

extends_same : (a : Arena) (f : List ℕ) → Extends a (record { count = a.count; nodes = a.nodes; frame = f })
extends_same a f = record { words = []; nodes = sym (append-nil a.nodes); more = omega arith }

extends_both : {a b c : Arena} → Extends a b → Extends b c → Extends a c
extends_both {a} {b} {c} E F = record { words = E.words ++ F.words; nodes = F.nodes ∙ ap (λ l. l ++ F.words) E.nodes ∙ append_assoc a.nodes E.words F.words; more = omega (arith, E.more, F.more) }

extends_step : (n : ℕ) (g : Gate) (a : Arena) → Extends a (frame_step n g a)
unfolding frame_step multiplied pushed
extends_step n (gate_h q) a = extends_same a _
extends_step n (gate_x q) a = extends_same a _
extends_step n (gate_z q) a = extends_same a _
extends_step n (gate_s q) a = record { words = _; nodes = refl; more = omega arith }
extends_step n (gate_sdg q) a = record { words = _; nodes = refl; more = omega arith }
extends_step n (gate_cnot c t) a = record { words = _; nodes = append_assoc a.nodes _ _; more = omega arith }
extends_step n (gate_cz c t) a = record { words = _; nodes = append_assoc a.nodes _ _; more = omega arith }

pub extends_run : (n : ℕ) (gs : List Gate) (a : Arena) → Extends a (frame_run n gs a)
unfolding frame_run
extends_run n [] a = extends_same a a.frame
extends_run n (g ∷ gs) a = extends_both (extends_step n g a) (extends_run n gs (frame_step n g a))
