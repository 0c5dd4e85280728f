-- The six calls as one: what any of them is refused by, and what it leaves in the slices lent.
use Rattle.std.specs.Prelude.{◌≡◌, ◌⊎◌, ℕ, ◌+◌, ◌*◌, ◌<◌, ◌≤◌, List, length, get_or}
use Rattle.arena.specs.Types.{Pauli, PauliAngle}
use Rattle.arena.specs.Limits.{node_words, operation_words}
use Rattle.arena.specs.Errors.{Checked}
use Rattle.arena.specs.References.{PauliRef, PauliAxis}
use Rattle.arena.specs.Operations.{MeasId, Target}
use Rattle.arena.specs.Store.{Header}
use Rattle.arena.specs.Builder.{nodes_for, new_check, new_step, single_check, single_step, product_check, product_step, rotate_check, rotate_step, measure_check, measure_step, conditional_check}
use Rattle.arena.specs.Builder.{conditional_step}

-- a call with all its arguments but the slices
pub data Call : Type 0 where
  call_new : (qubits cbits owner : ℕ) → Call
  call_single : Header → (qubit : ℕ) → Pauli → Call
  call_product : Header → (left right : PauliRef) → Call
  call_rotate : Header → PauliAxis → PauliAngle → Call
  call_measure : Header → PauliAxis → Target → Call
  call_conditional : Header → PauliAxis → PauliAngle → MeasId → Call

-- the slices lent
pub record Slices : Type 0 where
  pub nodes : List ℕ
  pub operations : List ℕ
  pub frame : List ℕ

unfoldable pub checked : Call → Slices → Checked
checked (call_new n c o) s = new_check n c (length s.nodes) (length s.frame)
checked (call_single h q a) s = single_check h (length s.nodes) q a
checked (call_product h l r) s = product_check h (length s.nodes) l r
checked (call_rotate h x k) s = rotate_check h (length s.operations) x
checked (call_measure h x t) s = measure_check h (length s.operations) x t
checked (call_conditional h x k m) s = conditional_check h (length s.operations) x m

abbrev pub with_node_words : List ℕ → Slices → Slices
with_node_words ws s = record { nodes = ws; operations = s.operations; frame = s.frame }

abbrev pub with_operation_words : List ℕ → Slices → Slices
with_operation_words ws s = record { nodes = s.nodes; operations = ws; frame = s.frame }

-- the slices afterwards, by the definitions that the contracts cite
unfoldable pub after : Call → Slices → Slices
after (call_new n c o) s =
    let r = new_step n c o s.nodes s.frame in
    record { nodes = r.words.nodes; operations = s.operations; frame = r.words.frame }
after (call_single h q a) s = with_node_words (single_step h s.nodes q a).words s
after (call_product h l r) s = with_node_words (product_step h s.nodes l r).words s
after (call_rotate h x k) s = with_operation_words (rotate_step h s.operations x k).words s
after (call_measure h x t) s = with_operation_words (measure_step h s.operations x t).words s
after (call_conditional h x k m) s = with_operation_words (conditional_step h s.operations x k m).words s

-- ---- the entries that a call may write: those it takes into use

pub record Span : Type 0 where
  pub from : ℕ
  pub to : ℕ

abbrev pub span : ℕ → ℕ → Span
span from to = record { from = from; to = to }

pub record Spans : Type 0 where
  pub nodes : Span
  pub operations : Span
  pub frame : Span

-- so many nodes more, or one operation
abbrev pub node_spans : Header → ℕ → Spans
node_spans h k = record { nodes = span (node_words * h.nodes) (node_words * (h.nodes + k)); operations = span 0 0; frame = span 0 0 }

abbrev pub operation_spans : Header → Spans
operation_spans h = record { nodes = span 0 0; operations = span (operation_words * h.operations) (operation_words * (h.operations + 1)); frame = span 0 0 }

abbrev pub spans : Call → Spans
spans (call_new n c o) = record { nodes = span 0 (node_words * (1 + 2 * n)); operations = span 0 0; frame = span 0 (2 * n) }
spans (call_single h q a) = node_spans h (nodes_for a)
spans (call_product h l r) = node_spans h 1
spans (call_rotate h x k) = operation_spans h
spans (call_measure h x t) = operation_spans h
spans (call_conditional h x k m) = operation_spans h

-- place i lies outside
abbrev pub Outside : Span → ℕ → Type 0
Outside s i = (i < s.from) ⊎ (s.to ≤ i)

-- a slice keeps its length, and its words outside a span
pub record Kept (sp : Span) (was now : List ℕ) : Type 0 where
  pub size : length now ≡ length was
  pub outside : (i : ℕ) → Outside sp i → get_or now i 0 ≡ get_or was i 0

pub record KeptSlices (c : Call) (was now : Slices) : Type 0 where
  pub nodes : Kept (spans c).nodes was.nodes now.nodes
  pub operations : Kept (spans c).operations was.operations now.operations
  pub frame : Kept (spans c).frame was.frame now.frame
