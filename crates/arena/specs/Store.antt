-- What the calls test of a header and of what they are lent (document 01, "Turning back"), as tests that the code runs one for one.
use Rattle.std.specs.Prelude.{Bool, false, ◌||◌, not, ℕ, ◌+◌, ◌*◌, ◌/◌, leb, ltb, eqb}
use Rattle.arena.specs.Limits.{max_qubits, max_cbits, max_nodes, max_operations, node_words, operation_words}
use Rattle.arena.specs.References.{PauliRef, node_in}
use Rattle.arena.specs.Operations.{MeasId, Target, Bit, NoTarget}
pub use Rattle.arena.specs.declared.header.Header.{Header}

-- ---- 3 BadStore

-- a limit is broken, there is no node, or there are more measurements than operations
unfoldable pub breaks_limit : Header → Bool
breaks_limit h =
    ltb max_qubits h.qubits || ltb max_cbits h.cbits || eqb h.nodes 0 || ltb max_nodes h.nodes || ltb max_operations h.operations
    || ltb h.operations h.measurements

-- the header exceeds so many lent words of nodes, or of operations
unfoldable pub exceeds_nodes : Header → ℕ → Bool
exceeds_nodes h len = ltb len (node_words * h.nodes)

unfoldable pub exceeds_operations : Header → ℕ → Bool
exceeds_operations h len = ltb len (operation_words * h.operations)

-- ---- 4 ForeignPauli, 9 ClassicalBitOutOfRange, 10 UnknownMeasurement

unfoldable pub foreign : Header → PauliRef → Bool
foreign h r = not (eqb r.owner h.owner) || leb h.nodes (node_in r.word)

unfoldable pub unknown : Header → MeasId → Bool
unknown h m = not (eqb m.0 h.owner) || leb h.measurements m.1

-- the bit of a target, and whether the circuit has it not
abbrev pub target_bit : Target → ℕ
target_bit (Bit b) = b
target_bit NoTarget = 0

abbrev pub target_outside : Header → Target → Bool
target_outside h (Bit b) = leb h.cbits b
target_outside h NoTarget = false

-- ---- 14 NoNodes, 15 NoOperations: so many more are over the limit, or over the lent words

unfoldable pub no_node_room : Header → ℕ → ℕ → Bool
no_node_room h len more = ltb max_nodes (h.nodes + more) || ltb (len / node_words) (h.nodes + more)

unfoldable pub no_operation_room : Header → ℕ → ℕ → Bool
no_operation_room h len more = ltb max_operations (h.operations + more) || ltb (len / operation_words) (h.operations + more)
