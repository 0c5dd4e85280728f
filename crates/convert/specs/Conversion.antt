-- What a conversion answers, and what it leaves in the slices lent: for acceptance and every refusal.
use Rattle.std.specs.Prelude.{Bool, false, cond, not, ◌&&◌, ◌||◌, List, [], ◌∷◌, ℕ, suc, ◌*◌, ◌/◌, ◌%◌, ltb, leb, eqb, length, Result}
use Rattle.pauli.specs.Rows.{Row}
use Rattle.pauli.specs.Table.{start}
use Rattle.arena.specs.Limits.{max_qubits, max_cbits, max_nodes, max_operations, max_gates, node_words, operation_words}
use Rattle.arena.specs.Errors.{◌⟫◌⇒◌}
use Rattle.arena.specs.Builder.{overlay, header_of}
use Rattle.convert.specs.Types.{PbcError, Header, TooManyQubits, BrokenGateList, UnsupportedGate, ClassicalBitOutOfRange, TargetTaken, CapTooSmall, NoPlanes, NoFrame, NoNodes, NoOperations, Checked, Fine, Wrong}
use Rattle.convert.specs.Records.{GateKind, NoShape, ThreeQubits, Measured, has_shape, Cap, NoCap, AtMost, is_narrow, Record, records, kind_of, Elementary, Placed, lower_all, bare}
use Rattle.convert.specs.Plain.{Plain, flush_from, plain_begin, plain_run, table_run}
use Rattle.convert.specs.Paper.{Paper, paper_run, paper_begin}
use Rattle.convert.specs.Frame.{qubits_of, member, operands_checked}
use Rattle.convert.specs.Words.{Words, flat, start_words, word_run}
use Rattle.convert.specs.Planes.{part_words, packed}
pub use Rattle.std.specs.Prelude.{Ok as ConvertedMade, Err as ConvertedRefused}

-- what a conversion answers
abbrev pub Converted : Type 0
Converted = Result Header PbcError

-- what is lent to a conversion
pub record Input : Type 0 where
  pub qubits : ℕ
  pub cbits : ℕ
  pub owner : ℕ
  pub cap : Cap
  pub gates : List ℕ
  pub nodes : List ℕ
  pub operations : List ℕ
  pub frame : List ℕ
  pub planes : List ℕ

abbrev pub input_of : (qubits cbits owner : ℕ) → Cap → (gates nodes operations frame planes : List ℕ) → Input
input_of q c o cap gs ns os fs ps = record { qubits = q; cbits = c; owner = o; cap = cap; gates = gs; nodes = ns; operations = os; frame = fs; planes = ps }

-- ---- the four ends: of the plain conversion, of the plain table alone, of the papers' conversion, of the words

unfoldable pub gates_in : Input → List (Placed Elementary)
gates_in x = lower_all (is_narrow x.cap) (records x.gates)

unfoldable pub plain_end : Input → Plain
plain_end x = plain_run flush_from x.qubits x.cap (gates_in x) (plain_begin x.qubits)

unfoldable pub table_end : Input → List Row
table_end x = table_run x.qubits x.cap (bare (gates_in x)) (start x.qubits)

unfoldable pub paper_end : Input → Paper
paper_end x = paper_run flush_from x.qubits x.cap (gates_in x) paper_begin

unfoldable pub word_end : Input → Words
word_end x = word_run x.qubits x.cap (gates_in x) (plain_begin x.qubits) (start_words x.qubits)

-- ---- checks of the gate list

abbrev pub is_unsupported : GateKind → Bool
is_unsupported k = has_shape k NoShape

-- ccx and ccz
abbrev pub is_doubly : GateKind → Bool
is_doubly k = has_shape k ThreeQubits

abbrev pub is_measure : GateKind → Bool
is_measure k = has_shape k Measured

-- the classical bits that are measured into so far, and by record r
abbrev pub taken_with : Record → List ℕ → List ℕ
taken_with r taken = cond (is_measure (kind_of r.kind)) (r.b ∷ taken) taken

-- the checks so far, then those of gate i: 5, then 7 and 8 operand by operand, then 9, then 24 where earlier gates measure into these bits
unfoldable pub record_checked : Checked → ℕ → ℕ → ℕ → (taken : List ℕ) → Record → Checked
record_checked k n cbits i taken r =
    operands_checked (k ⟫ is_unsupported (kind_of r.kind) ⇒ UnsupportedGate i r.kind) n i [] (qubits_of (kind_of r.kind) r.a r.b r.c)
    ⟫ is_measure (kind_of r.kind) && leb cbits r.b ⇒ ClassicalBitOutOfRange i r.b
    ⟫ is_measure (kind_of r.kind) && member r.b taken ⇒ TargetTaken i r.b

-- gate by gate, the first faulty gate deciding
unfoldable pub records_checked : Checked → ℕ → ℕ → ℕ → (taken : List ℕ) → List Record → Checked
records_checked k n cbits i taken [] = k
records_checked k n cbits i taken (r ∷ rs) = records_checked (record_checked k n cbits i taken r) n cbits (suc i) (taken_with r taken) rs

-- ---- the other checks

-- cap 0
abbrev pub cap_too_small : Cap → Bool
cap_too_small NoCap = false
cap_too_small (AtMost cap) = eqb cap 0

-- 4nL
abbrev pub plane_words : ℕ → ℕ
plane_words n = 4 * n * part_words n

-- fewer than 4nL plane words under a cap
abbrev pub planes_too_few : Cap → ℕ → ℕ → Bool
planes_too_few NoCap n m = false
planes_too_few (AtMost cap) n m = ltb m (plane_words n)

-- the words of a gate list
abbrev pub max_gate_words : ℕ
max_gate_words = 4 * max_gates

-- the limits that a conversion keeps
pub record Limits : Type 0 where
  pub qubits : ℕ
  pub cbits : ℕ
  pub gate_words : ℕ
  pub nodes : ℕ
  pub operations : ℕ

abbrev pub limits : Limits
limits = record { qubits = max_qubits; cbits = max_cbits; gate_words = max_gate_words; nodes = max_nodes; operations = max_operations }

-- 1, 2, then 5, 7, 8, 9, 24 gate by gate, then 11, 12, where so many plane words are lent
unfoldable pub gates_checked : Limits → (n cbits : ℕ) → Cap → List ℕ → (planes : ℕ) → Checked
gates_checked l n cbits cap gs planes =
    records_checked
    (Fine
    ⟫ ltb l.qubits n || ltb l.cbits cbits ⇒ TooManyQubits
    ⟫ not (eqb (length gs % 4) 0) || ltb l.gate_words (length gs) ⇒ BrokenGateList)
    n cbits 0 [] (records gs)
    ⟫ cap_too_small cap ⇒ CapTooSmall
    ⟫ planes_too_few cap n planes ⇒ NoPlanes

-- then 13, 14, 15, where so many nodes and operations are needed and so many words are lent
unfoldable pub room_checked : Limits → Checked → (nodes operations n frame node-words operation-words : ℕ) → Checked
room_checked l k nodes operations n frame node-words operation-words =
    k
    ⟫ ltb frame (2 * n) ⇒ NoFrame
    ⟫ ltb l.nodes nodes || ltb (node-words / node_words) nodes ⇒ NoNodes
    ⟫ ltb l.operations operations || ltb (operation-words / operation_words) operations ⇒ NoOperations

unfoldable pub gates_check : Limits → Input → Checked
gates_check l x = gates_checked l x.qubits x.cbits x.cap x.gates (length x.planes)

-- the needs are those of the whole conversion
unfoldable pub convert_check : Limits → Input → Checked
convert_check l x =
    room_checked l (gates_check l x) (word_end x).arena.count (length (word_end x).ops) x.qubits (length x.frame) (length x.nodes) (length x.operations)

-- ---- the answer and the slices

abbrev pub converted_header : Input → Header
converted_header x = header_of x.qubits x.cbits x.owner (word_end x).arena.count (length (word_end x).ops) (plain_end x).given

-- the planes hold the packed end table, over what was there: under a cap, once the checks up to 12 have passed
abbrev pub planes_as : Cap → Input → List ℕ
planes_as NoCap x = x.planes
planes_as (AtMost cap) x = overlay (packed x.qubits (table_end x)) x.planes

abbrev pub planes_after : Checked → Input → List ℕ
planes_after Fine x = planes_as x.cap x
planes_after (Wrong e) x = x.planes

pub record ConvertStep : Type 0 where
  pub answer : Converted
  pub nodes : List ℕ
  pub operations : List ℕ
  pub frame : List ℕ
  pub planes : List ℕ

abbrev pub convert_of : Converted → (nodes operations frame planes : List ℕ) → ConvertStep
convert_of answer nodes operations frame planes = record { answer = answer; nodes = nodes; operations = operations; frame = frame; planes = planes }

abbrev pub convert_as : Checked → List ℕ → Input → ConvertStep
convert_as Fine planes x = convert_of (ConvertedMade (converted_header x)) (overlay (word_end x).arena.nodes x.nodes)
    (overlay (flat (word_end x).ops) x.operations) (overlay (word_end x).arena.frame x.frame) planes
convert_as (Wrong e) planes x = convert_of (ConvertedRefused e) x.nodes x.operations x.frame planes

unfoldable pub convert_within : Limits → Input → ConvertStep
convert_within l x = convert_as (convert_check l x) (planes_after (gates_check l x) x) x

unfoldable pub convert_step : Input → ConvertStep
convert_step x = convert_within limits x
