-- What the readers answer, and what they leave in the letters or rows, the scratch words and the pool: for acceptance and every refusal.
use Rattle.std.specs.Prelude.{Bool, true, false, ◌||◌, List, [], ◌∷◌, ◌++◌, map, ℕ, zero, suc, ◌+◌, ◌-◌, ◌*◌, ltb, length, get_or, replicate, drop, Result, Ok}
use Rattle.pauli.specs.Letters.{pauli_number, phase_number}
use Rattle.pauli.specs.Rows.{Row}
use Rattle.arena.specs.Limits.{operation_words, cap_of}
use Rattle.arena.specs.Types.{Phase}
use Rattle.arena.specs.Errors.{PbcError, BadStore, ForeignPauli, NoScratch, Checked, Fine, Wrong, ◌⟫◌⇒◌}
use Rattle.arena.specs.References.{PauliRef, PauliAxis, axis_of}
use Rattle.arena.specs.Nodes.{PauliNode, Identity, Single, Product, Malformed, node_at}
use Rattle.arena.specs.Operations.{PbcOp, Rotate, Measure, ConditionalRotate, decode_op, axis_kind, Malformed as MalformedOp, Source, OfGate, ByHand, NoSource, source_of}
use Rattle.arena.specs.Store.{Header, breaks_limit, exceeds_nodes, exceeds_operations, foreign, unknown}
use Rattle.arena.specs.Walk.{Out, fine, refused}
use Rattle.arena.specs.Readers.{Expanded, expand_walk, hermitian_walk, Weighed, words_of, Report, report_walk, Axes, axes_walk}
pub use Rattle.arena.specs.declared.expansion.Expansion.{Expansion as ExpansionParts}
pub use Rattle.arena.specs.declared.expansion.HermitianAxis.{HermitianAxis as HermitianParts}
pub use Rattle.arena.specs.declared.expansion.MaxAxisWeights.{MaxAxisWeights as WeightParts}
pub use Rattle.std.specs.Prelude.{Err as ExpansionRefused, Err as HermitianRefused, Err as WeightsRefused, Ok as AxesMade, Err as AxesRefused}

abbrev pub Expansion : Type 0
Expansion = Result ExpansionParts PbcError

abbrev pub HermitianAxis : Type 0
HermitianAxis = Result HermitianParts PbcError

abbrev pub MaxAxisWeights : Type 0
MaxAxisWeights = Result WeightParts PbcError

abbrev pub ExpandedAxes : Type 0
ExpandedAxes = Result ℕ PbcError

abbrev pub ExpansionMade : Phase → ℕ → Bool → Expansion
ExpansionMade phase work commute = Ok (record { phase = phase; work = work; commute = commute })

abbrev pub HermitianMade : PauliAxis → ℕ → HermitianAxis
HermitianMade axis work = Ok (record { axis = axis; work = work })

abbrev pub WeightsMade : ℕ → ℕ → ℕ → MaxAxisWeights
WeightsMade non_clifford clifford work = Ok (record { non_clifford = non_clifford; clifford = clifford; work = work })

-- every counted record is zero, and the words after those are as they were
abbrev pub cleared : List ℕ → List ℕ
cleared p = replicate (3 * cap_of (length p)) 0 ++ drop (3 * cap_of (length p)) p

-- ---- the answers of the calls

abbrev pub expansion_of : Out Expanded → Expansion
expansion_of (fine x) = ExpansionMade x.row.phase x.work x.commute
expansion_of (refused e) = ExpansionRefused e

-- the axis is the reference itself
abbrev pub hermitian_of : PauliRef → Out ℕ → HermitianAxis
hermitian_of r (fine work) = HermitianMade (axis_of r) work
hermitian_of r (refused e) = HermitianRefused e

abbrev pub max_weights_of : Out Report → MaxAxisWeights
max_weights_of (fine x) = WeightsMade x.weights.non_clifford x.weights.clifford x.work
max_weights_of (refused e) = WeightsRefused e

abbrev pub expanded_axes_of : Out Axes → ExpandedAxes
expanded_axes_of (fine x) = AxesMade x.work
expanded_axes_of (refused e) = AxesRefused e

-- ---- 3 BadStore, for a walk: a used node is malformed

abbrev pub is_malformed : PauliNode → Bool
is_malformed Identity = false
is_malformed (Single q a) = false
is_malformed (Product l r) = false
is_malformed Malformed = true

-- some node below k
abbrev pub any_malformed : (ℕ → PauliNode) → ℕ → Bool
any_malformed node zero = false
any_malformed node (suc k) = any_malformed node k || is_malformed (node k)

abbrev pub bad_nodes : Header → List ℕ → Bool
bad_nodes h nodes = breaks_limit h || exceeds_nodes h (length nodes) || any_malformed (node_at h.qubits nodes) h.nodes

-- ---- and for a walk over operations: a used one is malformed, names an unused node or measurement, or came from nowhere

unfoldable pub op_at : Header → List ℕ → ℕ → PbcOp
op_at h ops i = decode_op h.owner h.cbits (get_or ops (operation_words * i) 0) (get_or ops (operation_words * i + 1) 0)
    (get_or ops (operation_words * i + 2) 0) (get_or ops (operation_words * i + 3) 0)

-- the last word of operation i, and what it stands for
abbrev pub gate_word : List ℕ → ℕ → ℕ
gate_word ops i = get_or ops (operation_words * i + 4) 0

abbrev pub source_at : List ℕ → ℕ → Source
source_at ops i = source_of (gate_word ops i)

abbrev pub is_bad_op : Header → PbcOp → Bool
is_bad_op h (Rotate x k) = foreign h x.0
is_bad_op h (Measure x m t) = foreign h x.0 || unknown h m
is_bad_op h (ConditionalRotate x k m) = foreign h x.0 || unknown h m
is_bad_op h MalformedOp = true

abbrev pub is_no_source : Source → Bool
is_no_source (OfGate i) = false
is_no_source ByHand = false
is_no_source NoSource = true

-- operation i
abbrev pub is_bad_at : Header → List ℕ → ℕ → Bool
is_bad_at h ops i = is_bad_op h (op_at h ops i) || is_no_source (source_at ops i)

-- some operation below k
abbrev pub any_bad_op : Header → List ℕ → ℕ → Bool
any_bad_op h ops zero = false
any_bad_op h ops (suc k) = any_bad_op h ops k || is_bad_at h ops k

abbrev pub bad_operations : Header → List ℕ → Bool
bad_operations h ops = exceeds_operations h (length ops) || any_bad_op h ops h.operations

-- ---- scratch and pool: four words a used node; all counted records but record 0 can be lent

abbrev pub room_in : List ℕ → ℕ
room_in pool = cap_of (length pool) - 1

-- what a walk leaves of the scratch, accepted or not: the words of used nodes are zero, and past them nothing has changed; of the pool it leaves `cleared`
abbrev pub scratch_left : Header → List ℕ → List ℕ
scratch_left h scratch = replicate (4 * h.nodes) 0 ++ drop (4 * h.nodes) scratch

-- ---- expand: 3, 4, 16, then the walk

pub record ExpandStep : Type 0 where
  pub answer : Out Expanded
  pub letters : List ℕ
  pub scratch : List ℕ
  pub pool : List ℕ

unfoldable pub expand_check : Header → List ℕ → PauliRef → (letters scratch : ℕ) → Checked
expand_check h nodes r letters scratch =
    Fine
    ⟫ bad_nodes h nodes ⇒ BadStore
    ⟫ foreign h r ⇒ ForeignPauli
    ⟫ ltb scratch (4 * h.nodes) || ltb letters h.qubits ⇒ NoScratch

-- the letters of an accepted expansion, over what was there
abbrev pub letters_left : Out Expanded → List ℕ → List ℕ
letters_left (fine x) letters = map pauli_number x.row.letters ++ drop (length x.row.letters) letters
letters_left (refused e) letters = letters

abbrev pub expand_by : Checked → Out Expanded → Header → (letters scratch pool : List ℕ) → ExpandStep
expand_by (Ok u) o h letters scratch pool = record { answer = o; letters = letters_left o letters; scratch = scratch_left h scratch; pool = cleared pool }
expand_by (Wrong e) o h letters scratch pool = record { answer = refused e; letters = letters; scratch = scratch; pool = pool }

unfoldable pub expand_step : Header → (nodes letters scratch pool : List ℕ) → PauliRef → (cells : ℕ) → ExpandStep
expand_step h nodes letters scratch pool r cells =
    expand_by (expand_check h nodes r (length letters) (length scratch)) (expand_walk cells (room_in pool) h.qubits h.nodes nodes r.word) h letters scratch pool

-- ---- hermitian_axis and the weight reports: the same without letters

pub record WalkStep (A : Type 0) : Type 0 where
  pub answer : Out A
  pub scratch : List ℕ
  pub pool : List ℕ

abbrev pub walk_by : {A : Type 0} → Checked → Out A → Header → (scratch pool : List ℕ) → WalkStep A
walk_by (Ok u) o h scratch pool = record { answer = o; scratch = scratch_left h scratch; pool = cleared pool }
walk_by (Wrong e) o h scratch pool = record { answer = refused e; scratch = scratch; pool = pool }

unfoldable pub hermitian_check : Header → List ℕ → PauliRef → (scratch : ℕ) → Checked
hermitian_check h nodes r scratch =
    Fine
    ⟫ bad_nodes h nodes ⇒ BadStore
    ⟫ foreign h r ⇒ ForeignPauli
    ⟫ ltb scratch (4 * h.nodes) ⇒ NoScratch

-- the work
unfoldable pub hermitian_step : Header → (nodes scratch pool : List ℕ) → PauliRef → (limit : ℕ) → WalkStep ℕ
hermitian_step h nodes scratch pool r limit =
    walk_by (hermitian_check h nodes r (length scratch)) (hermitian_walk limit (room_in pool) h.qubits h.nodes nodes r.word) h scratch pool

abbrev pub axis_word : PbcOp → ℕ
axis_word (Rotate x k) = x.0.word
axis_word (Measure x m t) = x.0.word
axis_word (ConditionalRotate x k m) = x.0.word
axis_word MalformedOp = 0

abbrev pub weighed_of : PbcOp → Weighed
weighed_of op = record { word = axis_word op; kind = axis_kind op }

-- the axes of the first k operations, in order
abbrev pub axes_to : (ℕ → PbcOp) → ℕ → List Weighed
axes_to op zero = []
axes_to op (suc k) = axes_to op k ++ (weighed_of (op k) ∷ [])

unfoldable pub report_check : Header → (nodes operations : List ℕ) → (scratch : ℕ) → Checked
report_check h nodes ops scratch =
    Fine
    ⟫ bad_nodes h nodes || bad_operations h ops ⇒ BadStore
    ⟫ ltb scratch (4 * h.nodes) ⇒ NoScratch

abbrev pub report_by : (zeros : Bool) → Header → (nodes operations scratch pool : List ℕ) → (limit : ℕ) → WalkStep Report
report_by zeros h nodes ops scratch pool limit =
    walk_by (report_check h nodes ops (length scratch)) (report_walk zeros limit (room_in pool) h.qubits h.nodes nodes (axes_to (op_at h ops) h.operations)) h scratch pool

-- even angles, 0 too, count as Clifford
unfoldable pub report_step : Header → (nodes operations scratch pool : List ℕ) → (limit : ℕ) → WalkStep Report
report_step = report_by true

-- max_axis_weights_by_kind (E3 of document 02): rotations of angle 0, conditional ones too, are in neither maximum
unfoldable pub kind_report_step : Header → (nodes operations scratch pool : List ℕ) → (limit : ℕ) → WalkStep Report
kind_report_step = report_by false

-- ---- expand_axes: 3, 16, then the report's walk; row i is the axis of operation i

-- a letter byte for each qubit, then the phase
abbrev pub row_bytes : Row → List ℕ
row_bytes P = map pauli_number P.letters ++ (phase_number P.phase ∷ [])

abbrev pub axes_bytes : List Row → List ℕ
axes_bytes [] = []
axes_bytes (P ∷ Ps) = row_bytes P ++ axes_bytes Ps

-- the bytes of all rows
abbrev pub axes_size : Header → ℕ
axes_size h = h.operations * (h.qubits + 1)

pub record AxesStep : Type 0 where
  pub answer : Out Axes
  pub rows : List ℕ
  pub scratch : List ℕ
  pub pool : List ℕ

unfoldable pub axes_check : Header → (nodes operations : List ℕ) → (rows scratch : ℕ) → Checked
axes_check h nodes ops rows scratch =
    Fine
    ⟫ bad_nodes h nodes || bad_operations h ops ⇒ BadStore
    ⟫ ltb scratch (4 * h.nodes) || ltb rows (axes_size h) ⇒ NoScratch

-- the first k bytes: the rows of an accepted walk, else zero
abbrev pub rows_made : Out Axes → (k : ℕ) → List ℕ
rows_made (fine x) k = axes_bytes x.rows
rows_made (refused e) k = replicate k 0

abbrev pub axes_by : Checked → Out Axes → Header → (rows scratch pool : List ℕ) → AxesStep
axes_by (Ok u) o h rows scratch pool =
    record { answer = o; rows = rows_made o (axes_size h) ++ drop (axes_size h) rows; scratch = scratch_left h scratch; pool = cleared pool }
axes_by (Wrong e) o h rows scratch pool = record { answer = refused e; rows = rows; scratch = scratch; pool = pool }

unfoldable pub axes_step : Header → (nodes operations rows scratch pool : List ℕ) → (limit : ℕ) → AxesStep
axes_step h nodes ops rows scratch pool limit =
    axes_by (axes_check h nodes ops (length rows) (length scratch))
    (axes_walk limit (room_in pool) h.qubits h.nodes nodes (words_of (axes_to (op_at h ops) h.operations))) h rows scratch pool
