-- What is proved of the arena, in the words of specs/ alone.
use mathlib.Core.Path.{◌≡◌, sym}
use mathlib.Core.Logic.{◌≢◌, ◌⊎◌, ◌↔◌}
use mathlib.Core.Bool.{Bool, true, false, cond, ◌||◌}
use mathlib.Core.List.{List, [], ◌∷◌, ◌++◌, map}
use Prim.Native.Nat.{ℕ, ◌+◌, ◌-◌, ◌*◌, ◌%◌, ◌≤◌, ◌<◌}
use lib.ListN.{length, take, drop}
use Rattle.pauli.specs.Letters.{pauli_number, real}
use Rattle.pauli.specs.Angle.{angle_of, eighths_of}
use Rattle.pauli.specs.Rows.{◌★◌, scaled, single, present, weight, anti_places}
use Rattle.pauli.specs.Table.{start}
use Rattle.arena.specs.Types.{Pauli, Phase, PauliAngle}
use Rattle.arena.specs.Limits.{cap_of, hand_mark}
use Rattle.arena.specs.Errors.{PbcError, BadStore, NonHermitianAxis, Fine, Wrong, ExpansionLimit, NoPool}
use Rattle.arena.specs.References.{PauliRef, PauliAxis, axis_of, node_in, scaled_word}
use Rattle.arena.specs.Nodes.{node_at, image, Identity, Product}
use Rattle.arena.specs.Operations.{MeasId, meas_id, Target, Rotate, Measure, ConditionalRotate, NoKind, axis_kind}
use Rattle.arena.specs.Store.{Header}
use Rattle.arena.specs.Builder.{CreatedMade, SingledMade, MultipliedMade, PushedMade, MeasuredMade, new_step, single_step, product_step, rotate_step, measure_step, conditional_step}
use Rattle.arena.specs.Sparse.{size, dense, merge, Sparse}
use Rattle.arena.specs.Walk.{Named, fine, refused, bind, State, Walked, charge, walk_nodes, Answer, walk, Taken, root_uses, scan, take_use}
use Rattle.arena.specs.Charges.{work_of}
use Rattle.arena.specs.Reachability.{Reachable}
use Rattle.arena.specs.Readers.{Expanded, expand_walk, hermitian_walk, Weighed, counts_non_clifford, counts_clifford, largest, words_of, Report, report_walk, Axes}
use Rattle.arena.specs.Expansion.{ExpansionMade, HermitianMade, WeightsMade, AxesMade, expansion_of, hermitian_of, max_weights_of, expanded_axes_of, op_at, gate_word, bad_nodes, bad_operations, expand_step, hermitian_step, weighed_of, axes_to, report_step, kind_report_step, row_bytes, axes_bytes, axes_size, axes_step}
use Rattle.arena.specs.Reports.{Largest}
use Rattle.arena.specs.Stats.{Within, Refused, work_after, charge_answer}
use Rattle.arena.specs.Calls.{Call, Slices, checked, after, KeptSlices}
use Rattle.arena.specs.Pool.{Lendable, Who}
use Rattle.arena.specs.PoolSteps.{Operands, Merged}
use Rattle.arena.specs.PoolRuns.{Held, World, factors_held, Without, Run, lent_in, back_in, Once, InChain, InFree}
use Rattle.arena.specs.Code.Results.{Ledger, Value}
use Rattle.arena.specs.Code.WalkWords.{Ordered, sum, edges, owed, uses_at, value_at, head_in, count_in, Rep, Stands, ValueIs, Multiplying, Walking, Combining}
use Rattle.arena.specs.Code.Records.{OfNode, OfValue, Spare, factors_at}
use Rattle.arena.proofs.NodeRows
use Rattle.arena.proofs.Answers
use Rattle.arena.proofs.Written
use Rattle.arena.proofs.Readable
use Rattle.arena.proofs.Spans
use Rattle.arena.proofs.Walk.Means
use Rattle.arena.proofs.Walk.Ends
use Rattle.arena.proofs.Walk.Reports
use Rattle.arena.proofs.Walk.Readers
use Rattle.arena.proofs.Walk.Axes as AxesLaws
use Rattle.arena.proofs.Walk.Charges
use Rattle.arena.proofs.Chains.Safe
use Rattle.arena.proofs.WeightReports
use Rattle.arena.proofs.Commuting
use Rattle.arena.proofs.DecodedNodes
use Rattle.arena.proofs.Walk.Uses
use Rattle.arena.proofs.Walk.Reached
use Rattle.arena.proofs.Walk.Totals
use Rattle.arena.proofs.Walk.Refusals
use Rattle.arena.proofs.Walk.Rooms
use Rattle.arena.proofs.Steps.Records
use Rattle.arena.proofs.Steps.Holding

-- ---- demand 1, for the calls of this crate

-- a refused call leaves every slice as it was
pub refused-untouched : (c : Call) (s : Slices) (e : PbcError) → checked c s ≡ Wrong e → after c s ≡ s
refused-untouched = Spans.refused_untouched

-- an accepted one writes the entries that it takes into use, and no other
pub accepted_used_only : (s : Slices) (c : Call) → checked c s ≡ Fine → KeptSlices c s (after c s)
accepted_used_only = Spans.accepted_used_only

-- ---- appending nodes changes no older image

pub image-older : (n k m : ℕ) (ws vs : List ℕ) (w : ℕ) → node_in w < k → k ≤ m → take (2 * k) ws ≡ take (2 * k) vs → image n m vs w ≡ image n k ws w
image-older = NodeRows.image-older

pub single-older : (h : Header) (ws : List ℕ) (q : ℕ) (a : Pauli) (h' : Header) (x : PauliAxis) → (single_step h ws q a).answer ≡ SingledMade h' x
    → (w : ℕ) → node_in w < h.nodes → image h'.qubits h'.nodes (single_step h ws q a).words w ≡ image h.qubits h.nodes ws w
single-older = Answers.single-older

pub product_older : (h : Header) (ws : List ℕ) (l r : PauliRef) (h' : Header) (x : PauliRef) → (product_step h ws l r).answer ≡ MultipliedMade h' x
    → (w : ℕ) → node_in w < h.nodes → image h'.qubits h'.nodes (product_step h ws l r).words w ≡ image h.qubits h.nodes ws w
product_older = Answers.product-older

-- ---- what the answers stand for

-- the letter on that qubit, for a letter other than I (I answers node 0, whatever stands there)
pub single-image : (h : Header) (ws : List ℕ) (q : ℕ) (a : Pauli) (h' : Header) (x : PauliAxis) → present a ≡ true → (single_step h ws q a).answer ≡ SingledMade h' x
    → image h'.qubits h'.nodes (single_step h ws q a).words x.0.word ≡ single h.qubits q a
single-image = Answers.single-answer

-- the product of the two images, left times right
pub product-image : (h : Header) (ws : List ℕ) (l r : PauliRef) (h' : Header) (x : PauliRef) → (product_step h ws l r).answer ≡ MultipliedMade h' x
    → image h'.qubits h'.nodes (product_step h ws l r).words x.word ≡ image h.qubits h.nodes ws l.word ★ image h.qubits h.nodes ws r.word
product-image = Answers.product-answer

-- a phase in front of a word is in front of its image
pub scaled-image : (n k : ℕ) (words : List ℕ) (p : Phase) (w : ℕ) → image n k words (scaled_word p w) ≡ scaled p (image n k words w)
scaled-image = NodeRows.image-scaled

-- the frame words of a new circuit stand for the rows of the plain table's start
pub new_images : (qubits cbits owner : ℕ) (nodes frame : List ℕ) (h : Header) → (new_step qubits cbits owner nodes frame).answer ≡ CreatedMade h
    → map (image h.qubits h.nodes (new_step qubits cbits owner nodes frame).words.nodes) (take (2 * h.qubits) (new_step qubits cbits owner nodes frame).words.frame) ≡ start h.qubits
new_images = Answers.new-answer

-- ---- what is written is what is read

-- the operation that a call adds reads, at the next place, as it was asked for; angles count modulo 8
pub rotate_read : (h : Header) (ops : List ℕ) (x : PauliAxis) (k : PauliAngle) (h' : Header) → (rotate_step h ops x k).answer ≡ PushedMade h'
    → op_at h' (rotate_step h ops x k).words h.operations ≡ Rotate x (angle_of (eighths_of k))
rotate_read = Written.rotate_read

-- with the number of the next measurement, which the call answers
pub measure_read : (h : Header) (ops : List ℕ) (x : PauliAxis) (t : Target) (h' : Header) (m : MeasId) → (measure_step h ops x t).answer ≡ MeasuredMade h' m
    → (m ≡ meas_id h.owner h.measurements) × (op_at h' (measure_step h ops x t).words h.operations ≡ Measure x m t)
measure_read h ops x t h' m e = (sym (Written.measure_made h ops x t h' m e).2, Written.measure_read h ops x t h' m e)

pub conditional_read : (h : Header) (ops : List ℕ) (x : PauliAxis) (k : PauliAngle) (m : MeasId) (h' : Header) → (conditional_step h ops x k m).answer ≡ PushedMade h'
    → op_at h' (conditional_step h ops x k m).words h.operations ≡ ConditionalRotate x (angle_of (eighths_of k)) m
conditional_read = Written.conditional_read

-- older operations read as before
pub rotate_older : (h : Header) (ops : List ℕ) (x : PauliAxis) (k : PauliAngle) (h' : Header) → (rotate_step h ops x k).answer ≡ PushedMade h'
    → (i : ℕ) → i < h.operations → op_at h' (rotate_step h ops x k).words i ≡ op_at h ops i
rotate_older = Written.rotate_older

pub measure_older : (h : Header) (ops : List ℕ) (x : PauliAxis) (t : Target) (h' : Header) (m : MeasId) → (measure_step h ops x t).answer ≡ MeasuredMade h' m
    → (i : ℕ) → i < h.operations → op_at h' (measure_step h ops x t).words i ≡ op_at h ops i
measure_older = Written.measure_older

pub conditional_older : (h : Header) (ops : List ℕ) (x : PauliAxis) (k : PauliAngle) (m : MeasId) (h' : Header) → (conditional_step h ops x k m).answer ≡ PushedMade h'
    → (i : ℕ) → i < h.operations → op_at h' (conditional_step h ops x k m).words i ≡ op_at h ops i
conditional_older = Written.conditional_older

-- E2: what a call adds is marked as added by hand
pub rotate_by_hand : (h : Header) (ops : List ℕ) (x : PauliAxis) (k : PauliAngle) (h' : Header) → (rotate_step h ops x k).answer ≡ PushedMade h'
    → gate_word (rotate_step h ops x k).words h.operations ≡ hand_mark
rotate_by_hand = Written.rotate_by_hand

pub measure_by_hand : (h : Header) (ops : List ℕ) (x : PauliAxis) (t : Target) (h' : Header) (m : MeasId) → (measure_step h ops x t).answer ≡ MeasuredMade h' m
    → gate_word (measure_step h ops x t).words h.operations ≡ hand_mark
measure_by_hand = Written.measure_by_hand

pub conditional_by_hand : (h : Header) (ops : List ℕ) (x : PauliAxis) (k : PauliAngle) (m : MeasId) (h' : Header) → (conditional_step h ops x k m).answer ≡ PushedMade h'
    → gate_word (conditional_step h ops x k m).words h.operations ≡ hand_mark
conditional_by_hand = Written.conditional_by_hand

-- and the older operations keep what they came from
pub rotate_sources_older : (h : Header) (ops : List ℕ) (x : PauliAxis) (k : PauliAngle) (h' : Header) → (rotate_step h ops x k).answer ≡ PushedMade h'
    → (i : ℕ) → i < h.operations → gate_word (rotate_step h ops x k).words i ≡ gate_word ops i
rotate_sources_older = Written.rotate_sources_older

pub measure_sources_older : (h : Header) (ops : List ℕ) (x : PauliAxis) (t : Target) (h' : Header) (m : MeasId) → (measure_step h ops x t).answer ≡ MeasuredMade h' m
    → (i : ℕ) → i < h.operations → gate_word (measure_step h ops x t).words i ≡ gate_word ops i
measure_sources_older = Written.measure_sources_older

pub conditional_sources_older : (h : Header) (ops : List ℕ) (x : PauliAxis) (k : PauliAngle) (m : MeasId) (h' : Header) → (conditional_step h ops x k m).answer ≡ PushedMade h'
    → (i : ℕ) → i < h.operations → gate_word (conditional_step h ops x k m).words i ≡ gate_word ops i
conditional_sources_older = Written.conditional_sources_older

-- a new circuit can be read, and needs no operation words
pub new_readable : (qubits cbits owner : ℕ) (nodes frame : List ℕ) (h : Header) → (new_step qubits cbits owner nodes frame).answer ≡ CreatedMade h
    → (bad_nodes h (new_step qubits cbits owner nodes frame).words.nodes ≡ false) × ((ops : List ℕ) → bad_operations h ops ≡ false)
new_readable q c o nodes frame h e = (Readable.new_read q c o nodes frame h e, Readable.new_none q c o nodes frame h e)

-- ---- the factor pool, after any sequence of its operations

-- no record is in two chains
pub pool_never_shared : (words : ℕ) (vs : List World) (w : World) → Run words vs w → (c d : Held) (some others : List Held) (r : ℕ)
    → Without c w.chains some → Without d some others → InChain w c r → InChain w d r → ⊥
pool_never_shared = Safe.never_shared

-- nor in a chain and the free list
pub pool_never_free : (words : ℕ) (vs : List World) (w : World) → Run words vs w → (c : Held) (others : List Held) (r : ℕ)
    → Without c w.chains others → InChain w c r → InFree w r → ⊥
pool_never_free = Safe.never_free

-- nor twice in a chain, nor twice in the free list
pub pool_never_twice : (words : ℕ) (vs : List World) (w : World) → Run words vs w → (c : Held) (others : List Held)
    → Without c w.chains others → Once w.pool c.head (length c.factors)
pool_never_twice = Safe.never_twice

pub pool_free_once : (words : ℕ) (vs : List World) (w : World) → Run words vs w → Once w.pool w.free w.spares
pool_free_once = Safe.free_never_twice

-- a record that is held is counted, and is not record 0
pub pool_counted : (words : ℕ) (vs : List World) (w : World) → Run words vs w → (c : Held) (others : List Held) (r : ℕ)
    → Without c w.chains others → InChain w c r → Lendable w.pool r
pool_counted = Safe.held_counted

-- the records lent, less the records given back, are the factors held
pub pool_held : (words : ℕ) (vs : List World) (w : World) (r : Run words vs w) → factors_held w.chains + back_in words vs w r ≡ lent_in words vs w r
pool_held = Safe.records_held

-- and with the free records they are all the counted records but record 0
pub pool_balance : (words : ℕ) (vs : List World) (w : World) → Run words vs w → w.spares + factors_held w.chains ≡ cap_of words - 1
pool_balance = Safe.records_balance

-- ---- what an accepted walk shows

-- at each root the root's image
pub walk-means : (limit room n count : ℕ) (words roots : List ℕ) (a : Answer) → Named count roots → walk limit room n count words roots ≡ fine a
    → map (dense n) a.shown ≡ map (image n count words) roots
walk-means = Means.walk-means

-- with as many factors as the image has letters other than I
pub walk-weights : (limit room n count : ℕ) (words roots : List ℕ) (a : Answer) → Named count roots → walk limit room n count words roots ≡ fine a
    → map size a.shown ≡ map (λ w. weight (image n count words w).letters) roots
walk-weights = Means.walk-weights

-- afterwards no use is left, and no record is held
pub walk-uses : (limit room n count : ℕ) (words roots : List ℕ) (r : Walked) → Named count roots → walk_nodes limit room (node_at n words) count roots ≡ fine r
    → (j : ℕ) → r.state.uses j ≡ 0
walk-uses limit room n count words roots r h e = (Ends.accepted-empty limit room n count words roots r h e).no_use

pub walk-held : (limit room n count : ℕ) (words roots : List ℕ) (r : Walked) → Named count roots → walk_nodes limit room (node_at n words) count roots ≡ fine r
    → r.state.held ≡ 0
walk-held limit room n count words roots r h e = (Ends.accepted-empty limit room n count words roots r h e).no_record

-- ---- what is read from a walk

-- an accepted expansion is the image
pub expand_means : (cells room n count : ℕ) (words : List ℕ) (w : ℕ) (x : Expanded) → node_in w < count → expand_walk cells room n count words w ≡ fine x
    → x.row ≡ image n count words w
expand_means cells room n count words w x h = Reports.expand_means room n count words w h cells x

-- an axis passes if its image's phase is 1 or -1
pub hermitian_means : (limit room n count : ℕ) (words : List ℕ) (w : ℕ) (a : Answer) → node_in w < count → walk limit room n count words (w ∷ []) ≡ fine a
    → hermitian_walk limit room n count words w ≡ cond (real (image n count words w).phase) (fine a.work) (refused NonHermitianAxis)
hermitian_means limit room n count words w a h = Reports.hermitian_means room n count words w h limit a

-- the report is about the weights of the images
pub report_means : (zeros : Bool) (limit room n count : ℕ) (words : List ℕ) (axes : List Weighed) (a : Answer) → Named count (words_of axes)
    → walk limit room n count words (words_of axes) ≡ fine a
    → report_walk zeros limit room n count words axes
    ≡ fine (record { weights = largest zeros axes (map (λ w. weight (image n count words w).letters) (words_of axes)); work = a.work })
report_means = Reports.report_means

-- ---- readers, from their contract alone

-- an accepted expansion is the image, and its letters stand by their numbers in the first of the letters lent
pub expand_reads : (h : Header) (nodes letters scratch pool : List ℕ) (r : PauliRef) (cells : ℕ) (x : Expanded) → (expand_step h nodes letters scratch pool r cells).answer ≡ fine x
    → (x.row ≡ image h.qubits h.nodes nodes r.word)
    × ((expand_step h nodes letters scratch pool r cells).letters ≡ map pauli_number (image h.qubits h.nodes nodes r.word).letters ++ drop h.qubits letters)
expand_reads = Readers.expand_reads

-- an accepted axis has an image of phase 1 or -1, one refused as not Hermitian has not
pub hermitian_reads : (h : Header) (nodes scratch pool : List ℕ) (r : PauliRef) (limit work : ℕ) → (hermitian_step h nodes scratch pool r limit).answer ≡ fine work
    → real (image h.qubits h.nodes nodes r.word).phase ≡ true
hermitian_reads = Readers.hermitian-real

pub hermitian_refuses : (h : Header) (nodes scratch pool : List ℕ) (r : PauliRef) (limit : ℕ) → (hermitian_step h nodes scratch pool r limit).answer ≡ refused NonHermitianAxis
    → real (image h.qubits h.nodes nodes r.word).phase ≡ false
hermitian_refuses = Readers.hermitian_unreal

-- an accepted report has the largest weights among the images of the axes
pub report_reads : (h : Header) (nodes ops scratch pool : List ℕ) (limit : ℕ) (x : Report) → (report_step h nodes ops scratch pool limit).answer ≡ fine x
    → let axes = axes_to (op_at h ops) h.operations in
    x.weights ≡ largest true axes (map (λ w. weight (image h.qubits h.nodes nodes w).letters) (words_of axes))
unfolding report_step
report_reads = Readers.report_reads true

-- and these two numbers are the largest weights of the operations that count; an angle of 0 counts as Clifford
pub report-largest : (h : Header) (nodes ops scratch pool : List ℕ) (limit : ℕ) (x : Report) → (report_step h nodes ops scratch pool limit).answer ≡ fine x
    → Largest h nodes ops counts_non_clifford x.weights.non_clifford × Largest h nodes ops (counts_clifford true) x.weights.clifford
unfolding report_step
report-largest = WeightReports.report-largest true

-- E3, the report by kind: the same where an angle of 0 does not count
pub kind_report_reads : (h : Header) (nodes ops scratch pool : List ℕ) (limit : ℕ) (x : Report) → (kind_report_step h nodes ops scratch pool limit).answer ≡ fine x
    → let axes = axes_to (op_at h ops) h.operations in
    x.weights ≡ largest false axes (map (λ w. weight (image h.qubits h.nodes nodes w).letters) (words_of axes))
unfolding kind_report_step
kind_report_reads = Readers.report_reads false

pub kind_report-largest : (h : Header) (nodes ops scratch pool : List ℕ) (limit : ℕ) (x : Report) → (kind_report_step h nodes ops scratch pool limit).answer ≡ fine x
    → Largest h nodes ops counts_non_clifford x.weights.non_clifford × Largest h nodes ops (counts_clifford false) x.weights.clifford
unfolding kind_report_step
kind_report-largest = WeightReports.report-largest false

-- it answers the first report's work, is refused where that is, with the same refusal, and leaves what that leaves
pub kind_report_alike : (h : Header) (nodes ops scratch pool : List ℕ) (limit : ℕ)
    → (bind (kind_report_step h nodes ops scratch pool limit).answer (λ x. fine x.work) ≡ bind (report_step h nodes ops scratch pool limit).answer (λ x. fine x.work))
    × ((kind_report_step h nodes ops scratch pool limit).scratch ≡ (report_step h nodes ops scratch pool limit).scratch)
    × ((kind_report_step h nodes ops scratch pool limit).pool ≡ (report_step h nodes ops scratch pool limit).pool)
kind_report_alike = WeightReports.kinds_alike

-- and where no angle is 0 it is the first report
pub kind_report_agrees : (h : Header) (nodes ops scratch pool : List ℕ) (limit : ℕ) → ((i : ℕ) → i < h.operations → axis_kind (op_at h ops i) ≢ NoKind)
    → kind_report_step h nodes ops scratch pool limit ≡ report_step h nodes ops scratch pool limit
kind_report_agrees = WeightReports.kinds_agree

-- an accepted expansion of all axes is their images, in the order of the operations, and these stand in the first of the bytes lent
pub axes_read : (h : Header) (nodes ops rows scratch pool : List ℕ) (limit : ℕ) (x : Axes) → (axes_step h nodes ops rows scratch pool limit).answer ≡ fine x
    → let images = map (image h.qubits h.nodes nodes) (words_of (axes_to (op_at h ops) h.operations)) in
    (x.rows ≡ images) × ((axes_step h nodes ops rows scratch pool limit).rows ≡ axes_bytes images ++ drop (axes_size h) rows)
axes_read = AxesLaws.axes-read

-- row i of the bytes is the image of operation i's axis
pub axes_row : (h : Header) (nodes ops rows scratch pool : List ℕ) (limit : ℕ) (x : Axes) (i : ℕ) → (axes_step h nodes ops rows scratch pool limit).answer ≡ fine x → i < h.operations
    → take (h.qubits + 1) (drop (i * (h.qubits + 1)) (axes_step h nodes ops rows scratch pool limit).rows)
    ≡ row_bytes (image h.qubits h.nodes nodes (weighed_of (op_at h ops i)).word)
axes_row = AxesLaws.axes-row

-- with bytes enough it answers the report's work, and is refused where the report is, with the same refusal
pub axes_work : (h : Header) (nodes ops rows scratch pool : List ℕ) (limit : ℕ) → axes_size h ≤ length rows
    → bind (axes_step h nodes ops rows scratch pool limit).answer (λ x. fine x.work) ≡ bind (report_step h nodes ops scratch pool limit).answer (λ x. fine x.work)
axes_work = AxesLaws.axes-work

-- what a caller gets of these: the phase of the image, the reference itself as an axis, and the two largest weights
pub expand_answers : (h : Header) (nodes letters scratch pool : List ℕ) (r : PauliRef) (cells : ℕ) (phase : Phase) (work : ℕ) (commute : Bool)
    → expansion_of (expand_step h nodes letters scratch pool r cells).answer ≡ ExpansionMade phase work commute
    → (phase ≡ (image h.qubits h.nodes nodes r.word).phase)
    × ((expand_step h nodes letters scratch pool r cells).letters ≡ map pauli_number (image h.qubits h.nodes nodes r.word).letters ++ drop h.qubits letters)
expand_answers = Readers.expand_answers

-- E7: of a reference whose node is a product, `expand` says yes exactly if what the two child words stand for commutes, whatever phases stand in front
pub expand_commutes : (h : Header) (nodes letters scratch pool : List ℕ) (r : PauliRef) (cells : ℕ) (phase : Phase) (work : ℕ) (commute : Bool)
    → expansion_of (expand_step h nodes letters scratch pool r cells).answer ≡ ExpansionMade phase work commute
    → (a b : ℕ) → node_at h.qubits nodes (node_in r.word) ≡ Product a b
    → let P = image h.qubits h.nodes nodes a in
    let Q = image h.qubits h.nodes nodes b in
    (commute ≡ true) ↔ (P ★ Q ≡ Q ★ P)
expand_commutes = Commuting.expand_commutes

-- and so exactly if an even number of qubits hold two different letters other than I
pub expand_even : (h : Header) (nodes letters scratch pool : List ℕ) (r : PauliRef) (cells : ℕ) (phase : Phase) (work : ℕ) (commute : Bool)
    → expansion_of (expand_step h nodes letters scratch pool r cells).answer ≡ ExpansionMade phase work commute
    → (a b : ℕ) → node_at h.qubits nodes (node_in r.word) ≡ Product a b
    → let P = image h.qubits h.nodes nodes a in
    let Q = image h.qubits h.nodes nodes b in
    (commute ≡ true) ↔ (anti_places P.letters Q.letters % 2 ≡ 0)
expand_even = Commuting.expand_even

-- of any other reference it says yes
pub expand_no_product : (h : Header) (nodes letters scratch pool : List ℕ) (r : PauliRef) (cells : ℕ) (phase : Phase) (work : ℕ) (commute : Bool)
    → expansion_of (expand_step h nodes letters scratch pool r cells).answer ≡ ExpansionMade phase work commute
    → ((a b : ℕ) → node_at h.qubits nodes (node_in r.word) ≢ Product a b) → commute ≡ true
expand_no_product = Commuting.expand_no_product

-- the multiplication of two sparse products tells it: the phase that merging them adds is 1 or -1 exactly if they commute
pub merge-commutes : (n : ℕ) (u v : Sparse) → Ordered n u → Ordered n v
    → (real (merge u.factors v.factors).phase ≡ true) ↔ (dense n u ★ dense n v ≡ dense n v ★ dense n u)
merge-commutes = Commuting.merge-commutes

-- which is so exactly if an even number of qubits hold two different letters other than I
pub merge-even : (n : ℕ) (u v : Sparse) → Ordered n u → Ordered n v
    → (real (merge u.factors v.factors).phase ≡ true) ↔ (anti_places (dense n u).letters (dense n v).letters % 2 ≡ 0)
merge-even = Commuting.merge-even

-- and the phase that `multiply` of src/pool.rt answers, whose promise is Merged, is then even
pub multiply_commutes : (n : ℕ) (u v : Sparse) {p p' : List ℕ} {free a na b nb head count phase free' : ℕ} (g : Operands p free a na b nb)
    → Ordered n u → Ordered n v → g.fa ≡ u.factors → g.fb ≡ v.factors → Merged g p' head count phase free'
    → (phase % 2 ≡ 0) ↔ (dense n u ★ dense n v ≡ dense n v ★ dense n u)
multiply_commutes = Commuting.merged_commutes

pub hermitian_answers : (h : Header) (nodes scratch pool : List ℕ) (r : PauliRef) (limit : ℕ) (x : PauliAxis) (work : ℕ)
    → hermitian_of r (hermitian_step h nodes scratch pool r limit).answer ≡ HermitianMade x work
    → (x ≡ axis_of r) × (real (image h.qubits h.nodes nodes r.word).phase ≡ true)
hermitian_answers = Readers.hermitian_answers

pub report_answers : (h : Header) (nodes ops scratch pool : List ℕ) (limit a b work : ℕ) → max_weights_of (report_step h nodes ops scratch pool limit).answer ≡ WeightsMade a b work
    → let axes = axes_to (op_at h ops) h.operations in
    largest true axes (map (λ w. weight (image h.qubits h.nodes nodes w).letters) (words_of axes)) ≡ record { non_clifford = a; clifford = b }
unfolding report_step
report_answers = Readers.report_answers true

pub axes_answers : (h : Header) (nodes ops rows scratch pool : List ℕ) (limit work : ℕ) → expanded_axes_of (axes_step h nodes ops rows scratch pool limit).answer ≡ AxesMade work
    → (axes_step h nodes ops rows scratch pool limit).rows
    ≡ axes_bytes (map (image h.qubits h.nodes nodes) (words_of (axes_to (op_at h ops) h.operations))) ++ drop (axes_size h) rows
axes_answers = AxesLaws.axes-answers

-- 3 is answered for a bad store alone
pub expand_bad : (h : Header) (nodes letters scratch pool : List ℕ) (r : PauliRef) (cells : ℕ) → (expand_step h nodes letters scratch pool r cells).answer ≡ refused BadStore
    → bad_nodes h nodes ≡ true
expand_bad = Readers.expand_bad

pub hermitian_bad : (h : Header) (nodes scratch pool : List ℕ) (r : PauliRef) (limit : ℕ) → (hermitian_step h nodes scratch pool r limit).answer ≡ refused BadStore
    → bad_nodes h nodes ≡ true
hermitian_bad = Readers.hermitian_bad

pub report_bad : (h : Header) (nodes ops scratch pool : List ℕ) (limit : ℕ) → (report_step h nodes ops scratch pool limit).answer ≡ refused BadStore
    → (bad_nodes h nodes || bad_operations h ops) ≡ true
unfolding report_step
report_bad = Readers.report_bad true

pub axes_bad : (h : Header) (nodes ops rows scratch pool : List ℕ) (limit : ℕ) → (axes_step h nodes ops rows scratch pool limit).answer ≡ refused BadStore
    → (bad_nodes h nodes || bad_operations h ops) ≡ true
axes_bad = AxesLaws.axes-bad

-- ---- a charge is the walk's charge

-- answered Within, it is fine, with the work that the charge leaves
pub charge-within : (limit amount : ℕ) (s : State) → charge_answer s.work limit amount ≡ Within
    → (t : State) × ((charge limit amount s ≡ fine t) × (t.work ≡ work_after s.work limit amount))
charge-within = Charges.within-fine

-- fine, it is answered Within
pub charge-fine : (limit amount : ℕ) (s t : State) → charge limit amount s ≡ fine t
    → (charge_answer s.work limit amount ≡ Within) × (t.work ≡ work_after s.work limit amount)
charge-fine = Charges.fine-within

-- a refusal is the same refusal
pub charge-refused : (limit amount : ℕ) (s : State) (e : PbcError) → charge_answer s.work limit amount ≡ Refused e → charge limit amount s ≡ refused e
charge-refused = Charges.refused-alike

-- ---- the words of a walk

-- `Rep` is what every function that a walk runs on scratch and pool asks for and leaves, and `Stands` is `Rep` for some holders of the records:
-- asked for by take_use (Takeable), multiply_at (Multiplying), combine_at (Combining), single_at (Making), product_step, step_at, run_path, eval_root, show_root,
-- visit_root (Walking in Branched, Topped, Started, Rooted), release (Releasable), visit_all (Weighing);
-- left by begin (Begun), take_use (TookRep), multiply_at, combine_at, single_at, run_path, eval_root (Stands), product_step, step_at (Landed), show_root (RootShown),
-- release (Released), visit_root (RootVisited). So what follows holds before and after each of them.

-- no record is in the values of two nodes
pub walk-never_shared : (count room : ℕ) (l p : List ℕ) (s : State) (left : Ledger) → Stands count room l p s left
    → (i j r : ℕ) → i < count → j < count → i ≢ j → OfNode l p i r → OfNode l p j r → ⊥
walk-never_shared count room l p s left g = Records.never_shared count room l p left g.who s g.rep

-- nor in the value of a node and the free list
pub walk-never_free : (count room : ℕ) (l p : List ℕ) (s : State) (left : Ledger) → Stands count room l p s left
    → (i r : ℕ) → i < count → OfNode l p i r → Spare p left r → ⊥
walk-never_free count room l p s left g = Records.never_free count room l p left g.who s g.rep

-- nor twice in the value of a node that has a use left, nor twice in the free list
pub walk-never_twice : (count room : ℕ) (l p : List ℕ) (s : State) (left : Ledger) → Stands count room l p s left
    → (i : ℕ) → i < count → 0 < uses_at l i → 0 < value_at l i → Once p (head_in (value_at l i)) (count_in (value_at l i))
walk-never_twice count room l p s left g = Records.never_twice count room l p left g.who s g.rep

pub walk-free_once : (count room : ℕ) (l p : List ℕ) (s : State) (left : Ledger) → Stands count room l p s left → Once p left.free left.spare
walk-free_once count room l p s left g = Records.spare_once count room l p left g.who s g.rep

-- a record of a value is counted, and is not record 0
pub walk-counted : (count room : ℕ) (l p : List ℕ) (s : State) (left : Ledger) → Stands count room l p s left
    → (i r : ℕ) → i < count → OfNode l p i r → Lendable p r
walk-counted count room l p s left g = Records.counted count room l p left g.who s g.rep

-- a value in hand is what take_use leaves (`rep` and `value` of TookRep) and what multiply_at asks for twice (Multiplying): its records are in no node's value
pub walk-hand_never_shared : (count room : ℕ) (l p : List ℕ) (left : Ledger) (who : Who) (s : State) → Rep count room l p left who s
    → (tag : ℕ) → tag < 2 → (v : Value) (x : Sparse) → ValueIs p who tag v x → (i r : ℕ) → i < count → OfValue p v r → OfNode l p i r → ⊥
walk-hand_never_shared = Records.hand_not_standing

-- nor free
pub walk-hand_never_free : (count room : ℕ) (l p : List ℕ) (left : Ledger) (who : Who) (s : State) → Rep count room l p left who s
    → (tag : ℕ) → tag < 2 → (v : Value) (x : Sparse) → ValueIs p who tag v x → (r : ℕ) → OfValue p v r → Spare p left r → ⊥
walk-hand_never_free = Records.hand_not_free

-- nor there twice
pub walk-hand_once : (count room : ℕ) (l p : List ℕ) (left : Ledger) (who : Who) (s : State) → Rep count room l p left who s
    → (tag : ℕ) → tag < 2 → (v : Value) (x : Sparse) → ValueIs p who tag v x → Once p v.head v.count
walk-hand_once = Records.hand_once

-- and the two values that multiply_at multiplies share none
pub walk-hands_never_shared : (l p : List ℕ) (limit i : ℕ) (a b : Value) (left : Ledger) → Multiplying l p limit i a b left
    → (r : ℕ) → OfValue p a r → OfValue p b r → ⊥
walk-hands_never_shared = Records.hands-apart

-- the records that are free and the factors of the values that stand are all the records: asked for by step_at and the functions that it runs (Walking)
pub walk-holds : (words l p : List ℕ) (count limit : ℕ) (left : Ledger) (g : Walking words l p count limit left) → left.spare + sum count (factors_at l) ≡ g.room
walk-holds = Holding.rest_holds

-- with a value in hand its factors too, after the first take_use of combine_at
pub walk-hand_holds : (l p : List ℕ) (limit i lw rt : ℕ) (left : Ledger) (g : Combining l p limit i lw rt left)
    → (a : Taken) → take_use limit g.at.room lw g.at.s ≡ fine a
    → (l' p' : List ℕ) (left' : Ledger) (who : Who) → Rep g.count g.at.room l' p' left' who a.state
    → left'.spare + (sum g.count (factors_at l') + size a.value) ≡ g.at.room
walk-hand_holds = Holding.hand_holds

-- and with two, after the second
pub walk-hands_hold : (l p : List ℕ) (limit i lw rt : ℕ) (left : Ledger) (g : Combining l p limit i lw rt left)
    → (a b : Taken) → take_use limit g.at.room lw g.at.s ≡ fine a → take_use limit g.at.room rt a.state ≡ fine b
    → (l' p' : List ℕ) (left' : Ledger) (who : Who) → Rep g.count g.at.room l' p' left' who b.state
    → left'.spare + (sum g.count (factors_at l') + (size a.value + size b.value)) ≡ g.at.room
walk-hands_hold = Holding.hands_hold

-- ---- what a walk counts and charges

-- the nodes with a use at the start, as scan_uses counts them, are the reachable ones
pub walk-uses_reachable : (n count : ℕ) (words roots : List ℕ) → Named count roots → (j : ℕ) → j < count
    → (0 < (scan (node_at n words) count (root_uses roots)).uses j → Reachable (node_at n words) roots j)
    × (Reachable (node_at n words) roots j → 0 < (scan (node_at n words) count (root_uses roots)).uses j)
walk-uses_reachable n count words roots = Reached.reached_both n count (node_at n words) (DecodedNodes.node_fits n words) roots

-- and a node's uses are the roots that name it and the child words of reachable nodes that do
pub walk-uses_counted : (n count : ℕ) (words roots : List ℕ) (j : ℕ) → let all = (scan (node_at n words) count (root_uses roots)).uses in
    all j ≡ root_uses roots j + sum count (λ i. owed false (all i) (edges (node_at n words i) j))
walk-uses_counted n count words roots = Uses.scan-uses n (node_at n words) (DecodedNodes.node_fits n words) count (root_uses roots)

-- the work answered is the sum of the charges
pub walk-work : (limit room n count : ℕ) (words roots : List ℕ) (a : Answer) → Named count roots → walk limit room n count words roots ≡ fine a
    → a.work ≡ work_of n count words roots
walk-work = Totals.walk-work

-- and at most the limit
pub walk-within : (limit room n count : ℕ) (words roots : List ℕ) (a : Answer) → Named count roots → walk limit room n count words roots ≡ fine a → a.work ≤ limit
walk-within = Totals.walk-within

-- a walk needs the work of its charges and some room, and is accepted exactly where it has both; 18 says that it lacks room, 17 that its charges are above the limit
pub walk-decided : (n count : ℕ) (words roots : List ℕ) → Named count roots → (need : ℕ) × ((limit room : ℕ)
    → (work_of n count words roots ≤ limit → need ≤ room → (a : Answer) × (walk limit room n count words roots ≡ fine a))
    × ((a : Answer) → walk limit room n count words roots ≡ fine a → (work_of n count words roots ≤ limit) × (need ≤ room))
    × ((e : PbcError) → walk limit room n count words roots ≡ refused e
    → ((e ≡ NoPool) × (room < need)) ⊎ ((e ≡ ExpansionLimit) × (limit < work_of n count words roots))))
walk-decided = Refusals.walk-decided

-- a record for each qubit of each node is room enough, where node 0 is the identity
pub walk-room_enough : (limit room n count : ℕ) (words roots : List ℕ) (e : PbcError) → Named count roots → node_at n words 0 ≡ Identity → n * count ≤ room
    → walk limit room n count words roots ≡ refused e → e ≡ ExpansionLimit
walk-room_enough = Rooms.room_enough

-- the work of an accepted expansion, of an axis that passes, and of a report, is that sum too
pub expand_work : (cells room n count : ℕ) (words : List ℕ) (w : ℕ) (x : Expanded) → node_in w < count → expand_walk cells room n count words w ≡ fine x
    → x.work ≡ work_of n count words (w ∷ [])
expand_work = Totals.expand_work

pub hermitian_work : (limit room n count : ℕ) (words : List ℕ) (w work : ℕ) → node_in w < count → hermitian_walk limit room n count words w ≡ fine work
    → work ≡ work_of n count words (w ∷ [])
hermitian_work = Totals.hermitian_work

pub report_work : (zeros : Bool) (limit room n count : ℕ) (words : List ℕ) (axes : List Weighed) (x : Report) → Named count (words_of axes) → report_walk zeros limit room n count words axes ≡ fine x
    → x.work ≡ work_of n count words (words_of axes)
report_work = Totals.report_work
