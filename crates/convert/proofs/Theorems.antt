-- What is claimed of the conversion and of the later calls, in the words of specs/.
use mathlib.Core.Path.{◌≡◌, refl, ap, ap₂, sym, ◌∙◌, subst}
use mathlib.Core.Logic.{◌≢◌}
use mathlib.Core.Bool.{true, false, true≢false}
use mathlib.Core.List.{List, [], ◌∷◌, map, Perm}
use Prim.Native.Nat.{ℕ, ◌*◌, ◌<◌}
use native.Mathlib.Omega.{arith}
use lib.ListN.{length, take}
use lib.Seq.{take_all}
use Rattle.pauli.specs.Rows.{Row, Width}
use Rattle.pauli.specs.Gates.{act₁, act₂, forward, Gate, AllValid}
use Rattle.pauli.specs.Table.{run, table}
use Rattle.pauli.specs.Rotations.{rotations, flush}
use Rattle.pauli.specs.Doubly.{seven_rows}
use Rattle.pauli.proofs.Table.{table-rows}
use Rattle.pauli.proofs.Theorems.{flush-as_gates, table-is-back, table-real, independent}
use Rattle.arena.specs.Nodes.{image}
use Rattle.arena.specs.Builder.{overlay}
use Rattle.arena.specs.Walk.{fine, refused as refused_with}
use Rattle.arena.specs.Readers.{Report}
use Rattle.arena.specs.Expansion.{bad_nodes, bad_operations, expand_step, hermitian_step, report_step, kind_report_step}
use Rattle.arena.proofs.NodeRows.{image-older}
use Rattle.arena.proofs.Readable.{both_false}
use Rattle.arena.proofs.Theorems.{expand_bad, hermitian_bad, report_bad}
use Rattle.convert.specs.Types.{Header, PauliRef, PbcError, BadStore, TargetTaken, Fine, Wrong}
use Rattle.convert.specs.Records.{is_narrow, KindY, KindSx, KindSwap, KindCy, Cap, records, lower_all, kind_of, Elementary, Placed, bare, map_from, without_index, AllProper}
use Rattle.convert.specs.Plain.{plain_begin, flush_from, plain_run}
use Rattle.convert.specs.Frame.{Arena, frame_gates, clifford_check, opened}
use Rattle.convert.specs.Words.{Words, decoded, meaning, op_from, ops_from, operations_in, word_run, start_words}
use Rattle.convert.specs.Conversion.{Limits, limits, Input, gates_in, plain_end, table_end, paper_end, word_end, gates_check, convert_check, converted_header, ConvertedMade, ConvertedRefused, convert_within, convert_step}
use Rattle.convert.specs.Later.{Circuit, converted, LaterCall, call_frame, later, laters, AllCarried}
use Rattle.convert.specs.Statement.{Frame, Means, frame_images, Converts, end_table, end_gates, Demand3}
use Rattle.convert.specs.Lowering.{rule_y, rule_sx, rule_swap, rule_cy, lowered_acts}
use Rattle.convert.specs.Sources.{All, OfRecord, unflushed_indices, NeverFall, Sources}
use Rattle.convert.specs.Routing.{AllRouted, RoutedWeights}
use Rattle.convert.specs.Targets.{At, OperationInto, Repeats, TargetsDiffer}
use Rattle.convert.specs.Thirteen.{reordered, ThirteenAsSeven, ThirteenInPlace, NarrowAsReplaced}
use Rattle.convert.specs.Circuits.{HandCircuits}
use Rattle.convert.proofs.Meaning.Nodes.{image-append}
use Rattle.convert.proofs.Meaning.FrameRows.{Keeps, kept_map, Shows, shown}
use Rattle.convert.proofs.Meaning.Words.{Meant, meant, reads_kept}
use Rattle.convert.proofs.Meaning.Papers.{table-run}
use Rattle.convert.proofs.Accepted.{accepted, FitsGate, fits_gate}
use Rattle.convert.proofs.Meaning.Routing.{light-from, routed}
use Rattle.convert.proofs.Meaning.Sources.{paper_below, paper_named, paper_never_falls}
use Rattle.convert.proofs.Meaning.Repeats.{refused_repeats, repeats_refused, refused_early, early_refused}
use Rattle.convert.proofs.Meaning.Targets.{records-apart, operations_apart}
use Rattle.convert.proofs.Calls.Table.{framed, shows-framed, later-framed, Good, good-laters, made-step, meant-input, agrees-input, good-converted}
use Rattle.convert.proofs.Meaning.Lowered.{y_acts, sx_acts, swap_acts, cy_acts}
use Rattle.convert.proofs.HandCircuits.{hand_circuits}
use Rattle.convert.proofs.Thirteen.{as_seven, seven-reordered, in_place_of}
use Rattle.convert.proofs.Replaced.{as-replaced}
use Rattle.convert.proofs.Meaning.Operations.{ops_read}
use Rattle.convert.proofs.Calls.Readable.{rows_opened, gate_shows, reads_nodes, reads_back, reads-laters}
use Rattle.convert.proofs.Calls.Operations.{operates_on, operates_back, operates-laters}
use Rattle.convert.proofs.Calls.Converted.{sized_words, reads-converted, operates-converted, weights_routed, converted-made, converted-refused}

-- ---- Means

frame-table : (n : ℕ) (gs : List Gate) → AllValid n gs → Frame n gs (table n gs)
frame-table n gs v = record { size = (table-rows n gs v).size; conjugated = table-is-back n gs v; signed = table-real n gs v; independent = independent n gs v }

map-map : {A B C : Type 0} (f : B → C) (g : A → B) (l : List A) → map (λ a. f (g a)) l ≡ map f (map g l)
map-map f g [] = refl
map-map f g (a ∷ l) = ap (λ r. f (g a) ∷ r) (map-map f g l)

-- at every point of a conversion, es being the elementary gates so far
pub means : (n owner cbits : ℕ) (cap : Cap) (es : List (Placed Elementary)) → AllProper n cbits (bare es)
    → Means n owner cbits (plain_run flush_from n cap es (plain_begin n)) (word_run n cap es (plain_begin n) (start_words n))
means n owner cbits cap es v = record {
  places = λ j hj. shown n _ _ M.core.shows j hj;
  operations = map-map (map_from (meaning n w.arena.count w.arena.nodes)) (decoded owner cbits) w.ops ∙ M.core.written.reads;
  frame = subst (λ t. Frame n (bare (plain_run flush_from n cap es (plain_begin n)).pending) t) (sym M.table_of) (frame-table n _ M.valid);
}
  where
    w : Words
    w = word_run n cap es (plain_begin n) (start_words n)

    M : Meant n owner cbits (plain_run flush_from n cap es (plain_begin n)) w
    M = meant n owner cbits cap es v

-- the rotations that a flush would write act by conjugation as the pending gates do
pub flush-acts : (n cbits : ℕ) (cap : Cap) (es : List (Placed Elementary)) → AllProper n cbits (bare es) → (Q : Row) → Width n Q
    → rotations (flush n (bare (plain_run flush_from n cap es (plain_begin n)).pending)) Q ≡ forward (bare (plain_run flush_from n cap es (plain_begin n)).pending) Q
flush-acts n cbits cap es v Q w = flush-as_gates n _ Q (meant n 0 cbits cap es v).valid w

-- ---- an accepted conversion

routed-input : (x : Input) → convert_check limits x ≡ Fine → AllRouted x.cap (without_index (paper_end x).operations)
unfolding paper_end gates_in lower_all
routed-input x e = routed flush_from light-from x.qubits x.cbits x.cap (records x.gates) (accepted limits x e).proper (accepted limits x e).cap

-- ---- the frame words of a circuit, read through all its words

module _ (n : ℕ) (s : Circuit) (t : List Row) (q : s.header.qubits ≡ n) (S : Shows n (opened s.header s.nodes s.frame) t) where
  all_words : Arena
  all_words = record { count = s.header.nodes; nodes = s.nodes; frame = s.frame }

  through : Keeps n (opened s.header s.nodes s.frame) all_words
  unfolding all_words
  through = record {
    more = omega arith;
    same = λ w lt. image-older n s.header.nodes s.header.nodes (take (2 * s.header.nodes) s.nodes) s.nodes w (omega arith) (omega arith)
        (take_all (2 * s.header.nodes) (take (2 * s.header.nodes) s.nodes) (omega (arith, S.even)));
  }

  images_are : frame_images s ≡ t
  unfolding frame_images all_words
  images_are =
      ap (λ m. map (image m s.header.nodes s.nodes) (take (2 * s.header.qubits) s.frame)) q
      ∙ kept_map n (opened s.header s.nodes s.frame) all_words through (take (2 * s.header.qubits) s.frame) S.under
      ∙ S.rows

-- ---- a frame gate by itself, on whatever words it is lent

-- each row of images is rewritten by the rule of the gate
pub frame_gate : (s : Circuit) (k a b : ℕ) → clifford_check s.header (length s.nodes) s.frame k a b ≡ Fine
    → frame_images (later (call_frame k a b) s) ≡ run s.header.qubits (frame_gates (kind_of k) a b) (frame_images s)
frame_gate s k a b e =
    ap frame_images (later-framed s k a b e)
    ∙ images_are n (framed (frame_gates (kind_of k) a b) s) _ refl (shows-framed s (rows_opened s) (frame_gates (kind_of k) a b) f.valid S)
    ∙ ap (run n (frame_gates (kind_of k) a b)) (sym (images_are n s (rows_opened s) refl S))
  where
    n : ℕ
    n = s.header.qubits

    f : FitsGate s.header (length s.nodes) s.frame k a b
    f = fits_gate s.header (length s.nodes) s.frame k a b e

    S : Shows n (opened s.header s.nodes s.frame) (rows_opened s)
    S = gate_shows s k a b f

-- ---- an accepted conversion is that of the papers

operations_read : (x : Input) → convert_check limits x ≡ Fine
    → operations_in (converted_header x) (convert_step x).nodes (convert_step x).operations ≡ (paper_end x).operations
unfolding operations_in
operations_read x e =
    ap₂ (λ ns ops. map (map_from (meaning x.qubits (word_end x).arena.count ns)) (ops_from (op_from (converted_header x) ops) 0 (length (word_end x).ops)))
    (ap (λ r. r.nodes) (made-step x e)) (ap (λ r. r.operations) (made-step x e))
    ∙ ap (map (map_from (meaning x.qubits (word_end x).arena.count (overlay (word_end x).arena.nodes x.nodes)))) (ops_read (converted_header x) (word_end x).ops _ (sized_words x))
    ∙ reads_kept x.qubits (word_end x).arena lent kept (map (decoded x.owner x.cbits) (word_end x).ops) M.core.written.below
    ∙ M.core.written.reads ∙ (agrees-input x e).operations
  where
    M : Meant x.qubits x.owner x.cbits (plain_end x) (word_end x)
    M = meant-input x e

    lent : Arena
    lent = record { count = (word_end x).arena.count; nodes = overlay (word_end x).arena.nodes x.nodes; frame = x.frame }

    kept : Keeps x.qubits (word_end x).arena lent
    kept = record {
      more = omega arith;
      same = λ w lt. image-append x.qubits (word_end x).arena.count (word_end x).arena.nodes M.core.shows.even (word_end x).arena.count _ w (omega arith) lt;
    }

pub converts : (x : Input) → convert_check limits x ≡ Fine → Converts x
converts x e = record {
  operations = operations_read x e;
  routed = routed-input x e;
  measurements = (agrees-input x e).given;
  frame = subst (λ t. Frame x.qubits (bare (paper_end x).since) t) (sym (images_are x.qubits (converted x) _ (good-converted x e).qubits (good-converted x e).shows ∙ (agrees-input x e).table_of))
      (frame-table x.qubits (bare (paper_end x).since) (agrees-input x e).valid);
}

-- ---- E2 of document 02: the gate record that an operation names

-- each operation of an accepted conversion names a record of the list, whose lowering has the gate that wrote it; but for what flushes write, in order
pub sources : (x : Input) → convert_check limits x ≡ Fine → Sources x
sources x e = record {
  below = subst (All (λ o. o.index < length (records x.gates))) papers (paper_below x);
  named = subst (All (OfRecord x.qubits (is_narrow x.cap) (records x.gates))) papers (paper_named x);
  never_fall = subst (λ os. NeverFall (unflushed_indices os)) papers (paper_never_falls x);
}
  where
    papers : (paper_end x).operations ≡ operations_in (converted_header x) (convert_step x).nodes (convert_step x).operations
    papers = sym (converts x e).operations

-- ---- E10 of document 02: one target, one measurement

-- 24 is answered for record i and bit b exactly if i is the first faulty record and an earlier one measures into b too
pub target_taken : (l : Limits) (x : Input) (i b : ℕ)
    → (gates_check l x ≡ Wrong (TargetTaken i b) → Repeats l x i b) × (Repeats l x i b → gates_check l x ≡ Wrong (TargetTaken i b))
target_taken l x i b = (refused_repeats l x i b, repeats_refused l x i b)

-- and so by the whole conversion
pub target_refused : (x : Input) (i b : ℕ)
    → ((convert_step x).answer ≡ ConvertedRefused (TargetTaken i b) → Repeats limits x i b) × (Repeats limits x i b → (convert_step x).answer ≡ ConvertedRefused (TargetTaken i b))
unfolding convert_step convert_within
target_refused x i b = (λ p. refused_repeats limits x i b (refused_early limits x i b (converted-refused x (TargetTaken i b) p)), λ R. rw (early_refused limits x i b (repeats_refused limits x i b R)))

-- an accepted conversion measures into each classical bit at most once
pub targets_differ : (x : Input) → convert_check limits x ≡ Fine → TargetsDiffer x
targets_differ x e = record {
  records_differ = records-apart limits x e;
  operations_differ = subst (λ os. (i j b c : ℕ) → i < j → At (λ o. OperationInto b o.what) os i → At (λ o. OperationInto c o.what) os j → b ≢ c)
      (sym (converts x e).operations) (operations_apart limits x e);
}

-- ---- E4 of document 02: ccz as thirteen gates, ccx as fifteen

-- without a cap they write the seven rotations in one fixed order, each with their record's index, and leave the table, for every frame that Clifford gates can give
pub thirteen_as_seven : ThirteenAsSeven
thirteen_as_seven = as_seven

-- that order has each of the seven rows once
pub same_turns : Perm reordered seven_rows
same_turns = seven-reordered

-- so they give the operations of ccz and ccx themselves, reordered, and the same table
pub thirteen_in_place : ThirteenInPlace
thirteen_in_place = in_place_of

-- under these caps a conversion is `to_pbc` on those gates, but for the index of the original gate
pub narrow_as_replaced : NarrowAsReplaced
narrow_as_replaced = as-replaced

-- ---- E6 of document 02: what the cap guarantees

-- every operation that an accepted conversion leaves in its words: odd angles and measurements have sign +1 or -1 and a weight within the cap;
-- even angles have sign +1 and weight at most 2, and come under a cap alone
pub cap_guarantee : (x : Input) → convert_check limits x ≡ Fine
    → AllRouted x.cap (without_index (operations_in (converted_header x) (convert_step x).nodes (convert_step x).operations))
cap_guarantee x e = subst (λ os. AllRouted x.cap (without_index os)) (sym (converts x e).operations) (converts x e).routed

-- so do the weight reports on them, where they answer: under a cap at most the cap, and at most 2 of Clifford rotations; without one no Clifford rotation
pub report-routed : (x : Input) → convert_check limits x ≡ Fine → (scratch pool : List ℕ) (limit : ℕ) (r : Report)
    → (report_step (converted_header x) (convert_step x).nodes (convert_step x).operations scratch pool limit).answer ≡ fine r → RoutedWeights x.cap r.weights
unfolding report_step
report-routed x e = weights_routed true x.cap (converted_header x) (convert_step x).nodes (convert_step x).operations (cap_guarantee x e)

pub kind_report-routed : (x : Input) → convert_check limits x ≡ Fine → (scratch pool : List ℕ) (limit : ℕ) (r : Report)
    → (kind_report_step (converted_header x) (convert_step x).nodes (convert_step x).operations scratch pool limit).answer ≡ fine r → RoutedWeights x.cap r.weights
unfolding kind_report_step
kind_report-routed x e = weights_routed false x.cap (converted_header x) (convert_step x).nodes (convert_step x).operations (cap_guarantee x e)

-- ---- demand 3

table-input : (x : Input) → (plain_end x).table ≡ table_end x
unfolding plain_end table_end plain_begin
table-input x = table-run flush_from x.qubits x.cap (gates_in x) (plain_begin x.qubits)

pub demand3 : (x : Input) → convert_check limits x ≡ Fine → (cs : List LaterCall) → Demand3 x cs (laters cs (converted x))
unfolding end_table end_gates
demand3 x e cs = record { rows = all; frame = subst (λ t. Frame n (end_gates x cs) t) (sym (all ∙ G.table_of)) (frame-table n (end_gates x cs) G.valid) }
  where
    n : ℕ
    n = x.qubits

    s : Circuit
    s = laters cs (converted x)

    G : Good n s (end_table x cs) (end_gates x cs)
    G = good-laters n cs (converted x) (table_end x) (bare (plain_end x).pending)
        (subst (λ t. Good n (converted x) t (bare (plain_end x).pending)) (table-input x) (good-converted x e))

    all : frame_images s ≡ end_table x cs
    all = images_are n s (end_table x cs) G.qubits G.shows

-- ---- acceptance and refusal

-- the header that an accepted conversion answers
pub made : (x : Input) → convert_check limits x ≡ Fine → (convert_step x).answer ≡ ConvertedMade (converted_header x)
made x e = ap (λ r. r.answer) (made-step x e)

-- a refusal changes no node, operation or frame word
pub refused : (x : Input) (error : PbcError) → convert_check limits x ≡ Wrong error
    → ((convert_step x).answer ≡ ConvertedRefused error) × ((convert_step x).nodes ≡ x.nodes) × ((convert_step x).operations ≡ x.operations) × ((convert_step x).frame ≡ x.frame)
unfolding convert_step convert_within
refused x error e = rw e (refl, refl, refl, refl)

-- ---- every result can be read

-- a conversion answers a header where no check refuses, and that of the definition
pub made_back : (x : Input) (h : Header) → (convert_step x).answer ≡ ConvertedMade h → (convert_check limits x ≡ Fine) × (h ≡ converted_header x)
made_back = converted-made

-- no later call makes a circuit unreadable: limits hold, the nodes in use are lent, and none of them is malformed
pub nodes_stay_readable : (cs : List LaterCall) (s : Circuit) → bad_nodes s.header s.nodes ≡ false → bad_nodes (laters cs s).header (laters cs s).nodes ≡ false
nodes_stay_readable cs s e = reads_nodes (laters cs s) (reads-laters cs s (reads_back s e))

-- nor its operations, where the caller carries those in use along: each is well formed and names nodes and measurements in use
pub operations_stay_readable : (cs : List LaterCall) (s : Circuit) → AllCarried cs s → bad_operations s.header s.operations ≡ false
    → bad_operations (laters cs s).header (laters cs s).operations ≡ false
operations_stay_readable cs s a e = operates_on (laters cs s) (operates-laters cs s a (operates_back s e))

-- so what an accepted conversion and any later calls leave can be read
pub nodes_readable : (x : Input) → convert_check limits x ≡ Fine → (cs : List LaterCall)
    → bad_nodes (laters cs (converted x)).header (laters cs (converted x)).nodes ≡ false
nodes_readable x e cs = reads_nodes (laters cs (converted x)) (reads-laters cs (converted x) (reads-converted x e))

pub operations_readable : (x : Input) → convert_check limits x ≡ Fine → (cs : List LaterCall) → AllCarried cs (converted x)
    → bad_operations (laters cs (converted x)).header (laters cs (converted x)).operations ≡ false
operations_readable x e cs a = operates_on (laters cs (converted x)) (operates-laters cs (converted x) a (operates-converted x e))

-- and no reader is refused with 3
pub expand_never_bad_store : (x : Input) → convert_check limits x ≡ Fine → (cs : List LaterCall) (letters scratch pool : List ℕ) (r : PauliRef) (cells : ℕ)
    → (expand_step (laters cs (converted x)).header (laters cs (converted x)).nodes letters scratch pool r cells).answer ≢ refused_with BadStore
expand_never_bad_store x e cs letters scratch pool r cells p =
    true≢false (sym (expand_bad (laters cs (converted x)).header (laters cs (converted x)).nodes letters scratch pool r cells p) ∙ nodes_readable x e cs)

pub hermitian_never_bad_store : (x : Input) → convert_check limits x ≡ Fine → (cs : List LaterCall) (scratch pool : List ℕ) (r : PauliRef) (limit : ℕ)
    → (hermitian_step (laters cs (converted x)).header (laters cs (converted x)).nodes scratch pool r limit).answer ≢ refused_with BadStore
hermitian_never_bad_store x e cs scratch pool r limit p =
    true≢false (sym (hermitian_bad (laters cs (converted x)).header (laters cs (converted x)).nodes scratch pool r limit p) ∙ nodes_readable x e cs)

pub report_never_bad_store : (x : Input) → convert_check limits x ≡ Fine → (cs : List LaterCall) → AllCarried cs (converted x) → (scratch pool : List ℕ) (limit : ℕ)
    → (report_step (laters cs (converted x)).header (laters cs (converted x)).nodes (laters cs (converted x)).operations scratch pool limit).answer ≢ refused_with BadStore
report_never_bad_store x e cs a scratch pool limit p =
    true≢false (sym (report_bad (laters cs (converted x)).header (laters cs (converted x)).nodes (laters cs (converted x)).operations scratch pool limit p)
    ∙ both_false _ _ (nodes_readable x e cs) (operations_readable x e cs a))

-- ---- lowering: the lowered gates act by conjugation as the gate does

pub y_as_lowered : (n q b : ℕ) (P : Row) → q < n → Width n P → lowered_acts KindY q b P ≡ act₁ rule_y q P
y_as_lowered n q b P hq w = y_acts n q P hq w b

pub sx_as_lowered : (n q b : ℕ) (P : Row) → q < n → Width n P → lowered_acts KindSx q b P ≡ act₁ rule_sx q P
sx_as_lowered n q b P hq w = sx_acts n q P hq w b

pub swap_as_lowered : (n a b : ℕ) (P : Row) → a < n → b < n → a ≢ b → Width n P → lowered_acts KindSwap a b P ≡ act₂ rule_swap a b P
swap_as_lowered n a b P ha hb ne w = swap_acts n a b P ha hb ne w

pub cy_as_lowered : (n c t : ℕ) (P : Row) → c < n → t < n → c ≢ t → Width n P → lowered_acts KindCy c t P ≡ act₂ rule_cy c t P
cy_as_lowered n c t P hc ht ne w = cy_acts n c t P hc ht ne w

-- ---- the circuits that are followed by hand

pub hand : HandCircuits
hand = hand_circuits
