-- Later calls on a converted circuit, as operators: a frame gate acts at the circuit's end, and so does an operation that is pushed, along what its axis is there.
use Rattle.std.specs.Prelude.{◌≢◌, Bool, List, [], ◌∷◌, ◌++◌, map, ℕ}
use Rattle.pauli.specs.Angle.{eighths_of}
use Rattle.pauli.specs.Rows.{Row}
use Rattle.pauli.specs.Gates.{Gate, forward}
use Rattle.arena.specs.Limits.{hand_mark}
use Rattle.arena.specs.Nodes.{image}
use Rattle.arena.specs.Builder.{rotate_step, measure_step, conditional_step}
use Rattle.convert.specs.Records.{records, bare, From, from}
use Rattle.convert.specs.Plain.{Operation, rotate_by, measure_of, conditional_by, malformed}
use Rattle.convert.specs.Frame.{clifford_step}
use Rattle.convert.specs.Conversion.{Input, paper_end}
use Rattle.convert.specs.Routing.{Routed}
use Rattle.convert.specs.Later.{Circuit, converted, LaterCall, call_frame, call_single, call_product, call_rotate, call_measure, call_conditional, call_expand, call_hermitian, call_weights}
use Rattle.convert.specs.Later.{lend_operations, later, laters, gates_of}
use Rattle.operators.specs.Types.{Cap, FramePushedMade, FramePushedRefused, PushedMade, PushedRefused, MeasuredMade, MeasuredRefused}
use Rattle.operators.specs.Operators.{Operators}
use Rattle.operators.specs.Textbook.{record_operator, circuit_operator}
use Rattle.operators.specs.Whole.{operations_of, operations_operator, Performs}

-- what a word stands for in a circuit
abbrev pub image_of : Circuit → ℕ → Row
image_of s w = image s.header.qubits s.header.nodes s.nodes w

-- the operation that an accepted call pushes, along the image that its word has then; all else, refused calls too, pushes nothing
unfoldable pub pushed_by : LaterCall → Circuit → List Operation
pushed_by (call_frame k a b) s = []
pushed_by (call_single q a) s = []
pushed_by (call_product l r) s = []
pushed_by (call_rotate x k) s =
    elim (rotate_step s.header s.operations x k).answer [ PushedMade h ↦ rotate_by (eighths_of k) (image_of s x.0.word) ∷ [] | PushedRefused e ↦ [] ]
pushed_by (call_measure x t) s =
    elim (measure_step s.header s.operations x t).answer [ MeasuredMade h m ↦ measure_of (image_of s x.0.word) m.1 t ∷ [] | MeasuredRefused e ↦ [] ]
pushed_by (call_conditional x k m) s =
    elim (conditional_step s.header s.operations x k m).answer [ PushedMade h ↦ conditional_by (eighths_of k) (image_of s x.0.word) m.1 ∷ [] | PushedRefused e ↦ [] ]
pushed_by (call_expand letters scratch pool r cells) s = []
pushed_by (call_hermitian scratch pool r limit) s = []
pushed_by (call_weights scratch pool limit) s = []
pushed_by (lend_operations words) s = []

unfoldable pub pushed : List LaterCall → Circuit → List Operation
pushed [] s = []
pushed (c ∷ cs) s = pushed_by c s ++ pushed cs (later c s)

-- operations that name no gate record, since they are added by hand (document 02, E2)
abbrev pub by_hand : List Operation → List (From Operation)
by_hand os = map (from hand_mark) os

-- an operation that was not added by hand is routed under the cap (document 02, E6)
abbrev pub RoutedUnlessByHand : Cap → From Operation → Type 0
RoutedUnlessByHand cap o = o.index ≢ hand_mark → Routed cap o.what

-- an operation at the circuit's end, after the frame gates gs = U: along U P U†. Of the image of a frame place that is the place's own X or Z.
abbrev pub at_end : List Gate → Operation → Operation
at_end gs (rotate_by k P) = rotate_by k (forward gs P)
at_end gs (measure_of P m b) = measure_of (forward gs P) m b
at_end gs (conditional_by k P m) = conditional_by k (forward gs P) m
at_end gs malformed = malformed

-- what a call does at the circuit's end: an accepted frame gate is the gate of a textbook with that number, any other call what it pushes
unfoldable pub call_operator : {n : ℕ} (O : Operators n) → (ℕ → Bool) → List Gate → LaterCall → Circuit → O.Op
call_operator O outcome gs (call_frame k a b) s =
    elim (clifford_step s.header s.nodes s.frame k a b).answer
    [ FramePushedMade h ↦ record_operator O outcome 0 (record { kind = k; a = a; b = b; c = 0 }) | FramePushedRefused e ↦ O.one ]
call_operator O outcome gs (call_single q a) s = O.one
call_operator O outcome gs (call_product l r) s = O.one
call_operator O outcome gs (call_rotate x k) s = operations_operator O outcome (map (at_end gs) (pushed_by (call_rotate x k) s))
call_operator O outcome gs (call_measure x t) s = operations_operator O outcome (map (at_end gs) (pushed_by (call_measure x t) s))
call_operator O outcome gs (call_conditional x k m) s = operations_operator O outcome (map (at_end gs) (pushed_by (call_conditional x k m) s))
call_operator O outcome gs (call_expand letters scratch pool r cells) s = O.one
call_operator O outcome gs (call_hermitian scratch pool r limit) s = O.one
call_operator O outcome gs (call_weights scratch pool limit) s = O.one
call_operator O outcome gs (lend_operations words) s = O.one

-- calls, the first first, where gs are the frame gates since the last flush
unfoldable pub after_operator : {n : ℕ} (O : Operators n) → (ℕ → Bool) → List Gate → List LaterCall → Circuit → O.Op
after_operator O outcome gs [] s = O.one
after_operator O outcome gs (c ∷ cs) s = O.times (after_operator O outcome (gs ++ gates_of c s) cs (later c s)) (call_operator O outcome gs c s)

-- the circuit and then the calls
abbrev pub circuit_and_calls : (x : Input) (O : Operators x.qubits) → (ℕ → Bool) → List LaterCall → O.Op
circuit_and_calls x O outcome cs = O.times (after_operator O outcome (bare (paper_end x).since) cs (converted x)) (circuit_operator O outcome 0 (records x.gates))

-- they are the conversion's operations, then those that the calls pushed, then the frame as the calls leave it
abbrev pub After : (x : Input) → List LaterCall → Operators x.qubits → (ℕ → Bool) → Type 0
After x cs O outcome = Performs O outcome (circuit_and_calls x O outcome cs) (operations_of (converted x) ++ pushed cs (converted x)) (laters cs (converted x))

-- and so they are what the words say that the calls leave
abbrev pub AfterWords : (x : Input) → List LaterCall → Operators x.qubits → (ℕ → Bool) → Type 0
AfterWords x cs O outcome = Performs O outcome (circuit_and_calls x O outcome cs) (operations_of (laters cs (converted x))) (laters cs (converted x))
