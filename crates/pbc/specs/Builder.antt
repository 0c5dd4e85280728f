-- What the commands that add to the current circuit answer, and what they leave in the buffer that they write.
use Rattle.std.specs.Prelude.{ℕ, cond, List, ◌++◌, take, drop, nat_lt, slice_index}
use Rattle.pauli.specs.Angle.{remainder8}
use Rattle.pauli.specs.Letters.{pauli_of}
use Rattle.arena.specs.References.{axis_of}
use Rattle.arena.specs.Operations.{meas_id, target_of}
use Rattle.arena.specs.Builder.{Step, single_step, product_step, rotate_step, measure_step, conditional_step}
use Rattle.pbc.specs.State.{CommandState, LineReply, Bad, Done, One, says_of, refused_of, headed_of}
use Rattle.pbc.specs.Lines.{Line, has_numbers, has_signed, signed_at}
use Rattle.pbc.specs.Handles.{owner_at, handle_at}
pub use Rattle.pauli.specs.declared.angle.PauliAngle.{PauliAngle}
pub use Rattle.arena.specs.declared.pauli_ref.PauliAxis.{PauliAxis}
pub use Rattle.arena.specs.Operations.{Target, Bit}
pub use Rattle.arena.specs.Builder.{Singled, SingledMade, SingledRefused, Multiplied, MultipliedMade, MultipliedRefused, Pushed, PushedMade, PushedRefused, Measured, MeasuredMade, MeasuredRefused}
pub use Rattle.pbc.specs.declared.builder.BuildCommand.TheVariants.{the_data as BuildCommand, Single, Product, Rotate, Measure, Conditional}

-- a call that is lent the first words of a buffer; the others stay
abbrev pub lent_step : {A : Type 0} → ℕ → List ℕ → (List ℕ → Step A (List ℕ)) → Step A (List ℕ)
lent_step count ws call = record { answer = (call (take count ws)).answer; words = (call (take count ws)).words ++ drop count ws }

-- `bad`, with the buffer as it was; or what a call's answer comes to
abbrev pub bad_step : CommandState → List ℕ → Step LineReply (List ℕ)
bad_step s ws = record { answer = says_of s Bad; words = ws }

abbrev pub told_step : {A : Type 0} → (A → LineReply) → Step A (List ℕ) → Step LineReply (List ℕ)
told_step reply step = record { answer = reply step.answer; words = step.words }

-- ---- answers of the calls

abbrev pub singled_line : CommandState → Singled → LineReply
singled_line s (SingledMade h axis) = headed_of s h (One axis.0.word)
singled_line s (SingledRefused e) = refused_of s e

abbrev pub multiplied_line : CommandState → Multiplied → LineReply
multiplied_line s (MultipliedMade h r) = headed_of s h (One r.word)
multiplied_line s (MultipliedRefused e) = refused_of s e

abbrev pub pushed_line : CommandState → Pushed → LineReply
pushed_line s (PushedMade h) = headed_of s h Done
pushed_line s (PushedRefused e) = refused_of s e

abbrev pub measured_line : CommandState → Measured → LineReply
measured_line s (MeasuredMade h m) = headed_of s h (One m.1)
measured_line s (MeasuredRefused e) = refused_of s e

-- ---- what the numbers of a line say

abbrev pub line_axis : ℕ → List ℕ → PauliAxis
line_axis owner ws = axis_of (handle_at owner ws 0 1)

abbrev pub angle_at : Line → List ℕ → PauliAngle
angle_at l ws = record { 0 = remainder8 (signed_at l ws 2) }

-- ---- the commands

unfoldable pub single_command : CommandState → Line → List ℕ → List ℕ → Step LineReply (List ℕ)
single_command s l ws nodes =
    cond (has_numbers l 2)
    (cond (nat_lt 3 (slice_index ws 1)) (bad_step s nodes)
    (told_step (singled_line s) (lent_step s.lends.nodes nodes (λ part. single_step s.header part (slice_index ws 0) (pauli_of (slice_index ws 1))))))
    (bad_step s nodes)

unfoldable pub product_command : CommandState → Line → List ℕ → List ℕ → Step LineReply (List ℕ)
product_command s l ws nodes =
    cond (has_numbers l 4)
    (told_step (multiplied_line s)
    (lent_step s.lends.nodes nodes (λ part. product_step s.header part (handle_at s.header.owner ws 0 1) (handle_at s.header.owner ws 2 3))))
    (bad_step s nodes)

unfoldable pub rotate_command : CommandState → Line → List ℕ → List ℕ → Step LineReply (List ℕ)
rotate_command s l ws operations =
    cond (has_signed l 3 2)
    (told_step (pushed_line s)
    (lent_step s.lends.operations operations (λ part. rotate_step s.header part (line_axis s.header.owner ws) (angle_at l ws))))
    (bad_step s operations)

unfoldable pub measure_command : CommandState → Line → List ℕ → List ℕ → Step LineReply (List ℕ)
measure_command s l ws operations =
    cond (has_numbers l 3)
    (told_step (measured_line s)
    (lent_step s.lends.operations operations (λ part. measure_step s.header part (line_axis s.header.owner ws) (target_of (slice_index ws 2)))))
    (bad_step s operations)

unfoldable pub conditional_command : CommandState → Line → List ℕ → List ℕ → Step LineReply (List ℕ)
conditional_command s l ws operations =
    cond (has_signed l 5 2)
    (told_step (pushed_line s)
    (lent_step s.lends.operations operations
    (λ part. conditional_step s.header part (line_axis s.header.owner ws) (angle_at l ws) (meas_id (owner_at s.header.owner ws 3) (slice_index ws 4)))))
    (bad_step s operations)

-- each writes one of the two buffers
pub record Built : Type 0 where
  pub reply : LineReply
  pub nodes : List ℕ
  pub operations : List ℕ

abbrev pub on_nodes : Step LineReply (List ℕ) → List ℕ → Built
on_nodes step operations = record { reply = step.answer; nodes = step.words; operations = operations }

abbrev pub on_operations : Step LineReply (List ℕ) → List ℕ → Built
on_operations step nodes = record { reply = step.answer; nodes = nodes; operations = step.words }

abbrev pub built : BuildCommand → CommandState → Line → List ℕ → (nodes operations : List ℕ) → Built
built Single s l ws nodes operations = on_nodes (single_command s l ws nodes) operations
built Product s l ws nodes operations = on_nodes (product_command s l ws nodes) operations
built Rotate s l ws nodes operations = on_operations (rotate_command s l ws operations) nodes
built Measure s l ws nodes operations = on_operations (measure_command s l ws operations) nodes
built Conditional s l ws nodes operations = on_operations (conditional_command s l ws operations) nodes
