-- References (document 01): a word is 4 × node + phase, and a handle adds the owner's number.
use Rattle.std.specs.Prelude.{ℕ, ◌+◌, ◌*◌, ◌/◌, ◌%◌}
use Rattle.pauli.specs.Letters.{power, phase_number}
use Rattle.arena.specs.Types.{Phase, MinusOne}
pub use Rattle.arena.specs.declared.pauli_ref.PauliRef.{PauliRef}
pub use Rattle.arena.specs.declared.pauli_ref.PauliAxis.{PauliAxis}

abbrev pub node_in : ℕ → ℕ
node_in w = w / 4

abbrev pub phase_in : ℕ → Phase
phase_in w = power (w % 4)

-- the same node, with one more phase in front
abbrev pub scaled_word : Phase → ℕ → ℕ
scaled_word p w = 4 * (w / 4) + (w % 4 + phase_number p) % 4

abbrev pub scaled_ref : Phase → PauliRef → PauliRef
scaled_ref p r = record { owner = r.owner; word = scaled_word p r.word }

abbrev pub axis_of : PauliRef → PauliAxis
axis_of r = record { 0 = r }

abbrev pub negated_axis : PauliAxis → PauliAxis
negated_axis a = axis_of (scaled_ref MinusOne a.0)
