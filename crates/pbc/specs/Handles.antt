-- Handles of a line, `F W`: the owner's number with F added, modulo 2^64, and the reference word W.
use Rattle.std.specs.Prelude.{ℕ, ◌+◌, ◌%◌, ◌^◌, List, slice_index}
pub use Rattle.arena.specs.declared.pauli_ref.PauliRef.{PauliRef}

abbrev pub owner_at : ℕ → List ℕ → ℕ → ℕ
owner_at owner ws f = (owner + slice_index ws f) % 2 ^ 64

abbrev pub ref_of : ℕ → ℕ → PauliRef
ref_of owner word = record { owner = owner; word = word }

-- F and W at their places among the numbers
abbrev pub handle_at : ℕ → List ℕ → ℕ → ℕ → PauliRef
handle_at owner ws f w = ref_of (owner_at owner ws f) (slice_index ws w)
