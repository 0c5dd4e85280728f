-- A conversion in the making: what its steps leave, and how far it is.
use Rattle.std.specs.Prelude.{◌≡◌, List, ℕ, length}
use mathlib.Core.Path.{◌∙◌}
use Rattle.convert.specs.Records.{GateKind}
use Rattle.convert.specs.Code.Raw.{Room, Ran, record_gates, writing, put_record}
use Rattle.convert.specs.declared.converter.Converter.{Converter}

-- the same buffers, of the same lengths, the same gates, qubits and cap
abbrev pub Stays : Converter → Converter → Type 0
Stays s t =
    (t.nodes.ghost_name ≡ s.nodes.ghost_name) × (t.operations.ghost_name ≡ s.operations.ghost_name) × (t.frame.ghost_name ≡ s.frame.ghost_name) × (t.planes.ghost_name ≡ s.planes.ghost_name)
    × (t.qubits ≡ s.qubits) × (t.width ≡ s.width) × (t.cap ≡ s.cap)
    × (length t.nodes.now ≡ length s.nodes.now) × (length t.operations.now ≡ length s.operations.now) × (length t.frame.now ≡ length s.frame.now) × (length t.planes.now ≡ length s.planes.now)
    × (t.gates.now ≡ s.gates.now)

pub stays_on : (s t u : Converter) → Stays s t → Stays t u → Stays s u
stays_on s t u d e =
    (e.0 ∙ d.0, e.1 ∙ d.1, e.2 ∙ d.2, e.3 ∙ d.3, e.4 ∙ d.4, e.5 ∙ d.5, e.6 ∙ d.6, e.7 ∙ d.7, e.8 ∙ d.8, e.9 ∙ d.9, e.10 ∙ d.10, e.11 ∙ d.11)

-- what a record makes of the buffers: the frame images take up its gates, which leaves so many nodes, and then it writes what is no frame gate
pub record Did (n given gate : ℕ) (kind : GateKind) (a b d c : ℕ) (ns fs : List ℕ) (u : ℕ) (os : List ℕ) (c' : ℕ) (ns' fs' : List ℕ) (u' : ℕ) (os' : List ℕ) : Type 0 where
  pub count : ℕ
  pub nodes : List ℕ
  pub ran : Ran n (record_gates kind a b) c ns fs count nodes fs'
  pub sized : (length nodes ≡ length ns) × (length fs' ≡ length fs)
  pub wrote : writing c' ns' u' os' ≡ put_record n given gate kind a b d fs' (writing count nodes u os)

-- the needs fit
pub room_in : (s : Converter) → Room s.qubits s.cap s.gates.now s.nodes.now s.operations.now
room_in s = record { nodes = s.nodes_fit; nodes_lent = s.nodes_lent; operations = s.operations_fit; operations_lent = s.operations_lent }
