-- What the conversion and the frame gate return to C, and what they leave in the slices lent.
use Rattle.std.specs.Prelude.{cond, List, ℕ, ltb}
use Rattle.arena.specs.Builder.{Step, NodesAndFrame}
use Rattle.convert.specs.Frame.{clifford_step}
use Rattle.convert.specs.Conversion.{Input, input_of, ConvertStep, convert_step}
use Rattle.exports.specs.Types.{Converted, Cap, NoCap, AtMost}
use Rattle.exports.specs.Words.{header_in, Returned}
use Rattle.exports.specs.Exports.{header_reply, Headed, lent_words, exported}

unfoldable pub clifford_call : (header nodes frame : List ℕ) → (kind a b : ℕ) → (answer : List ℕ) → Returned (Headed NodesAndFrame)
clifford_call header nodes frame kind a b answer =
    exported header answer (lent_words nodes frame) header_reply
    (clifford_step (header_in header) nodes frame kind a b)

-- ---- conversion

-- a number that does not fit into 32 bits is no cap
unfoldable pub cap_in : ℕ → Cap
cap_in n = cond (ltb n 4294967296) (AtMost n) NoCap

-- the words that a conversion may write
pub record ConvertLent : Type 0 where
  pub nodes : List ℕ
  pub operations : List ℕ
  pub frame : List ℕ
  pub planes : List ℕ

abbrev pub convert_words : (nodes operations frame planes : List ℕ) → ConvertLent
convert_words nodes operations frame planes = record { nodes = nodes; operations = operations; frame = frame; planes = planes }

abbrev pub convert_left : ConvertStep → Step Converted ConvertLent
convert_left s = record { answer = s.answer; words = convert_words s.nodes s.operations s.frame s.planes }

abbrev pub input_in : (qubits cbits owner cap : ℕ) → (gates nodes operations frame planes : List ℕ) → Input
input_in qubits cbits owner cap gates nodes operations frame planes = input_of qubits cbits owner (cap_in cap) gates nodes operations frame planes

unfoldable pub convert_call : (qubits cbits owner cap : ℕ) → (gates nodes operations frame planes header answer : List ℕ) → Returned (Headed ConvertLent)
convert_call qubits cbits owner cap gates nodes operations frame planes header answer =
    exported header answer (convert_words nodes operations frame planes) header_reply
    (convert_left (convert_step (input_in qubits cbits owner cap gates nodes operations frame planes)))
