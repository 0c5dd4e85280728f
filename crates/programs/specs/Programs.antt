-- What a conversion is given by the text: the records that the text says, each of the kind that its name stands for.
use Rattle.std.specs.Prelude.{◌≡◌, List, [], ◌∷◌, map, ℕ, ◌≤◌, length}
use Rattle.arena.specs.Errors.{refusal_in}
use Rattle.qasm.specs.Names.{gate_names}
use Rattle.qasm.specs.Text.{Record}
use Rattle.convert.specs.Records.{Record as GateRecord, records, kind_of, shape_of, shape_number}
use Rattle.convert.specs.Conversion.{Input, convert_step}
use Rattle.programs.specs.Types.{Converted, ConvertedMade, ConvertedRefused, GateKind, KindH, KindX, KindZ, KindS, KindSdg, KindT, KindTdg, KindCnot, KindCz, KindCcx, KindMeasure, KindY, KindCy}

-- a gate of the text as the conversion reads it
abbrev pub gate_record : Record → GateRecord
gate_record g = record { kind = g.kind; a = g.a; b = g.b; c = g.c }

-- what the names stand for: h, x, y, z, s; sdg, t, tdg; cx, cy, cz, ccx
abbrev pub named_kinds : List GateKind
named_kinds = KindH ∷ KindX ∷ KindY ∷ KindZ ∷ KindS ∷ KindSdg ∷ KindT ∷ KindTdg ∷ KindCnot ∷ KindCy ∷ KindCz ∷ KindCcx ∷ []

-- the numbers of the kinds are the conversion's, and so are the numbers of qubits; 12 is a measurement
pub record Kinds : Type 0 where
  pub by_name : map (λ g. kind_of g.kind) gate_names ≡ named_kinds
  pub qubits : map (λ g. shape_number (shape_of (kind_of g.kind))) gate_names ≡ map (λ g. g.qubits) gate_names
  pub measure : kind_of 12 ≡ KindMeasure

-- the number of a conversion's refusal, 0 where it is accepted
abbrev pub refused_with : Converted → ℕ
refused_with (ConvertedMade h) = 0
refused_with (ConvertedRefused e) = (refusal_in e).number

-- a conversion of the gate words that the reader leaves, as many as it answers
pub record Carried (gs : List Record) (x : Input) : Type 0 where
  -- it has the gates that the text says
  pub same : records x.gates ≡ map gate_record gs
  -- all kinds are supported: no 5
  pub no_five : refused_with (convert_step x).answer ≡ 5 → ⊥
  -- the words are whole records: 2 only for more than 65,536 gates
  pub no_two : length gs ≤ 65536 → refused_with (convert_step x).answer ≡ 2 → ⊥
