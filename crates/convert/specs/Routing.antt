-- E6 of document 02: what a conversion guarantees of the operations that it writes, for whoever routes them.
use Rattle.std.specs.Prelude.{◌≡◌, true, List, ◌%◌, ◌≤◌}
use Rattle.pauli.specs.Letters.{real}
use Rattle.pauli.specs.Rows.{Row, weight}
use Rattle.arena.specs.Readers.{Weights}
use Rattle.convert.specs.Types.{One}
use Rattle.convert.specs.Records.{Cap, NoCap, AtMost}
use Rattle.convert.specs.Plain.{Operation, rotate_by, measure_of, conditional_by, malformed}
use Rattle.convert.specs.Sources.{All}

-- no more letters other than I than the cap
abbrev pub Within : Cap → Row → Type 0
Within NoCap P = Unit {0}
Within (AtMost cap) P = weight P.letters ≤ cap

-- an axis that the cap is tested for: sign +1 or -1, and within the cap
abbrev pub Tested : Cap → Row → Type 0
Tested cap P = (real P.phase ≡ true) × Within cap P

-- an axis that a flush writes: there is a cap; sign +1, and at most two letters other than I, whatever the cap
abbrev pub Light : Cap → Row → Type 0
Light NoCap P = ⊥
Light (AtMost cap) P = (P.phase ≡ One) × (weight P.letters ≤ 2)

-- rotations by odd angles and measurements are tested, rotations by even angles light; nothing else is written
abbrev pub Routed : Cap → Operation → Type 0
Routed cap (rotate_by k P) = (k % 2 ≡ 1 → Tested cap P) × (k % 2 ≡ 0 → Light cap P)
Routed cap (measure_of P m b) = Tested cap P
Routed cap (conditional_by k P m) = ⊥
Routed cap malformed = ⊥

abbrev pub AllRouted : Cap → List Operation → Type 0
AllRouted cap os = All (Routed cap) os

-- the two numbers of a weight report on such operations
abbrev pub RoutedWeights : Cap → Weights → Type 0
RoutedWeights NoCap m = m.clifford ≡ 0
RoutedWeights (AtMost cap) m = (m.non_clifford ≤ cap) × (m.clifford ≤ 2)
