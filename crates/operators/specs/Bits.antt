-- The classical bits that measurements write to, which no operator shows: of a circuit's records, and of operations.
use Rattle.std.specs.Prelude.{cond, List, [], ◌∷◌, ◌++◌, eqb}
use Rattle.convert.specs.Records.{Record}
use Rattle.convert.specs.Plain.{Operation, rotate_by, measure_of, conditional_by, malformed}
use Rattle.operators.specs.Types.{Target, Bit}

-- number 12 has its bit in the second operand
abbrev pub record_bits : List Record → List Target
record_bits [] = []
record_bits (r ∷ rs) = cond (eqb r.kind 12) (Bit r.b ∷ []) [] ++ record_bits rs

abbrev pub operation_bits : List Operation → List Target
operation_bits [] = []
operation_bits (rotate_by k P ∷ os) = operation_bits os
operation_bits (measure_of P m t ∷ os) = t ∷ operation_bits os
operation_bits (conditional_by k P m ∷ os) = operation_bits os
operation_bits (malformed ∷ os) = operation_bits os
