-- The gates from a position on.
use Rattle.std.specs.Prelude.{Bool, List, ℕ, ◌/◌, ◌%◌, drop}
use Rattle.convert.specs.Records.{Elementary, Placed, records, lower_from}

-- the elementary gates from a position on
abbrev pub rest_of : (narrow : Bool) → List ℕ → ℕ → List (Placed Elementary)
rest_of narrow gs p = drop (p % 16) (lower_from narrow (p / 16) (drop (p / 16) (records gs)))
