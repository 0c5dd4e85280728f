-- A record as a list of its four words.
use Rattle.std.specs.Prelude.{List, ℕ, get_or}
use Rattle.convert.specs.Records.{Record, record_of}

abbrev pub record_in : List ℕ → Record
record_in ws = record_of (get_or ws 0 0) (get_or ws 1 0) (get_or ws 2 0) (get_or ws 3 0)
