use Rattle.std.proofs.Common.{◌≡◌, ◌++◌, take, drop}
use Rattle.qasm.specs.Reading.{taken, left}
use Rattle.qasm.proofs.word.split_run.Given as goal

abbrev pub invariant-loop-size : goal.invariant-loop-size
invariant-loop-size o l = (taken o.C.Class.class l.text ≡ take l.size l.text ++ taken o.C.Class.class (drop l.size l.text)) × (left o.C.Class.class l.text ≡ left o.C.Class.class (drop l.size l.text))
