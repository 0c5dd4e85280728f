-- `any_unused` meets its contract: of the words so far, whether one names an unused node.
use mathlib.Core.Path.{◌≡◌}
use Prim.Native.Nat.{◌/◌}
use lib.Dec.{leb}
use lib.ListN.{take}
use Rattle.std.specs.List.{list_any}
use Rattle.convert.proofs.checks.any_unused.Given as goal

abbrev pub invariant-loop-w : goal.invariant-loop-w
invariant-loop-w l = l.any ≡ list_any (λ w. leb l.used (w / 4)) (take l.w-index l.words)
