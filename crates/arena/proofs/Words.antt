-- Words read back: kinds past the last, and the numbers in them.
use mathlib.Core.Path.{◌≡◌, refl, ap}
use mathlib.Core.Logic.{◌≢◌}
use Prim.Native.Nat.{ℕ, zero, suc, ◌-◌}
use native.Mathlib.Omega.{arith}
use Rattle.arena.specs.Nodes.{Malformed, decode_as}
use Rattle.arena.specs.Operations.{Bit, target_of, decode_op_as, Malformed as MalformedOp}

pub decode_as-rest : (k n i rest b : ℕ) → k ≢ 0 → k ≢ 1 → k ≢ 2 → decode_as k n i rest b ≡ Malformed
decode_as-rest zero n i rest b p q r = absurd (p refl)
decode_as-rest (suc zero) n i rest b p q r = absurd (q refl)
decode_as-rest (suc (suc zero)) n i rest b p q r = absurd (r refl)
decode_as-rest (suc (suc (suc k))) n i rest b p q r = refl

pub decode_op_as-rest : (k owner cbits angle w m t : ℕ) → k ≢ 0 → k ≢ 1 → k ≢ 2 → decode_op_as k owner cbits angle w m t ≡ MalformedOp
decode_op_as-rest zero owner cbits angle w m t p q r = absurd (p refl)
decode_op_as-rest (suc zero) owner cbits angle w m t p q r = absurd (q refl)
decode_op_as-rest (suc (suc zero)) owner cbits angle w m t p q r = absurd (r refl)
decode_op_as-rest (suc (suc (suc k))) owner cbits angle w m t p q r = refl

pub target_of_bit : (w : ℕ) → w ≢ 0 → Bit (w - 1) ≡ target_of w
target_of_bit zero p = absurd (p refl)
target_of_bit (suc w) p = ap Bit (omega arith)
