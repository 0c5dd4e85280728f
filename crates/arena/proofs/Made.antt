-- Two answers that are the same hold the same, and a refusal is handed on as it is.
use mathlib.Core.Path.{◌≡◌, sym, ap}
use mathlib.Core.Bool.{true, true≢false}
use Rattle.std.specs.Prelude.{Result, Ok, Err, is_err, IsErrAnd}
use Rattle.arena.specs.Errors.{PbcError}

pub made_same : {A B : Type 0} {x y : A} → ◌≡◌ {A = Result A B} (Ok x) (Ok y) → x ≡ y
made_same p = cc

-- what `?` hands on is the refusal itself
pub handed_on : {A : Type 0} {r : Result A PbcError} {e : PbcError} → (is_err r ≡ true) × IsErrAnd r (λ f. f ≡ e) → r ≡ Err e
handed_on {r = Ok x} h = absurd (true≢false (sym h.0))
handed_on {r = Err f} h = ap Err h.1
