-- `check_pair` meets its contract, check by check.
use mathlib.Core.Path.{◌∙◌}
use Rattle.arena.proofs.Made.{handed_on}
use Rattle.convert.specs.Types.{Fine, Wrong}
use Rattle.convert.proofs.GateKinds.Checks.{stopped, pair_checked}
use Rattle.convert.proofs.checks.check_pair.Goals as goal

pub returns-in_err-check_operand : goal.returns-in_err-check_operand
returns-in_err-check_operand c =
    let a = c.args in
    let e = c.in_err-check_operand.field-0.0 in
    handed_on c.from_residual.ensures ∙ pair_checked a.n a.i a.a a.b 0 (Wrong e) (Wrong e) (Wrong e) c.in_err-check_operand.ensures (stopped e _ _) (stopped e _ _)

pub returns-in_err-check_operand-2 : goal.returns-in_err-check_operand-2
returns-in_err-check_operand-2 c =
    let a = c.args in
    let e = c.in_err-check_operand-2.field-0.0 in
    handed_on c.from_residual-in_err-check_operand-2.ensures ∙ pair_checked a.n a.i a.a a.b 0 Fine (Wrong e) (Wrong e) c.in_ok-check_operand.ensures c.in_err-check_operand-2.ensures (stopped e _ _)

pub returns : goal.returns
returns c =
    let a = c.args in
    pair_checked a.n a.i a.a a.b 0 Fine Fine _ c.in_ok-check_operand.ensures c.in_ok-check_operand-2.ensures c.refuse_if.ensures
