use native.Mathlib.Omega.{arith}
use mathlib.Core.Path.{◌≡◌, refl, ◌∙◌}
use Rattle.convert.proofs.Packed.Since.{mended_none, mended_more, mended_all}
use Rattle.convert.proofs.planes.Planes.restore_since.Goals as goal

pub loop-i-init : goal.loop-i-init
loop-i-init c =
    let a = c.args in
    let p = a.self.now in
    (refl, refl, refl, mended_none p.qubits p.width p.words.now a.gates.now a.from _ (omega arith))

pub loop-i-preserved : goal.loop-i-preserved
loop-i-preserved c =
    let a = c.args in
    let p = a.self.now in
    let at = c.loop-i.invariant in
    let one = c.restore.ensures in
    let two = c.restore-in-loop-i.ensures in (
      two.same.0 ∙ one.same.0 ∙ at.0,
      two.same.1 ∙ one.same.1 ∙ at.1,
      two.lent ∙ one.lent ∙ at.2,
      mended_more p.qubits p.width (omega (arith, p.parts)) p.words.now a.gates.now p.room a.from c.loop-i.i _ _ _ (omega arith) at.3
          (rw (at.0, at.1, c.gate_at-gate.ensures.operands.0) at one.after) (rw (one.same.0, one.same.1, at.0, at.1, c.gate_at-gate.ensures.operands.1) at two.after),
    )

pub returns-clause-after : goal.returns-clause-after
returns-clause-after c =
    let a = c.args in
    let p = a.self.now in
    let at = c.loop-i in
    let end : at.i ≡ a.to = omega (arith, c.requires.from_le_to) in
    mended_all p.qubits p.width (omega (arith, p.parts)) p.words.now a.gates.now p.room a.from _ _ (omega (arith, p.parts)) (rw end at at.invariant.3) c.requires.since
