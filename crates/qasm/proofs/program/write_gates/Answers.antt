use Rattle.std.proofs.Common.{arith, ap, sym, refl, ◌∙◌, ◌≡◌, ◌*◌}
use Rattle.qasm.specs.Reading.{got, take_gate}
use Rattle.qasm.specs.Code.Rest.{gate_of, record_in}
use Rattle.qasm.proofs.Passes.{no_gate, next_gate, written_on, written_all}
use Rattle.qasm.proofs.program.write_gates.Goals as goal

pub returns-in_default : goal.returns-in_default
returns-in_default c = λ f gs e n. absurd (no_gate c.args.names.q.now c.args.names.c.now c.loop-i.rest.now f c.loop-i.i gs (omega (arith, n, c.loop-i-test.true)) (c.loop-i.invariant f gs e n).0
    (sym c.take_gate.ensures ∙ ap gate_of c.in_default.is))

pub loop-i-preserved : goal.loop-i-preserved
loop-i-preserved c = λ f gs e n.
    let taken : take_gate c.args.names.q.now c.args.names.c.now c.loop-i.rest.now ≡ got (record_in c.in-Some.gate) c.in-Some.after.now = sym c.take_gate.ensures ∙ ap gate_of c.in-Some.is in
    let next = next_gate c.args.names.q.now c.args.names.c.now c.loop-i.rest.now c.in-Some.after.now f c.loop-i.i (record_in c.in-Some.gate) gs (omega (arith, n, c.loop-i-test.true)) (c.loop-i.invariant f gs e n).0 taken in (
      next.1,
      c.put_gate.ensures ∙ written_on gs c.loop-i.i (4 * c.loop-i.i) c.args.gates.now c.loop-i.gates (record_in c.in-Some.gate) (omega (arith, n, c.loop-i-test.true)) next.0
          (omega (arith, c.loop-i.auto.gates, c.requires, c.loop-i-test.true)) refl (c.loop-i.invariant f gs e n).1,
    )

pub returns : goal.returns
returns c = λ f gs e n. written_all gs c.loop-i.i c.args.count c.args.gates.now c.loop-i.gates n (omega (arith, c.loop-i-test.false, c.loop-i.auto.i-end)) (c.loop-i.invariant f gs e n).1
