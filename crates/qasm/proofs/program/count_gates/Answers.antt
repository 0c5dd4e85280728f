use Rattle.std.proofs.Common.{rules, arith, ap, sym, ◌∙◌, ◌≡◌, ◌<◌, ◌≤◌, ◌+◌, length}
use Rattle.qasm.specs.Reading.{got, failed, take_gate}
use Rattle.qasm.specs.Code.Rest.{gate_of, record_in}
use Rattle.qasm.proofs.Passes.{gate_shorter, counted, counted_bad, counted_all}
use Rattle.qasm.proofs.program.count_gates.Goals as goal

pub returns-then-is_empty : goal.returns-then-is_empty
returns-then-is_empty c =
    let none : length c.skip_blanks-here.result.now ≡ 0 = search rules in
    λ f h. sym (counted_all c.args.names.q.now c.args.names.c.now c.gates.rest.now c.gates.count f (ap length (sym c.skip_blanks-here.ensures.value) ∙ none) (c.gates.invariant.1 f h))

pub returns-in_default : goal.returns-in_default
returns-in_default c =
    let some : 0 < length c.skip_blanks-here.result.now = search rules in
    let room : c.gates.count + length c.gates.rest.now ≤ length c.args.text.now = c.gates.invariant.0 in
    let none : take_gate c.args.names.q.now c.args.names.c.now c.skip_blanks-here.result.now ≡ failed = search rules in
    λ f h. sym (counted_bad c.args.names.q.now c.args.names.c.now c.gates.rest.now c.skip_blanks-here.result.now c.gates.count f (omega (arith, room, h)) c.skip_blanks-here.ensures.shorter some
    c.skip_blanks-here.ensures.value none (c.gates.invariant.1 f h))

pub gates-smaller : goal.gates-smaller
gates-smaller c =
    let taken : got (record_in c.in-Some.field-0-0) c.in-Some.after.now ≡ take_gate c.args.names.q.now c.args.names.c.now c.skip_blanks-here.result.now = ap gate_of (sym c.in-Some.is) ∙ c.take_gate.ensures in
    let less : length c.in-Some.after.now < length c.skip_blanks-here.result.now = gate_shorter _ _ _ _ _ (sym taken) in
    omega (arith, less, c.skip_blanks-here.ensures.shorter)

pub gates-preserved : goal.gates-preserved
gates-preserved c =
    let taken : got (record_in c.in-Some.field-0-0) c.in-Some.after.now ≡ take_gate c.args.names.q.now c.args.names.c.now c.skip_blanks-here.result.now = ap gate_of (sym c.in-Some.is) ∙ c.take_gate.ensures in
    let less : length c.in-Some.after.now < length c.skip_blanks-here.result.now = gate_shorter _ _ _ _ _ (sym taken) in
    let room : c.gates.count + length c.gates.rest.now ≤ length c.args.text.now = c.gates.invariant.0 in
    let some : 0 < length c.skip_blanks-here.result.now = search rules in (
      omega (arith, less, c.skip_blanks-here.ensures.shorter, room),
      λ f h. counted c.args.names.q.now c.args.names.c.now c.gates.rest.now c.skip_blanks-here.result.now c.in-Some.after.now c.gates.count f (record_in c.in-Some.field-0-0) (omega (arith, room, h))
          c.skip_blanks-here.ensures.shorter some c.skip_blanks-here.ensures.value (sym taken) (c.gates.invariant.1 f h),
    )
