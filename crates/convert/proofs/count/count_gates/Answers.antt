use native.Mathlib.Omega.{arith}
use mathlib.Core.Path.{refl, ◌∙◌}
use denote.Param.{number}
use Rattle.convert.specs.contracts.count.count_gates.{NARROW-type}
use Rattle.convert.specs.Records.{AtMost}
use Rattle.convert.proofs.Counts.Parts.{part_fits, first_in, next_in, next_up}
use Rattle.convert.proofs.Counts.Rest.{few_cost, count_more, count_end}
use Rattle.convert.proofs.count.count_gates.Goals as goal

pub overflow_mul-end : goal.overflow_mul-end
overflow_mul-end g c = omega (arith, c.requires.few)

pub loop-p-init : goal.loop-p-init
loop-p-init g c = (first_in (NARROW-type (number g.row.NARROW)) c.args.gates.now, refl, refl, c.requires.count_at)

pub part_at-gate-requires : goal.part_at-gate-requires
part_at-gate-requires g c = c.loop-p.invariant.0 c.loop-p-test.true

pub decide-flushed-requires : goal.decide-flushed-requires
decide-flushed-requires g c =
    let inv = c.loop-p.invariant in
    let read = c.part_at-gate.ensures in
    record {
      all_proper = rw (inv.1, read.kind, read.operands.0, read.operands.1, read.operands.2)
          (part_fits c.args.planes.now.qubits (NARROW-type (number g.row.NARROW)) c.args.gates.now c.requires.fits c.loop-p.p (inv.0 c.loop-p-test.true)).each;
    }

pub add-k-requires-clause-joints_bound : goal.add-k-requires-clause-joints_bound
add-k-requires-clause-joints_bound g c =
    let inv = c.loop-p.invariant in
    (omega (arith, inv.3.few.0, c.loop-p-test.true, c.requires.few), omega (arith, inv.3.few.1, c.loop-p-test.true, c.requires.few))

pub add-k-requires-clause-joints_bound_2 : goal.add-k-requires-clause-joints_bound_2
add-k-requires-clause-joints_bound_2 g c = few_cost c.part_at-gate.result.kind _ c.cost_of.ensures

pub position_after-p-requires : goal.position_after-p-requires
position_after-p-requires g c = (omega (arith, c.loop-p-test.true), c.requires.few)

pub loop-p-smaller : goal.loop-p-smaller
loop-p-smaller g c = omega (arith, c.loop-p-test.true, c.position_after-p.ensures, next_up (NARROW-type (number g.row.NARROW)) c.args.gates.now c.loop-p.p)

pub loop-p-preserved : goal.loop-p-preserved
loop-p-preserved g c =
    let a = c.args in
    let narrow = NARROW-type (number g.row.NARROW) in
    let inv = c.loop-p.invariant in
    let p = c.loop-p.p in
    let inside = inv.0 c.loop-p-test.true in
    let read = c.part_at-gate.ensures in
    let gate = c.part_at-gate.result in
    let decide = c.decide-flushed in
    let next = c.position_after-p.ensures in (
      rw next (next_in narrow a.gates.now p inside),
      decide.ensures.same.0 ∙ inv.1,
      decide.ensures.lent ∙ inv.2,
      count_more a.planes.now.qubits (AtMost a.most) narrow a.gates.now a.planes.now.words.now _ c.loop-p.k p gate.kind gate.a gate.b gate.d decide.result _ _ _ _ inv.3 inside
          (rw inv.1 at decide.ensures.after) c.cost_of.ensures c.add-k.ensures read.kind read.operands.0 read.operands.1 read.operands.2 next,
    )

pub returns-clause-value : goal.returns-clause-value
returns-clause-value g c =
    let a = c.args in
    (count_end a.planes.now.qubits (AtMost a.most) (NARROW-type (number g.row.NARROW)) a.gates.now _ _ _ c.loop-p.p c.loop-p.invariant.3 c.loop-p-test.false).0

pub returns-clause-after : goal.returns-clause-after
returns-clause-after g c =
    let a = c.args in
    (count_end a.planes.now.qubits (AtMost a.most) (NARROW-type (number g.row.NARROW)) a.gates.now _ _ _ c.loop-p.p c.loop-p.invariant.3 c.loop-p-test.false).1
