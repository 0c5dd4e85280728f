use native.Mathlib.Omega.{arith}
use mathlib.Core.Path.{refl}
use denote.Param.{number}
use Rattle.convert.specs.contracts.flush.flush_gates.{NARROW-type}
use Rattle.convert.proofs.Counts.Parts.{next_up}
use Rattle.convert.proofs.Buffers.Flush.{flush_start, flush_one, flush_more, flush_end}
use Rattle.arena.specs.Limits.{max_qubits}
use Rattle.convert.proofs.flush.flush_gates.Goals as goal

pub loop-p-init : goal.loop-p-init
loop-p-init g c =
    let a = c.args in
    let narrow = NARROW-type (number g.row.NARROW) in
    (refl, refl, flush_start max_qubits narrow a.gates.now a.from a.to a.w0.nodes a.nodes.now a.w0.operations a.operations.now c.requires.flush_over c.requires.in_parts.0)

pub flush_record-w-requires : goal.flush_record-w-requires
flush_record-w-requires g c =
    let a = c.args in
    let read = c.part_at.ensures in
    rw (read.kind, read.operands.0, read.operands.1)
    (flush_one max_qubits (NARROW-type (number g.row.NARROW)) a.gates.now a.from a.to _ _ _ _ _ _ _ _ c.loop-p.p c.loop-p.invariant.2 c.loop-p-test.true c.requires.in_parts.1)

pub loop-p-smaller : goal.loop-p-smaller
loop-p-smaller g c = omega (arith, c.loop-p-test.true, c.position_after-p.ensures, next_up (NARROW-type (number g.row.NARROW)) c.args.gates.now c.loop-p.p)

pub loop-p-preserved : goal.loop-p-preserved
loop-p-preserved g c =
    let a = c.args in
    let the-loop = c.loop-p in
    let read = c.part_at.ensures in
    let done = c.flush_record-w in
    let d = rw (read.kind, read.operands.0, read.operands.1) at done.ensures in (
      omega (arith, done.auto, the-loop.invariant.0),
      omega (arith, done.auto, the-loop.invariant.1),
      flush_more max_qubits (NARROW-type (number g.row.NARROW)) a.gates.now a.from a.to _ _ _ _ _ _ _ _ the-loop.p the-loop.invariant.2 c.loop-p-test.true c.requires.in_parts.1 _ _ _ _ _ d
          (omega (arith, done.auto)) (omega (arith, done.auto)) c.position_after-p.ensures,
    )

pub returns : goal.returns
returns g c =
    let a = c.args in
    flush_end max_qubits (NARROW-type (number g.row.NARROW)) a.gates.now a.from a.to _ _ _ _ _ _ _ _ c.loop-p.p c.loop-p.invariant.2 c.loop-p-test.false
