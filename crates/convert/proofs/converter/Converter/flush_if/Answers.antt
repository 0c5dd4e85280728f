use native.Mathlib.Omega.{arith}
use mathlib.Core.Path.{◌∙◌}
use borrow.Author.Tests.{not-true, not-false}
use Rattle.arena.proofs.Overlay.{frame_started_lem}
use Rattle.convert.proofs.Buffers.Flush.{over_wider, not_flushed, is_flushed}
use Rattle.convert.proofs.converter.Converter.flush_if.Goals as goal

pub returns-then-not-flushed-clause-flushed_if : goal.returns-then-not-flushed-clause-flushed_if
returns-then-not-flushed-clause-flushed_if g c = λ k e. not_flushed c.args.self.now.qubits _ (not-true c.args.flushed c.if-not-flushed.true-raw)

pub overflow_cast-self : goal.overflow_cast-self
overflow_cast-self g c = omega (arith, c.args.self.now.few)

pub flush_gates-self-requires-clause-flush_over : goal.flush_gates-self-requires-clause-flush_over
flush_gates-self-requires-clause-flush_over g c = over_wider (c.requires.flush_over (not-false c.args.flushed c.if-not-flushed.false-raw))

pub flush_gates-self-requires-clause-in_parts : goal.flush_gates-self-requires-clause-in_parts
flush_gates-self-requires-clause-in_parts g c = (c.requires.in_parts.0, c.requires.in_parts.1, c.args.self.now.short)

pub returns-clause-flushed_if : goal.returns-clause-flushed_if
returns-clause-flushed_if g c =
    let args = c.args in
    let frame = c.start_frame.ensures ∙ frame_started_lem args.self.now.qubits args.self.now.frame.now c.args.self.now.few (omega (arith, c.args.self.now.images)) in
    λ k e. is_flushed args.self.now.qubits (not-false args.flushed c.if-not-flushed.false-raw) (c.flush_gates-self.ensures k e) frame
