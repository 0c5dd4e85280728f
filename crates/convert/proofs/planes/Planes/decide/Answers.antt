use mathlib.Core.Path.{sym, ◌∙◌}
use Rattle.convert.proofs.Packed.Deciding.{valid_of, decided_untested, decided_tested}
use Rattle.convert.proofs.planes.Planes.decide.Goals as goal

pub record-requires : goal.record-requires
record-requires c =
    let args = c.args in
    valid_of args.self.now.qubits args.gate.kind args.gate.a args.gate.b args.gate.d c.requires.all_proper

pub returns-then-tests-eq0-clause-after : goal.returns-then-tests-eq0-clause-after
returns-then-tests-eq0-clause-after c =
    let args = c.args in
    let p = args.self.now in
    decided_untested p.qubits p.width args.most args.gate.kind args.gate.a args.gate.b args.gate.d p.words.now _ p.parts c.requires.all_proper (sym c.tests.ensures ∙ c.if-tests-eq0.true) c.record.ensures.0

pub returns-clause-after : goal.returns-clause-after
returns-clause-after c =
    let args = c.args in
    let p = args.self.now in
    decided_tested p.qubits p.width args.most args.gate.kind args.gate.a args.gate.b args.gate.d p.words.now c.heavy-flushed.result _ p.parts
    c.requires.all_proper (λ e. c.if-tests-eq0.false (c.tests.ensures ∙ e)) c.heavy-flushed.ensures c.refresh.ensures.after
