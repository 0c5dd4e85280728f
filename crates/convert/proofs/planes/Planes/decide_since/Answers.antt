-- A record is tested or has frame gates, never both.
use native.Mathlib.Omega.{arith}
use mathlib.Core.Path.{◌≡◌, sym, ◌∙◌}
use mathlib.Core.Bool.{false}
use Rattle.convert.specs.Code.Raw.{refreshed, tests_of}
use Rattle.convert.proofs.Packed.Since.{since_more}
use Rattle.convert.proofs.Packed.Deciding.{valid_of, decided_untested, decided_tested, run-tested}
use Rattle.convert.proofs.planes.Planes.decide_since.Goals as goal

pub record-requires : goal.record-requires
record-requires g c =
    let a = c.args in
    valid_of a.self.now.qubits a.gate.kind a.gate.a a.gate.b a.gate.d c.requires.all_proper

pub returns-then-tests-eq0-clause-decided : goal.returns-then-tests-eq0-clause-decided
returns-then-tests-eq0-clause-decided g c =
    let a = c.args in
    let p = a.self.now in
    decided_untested p.qubits p.width a.most a.gate.kind a.gate.a a.gate.b a.gate.d p.words.now _ p.parts c.requires.all_proper (sym c.tests.ensures ∙ c.if-tests-eq0.true) c.record.ensures.0

pub returns-then-tests-eq0-clause-since_2 : goal.returns-then-tests-eq0-clause-since_2
returns-then-tests-eq0-clause-since_2 g c =
    let a = c.args in
    let p = a.self.now in
    let r = c.requires.from_le_to in
    λ off. since_more p.qubits p.width (omega (arith, p.parts)) a.gates.now a.gate.kind a.to false a.gate.a a.gate.b a.from p.words.now _ p.room
    (r.0 off) (r.2 off).0 (r.2 off).1 (c.requires.since off) c.record.ensures.0

pub refresh_since-requires-clause-from_le_to : goal.refresh_since-requires-clause-from_le_to
refresh_since-requires-clause-from_le_to g c =
    let r = c.requires.from_le_to in
    (r.0, omega (arith, r.1))

pub refresh_since-requires-clause-since : goal.refresh_since-requires-clause-since
refresh_since-requires-clause-since g c = c.requires.since

pub returns-clause-decided : goal.returns-clause-decided
returns-clause-decided g c =
    let a = c.args in
    let p = a.self.now in
    let tested : tests_of a.gate.kind ≡ 0 → ⊥ = λ e. c.if-tests-eq0.false (c.tests.ensures ∙ e) in
    decided_tested p.qubits p.width a.most a.gate.kind a.gate.a a.gate.b a.gate.d p.words.now c.heavy-flushed.result _ p.parts c.requires.all_proper tested
    c.heavy-flushed.ensures c.refresh_since.ensures.after

pub returns-clause-since_2 : goal.returns-clause-since_2
returns-clause-since_2 g c =
    let a = c.args in
    let p = a.self.now in
    let r = c.requires.from_le_to in
    let f = c.heavy-flushed.result in
    let tested : tests_of a.gate.kind ≡ 0 → ⊥ = λ e. c.if-tests-eq0.false (c.tests.ensures ∙ e) in
    λ off. since_more p.qubits p.width (omega (arith, p.parts)) a.gates.now a.gate.kind a.to f a.gate.a a.gate.b a.from p.words.now _
    p.room (r.0 off) (r.2 off).0 (r.2 off).1 (c.requires.since off)
    (c.refresh_since.ensures.after ∙ run-tested p.width a.gate.kind a.gate.a a.gate.b (refreshed f p.qubits p.width p.words.now) tested)
