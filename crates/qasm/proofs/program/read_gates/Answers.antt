use Rattle.std.proofs.Common.{rules, ap, sym, ◌∙◌, ◌≡◌, Ok, length}
use Rattle.qasm.specs.Reading.{from_gates}
use Rattle.qasm.specs.Code.Rest.{tally_of}
use Rattle.qasm.proofs.Passes.{full_value, full_words, whole_value, whole_words}
use Rattle.qasm.proofs.program.read_gates.Goals as goal

pub returns-then-gates-count-clause-value : goal.returns-then-gates-count-clause-value
unfolding from_gates
returns-then-gates-count-clause-value c =
    let is : c.count_gates.result ≡ Ok c.in_ok-count.count = search rules in
    full_value c.args.bytes c.args.q.size c.args.c.size _ c.in_ok-count.count (length c.args.gates.now) (ap tally_of (sym is) ∙ c.count_gates.ensures c.args.bytes c.requires) c.if-gates-count.true

pub returns-then-gates-count-clause-gates_after : goal.returns-then-gates-count-clause-gates_after
unfolding from_gates
returns-then-gates-count-clause-gates_after c =
    let is : c.count_gates.result ≡ Ok c.in_ok-count.count = search rules in
    full_words c.args.bytes c.args.q.size c.args.c.size _ c.in_ok-count.count c.args.gates.now (ap tally_of (sym is) ∙ c.count_gates.ensures c.args.bytes c.requires) c.if-gates-count.true

pub returns-clause-value : goal.returns-clause-value
unfolding from_gates
returns-clause-value c =
    let is : c.count_gates.result ≡ Ok c.in_ok-count.count = search rules in
    whole_value c.args.bytes c.args.q.size c.args.c.size _ c.in_ok-count.count (length c.args.gates.now) (ap tally_of (sym is) ∙ c.count_gates.ensures c.args.bytes c.requires) c.if-gates-count.false

pub returns-clause-gates_after : goal.returns-clause-gates_after
unfolding from_gates
returns-clause-gates_after c =
    let is : c.count_gates.result ≡ Ok c.in_ok-count.count = search rules in
    whole_words c.args.bytes c.args.q.size c.args.c.size _ c.in_ok-count.count c.args.gates.now _ (ap tally_of (sym is) ∙ c.count_gates.ensures c.args.bytes c.requires) c.if-gates-count.false
    (λ gs e n. c.write_gates.ensures c.args.bytes gs e n)
