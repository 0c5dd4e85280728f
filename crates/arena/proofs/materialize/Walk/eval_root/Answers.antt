-- `Walk::eval_root` meets its contract: a node that is done is left alone, another is walked to.
use Rattle.arena.proofs.Steps.Runs.{root_done, started}
use Rattle.arena.proofs.materialize.Walk.eval_root.Goals as goal

pub returns-then-m-ne0-clause-says : goal.returns-then-m-ne0-clause-says
returns-then-m-ne0-clause-says c = λ g. root_done g c.value_of-m.ensures c.if-m-ne0.true

pub run_path-requires : goal.run_path-requires
run_path-requires c = started c.requires c.value_of-m.ensures c.if-m-ne0.false c.set_link.ensures

pub returns-clause-says : goal.returns-clause-says
returns-clause-says c = λ g. c.run_path.ensures.says (started g c.value_of-m.ensures c.if-m-ne0.false c.set_link.ensures)
