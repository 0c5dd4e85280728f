-- `Walk::run_path` meets its contract: resuming the path from the words gives what is asked, at each turn.
use Rattle.arena.specs.Code.Results.{top_of, StillLent}
use Rattle.arena.specs.Code.WalkWords.{Started}
use Rattle.arena.proofs.Steps.Runs.{Going}
use Rattle.arena.proofs.materialize.Walk.run_path.Given as goal

abbrev pub invariant-loop-top : goal.invariant-loop-top
invariant-loop-top l =
    ((g : Started l.initial.self.nodes.now l.initial.self.scratch.now l.initial.self.pool.now l.initial.self.count l.initial.self.limit l.i l.initial.self.left)
    → Going g l.self.scratch.now l.self.pool.now l.self.left (top_of l.top) l.budget) × StillLent l.initial.self l.self

abbrev pub decreases-loop-top : goal.decreases-loop-top
decreases-loop-top l = l.budget
