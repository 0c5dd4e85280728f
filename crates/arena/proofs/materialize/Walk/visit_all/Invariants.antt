-- `Walk::visit_all` meets its contract: after i operations their axes are shown, visited and released.
use Rattle.arena.specs.Code.Results.{StillLent}
use Rattle.arena.specs.Code.Roots.{Weighing}
use Rattle.arena.proofs.Steps.Visits.{VisitAt}
use Rattle.arena.proofs.materialize.Walk.visit_all.Given as goal

abbrev pub invariant-loop-i : goal.invariant-loop-i
invariant-loop-i g l =
    ((r : Weighing l.fn.header l.initial.self.nodes.now l.operations l.initial.self.scratch.now l.initial.self.pool.now l.initial.self.limit l.initial.self.left)
    → VisitAt g.V.Visit.step g.V.Visit.Fits r l.initial.visitor l.visitor l.self.scratch.now l.self.pool.now l.self.left l.i) × StillLent l.initial.self l.self
