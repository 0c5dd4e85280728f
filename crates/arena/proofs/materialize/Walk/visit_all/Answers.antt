-- `Walk::visit_all` meets its contract: after i operations their axes are shown, visited and released.
use mathlib.Core.Path.{refl, ap, ◌∙◌}
use native.Mathlib.Omega.{arith}
use Rattle.arena.specs.Code.Results.{out_of, left_after}
use Rattle.arena.proofs.Made.{handed_on}
use Rattle.arena.proofs.Steps.Weights.{axis_rooted}
use Rattle.arena.proofs.Steps.Visits.{visit_begin, visit-refused, visit_turn, visit_end, visited_at}
use Rattle.arena.proofs.materialize.Walk.visit_all.Goals as goal

pub loop-i-init : goal.loop-i-init
loop-i-init g c = (λ r. visit_begin g.V.Visit.step g.V.Visit.Fits r c.args.visitor.now c.requires.2, (refl, refl, refl, refl, refl, refl, refl))

pub visit_root-requires : goal.visit_root-requires
visit_root-requires g c =
    let a = c.loop-i.invariant.0 c.requires.1 in (
      rw (c.loop-i.invariant.1.0, c.loop-i.invariant.1.1 ∙ c.requires.0, c.loop-i.invariant.1.2) (axis_rooted c.requires.1 a.rest c.loop-i-test.true
          (c.axis_word-w.ensures c.args.header (c.requires.1.sound _ c.loop-i-test.true))),
      a.fits _ c.loop-i-test.true,
    )

pub returns-in_err-visit_root-clause-says : goal.returns-in_err-visit_root-clause-says
returns-in_err-visit_root-clause-says g c =
    λ r. let a = c.loop-i.invariant.0 r in
    let word = c.axis_word-w.ensures c.args.header (r.sound _ c.loop-i-test.true) in
    let says = visited_at c.loop-i.invariant.1.0 (c.loop-i.invariant.1.1 ∙ c.requires.0) c.loop-i.invariant.1.2 c.visit_root.ensures.says (axis_rooted r a.rest c.loop-i-test.true word) in
    rw (handed_on c.from_residual.ensures) (visit-refused g.V.Visit.step g.V.Visit.Fits r c.args.visitor.now a c.loop-i-test.true word says
    (ap (λ q. out_of (left_after q c.visit_root.new.self.left)) c.in_err-visit_root.was))

pub loop-i-preserved : goal.loop-i-preserved
loop-i-preserved g c = (
  λ r. let a = c.loop-i.invariant.0 r in
      let word = c.axis_word-w.ensures c.args.header (r.sound _ c.loop-i-test.true) in
      let says = visited_at c.loop-i.invariant.1.0 (c.loop-i.invariant.1.1 ∙ c.requires.0) c.loop-i.invariant.1.2 c.visit_root.ensures.says (axis_rooted r a.rest c.loop-i-test.true word) in
      visit_turn g.V.Visit.step g.V.Visit.Fits r c.args.visitor.now a c.loop-i-test.true word says (ap (λ q. out_of (left_after q c.visit_root.new.self.left)) c.in_ok-visit_root.was)
      c.visit_root.ensures.fits (c.visit_root.ensures.lent.5 ∙ a.long) (c.visit_root.ensures.lent.6 ∙ a.pool_long),
  search,
)

pub returns-clause-says : goal.returns-clause-says
returns-clause-says g c = λ r. visit_end g.V.Visit.step g.V.Visit.Fits r c.args.visitor.now (c.loop-i.invariant.0 r) (omega (arith, c.loop-i-test.false))
