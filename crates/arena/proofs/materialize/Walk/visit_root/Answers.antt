-- `Walk::visit_root` meets its contract: the root shown, visited, then released.
use mathlib.Core.Path.{refl, ap}
use Rattle.arena.specs.Code.Results.{out_of, with_left}
use Rattle.arena.proofs.Made.{handed_on}
use Rattle.arena.proofs.Steps.Weights.{to-release}
use Rattle.arena.proofs.Steps.Axes.{row-refused, to_fill}
use Rattle.arena.proofs.Steps.Visits.{shown, shown-phase, root_visited}
use Rattle.arena.proofs.materialize.Walk.visit_root.Goals as goal

pub show_root-requires : goal.show_root-requires
show_root-requires g c = c.requires.0

pub visit-requires : goal.visit-requires
visit-requires g c = (to_fill c.args.w c.requires.0 (c.show_root.ensures.says c.requires.0) (ap (λ q. out_of (with_left q c.show_root.new.self.left)) c.in_ok-v.was), c.requires.1)

pub release-requires : goal.release-requires
release-requires g c = to-release c.args.w c.requires.0 (c.show_root.ensures.says c.requires.0) (ap (λ q. out_of (with_left q c.show_root.new.self.left)) c.in_ok-v.was)

pub returns-in_err-v-clause-says : goal.returns-in_err-v-clause-says
returns-in_err-v-clause-says g c = λ r. rw (handed_on c.from_residual.ensures) (row-refused c.args.w r (c.show_root.ensures.says r)
    (ap (λ q. out_of (with_left q c.show_root.new.self.left)) c.in_err-v.was))

pub returns-clause-says : goal.returns-clause-says
returns-clause-says g c =
    λ r. let o = c.show_root.ensures.says r in
    let z = ap (λ q. out_of (with_left q c.show_root.new.self.left)) c.in_ok-v.was in
    root_visited c.args.w r o z _ c.args.index (c.visit.ensures.after (to_fill c.args.w r o z) (shown c.args.w r o z) refl (shown-phase c.args.w r o z))
    (c.release.ensures.says (to-release c.args.w r o z))
