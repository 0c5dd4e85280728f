-- `Walk::begin` meets its contract: the reachable nodes are counted, and the charge passes or not.
use Rattle.arena.proofs.Steps.Roots.{counting, begin_dear, begun}
use Rattle.arena.proofs.materialize.Walk.begin.Goals as goal

pub scan_uses-reached-requires : goal.scan_uses-reached-requires
scan_uses-reached-requires c = counting c.requires

pub returns-then-limit-roots-clause-says : goal.returns-then-limit-roots-clause-says
returns-then-limit-roots-clause-says c =
    let scan-uses = c.scan_uses-reached in
    λ g. begin_dear g (scan-uses.ensures.counted_up (counting g)) scan-uses.ensures.values_kept.0 scan-uses.auto.s c.args.self.now.limit c.if-limit-roots.true

pub returns-clause-says : goal.returns-clause-says
returns-clause-says c =
    let scan-uses = c.scan_uses-reached in
    λ g. begun g (scan-uses.ensures.counted_up (counting g)) scan-uses.ensures.values_kept.0 scan-uses.auto.s c.args.self.now.limit c.init-free.ensures
    c.room_of-room.ensures c.if-limit-roots.false
