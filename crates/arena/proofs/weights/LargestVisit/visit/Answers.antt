-- `visit` meets its contract: the weight counts where the kind of the axis says so.
use mathlib.Core.Path.{ap, ap₂, sym, ◌∙◌}
use mathlib.Core.Bool.{Bool}
use Prim.Native.Nat.{ℕ}
use lib.ListN.{length}
use Rattle.arena.specs.Readers.{counts_non_clifford, counts_clifford, raised}
use Rattle.arena.proofs.weights.LargestVisit.visit.Goals as goal

pub returns-clause-after : goal.returns-clause-after
returns-clause-after c = λ g x e q.
    let v = c.args.self.now in
    let kind = c.kind_at-kind.ensures v.header c.requires.1 in
    let weight = g.counted ∙ sym (ap length e) in
    ap₂ (λ (a b : ℕ). record v { non_clifford = a; clifford = b })
    (c.raised-self.ensures ∙ ap₂ (λ (t : Bool) (k : ℕ). raised t k v.non_clifford) (c.counts_as_non_clifford-other.ensures ∙ ap counts_non_clifford kind) weight)
    (c.raised-self-2.ensures ∙ ap₂ (λ (t : Bool) (k : ℕ). raised t k v.clifford) (c.counts_as_clifford-even.ensures ∙ ap (counts_clifford v.zeros) kind) weight)
