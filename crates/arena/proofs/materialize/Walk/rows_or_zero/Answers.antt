-- `Walk::rows_or_zero` meets its contract: the rows of an accepted walk, or zero.
use mathlib.Core.Path.{◌≡◌, refl, sym, ap, ◌∙◌}
use mathlib.Core.Bool.{true, false, true≢false}
use Prim.Native.Nat.{ℕ, ◌-◌}
use lib.ListN.{length, replicate}
use Rattle.std.specs.Prelude.{Result, Ok, Err, is_err}
use Rattle.arena.specs.Limits.{cap_of}
use Rattle.arena.specs.Errors.{PbcError}
use Rattle.arena.specs.Readers.{words_of}
use Rattle.arena.specs.Expansion.{expanded_axes_of, axes_size, rows_made}
use Rattle.arena.specs.Code.Results.{out_of}
use Rattle.arena.specs.Code.Roots.{axes_of}
use Rattle.arena.proofs.Steps.Axes.{answer-refused, answer_made, answer_rows}
use Rattle.arena.proofs.materialize.Walk.rows_or_zero.Goals as goal

refused_of : (r : Result ℕ PbcError) → is_err r ≡ true → (e : PbcError) × (r ≡ Err e)
refused_of (Ok x) h = absurd (true≢false (sym h))
refused_of (Err e) h = (e, refl)

made_of : (r : Result ℕ PbcError) → is_err r ≡ false → (x : ℕ) × (r ≡ Ok x)
made_of (Ok x) h = (x, refl)
made_of (Err e) h = absurd (true≢false h)

pub axes_walk-answer-requires : goal.axes_walk-answer-requires
axes_walk-answer-requires c = c.requires

pub returns-else-is_err-clause-value : goal.returns-else-is_err-clause-value
returns-else-is_err-clause-value c =
    let axes-walk = c.axes_walk-answer in
    let args = c.args in
    let ws = words_of (axes_of args.header args.operations.now) in
    let room = cap_of (length args.self.now.pool.now) - 1 in
    let made = (made_of axes-walk.result (sym c.is_err.ensures.value ∙ c.if-is_err.false)).1 in
    made ∙ answer_made args.self.now.limit room args.header.qubits args.header.nodes args.self.now.nodes.now ws axes-walk.ensures (ap out_of made)

pub returns-else-is_err-clause-rows_after : goal.returns-else-is_err-clause-rows_after
returns-else-is_err-clause-rows_after c =
    let axes-walk = c.axes_walk-answer in
    let args = c.args in
    let ws = words_of (axes_of args.header args.operations.now) in
    let room = cap_of (length args.self.now.pool.now) - 1 in
    let made = (made_of axes-walk.result (sym c.is_err.ensures.value ∙ c.if-is_err.false)).1 in
    answer_rows args.self.now.limit room args.header.qubits args.header.nodes args.self.now.nodes.now ws axes-walk.ensures (ap out_of made) (axes_size args.header)

pub returns-then-is_err-clause-value : goal.returns-then-is_err-clause-value
returns-then-is_err-clause-value c =
    let axes-walk = c.axes_walk-answer in
    let args = c.args in
    let ws = words_of (axes_of args.header args.operations.now) in
    let room = cap_of (length args.self.now.pool.now) - 1 in
    let off = (refused_of axes-walk.result (sym c.is_err.ensures.value ∙ c.if-is_err.true)).1 in
    let no = answer-refused args.self.now.limit room args.header.qubits args.header.nodes args.self.now.nodes.now ws axes-walk.ensures (ap out_of off) in
    off ∙ sym (ap expanded_axes_of no)

pub returns-then-is_err-clause-rows_after : goal.returns-then-is_err-clause-rows_after
returns-then-is_err-clause-rows_after c =
    let fill = c.fill in
    let axes-walk = c.axes_walk-answer in
    let args = c.args in
    let pre = c.requires in
    let ws = words_of (axes_of args.header args.operations.now) in
    let room = cap_of (length args.self.now.pool.now) - 1 in
    let off = (refused_of axes-walk.result (sym c.is_err.ensures.value ∙ c.if-is_err.true)).1 in
    let no = answer-refused args.self.now.limit room args.header.qubits args.header.nodes args.self.now.nodes.now ws axes-walk.ensures (ap out_of off) in (fill.ensures.after (λ y e. e)) ∙ ap (λ (k : ℕ). replicate k 0) (axes-walk.auto.rows ∙ pre.4) ∙ sym (ap (λ o. rows_made o (axes_size args.header)) no)
