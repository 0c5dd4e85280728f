-- `visit` meets its contract: a row is laid down.
use mathlib.Core.Path.{ap, ◌∙◌}
use mathlib.Core.List.{List}
use Prim.Native.Nat.{ℕ, ◌+◌, ◌*◌, ◌%◌}
use Rattle.arena.specs.Code.Roots.{laid_at}
use Rattle.arena.proofs.Steps.Rows.{cells_row}
use Rattle.arena.proofs.axes.RowsVisit.visit.Goals as goal

pub returns-clause-after : goal.returns-clause-after
returns-clause-after c = λ g x e q.
    let v = c.args.self.now in
    ap (λ (l : List ℕ). record v { rows = record v.rows { now = l } })
    (c.put_row.ensures g ∙ ap (λ (us : List ℕ). laid_at (c.args.index * (v.qubits + 1)) us v.rows.now) (cells_row v.qubits g.fs (c.args.value.phase % 4) x e q))
