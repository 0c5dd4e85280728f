use native.Mathlib.Omega.{arith}
use mathlib.Core.Path.{◌∙◌}
use lib.ListN.{length}
use Rattle.convert.proofs.Packed.Since.{qubit_room, restored_one}
use Rattle.convert.proofs.planes.Planes.restore.Goals as goal

pub overflow_mul-q : goal.overflow_mul-q
overflow_mul-q c =
    let p = c.args.self.now in
    let r = qubit_room p.qubits p.width c.args.q (length p.words.now) c.if-self-q.false p.room in
    omega (arith, r, p.room, p.few, p.parts)

pub clear-requires : goal.clear-requires
clear-requires c =
    let p = c.args.self.now in
    qubit_room p.qubits p.width c.args.q (length p.words.now) c.if-self-q.false p.room

pub returns-clause-after : goal.returns-clause-after
returns-clause-after c =
    let p = c.args.self.now in
    restored_one p.qubits p.width c.args.q p.words.now _ (omega (arith, p.parts)) p.room c.if-self-q.false (c.mark.ensures.after ∙ rw c.clear.ensures)
