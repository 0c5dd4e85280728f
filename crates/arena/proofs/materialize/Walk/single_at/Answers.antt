-- `single_at` meets its contract.
use native.Mathlib.Omega.{arith}
use Rattle.pauli.specs.Letters.{pauli_of}
use Rattle.arena.proofs.Steps.Products.{lender, single_made}
use Rattle.arena.proofs.materialize.Walk.single_at.Goals as goal

pub set_value-requires : goal.set_value-requires
set_value-requires c =
    let single = c.single-t in
    let if1 = c.if-left-eq0 in
    let args = c.args in (
      (single.ensures (lender c.requires.making args.qubit (pauli_of args.letter) if1.false)).chain.0.counted.low,
      omega arith,
      omega arith,
      omega (arith, c.requires.making.rep.scratch.long, c.requires.making.low),
    )

pub returns-clause-says : goal.returns-clause-says
returns-clause-says c =
    let set_value = c.set_value in
    let single = c.single-t in
    let if1 = c.if-left-eq0 in
    let args = c.args in λ g. single_made g args.qubit (pauli_of args.letter) if1.false (single.ensures (lender g args.qubit (pauli_of args.letter)
    if1.false)) set_value.ensures
