use mathlib.Core.Path.{refl}
use Rattle.convert.proofs.Buffers.Seven.{seven_put}
use Rattle.convert.proofs.converter.Converter.seven.Goals as goal

pub returns-clause-wrote : goal.returns-clause-wrote
returns-clause-wrote c =
    let a = c.args in
    let s = c.args.self.now in
    seven_put a.gate s.used.nodes s.nodes.now s.used.operations s.operations.now a.a a.b a.d _ _ _ _ _ _ c.put_four-self.ensures c.put_rows-self.ensures (refl, refl)
