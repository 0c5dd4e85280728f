use mathlib.Core.Path.{refl}
use Rattle.std.proofs.Common.{rules}
use Rattle.convert.proofs.Buffers.Frame.{x_ran}
use Rattle.convert.proofs.frame.ImagesFrameGates.x.Goals as goal

pub returns : goal.returns
returns c = (x_ran c.requires _ c.minus.ensures, (refl, refl, refl, refl, search rules))
