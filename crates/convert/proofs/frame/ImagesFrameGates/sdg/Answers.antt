use Rattle.convert.proofs.Buffers.Frame.{sdg_ran}
use Rattle.convert.proofs.frame.ImagesFrameGates.sdg.Goals as goal

pub returns : goal.returns
returns c = (sdg_ran c.requires c.multiply.ensures.put, c.multiply.ensures.stays)
