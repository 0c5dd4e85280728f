use Rattle.convert.proofs.Buffers.Frame.{s_ran}
use Rattle.convert.proofs.frame.ImagesFrameGates.s.Goals as goal

pub returns : goal.returns
returns c = (s_ran c.requires c.multiply.ensures.put, c.multiply.ensures.stays)
