use Rattle.pauli.specs.Gates.{gate_x}
use Rattle.convert.specs.Code.Raw.{put_flush}
use Rattle.convert.proofs.Buffers.Flush.{gate_flushed}
use Rattle.convert.proofs.flush.FlushFrameGates.x.Goals as goal

pub returns : goal.returns
unfolding put_flush
returns c = (gate_flushed c.args.self.now.gate (gate_x c.args.q) (rw (← c.id_x.ensures) c.rotate.ensures.after), c.rotate.ensures.stays)
