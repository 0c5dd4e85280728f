use Rattle.pauli.specs.Gates.{gate_z}
use Rattle.convert.specs.Code.Raw.{put_flush}
use Rattle.convert.proofs.Buffers.Flush.{gate_flushed}
use Rattle.convert.proofs.flush.FlushFrameGates.z.Goals as goal

pub returns : goal.returns
unfolding put_flush
returns c = (gate_flushed c.args.self.now.gate (gate_z c.args.q) (rw (← c.id_z.ensures) c.rotate.ensures.after), c.rotate.ensures.stays)
