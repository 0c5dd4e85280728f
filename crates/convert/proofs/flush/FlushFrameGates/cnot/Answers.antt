use Rattle.pauli.specs.Gates.{gate_cnot}
use Rattle.convert.specs.Code.Raw.{put_flush}
use Rattle.convert.proofs.Buffers.Flush.{gate_flushed}
use Rattle.convert.proofs.flush.FlushFrameGates.cnot.Goals as goal

pub returns : goal.returns
unfolding put_flush
returns c = (
  gate_flushed c.args.self.now.gate (gate_cnot c.args.c c.args.t) (rw (← c.id_z.ensures, ← c.id_x.ensures) c.rotate_joint.ensures.after),
  c.rotate_joint.ensures.stays,
)
