use Rattle.convert.specs.Code.Raw.{put_multiplied}
use Rattle.convert.proofs.frame.Images.multiply.Goals as goal

pub returns-clause-put : goal.returns-clause-put
unfolding put_multiplied
returns-clause-put c = record { same = rw (c.push-self.ensures.0, c.push-self.ensures.1, c.number.ensures) }
