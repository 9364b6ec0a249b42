use Rattle.dec_num.proofs.Digits.{six_is}
use Rattle.dec_num.proofs.reading.first_six.Goals as goal

pub returns : goal.returns
returns c = rw c.copy_from_slice.ensures.after (six_is c.args.fraction.now c.min-len.result c.min-len.ensures)
