use Rattle.jworld.proofs.Bits.{has_bit-set}
use Rattle.jworld.proofs.row.set_bit.Goals as goal

pub returns : goal.returns
returns c = λ j. has_bit-set c.args.words.now c.args.number j c.requires
