use Rattle.std.proofs.Common.{arith}
use Rattle.jworld.proofs.Bits.{has_bit-joined}
use Rattle.jworld.proofs.row.join_words.Goals as goal

pub returns : goal.returns
returns c = has_bit-joined c.loop-at.words c.args.words.now c.args.more.now (omega arith) (omega arith) (λ k below. c.loop-at.invariant.done k (omega arith))
