use Rattle.std.proofs.Common.{arith}
use Rattle.jworld.proofs.Slashes.{package_of-take}
use Rattle.jworld.proofs.splits.package_of.Goals as goal

pub returns : goal.returns
returns c = package_of-take c.args.name.now c.loop-i.end c.loop-i.invariant.slash (λ k after within. c.loop-i.invariant.last k after (omega arith))
