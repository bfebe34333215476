-- What is left of the instructions gathers what all of them do.
use Rattle.std.proofs.Common.{◌≡◌, drop}
use Rattle.reach.specs.Methods.{gathered}
use Rattle.reach.proofs.instructions.gathered.Given as goal

abbrev pub invariant-loop-ins : goal.invariant-loop-ins
invariant-loop-ins l = gathered l.s l.domain l.own.n l.file l.base l.mention (drop l.ins-index l.code) ≡ gathered l.s l.domain l.own.n l.file l.base l.fn.first l.code
