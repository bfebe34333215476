use Rattle.std.proofs.Common.{◌≡◌, drop}
use Rattle.b_frame.specs.Jumps.{target}
use Rattle.b_frame.proofs.jumps.target.Given as goal

abbrev pub invariant-loop-case : goal.invariant-loop-case
invariant-loop-case l = target (drop l.case-index l.cases) l.other l.key ≡ target l.cases l.other l.key
