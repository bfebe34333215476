use Rattle.std.proofs.Common.{◌≡◌, ◌-◌}
use Rattle.jcode.specs.Switches.{pairs_at}
use Rattle.jcode.proofs.SwitchLoops.{with_front}
use Rattle.jcode.proofs.switches.pairs_of.Given as goal

abbrev pub invariant-loop : goal.invariant-loop
invariant-loop l = with_front l.cases (pairs_at l.pc (l.count - l.counter) l.rest) ≡ pairs_at l.pc l.count l.bytes
