use Rattle.std.proofs.Common.{◌≡◌, ◌-◌, ◌+ℤ◌, pos}
use Rattle.jcode.specs.Switches.{table_at}
use Rattle.jcode.proofs.SwitchLoops.{with_front}
use Rattle.jcode.proofs.switches.table_of.Given as goal

abbrev pub invariant-loop-place : goal.invariant-loop-place
invariant-loop-place l = with_front l.cases (table_at l.pc (l.count - l.place) (l.low +ℤ pos l.place) l.rest) ≡ table_at l.pc l.count l.low l.bytes
