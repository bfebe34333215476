use Rattle.std.proofs.Common.{◌≡◌, map, take}
use Rattle.run_names.proofs.objects.alarm_names.Given as goal

abbrev pub invariant-loop-line : goal.invariant-loop-line
invariant-loop-line l = l.names ≡ map (λ x. x.name) (take l.line-index l.lines)
