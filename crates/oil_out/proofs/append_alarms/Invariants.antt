use Rattle.std.proofs.Common.{◌≡◌, ◌++◌, take, flat_map}
use Rattle.oil_out.specs.OilText.{alarm_text}
use Rattle.oil_out.proofs.append_alarms.Given as goal

abbrev pub invariant-loop-row : goal.invariant-loop-row
invariant-loop-row l = l.out.items ≡ l.initial.out.items ++ flat_map (alarm_text l.tables) (take l.row-index l.tables.alarms)
