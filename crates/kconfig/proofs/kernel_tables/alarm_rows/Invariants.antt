use Rattle.std.proofs.Common.{◌≡◌, map, take}
use Rattle.std.specs.List.{enumerate_from}
use Rattle.kconfig.specs.Tables.{alarm_row}
use Rattle.kconfig.proofs.kernel_tables.alarm_rows.Given as goal

abbrev pub invariant-loop-at : goal.invariant-loop-at
invariant-loop-at l = l.rows ≡ map (λ x. alarm_row l.config.starts x.0 x.1) (take l.at (enumerate_from 0 l.config.alarms))
