use Rattle.std.proofs.Common.{◌≡◌, map, take}
use Rattle.kconfig.specs.Tables.{counter_row}
use Rattle.kconfig.proofs.kernel_tables.counter_rows.Given as goal

abbrev pub invariant-loop-line : goal.invariant-loop-line
invariant-loop-line l = l.rows ≡ map counter_row (take l.line-index l.lines)
