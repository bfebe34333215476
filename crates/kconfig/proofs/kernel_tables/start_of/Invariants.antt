use Rattle.std.proofs.Common.{◌≡◌, drop}
use Rattle.kconfig.specs.Tables.{start_of}
use Rattle.kconfig.proofs.kernel_tables.start_of.Given as goal

abbrev pub invariant-loop-line : goal.invariant-loop-line
invariant-loop-line l = start_of (drop l.line-index l.starts) l.alarm ≡ start_of l.starts l.alarm
