use Rattle.std.proofs.Common.{◌≡◌, take}
use Rattle.kconfig.specs.Tables.{names_of}
use Rattle.kconfig.proofs.kernel_tables.names_of.Given as goal

abbrev pub invariant-loop-line : goal.invariant-loop-line
invariant-loop-line l = l.names ≡ names_of (take l.line-index l.lines)
