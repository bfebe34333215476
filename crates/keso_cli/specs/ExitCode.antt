-- The exit status of the process.
use Rattle.std.specs.Prelude.{ℕ}
use Rattle.keso_cli.specs.declared.status.Status.{Status}
use Rattle.keso_cli.specs.declared.status.Status.TheVariants as status

abbrev pub exit_code : Status → ℕ
exit_code status.Ok = 0
exit_code status.Refused = 1
exit_code status.Usage = 2
exit_code status.ReadFault = 3
exit_code status.WriteFault = 4
exit_code status.NoMemory = 5
