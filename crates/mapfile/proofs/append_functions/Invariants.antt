use Rattle.std.proofs.Common.{◌≡◌, ◌++◌, take}
use Rattle.mapfile.specs.MapText.{function_lines}
use Rattle.kes_text.specs.Numbered.{numbered}
use Rattle.mapfile.proofs.append_functions.Given as goal

abbrev pub invariant-loop-number : goal.invariant-loop-number
invariant-loop-number l = l.out.items ≡ l.initial.out.items ++ numbered function_lines 0 (take l.number l.functions)
