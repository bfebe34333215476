use Rattle.std.proofs.Common.{◌≡◌, ◌++◌, take}
use Rattle.csubset.specs.Text.Program.{function_declaration}
use Rattle.kes_text.specs.Numbered.{numbered}
use Rattle.c_out.proofs.function.append_declarations.Given as goal

abbrev pub invariant-loop-number : goal.invariant-loop-number
invariant-loop-number l = l.out.items ≡ l.initial.out.items ++ numbered function_declaration 0 (take l.number l.functions)
