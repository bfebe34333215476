use Rattle.std.proofs.Common.{◌≡◌, ◌++◌, take}
use Rattle.mapfile.specs.MapText.{method_line}
use Rattle.kes_text.specs.Numbered.{numbered}
use Rattle.mapfile.proofs.append_methods.Given as goal

abbrev pub invariant-loop-number : goal.invariant-loop-number
invariant-loop-number l = l.out.items ≡ l.initial.out.items ++ numbered method_line 0 (take l.number l.methods)
