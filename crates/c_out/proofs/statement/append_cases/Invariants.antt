use Rattle.std.proofs.Common.{◌≡◌, ◌++◌, take, flat_map}
use Rattle.csubset.specs.Text.Statements.{case_text}
use Rattle.c_out.proofs.statement.append_cases.Given as goal

abbrev pub invariant-loop-number : goal.invariant-loop-number
invariant-loop-number l = l.out.items ≡ l.initial.out.items ++ flat_map case_text (take l.number-index l.cases)
