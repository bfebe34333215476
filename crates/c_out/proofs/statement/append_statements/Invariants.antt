use Rattle.std.proofs.Common.{◌≡◌, ◌++◌, take, flat_map}
use Rattle.csubset.specs.Text.Statements.{statement_text}
use Rattle.c_out.proofs.statement.append_statements.Given as goal

abbrev pub invariant-loop-statement : goal.invariant-loop-statement
invariant-loop-statement l = l.out.items ≡ l.initial.out.items ++ flat_map statement_text (take l.statement-index l.statements)
