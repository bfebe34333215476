use Rattle.std.proofs.Common.{◌≡◌, ◌++◌, take, flat_map}
use Rattle.csubset.specs.Text.Statements.{label_line}
use Rattle.c_out.proofs.statement.append_label_lines.Given as goal

abbrev pub invariant-loop-label : goal.invariant-loop-label
invariant-loop-label l = l.out.items ≡ l.initial.out.items ++ flat_map label_line (take l.label-index l.labels)
