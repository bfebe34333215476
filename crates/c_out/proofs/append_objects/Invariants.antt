use Rattle.std.proofs.Common.{◌≡◌, ◌++◌, take, flat_map, codes}
use Rattle.csubset.specs.Text.Line.{line}
use Rattle.c_out.proofs.append_objects.Given as goal

abbrev pub invariant-loop-name : goal.invariant-loop-name
invariant-loop-name l = l.out.items ≡ l.initial.out.items ++ flat_map (λ name. line (l.opening ++ name ++ codes ");")) (take l.name-index l.names)
