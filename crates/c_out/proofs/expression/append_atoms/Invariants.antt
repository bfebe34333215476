use Rattle.std.proofs.Common.{◌≡◌, ◌++◌, codes, take, flat_map}
use Rattle.csubset.specs.Text.Expressions.{atom_text}
use Rattle.c_out.proofs.expression.append_atoms.Given as goal

abbrev pub invariant-loop-atom : goal.invariant-loop-atom
invariant-loop-atom l = l.out.items ≡ l.initial.out.items ++ flat_map (λ atom. codes ", " ++ atom_text atom) (take l.atom-index l.others)
