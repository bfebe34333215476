use Rattle.std.proofs.Common.{◌≡◌, ◌++◌, take, flat_map, codes}
use Rattle.csubset.specs.Text.Names.{number_text}
use Rattle.c_out.proofs.append_first_words.Given as goal

abbrev pub invariant-loop-word : goal.invariant-loop-word
invariant-loop-word l = l.out.items ≡ l.initial.out.items ++ flat_map (λ word. codes ", " ++ number_text word) (take l.word-index l.others)
