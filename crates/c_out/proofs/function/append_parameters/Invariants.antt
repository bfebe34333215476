use Rattle.std.proofs.Common.{◌≡◌, ◌++◌, ◌-◌, codes, flat_map}
use Rattle.std.specs.List.{range_with_len}
use Rattle.csubset.specs.Text.Names.{word_name}
use Rattle.c_out.proofs.function.append_parameters.Given as goal

abbrev pub invariant-loop-word : goal.invariant-loop-word
invariant-loop-word l = l.out.items ≡ l.initial.out.items ++ flat_map (λ k. codes ", " ++ (codes "W " ++ word_name k)) (range_with_len 1 (l.word - 1))
