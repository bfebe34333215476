use Rattle.std.proofs.Common.{◌≡◌, ◌++◌, take, flat_map}
use Rattle.mapfile.specs.MapText.{number_word}
use Rattle.mapfile.proofs.append_weights.Given as goal

abbrev pub invariant-loop-weight : goal.invariant-loop-weight
invariant-loop-weight l = l.out.items ≡ l.initial.out.items ++ flat_map number_word (take l.weight-index l.weights)
