-- The methods of the lines before the loop's place are bound.
use Rattle.std.proofs.Common.{◌≡◌, take, map, zip}
use Rattle.mentions.specs.Bindings.{add_all}
use Rattle.mentions.proofs.binding.Bindings.add_lines.Given as goal

abbrev pub invariant-loop-n : goal.invariant-loop-n
invariant-loop-n g l = l.self ≡ add_all l.fn.self (map (λ both. g.Line.Binds.member both.0 both.1) (zip (take l.n l.lines) (take l.n l.named)))
