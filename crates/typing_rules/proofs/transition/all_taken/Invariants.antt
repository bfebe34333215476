use Rattle.std.proofs.Common.{◌≡◌, drop}
use Rattle.typing_rules.specs.Rules.Transition.{all_taken}
use Rattle.typing_rules.proofs.transition.all_taken.Given as goal

abbrev pub invariant-loop-one : goal.invariant-loop-one
invariant-loop-one l = all_taken l.world (drop l.one-index l.wanted) l.rest ≡ all_taken l.world l.wanted l.fn.state
