use Rattle.std.proofs.Common.{refl}
use Rattle.type_states.specs.Slots.{stored}
use Rattle.typing_rules.specs.Rules.StackForms.{group_popped}
use Rattle.typing_rules.specs.Outcome.{outcome}
use Rattle.typing_rules.proofs.worked.values_of_two_places.Goals as goal

pub returns-clause-operands : goal.returns-clause-operands
unfolding outcome group_popped
returns-clause-operands c = (refl, refl, refl, refl, refl, refl)

pub returns-clause-slots : goal.returns-clause-slots
unfolding outcome stored
returns-clause-slots c = (refl, refl, refl, refl, refl)
