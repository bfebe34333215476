use Rattle.std.proofs.Common.{refl}
use Rattle.jnames.specs.Descriptors.{parameters_at, signature_of}
use Rattle.jworld.specs.Upwards.{upwards, chain}
use Rattle.type_states.specs.Assignable.{typing}
use Rattle.typing_rules.specs.Outcome.{outcome}
use Rattle.typing_rules.proofs.worked.uninitialised_objects.Goals as goal

pub returns-clause-passed : goal.returns-clause-passed
unfolding outcome typing upwards chain signature_of parameters_at
returns-clause-passed c = (refl, refl, refl, refl)

pub returns-clause-constructed : goal.returns-clause-constructed
unfolding outcome typing upwards chain signature_of parameters_at
returns-clause-constructed c = (refl, refl, refl)

pub returns-clause-returned : goal.returns-clause-returned
unfolding outcome typing upwards chain signature_of parameters_at
returns-clause-returned c = (refl, refl, refl)
