use Rattle.std.proofs.Common.{refl}
use Rattle.jworld.specs.Fields.{found_field, resolved_field}
use Rattle.jworld.proofs.worked.fields_found.Goals as goal

pub returns-clause-first : goal.returns-clause-first
unfolding found_field resolved_field
returns-clause-first c = (refl, refl, refl, refl)

pub returns-clause-interfaces : goal.returns-clause-interfaces
unfolding found_field resolved_field
returns-clause-interfaces c = (refl, refl)

pub returns-clause-descriptors : goal.returns-clause-descriptors
unfolding found_field resolved_field
returns-clause-descriptors c = refl
