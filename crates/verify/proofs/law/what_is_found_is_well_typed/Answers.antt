use Rattle.verify.proofs.WellTypedWalk.{well_typed, found, unique}
use Rattle.verify.proofs.law.what_is_found_is_well_typed.Goals as goal

pub returns-clause-found : goal.returns-clause-found
returns-clause-found c = well_typed

pub returns-clause-only : goal.returns-clause-only
returns-clause-only c = found

pub returns-clause-unique : goal.returns-clause-unique
returns-clause-unique c = unique
