use Rattle.std.proofs.Common.{refl}
use Rattle.jnames.specs.Descriptors.{parameters_at, method_slots, signature_of}
use Rattle.classfile.specs.Scan.{repeat}
use Rattle.classfile.specs.Entries.{entry_at}
use Rattle.classfile.specs.Codes.{code_at}
use Rattle.classfile.specs.Members.{field_at, method_at}
use Rattle.classfile.specs.Faults.{first_fault}
use Rattle.classfile.specs.Reading.{body_at, structure_at}
use Rattle.classfile.proofs.worked.first_faults.Goals as goal

pub returns-clause-versions : goal.returns-clause-versions
unfolding entry_at code_at field_at method_at body_at structure_at first_fault repeat parameters_at method_slots signature_of
returns-clause-versions c = (refl, refl, refl, refl)

pub returns-clause-codes : goal.returns-clause-codes
unfolding entry_at code_at field_at method_at body_at structure_at first_fault repeat parameters_at method_slots signature_of
returns-clause-codes c = (refl, refl, refl, refl)

pub returns-clause-lengths : goal.returns-clause-lengths
unfolding entry_at code_at field_at method_at body_at structure_at first_fault repeat parameters_at method_slots signature_of
returns-clause-lengths c = (refl, refl, refl, refl)

pub returns-clause-members : goal.returns-clause-members
unfolding entry_at code_at field_at method_at body_at structure_at first_fault repeat parameters_at method_slots signature_of
returns-clause-members c = (refl, refl)

pub returns-clause-structure : goal.returns-clause-structure
unfolding entry_at code_at field_at method_at body_at structure_at first_fault repeat parameters_at method_slots signature_of
returns-clause-structure c = (refl, refl)
