use Rattle.std.proofs.Common.{refl}
use Rattle.jnames.specs.Descriptors.{parameters_at, method_slots, signature_of}
use Rattle.classfile.specs.Scan.{repeat}
use Rattle.classfile.specs.Entries.{entry_at}
use Rattle.classfile.specs.Codes.{code_at}
use Rattle.classfile.specs.Members.{field_at, method_at}
use Rattle.classfile.specs.Faults.{first_fault}
use Rattle.classfile.specs.Reading.{body_at, structure_at}
use Rattle.classfile.proofs.worked.pool_entries.Goals as goal

pub returns-clause-handles : goal.returns-clause-handles
unfolding entry_at code_at field_at method_at body_at structure_at first_fault repeat parameters_at method_slots signature_of
returns-clause-handles c = (refl, refl, refl, refl, refl, refl, refl, refl, refl, refl, refl, refl, refl)

pub returns-clause-versions : goal.returns-clause-versions
unfolding entry_at code_at field_at method_at body_at structure_at first_fault repeat parameters_at method_slots signature_of
returns-clause-versions c = (refl, refl, refl, refl, refl, refl, refl, refl, refl)

pub returns-clause-methods : goal.returns-clause-methods
unfolding entry_at code_at field_at method_at body_at structure_at first_fault repeat parameters_at method_slots signature_of
returns-clause-methods c = (refl, refl, refl, refl, refl, refl)

pub returns-clause-kinds : goal.returns-clause-kinds
unfolding entry_at code_at field_at method_at body_at structure_at first_fault repeat parameters_at method_slots signature_of
returns-clause-kinds c = (refl, refl, refl, refl, refl, refl, refl, refl)

pub returns-clause-arrays : goal.returns-clause-arrays
unfolding entry_at code_at field_at method_at body_at structure_at first_fault repeat parameters_at method_slots signature_of
returns-clause-arrays c = (refl, refl, refl)

pub returns-clause-wide : goal.returns-clause-wide
unfolding entry_at code_at field_at method_at body_at structure_at first_fault repeat parameters_at method_slots signature_of
returns-clause-wide c = (refl, refl, refl, refl)

pub returns-clause-tags : goal.returns-clause-tags
unfolding entry_at code_at field_at method_at body_at structure_at first_fault repeat parameters_at method_slots signature_of
returns-clause-tags c = (refl, refl, refl, refl, refl)
