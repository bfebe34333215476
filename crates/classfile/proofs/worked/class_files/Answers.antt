use Rattle.std.proofs.Common.{refl}
use Rattle.jnames.specs.Descriptors.{parameters_at, method_slots, signature_of}
use Rattle.classfile.specs.Scan.{repeat}
use Rattle.classfile.specs.Entries.{entry_at}
use Rattle.classfile.specs.Codes.{code_at}
use Rattle.classfile.specs.Members.{field_at, method_at}
use Rattle.classfile.specs.Faults.{first_fault}
use Rattle.classfile.specs.Reading.{body_at, structure_at}
use Rattle.classfile.proofs.worked.class_files.Goals as goal

pub returns-clause-smallest : goal.returns-clause-smallest
unfolding entry_at code_at field_at method_at body_at structure_at first_fault repeat parameters_at method_slots signature_of
returns-clause-smallest c = refl

pub returns-clause-constants : goal.returns-clause-constants
unfolding entry_at code_at field_at method_at body_at structure_at first_fault repeat parameters_at method_slots signature_of
returns-clause-constants c = (refl, refl, refl)

pub returns-clause-maps : goal.returns-clause-maps
unfolding entry_at code_at field_at method_at body_at structure_at first_fault repeat parameters_at method_slots signature_of
returns-clause-maps c = refl

pub returns-clause-native : goal.returns-clause-native
unfolding entry_at code_at field_at method_at body_at structure_at first_fault repeat parameters_at method_slots signature_of
returns-clause-native c = refl
