use Rattle.classfile.proofs.Spelling.ClassFiles.{accepted, spelled, once}
use Rattle.classfile.proofs.law.class_files_are_spelled.Goals as goal

pub returns-clause-accepted : goal.returns-clause-accepted
returns-clause-accepted c = accepted

pub returns-clause-spelled : goal.returns-clause-spelled
returns-clause-spelled c = spelled

pub returns-clause-once : goal.returns-clause-once
returns-clause-once c = once
