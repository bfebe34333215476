use Rattle.classfile.proofs.Accepted.{sound_of}
use Rattle.classfile.proofs.Spelling.ClassFiles.{spelled_of, answered_only}
use Rattle.classfile.proofs.reading.read_class.Goals as goal

pub returns-clause-sound : goal.returns-clause-sound
returns-clause-sound c = sound_of c.args.bytes.now c.class_of.result c.class_of.ensures

pub returns-clause-spelled : goal.returns-clause-spelled
returns-clause-spelled c = spelled_of c.args.bytes.now c.class_of.result c.class_of.ensures

pub returns-clause-only : goal.returns-clause-only
returns-clause-only c class h = answered_only c.args.bytes.now class c.class_of.result h c.class_of.ensures
