use Rattle.std.proofs.Common.{refl}
use Rattle.jnames.specs.Descriptors.{parameters_at, method_slots, signature_of}
use Rattle.classfile.specs.Scan.{repeat}
use Rattle.stackmap.specs.Frames.{frames_of, frame_at}
use Rattle.stackmap.specs.Items.{item_of}
use Rattle.stackmap.proofs.worked.start_frames.Goals as goal

pub returns-clause-constructor : goal.returns-clause-constructor
unfolding frames_of frame_at item_of repeat parameters_at method_slots signature_of
returns-clause-constructor c = (refl, refl)

pub returns-clause-this : goal.returns-clause-this
unfolding frames_of frame_at item_of repeat parameters_at method_slots signature_of
returns-clause-this c = (refl, refl, refl)

pub returns-clause-parameters : goal.returns-clause-parameters
unfolding frames_of frame_at item_of repeat parameters_at method_slots signature_of
returns-clause-parameters c = refl
