use Rattle.std.proofs.Common.{refl}
use Rattle.classfile.specs.Scan.{repeat}
use Rattle.stackmap.specs.Frames.{frames_of, frame_at}
use Rattle.stackmap.specs.Items.{item_of}
use Rattle.stackmap.proofs.worked.chopped_and_appended.Goals as goal

pub returns-clause-chop : goal.returns-clause-chop
unfolding frames_of frame_at item_of repeat
returns-clause-chop c = (refl, refl, refl)

pub returns-clause-append : goal.returns-clause-append
unfolding frames_of frame_at item_of repeat
returns-clause-append c = (refl, refl, refl)

pub returns-clause-further : goal.returns-clause-further
unfolding frames_of frame_at item_of repeat
returns-clause-further c = refl
