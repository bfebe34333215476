use Rattle.std.proofs.Common.{refl}
use Rattle.classfile.specs.Scan.{repeat}
use Rattle.stackmap.specs.Frames.{frames_of, frame_at}
use Rattle.stackmap.specs.Items.{item_of}
use Rattle.stackmap.proofs.worked.verification_types.Goals as goal

pub returns : goal.returns
unfolding frames_of frame_at item_of repeat
returns c = refl
