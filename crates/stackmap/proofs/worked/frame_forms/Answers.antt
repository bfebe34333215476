use Rattle.std.proofs.Common.{refl}
use Rattle.classfile.specs.Scan.{repeat}
use Rattle.stackmap.specs.Frames.{frames_of, frame_at}
use Rattle.stackmap.specs.Items.{item_of}
use Rattle.stackmap.proofs.worked.frame_forms.Goals as goal

pub returns-clause-none : goal.returns-clause-none
unfolding frames_of frame_at item_of repeat
returns-clause-none c = refl

pub returns-clause-same : goal.returns-clause-same
unfolding frames_of frame_at item_of repeat
returns-clause-same c = refl

pub returns-clause-item : goal.returns-clause-item
unfolding frames_of frame_at item_of repeat
returns-clause-item c = refl

pub returns-clause-item_extended : goal.returns-clause-item_extended
unfolding frames_of frame_at item_of repeat
returns-clause-item_extended c = refl

pub returns-clause-same_extended : goal.returns-clause-same_extended
unfolding frames_of frame_at item_of repeat
returns-clause-same_extended c = refl

pub returns-clause-full : goal.returns-clause-full
unfolding frames_of frame_at item_of repeat
returns-clause-full c = refl
