use Rattle.std.proofs.Common.{refl}
use Rattle.classfile.specs.Scan.{repeat}
use Rattle.stackmap.specs.Frames.{frames_of, frame_at}
use Rattle.stackmap.specs.Items.{item_of}
use Rattle.stackmap.proofs.worked.tables_refused.Goals as goal

pub returns-clause-ends : goal.returns-clause-ends
unfolding frames_of frame_at item_of repeat
returns-clause-ends c = (refl, refl, refl, refl)

pub returns-clause-tags : goal.returns-clause-tags
unfolding frames_of frame_at item_of repeat
returns-clause-tags c = (refl, refl)

pub returns-clause-places : goal.returns-clause-places
unfolding frames_of frame_at item_of repeat
returns-clause-places c = refl

pub returns-clause-items : goal.returns-clause-items
unfolding frames_of frame_at item_of repeat
returns-clause-items c = (refl, refl, refl)
