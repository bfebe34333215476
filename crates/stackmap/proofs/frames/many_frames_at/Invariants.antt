use Rattle.std.proofs.Common.{◌≡◌, ◌-◌, []}
use Rattle.classfile.specs.Scan.{repeat}
use Rattle.stackmap.specs.Frames.{another_frame}
use Rattle.stackmap.proofs.frames.many_frames_at.Given as goal

abbrev pub invariant-loop : goal.invariant-loop
invariant-loop l =
    repeat (l.count - l.counter) (another_frame l.table l.start) (l.frames, l.rest) ≡ repeat l.count (another_frame l.table l.start) ([], l.fn.rest)
