use Rattle.std.proofs.Common.{◌≡◌, drop, Some}
use Rattle.verify.specs.Typing.{states_from, framed}
use Rattle.verify.proofs.Walking.{with_frames}
use Rattle.verify.proofs.walk.frames_from.Given as goal

abbrev pub invariant-loop-ins : goal.invariant-loop-ins
invariant-loop-ins l =
    with_frames l.frames (states_from l.e l.maps l.before l.comes (drop l.ins-index l.code)) ≡ framed (states_from l.e l.maps l.first (Some l.fn.start) l.code)
