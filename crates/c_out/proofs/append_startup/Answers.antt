use Rattle.std.proofs.Common.{append_assoc}
use Rattle.c_out.proofs.append_startup.Goals as goal

pub returns : goal.returns
returns c = rw (c.in_ok-extend_from_slice-2.ensures.items, c.in_ok-append_starts.ensures, c.in_ok-extend_from_slice.ensures.items) (simp append_assoc)
