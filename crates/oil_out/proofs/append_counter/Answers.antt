use Rattle.std.proofs.Common.{append_assoc}
use Rattle.oil_out.specs.OilText.{counter_text}
use Rattle.oil_out.proofs.append_counter.Goals as goal

pub returns : goal.returns
unfolding counter_text
returns c =
    rw (
      c.in_ok-extend_from_slice.ensures.items,
      c.in_ok-append_number-3.ensures,
      c.from-3.ensures,
      c.in_ok-append_number-2.ensures,
      c.from-2.ensures,
      c.in_ok-append_number.ensures,
      c.from.ensures,
      c.in_ok-append_header.ensures,
    )
    (simp append_assoc)
