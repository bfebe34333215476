use Rattle.std.proofs.Common.{append_assoc}
use Rattle.oil_out.proofs.append_start_value.Goals as goal

pub returns-in_ok-extend_from_slice-in-Some-3 : goal.returns-in_ok-extend_from_slice-in-Some-3
returns-in_ok-extend_from_slice-in-Some-3 c =
    rw (
      c.in-Some.is,
      c.in_ok-extend_from_slice-in-Some-3.ensures.items,
      c.in_ok-append_decimal-in-Some-2.ensures.ok,
      c.from-in-Some.ensures,
      c.in_ok-extend_from_slice-in-Some-2.ensures.items,
      c.in_ok-append_decimal-in-Some.ensures.ok,
      c.from.ensures,
      c.in_ok-extend_from_slice-in-Some.ensures.items,
    )
    (simp append_assoc)
