use Rattle.std.proofs.Common.{append_assoc}
use Rattle.oil_out.proofs.append_action_value.Goals as goal

pub returns-in_ok-extend_from_slice-in-Activate-3 : goal.returns-in_ok-extend_from_slice-in-Activate-3
returns-in_ok-extend_from_slice-in-Activate-3 c =
    rw (
      c.in-Activate.is,
      c.in_ok-extend_from_slice-in-Activate-3.ensures.items,
      c.in_ok-extend_from_slice-in-Activate-2.ensures.items,
      c.task_name.ensures,
      c.in_ok-extend_from_slice-in-Activate.ensures.items,
    )
    (simp append_assoc)

pub returns-in_ok-extend_from_slice-in-Set-5 : goal.returns-in_ok-extend_from_slice-in-Set-5
returns-in_ok-extend_from_slice-in-Set-5 c =
    rw (
      c.in-Set.is,
      c.in_ok-extend_from_slice-in-Set-5.ensures.items,
      c.in_ok-extend_from_slice-in-Set-4.ensures.items,
      c.name_at.ensures,
      c.in_ok-extend_from_slice-in-Set-3.ensures.items,
      c.in_ok-extend_from_slice-in-Set-2.ensures.items,
      c.task_name-in-Set.ensures,
      c.in_ok-extend_from_slice-in-Set.ensures.items,
    )
    (simp append_assoc)
