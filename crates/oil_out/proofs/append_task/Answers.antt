use Rattle.std.proofs.Common.{append_assoc}
use Rattle.oil_out.specs.OilText.{task_text}
use Rattle.oil_out.proofs.append_task.Goals as goal

pub returns : goal.returns
unfolding task_text
returns c =
    rw (
      c.in_ok-extend_from_slice.ensures.items,
      c.in_ok-append_task_events.ensures,
      c.as_slice-2.ensures,
      c.in_ok-append_task_resources.ensures,
      c.as_slice.ensures,
      c.in_ok-append_word-2.ensures,
      c.activation_text.ensures,
      c.in_ok-append_number-2.ensures,
      c.from-2.ensures,
      c.in_ok-append_word.ensures,
      c.schedule_text.ensures,
      c.in_ok-append_number.ensures,
      c.from.ensures,
      c.in_ok-append_header.ensures,
    )
    (simp append_assoc)
