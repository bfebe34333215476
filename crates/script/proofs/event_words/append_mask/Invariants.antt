-- The events so far, and whether there is none.
use Rattle.std.proofs.Common.{◌≡◌, ◌++◌, nat_eq, map, length}
use Rattle.std.specs.List.{join_with_byte}
use Rattle.osek_core.specs.Event.Text.{name_at}
use Rattle.script.proofs.Masks.{below}
use Rattle.script.proofs.event_words.append_mask.Given as goal

abbrev pub invariant-loop-event : goal.invariant-loop-event
invariant-loop-event l = record {
  first : l.is_first ≡ nat_eq (length (map (name_at l.names.events) (below l.mask l.event))) 0;
  text : l.out.items ≡ l.initial.out.items ++ join_with_byte 43 (map (name_at l.names.events) (below l.mask l.event));
}
