use Rattle.std.proofs.Common.{◌≡◌, ◌++◌, codes, take, flat_map}
use Rattle.csubset.specs.Text.Names.{event_name}
use Rattle.c_out.proofs.service.append_mask.Given as goal

abbrev pub invariant-loop-event : goal.invariant-loop-event
invariant-loop-event l = l.out.items ≡ l.initial.out.items ++ flat_map (λ event. codes " | " ++ event_name event) (take l.event-index l.others)
