use Rattle.std.proofs.Common.{◌≡◌, ◌++◌, take}
use Rattle.kes_text.specs.Numbered.{numbered}
use Rattle.oil_out.specs.OilText.{event_text}
use Rattle.oil_out.proofs.append_events.Given as goal

abbrev pub invariant-loop-place : goal.invariant-loop-place
invariant-loop-place l = l.out.items ≡ l.initial.out.items ++ numbered event_text 0 (take l.place l.events)
