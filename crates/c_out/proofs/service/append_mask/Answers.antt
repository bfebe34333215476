use Rattle.std.proofs.Common.{codes, arith}
use Rattle.std.proofs.lemmas.Grind.{common_steps}
use Rattle.csubset.specs.Text.Names.{event_name}
use Rattle.c_out.proofs.Lists.{join_by-appended}
use Rattle.c_out.proofs.service.append_mask.Goals as goal

pub returns : goal.returns
returns c = join_by-appended event_name (codes " | ") c.in-Some.first.now c.in-Some.others.now c.args.events.now c.args.out.now.items c.append_event.new.out.items c.loop-event.out.items c.in-Some.ensures.cases.0 c.in_ok-append_event.ensures (grind (arith, common_steps))
