use Rattle.std.proofs.Common.{ap, ◌∙◌, false}
use Rattle.b_machine.specs.State.{Actor, one_frame}
use Rattle.b_machine.proofs.Served.{starts_next}
use Rattle.b_machine.proofs.leaving.start_next.Goals as goal

pub returns : goal.returns
returns c =
    let frame = c.in_ok-frame.frame in
    starts_next c.args.program.now c.args.actor.now c.args.shared.now c.next_later-next.result frame c.begin.new.self c.start_behind.new.shared c.next_later-next.ensures c.in_ok-frame.ensures
    (c.begin.ensures ∙ ap (λ (a : Actor). record a { frames = one_frame frame; refused = false }) c.take_later.ensures) c.start_behind.ensures
