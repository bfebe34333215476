use Rattle.std.proofs.Common.{◌≡◌, ◌∷◌, length, true, is_ok, ap, ◌∙◌, arith}
use Rattle.osek_core.proofs.Queues.{without-shorter, moved-same}
use Rattle.osek_core.proofs.scheduler.move_first_job.Goals as goal

pub returns-then-before-after-clause-items : goal.returns-then-before-after-clause-items
returns-then-before-after-clause-items c =
    let jobs = c.args.jobs.now.items in
    let shorter = without-shorter jobs c.args.before c.requires in
    let long = ap length c.remove_first_job.ensures.items in
    let ok : is_ok c.insert.result ≡ true = c.insert.ensures.succeeds (omega (arith, shorter, long, c.args.jobs.now.ok.0)) in
    let items = rw ok at c.insert.ensures.items in
    items ∙ ap (λ l. record { task = c.args.task; priority = c.args.after } ∷ l) c.remove_first_job.ensures.items ∙ moved-same jobs c.args.before c.args.after c.args.task c.if-before-after.true

pub returns-then-before-after-clause-room : goal.returns-then-before-after-clause-room
returns-then-before-after-clause-room c =
    let jobs = c.args.jobs.now.items in
    let shorter = without-shorter jobs c.args.before c.requires in
    let long = ap length c.remove_first_job.ensures.items in
    let place = c.insert.ensures.in_place (omega (arith, shorter, long, c.args.jobs.now.ok.0)) in
    place.1.0 ∙ c.remove_first_job.ensures.room
