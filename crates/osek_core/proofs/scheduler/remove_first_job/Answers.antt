use Rattle.std.proofs.Common.{◌∙◌, sym, nat_eq}
use Rattle.osek_core.proofs.Queues.{remove-without, without-none}
use Rattle.osek_core.proofs.scheduler.remove_first_job.Goals as goal

pub returns-in-Some-clause-items : goal.returns-in-Some-clause-items
returns-in-Some-clause-items c =
    let e = remove-without (λ job. nat_eq job.priority c.args.priority) c.deref.result.now c.in-Some.place (sym c.first_place.ensures.place ∙ c.in-Some.is) in
    cc

pub returns-in_default-clause-items : goal.returns-in_default-clause-items
returns-in_default-clause-items c =
    let e = without-none (λ job. nat_eq job.priority c.args.priority) c.deref.result.now (sym c.first_place.ensures.place ∙ c.in_default.is) in
    cc
