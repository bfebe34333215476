use Rattle.std.proofs.Common.{◌≡◌, ◌++◌, codes, append_assoc}
use Rattle.csubset.specs.declared.statement.CService.TheVariants.{SetEvent}
use Rattle.csubset.specs.Text.Services.{mask_text, service_text}
use Rattle.c_out.proofs.service.append_set_event.Goals as goal

pub returns : goal.returns
returns c =
    let regrouped : c.args.out.now.items ++ service_text (SetEvent c.args.task.now c.args.events.now) ≡ c.append_opening.new.out.items ++ (codes ", " ++ mask_text c.args.events.now ++ codes ")") = rw c.in_ok-append_opening.ensures (simp append_assoc) in
    rw regrouped c.append_last_mask.ensures
