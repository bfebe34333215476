-- Past the last slot there is none.
use Rattle.std.proofs.Common.{ap, ◌∙◌, false}
use Rattle.std.specs.Prelude.{unwrap_or, slice_index_or}
use Rattle.std.proofs.lemmas.Option.{unwrap_or-slice_get}
use Rattle.first_form.proofs.first_class.held.is_stored.Goals as goal

pub returns-in-None : goal.returns-in-None
returns-in-None c =
    let stored = c.args.held.now.stored in
    ap (λ o. unwrap_or o false) c.in-None.ensures.value
    ∙ unwrap_or-slice_get stored c.from.result false
    ∙ ap (λ slot. slice_index_or stored slot false) c.from.ensures
