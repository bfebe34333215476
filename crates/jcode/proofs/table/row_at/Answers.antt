use Rattle.std.proofs.Common.{slice_get, ap, sym, ◌∙◌}
use Rattle.std.proofs.lemmas.Option.{slice_get-map}
use Rattle.jcode.specs.Rows.{form_of}
use Rattle.jcode.proofs.table.row_at.Goals as goal

pub returns : goal.returns
returns c =
    rw c.copied_at.ensures (sym (slice_get-map form_of c.args.rows.now c.args.place) ∙ ap (λ rows. slice_get rows c.args.place) c.requires)
