use Rattle.std.proofs.Common.{◌≡◌, slice_get, ap, ◌∙◌}
use Rattle.b_heap.specs.Places.{place_of}
use Rattle.b_heap.proofs.fields.Fields.place.Goals as goal

pub returns : goal.returns
returns c =
    let place : slice_get c.row_at-row.result.now c.args.field.n ≡ place_of c.self.inside.world c.args.field =
    rw (c.row_at-row.ensures, c.as_slice.ensures) (c.self.invariant.places c.args.field.class.n c.args.field.n) in
    c.place_in.ensures ∙ place ∙ ap (λ files. place_of files c.args.field) c.self.view_is
