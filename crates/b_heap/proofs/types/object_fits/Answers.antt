use Rattle.std.proofs.Common.{◌≡◌, Bool, true, false, ◌&&◌, ap, sym, ◌∙◌}
use Rattle.jworld.specs.Subtype.{at_run_time, class_fits, is_reference, reference_in}
use Rattle.b_heap.proofs.Descriptors.{object_items}
use Rattle.b_heap.proofs.types.object_fits.Goals as goal

pub returns-then-is_reference : goal.returns-then-is_reference
returns-then-is_reference c =
    let rule = at_run_time c.args.world.now in
    let both : Bool → Bool = λ b. b && class_fits rule c.args.name.now (reference_in c.args.to.now) in
    let reference : true ≡ is_reference c.args.to.now = sym c.if-is_reference.true ∙ c.is_reference.ensures in
    c.class_fits.ensures ∙ ap (λ of. class_fits rule c.args.name.now of) c.reference_in.ensures ∙ ap both reference ∙ sym (object_items rule c.args.name.now c.args.to.now)

pub returns-else-is_reference : goal.returns-else-is_reference
returns-else-is_reference c =
    let rule = at_run_time c.args.world.now in
    let both : Bool → Bool = λ b. b && class_fits rule c.args.name.now (reference_in c.args.to.now) in
    let reference : false ≡ is_reference c.args.to.now = sym c.if-is_reference.false ∙ c.is_reference.ensures in
    c.if-is_reference.false ∙ ap both reference ∙ sym (object_items rule c.args.name.now c.args.to.now)
