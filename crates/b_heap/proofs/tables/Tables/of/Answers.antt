use Rattle.std.proofs.Common.{[], ℕ, List, length, slice_index, slice_index_or, refl, subst, sym, ap, ◌∙◌}
use Rattle.jnames.specs.declared.shape.Shape.{Shape}
use Rattle.jworld.specs.Classes.{count}
use Rattle.b_heap.specs.Objects.{object_cost, level_cost}
use Rattle.b_heap.specs.Held.{TellsPlaces}
use Rattle.b_heap.proofs.Told.{told, told_of_rows, tells_shapes, few_shapes}
use Rattle.b_heap.proofs.Adding.{cost_past, are_few}
use Rattle.b_heap.proofs.Placed.{tells_places}
use Rattle.b_heap.proofs.tables.Tables.of.Goals as goal

pub object_costs-requires-clause-tells : goal.object_costs-requires-clause-tells
object_costs-requires-clause-tells c class =
    let shapes = tells_shapes c.args.world.now c.in_ok-shapes.shapes c.in_ok-shapes.ensures.value class in
    ap (λ (levels : List ℕ). slice_index levels class) (c.as_slice-2.ensures ∙ c.in_ok-levels.ensures.value)
    ∙ told_of_rows level_cost c.as_slice.result.now class refl
    ∙ ap (λ (rows : List (List Shape)). level_cost (slice_index_or rows class [])) c.as_slice.ensures
    ∙ ap level_cost shapes

pub all_places-requires-clause-tells : goal.all_places-requires-clause-tells
all_places-requires-clause-tells c class =
    let shapes = tells_shapes c.args.world.now c.in_ok-shapes.shapes c.in_ok-shapes.ensures.value class in
    ap (λ (counts : List ℕ). slice_index counts class) (c.as_slice-4.ensures ∙ c.in_ok-counts.ensures.value)
    ∙ told_of_rows length c.as_slice-3.result.now class refl
    ∙ ap (λ (rows : List (List Shape)). length (slice_index_or rows class [])) c.as_slice-3.ensures
    ∙ ap length shapes

pub returns : goal.returns
returns c =
    let shapes = tells_shapes c.args.world.now c.in_ok-shapes.shapes c.in_ok-shapes.ensures.value in
    record {
      shapes = shapes;
      costs = λ class.
          ap (λ (costs : List ℕ). slice_index_or costs class 8) c.in_ok-costs.ensures
          ∙ told (object_cost c.args.world.now) (count c.args.world.now) 8 (cost_past c.args.world.now) class;
      few = are_few c.args.world.now c.in_ok-shapes.ensures.classes (few_shapes c.args.world.now c.in_ok-shapes.shapes shapes c.in_ok-shapes.ensures.few);
      places = subst (TellsPlaces c.args.world.now) (sym c.in_ok-places.ensures) (tells_places c.args.world.now);
    }
