use Rattle.std.proofs.Common.{ℕ, Option, length, option_map, slice_index, sym, ap, ◌∙◌}
use Rattle.jworld.specs.Classes.{super_of}
use Rattle.jworld.specs.Upwards.{upwards, on_some}
use Rattle.jworld.proofs.Walking.{number}
use Rattle.b_heap.specs.Objects.{own_shapes, object_shapes}
use Rattle.b_heap.proofs.Adding.{same_sums, length_above}
use Rattle.b_heap.proofs.tables.slots_above.Goals as goal

pub returns-clause-value : goal.returns-clause-value
returns-clause-value c =
    c.summed.ensures.value
    ∙ same_sums (λ n. slice_index c.args.counts.now n) (λ n. length (own_shapes c.args.world.now n)) c.requires.tells (on_some (upwards c.args.world.now) (option_map number c.super_of.result))
    ∙ sym (length_above c.args.world.now (option_map number c.super_of.result))
    ∙ ap (λ (next : Option ℕ). length (on_some (object_shapes c.args.world.now) next)) c.super_of.ensures
