use Rattle.std.proofs.Common.{◌≡◌, ◌<◌, ◌^◌, List, length, map, reverse, ap, ◌∙◌}
use Rattle.std.specs.List.{flat_map}
use Rattle.jworld.proofs.Walking.{number}
use Rattle.values.specs.declared.value.Value.{Value}
use Rattle.values.specs.Values.{zero_of}
use Rattle.jworld.specs.Upwards.{upwards}
use Rattle.b_heap.specs.Objects.{own_shapes, object_shapes}
use Rattle.b_heap.proofs.Adding.{zeros_are, zeros_few, weaker}
use Rattle.b_heap.proofs.fields.Fields.zeros.Goals as goal

pub returns-clause-value : goal.returns-clause-value
returns-clause-value c =
    let classes : map number c.as_slice.result.now ≡ upwards c.args.self.now c.args.class.n = ap (map number) c.as_slice.ensures.value ∙ c.in_ok-classes.ensures ∙ ap (λ files. upwards files c.args.class.n) c.self.view_is in
    weaker (λ values. values ≡ map zero_of (flat_map (own_shapes c.args.self.now) (map number (reverse c.as_slice.result.now)))) (λ values. values ≡ map zero_of (object_shapes c.args.self.now c.args.class.n))
    (λ values is. is ∙ zeros_are c.args.self.now c.args.class.n c.as_slice.result.now classes) c.zeros_down.result c.zeros_down.ensures

pub returns-clause-few : goal.returns-clause-few
returns-clause-few c =
    let classes : map number c.as_slice.result.now ≡ upwards c.args.self.now c.args.class.n = ap (map number) c.as_slice.ensures.value ∙ c.in_ok-classes.ensures ∙ ap (λ files. upwards files c.args.class.n) c.self.view_is in
    weaker (λ values. values ≡ map zero_of (flat_map (own_shapes c.args.self.now) (map number (reverse c.as_slice.result.now)))) (λ (values : List Value). length values < 2 ^ 31)
    (λ values is. zeros_few c.args.self.now c.args.class.n values (rw c.self.view_is at c.self.invariant.few) (is ∙ zeros_are c.args.self.now c.args.class.n c.as_slice.result.now classes)) c.zeros_down.result c.zeros_down.ensures
