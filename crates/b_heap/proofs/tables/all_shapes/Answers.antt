use Rattle.std.proofs.Common.{◌+◌, ◌≤◌, List, [], ◌∷◌, ◌++◌, length, map, sym, ap, ◌∙◌, arith}
use Rattle.std.specs.List.{range_with_len}
use Rattle.std.proofs.lemmas.List.FromFn.{map-range_with_len_more}
use Rattle.std.proofs.lemmas.List.Elements.{All-append, All-cons, All-nil}
use Rattle.jnames.specs.declared.shape.Shape.{Shape}
use Rattle.b_heap.specs.Objects.{own_shapes}
use Rattle.b_heap.proofs.tables.all_shapes.Goals as goal

pub loop-n-preserved : goal.loop-n-preserved
loop-n-preserved c =
    let one = own_shapes c.args.world.now in
    let few : List Shape → Type 0 = λ own. length own ≤ 65536 in
    record {
      made =
          c.in_ok-push.ensures.ok ∙ ap (λ (all : List (List Shape)). all ++ c.in_ok-own_shapes.field-0 ∷ []) c.loop-n.invariant.made
          ∙ ap (λ (last : List Shape). map one (range_with_len 0 c.loop-n.n) ++ last ∷ []) c.in_ok-own_shapes.ensures.value
          ∙ sym (map-range_with_len_more one 0 c.loop-n.n c.loop-n.n (omega arith));
      few = rw c.in_ok-push.ensures.ok (All-append few c.loop-n.shapes (c.in_ok-own_shapes.field-0 ∷ []) c.loop-n.invariant.few (All-cons few c.in_ok-own_shapes.field-0 [] c.in_ok-own_shapes.ensures.few (All-nil few)));
    }
