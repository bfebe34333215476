use Rattle.std.proofs.Common.{◌≡◌, ◌∙◌, ◌+◌, ◌-◌, ◌<◌, ◌++◌, length, take, map, reverse, get_or, ap, subst, arith}
use Rattle.stackmap.specs.Start.{type_of}
use Rattle.type_states.proofs.Reversed.{read_back}
use Rattle.typing_rules.proofs.members.arguments.Goals as goal

pub loop-at-preserved : goal.loop-at-preserved
loop-at-preserved c =
    let at : c.loop-at.at ≡ (c.loop-at.at - 1) + 1 = omega arith in
    let lt : c.loop-at.at - 1 < length c.parameters-parameters.result.now = omega arith in
    let so_far : c.loop-at.types ++ reverse (map type_of (take ((c.loop-at.at - 1) + 1) c.parameters-parameters.result.now)) ≡ reverse (map type_of c.parameters-parameters.result.now) =
    subst (λ n. c.loop-at.types ++ reverse (map type_of (take n c.parameters-parameters.result.now)) ≡ reverse (map type_of c.parameters-parameters.result.now)) at c.loop-at.invariant.so_far in
    let item : c.in_ok-type_of.field-0 ≡ type_of (get_or c.parameters-parameters.result.now (c.loop-at.at - 1) c.index-parameters-at.result) = c.in_ok-type_of.ensures ∙ ap type_of c.index-parameters-at.is in
    record {
      within = omega arith;
      so_far = rw (c.in_ok-push.ensures.ok, item) (read_back type_of c.parameters-parameters.result.now c.loop-at.types (reverse (map type_of c.parameters-parameters.result.now)) (c.loop-at.at - 1) c.index-parameters-at.result lt so_far);
    }
