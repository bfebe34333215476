use Rattle.std.proofs.Common.{◌≡◌, ◌+◌, ◌-◌, ℕ, List, [], ◌∷◌, ◌++◌, map, sym, ap, ◌∙◌, append-nil, append_assoc, arith}
use Rattle.std.proofs.lemmas.List.{map-append}
use Rattle.jworld.specs.declared.ids.ClassId.{ClassId}
use Rattle.jworld.specs.Classes.{count}
use Rattle.jworld.specs.Upwards.{upwards, chain}
use Rattle.jworld.proofs.Walking.{way_up, number}
use Rattle.b_heap.proofs.Climbing.{climbed, way_ended}
use Rattle.b_heap.proofs.fields.upwards.Goals as goal

pub loop-step-init : goal.loop-step-init
unfolding upwards
loop-step-init c =
    let e : c.count-step-end.result - 0 ≡ count c.args.world.now = omega (arith, c.count-step-end.ensures.count) in
    rw c.new-found.ensures.items (ap (λ most. chain most c.args.world.now c.args.class.n) e)

pub loop-step-preserved : goal.loop-step-preserved
loop-step-preserved c =
    let rest : List ℕ = way_up c.args.world.now (c.count-step-end.result - (c.loop-step._step + 1)) c.super_of-next.result in
    let before : map number c.loop-step.found.items ++ way_up c.args.world.now (c.count-step-end.result - c.loop-step._step) c.loop-step.next ≡ upwards c.args.world.now c.args.class.n = c.loop-step.invariant in
    let more = climbed c.args.world.now c.count-step-end.result c.loop-step._step c.in-Some.class c.super_of-next.result c.loop-step-test.true c.super_of-next.ensures in
    ap (λ (items : List ClassId). map number items ++ rest) c.in_ok-push.ensures.items
    ∙ ap (λ (ns : List ℕ). ns ++ rest) (map-append number c.loop-step.found.items (c.in-Some.class ∷ []))
    ∙ append_assoc (map number c.loop-step.found.items) (c.in-Some.class.n ∷ []) rest
    ∙ ap (λ (ns : List ℕ). map number c.loop-step.found.items ++ ns) (sym more)
    ∙ rw c.in-Some.is at before

pub returns : goal.returns
returns c =
    sym (append-nil (map number c.loop-step.found.items))
    ∙ ap (λ (left : List ℕ). map number c.loop-step.found.items ++ left) (sym (way_ended c.args.world.now c.count-step-end.result c.loop-step._step c.loop-step.next c.loop-step-test.false))
    ∙ c.loop-step.invariant
