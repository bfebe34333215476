-- The methods of a class and its superclasses.
use Rattle.std.proofs.Common.{◌≡◌, ℕ, ◌+◌, ◌-◌, ◌++◌, List, Option, Some, None, filter_map, slice_index_or, sym, ap, subst, ◌∙◌, append-nil, arith}
use Rattle.jworld.specs.Classes.{count}
use Rattle.jworld.specs.Upwards.{upwards, chain}
use Rattle.std.specs.List.{cons_option}
use Rattle.jworld.specs.declared.ids.MethodId.{MethodId}
use Rattle.jworld.proofs.Walking.{way_up}
use Rattle.mentions.proofs.Climbing.{way_ended, climbed, with_one}
use Rattle.mentions.proofs.initialising.upwards.Goals as goal

pub loop-step-init : goal.loop-step-init
unfolding upwards
loop-step-init c =
    let e : c.count-step-end.result - 0 ≡ count c.args.world.now = omega (arith, c.count-step-end.ensures.count) in
    rw c.new-found.ensures.items (ap (λ most. filter_map (λ k. slice_index_or c.args.all.now k None) (chain most c.args.world.now c.args.class.n)) e)

pub loop-step-preserved : goal.loop-step-preserved
loop-step-preserved c =
    let find : ℕ → Option MethodId = λ k. slice_index_or c.args.all.now k None in
    let rest = filter_map find (way_up c.args.world.now (c.count-step-end.result - (c.loop-step._step + 1)) c.super_of-next.result) in
    ap (λ (items : List MethodId). items ++ rest) c.in_ok-put.ensures ∙ with_one c.loop-step.found.items rest c.initialiser.result
    ∙ ap (λ (one : Option MethodId). c.loop-step.found.items ++ cons_option one rest) c.initialiser.ensures
    ∙ ap (λ (left : List MethodId). c.loop-step.found.items ++ left) (sym (climbed c.args.world.now c.count-step-end.result c.loop-step._step find c.in-Some.class c.super_of-next.result c.loop-step-test.true c.super_of-next.ensures))
    ∙ rw c.in-Some.is at c.loop-step.invariant

pub returns : goal.returns
returns c =
    sym (append-nil c.loop-step.found.items)
    ∙ ap (λ left. c.loop-step.found.items ++ filter_map (λ k. slice_index_or c.args.all.now k None) left) (sym (way_ended c.args.world.now c.count-step-end.result c.loop-step._step c.loop-step.next c.loop-step-test.false))
    ∙ c.loop-step.invariant
