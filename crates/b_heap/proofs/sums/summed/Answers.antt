use Rattle.std.proofs.Common.{◌≡◌, ◌+◌, ◌-◌, ℕ, List, ap, ◌∙◌, zero-add, arith}
use Rattle.std.specs.Prelude.{sum_by, slice_index, option_map}
use Rattle.std.proofs.lemmas.List.Sums.{sum_by-cons}
use Rattle.jworld.specs.Classes.{count}
use Rattle.jworld.specs.Upwards.{upwards, on_some, chain}
use Rattle.jworld.proofs.Walking.{way_up, number}
use Rattle.b_heap.proofs.Climbing.{climbed, way_ended}
use Rattle.b_heap.proofs.sums.summed.Goals as goal

pub loop-step-init : goal.loop-step-init
unfolding upwards
loop-step-init c =
    let e : c.count-step-end.result - 0 ≡ count c.args.world.now = omega (arith, c.count-step-end.ensures.count) in
    record {
      sum = zero-add _ ∙ ap (λ most. sum_by (λ n. slice_index c.args.numbers.now n) (on_some (chain most c.args.world.now) (option_map number c.args.start))) e;
      few = omega arith;
    }

pub loop-step-preserved : goal.loop-step-preserved
loop-step-preserved c =
    let f : ℕ → ℕ = λ n. slice_index c.args.numbers.now n in
    let rest : List ℕ = way_up c.args.world.now (c.count-step-end.result - (c.loop-step._step + 1)) c.super_of-next.result in
    let more : sum_by f (way_up c.args.world.now (c.count-step-end.result - c.loop-step._step) c.loop-step.next) ≡ f c.in-Some.class.n + sum_by f rest =
    rw c.in-Some.is (ap (sum_by f) (climbed c.args.world.now c.count-step-end.result c.loop-step._step c.in-Some.class c.super_of-next.result c.loop-step-test.true c.super_of-next.ensures) ∙ sum_by-cons f c.in-Some.class.n rest) in
    record {
      sum = omega (arith, more, c.number_at-total.ensures.value) ∙ c.loop-step.invariant.sum;
      few = omega (arith, c.number_at-total.ensures.bound, c.loop-step.invariant.few);
    }

pub returns-clause-value : goal.returns-clause-value
returns-clause-value c =
    let f : ℕ → ℕ = λ n. slice_index c.args.numbers.now n in
    let none : sum_by f (way_up c.args.world.now (c.count-step-end.result - c.loop-step._step) c.loop-step.next) ≡ 0 =
    ap (sum_by f) (way_ended c.args.world.now c.count-step-end.result c.loop-step._step c.loop-step.next c.loop-step-test.false) in
    omega (arith, none) ∙ c.loop-step.invariant.sum
