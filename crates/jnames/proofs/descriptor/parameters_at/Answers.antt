use Rattle.std.proofs.Common.{◌≡◌, ◌-◌, ◌⊎◌, inl, inr, true, sym, ◌∙◌, arith}
use Rattle.jnames.specs.Bytes.{begins_with}
use Rattle.jnames.specs.Descriptors.{parameters_at}
use Rattle.jnames.proofs.OneByOne.{goes_on, ends, finished}
use Rattle.jnames.proofs.descriptor.parameters_at.Goals as goal
use Rattle.jnames.proofs.descriptor.parameters_at.Goals.{else-loop-test, then-loop-test+then-begins_with}

pub returns-in_default : goal.returns-in_default
returns-in_default c =
    ends c.loop.types.items 255 c.loop.counter c.loop.rest (parameters_at 255 c.args.bytes.now) c.loop-test.true (sym c.begins_with.ensures ∙ c.if-begins_with.false) c.in_default.ensures c.loop.invariant

pub loop-preserved : goal.loop-preserved
loop-preserved c =
    rw (c.in_ok-push.ensures.items, c.in_ok-to_param.ensures)
    (goes_on c.loop.types.items 255 c.loop.counter c.loop.rest c.in-Some.found c.in-Some.behind (parameters_at 255 c.args.bytes.now) c.loop-test.true (sym c.begins_with.ensures ∙ c.if-begins_with.false) c.in-Some.ensures c.loop.invariant)

pub returns-in-Some-behind : goal.returns-in-Some-behind
returns-in-Some-behind c =
    let at_end : (begins_with 41 c.loop.rest ≡ true) ⊎ (255 - c.loop.counter ≡ 0) =
    elim c.loop-test.branch [
      | else-loop-test w ↦ inr (omega (arith, w.loop-test.false))
      | then-loop-test+then-begins_with w ↦ inl (sym w.begins_with.ensures ∙ w.if-begins_with.true)
    ] in
    let done = finished c.loop.types.items (255 - c.loop.counter) c.loop.rest (parameters_at 255 c.args.bytes.now) at_end c.loop.invariant in
    rw (← c.in-Some-behind.ensures) at done

pub returns : goal.returns
returns c =
    let at_end : (begins_with 41 c.loop.rest ≡ true) ⊎ (255 - c.loop.counter ≡ 0) =
    elim c.loop-test.branch [
      | else-loop-test w ↦ inr (omega (arith, w.loop-test.false))
      | then-loop-test+then-begins_with w ↦ inl (sym w.begins_with.ensures ∙ w.if-begins_with.true)
    ] in
    let done = finished c.loop.types.items (255 - c.loop.counter) c.loop.rest (parameters_at 255 c.args.bytes.now) at_end c.loop.invariant in
    rw (← c.in-None.ensures) at done
