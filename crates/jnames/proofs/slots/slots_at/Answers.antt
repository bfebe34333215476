use Rattle.std.proofs.Common.{◌≡◌, ◌-◌, ◌⊎◌, inl, inr, true, sym, ◌∙◌, arith}
use Rattle.jnames.specs.Bytes.{begins_with}
use Rattle.jnames.specs.Descriptors.{slots_of, slots_at}
use Rattle.jnames.proofs.CountingSlots.{goes_on, ends, finished}
use Rattle.jnames.proofs.slots.slots_at.Goals as goal
use Rattle.jnames.proofs.slots.slots_at.Goals.{else-loop-test, then-loop-test+then-begins_with}

pub returns-in_err-found : goal.returns-in_err-found
returns-in_err-found c =
    c.from_residual.ensures ∙ ends c.loop.slots 255 c.loop.counter c.loop.rest (slots_at 255 c.args.bytes.now) c.loop-test.true (sym c.begins_with.ensures ∙ c.if-begins_with.false) c.in_err-found.ensures c.loop.invariant.read

pub loop-preserved : goal.loop-preserved
loop-preserved c =
    let slots_is : c.slots_of.result ≡ slots_of c.in_ok-found.found.shape = cc in
    record {
      bound = omega (arith, c.slots_of.ensures.bound, c.loop.invariant.bound);
      read = rw slots_is (goes_on c.loop.slots 255 c.loop.counter c.loop.rest c.in_ok-found.found c.in_ok-found.behind (slots_at 255 c.args.bytes.now) c.loop-test.true (sym c.begins_with.ensures ∙ c.if-begins_with.false) c.in_ok-found.ensures c.loop.invariant.read);
    }

pub returns-in_err-behind : goal.returns-in_err-behind
returns-in_err-behind c =
    let at_end : (begins_with 41 c.loop.rest ≡ true) ⊎ (255 - c.loop.counter ≡ 0) =
    elim c.loop-test.branch [
      | else-loop-test w ↦ inr (omega (arith, w.loop-test.false))
      | then-loop-test+then-begins_with w ↦ inl (sym w.begins_with.ensures ∙ w.if-begins_with.true)
    ] in
    let done = finished c.loop.slots (255 - c.loop.counter) c.loop.rest (slots_at 255 c.args.bytes.now) at_end c.loop.invariant.read in
    c.from_residual-in_err-behind.ensures ∙ (rw (← c.in_err-behind.ensures) at done)

pub returns : goal.returns
returns c =
    let at_end : (begins_with 41 c.loop.rest ≡ true) ⊎ (255 - c.loop.counter ≡ 0) =
    elim c.loop-test.branch [
      | else-loop-test w ↦ inr (omega (arith, w.loop-test.false))
      | then-loop-test+then-begins_with w ↦ inl (sym w.begins_with.ensures ∙ w.if-begins_with.true)
    ] in
    let done = finished c.loop.slots (255 - c.loop.counter) c.loop.rest (slots_at 255 c.args.bytes.now) at_end c.loop.invariant.read in
    rw (← c.in_ok-behind.ensures) at done
