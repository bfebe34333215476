use Rattle.std.proofs.Common.{◌≡◌, ◌<◌, ◌+◌, true, false, length, refl, sym, ◌∙◌}
use Rattle.jworld.specs.Above.{is_above}
use Rattle.jworld.specs.Faults.{first_of_files, cycle_fault}
use Rattle.jworld.proofs.FirstFault.{fault_at_place, no_fault_at_place}
use Rattle.jworld.proofs.cycles.cycle_fault.Goals as goal

pub returns-then-has : goal.returns-then-has
returns-then-has c =
    let within : c.loop-i.i < length c.args.classes.now = rw (← c.files-files.ensures.files) c.loop-i-test.true in
    let above : is_above c.args.classes.now (4 + c.loop-i.i) (4 + c.loop-i.i) ≡ true = sym (c.requires _ _) ∙ sym c.if-has.ensures in
    fault_at_place (cycle_fault c.args.classes.now) c.args.classes.now c.loop-i.i within (first_of_files cycle_fault c.args.classes.now) c.loop-i.invariant _ (λ file. rw above refl)

pub loop-i-preserved : goal.loop-i-preserved
loop-i-preserved c =
    let within : c.loop-i.i < length c.args.classes.now = rw (← c.files-files.ensures.files) c.loop-i-test.true in
    let above : is_above c.args.classes.now (4 + c.loop-i.i) (4 + c.loop-i.i) ≡ false = sym (c.requires _ _) ∙ sym c.if-has.ensures in
    no_fault_at_place (cycle_fault c.args.classes.now) c.args.classes.now c.loop-i.i within (first_of_files cycle_fault c.args.classes.now) c.loop-i.invariant (λ file. rw above refl)
