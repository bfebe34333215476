use Rattle.std.proofs.Common.{◌≡◌, ◌∙◌, true, false, Some, None, sym}
use Rattle.jworld.specs.Subtype.{at_run_time, is_reference, reference_in, items_fit}
use Rattle.type_states.specs.Assignable.{items_in}
use Rattle.type_states.proofs.ArrayNames.{items_fit-array, items_fit-number, items_fit-plain, array_fits-array, array_fits-class}
use Rattle.b_heap.proofs.subtypes.+items_fit.Goals as goal

pub returns-in-None : goal.returns-in-None
returns-in-None t c =
    let from : items_in c.args.from.now ≡ None = sym c.in-None.ensures in
    rw (items_fit-plain (at_run_time c.args.world.now) c.args.from.now c.args.to.now from) c.plain_items_fit.ensures

pub returns-in-Some-items_in : goal.returns-in-Some-items_in
returns-in-Some-items_in t c =
    let from : items_in c.args.from.now ≡ Some c.in-Some.items.now = sym c.in-Some.ensures in
    let reference : is_reference c.args.to.now ≡ true = sym c.is_reference.ensures ∙ c.if-is_reference.true in
    let name : items_in (reference_in c.args.to.now) ≡ Some c.in-Some-items_in.to_items.now = rw c.reference_in-name.ensures at (sym c.in-Some-items_in.ensures) in
    rw (items_fit-array (at_run_time c.args.world.now) c.args.from.now c.in-Some.items.now c.args.to.now from reference, array_fits-array (at_run_time c.args.world.now) (items_fit (at_run_time c.args.world.now) c.in-Some.items.now) (reference_in c.args.to.now) c.in-Some-items_in.to_items.now name) c.items_fit.ensures

pub returns-in-None-items_in : goal.returns-in-None-items_in
returns-in-None-items_in t c =
    let from : items_in c.args.from.now ≡ Some c.in-Some.items.now = sym c.in-Some.ensures in
    let reference : is_reference c.args.to.now ≡ true = sym c.is_reference.ensures ∙ c.if-is_reference.true in
    let name : items_in (reference_in c.args.to.now) ≡ None = rw c.reference_in-name.ensures at (sym c.in-None-items_in.ensures) in
    rw (items_fit-array (at_run_time c.args.world.now) c.args.from.now c.in-Some.items.now c.args.to.now from reference, array_fits-class (at_run_time c.args.world.now) (items_fit (at_run_time c.args.world.now) c.in-Some.items.now) (reference_in c.args.to.now) name, ← c.reference_in-name.ensures) c.array_is.ensures

pub returns-else-is_reference : goal.returns-else-is_reference
returns-else-is_reference t c =
    let from : items_in c.args.from.now ≡ Some c.in-Some.items.now = sym c.in-Some.ensures in
    let none : is_reference c.args.to.now ≡ false = sym c.is_reference.ensures ∙ c.if-is_reference.false in
    sym (items_fit-number (at_run_time c.args.world.now) c.args.from.now c.in-Some.items.now c.args.to.now from none)
