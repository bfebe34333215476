use Rattle.std.proofs.Common.{◌≡◌, Some, None, sym}
use Rattle.jworld.specs.Subtype.{at_run_time, items_fit}
use Rattle.type_states.specs.Assignable.{items_in}
use Rattle.type_states.proofs.ArrayNames.{fits-array, fits-class, array_fits-array, array_fits-class}
use Rattle.b_heap.proofs.subtypes.fits.Goals as goal

pub returns-in-None : goal.returns-in-None
returns-in-None c =
    let from : items_in c.args.from.now ≡ None = sym c.in-None.ensures in
    rw (fits-class (at_run_time c.args.world.now) c.args.from.now c.args.to.now from) c.class_fits.ensures

pub returns-in-Some-items_in : goal.returns-in-Some-items_in
returns-in-Some-items_in c =
    let from : items_in c.args.from.now ≡ Some c.in-Some.items.now = sym c.in-Some.ensures in
    let to : items_in c.args.to.now ≡ Some c.in-Some-items_in.to_items.now = sym c.in-Some-items_in.ensures in
    rw (fits-array (at_run_time c.args.world.now) c.args.from.now c.in-Some.items.now c.args.to.now from, array_fits-array (at_run_time c.args.world.now) (items_fit (at_run_time c.args.world.now) c.in-Some.items.now) c.args.to.now c.in-Some-items_in.to_items.now to) c.items_fit.ensures

pub returns-in-None-items_in : goal.returns-in-None-items_in
returns-in-None-items_in c =
    let from : items_in c.args.from.now ≡ Some c.in-Some.items.now = sym c.in-Some.ensures in
    let to : items_in c.args.to.now ≡ None = sym c.in-None-items_in.ensures in
    rw (fits-array (at_run_time c.args.world.now) c.args.from.now c.in-Some.items.now c.args.to.now from, array_fits-class (at_run_time c.args.world.now) (items_fit (at_run_time c.args.world.now) c.in-Some.items.now) c.args.to.now to) c.array_is.ensures
