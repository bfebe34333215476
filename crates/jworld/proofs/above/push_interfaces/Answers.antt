use Rattle.std.proofs.Common.{append_assoc, ◌≡◌, ap, sym, refl, ◌++◌, take, take_all, filter_map}
use Rattle.jworld.specs.Classes.{class_named}
use Rattle.jworld.proofs.Supering.{filter_map-more, filter_map-map}
use Rattle.jworld.proofs.above.push_interfaces.Goals as goal

pub loop-name-preserved : goal.loop-name-preserved
loop-name-preserved c =
    rw (c.in_ok-push_some.ensures, c.class.ensures, c.loop-name.invariant, append_assoc)
    (ap (λ found. c.args.found.now ++ found) (sym (filter_map-more (λ name. class_named c.args.classes.now name.now) c.interfaces-name-items.result.now c.loop-name.name-index _ c.loop-name-test.true)))

pub returns : goal.returns
returns c =
    let read : filter_map (λ name. class_named c.args.classes.now name.now) (take c.loop-name.name-index c.interfaces-name-items.result.now) ≡ filter_map (class_named c.args.classes.now) c.args.file.now.interfaces =
    rw (take_all c.loop-name.name-index c.interfaces-name-items.result.now c.loop-name-test.false, ← c.interfaces-name-items.ensures) (filter_map-map (class_named c.args.classes.now) (λ name. name.now) c.interfaces-name-items.result.now) in
    rw (c.loop-name.invariant, read) refl
