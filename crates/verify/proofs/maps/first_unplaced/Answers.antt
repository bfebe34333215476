use Rattle.std.proofs.Common.{◌≡◌, ◌∙◌, List, None, ap, sym}
use Rattle.std.proofs.lemmas.List.{drop_all}
use Rattle.stackmap.specs.declared.frame.Declared.{Declared}
use Rattle.verify.specs.Placing.{first_unplaced}
use Rattle.verify.proofs.Rising.{placed-rise}
use Rattle.verify.proofs.maps.first_unplaced.Goals as goal

pub returns-clause-rise : goal.returns-clause-rise
returns-clause-rise c =
    let none : first_unplaced c.args.starts.now 0 c.args.maps.now ≡ None =
    sym c.loop-declared.invariant ∙ ap (λ (maps : List Declared). first_unplaced c.args.starts.now c.loop-declared.least maps) (drop_all c.loop-declared.declared-index c.args.maps.now c.loop-declared-test.false) in
    placed-rise c.args.starts.now 0 c.args.maps.now none
