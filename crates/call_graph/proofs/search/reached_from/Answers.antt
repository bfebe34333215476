-- What was found is what is reached.
use Rattle.std.proofs.Common.{◌+◌, List, ℕ, sym, ap, subst, ◌∙◌, length}
use Rattle.call_graph.proofs.Filtering.{put_all}
use Rattle.call_graph.proofs.Searching.{SoFar, at_first, one_more, ends_at_none, ends_at_last}
use Rattle.call_graph.proofs.search.reached_from.Goals as goal

pub loop-place-init : goal.loop-place-init
loop-place-init c =
    let edges = c.args.edges.now in
    let roots = c.args.roots.now in
    let e = c.in_ok-add_below.ensures ∙ ap (λ (numbers : List ℕ). put_all (length edges) numbers roots) c.new-numbers.ensures in
    subst (SoFar edges roots 0) (sym e) (at_first edges roots)

pub returns-in_default : goal.returns-in_default
returns-in_default c = ends_at_none c.args.edges.now c.args.roots.now c.loop-place.place c.loop-place.numbers c.loop-place.invariant (sym c.get.ensures ∙ c.in_default.is)

pub loop-place-preserved : goal.loop-place-preserved
loop-place-preserved c =
    let edges = c.args.edges.now in
    let roots = c.args.roots.now in
    subst (SoFar edges roots (c.loop-place.place + 1)) (sym c.in_ok-look_at.ensures)
    (one_more edges roots c.loop-place.place c.loop-place.numbers c.in-Some.number c.loop-place.invariant (sym c.get.ensures ∙ c.in-Some.is))

pub returns : goal.returns
returns c = ends_at_last c.args.edges.now c.args.roots.now c.loop-place.place c.loop-place.numbers c.loop-place.invariant c.loop-place-test.false
