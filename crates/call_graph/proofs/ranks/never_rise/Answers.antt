-- The edges of one number more don't rise.
use Rattle.std.proofs.Common.{◌≡◌, ℕ, true, nat_le, [], Some, sym, ap, ◌∙◌}
use Rattle.std.specs.List.{list_all}
use Rattle.std.proofs.lemmas.Option.{slice_get-get_or, get_or_from_slice_get}
use Rattle.jworld.specs.Edges.{graph_of}
use Rattle.call_graph.specs.Ranks.{rank}
use Rattle.call_graph.proofs.Falling.{one_more}
use Rattle.call_graph.proofs.ranks.never_rise.Goals as goal

pub loop-number-preserved : goal.loop-number-preserved
loop-number-preserved c =
    let edges = c.args.edges.now in
    let ranks = c.args.ranks.now in
    let number = c.loop-number.number in
    let nexts = c.index-edges-number.result in
    let there = slice_get-get_or edges number nexts c.loop-number-test.true ∙ ap Some (sym c.index-edges-number.is) in
    let are : graph_of edges number ≡ c.as_slice.result.now = get_or_from_slice_get edges number nexts [] there ∙ sym c.as_slice.ensures in
    let all : list_all (λ next. nat_le (rank ranks next) (rank ranks number)) (graph_of edges number) ≡ true =
    ap (list_all (λ next. nat_le (rank ranks next) (rank ranks number))) are
    ∙ ap (λ (most : ℕ). list_all (λ next. nat_le (rank ranks next) most) c.as_slice.result.now) (sym c.rank_of-most.ensures) ∙ sym c.are_at_most.ensures ∙ c.if-not-are_at_most.false
    in
    one_more edges ranks number all c.loop-number.invariant
