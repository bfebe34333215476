-- Targets of lower ranks lead nowhere back.
use Rattle.std.proofs.Common.{◌≡◌, ℕ, true, nat_lt, List, sym, ap, ◌∙◌}
use Rattle.std.specs.List.{list_all}
use Rattle.call_graph.specs.Ranks.{rank}
use Rattle.call_graph.proofs.Falling.{leads_nowhere_back}
use Rattle.call_graph.proofs.cycles.Cycles.has.Goals as goal

pub returns-then-are_lower : goal.returns-then-are_lower
returns-then-are_lower c =
    let ranks = c.self.inside.ranks.items in
    let call = c.args.call.now in
    let of_ranks = c.as_slice-ranks.ensures.value in
    let of_rank = c.rank_of-rank.ensures ∙ ap (λ (rs : List ℕ). rank rs call.pair) of_ranks in
    let lower : list_all (λ target. nat_lt (rank ranks target) (rank ranks call.pair)) call.targets ≡ true =
    ap (list_all (λ target. nat_lt (rank ranks target) (rank ranks call.pair))) (sym c.as_slice.ensures)
    ∙ ap (λ (limit : ℕ). list_all (λ target. nat_lt (rank ranks target) limit) c.as_slice.result.now) (sym of_rank)
    ∙ ap (λ (rs : List ℕ). list_all (λ target. nat_lt (rank rs target) c.rank_of-rank.result) c.as_slice.result.now) (sym of_ranks)
    ∙ sym c.are_lower.ensures ∙ c.if-are_lower.true
    in
    rw (← c.self.view_is) (sym (leads_nowhere_back c.self.inside.edges.now ranks c.self.invariant call.targets call.pair lower))
