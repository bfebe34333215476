-- The number of one more.
use Rattle.std.proofs.Common.{◌++◌, List, ℕ, get_or, option_to_list, position, sym, ap, ◌∙◌}
use Rattle.jworld.proofs.Supering.{filter_map-more}
use Rattle.reaching.specs.declared.pair.Pair.{Pair}
use Rattle.reaching.specs.Order.{is_same}
use Rattle.reach.proofs.calls.numbers_of.Goals as goal

pub loop-target-preserved : goal.loop-target-preserved
loop-target-preserved c =
    let none : Pair = record { domain = 0; method = record { class = record { n = 0 }; n = 0 } } in
    let target = get_or c.args.targets.now c.loop-target.target-index none in
    c.in_ok-add_number.ensures ∙ ap (λ (numbers : List ℕ). numbers ++ option_to_list (position (is_same target) c.args.pairs.now)) c.loop-target.invariant
    ∙ sym (filter_map-more (λ target. position (is_same target) c.args.pairs.now) c.args.targets.now c.loop-target.target-index none c.loop-target-test.true)
