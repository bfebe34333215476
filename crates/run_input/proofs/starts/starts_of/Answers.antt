-- The pair of one number more.
use Rattle.std.proofs.Common.{List, ◌++◌, get_or, option_to_list, slice_get, sym, ap, ◌∙◌}
use Rattle.jworld.proofs.Supering.{filter_map-more}
use Rattle.reaching.specs.declared.pair.Pair.{Pair}
use Rattle.run_input.proofs.starts.starts_of.Goals as goal

pub loop-number-preserved : goal.loop-number-preserved
loop-number-preserved c =
    let pairs = c.args.pairs.now in
    let numbers = c.args.numbers.now in
    let n = c.loop-number.number-index in
    c.in_ok-add.ensures
    ∙ ap (λ pair. c.loop-number.starts ++ option_to_list pair) c.get.ensures
    ∙ ap (λ (starts : List Pair). starts ++ option_to_list (slice_get pairs (get_or numbers n 0))) c.loop-number.invariant
    ∙ sym (filter_map-more (slice_get pairs) numbers n 0 c.loop-number-test.true)
