-- The initialiser of one pair more.
use Rattle.std.proofs.Common.{◌∷◌, [], sym, ap, ◌∙◌, fold}
use Rattle.std.specs.List.{range_with_len}
use Rattle.std.proofs.lemmas.List.Sums.{fold-append}
use Rattle.reach.specs.Starts.{Starts, with_start, put_start}
use Rattle.reach.proofs.Left.{range_more}
use Rattle.reach.proofs.starts.in_order.Goals as goal

pub loop-number-preserved : goal.loop-number-preserved
loop-number-preserved c =
    let put = put_start c.args.world.now c.args.pairs.now in
    let number = c.loop-number.number in
    c.in_ok-add.ensures ∙ ap (λ pair. with_start c.args.world.now c.loop-number.starts number pair) c.get.ensures
    ∙ ap (λ (starts : Starts). put starts number) c.loop-number.invariant
    ∙ sym (ap (fold put []) (range_more number) ∙ fold-append put [] (range_with_len 0 number) (number ∷ []))
