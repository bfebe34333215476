-- The pairs are few enough to have numbers of 32 bits, and what is told of them is what is reached.
use Rattle.std.proofs.Common.{List, Result, sym, subst, ap, ◌∙◌}
use Rattle.kes_text.specs.declared.refusal.Stop.{Stop}
use Rattle.kes_text.specs.Answers.{◌>>=◌, OrNoMemory}
use Rattle.reaching.specs.declared.pair.Pair.{Pair}
use Rattle.reach.specs.Reach.{reached_or_refused, reach_of}
use Rattle.reach.proofs.Few.{are_few}
use Rattle.reach.proofs.reached.reach.Goals as goal

pub reached_by-requires : goal.reached_by-requires
reached_by-requires c = are_few _ c.in_ok-pairs.pairs (sym c.in_ok-pairs.ensures)

pub returns : goal.returns
unfolding reach_of
returns c =
    let setting = c.in_ok-setting.setting in
    subst (OrNoMemory c.reached_by.result)
    (ap (λ (pairs : Result (List Pair) Stop). pairs >>= reached_or_refused setting) c.in_ok-pairs.ensures ∙ ap reach_of c.in_ok-setting.ensures) c.reached_by.ensures
