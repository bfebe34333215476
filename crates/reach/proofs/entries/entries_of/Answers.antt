-- Each task has its entry.
use Rattle.std.proofs.Common.{◌≡◌, ℕ, suc, ◌+◌, List, [], ◌∷◌, ◌++◌, map, take, get_or, Some, sym, ap, ◌∙◌, arith}
use Rattle.std.specs.Prelude.{zip}
use Rattle.std.proofs.lemmas.Option.{slice_get-get_or}
use Rattle.std.proofs.lemmas.List.{map_push}
use Rattle.jworld.specs.declared.ids.MethodId.{MethodId}
use Rattle.kconfig.specs.declared.config.TaskLine.{TaskLine}
use Rattle.reaching.specs.declared.pair.Pair.{Pair}
use Rattle.mentions.proofs.Zipping.{first_ends, second_ends, one_more}
use Rattle.reach.specs.Pairs.{entry, entries_of}
use Rattle.reach.proofs.entries.entries_of.Goals as goal

pub returns-in_default : goal.returns-in_default
returns-in_default c =
    let ended = rw c.in_default.is at c.get.ensures.lookup in
    c.loop-n.invariant ∙ ap (map entry) (first_ends c.args.tasks.now c.args.entries.now c.loop-n.n ended.3)

pub loop-n-preserved : goal.loop-n-preserved
loop-n-preserved c =
    let next : suc c.loop-n.n ≡ c.loop-n.n + 1 = omega arith in
    let found = rw c.in-Some.is at c.get.ensures.lookup in
    let task = slice_get-get_or c.args.tasks.now c.loop-n.n c.in-Some.task.now found.3.0 ∙ ap Some (sym found.1) in
    let none : MethodId = record { class = record { n = 0 }; n = 0 } in
    let last : TaskLine × MethodId = (c.in-Some.task.now, get_or c.args.entries.now c.loop-n.n none) in
    let both = zip (take c.loop-n.n c.args.tasks.now) (take c.loop-n.n c.args.entries.now) in
    let one = one_more c.args.tasks.now c.args.entries.now c.loop-n.n c.in-Some.task.now none task c.loop-n-test.true in
    c.in_ok-push.ensures.ok ∙ ap (λ (pairs : List Pair). pairs ++ entry last ∷ []) c.loop-n.invariant ∙ sym (map_push entry both last)
    ∙ ap (map entry) (sym one) ∙ ap (λ (k : ℕ). entries_of (take k c.args.tasks.now) (take k c.args.entries.now)) next

pub returns : goal.returns
returns c = c.loop-n.invariant ∙ ap (map entry) (second_ends c.args.tasks.now c.args.entries.now c.loop-n.n c.loop-n-test.false)
