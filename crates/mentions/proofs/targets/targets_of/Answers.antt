-- The targets of all receivers, or a receiver that has none.
use Rattle.std.proofs.Common.{◌≡◌, ℕ, ◌+◌, ◌-◌, List, sym, ap, ◌∙◌}
use Rattle.std.specs.List.{range_with_len}
use Rattle.mentions.specs.Targets.{Targets, put, gathered}
use Rattle.mentions.proofs.Gathering.{passed_over, has_none, has_one, ended}
use Rattle.mentions.proofs.targets.targets_of.Goals as goal

pub loop-n-preserved-then-not-is_receiver : goal.loop-n-preserved-then-not-is_receiver
loop-n-preserved-then-not-is_receiver c =
    sym (passed_over c.args.world.now c.args.key.now c.args.called.n c.loop-n.targets c.loop-n.n c.count-n-end.result c.loop-n-test.true (sym c.is_receiver.ensures ∙ c.if-not-is_receiver.true)) ∙ c.loop-n.invariant

pub returns-in_default : goal.returns-in_default
returns-in_default c =
    sym (has_none c.args.world.now c.args.key.now c.args.called.n c.loop-n.targets c.loop-n.n c.count-n-end.result c.loop-n-test.true (sym c.is_receiver.ensures ∙ c.if-not-is_receiver.false) (sym c.selection.ensures ∙ c.in_default.is)) ∙ c.loop-n.invariant

pub loop-n-preserved : goal.loop-n-preserved
loop-n-preserved c =
    let classes = range_with_len (c.loop-n.n + 1) (c.count-n-end.result - (c.loop-n.n + 1)) in
    ap (λ (targets : Targets). gathered c.args.world.now c.args.key.now c.args.called.n targets classes) (c.in_ok-put.ensures ∙ ap (λ (name : List ℕ). put c.loop-n.targets name c.in-Some.method) c.name.ensures)
    ∙ sym (has_one c.args.world.now c.args.key.now c.args.called.n c.loop-n.targets c.loop-n.n c.count-n-end.result c.in-Some.method c.loop-n-test.true (sym c.is_receiver.ensures ∙ c.if-not-is_receiver.false) (sym c.selection.ensures ∙ c.in-Some.is))
    ∙ c.loop-n.invariant

pub returns : goal.returns
returns c = sym (ended c.args.world.now c.args.key.now c.args.called.n c.loop-n.targets c.loop-n.n c.count-n-end.result c.loop-n-test.false) ∙ c.loop-n.invariant
