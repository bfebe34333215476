-- What the instructions mention, or the first that is refused.
use Rattle.std.proofs.Common.{◌+◌, drop, sym, ap, ◌∙◌}
use Rattle.std.proofs.lemmas.Result.{err_from_is_err_and}
use Rattle.reaching.specs.declared.graph.Mention.{Mention}
use Rattle.reach.specs.Methods.{gathered}
use Rattle.reach.proofs.Gathering.{none_left, goes_on, stops}
use Rattle.reach.proofs.Left.{left, none_behind}
use Rattle.reach.proofs.instructions.gathered.Goals as goal

pub returns-in_err-called : goal.returns-in_err-called
returns-in_err-called c =
    let p = err_from_is_err_and c.from_residual.result c.from_residual.ensures.1 in
    let all = gathered c.args.s.now c.args.domain c.args.own.n c.args.file.now c.args.base in
    let here = left c.args.code.now c.loop-ins.ins-index c.ins-item.result c.loop-ins-test.true c.ins-item.is in
    rw (p.1, p.2)
    (stops c.args.s.now c.args.domain c.args.own.n c.args.file.now c.args.base c.loop-ins.mention c.ins-item.result (drop (c.loop-ins.ins-index + 1) c.args.code.now) c.in_err-called.field-0.0 (all c.args.first c.args.code.now)
    c.in_err-called.ensures (ap (all c.loop-ins.mention) (sym here) ∙ c.loop-ins.invariant))

pub loop-ins-preserved : goal.loop-ins-preserved
loop-ins-preserved c =
    let all = gathered c.args.s.now c.args.domain c.args.own.n c.args.file.now c.args.base in
    let here = left c.args.code.now c.loop-ins.ins-index c.ins-item.result c.loop-ins-test.true c.ins-item.is in
    let rest = drop (c.loop-ins.ins-index + 1) c.args.code.now in
    ap (λ (mention : Mention). all mention rest) c.in_ok-add.ensures
    ∙ sym (goes_on c.args.s.now c.args.domain c.args.own.n c.args.file.now c.args.base c.loop-ins.mention c.ins-item.result rest c.in_ok-called.called (sym c.in_ok-called.ensures))
    ∙ ap (all c.loop-ins.mention) (sym here) ∙ c.loop-ins.invariant

pub returns : goal.returns
returns c =
    let all = gathered c.args.s.now c.args.domain c.args.own.n c.args.file.now c.args.base in
    sym (none_left c.args.s.now c.args.domain c.args.own.n c.args.file.now c.args.base c.loop-ins.mention)
    ∙ ap (all c.loop-ins.mention) (sym (none_behind c.args.code.now c.loop-ins.ins-index c.loop-ins-test.false)) ∙ c.loop-ins.invariant
