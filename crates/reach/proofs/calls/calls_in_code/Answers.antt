-- The call of one instruction more, and none behind the last.
use Rattle.std.proofs.Common.{◌≡◌, ◌+◌, ◌++◌, List, ℕ, Option, drop, option_to_list, sym, ap, ◌∙◌, append-nil}
use Rattle.reach.specs.declared.calls.Call.{Call}
use Rattle.reach.specs.Calls.{call_in, calls_from}
use Rattle.reach.proofs.Left.{left, none_behind}
use Rattle.reach.proofs.Calling.{none_left, one_more}
use Rattle.reach.proofs.calls.calls_in_code.Goals as goal

pub loop-ins-preserved : goal.loop-ins-preserved
loop-ins-preserved c =
    let from = calls_from c.args.s.now c.args.pairs.now c.args.site c.args.file.now in
    let here = left c.args.code.now c.loop-ins.ins-index c.ins-item.result c.loop-ins-test.true c.ins-item.is in
    let rest = drop (c.loop-ins.ins-index + 1) c.args.code.now in
    ap (λ (calls : List Call). calls ++ from c.saturating_add-index.result rest) (c.in_ok-put.ensures ∙ ap (λ (call : Option Call). c.loop-ins.calls.items ++ option_to_list call) c.in_ok-call.ensures)
    ∙ ap (λ (index : ℕ). (c.loop-ins.calls.items ++ option_to_list (call_in c.args.s.now c.args.pairs.now c.args.site c.args.file.now c.ins-item.result c.loop-ins.index)) ++ from index rest) c.saturating_add-index.ensures
    ∙ one_more c.args.s.now c.args.pairs.now c.args.site c.args.file.now c.loop-ins.calls.items c.loop-ins.index c.ins-item.result rest
    ∙ ap (λ code. c.loop-ins.calls.items ++ from c.loop-ins.index code) (sym here) ∙ c.loop-ins.invariant

pub returns : goal.returns
returns c =
    let from = calls_from c.args.s.now c.args.pairs.now c.args.site c.args.file.now c.loop-ins.index in
    sym (append-nil c.loop-ins.calls.items)
    ∙ ap (λ (more : List Call). c.loop-ins.calls.items ++ more) (sym (ap from (none_behind c.args.code.now c.loop-ins.ins-index c.loop-ins-test.false) ∙ none_left c.args.s.now c.args.pairs.now c.args.site c.args.file.now c.loop-ins.index))
    ∙ c.loop-ins.invariant
