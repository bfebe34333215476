use Rattle.std.proofs.Common.{◌≤◌, ◌∷◌, ◌++◌, [], arith}
use Rattle.std.proofs.lemmas.Result.{err_from_is_err_and}
use Rattle.classfile.proofs.Repeating.{goes_on, ends, done}
use Rattle.stackmap.specs.Items.{item_at, another_item, items_at}
use Rattle.stackmap.proofs.Another.{another, no_other}
use Rattle.stackmap.proofs.items.items_at.Goals as goal

pub returns-in_err-item : goal.returns-in_err-item
returns-in_err-item c =
    let p = err_from_is_err_and c.from_residual.result c.from_residual.ensures.1 in
    let one = no_other c.loop.items c.in_err-item.field-0.0 (item_at c.args.table.now c.loop.rest) c.in_err-item.ensures in
    rw (p.1, p.2) (ends (another_item c.args.table.now) c.args.count c.loop.counter (c.loop.items, c.loop.rest) c.in_err-item.field-0.0 (items_at c.args.table.now c.args.before c.args.count c.args.rest) c.loop-test.true one c.loop.invariant)

pub loop-preserved : goal.loop-preserved
loop-preserved c =
    let one = another c.loop.items c.in_ok-item.item c.in_ok-item.behind (item_at c.args.table.now c.loop.rest) c.in_ok-item.ensures in
    rw c.in_ok-push.ensures.ok (goes_on (another_item c.args.table.now) c.args.count c.loop.counter (c.loop.items, c.loop.rest) (c.loop.items ++ c.in_ok-item.item ∷ [], c.in_ok-item.behind) (items_at c.args.table.now c.args.before c.args.count c.args.rest) c.loop-test.true one c.loop.invariant)

pub returns : goal.returns
returns c =
    let over : c.args.count ≤ c.loop.counter = omega arith in
    done (another_item c.args.table.now) c.args.count c.loop.counter (c.loop.items, c.loop.rest) (items_at c.args.table.now c.args.before c.args.count c.args.rest) over c.loop.invariant
