use Rattle.std.proofs.Common.{◌≤◌, ◌∷◌, ◌++◌, [], arith}
use Rattle.std.proofs.lemmas.Result.{err_from_is_err_and}
use Rattle.classfile.specs.Scan.{collect}
use Rattle.classfile.specs.Members.{field_at, fields_at}
use Rattle.classfile.proofs.Repeating.{goes_on, ends, done, collected, not_collected}
use Rattle.classfile.proofs.members.fields_at.Goals as goal

pub returns-in_err-field : goal.returns-in_err-field
returns-in_err-field c =
    let p = err_from_is_err_and c.from_residual-in_err-field.result c.from_residual-in_err-field.ensures.1 in
    let one = not_collected (field_at c.args.pool.now) c.loop.fields.items c.loop.scan c.in_err-field.field-0.0 c.in_err-field.ensures in
    rw (p.1, p.2) (ends (collect (field_at c.args.pool.now)) c.in_ok-count.count c.loop.counter (c.loop.fields.items, c.loop.scan) c.in_err-field.field-0.0 (fields_at c.args.pool.now c.args.start) c.loop-test.true one c.loop.invariant)

pub loop-preserved : goal.loop-preserved
loop-preserved c =
    let one = collected (field_at c.args.pool.now) c.loop.fields.items c.loop.scan c.in_ok-field.field c.in_ok-field.behind c.in_ok-field.ensures in
    rw c.in_ok-push.ensures.items (goes_on (collect (field_at c.args.pool.now)) c.in_ok-count.count c.loop.counter (c.loop.fields.items, c.loop.scan) (c.loop.fields.items ++ c.in_ok-field.field ∷ [], c.in_ok-field.behind) (fields_at c.args.pool.now c.args.start) c.loop-test.true one c.loop.invariant)

pub returns : goal.returns
returns c =
    let over : c.in_ok-count.count ≤ c.loop.counter = omega arith in
    rw c.new.ensures (done (collect (field_at c.args.pool.now)) c.in_ok-count.count c.loop.counter (c.loop.fields.items, c.loop.scan) (fields_at c.args.pool.now c.args.start) over c.loop.invariant)
