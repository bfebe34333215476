use Rattle.std.proofs.Common.{◌≡◌, ◌<◌, ◌≤◌, length, get_or, arith, ◌∙◌, ap, List, Ok, Err, subst}
use Rattle.classfile.specs.Scan.{OrNoMemory}
use Rattle.std.proofs.lemmas.Result.{err_from_is_err_and}
use Rattle.classfile.specs.ClassFile.{MethodInfo}
use Rattle.class_census.specs.Counted.{instructions_of, all_instructions, standing_still}
use Rattle.class_census.proofs.Counting.{starts, goes_on, ends, is_done}
use Rattle.class_census.proofs.census.all_instructions.Goals as goal

pub loop-method-init : goal.loop-method-init
loop-method-init c = record { small = omega arith; so_far = starts (all_instructions c.args.class.now c.args.class.now.methods) }

pub returns-in_err-instructions_of : goal.returns-in_err-instructions_of
returns-in_err-instructions_of c =
    let p = err_from_is_err_and c.from_residual.result c.from_residual.ensures.1 in
    let same : c.methods-method-items.result.now ≡ c.args.class.now.methods = c.methods-method-items.ensures in
    let lt : c.loop-method.method-index < length c.args.class.now.methods = omega (arith, c.loop-method-test.true, ap length same) in
    let is : c.method-item.result ≡ get_or c.args.class.now.methods c.loop-method.method-index c.method-item.result = c.method-item.is ∙ ap (λ (m : List MethodInfo). get_or m c.loop-method.method-index c.method-item.result) same in
    let told = subst (λ (m : MethodInfo). OrNoMemory (Err c.in_err-instructions_of.field-0.0) (instructions_of c.args.class.now m.code)) c.method.view_is c.in_err-instructions_of.ensures in
    rw (p.1, p.2) (ends c.args.class.now c.args.class.now.methods c.loop-method.method-index c.method-item.result c.loop-method.total c.in_err-instructions_of.field-0.0 (standing_still (all_instructions c.args.class.now c.args.class.now.methods)) lt is told c.loop-method.invariant.so_far)

pub loop-method-preserved : goal.loop-method-preserved
loop-method-preserved c =
    let same : c.methods-method-items.result.now ≡ c.args.class.now.methods = c.methods-method-items.ensures in
    let lt : c.loop-method.method-index < length c.args.class.now.methods = omega (arith, c.loop-method-test.true, ap length same) in
    let is : c.method-item.result ≡ get_or c.args.class.now.methods c.loop-method.method-index c.method-item.result = c.method-item.is ∙ ap (λ (m : List MethodInfo). get_or m c.loop-method.method-index c.method-item.result) same in
    let told = subst (λ (m : MethodInfo). Ok c.in_ok-instructions_of.field-0 ≡ instructions_of c.args.class.now m.code) c.method.view_is c.in_ok-instructions_of.ensures in
    record {
      small = omega arith;
      so_far = rw c.saturating_add-total.ensures (goes_on c.args.class.now c.args.class.now.methods c.loop-method.method-index c.method-item.result c.loop-method.total c.in_ok-instructions_of.field-0 (standing_still (all_instructions c.args.class.now c.args.class.now.methods)) lt is told c.loop-method.invariant.so_far);
    }

pub returns : goal.returns
returns c =
    let le : length c.args.class.now.methods ≤ c.loop-method.method-index = omega (arith, c.loop-method-test.false, ap length c.methods-method-items.ensures) in
    is_done c.args.class.now c.args.class.now.methods c.loop-method.method-index c.loop-method.total (standing_still (all_instructions c.args.class.now c.args.class.now.methods)) le c.loop-method.invariant.small c.loop-method.invariant.so_far
