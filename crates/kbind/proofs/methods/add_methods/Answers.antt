use Rattle.std.proofs.Common.{◌∙◌, ap, ◌++◌, List}
use Rattle.kes_text.specs.Shown.{shown}
use Rattle.classfile.specs.ClassFile.{MethodInfo}
use Rattle.kbind.specs.Methods.{methods_from}
use Rattle.kbind.proofs.Declaring.{row_is, one_more, all_of_file}
use Rattle.kbind.proofs.methods.add_methods.Goals as goal

pub loop-n-preserved : goal.loop-n-preserved
loop-n-preserved c =
    let method = c.method-item.result in
    let name = c.as_slice.ensures.value ∙ c.in_ok-name.ensures.text ∙ ap shown c.name.ensures in
    let row = row_is c.args.file.now c.args.class.n c.loop-n.n method c.in_ok-word.word.items c.as_slice.result.now name c.in_ok-word.ensures in
    rw c.in_ok-push.ensures.items
    (one_more c.args.file.now c.args.class.n c.loop-n.n c.methods-method-items.result.now method _ c.loop-n.declared.items _ c.loop-n-test.true c.method-item.is row c.loop-n.invariant)

pub returns : goal.returns
returns c =
    all_of_file c.args.file.now c.args.class.n c.loop-n.n c.methods-method-items.result.now c.loop-n.declared.items _ c.loop-n-test.false c.loop-n.invariant
    ∙ ap (λ (ms : List MethodInfo). c.args.declared.now.items ++ methods_from c.args.file.now c.args.class.n 0 ms) c.methods-method-items.ensures
