use Rattle.std.proofs.Common.{◌≡◌, ◌<◌, ◌+◌, Bool, ◌||◌, ◌&&◌, List, length, get_or, ◌∙◌, sym, ap}
use Rattle.classfile.specs.ClassFile.{ClassInfo, MethodInfo}
use Rattle.jworld.specs.Alone.{declare_alone, alone_among}
use Rattle.jworld.proofs.AloneMore.{alone_among-more}
use Rattle.jworld.proofs.alone.alone_of.Goals as goal

pub loop-i-preserved : goal.loop-i-preserved
loop-i-preserved c = λ name descriptor test.
    let files = c.files-file-items.ensures.files in
    let within : c.loop-i.i < length c.args.classes.now = rw (← files) c.loop-i-test.true in
    let item : c.file-item.result ≡ get_or c.args.classes.now c.loop-i.i c.file-item.result = c.file-item.is ∙ ap (λ (all : List ClassInfo). get_or all c.loop-i.i c.file-item.result) files in
    let Now : Bool → List MethodInfo → Bool = λ so_far methods. so_far || (test (4 + c.loop-i.i) && declare_alone name descriptor methods) in
    c.in_ok-add_methods.ensures name descriptor test ∙ ap (λ (b : Bool). Now b c.methods.result.now) (c.loop-i.invariant name descriptor test)
    ∙ ap (λ (methods : List MethodInfo). Now (alone_among c.args.classes.now (4 + c.loop-i.i) test name descriptor) methods) c.methods.ensures
    ∙ sym (alone_among-more c.args.classes.now c.loop-i.i c.file-item.result test name descriptor within item)
