use Rattle.std.proofs.Common.{◌≡◌, ap, ◌∙◌, ℕ, Bool}
use Rattle.std.specs.List.{list_any}
use Rattle.classfile.specs.ClassFile.{MethodInfo}
use Rattle.jworld.specs.Classes.{count}
use Rattle.jworld.specs.Alone.{alone_among}
use Rattle.jworld.proofs.SplitFrom.{is_apart, split_from}
use Rattle.jworld.proofs.splits.is_split.Goals as goal

pub returns-then-is_inherited : goal.returns-then-is_inherited
returns-then-is_inherited c =
    let files = c.args.classes.now in
    let test : ℕ → Bool = is_apart files c.args.class.n in
    let asked : c.is_below_another_package.result ≡ list_any test c.owners.result.now = c.is_below_another_package.ensures in
    split_from files c.args.class.n c.args.method.now c.is_below_another_package.result c.if-is_inherited.ensures
    (asked ∙ ap (list_any test) c.owners.ensures ∙ c.requires.alone c.method.inside.name.now c.method.inside.descriptor.now test
    ∙ ap (λ (method : MethodInfo). alone_among files (count files) test method.name method.descriptor) c.method.view_is)
