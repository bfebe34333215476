use Rattle.std.proofs.Common.{◌∙◌, ap, List}
use Rattle.kbind.specs.Named.{Names, seen_of}
use Rattle.kbind.proofs.classes.Classes.field.Goals as goal

pub returns : goal.returns
returns c =
    rw (← c.self.view_is) (c.seen_of.ensures ∙ ap (λ (tables : List Names). seen_of tables c.args.name.now c.args.class.n) c.as_slice.ensures.value ∙ c.self.invariant.fields c.args.name.now c.args.class.n)
