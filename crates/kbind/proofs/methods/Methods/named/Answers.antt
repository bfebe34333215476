use Rattle.std.proofs.Common.{◌∙◌, ap}
use Rattle.std.specs.Option.{option_copied}
use Rattle.kbind.proofs.Declaring.{named_at, not_named}
use Rattle.kbind.proofs.methods.Methods.named.Goals as goal

pub returns-in_err-place : goal.returns-in_err-place
returns-in_err-place c =
    rw (← c.self.view_is) (ap option_copied c.from_residual.ensures ∙ not_named c.args.word.now c.self.inside.declared.now c.self.inside.index c.self.invariant c.in_err-place.ensures.place)

pub returns : goal.returns
returns c =
    rw (← c.self.view_is) (named_at c.args.word.now c.self.inside.declared.now c.self.inside.index c.in_ok-place.place c.index-self-place.result c.self.invariant c.in_ok-place.ensures.place c.in_ok-place.ensures.within)
