use Rattle.std.proofs.Common.{◌∙◌, ap, option_and_then, slice_get, Option, ℕ}
use Rattle.jworld.proofs.Numbered.{super_of-supers_in}
use Rattle.jworld.proofs.classes.Classes.super_of.Goals as goal

pub returns : goal.returns
returns c =
    rw (← c.self.view_is)
    (c.get.ensures ∙ ap (λ table. option_and_then (λ (above : Option ℕ). above) (slice_get table c.args.class.n)) c.self.invariant.supers
    ∙ super_of-supers_in c.self.inside.files c.args.class.n)
