use Rattle.std.proofs.Common.{◌≡◌, ◌∙◌, sym, ap, List, ℕ, [], Option, Some, None, unwrap_or}
use Rattle.std.specs.Map.{lookup}
use Rattle.std.specs.Option.{option_copied}
use Rattle.jworld.specs.Alone.{is_key}
use Rattle.jworld.proofs.Owners.{shown, seen}
use Rattle.jworld.proofs.alone.Alone.owners.Goals as goal

pub returns-in-Some : goal.returns-in-Some
returns-in-Some c =
    let found : Some c.in-Some.classes.now ≡ lookup (is_key c.args.name.now c.args.descriptor.now) (shown c.self.inside.owners.entries) =
    sym (ap option_copied c.in-Some.is) ∙ c.get.ensures.value ∙ seen c.args.name.now c.args.descriptor.now c.self.inside.owners.entries in
    rw (← c.self.view_is) (c.as_slice.ensures ∙ ap (λ (o : Option (List ℕ)). unwrap_or o []) found)

pub returns-in-None : goal.returns-in-None
returns-in-None c =
    let found : None ≡ lookup (is_key c.args.name.now c.args.descriptor.now) (shown c.self.inside.owners.entries) =
    sym (ap option_copied c.in-None.is) ∙ c.get.ensures.value ∙ seen c.args.name.now c.args.descriptor.now c.self.inside.owners.entries in
    rw (← c.self.view_is) (ap (λ (o : Option (List ℕ)). unwrap_or o []) found)
