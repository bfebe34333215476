use Rattle.std.proofs.Common.{◌≡◌, ◌∙◌, sym, ap, Option, Some, None, [], unwrap_or, bytes_eq}
use Rattle.std.specs.Map.{lookup}
use Rattle.std.specs.Option.{option_copied}
use Rattle.jworld.specs.Keyed.{Places, place_of}
use Rattle.jworld.proofs.Placing.{shown, seen}
use Rattle.jworld.proofs.keyed.Keyed.get.Goals as goal

pub returns-in-Some : goal.returns-in-Some
returns-in-Some c =
    let found : Some c.in-Some.places.now ≡ lookup (bytes_eq c.args.name.now) (shown c.self.inside.names.entries) =
    sym (ap option_copied c.in-Some.is) ∙ c.get.ensures.value ∙ seen c.args.name.now c.self.inside.names.entries in
    rw (← c.self.view_is) (c.get-in-Some.ensures ∙ ap (λ (o : Option Places). place_of (unwrap_or o []) c.args.descriptor.now) found)

pub returns-in-None : goal.returns-in-None
returns-in-None c =
    let found : None ≡ lookup (bytes_eq c.args.name.now) (shown c.self.inside.names.entries) =
    sym (ap option_copied c.in-None.is) ∙ c.get.ensures.value ∙ seen c.args.name.now c.self.inside.names.entries in
    rw (← c.self.view_is) (ap (λ (o : Option Places). place_of (unwrap_or o []) c.args.descriptor.now) found)
