use Rattle.std.proofs.Common.{◌≡◌, ◌∙◌, ap, List, ℕ, Option, [], ◌∷◌, ◌++◌, unwrap_or}
use Rattle.std.specs.BTreeMap.{get_by}
use Rattle.jworld.proofs.Owners.{owners_more, compared}
use Rattle.jworld.proofs.alone.Alone.add.Goals as goal

pub returns : goal.returns
returns c =
    let was : c.remove.result ≡ get_by (compared c.args.name.now c.args.descriptor.now) c.self.inside.owners = c.remove.ensures.value in
    let kept : c.unwrap_or-classes.result ≡ unwrap_or (get_by (compared c.args.name.now c.args.descriptor.now) c.self.inside.owners) [] =
    c.unwrap_or-classes.ensures ∙ ap (λ (o : Option (List ℕ)). unwrap_or o c.new.result) was ∙ ap (λ (d : List ℕ). unwrap_or (get_by (compared c.args.name.now c.args.descriptor.now) c.self.inside.owners) d) c.new.ensures in
    let list : c.push.new.self ≡ unwrap_or (get_by (compared c.args.name.now c.args.descriptor.now) c.self.inside.owners) [] ++ c.args.class ∷ [] =
    c.in_ok-push.ensures.ok ∙ ap (λ (l : List ℕ). l ++ c.args.class ∷ []) kept in
    rw (← c.self.view_is)
    (owners_more c.args.name.now c.args.descriptor.now c.args.class c.push.new.self c.self.inside.owners c.remove.new.self c.insert.new.self c.remove.ensures.updates c.in_ok-insert.ensures.updates list)
