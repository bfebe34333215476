use Rattle.std.proofs.Common.{◌≡◌, sym, ap, cond, ◌∙◌, subst, List, ℕ, Option, Some, None, unwrap_or, bytes_eq}
use Rattle.std.specs.Map.{lookup}
use Rattle.std.proofs.lemmas.Map.Text.{btree_map_updates_str}
use Rattle.jworld.specs.Keyed.{Places, HasText, named_in}
use Rattle.jworld.proofs.Placing.{shown, seen, placed}
use Rattle.jworld.proofs.keyed.Keyed.set.Goals as goal

pub returns : goal.returns
returns c =
    let name = c.args.name.now in
    let old = c.self.inside.names in
    let without = c.remove.new.self in
    let new = c.insert.new.self in
    let out : (n : List ℕ) → lookup (bytes_eq n) (shown without.entries) ≡ cond (bytes_eq name n) None (lookup (bytes_eq n) (shown old.entries)) = λ n.
    sym (seen n without.entries) ∙ btree_map_updates_str name old without None c.remove.ensures.updates n ∙ ap (λ (o : Option Places). cond (bytes_eq name n) None o) (seen n old.entries) in
    let in' : (n : List ℕ) → lookup (bytes_eq n) (shown new.entries) ≡ cond (bytes_eq name n) (Some c.set.new.self) (lookup (bytes_eq n) (shown without.entries)) = λ n.
    sym (seen n new.entries) ∙ btree_map_updates_str name without new (Some c.set.new.self) c.in_ok-insert.ensures.updates n
    ∙ ap (λ (o : Option Places). cond (bytes_eq name n) (Some c.set.new.self) o) (seen n without.entries) in
    let was : c.unwrap_or-places.result ≡ named_in (shown old.entries) name =
    c.unwrap_or-places.ensures ∙ ap (λ (o : Option Places). unwrap_or o c.new.result) (c.remove.ensures.value ∙ seen name old.entries)
    ∙ ap (λ (d : Places). unwrap_or (lookup (bytes_eq name) (shown old.entries)) d) c.new.ensures in
    let has : HasText c.args.descriptor.now c.args.place (named_in (shown old.entries) name) c.set.new.self =
    subst (λ (p : Places). HasText c.args.descriptor.now c.args.place p c.set.new.self) was c.in_ok-set.ensures in
    rw (← c.self.view_is) (placed name c.args.descriptor.now c.args.place (shown old.entries) (shown without.entries) (shown new.entries) c.set.new.self out in' has)
