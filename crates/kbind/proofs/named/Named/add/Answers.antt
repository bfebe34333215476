use Rattle.std.proofs.Common.{◌≡◌, sym, ap, cond, ◌∙◌, List, ℕ, Option, Some, map, is_some, bytes_eq, nat_cmp}
use Rattle.std.specs.Map.{lookup}
use Rattle.std.specs.Cmp.Lexicographic.{slice_cmp}
use Rattle.std.proofs.lemmas.Map.Text.{is_eq-slice_cmp}
use Rattle.std.specs.BTreeMap.{is_at}
use Rattle.classfile.proofs.Numbering.{lookup_of_map, lookup_same}
use Rattle.kbind.specs.declared.named.Seen.{Seen}
use Rattle.kbind.specs.Named.{Names, seen_in}
use Rattle.kbind.proofs.Keys.{Text, updates_text}
use Rattle.kbind.proofs.Seeing.{seen_at, added_is}
use Rattle.kbind.proofs.named.Named.add.Goals as goal

-- what a look-up in order finds is what was seen of the name
found : (name : List ℕ) (es : List (Text × Seen)) → lookup (is_at (λ (k : Text). slice_cmp nat_cmp name k.items)) es ≡ seen_in (map (λ e. (e.0.items, e.1)) es) name
found name es =
    lookup_same (is_at (λ (k : Text). slice_cmp nat_cmp name k.items)) (λ k. bytes_eq name k.items) (λ k. is_eq-slice_cmp name k.items) es
    ∙ sym (lookup_of_map (bytes_eq name) (λ (k : Text). k.items) es)

pub returns : goal.returns
returns c = λ name.
    let old : Names = map (λ (e : Text × Seen). (e.0.items, e.1)) c.self.inside.names.entries in
    let was = c.is_some-again.ensures ∙ ap is_some (c.seen.ensures ∙ ap (λ (text : List ℕ). seen_in c.args.self.now text) c.as_slice.ensures.value) in
    rw (← c.self.view_is)
    (added_is c.args.name.items name c.args.place c.is_some-again.result old _
    (sym (found name c.insert.new.self.entries)
    ∙ updates_text c.args.name.items c.self.inside.names c.insert.new.self (Some (seen_at c.args.place c.is_some-again.result)) c.in_ok-insert.ensures.updates name
    ∙ ap (λ (o : Option Seen). cond (bytes_eq c.args.name.items name) (Some (seen_at c.args.place c.is_some-again.result)) o) (found name c.self.inside.names.entries))
    (rw c.self.view_is was))
