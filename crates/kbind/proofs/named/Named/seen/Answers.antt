use Rattle.std.proofs.Common.{sym, ◌∙◌, List, ℕ, bytes_eq, nat_cmp}
use Rattle.std.specs.Cmp.Lexicographic.{slice_cmp}
use Rattle.std.proofs.lemmas.Map.Text.{is_eq-slice_cmp}
use Rattle.std.specs.BTreeMap.{is_at}
use Rattle.classfile.proofs.Numbering.{lookup_of_map, lookup_same}
use Rattle.kbind.proofs.Keys.{Text}
use Rattle.kbind.proofs.named.Named.seen.Goals as goal

pub returns : goal.returns
returns c =
    let name : List ℕ = c.args.name.now in
    rw (← c.self.view_is) (c.copied.ensures ∙ c.get.ensures.value
    ∙ lookup_same (is_at (λ (k : Text). slice_cmp nat_cmp name k.items)) (λ k. bytes_eq name k.items) (λ k. is_eq-slice_cmp name k.items) c.self.inside.names.entries
    ∙ sym (lookup_of_map (bytes_eq name) (λ (k : Text). k.items) c.self.inside.names.entries))
