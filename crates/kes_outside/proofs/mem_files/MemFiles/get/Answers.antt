use Rattle.std.proofs.Common.{◌≡◌, Option, Some, None, ℕ, position, sym, ap, ◌∙◌}
use Rattle.std.specs.FinMap.{get}
use Rattle.kes_outside.proofs.Pairs.{is_named, get-contents_of-found, get-contents_of-absent}
use Rattle.kes_outside.proofs.mem_files.MemFiles.get.Goals as goal

pub returns-in-Some : goal.returns-in-Some
returns-in-Some c =
    let name = c.args.name.now in
    let pairs = c.self.inside.pairs.items in
    let place : Some c.in-Some.place ≡ position (is_named name) pairs = sym c.in-Some.is ∙ c.place_of.ensures ∙ ap (position (is_named name)) c.as_slice.ensures.value in
    ap Some (c.as_slice-in-Some.ensures.value ∙ ap (λ pair. pair.1.items) c.index.ensures)
    ∙ sym (get-contents_of-found name pairs c.in-Some.place c.index.result.now place)
    ∙ ap (λ files. get files.contents name) c.self.view_is

pub returns-in-None : goal.returns-in-None
returns-in-None c =
    let name = c.args.name.now in
    let pairs = c.self.inside.pairs.items in
    let place : ◌≡◌ {A = Option ℕ} None (position (is_named name) pairs) = sym c.in-None.is ∙ c.place_of.ensures ∙ ap (position (is_named name)) c.as_slice.ensures.value in
    sym (get-contents_of-absent name pairs place) ∙ ap (λ files. get files.contents name) c.self.view_is
