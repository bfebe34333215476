use Rattle.std.proofs.Common.{◌≡◌, ℕ, Option, Some, None, slice_set, position, sym, ap, ◌∙◌}
use Rattle.std.specs.FinMap.{insert}
use Rattle.kes_outside.specs.FilesInMemory.{contents_of}
use Rattle.kes_outside.proofs.Pairs.{is_named, contents_of-set, contents_of-push}
use Rattle.kes_outside.proofs.mem_files.store.Goals as goal

pub returns-in-Some-clause-ok : goal.returns-in-Some-clause-ok
returns-in-Some-clause-ok c =
    let name = c.args.name.now in
    let pairs = c.args.pairs.now.items in
    let place : Some c.in-Some.place ≡ position (is_named name) pairs = sym c.in-Some.is ∙ c.place_of.ensures ∙ ap (position (is_named name)) c.as_slice.ensures.value in
    ap (λ pair. contents_of (slice_set pairs c.in-Some.place (pair.0, c.in_ok-copy.copy))) c.index_mut.ensures.value
    ∙ contents_of-set name pairs c.in-Some.place c.index_mut.result.now c.in_ok-copy.copy place
    ∙ ap (insert (contents_of pairs) name) c.in_ok-copy.ensures.items

pub returns-in_ok-push-in-None-clause-ok : goal.returns-in_ok-push-in-None-clause-ok
returns-in_ok-push-in-None-clause-ok c =
    let name = c.args.name.now in
    let pairs = c.args.pairs.now.items in
    let place : ◌≡◌ {A = Option ℕ} None (position (is_named name) pairs) = sym c.in-None.is ∙ c.place_of.ensures ∙ ap (position (is_named name)) c.as_slice.ensures.value in
    ap contents_of c.in_ok-push-in-None.ensures.items
    ∙ contents_of-push name pairs (c.in_ok-from_str-in-None.field-0, c.in_ok-copy.copy) place c.in_ok-from_str-in-None.ensures.ok
    ∙ ap (insert (contents_of pairs) name) c.in_ok-copy.ensures.items
