use Rattle.std.proofs.Common.{◌||◌, Bool, ℕ, List, ap, sym, ◌∙◌, Bor, bytes_eq}
use Rattle.std.specs.List.{list_any}
use Rattle.kconfig.proofs.Among.{any_of_map, or_is, bytes_eq_swap}
use Rattle.kconfig.proofs.word_set.WordSet.insert.Goals as goal

pub returns : goal.returns
returns c = λ key.
    let now = c.in_ok-insert.ensures.updates.0 (record { ref_ptr = c.args.word.ref_ptr; now = key }) in
    rw (← c.self.view_is, bytes_eq_swap key c.args.word.now)
    (any_of_map (bytes_eq key) (λ word. word.now) c.insert.new.self.keys ∙ now ∙ or_is (bytes_eq c.args.word.now key) (list_any (λ (x : Bor (List ℕ)). bytes_eq key x.now) c.self.inside.words.keys) ∙ ap (λ (b : Bool). bytes_eq c.args.word.now key || b) (sym (any_of_map (bytes_eq key) (λ word. word.now) c.self.inside.words.keys)))
