use Rattle.std.proofs.Common.{ℕ, List, Bool, ap, sym, ◌∙◌, ◌&&◌, bytes_eq}
use Rattle.std.specs.List.{list_any}
use Rattle.kconfig.specs.declared.reader.WaitWords.{WaitWords}
use Rattle.kconfig.proofs.Among.{any_of_map}
use Rattle.kconfig.proofs.reader.Reader.is_waited.Goals as goal

pub returns : goal.returns
returns c =
    let test : (List ℕ × List ℕ) → Bool = λ x. bytes_eq x.0 c.args.task.now && bytes_eq x.1 c.args.event.now in
    let words : WaitWords → (List ℕ × List ℕ) = λ x. (x.task.now, x.event.now) in
    let passes : List WaitWords → Bool = λ xs. list_any (λ x. bytes_eq x.task.now c.args.task.now && bytes_eq x.event.now c.args.event.now) xs in
    rw (← c.self.view_is) (c.is_among.ensures ∙ ap passes c.as_slice-waits.ensures.value ∙ sym (any_of_map test words c.self.inside.waits.items))
