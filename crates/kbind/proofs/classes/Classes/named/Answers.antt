use Rattle.std.proofs.Common.{ℕ, List, ap, ◌∙◌, option_map, position, bytes_eq}
use Rattle.kes_text.specs.Shown.{shown}
use Rattle.jworld.specs.declared.ids.ClassId.{ClassId}
use Rattle.jworld.specs.Classes.{names}
use Rattle.kbind.proofs.Placing.{position_of_map}
use Rattle.kbind.proofs.classes.Classes.named.Goals as goal

pub returns-in_err-n : goal.returns-in_err-n
returns-in_err-n c =
    let word : List ℕ = c.args.word.now in
    let found = c.in_err-n.ensures.place ∙ ap (λ (texts : List (List ℕ)). position (bytes_eq word) texts) c.self.invariant.texts.shown ∙ position_of_map (bytes_eq word) (λ name. shown name) (names c.self.inside.world.now) in
    rw (← c.self.view_is) (ap (option_map (λ (class : ClassId). class.n)) c.from_residual.ensures ∙ found)

pub returns : goal.returns
returns c =
    let word : List ℕ = c.args.word.now in
    rw (← c.self.view_is)
    (c.in_ok-n.ensures.place ∙ ap (λ (texts : List (List ℕ)). position (bytes_eq word) texts) c.self.invariant.texts.shown ∙ position_of_map (bytes_eq word) (λ name. shown name) (names c.self.inside.world.now))
