use Rattle.std.proofs.Common.{◌≡◌, ◌<◌, ℕ, List, [], length, get_or, refl, subst, ◌∙◌, arith, IsTrue, ◌↔◌}
use Rattle.std.proofs.lemmas.Option.{slice_get_within}
use Rattle.kconfig.specs.Tasks.{use_stands, wait_stands}
use Rattle.kconfig.specs.Tables.{places_where}
use Rattle.kconfig.specs.Masks.{is_set}
use Rattle.kconfig.proofs.Filling.{same_places}
use Rattle.kconfig.proofs.WellConfigured.{extended_by}
use Rattle.kconfig.proofs.task_rows.task_row.Goals as goal

pub returns : goal.returns
returns c =
    let config = c.args.config.now in
    let at = c.args.at in
    let small = c.requires.sound.small in
    let within : at < length config.tasks = slice_get_within config.tasks at c.args.line.now c.requires.line in
    let less : at < 64 = omega (arith, within, small.tasks) in
    let resources : c.in_ok-resources.resources ≡ places_where (use_stands config.uses at) (length config.resources) =
    c.in_ok-resources.ensures ∙ rw c.len.ensures (same_places (is_set (get_or c.args.masks.now.used at 0)) (use_stands config.uses at) (length config.resources) (λ k below. c.requires.used at k less (omega (arith, below, small.resources)))) in
    let events : c.in_ok-events.events ≡ places_where (wait_stands config.waits at) (length config.events) =
    c.in_ok-events.ensures ∙ rw c.len-2.ensures (same_places (is_set (get_or c.args.masks.now.waited at 0)) (wait_stands config.waits at) (length config.events) (λ k below. c.requires.waited at k less (omega (arith, below, small.events)))) in
    let P : List ℕ → Type 0 = λ events. IsTrue c.is_empty.result ↔ (events ≡ []) in
    let extended = extended_by config at c.is_empty.result c.requires.sound (subst P events c.is_empty.ensures) in
    rw (c.in_ok-name.ensures, c.as_slice.ensures, resources, events, extended) refl
