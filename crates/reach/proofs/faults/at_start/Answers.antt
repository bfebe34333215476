-- The numbers that were found are those that are reached.
use Rattle.std.proofs.Common.{Bool, ◌&&◌, option_map, ap, ◌∙◌}
use Rattle.kes_text.specs.declared.refusal.Kind.TheVariants as kind
use Rattle.reach.specs.Faults.{refusal_at, is_among, is_at_start}
use Rattle.reach.proofs.Left.{same_found}
use Rattle.reach.proofs.faults.at_start.Goals as goal

pub returns : goal.returns
returns c =
    c.first_among.ensures
    ∙ ap (option_map (refusal_at kind.AtStart))
    (same_found (is_among _) (is_at_start c.args.edges.now c.args.starts.now) (λ call. ap (λ (b : Bool). call.is_outside && b) (c.in_ok-reached.ensures call.place.pair)) c.args.calls.now)
