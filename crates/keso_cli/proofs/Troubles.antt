-- A command that stopped, and what was told of it.
use Rattle.std.proofs.Common.{ℕ, List, Option, Some, None, ◌⊎◌, inl, inr, sym, ap, ◌∙◌, subst}
use Rattle.kes_text.specs.Complaints.{refusal_text}
use Rattle.keso_cli.specs.declared.status.Status.{Status}
use Rattle.keso_cli.specs.declared.trouble.Trouble.{Trouble}
use Rattle.keso_cli.specs.declared.trouble.Trouble.TheVariants.{Usage, CannotRead, Refused, CannotWrite, CannotWriteOutput, NoMemory}
use Rattle.keso_cli.specs.BuildEnds.{BuildStops}
use Rattle.keso_cli.specs.CommandEnds.{CommandStops}
use Rattle.keso_cli.specs.Request.{Request, Build, Trace}
use Rattle.keso_cli.specs.Seen.{TakesUnlessFailed}
use Rattle.keso_cli.specs.Stands.{Outside, Stands, StandsAfterBuild, StandsAfterTrace, StandsWithoutCommand, CameSoFar, NothingIsDone}
use Rattle.keso_cli.specs.Tells.{Tells, line_of, status_of}
use Rattle.keso_cli.specs.TraceEnds.{TraceNames, trace_names, TraceStops, TraceStopped}
use Rattle.keso_cli.specs.Traced.{named}

-- how far a build came that stopped
far : (trouble : Trouble) (config : List ℕ) (classes : List (List ℕ)) (base : List ℕ) (before after : Outside)
    → BuildStops trouble config classes base before.files after.files before.out after.out → NothingIsDone before after ⊎ CameSoFar config classes base before after
far Usage config classes base before after h = absurd h
far (CannotRead name) config classes base before after h = inl h.2
far (Refused refusal name) config classes base before after h = inl h.2
far (CannotWrite name) config classes base before after h = inr (h.0, h.1, inr ((_, h.2), h.3))
far CannotWriteOutput config classes base before after h = inr (h.0, h.1, inl (inr (h.2, h.3)))
far NoMemory config classes base before after (inl h) = inl h
far NoMemory config classes base before after (inr h) = inr (h.0, h.1, inl h.2)

-- the trouble's own status and line
own : (trouble : Trouble) (config : List ℕ) (classes : List (List ℕ)) (base : List ℕ) (before after : Outside)
    → BuildStops trouble config classes base before.files after.files before.out after.out → TakesUnlessFailed (line_of trouble) before.err after.err
    → StandsAfterBuild (status_of trouble) config classes base before after
own Usage config classes base before after h line = absurd h
own (CannotRead name) config classes base before after h line =
    record { name = name.now; is_read = h.0; cause = h.1; nothing = h.2; line = line }
own (Refused refusal name) config classes base before after h line =
    record { refusal = refusal; cause = h.1; nothing = h.2; line = subst (λ n. TakesUnlessFailed (refusal_text refusal n) before.err after.err) h.0 line }
own (CannotWrite name) config classes base before after h line =
    inl (record { built = h.0; from = h.1; name = _; stands = h.2; out_stays = h.3; line = line })
own CannotWriteOutput config classes base before after h line =
    inr (record { built = h.0; from = h.1; stands = h.2; out_took = h.3; counted = h.4; line = line })
own NoMemory config classes base before after h line =
    record { far = far NoMemory config classes base before after h; line = inl line }

-- how far a trace came that stopped
traced_far : (trouble : Trouble) (names : TraceNames) (before after : Outside) → TraceStops trouble names before.files after.files before.out after.out
    → NothingIsDone before after ⊎ TraceStopped names before.files after.files before.out after.out
traced_far Usage names before after h = absurd h
traced_far (CannotRead name) names before after h = inl h.2
traced_far (Refused refusal name) names before after h = inl h.1
traced_far (CannotWrite name) names before after h = absurd h
traced_far CannotWriteOutput names before after h = inr h.0
traced_far NoMemory names before after h = h

own_of_trace : (trouble : Trouble) (names : TraceNames) (before after : Outside) → TraceStops trouble names before.files after.files before.out after.out
    → TakesUnlessFailed (line_of trouble) before.err after.err → StandsAfterTrace (status_of trouble) names before after
own_of_trace Usage names before after h line = absurd h
own_of_trace (CannotRead name) names before after h line = record { name = name.now; is_read = h.0; cause = h.1; nothing = h.2; line = line }
own_of_trace (Refused refusal name) names before after h line = record { refused = named name.now refusal; cause = h.0; nothing = h.1; line = line }
own_of_trace (CannotWrite name) names before after h line = absurd h
own_of_trace CannotWriteOutput names before after h line = record { stopped = h.0; counted = h.1; line = line }
own_of_trace NoMemory names before after h line = record { far = h; line = inl line }

pub stands_after : (trouble : Trouble) (request : Option Request) (answer : Status) (before after : Outside)
    → CommandStops trouble request before.files after.files before.out after.out → Tells trouble answer before.err after.err
    → Stands answer request before after
stands_after trouble None answer before after h (inl t) =
    subst (λ s. StandsWithoutCommand s before after) (sym (t.0 ∙ ap status_of h.0))
    (record { nothing = record { files_stay = h.1; out_stays = h.2 }; line = subst (λ about. TakesUnlessFailed (line_of about) before.err after.err) h.0 t.1 })
stands_after trouble None answer before after h (inr t) =
    subst (λ s. StandsWithoutCommand s before after) (sym t.0) (record { nothing = record { files_stay = h.1; out_stays = h.2 }; line = t.1 })
stands_after trouble (Some (Build config classes base)) answer before after h (inl t) =
    subst (λ s. StandsAfterBuild s config classes base before after) (sym t.0) (own trouble config classes base before after h t.1)
stands_after trouble (Some (Build config classes base)) answer before after h (inr t) =
    subst (λ s. StandsAfterBuild s config classes base before after) (sym t.0) (record { far = far trouble config classes base before after h; line = t.1 })
stands_after trouble (Some (Trace config script classes)) answer before after h (inl t) =
    subst (λ s. StandsAfterTrace s (trace_names config script classes) before after) (sym t.0) (own_of_trace trouble (trace_names config script classes) before after h t.1)
stands_after trouble (Some (Trace config script classes)) answer before after h (inr t) =
    subst (λ s. StandsAfterTrace s (trace_names config script classes) before after) (sym t.0)
    (record { far = traced_far trouble (trace_names config script classes) before after h; line = t.1 })
