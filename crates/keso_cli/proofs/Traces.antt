-- What a trace has read and shown, where it stops and where it is done.
use Rattle.std.proofs.Common.{◌≡◌, ℕ, ◌≤◌, Bool, false, List, [], ◌∷◌, Option, Some, None, Result, Ok, IfSome, IsSomeAnd, map, refl, sym, ap, subst, ◌∙◌, inl, inr, ⊎_elim, arith}
use Rattle.std.specs.Prelude.{Contains, option_map, if◌then◌else◌}
use Rattle.std.specs.Option.{option_or}
use Rattle.std.specs.Result.{result_ok}
use Rattle.std.specs.FinMap.{get}
use Rattle.std.proofs.lemmas.List.Elements.{Contains-append_right}
use Rattle.kes_outside.specs.Contents.{Contents}
use Rattle.kes_text.specs.declared.refusal.Refusal.{Refusal}
use Rattle.kes_text.specs.declared.refusal.Stop.{Stop}
use Rattle.classfile.specs.ClassFile.{ClassInfo}
use Rattle.classfile.specs.Pool.{◌>>=◌}
use Rattle.osek_core.specs.Event.Text.{Names as EventNames}
use Rattle.kbind.specs.declared.bound.Bound.{Bound}
use Rattle.kconfig.specs.declared.config.Config.{Config}
use Rattle.script.specs.declared.line.Line.{Line}
use Rattle.script.specs.Writing.{moves_of}
use Rattle.run_input.specs.Input.{shown_names}
use Rattle.b_machine.specs.Application.{Application}
use Rattle.b_machine.specs.Trace.{trace}
use Rattle.replay.specs.Text.{trace_text}
use Rattle.first_form.specs.Configuration.{configuration}
use Rattle.keso_cli.specs.declared.tracing.Run.{Run}
use Rattle.keso_cli.specs.declared.trouble.Trouble.{Trouble}
use Rattle.keso_cli.specs.declared.trouble.Trouble.TheVariants.{Usage, CannotRead, Refused, CannotWrite, CannotWriteOutput, NoMemory}
use Rattle.keso_cli.specs.BuildEnds.{Untouched}
use Rattle.keso_cli.specs.Left.{CannotBeRead}
use Rattle.keso_cli.specs.Refusals.{fault_of, input_refusal, later}
use Rattle.keso_cli.specs.Run.{IsRun, RunStops, ShowStops}
use Rattle.replay.specs.Seen.{SinkSeen}
use Rattle.keso_cli.specs.Seen.{FilesSeen}
use Rattle.keso_cli.specs.Stops.{FileStops, InputStops, ReadStops, ReadsStop}
use Rattle.keso_cli.specs.Taken.{IsTaken}
use Rattle.keso_cli.specs.TraceEnds.{TraceNames, TraceSays, ShowsLines, TraceStops}
use Rattle.keso_cli.specs.Traced.{script_in, lines_of, is_traced, IsTraceOf, Named, named, of_inputs, script_refusal, later_refusal, trace_refusal}
use Rattle.keso_cli.proofs.Refusing.{not_refused}

-- ---- what was read

pub record TraceRead (names : TraceNames) (text script : List ℕ) (bytes : List (List ℕ)) (files : FilesSeen) : Type 0 where
  pub config_read : IfSome files.contents (λ held. get held names.config ≡ Some text)
  pub script_read : IfSome files.contents (λ held. get held names.script ≡ Some script)
  pub classes_read : IfSome files.contents (λ held. map (get held) names.classes ≡ map Some bytes)

trace_says : (says : List ℕ → List ℕ → List (List ℕ) → Type 0) (names : TraceNames) (text script : List ℕ) (bytes : List (List ℕ)) (files : FilesSeen)
    → TraceRead names text script bytes files → says text script bytes → TraceSays says names files
trace_says says names text script bytes files read is =
    (text, script, bytes, is, by_contents files.contents read.config_read read.script_read read.classes_read) where
      by_contents : (held : Option Contents) → IfSome held (λ files. get files names.config ≡ Some text) → IfSome held (λ files. get files names.script ≡ Some script)
          → IfSome held (λ files. map (get files) names.classes ≡ map Some bytes)
          → IfSome held (λ files. (get files names.config ≡ Some text) × (get files names.script ≡ Some script) × (map (get files) names.classes ≡ map Some bytes))
      by_contents None c s k = tt
      by_contents (Some held) c s k = (c, s, k)

-- a file that isn't read since the call began
unread : (name : List ℕ) (before mid after : FilesSeen) → mid.contents ≡ before.contents → before.faults ≤ mid.faults → CannotBeRead name mid after → CannotBeRead name before after
unread name before mid after same count cannot =
    ⊎_elim (λ rose. inl (omega (rose, count, arith))) (λ missing. inr (subst (λ o. IsSomeAnd o (λ files. get files name ≡ None)) same missing)) cannot

-- one of the files isn't read, behind others that are
pub file_unread : (trouble : Trouble) (names : TraceNames) (name : List ℕ) (before mid after : FilesSeen) (out : SinkSeen) → Contains (names.config ∷ names.script ∷ names.classes) name
    → mid.contents ≡ before.contents → before.faults ≤ mid.faults → after.contents ≡ mid.contents → ReadStops trouble name mid after → TraceStops trouble names before after out out
file_unread (CannotRead read) names name before mid after out one same count stays h = (
  subst (Contains (names.config ∷ names.script ∷ names.classes)) (sym h.0) one,
  subst (λ (n : List ℕ). CannotBeRead n before after) (sym h.0) (unread name before mid after same count h.1),
  record { files_stay = stays ∙ same; out_stays = refl },
)
file_unread NoMemory names name before mid after out one same count stays h = inl (record { files_stay = stays ∙ same; out_stays = refl })
file_unread Usage names name before mid after out one same count stays h = absurd h
file_unread (Refused refusal refused) names name before mid after out one same count stays h = absurd h
file_unread (CannotWrite written) names name before mid after out one same count stays h = absurd h
file_unread CannotWriteOutput names name before mid after out one same count stays h = absurd h

pub first_of : (names : TraceNames) → Contains (names.config ∷ names.script ∷ names.classes) names.config
first_of names = (0, omega arith, refl)

pub second_of : (names : TraceNames) → Contains (names.config ∷ names.script ∷ names.classes) names.script
second_of names = (1, omega arith, refl)

pub classes_unread : (trouble : Trouble) (names : TraceNames) (before mid after : FilesSeen) (out : SinkSeen) → mid.contents ≡ before.contents → before.faults ≤ mid.faults → after.contents ≡ mid.contents
    → ReadsStop trouble names.classes mid after → TraceStops trouble names before after out out
classes_unread (CannotRead read) names before mid after out same count stays h = (
  Contains-append_right (names.config ∷ names.script ∷ []) names.classes read.now h.0,
  unread read.now before mid after same count h.1,
  record { files_stay = stays ∙ same; out_stays = refl },
)
classes_unread NoMemory names before mid after out same count stays h = inl (record { files_stay = stays ∙ same; out_stays = refl })
classes_unread Usage names before mid after out same count stays h = absurd h
classes_unread (Refused refusal refused) names before mid after out same count stays h = absurd h
classes_unread (CannotWrite written) names before mid after out same count stays h = absurd h
classes_unread CannotWriteOutput names before mid after out same count stays h = absurd h

-- ---- why there is no run

abbrev script_named : TraceNames → Result Config Stop → List ℕ → Option Named
script_named names read script = option_map (named names.script) (result_ok read >>= λ config. script_refusal config script)

abbrev later_named : TraceNames → Result Config Stop → Option Named
later_named names read = option_map (named names.config) (result_ok read >>= later_refusal)

abbrev refused_behind : TraceNames → Option Refusal → Result Config Stop → List ℕ → Option Named
refused_behind names input read script = option_or (option_map (of_inputs names.config names.classes) input) (option_or (script_named names read script) (later_named names read))

whole : (names : TraceNames) (text script : List ℕ) (files : List (List ℕ)) → trace_refusal names.config names.script names.classes text script files ≡ refused_behind names (input_refusal text files) (configuration text) script
unfolding trace_refusal
whole names text script files = refl

pub input_stops_run : (trouble : Trouble) (names : TraceNames) (text script : List ℕ) (files : List (List ℕ)) → InputStops trouble names.config names.classes text files → RunStops trouble names text script files
input_stops_run (Refused refusal name) names text script files h =
    whole names text script files ∙ ap (λ (o : Option Refusal). refused_behind names o (configuration text) script) h.1 ∙ ap (λ (n : List ℕ). Some (named n refusal)) (sym h.0)
input_stops_run NoMemory names text script files h = tt
input_stops_run Usage names text script files h = absurd h
input_stops_run (CannotRead name) names text script files h = absurd h
input_stops_run (CannotWrite name) names text script files h = absurd h
input_stops_run CannotWriteOutput names text script files h = absurd h

-- of an input that is taken
taken_is : (names : TraceNames) (text script : List ℕ) (files : List (List ℕ)) (bound : Bound) (classes : List ClassInfo) → IsTaken text files bound classes
    → trace_refusal names.config names.script names.classes text script files ≡ option_or (script_named names (Ok bound.config) script) (later_named names (Ok bound.config))
taken_is names text script files bound classes taken =
    whole names text script files
    ∙ ap (λ (o : Option Refusal). refused_behind names o (configuration text) script) (not_refused text files bound classes taken)
    ∙ ap (λ (read : Result Config Stop). option_or (script_named names read script) (later_named names read)) taken.bound_to.config_is

pub script_stops_run : (trouble : Trouble) (names : TraceNames) (text script : List ℕ) (files : List (List ℕ)) (bound : Bound) (classes : List ClassInfo) → IsTaken text files bound classes
    → FileStops trouble 0 names.script (script_in bound.config script) → RunStops trouble names text script files
script_stops_run (Refused refusal name) names text script files bound classes taken h =
    taken_is names text script files bound classes taken
    ∙ ap (λ (o : Option Refusal). option_or (option_map (named names.script) o) (later_named names (Ok bound.config))) h.1
    ∙ ap (λ (n : List ℕ). Some (named n refusal)) (sym h.0)
script_stops_run NoMemory names text script files bound classes taken h = tt
script_stops_run Usage names text script files bound classes taken h = absurd h
script_stops_run (CannotRead name) names text script files bound classes taken h = absurd h
script_stops_run (CannotWrite name) names text script files bound classes taken h = absurd h
script_stops_run CannotWriteOutput names text script files bound classes taken h = absurd h

pub comes_later : (names : TraceNames) (text script : List ℕ) (files : List (List ℕ)) (bound : Bound) (classes : List ClassInfo) (said : List Line) → IsTaken text files bound classes
    → script_in bound.config script ≡ Ok said → is_traced bound.config ≡ false
    → trace_refusal names.config names.script names.classes text script files ≡ Some (named names.config later)
comes_later names text script files bound classes said taken is not =
    taken_is names text script files bound classes taken
    ∙ ap (λ (read : Result (List Line) Stop). option_or (option_map (named names.script) (fault_of 0 read)) (later_named names (Ok bound.config))) is
    ∙ ap (λ (b : Bool). option_map (named names.config) (if b then None else Some later)) not

-- ---- a run

pub shown_lines : (app : Application) (names : EventNames) (said : List Line) → names ≡ shown_names app → trace_text names (trace app (moves_of said)) ≡ lines_of app said
unfolding lines_of
shown_lines app names said is = ap (λ (n : EventNames). trace_text n (trace app (moves_of said))) is

pub shows_lines : (names : TraceNames) (text script : List ℕ) (bytes : List (List ℕ)) (files : FilesSeen) (run : Run) → TraceRead names text script bytes files → IsRun text script bytes run
    → ShowsLines (lines_of run.program run.lines.items) names files
shows_lines names text script bytes files run read is =
    trace_says (λ t s b. IsTraceOf t s b (lines_of run.program run.lines.items)) names text script bytes files read
    (record { app = run.program; input = is.input; said = run.lines.items; script_is = is.script_is; traced = is.traced; lines_are = refl })

pub run_stops : (trouble : Trouble) (names : TraceNames) (text script : List ℕ) (bytes : List (List ℕ)) (files files' : FilesSeen) (out out' : SinkSeen) → TraceRead names text script bytes files
    → Untouched files files' out out' → RunStops trouble names text script bytes → TraceStops trouble names files files' out out'
run_stops (Refused refusal name) names text script bytes files files' out out' read same h =
    (trace_says (λ t s b. trace_refusal names.config names.script names.classes t s b ≡ Some (named name.now refusal)) names text script bytes files read h, same)
run_stops NoMemory names text script bytes files files' out out' read same h = inl same
run_stops Usage names text script bytes files files' out out' read same h = absurd h
run_stops (CannotRead name) names text script bytes files files' out out' read same h = absurd h
run_stops (CannotWrite name) names text script bytes files files' out out' read same h = absurd h
run_stops CannotWriteOutput names text script bytes files files' out out' read same h = absurd h

pub show_stops : (trouble : Trouble) (names : TraceNames) (lines : List ℕ) (files files' : FilesSeen) (out out' : SinkSeen) → ShowsLines lines names files → files'.contents ≡ files.contents
    → ShowStops trouble lines out out' → TraceStops trouble names files files' out out'
show_stops CannotWriteOutput names lines files files' out out' shows stay h = (record { lines = lines; shows = shows; files_stay = stay; takes = h.0 }, h.1)
show_stops NoMemory names lines files files' out out' shows stay h = inr (record { lines = lines; shows = shows; files_stay = stay; takes = h })
show_stops Usage names lines files files' out out' shows stay h = absurd h
show_stops (CannotRead name) names lines files files' out out' shows stay h = absurd h
show_stops (Refused refusal name) names lines files files' out out' shows stay h = absurd h
show_stops (CannotWrite name) names lines files files' out out' shows stay h = absurd h
