-- Moves in parts.
use Rattle.std.proofs.Common.{◌≡◌, ℕ, zero, suc, ◌+◌, ◌-◌, ◌<◌, true, false, true≢false, eqb-true, List, [], ◌∷◌, ◌++◌, replicate, take, drop, length, get_or, Option, Some, None, Result, Ok, Err, append_assoc, append-nil, refl, sym, ap, ◌∙◌, subst, arith}
use Rattle.std.specs.Prelude.{All}
use Rattle.std.proofs.lemmas.Grind.{flat_map-append}
use Rattle.std.proofs.lemmas.List.{replicate-append-replicate, take_more, take-append-drop}
use Rattle.script.specs.declared.line.Line.{Line}
use Rattle.script.specs.Writing.{moves_of}
use Rattle.osek_core.specs.declared.event.Who.{Who}
use Rattle.osek_core.specs.declared.moves.Move.{Move}
use Rattle.osek_core.specs.declared.moves.Move.TheVariants.{Run, Tick, Poke}
use Rattle.osek_core.specs.Event.Text.{Names}
use Rattle.osek_core.specs.Kernel.System.{acting}
use Rattle.b_machine.specs.Application.{Application}
use Rattle.b_machine.specs.State.{Actor, State, actor_of, first_state}
use Rattle.b_machine.specs.Moves.{Machine}
use Rattle.b_machine.specs.Trace.{Moved, nothing, run_actor, run, move, trace_from, trace, IsMove}
use Rattle.replay.specs.declared.ending.Ending.{Ending}
use Rattle.replay.specs.Seen.{SinkSeen}
use Rattle.replay.specs.Text.{event_text, trace_text}
use Rattle.replay.specs.After.{state_after, after, shown_by}
use Rattle.replay.specs.Puts.{PutsAll, PutsInPart, Puts}
use Rattle.replay.specs.Replays.{IsReplayed, Replays}
use Rattle.replay.specs.Rest.{rests, rests_at, IsAtRest, NobodyActsAgain}
use Rattle.replay.proofs.Parts.{none_put, puts_then, stops_within}

-- ---- one list of moves behind another

trace_parts : (app : Application) (s : State) (one two : List Move) → trace_from app s (one ++ two) ≡ trace_from app s one ++ trace_from app (state_after app s one) two
trace_parts app s [] two = refl
trace_parts app s (m ∷ one) two =
    let moved : Moved = move app s m in
    ap (λ events. moved.events ++ events) (trace_parts app moved.state one two)
    ∙ sym (append_assoc moved.events (trace_from app moved.state one) (trace_from app (state_after app moved.state one) two))

state_parts : (app : Application) (s : State) (one two : List Move) → state_after app s (one ++ two) ≡ state_after app (state_after app s one) two
state_parts app s [] two = refl
state_parts app s (m ∷ one) two = state_parts app (move app s m).state one two

text_parts : (names : Names) (m : Machine) (one two : List Move)
    → trace_text names (shown_by m (one ++ two)) ≡ trace_text names (shown_by m one) ++ trace_text names (shown_by (after m one) two)
text_parts names m one two =
    ap (trace_text names) (trace_parts m.app m.state one two)
    ∙ flat_map-append (event_text names) (trace_from m.app m.state one) (trace_from m.app (state_after m.app m.state one) two)

after_parts : (m : Machine) (one two : List Move) → after m (one ++ two) ≡ after (after m one) two
after_parts m one two = ap (λ (s : State). record m { state = s }) (state_parts m.app m.state one two)

pub none_replayed : (names : Names) (m : Machine) (before : SinkSeen) → IsReplayed names [] m before m before
none_replayed names m before = record { machine = refl; lines = none_put before }

-- the second moves go on where the first ended
replayed_from : {A : Type 0} (names : Names) (one two : List Move) (m : Machine) (before mid : SinkSeen) (r : Result A Ending) (left : Machine) (now : SinkSeen)
    → PutsAll (trace_text names (shown_by m one)) before mid → Replays names two (after m one) mid r left now → Replays names (one ++ two) m before r left now
replayed_from names one two m before mid (Ok x) left now first second = record {
  machine = second.machine ∙ sym (after_parts m one two);
  lines = subst (λ text. PutsAll text before now) (sym (text_parts names m one two))
      (puts_then {A = ℕ} (trace_text names (shown_by m one)) (trace_text names (shown_by (after m one) two)) before mid now (Ok 0) first second.lines);
}
replayed_from names one two m before mid (Err ending) left now first second =
    subst (λ text. PutsInPart ending text before now) (sym (text_parts names m one two))
    (puts_then {A = ℕ} (trace_text names (shown_by m one)) (trace_text names (shown_by (after m one) two)) before mid now (Err ending) first second)

pub replayed_then : {A : Type 0} (names : Names) (one two : List Move) (m : Machine) (before : SinkSeen) (middle : Machine) (mid : SinkSeen) (r : Result A Ending) (left : Machine) (now : SinkSeen)
    → IsReplayed names one m before middle mid → Replays names two middle mid r left now → Replays names (one ++ two) m before r left now
replayed_then names one two m before middle mid r left now first second =
    replayed_from names one two m before mid r left now first.lines (subst (λ (x : Machine). Replays names two x mid r left now) first.machine second)

-- it stops within the first moves
pub stopped_within : (names : Names) (one two : List Move) (m : Machine) (ending : Ending) (before now : SinkSeen)
    → PutsInPart ending (trace_text names (shown_by m one)) before now → PutsInPart ending (trace_text names (shown_by m (one ++ two))) before now
stopped_within names one two m ending before now part =
    subst (λ text. PutsInPart ending text before now) (sym (text_parts names m one two))
    (stops_within ending (trace_text names (shown_by m one)) (trace_text names (shown_by (after m one) two)) before now part)

-- ---- nobody acts

-- a step that nobody made
idle_actor : (app : Application) (s : State) (who : Who) (actor : Option Actor) → (run_actor app s who actor).weight ≡ 0 → run_actor app s who actor ≡ nothing s
idle_actor app s who None none = refl
idle_actor app s who (Some actor) none = absurd (omega (arith, none))

idle : (app : Application) (s : State) (who : Option Who) → (run app s who).weight ≡ 0 → run app s who ≡ nothing s
idle app s None none = refl
idle app s (Some who) none = idle_actor app s who (actor_of s who) none

idle_move : (app : Application) (s : State) → (move app s Run).weight ≡ 0 → move app s Run ≡ nothing s
idle_move app s none = idle app s (acting s.shared.system) none

pub nobody_acts : NobodyActsAgain
nobody_acts app s zero none = record { shows = refl; state = refl }
nobody_acts app s (suc n) none =
    let next = nobody_acts app s n none in
    record {
      shows = ap (λ (moved : Moved). moved.events ++ trace_from app moved.state (replicate n Run)) (idle_move app s none) ∙ next.shows;
      state = ap (λ (moved : Moved). state_after app moved.state (replicate n Run)) (idle_move app s none) ∙ next.state;
    }

-- ---- loops

-- it stops in the second moves, with others behind them
pub stopped_in : (names : Names) (one two three : List Move) (m : Machine) (before : SinkSeen) (middle : Machine) (mid : SinkSeen) (ending : Ending) (now : SinkSeen)
    → IsReplayed names one m before middle mid → PutsInPart ending (trace_text names (shown_by middle two)) mid now
    → PutsInPart ending (trace_text names (shown_by m (one ++ (two ++ three)))) before now
stopped_in names one two three m before middle mid ending now first stops =
    replayed_then {A = ℕ} names one (two ++ three) m before middle mid (Err ending) middle now first (stopped_within names two three middle ending mid now stops)

-- one move more of a line
pub one_more : (names : Names) (step : Move) (n : ℕ) (m : Machine) (before : SinkSeen) (middle : Machine) (mid : SinkSeen) (left : Machine) (now : SinkSeen)
    → IsReplayed names (replicate n step) m before middle mid → IsReplayed names (step ∷ []) middle mid left now → IsReplayed names (replicate (n + 1) step) m before left now
one_more names step n m before middle mid left now first next =
    subst (λ moves. IsReplayed names moves m before left now) (replicate-append-replicate n 1 step)
    (replayed_then {A = ℕ} names (replicate n step) (step ∷ []) m before middle mid (Ok 0) left now first next)

-- so many moves, one more, and the rest
split_at : (n times : ℕ) (step : Move) → n < times → replicate n step ++ (step ∷ [] ++ replicate (times - (n + 1)) step) ≡ replicate times step
split_at n times step within =
    let sum : n + (1 + (times - (n + 1))) ≡ times = omega (arith, within) in
    ap (λ (moves : List Move). replicate n step ++ moves) (replicate-append-replicate 1 (times - (n + 1)) step)
    ∙ replicate-append-replicate n (1 + (times - (n + 1))) step
    ∙ ap (λ (k : ℕ). replicate k step) sum

pub stopped_at : (names : Names) (step : Move) (n times : ℕ) (m : Machine) (before : SinkSeen) (middle : Machine) (mid : SinkSeen) (ending : Ending) (now : SinkSeen) → n < times
    → IsReplayed names (replicate n step) m before middle mid → PutsInPart ending (trace_text names (shown_by middle (step ∷ []))) mid now
    → PutsInPart ending (trace_text names (shown_by m (replicate times step))) before now
stopped_at names step n times m before middle mid ending now within first stops =
    subst (λ moves. PutsInPart ending (trace_text names (shown_by m moves)) before now) (split_at n times step within)
    (stopped_in names (replicate n step) (step ∷ []) (replicate (times - (n + 1)) step) m before middle mid ending now first stops)

-- steps that nobody makes are done as soon as they begin
none_more : (names : Names) (m : Machine) (n : ℕ) (before : SinkSeen) → (move m.app m.state Run).weight ≡ 0 → IsReplayed names (replicate n Run) m before m before
none_more names m n before none =
    let rest : IsAtRest m.app m.state n = nobody_acts m.app m.state n none in
    record {
      machine = ap (λ (s : State). record m { state = s }) (sym rest.state);
      lines = subst (λ events. PutsAll (trace_text names events) before before) (sym rest.shows) (none_put before);
    }

-- who made no step is where it was
idle_after : (m : Machine) → (move m.app m.state Run).weight ≡ 0 → after m (Run ∷ []) ≡ m
idle_after m none = ap (λ (moved : Moved). record m { state = moved.state }) (idle_move m.app m.state none)

resting : (step : Move) (weight : ℕ) → rests step weight ≡ true → (step ≡ Run) × (weight ≡ 0)
resting Run weight is = (refl, eqb-true weight 0 is)
resting (Tick counter) weight is = absurd (true≢false (sym is))
resting (Poke at bytes) weight is = absurd (true≢false (sym is))

rested_runs : (names : Names) (n times : ℕ) (m : Machine) (before : SinkSeen) (middle : Machine) (mid : SinkSeen) (left : Machine) (now : SinkSeen) → n < times
    → IsReplayed names (replicate n Run) m before middle mid → IsReplayed names (Run ∷ []) middle mid left now → (move middle.app middle.state Run).weight ≡ 0
    → IsReplayed names (replicate times Run) m before left now
rested_runs names n times m before middle mid left now within first next none =
    let stays : left ≡ middle = next.machine ∙ idle_after middle none in
    let here : (move left.app left.state Run).weight ≡ 0 = subst (λ (x : Machine). (move x.app x.state Run).weight ≡ 0) (sym stays) none in
    subst (λ moves. IsReplayed names moves m before left now) (split_at n times Run within)
    (replayed_then {A = ℕ} names (replicate n Run) (Run ∷ [] ++ replicate (times - (n + 1)) Run) m before middle mid (Ok 0) left now first
    (replayed_then {A = ℕ} names (Run ∷ []) (replicate (times - (n + 1)) Run) middle mid left now (Ok 0) left now next (none_more names left (times - (n + 1)) now here)))

pub rested : (names : Names) (step : Move) (n times : ℕ) (m : Machine) (before : SinkSeen) (middle : Machine) (mid : SinkSeen) (left : Machine) (now : SinkSeen) → n < times
    → IsReplayed names (replicate n step) m before middle mid → IsReplayed names (step ∷ []) middle mid left now → rests_at middle step ≡ true
    → IsReplayed names (replicate times step) m before left now
rested names step n times m before middle mid left now within first next rest =
    let (is_run, none) = resting step (move middle.app middle.state step).weight rest in
    rested_step names step n times m before middle mid left now within first next is_run none
  where
    rested_step : (names : Names) (step : Move) (n times : ℕ) (m : Machine) (before : SinkSeen) (middle : Machine) (mid : SinkSeen) (left : Machine) (now : SinkSeen) → n < times
        → IsReplayed names (replicate n step) m before middle mid → IsReplayed names (step ∷ []) middle mid left now → step ≡ Run → (move middle.app middle.state step).weight ≡ 0
        → IsReplayed names (replicate times step) m before left now
    rested_step names Run n times m before middle mid left now within first next is none = rested_runs names n times m before middle mid left now within first next none
    rested_step names (Tick counter) n times m before middle mid left now within first next is none = absurd (cc)
    rested_step names (Poke at bytes) n times m before middle mid left now within first next is none = absurd (cc)

-- ---- lines

-- one line more
next_line : (lines : List Line) (i : ℕ) (d : Line) → i < length lines
    → moves_of (take (i + 1) lines) ≡ moves_of (take i lines) ++ replicate (get_or lines i d).times (get_or lines i d).step
next_line lines i d within =
    let moves_in : Line → List Move = λ x. replicate x.times x.step in
    ap moves_of (take_more lines i d within)
    ∙ flat_map-append moves_in (take i lines) (get_or lines i d ∷ [])
    ∙ ap (λ (moves : List Move). moves_of (take i lines) ++ moves) (append-nil (moves_in (get_or lines i d)))

pub one_line_more : (names : Names) (lines : List Line) (i : ℕ) (d : Line) (m : Machine) (before : SinkSeen) (middle : Machine) (mid : SinkSeen) (left : Machine) (now : SinkSeen) → i < length lines
    → IsReplayed names (moves_of (take i lines)) m before middle mid → IsReplayed names (replicate (get_or lines i d).times (get_or lines i d).step) middle mid left now
    → IsReplayed names (moves_of (take (i + 1) lines)) m before left now
one_line_more names lines i d m before middle mid left now within first next =
    subst (λ (moves : List Move). IsReplayed names moves m before left now) (sym (next_line lines i d within))
    (replayed_then {A = ℕ} names (moves_of (take i lines)) (replicate (get_or lines i d).times (get_or lines i d).step) m before middle mid (Ok 0) left now first next)

-- the moves of the lines before one, its own, and those of the lines behind it
whole : (lines : List Line) (i : ℕ) (d : Line) → i < length lines
    → moves_of (take i lines) ++ (replicate (get_or lines i d).times (get_or lines i d).step ++ moves_of (drop (i + 1) lines)) ≡ moves_of lines
whole lines i d within =
    let moves_in : Line → List Move = λ x. replicate x.times x.step in
    sym (append_assoc (moves_of (take i lines)) (moves_in (get_or lines i d)) (moves_of (drop (i + 1) lines)))
    ∙ ap (λ (moves : List Move). moves ++ moves_of (drop (i + 1) lines)) (sym (next_line lines i d within))
    ∙ sym (flat_map-append moves_in (take (i + 1) lines) (drop (i + 1) lines))
    ∙ ap moves_of (take-append-drop (i + 1) lines)

pub stopped_at_line : (names : Names) (lines : List Line) (i : ℕ) (d : Line) (m : Machine) (before : SinkSeen) (middle : Machine) (mid : SinkSeen) (ending : Ending) (now : SinkSeen) → i < length lines
    → IsReplayed names (moves_of (take i lines)) m before middle mid
    → PutsInPart ending (trace_text names (shown_by middle (replicate (get_or lines i d).times (get_or lines i d).step))) mid now
    → PutsInPart ending (trace_text names (shown_by m (moves_of lines))) before now
stopped_at_line names lines i d m before middle mid ending now within first stops =
    subst (λ (moves : List Move). PutsInPart ending (trace_text names (shown_by m moves)) before now) (whole lines i d within)
    (stopped_in names (moves_of (take i lines)) (replicate (get_or lines i d).times (get_or lines i d).step) (moves_of (drop (i + 1) lines)) m before middle mid ending now first stops)

-- ---- from the first state

replays_puts : {A : Type 0} (names : Names) (moves : List Move) (m : Machine) (before : SinkSeen) (r : Result A Ending) (left : Machine) (now : SinkSeen)
    → Replays names moves m before r left now → Puts (trace_text names (shown_by m moves)) before r now
replays_puts names moves m before (Ok x) left now done = done.lines
replays_puts names moves m before (Err ending) left now stops = stops

abbrev at_start : Application → Machine
at_start app = record { app = app; state = first_state app }

-- a replay from the first state puts the trace
pub trace_puts : {A : Type 0} (names : Names) (moves : List Move) (app : Application) (m : Machine) (before : SinkSeen) (r : Result A Ending) (left : Machine) (now : SinkSeen)
    → m ≡ at_start app → Replays names moves m before r left now → Puts (trace_text names (trace app moves)) before r now
trace_puts names moves app m before r left now is done =
    subst (λ (x : Machine). Puts (trace_text names (shown_by x moves)) before r now) is (replays_puts names moves m before r left now done)

pub moves_still : (lines : List Line) (app : Application) (m : Machine) → m ≡ at_start app → All (λ line. IsMove app line.step) lines → All (λ line. IsMove m.app line.step) lines
moves_still lines app m is moves = subst (λ (x : Machine). All (λ line. IsMove x.app line.step) lines) (sym is) moves
