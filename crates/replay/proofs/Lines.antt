-- The lines of what a move shows, put one behind another.
use Rattle.std.proofs.Common.{◌≡◌, ℕ, ◌+◌, ◌<◌, List, [], ◌∷◌, ◌++◌, map, take, drop, length, get_or, Result, Err, add-one, drop-cons, refl, sym, ap, ◌∙◌, subst}
use Rattle.std.proofs.lemmas.Grind.{flat_map-append}
use Rattle.std.proofs.lemmas.List.{map-append, take-append-drop}
use Rattle.osek_core.specs.declared.event.Event.TheVariants.{Lost}
use Rattle.osek_core.specs.Event.Text.{Names}
use Rattle.system.specs.Lost.{lost_alarms}
use Rattle.system.proofs.LostAlarms.{none-lost}
use Rattle.b_machine.specs.declared.machine.Shown.{Shown}
use Rattle.b_machine.specs.Shown.{shown}
use Rattle.b_machine.specs.Moves.{events_of}
use Rattle.replay.specs.declared.ending.Ending.{Ending}
use Rattle.replay.specs.Seen.{SinkSeen}
use Rattle.replay.specs.Text.{event_text, trace_text}
use Rattle.replay.specs.Puts.{PutsAll, PutsInPart, Puts}
use Rattle.replay.proofs.Parts.{none_put, puts_then, stops_within}

from_here : (xs : List ℕ) (i : ℕ) → i < length xs → drop i xs ≡ get_or xs i 0 ∷ drop (i + 1) xs
from_here xs i within = rw (add-one, drop-cons xs i 0) refl

-- the lines of the alarms before one, its own, and those behind it
whole : (names : Names) (alarms : List ℕ) (i : ℕ) → i < length alarms
    → trace_text names (map Lost (take i alarms)) ++ (event_text names (Lost (get_or alarms i 0)) ++ trace_text names (map Lost (drop (i + 1) alarms)))
    ≡ trace_text names (map Lost alarms)
whole names alarms i within =
    ap (λ (xs : List ℕ). trace_text names (map Lost (take i alarms)) ++ trace_text names (map Lost xs)) (sym (from_here alarms i within))
    ∙ sym (flat_map-append (event_text names) (map Lost (take i alarms)) (map Lost (drop i alarms)))
    ∙ ap (trace_text names) (sym (map-append Lost (take i alarms) (drop i alarms)) ∙ ap (map Lost) (take-append-drop i alarms))

pub alarms_stop : (names : Names) (alarms : List ℕ) (i : ℕ) (ending : Ending) (before mid now : SinkSeen) → i < length alarms
    → PutsAll (trace_text names (map Lost (take i alarms))) before mid → PutsInPart ending (event_text names (Lost (get_or alarms i 0))) mid now
    → PutsInPart ending (trace_text names (map Lost alarms)) before now
alarms_stop names alarms i ending before mid now within first stops =
    let own : List ℕ = event_text names (Lost (get_or alarms i 0)) in
    let later : List ℕ = trace_text names (map Lost (drop (i + 1) alarms)) in
    subst (λ text. PutsInPart ending text before now) (whole names alarms i within)
    (puts_then {A = ℕ} (trace_text names (map Lost (take i alarms))) (own ++ later) before mid now (Err ending) first (stops_within ending own later mid now stops))

pub none_lost_put : (names : Names) (lost : ℕ) (before : SinkSeen) → lost ≡ 0 → PutsAll (trace_text names (map Lost (lost_alarms lost))) before before
none_lost_put names lost before none =
    let nothing : trace_text names (map Lost (lost_alarms lost)) ≡ [] =
    ap (λ (n : ℕ). trace_text names (map Lost (lost_alarms n))) none ∙ ap (λ (alarms : List ℕ). trace_text names (map Lost alarms)) none-lost in
    subst (λ text. PutsAll text before before) (sym nothing) (none_put before)

-- the event's line, and behind it those of the lost alarms
both : (names : Names) (s : Shown) → trace_text names (shown s.event) ++ trace_text names (map Lost (lost_alarms s.lost)) ≡ trace_text names (events_of s)
both names s = sym (flat_map-append (event_text names) (shown s.event) (map Lost (lost_alarms s.lost)))

pub shown_puts : {A : Type 0} (names : Names) (s : Shown) (before mid now : SinkSeen) (r : Result A Ending)
    → PutsAll (trace_text names (shown s.event)) before mid → Puts (trace_text names (map Lost (lost_alarms s.lost))) mid r now → Puts (trace_text names (events_of s)) before r now
shown_puts names s before mid now r first second =
    subst (λ text. Puts text before r now) (both names s)
    (puts_then (trace_text names (shown s.event)) (trace_text names (map Lost (lost_alarms s.lost))) before mid now r first second)

pub shown_stops : (names : Names) (s : Shown) (ending : Ending) (before now : SinkSeen)
    → PutsInPart ending (trace_text names (shown s.event)) before now → PutsInPart ending (trace_text names (events_of s)) before now
shown_stops names s ending before now stops =
    subst (λ text. PutsInPart ending text before now) (both names s)
    (stops_within ending (trace_text names (shown s.event)) (trace_text names (map Lost (lost_alarms s.lost))) before now stops)
