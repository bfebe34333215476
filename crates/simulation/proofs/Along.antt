-- The bytecode's run over one list of moves behind another, and over ticks.
use Rattle.std.proofs.Common.{◌≡◌, ℕ, List, [], ◌∷◌, ◌++◌, map, refl, sym, ap, ◌∙◌, append_assoc}
use Rattle.osek_core.specs.declared.moves.Move.{Move}
use Rattle.osek_core.specs.declared.moves.Move.TheVariants.{Tick}
use Rattle.osek_core.specs.Kernel.System.{System}
use Rattle.osek_core.specs.Bytecode.Application.{Application}
use Rattle.osek_core.specs.Bytecode.State.{State}
use Rattle.osek_core.specs.Bytecode.Trace.{Moved, move, trace_from}
use Rattle.csubset.specs.Machine.Trace.{ticks}

-- the state behind these moves, and what they show
abbrev pub along : Application → State → List Move → Moved
along app b [] = record { state = b; events = [] }
along app b (m ∷ moves) =
    let first = move app b m in
    let rest = along app first.state moves in
    record { state = rest.state; events = first.events ++ rest.events }

-- one run behind another one
abbrev pub joined : Moved → Moved → Moved
joined first rest = record { state = rest.state; events = first.events ++ rest.events }

pub along_append : (app : Application) (b : State) (xs ys : List Move) → along app b (xs ++ ys) ≡ joined (along app b xs) (along app (along app b xs).state ys)
along_append app b [] ys = refl
along_append app b (m ∷ xs) ys =
    let first = move app b m in
    let rest = along app first.state xs in
    ap (λ r. record { state = r.state; events = first.events ++ r.events }) (along_append app first.state xs ys)
    ∙ ap (λ e. record { state = (along app rest.state ys).state; events = e }) (sym (append_assoc first.events rest.events _))

pub trace_along : (app : Application) (b : State) (xs ys : List Move) → trace_from app b (xs ++ ys) ≡ (along app b xs).events ++ trace_from app (along app b xs).state ys
trace_along app b [] ys = refl
trace_along app b (m ∷ xs) ys =
    let first = move app b m in
    ap (λ e. first.events ++ e) (trace_along app first.state xs ys) ∙ sym (append_assoc first.events _ _)

abbrev pub with_system : State → System → State
with_system b y = record b { shared = record b.shared { system = y } }

pub along_ticks : (app : Application) (b : State) (ns : List ℕ) → along app b (map Tick ns) ≡ record { state = with_system b (ticks app.config.tables b.shared.system ns).system; events = (ticks app.config.tables b.shared.system ns).events }
along_ticks app b [] = refl
along_ticks app b (n ∷ ns) =
    let first = move app b (Tick n) in
    ap (λ r. record { state = r.state; events = first.events ++ r.events }) (along_ticks app first.state ns)
