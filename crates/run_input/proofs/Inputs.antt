-- A bound configuration is the one that was bound, and the moves of lines in form are moves of their application.
use Rattle.std.proofs.Common.{◌≡◌, ℕ, true, false, true≢false, List, length, map, Option, Some, None, Result, Ok, Err, sym, ap, arith}
use Rattle.std.specs.Prelude.{All}
use Rattle.std.specs.Result.{is_err}
use Rattle.std.proofs.lemmas.List.{length-map}
use Rattle.std.proofs.lemmas.List.Elements.{All-weaker}
use Rattle.kes_text.specs.declared.refusal.Refusal.{Refusal}
use Rattle.kes_text.specs.declared.refusal.Stop.{Stop}
use Rattle.osek_core.specs.declared.moves.Move.{Move}
use Rattle.osek_core.specs.declared.moves.Move.TheVariants as move
use Rattle.jworld.specs.Classes.{World}
use Rattle.kconfig.specs.declared.config.Config.{Config}
use Rattle.kconfig.specs.declared.config.CounterLine.{CounterLine}
use Rattle.kbind.specs.declared.bound.Bound.{Bound}
use Rattle.kbind.specs.Bound.{members, unless_fault, earliest, faults, bound_of}
use Rattle.script.specs.declared.line.Line.{Line}
use Rattle.script.specs.InForm.{IsLine, AreMoves}
use Rattle.run_names.specs.Objects.{names_of}
use Rattle.b_machine.specs.Application.{Application}
use Rattle.b_machine.specs.Trace.{IsMove}

-- ---- the configuration

abbrev config_in : Result Bound Stop → Config → Config
config_in (Ok bound) other = bound.config
config_in (Err stop) other = other

by_fault : (files : World) (config : Config) (fault : Option Refusal) (bound : Bound) → unless_fault (members files config) fault ≡ Ok bound → bound.config ≡ config
unfolding members
by_fault files config None bound e = sym (ap (λ answer. config_in answer config) e)
by_fault files config (Some fault) bound e = absurd (true≢false (ap is_err e))

pub config_is : (files : World) (config : Config) (bound : Bound) → bound_of files config ≡ Ok bound → bound.config ≡ config
config_is files config bound e = by_fault files config (earliest (faults files config)) bound e

-- ---- moves

-- the counters of a script's moves are those of the configuration
is_move : (app : Application) (times : ℕ) (step : Move) → AreMoves (names_of app.bound.config) times step → IsMove app step
is_move app times move.Run are = tt
is_move app times (move.Tick counter) are = let many = length-map app.bound.config.counters (λ (x : CounterLine). x.name) in omega (are, many, arith)
is_move app times (move.Poke at bytes) are = tt

pub are_moves : (app : Application) (lines : List Line) → All (IsLine (names_of app.bound.config)) lines → All (λ line. IsMove app line.step) lines
are_moves app lines all = All-weaker (IsLine (names_of app.bound.config)) (λ line. IsMove app line.step) (λ line is. is_move app line.times line.step is.moves) lines all
