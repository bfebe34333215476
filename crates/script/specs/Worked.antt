-- Worked examples of scripts.
use Rattle.std.specs.Prelude.{◌≡◌, ℕ, List, [], ◌∷◌, codes, Ok}
use Rattle.kes_text.specs.declared.refusal.Kind.TheVariants as kind
use Rattle.osek_core.specs.declared.moves.Move.TheVariants.{Run, Tick, Poke}
use Rattle.text_words.specs.Said.{refused}
use Rattle.script.specs.declared.line.Line.{Line}
use Rattle.script.specs.declared.names.Names.{Names}
use Rattle.script.specs.Reading.{script_of}
use Rattle.script.specs.Writing.{script_text}
use Rattle.script.specs.InForm.{AreInForm}

-- one task, one counter and four device bytes
abbrev pub small : Names
small = record { tasks = codes "main" ∷ []; resources = []; events = []; counters = codes "ms" ∷ []; alarms = []; methods = []; devices = 4 }

abbrev pub runs : ℕ → Line
runs n = record { times = n; step = Run }

abbrev pub ticks : ℕ → Line
ticks n = record { times = n; step = Tick 0 }

abbrev pub ReadsItsLines : Type 0
ReadsItsLines = script_of small 9 (codes "run 2\n# a comment\ntick ms\n") ≡ Ok (runs 2 ∷ ticks 1 ∷ [])

abbrev pub CountsMoves : Type 0
CountsMoves = script_of small 2 (codes "run 2\ntick ms") ≡ refused kind.TooMany 2

abbrev pub EndsWithinTheDevices : Type 0
EndsWithinTheDevices = script_of small 9 (codes "poke 3 0aFf") ≡ refused kind.Range 1

-- two bytes at 1
abbrev pub poke : Line
poke = record { times = 1; step = Poke 1 (record { len = 2; bytes = 10 ∷ 255 ∷ 0 ∷ 0 ∷ 0 ∷ 0 ∷ 0 ∷ 0 ∷ [] }) }

abbrev pub few : List Line
few = runs 2 ∷ runs 3 ∷ ticks 1 ∷ poke ∷ []

abbrev pub HasForm : Type 0
HasForm = AreInForm small few

abbrev pub JoinsRuns : Type 0
JoinsRuns = script_text small few ≡ codes "run 5\ntick ms 1\npoke 1 0aff\n"
