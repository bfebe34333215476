-- What a line says, or why the text is refused at it.
pub use Rattle.kes_text.specs.Answers.{◌>>=◌, OrNoMemory}
use Rattle.std.specs.Prelude.{ℕ, Bool, Option, Some, None, Result, Ok, Err, if◌then◌else◌}
use Rattle.kes_text.specs.declared.refusal.Stop.{Stop}
use Rattle.kes_text.specs.declared.refusal.Stop.TheVariants.{Refused}
use Rattle.kes_text.specs.declared.refusal.Kind.{Kind}

-- the text is refused at a line
abbrev pub refused : {A : Type 0} → Kind → ℕ → Result A Stop
refused kind n = Err (Refused (record { file = 0; kind = kind; at = n }))

-- the fault stands at the line where the test fails
abbrev pub check : Bool → Kind → ℕ → Result (Unit {0}) Stop
check test kind n = if test then Ok tt else refused kind n

-- the fault stands at the line where there is none
abbrev pub known : {A : Type 0} → Option A → Kind → ℕ → Result A Stop
known (Some x) kind n = Ok x
known None kind n = refused kind n
