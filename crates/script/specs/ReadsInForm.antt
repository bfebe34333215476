-- What a text says is in form, so that it can be written again.
use Rattle.std.specs.Prelude.{◌≡◌, ℕ, List, All, Ok}
use Rattle.script.specs.declared.line.Line.{Line}
use Rattle.script.specs.declared.names.Names.{Names}
use Rattle.script.specs.Reading.{script_of}
use Rattle.script.specs.InForm.{IsLine}

abbrev pub ReadsInForm : Type 0
ReadsInForm = (names : Names) (most : ℕ) (text : List ℕ) (lines : List Line) → script_of names most text ≡ Ok lines → All (IsLine names) lines
