-- A script that is written stands for the same moves.
use Rattle.std.specs.Prelude.{◌≡◌, List}
use Rattle.script.specs.declared.line.Line.{Line}
use Rattle.script.specs.Writing.{joined, moves_of}

abbrev pub KeepsItsMoves : Type 0
KeepsItsMoves = (lines : List Line) → moves_of (joined lines) ≡ moves_of lines
