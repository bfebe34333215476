-- A script that is written reads back.
use Rattle.std.specs.Prelude.{◌≡◌, ℕ, ◌≤◌, List, sum_by, Ok}
use Rattle.script.specs.declared.line.Line.{Line}
use Rattle.script.specs.declared.names.Names.{Names}
use Rattle.script.specs.Reading.{script_of}
use Rattle.script.specs.Writing.{joined}

-- for how many moves lines stand
abbrev pub move_count : List Line → ℕ
move_count lines = sum_by (λ line. line.times) lines

-- The text has one reading: wherever so many moves are allowed it is read as the joined lines, and it is never read as others.
pub record ReadsBack (names : Names) (lines : List Line) (text : List ℕ) : Type 0 where
  pub reads : (most : ℕ) → move_count lines ≤ most → script_of names most text ≡ Ok (joined lines)
  pub alone : (most : ℕ) (others : List Line) → script_of names most text ≡ Ok others → others ≡ joined lines
