-- A line of the C text.
use Rattle.std.specs.Prelude.{ℕ, List, ◌++◌, codes}

-- the text, and the line feed behind it
abbrev pub line : List ℕ → List ℕ
line text = text ++ codes "\n"
