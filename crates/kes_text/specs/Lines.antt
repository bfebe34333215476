-- The lines of a text. Each ends at a line feed, which is no part of it and which the last may lack.
use Rattle.std.specs.Prelude.{ℕ, Bool, ◌==◌, List, [], ◌∷◌, if◌then◌else◌}

-- `\n`
abbrev pub is_line_feed : ℕ → Bool
is_line_feed byte = byte == 10

-- the byte put at the front of the first line, or alone on a line where there is none
abbrev pub put_first : ℕ → List (List ℕ) → List (List ℕ)
put_first byte [] = (byte ∷ []) ∷ []
put_first byte (line ∷ more) = (byte ∷ line) ∷ more

abbrev pub lines : List ℕ → List (List ℕ)
lines [] = []
lines (byte ∷ text) = if is_line_feed byte then [] ∷ lines text else put_first byte (lines text)
