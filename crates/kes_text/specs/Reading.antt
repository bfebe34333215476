-- How far an input has been read.
use Rattle.std.specs.Prelude.{ℕ, ◌+◌, List, length, drop, min}
use Rattle.std.specs.List.{before_first}
use Rattle.kes_text.specs.Lines.{is_line_feed}

-- the whole input, and how many of its bytes have been passed over
pub record Reading : Type 0 where
  pub input : List ℕ
  pub place : ℕ

-- the bytes that are left
abbrev pub rest : Reading → List ℕ
rest r = drop r.place r.input

-- the reading n bytes on
abbrev pub moved : Reading → ℕ → Reading
moved r n = record r { place = r.place + n }

-- the line that begins here: the bytes before the next line feed, or all that are left
abbrev pub next_line : Reading → List ℕ
next_line r = before_first is_line_feed (rest r)

-- the reading behind that line and its line feed, which the last line may lack
abbrev pub behind_line : Reading → Reading
behind_line r = record r { place = min (r.place + length (next_line r) + 1) (length r.input) }
