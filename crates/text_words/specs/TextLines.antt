-- The lines of a configuration that say something, with their numbers.
use Rattle.std.specs.Prelude.{ℕ, ◌-◌, ◌==◌, nat_lt, slice_index, take, Bool, true, false, ◌&&◌, not, List, [], ◌∷◌, length, filter, Option, Some, None, if◌then◌else◌}
use Rattle.std.specs.List.{slice_split, find, enumerate_from, flat_map}
use Rattle.kes_text.specs.Lines.{lines}

-- the text begins with a line feed
abbrev pub feed_follows : List ℕ → Bool
feed_follows [] = false
feed_follows (byte ∷ text) = byte == 10

-- a carriage return directly before a line feed is dropped
abbrev pub without_returns : List ℕ → List ℕ
without_returns [] = []
without_returns (byte ∷ text) = if byte == 13 && feed_follows text then without_returns text else byte ∷ without_returns text

-- the line's last byte is a carriage return
abbrev pub ends_in_return : List ℕ → Bool
ends_in_return line = nat_lt 0 (length line) && slice_index line (length line - 1) == 13

-- a line without a carriage return at its end
abbrev pub chomp : List ℕ → List ℕ
chomp line = if ends_in_return line then take (length line - 1) line else line

abbrev pub is_space : ℕ → Bool
is_space byte = byte == 32

-- nothing, or `#`
abbrev pub is_none_or_hash : Option ℕ → Bool
is_none_or_hash None = true
is_none_or_hash (Some byte) = byte == 35

-- a blank line, or a comment: what comes behind the spaces at its front is nothing, or `#`
abbrev pub is_skipped : List ℕ → Bool
is_skipped line = is_none_or_hash (find (λ byte. not (is_space byte)) line)

abbrev pub all_lines : List ℕ → List (List ℕ)
all_lines text = lines (without_returns text)

-- a line that isn't skipped
abbrev pub spoken : ℕ × List ℕ → List (ℕ × List ℕ)
spoken line = if is_skipped line.1 then [] else line ∷ []

-- those lines, each with its number from 1
abbrev pub spoken_lines : List ℕ → List (ℕ × List ℕ)
spoken_lines text = flat_map spoken (enumerate_from 1 (all_lines text))

-- words are separated by one or more spaces
abbrev pub words : List ℕ → List (List ℕ)
words line = filter (λ word. nat_lt 0 (length word)) (slice_split is_space line)
