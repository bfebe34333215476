-- The lines so far and those of what is left; each line takes a byte at least.
use Rattle.std.proofs.Common.{◌≡◌, ◌+◌, ◌-◌, ◌≤◌, ◌++◌, map, length}
use Rattle.std.specs.List.{flat_map, enumerate_from}
use Rattle.kes_text.specs.Lines.{lines}
use Rattle.kes_text.specs.Reading.{rest}
use Rattle.text_words.specs.TextLines.{without_returns, spoken, all_lines, spoken_lines}
use Rattle.text_words.proofs.line.text_lines.Given as goal

abbrev pub invariant-loop-text : goal.invariant-loop-text
invariant-loop-text l = record {
  input : l.cursor.input ≡ l.fn.text;
  within : l.cursor.place ≤ length l.cursor.input;
  number : l.number ≤ l.cursor.place + 1;
  kept : map (λ line. (line.number, line.text.now)) l.lines.items ++ flat_map spoken (enumerate_from l.number (lines (without_returns (rest l.cursor)))) ≡ spoken_lines l.fn.text;
  count : l.number + length (lines (without_returns (rest l.cursor))) ≡ length (all_lines l.fn.text) + 1;
}

abbrev pub decreases-loop-text : goal.decreases-loop-text
decreases-loop-text l = length l.cursor.input - l.cursor.place
