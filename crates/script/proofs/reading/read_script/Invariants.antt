use Rattle.std.proofs.Common.{◌≡◌, ◌≤◌, [], map, drop}
use Rattle.text_words.specs.TextLines.{spoken_lines}
use Rattle.script.specs.Reading.{next_said}
use Rattle.script.specs.InTurn.{in_turn}
use Rattle.script.proofs.reading.read_script.Given as goal

abbrev pub invariant-loop-next : goal.invariant-loop-next
invariant-loop-next l = record {
  few : l.said.moves ≤ l.most;
  so_far : in_turn (next_said l.names l.most) l.said (map (λ line. (line.number, line.text.now)) (drop l.next-index l.next-items)) ≡ in_turn (next_said l.names l.most) (record { lines = []; moves = 0 }) (spoken_lines l.text);
}
