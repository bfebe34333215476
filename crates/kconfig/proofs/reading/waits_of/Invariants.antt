use Rattle.std.proofs.Common.{◌≡◌, ◌++◌, map, drop}
use Rattle.std.specs.List.{flat_map}
use Rattle.text_words.specs.TextLines.{words}
use Rattle.kconfig.specs.Reading.{wait_words, waits_of}
use Rattle.kconfig.proofs.reading.waits_of.Given as goal

abbrev pub invariant-loop-line : goal.invariant-loop-line
invariant-loop-line l =
    map (λ x. (x.task.now, x.event.now)) l.waits.items ++ flat_map (λ line. wait_words (words line.text.now)) (drop l.line-index l.lines)
    ≡ waits_of (map (λ line. (line.number, line.text.now)) l.lines)
