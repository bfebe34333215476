use Rattle.std.proofs.Common.{ℕ, List, sym}
use Rattle.text_words.specs.TextLines.{words}
use Rattle.kconfig.specs.Reading.{wait_words}
use Rattle.text_words.specs.declared.line.TextLine.{TextLine}
use Rattle.kconfig.proofs.Stepping.{flat_of_map}
use Rattle.kconfig.proofs.reading.waits_of.Goals as goal

pub loop-line-init : goal.loop-line-init
loop-line-init c =
    rw c.new-waits.ensures.items
    (sym (flat_of_map (λ (x : ℕ × List ℕ). wait_words (words x.1)) (λ (line : TextLine). (line.number, line.text.now)) c.args.lines.now))
