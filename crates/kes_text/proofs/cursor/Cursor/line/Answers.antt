use Rattle.std.proofs.Common.{◌≡◌, ◌<◌, length, take, drop, refl, arith}
use Rattle.std.specs.List.{before_first, after_first}
use Rattle.std.proofs.lemmas.Grind.{common_steps}
use Rattle.kes_text.specs.Lines.{is_line_feed}
use Rattle.kes_text.specs.Reading.{rest}
use Rattle.kes_text.proofs.LinesLemmas.{lines_step}
use Rattle.kes_text.proofs.cursor.Cursor.line.Goals as goal

pub returns-clause-lines : goal.returns-clause-lines
returns-clause-lines c =
    let left = rest c.args.self.now in
    let more : 0 < length left = grind (arith, common_steps) in
    let piece : take c.unwrap_or-length.result c.rest-rest.result.now ≡ before_first is_line_feed left = grind (arith, common_steps) in
    let behind : drop c.min-self-inside.result c.self.inside.input.now ≡ after_first is_line_feed left = grind (arith, common_steps) in
    rw (lines_step left more, piece, behind) refl
