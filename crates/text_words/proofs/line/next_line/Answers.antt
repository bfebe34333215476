use Rattle.std.proofs.Common.{◌<◌, ◌≤◌, ◌-◌, ℕ, List, ◌∷◌, length, refl, sym, ap, ◌∙◌}
use Rattle.kes_text.specs.Lines.{lines}
use Rattle.kes_text.specs.Reading.{rest}
use Rattle.text_words.specs.TextLines.{without_returns}
use Rattle.text_words.proofs.TextLineLemmas.{feed_case, last_case}
use Rattle.text_words.proofs.line.next_line.Goals as goal

pub returns-then-passed-line-clause-lines : goal.returns-then-passed-line-clause-lines
returns-then-passed-line-clause-lines c =
    let passed : length c.in_ok-line.line.now < c.line.new.self.place - c.args.cursor.now.place = rw (← c.at.ensures.place, ← c.at-before.ensures.place) c.if-passed-line.true in
    let put : List ℕ → List (List ℕ) = λ l. l ∷ lines (without_returns (rest c.line.new.self)) in
    feed_case c.args.cursor.now c.line.new.self c.in_ok-line.line.now c.in_ok-line.ensures.piece c.in_ok-line.ensures.after c.at-before.ensures.within passed ∙ ap put (sym c.chomped.ensures)

pub returns-else-passed-line-clause-lines : goal.returns-else-passed-line-clause-lines
returns-else-passed-line-clause-lines c =
    let passed : c.line.new.self.place - c.args.cursor.now.place ≤ length c.in_ok-line.line.now = rw (← c.at.ensures.place, ← c.at-before.ensures.place) c.if-passed-line.false in
    let more : c.args.cursor.now.place < length c.args.cursor.now.input = c.in_ok-line.ensures.more.0 refl in
    last_case c.args.cursor.now c.line.new.self c.in_ok-line.line.now c.in_ok-line.ensures.piece c.in_ok-line.ensures.after more passed
