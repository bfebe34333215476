use Rattle.std.proofs.Common.{◌+◌, ◌≤◌, ℕ, List, [], map, drop, get_or, length, Result, Ok, Vec, Global, sym, ap, ◌∙◌, arith}
use Rattle.std.proofs.lemmas.Result.{err_from_is_err_and}
use Rattle.kes_text.specs.declared.refusal.Stop.{Stop}
use Rattle.kes_text.specs.Answers.{◌>>=◌}
use Rattle.text_words.specs.declared.line.TextLine.{TextLine}
use Rattle.text_words.proofs.SeenLemmas.{seen_from, none_left}
use Rattle.script.specs.declared.line.Line.{Line}
use Rattle.script.specs.Reading.{Said, next_said}
use Rattle.script.specs.InTurn.{in_turn}
use Rattle.script.proofs.InTurnLemmas.{goes_on, ends, done, answered}
use Rattle.script.proofs.reading.read_script.Goals as goal

abbrev seen : TextLine → ℕ × List ℕ
seen line = (line.number, line.text.now)

abbrev none : TextLine
none = record { number = 0; text = record { ref_ptr = (0, 0); now = [] } }

pub returns-in_err-said : goal.returns-in_err-said
returns-in_err-said c =
    let p = err_from_is_err_and c.from_residual-in_err-said.result c.from_residual-in_err-said.ensures.1 in
    let step = next_said c.args.names.now c.args.most in
    let lines = c.deref-next-items.result.now in
    let i = c.loop-next.next-index in
    let f : List (ℕ × List ℕ) → Result Said Stop = in_turn step c.loop-next.said in
    let here = ap f (sym (seen_from seen lines i none c.loop-next-test.true)) ∙ c.loop-next.invariant.so_far in
    rw (p.1, p.2) (answered (λ said. said.lines) (λ (lines : Vec Line Global). lines.items) _ c.in_err-said.field-0.0 (ends step c.loop-next.said (seen (get_or lines i none)) (map seen (drop (i + 1) lines)) c.in_err-said.field-0.0 _ c.in_err-said.ensures.says here))

pub loop-next-preserved : goal.loop-next-preserved
loop-next-preserved c =
    let step = next_said c.args.names.now c.args.most in
    let lines = c.deref-next-items.result.now in
    let i = c.loop-next.next-index in
    let f : List (ℕ × List ℕ) → Result Said Stop = in_turn step c.loop-next.said in
    let here = ap f (sym (seen_from seen lines i none c.loop-next-test.true)) ∙ c.loop-next.invariant.so_far in
    record {
      few = c.in_ok-said.ensures.few;
      so_far = goes_on step c.loop-next.said c.in_ok-said.said (seen (get_or lines i none)) (map seen (drop (i + 1) lines)) _ c.in_ok-said.ensures.says here;
    }

pub returns : goal.returns
returns c =
    let step = next_said c.args.names.now c.args.most in
    let past : length c.deref-next-items.result.now ≤ c.loop-next.next-index = omega (arith, c.loop-next-test.false) in
    let f : List (ℕ × List ℕ) → Result Said Stop = in_turn step c.loop-next.said in
    let total = done step c.loop-next.said _ (ap f (sym (none_left seen c.deref-next-items.result.now c.loop-next.next-index past)) ∙ c.loop-next.invariant.so_far) in
    let g : Result Said Stop → Result (List Line) Stop = λ r. (r >>= λ said. Ok said.lines) in
    let lines : Said → List Line = λ said. said.lines in
    sym (ap g total) ∙ sym (ap (λ said. Ok (lines said)) c.said.view_is)
