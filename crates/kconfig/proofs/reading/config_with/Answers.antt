use Rattle.std.proofs.Common.{◌≡◌, ◌+◌, ◌≤◌, ℕ, List, [], map, drop, get_or, length, Result, refl, sym, ap, ◌∙◌, arith}
use Rattle.std.proofs.lemmas.Result.{err_from_is_err_and}
use Rattle.kes_text.specs.declared.refusal.Stop.{Stop}
use Rattle.kconfig.specs.declared.config.Config.{Config}
use Rattle.text_words.specs.declared.line.TextLine.{TextLine}
use Rattle.text_words.proofs.SeenLemmas.{seen_from, none_left}
use Rattle.kconfig.specs.Reading.{config_with}
use Rattle.kconfig.proofs.Stepping.{goes_on, ends, same_waits, done}
use Rattle.kconfig.proofs.reading.config_with.Goals as goal

abbrev seen : TextLine → ℕ × List ℕ
seen line = (line.number, line.text.now)

abbrev none : TextLine
none = record { number = 0; text = record { ref_ptr = (0, 0); now = [] } }

pub returns-in_err-reader-clause-says : goal.returns-in_err-reader-clause-says
returns-in_err-reader-clause-says c =
    let p = err_from_is_err_and c.from_residual-in_err-reader.result c.from_residual-in_err-reader.ensures.1 in
    let others = c.args.others.now in
    let i = c.loop-next.next-index in
    let f : List (ℕ × List ℕ) → Result Config Stop = config_with c.loop-next.reader.waits c.loop-next.reader.config in
    let here = ap f (sym (seen_from seen others i none c.loop-next-test.true)) ∙ c.loop-next.invariant.rest in
    rw (p.1, p.2) (ends c.loop-next.reader.waits c.loop-next.reader (seen (get_or others i none)) (map seen (drop (i + 1) others)) _ c.in_err-reader.field-0.0 refl c.in_err-reader.ensures here)

pub loop-next-preserved : goal.loop-next-preserved
loop-next-preserved c =
    let others = c.args.others.now in
    let i = c.loop-next.next-index in
    let before = c.loop-next.reader in
    let behind = c.in_ok-reader.reader in
    let f : List (ℕ × List ℕ) → Result Config Stop = config_with before.waits before.config in
    let here = ap f (sym (seen_from seen others i none c.loop-next-test.true)) ∙ c.loop-next.invariant.rest in
    let same : behind.waits ≡ before.waits = same_waits before behind (seen (get_or others i none)) c.in_ok-reader.ensures in
    let more = goes_on before.waits before behind (seen (get_or others i none)) (map seen (drop (i + 1) others)) _ refl c.in_ok-reader.ensures here in
    let g : List (List ℕ × List ℕ) → Result Config Stop = λ waits. config_with waits behind.config (map seen (drop (i + 1) others)) in
    record { waits = same ∙ c.loop-next.invariant.waits; rest = ap g same ∙ more }

pub returns-clause-says : goal.returns-clause-says
returns-clause-says c =
    let past : length c.args.others.now ≤ c.loop-next.next-index = omega (arith, c.loop-next-test.false) in
    let f : List (ℕ × List ℕ) → Result Config Stop = config_with c.loop-next.reader.waits c.loop-next.reader.config in
    rw c.into_config.ensures.same (done c.loop-next.reader.waits c.loop-next.reader.config _ (ap f (sym (none_left seen c.args.others.now c.loop-next.next-index past)) ∙ c.loop-next.invariant.rest))
