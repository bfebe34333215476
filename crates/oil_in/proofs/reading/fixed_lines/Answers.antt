use Rattle.std.proofs.Common.{[]}
use Rattle.std.proofs.lemmas.Result.{err_from_is_err_and}
use Rattle.oil_in.specs.Reading.{fixed_lines}
use Rattle.oil_in.proofs.FixedLemmas.{texts_of, goes_on, ends, is_done}
use Rattle.oil_in.proofs.reading.fixed_lines.Goals as goal

pub returns-in_err-scan : goal.returns-in_err-scan
returns-in_err-scan c =
    let p = err_from_is_err_and c.from_residual.result c.from_residual.ensures.1 in
    rw (p.1, p.2) (ends c.args.texts.now c.loop-text.text-index (record { ref_ptr = (0, 0); now = [] }) c.loop-text.scan c.in_err-scan.field-0.0 (fixed_lines (texts_of c.args.texts.now) c.args.start) c.loop-text-test.true c.in_err-scan.ensures c.loop-text.invariant)

pub loop-text-preserved : goal.loop-text-preserved
loop-text-preserved c =
    goes_on c.args.texts.now c.loop-text.text-index (record { ref_ptr = (0, 0); now = [] }) c.loop-text.scan c.in_ok-scan.scan (fixed_lines (texts_of c.args.texts.now) c.args.start) c.loop-text-test.true c.in_ok-scan.ensures c.loop-text.invariant

pub returns : goal.returns
returns c =
    is_done c.args.texts.now c.loop-text.text-index c.loop-text.scan (fixed_lines (texts_of c.args.texts.now) c.args.start) c.loop-text-test.false c.loop-text.invariant
