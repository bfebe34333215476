use Rattle.std.proofs.Common.{ℕ, List, Result, Ok, Err, IfOk, subst}
use Rattle.kes_text.specs.declared.refusal.Stop.{Stop}
use Rattle.osek_core.specs.declared.tables.Tables.{Tables}
use Rattle.oil_in.specs.Scan.{Answers}
use Rattle.oil_in.specs.Reading.{oil_read}
use Rattle.oil_in.specs.Says.{Says}
use Rattle.oil_in.proofs.RulesOfAll.{what-is-said}
use Rattle.oil_in.proofs.reading.read_oil.Goals as goal

said : (r : Result Tables Stop) (text : List ℕ) → Answers (λ tables. tables) r (oil_read text) → IfOk r (Says text)
said (Ok tables) text h = (what-is-said text tables).0 h
said (Err stop) text h = tt

pub returns-clause-said : goal.returns-clause-said
returns-clause-said c = said c.oil_of.result c.args.text.now c.oil_of.ensures

pub returns-clause-complete : goal.returns-clause-complete
returns-clause-complete c tables says =
    let Answered : Result Tables Stop → Type 0 = λ defined. Answers (λ x. x) c.oil_of.result defined in
    subst Answered ((what-is-said c.args.text.now tables).1 says) c.oil_of.ensures
