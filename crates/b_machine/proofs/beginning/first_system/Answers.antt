use Rattle.std.proofs.Common.{◌≡◌, ap, ◌∙◌, not, length, ◌==◌, List}
use Rattle.std.proofs.lemmas.Result.{IfOk-weaker}
use Rattle.osek_core.specs.declared.tables.Tables.{Tables}
use Rattle.kbind.specs.declared.bound.Bound.{Bound}
use Rattle.kconfig.specs.Tables.{tables_of}
use Rattle.reaching.specs.declared.pair.Pair.{Pair}
use Rattle.system.specs.Value.{PlannedSystem, first_system as by_test}
use Rattle.b_machine.specs.State.{first_system}
use Rattle.b_machine.proofs.Starting.{starts}
use Rattle.b_machine.proofs.beginning.first_system.Goals as goal

pub returns-clause-system : goal.returns-clause-system
returns-clause-system c =
    let app = c.args.program.now in
    let none = c.is_empty.result in
    let same = c.in_ok-tables.ensures.same ∙ ap (λ (b : Bound). tables_of b.config) c.bound.ensures in
    let is = ap (λ (t : Tables). by_test t (not none)) same ∙ starts app app.initialisers none (c.is_empty.ensures ∙ ap (λ (pairs : List Pair). length pairs == 0) c.initialisers.ensures) in
    IfOk-weaker c.new.result (λ (y : PlannedSystem). y.system ≡ by_test c.in_ok-tables.tables (not none)) (λ (y : PlannedSystem). y.system ≡ first_system app app.initialisers) (λ y e. e ∙ is) c.new.ensures.system
