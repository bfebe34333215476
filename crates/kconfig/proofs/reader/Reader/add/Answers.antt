-- What is kept beside the configuration, with the line.
use Rattle.std.proofs.Common.{subst, sym}
use Rattle.kconfig.specs.Config.{Before}
use Rattle.kconfig.specs.Limits.{Fits}
use Rattle.kconfig.proofs.Keeping.{keeps}
use Rattle.kconfig.proofs.reader.Reader.add.Goals as goal

pub invariant_of-result : goal.invariant_of-result
invariant_of-result c =
    let P : Before → Type 0 = λ b. Fits b.config c.args.line in
    let fits = subst P (sym c.self.view_is) c.requires.fits in
    rw c.in_ok-config.ensures
    (keeps c.self.inside.config c.args.line c.self.inside.methods c.self.inside.fields c.in_ok-methods.methods c.in_ok-fields.fields c.self.invariant fits c.in_ok-methods.ensures c.in_ok-fields.ensures)
