use Rattle.std.proofs.Common.{List, ℕ, ◌≤◌, ◌<◌, length, get_or, sym, subst}
use Rattle.classfile.specs.ClassFile.{ClassInfo}
use Rattle.kbind.proofs.Small.{has_few_methods}
use Rattle.kbind.proofs.binding.methods_of.Goals as goal

pub declared_methods-requires-clause-small : goal.declared_methods-requires-clause-small
declared_methods-requires-clause-small c =
    subst (λ (files : List ClassInfo). (k : ℕ) (d : ClassInfo) → k < length files → length (get_or files k d).methods ≤ 65536) (sym c.files.ensures.files) (has_few_methods c.args.world.now c.files.ensures.faultless)
