use Rattle.std.proofs.Common.{◌≡◌, ◌++◌, drop}
use Rattle.kbind.specs.Methods.{methods_from}
use Rattle.kbind.proofs.methods.add_methods.Given as goal

abbrev pub invariant-loop-n : goal.invariant-loop-n
invariant-loop-n l =
    l.declared.items ++ methods_from l.file l.class.n l.n (drop l.n l.method-items) ≡ l.initial.declared.items ++ methods_from l.file l.class.n 0 l.method-items
