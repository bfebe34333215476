use Rattle.std.proofs.Common.{◌≡◌, ◌||◌, ◌&&◌, ℕ, Bool, List, take}
use Rattle.std.specs.List.{list_any}
use Rattle.jworld.specs.Alone.{owners, declare_alone}
use Rattle.jworld.proofs.alone.add_methods.Given as goal

abbrev pub invariant-loop-method : goal.invariant-loop-method
invariant-loop-method l =
    (name descriptor : List ℕ) (test : ℕ → Bool)
    → list_any test (owners l.alone name descriptor) ≡ (list_any test (owners l.initial.alone name descriptor) || (test l.class && declare_alone name descriptor (take l.method-index l.methods)))
