use Rattle.std.proofs.Common.{◌≡◌, map, take}
use Rattle.kbind.proofs.methods.words.Given as goal

abbrev pub invariant-loop-method : goal.invariant-loop-method
invariant-loop-method l = map (λ word. word.now) l.words.items ≡ map (λ d. d.word) (take l.method-index l.methods)
