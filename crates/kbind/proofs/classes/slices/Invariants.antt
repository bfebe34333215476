use Rattle.std.proofs.Common.{◌≡◌, map, take}
use Rattle.kbind.proofs.classes.slices.Given as goal

abbrev pub invariant-loop-text : goal.invariant-loop-text
invariant-loop-text l = map (λ slice. slice.now) l.slices.items ≡ map (λ text. text.items) (take l.text-index l.texts)
