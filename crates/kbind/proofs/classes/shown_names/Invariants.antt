use Rattle.std.proofs.Common.{◌≡◌, map, take}
use Rattle.kes_text.specs.Shown.{shown}
use Rattle.jworld.specs.Classes.{names}
use Rattle.kbind.proofs.classes.shown_names.Given as goal

abbrev pub invariant-loop-n : goal.invariant-loop-n
invariant-loop-n l = map (λ text. text.items) l.texts.items ≡ map (λ name. shown name) (take l.n (names l.world))
