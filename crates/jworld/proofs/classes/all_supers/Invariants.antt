use Rattle.std.proofs.Common.{◌≡◌, ◌++◌, take, map}
use Rattle.jworld.specs.Classes.{class_named}
use Rattle.jworld.specs.Held.{built_in_supers}
use Rattle.jworld.proofs.classes.all_supers.Given as goal

abbrev pub invariant-loop-class : goal.invariant-loop-class
invariant-loop-class l = l.supers ≡ built_in_supers ++ map (λ file. class_named l.classes file.super_name) (take l.class-index l.classes)
