-- The class files before the loop's place are read.
use Rattle.std.proofs.Common.{◌≡◌, map, take, Ok}
use Rattle.classfile.specs.Reading.{class_file}
use Rattle.keso_cli.proofs.reading.classes_in.Given as goal

abbrev pub invariant-loop-file : goal.invariant-loop-file
invariant-loop-file l =
    (l.index ≡ l.file-index)
    × (map class_file (map (λ file. file.items) (take l.file-index l.files)) ≡ map Ok l.classes)
