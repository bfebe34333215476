-- The files before the loop's place are read.
use Rattle.std.proofs.Common.{◌≡◌, ◌≤◌, map, take, length, Some, IfSome, string_bytes}
use Rattle.std.specs.FinMap.{get}
use Rattle.keso_cli.proofs.loading.read_all.Given as goal

abbrev pub invariant-loop-name : goal.invariant-loop-name
invariant-loop-name g l =
    (g.F.Files.contents l.files ≡ g.F.Files.contents l.fn.files)
    × (g.F.Files.faults l.fn.files ≤ g.F.Files.faults l.files)
    × IfSome (g.F.Files.contents l.fn.files) (λ held. map (get held) (map string_bytes (take l.name-index l.names)) ≡ map Some l.all)
    × (length l.all ≡ l.name-index)
