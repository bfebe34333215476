use Rattle.std.proofs.Common.{◌≡◌, drop}
use Rattle.std.specs.List.{list_all}
use Rattle.kconfig.specs.declared.config.ObjectLine.{ObjectLine}
use Rattle.kbind.specs.Objects.{ends_within}
use Rattle.kbind.specs.Rooms.{has_room}
use Rattle.kbind.proofs.rooms.all_rooms.Given as goal

abbrev pub invariant-loop-n : goal.invariant-loop-n
invariant-loop-n l = (line : ObjectLine) → has_room l.rooms line.class line.base ≡ list_all (ends_within l.size line) (drop l.n l.cells)
