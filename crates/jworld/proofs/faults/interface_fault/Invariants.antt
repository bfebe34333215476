use Rattle.std.proofs.Common.{◌≡◌, ◌+◌, ◌-◌, ◌*◌, ◌^◌, min, drop, map}
use Rattle.jworld.specs.Faults.{interface_fault}
use Rattle.jworld.proofs.faults.interface_fault.Given as goal

abbrev pub invariant-loop-name : goal.invariant-loop-name
invariant-loop-name l = record {
  at : l.at ≡ min (l.super_at + 4 + 2 * l.name-index) (2 ^ 64 - 1);
  faults : interface_fault l.classes l.file (l.super_at + 4 + 2 * l.name-index) (map (λ name. name.now) (drop l.name-index l.names)) ≡ interface_fault l.classes l.file (l.super_at + 4) (map (λ name. name.now) l.names);
}
