use Rattle.std.proofs.Common.{◌≡◌, ℕ, List, [], map, take, drop, bytes_eq}
use Rattle.std.specs.List.{list_any}
use Rattle.kconfig.specs.Methods.{each_once}
use Rattle.kconfig.proofs.methods.each_once.Given as goal

abbrev pub invariant-loop-name : goal.invariant-loop-name
invariant-loop-name l = record {
  earlier : (key : List ℕ) → list_any (bytes_eq key) l.earlier ≡ list_any (bytes_eq key) (map (λ name. name.now) (take l.name-index l.names));
  once : each_once (map (λ name. name.now) (take l.name-index l.names)) (map (λ name. name.now) (drop l.name-index l.names)) ≡ each_once [] (map (λ name. name.now) l.names);
}
