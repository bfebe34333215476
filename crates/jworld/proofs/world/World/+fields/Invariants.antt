use Rattle.std.proofs.Common.{◌≡◌, ◌+◌, ◌*◌, map, drop, filter_map}
use Rattle.jworld.specs.Classes.{class_named, interfaces_of}
use Rattle.jworld.specs.Passed.{FindNothing}
use Rattle.jworld.specs.Fields.{first_found, resolved_field}
use Rattle.jworld.proofs.Acyclic.{rank}
use Rattle.jworld.proofs.world.World.+fields.Given as goal

abbrev pub decreases-search_field : goal.decreases-search_field
decreases-search_field l = 2 * rank l.self.now l.class.n + 1

abbrev pub decreases-search_interfaces : goal.decreases-search_interfaces
decreases-search_interfaces l = 2 * rank l.self.now l.class.n

abbrev pub invariant-search_interfaces-loop-name : goal.invariant-search_interfaces-loop-name
invariant-search_interfaces-loop-name l = record {
  nothing : FindNothing l.self l.key l.passed;
  rest : first_found (resolved_field l.self l.key) (filter_map (class_named l.self) (map (λ name. name.now) (drop l.name-index l.name-items))) ≡ first_found (resolved_field l.self l.key) (interfaces_of l.self l.fn.class.n);
}
