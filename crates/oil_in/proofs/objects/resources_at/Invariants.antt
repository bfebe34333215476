use Rattle.std.proofs.Common.{◌≡◌, ◌-◌, ◌≤◌, length, codes}
use Rattle.oil_in.specs.Forms.{header}
use Rattle.oil_in.specs.Scan.{many}
use Rattle.oil_in.specs.Objects.{resource_at, resources_at}
use Rattle.oil_in.proofs.objects.resources_at.Given as goal

abbrev pub invariant-loop-name : goal.invariant-loop-name
invariant-loop-name l = record {
  room : length l.resources ≤ 32;
  so_far : many (header (codes "  RESOURCE r_")) resource_at (32 - length l.resources) l.resources l.scan ≡ resources_at l.fn.start;
}

abbrev pub decreases-loop-name : goal.decreases-loop-name
decreases-loop-name l = 32 - length l.resources
