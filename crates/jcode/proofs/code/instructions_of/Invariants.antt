use Rattle.std.proofs.Common.{◌≡◌, ◌≤◌, ◌<◌, ◌-◌, length, drop}
use Rattle.std.specs.List.{All}
use Rattle.jcode.specs.Code.{instructions_from}
use Rattle.jcode.specs.PoolOf.{pool_of}
use Rattle.jcode.proofs.CodeLoop.{with_code}
use Rattle.jcode.proofs.code.instructions_of.Given as goal

abbrev pub invariant-loop-place : goal.invariant-loop-place
invariant-loop-place l = record {
  within : l.place ≤ length l.code;
  inside : All (λ ins. ins.pc < length l.code) l.found.items;
  so_far : with_code l.found.items (instructions_from (pool_of l.class) l.base l.place 0 (drop l.place l.code)) ≡ instructions_from (pool_of l.class) l.base 0 0 l.code;
}

abbrev pub decreases-loop-place : goal.decreases-loop-place
decreases-loop-place l = length l.code - l.place
