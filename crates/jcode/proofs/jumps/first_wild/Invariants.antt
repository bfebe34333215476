use Rattle.std.proofs.Common.{◌≡◌, drop, false, slice_index_or}
use Rattle.jcode.specs.Decoded.{first_wild}
use Rattle.jcode.proofs.jumps.first_wild.Given as goal

abbrev pub invariant-loop-ins : goal.invariant-loop-ins
invariant-loop-ins l = first_wild (λ k. slice_index_or l.begins k false) (drop l.ins-index l.code) ≡ first_wild (λ k. slice_index_or l.begins k false) l.code
