use Rattle.std.proofs.Common.{◌≡◌, ◌-◌}
use Rattle.jnames.specs.Descriptors.{parameters_at}
use Rattle.jnames.proofs.OneByOne.{with_front}
use Rattle.jnames.proofs.descriptor.parameters_at.Given as goal

abbrev pub invariant-loop : goal.invariant-loop
invariant-loop l = with_front l.types.items (parameters_at (255 - l.counter) l.rest) ≡ parameters_at 255 l.bytes
