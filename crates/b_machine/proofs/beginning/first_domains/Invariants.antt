-- The domains of the lines before the loop's place.
use Rattle.std.proofs.Common.{◌≡◌, map, take}
use Rattle.b_step.specs.Domain.{first_domain}
use Rattle.b_machine.specs.State.{limit_of}
use Rattle.b_machine.proofs.beginning.first_domains.Given as goal

abbrev pub invariant-loop-line : goal.invariant-loop-line
invariant-loop-line l = l.domains.items ≡ map (λ line. first_domain l.program.files (limit_of line)) (take l.line-index l.lines)
