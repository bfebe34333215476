use Rattle.std.proofs.Common.{◌≡◌, ◌++◌, take, flat_map}
use Rattle.oil_out.specs.OilText.{resource_text}
use Rattle.oil_out.proofs.append_resources.Given as goal

abbrev pub invariant-loop-name : goal.invariant-loop-name
invariant-loop-name l = l.out.items ≡ l.initial.out.items ++ flat_map resource_text (take l.name-index l.resources)
