use Rattle.std.proofs.Common.{◌≡◌, ◌++◌, take, flat_map}
use Rattle.oil_out.specs.OilText.{counter_text}
use Rattle.oil_out.proofs.append_counters.Given as goal

abbrev pub invariant-loop-row : goal.invariant-loop-row
invariant-loop-row l = l.out.items ≡ l.initial.out.items ++ flat_map counter_text (take l.row-index l.counters)
