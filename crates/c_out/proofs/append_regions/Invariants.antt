use Rattle.std.proofs.Common.{◌≡◌, ◌++◌, take}
use Rattle.csubset.specs.Text.Program.{region_line}
use Rattle.kes_text.specs.Numbered.{numbered}
use Rattle.c_out.proofs.append_regions.Given as goal

abbrev pub invariant-loop-number : goal.invariant-loop-number
invariant-loop-number l = l.out.items ≡ l.initial.out.items ++ numbered region_line 0 (take l.number l.regions)
