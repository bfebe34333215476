use Rattle.std.proofs.Common.{◌≡◌, ◌++◌, take}
use Rattle.mapfile.specs.MapText.{fail_line}
use Rattle.kes_text.specs.Numbered.{numbered}
use Rattle.mapfile.proofs.append_fails.Given as goal

abbrev pub invariant-loop-place : goal.invariant-loop-place
invariant-loop-place l = l.out.items ≡ l.initial.out.items ++ numbered fail_line 1 (take l.place l.fails)
