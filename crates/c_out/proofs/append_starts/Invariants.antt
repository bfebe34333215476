use Rattle.std.proofs.Common.{◌≡◌, ◌++◌, take, flat_map}
use Rattle.csubset.specs.Text.Program.{start_line}
use Rattle.c_out.proofs.append_starts.Given as goal

abbrev pub invariant-loop-function : goal.invariant-loop-function
invariant-loop-function l = l.out.items ≡ l.initial.out.items ++ flat_map start_line (take l.function-index l.starts)
