use Rattle.std.proofs.Common.{◌≡◌, ◌++◌, drop, flat_map}
use Rattle.script.specs.Writing.{line_text, joined_from}
use Rattle.script.proofs.writing.append_joined.Given as goal

abbrev pub invariant-loop-next : goal.invariant-loop-next
invariant-loop-next l = l.out.items ++ flat_map (line_text l.names) (joined_from l.last (drop l.next-index l.others)) ≡ l.fn.out.items ++ flat_map (line_text l.fn.names) (joined_from l.fn.first l.fn.others)
