-- The calls that were read, and those that are left, are those of the whole code.
use Rattle.std.proofs.Common.{◌≡◌, ◌++◌, drop}
use Rattle.reach.specs.Calls.{calls_from}
use Rattle.reach.proofs.calls.calls_in_code.Given as goal

abbrev pub invariant-loop-ins : goal.invariant-loop-ins
invariant-loop-ins l = l.calls.items ++ calls_from l.s l.pairs l.site l.file l.index (drop l.ins-index l.code) ≡ calls_from l.s l.pairs l.site l.file 0 l.code
