use Rattle.std.proofs.Common.{◌≡◌, [], take, drop}
use Rattle.std.specs.List.{list_any}
use Rattle.classfile.specs.Numbers.{Numbered, is_same_number}
use Rattle.classfile.specs.Faults.{first_fault}
use Rattle.classfile.proofs.Checking.{has_number}
use Rattle.classfile.proofs.checks.first_fault.Given as goal

abbrev pub invariant-loop-one : goal.invariant-loop-one
invariant-loop-one l = record {
  seen : (one : Numbered) → list_any (is_same_number one) l.seen ≡ has_number l.pool l.numbers (take l.one-index l.uses) one;
  faults : first_fault l.pool (take l.one-index l.uses) (drop l.one-index l.uses) ≡ first_fault l.pool [] l.uses;
}
