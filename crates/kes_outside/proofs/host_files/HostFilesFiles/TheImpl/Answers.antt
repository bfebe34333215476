-- Nothing is told of the contents, so the trait's clauses on them say nothing here; those on the faults follow from the exact ones.
use Rattle.std.proofs.Common.{Ok, Err, IfOk, OnOk, refl, arith}
use Rattle.kes_outside.proofs.host_files.HostFilesFiles.TheImpl.Goals as goal

pub write-tells : goal.write-tells
write-tells g c = record {
  ok = elim c.result as (λ r. OnOk r (Unit {0})) [ Ok _ ↦ tt | Err _ ↦ tt ];
  others = λ _. tt;
  failed = λ is. omega (arith, c.ensures.failed is);
  no_memory = λ _. refl;
  count = c.ensures.count;
}

pub read-tells : goal.read-tells
read-tells g c = record {
  ok = elim c.result as (λ r. IfOk r (λ _. Unit {0})) [ Ok _ ↦ tt | Err _ ↦ tt ];
  files = refl;
  missing = c.ensures.never_missing;
  missing_is_no_fault = λ is. absurd (c.ensures.never_missing is);
  failed = λ is. omega (arith, c.ensures.failed is);
  count = c.ensures.count;
}
