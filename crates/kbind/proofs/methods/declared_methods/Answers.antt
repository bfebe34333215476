use Rattle.std.proofs.Common.{◌+◌, arith}
use Rattle.kbind.proofs.Declaring.{file_more, all_files}
use Rattle.kbind.proofs.methods.declared_methods.Goals as goal

pub loop-k-preserved : goal.loop-k-preserved
loop-k-preserved c =
    rw c.in_ok-add_methods.ensures
    (file_more (c.loop-k.k + 4) (c.loop-k.k + 1 + 4) c.loop-k.k c.args.files.now c.index-files-k.result c.loop-k.declared.items _ (omega arith) c.loop-k-test.true c.index-files-k.is c.loop-k.invariant)

pub returns : goal.returns
returns c = all_files (c.loop-k.k + 4) c.loop-k.k c.args.files.now c.loop-k.declared.items _ c.loop-k-test.false c.loop-k.invariant
