-- The first class file that isn't read has a fault.
use Rattle.std.proofs.Common.{map, string_bytes}
use Rattle.std.proofs.lemmas.Result.{err_from_is_err_and}
use Rattle.keso_cli.proofs.Refusing.{class_stops}
use Rattle.keso_cli.proofs.reading.classes_in.Goals as goal

pub returns-in_err-class_in-clause-stop : goal.returns-in_err-class_in-clause-stop
returns-in_err-class_in-clause-stop c =
    let p = err_from_is_err_and c.from_residual.result c.from_residual.ensures.1 in
    let names = map string_bytes c.args.names.classes.now in
    let stop = rw (c.as_slice.ensures.value, c.loop-file.invariant.0) at c.in_err-class_in.ensures.stop in
    rw (p.1, p.2) (class_stops (λ file. file.items) names c.args.files.now c.loop-file.file-index c.loop-file.classes c.file-item.result _ c.loop-file.invariant.1 c.loop-file-test.true c.file-item.is stop)
