-- A step that stops stops the whole, and the steps before it went well.
use Rattle.std.proofs.lemmas.Result.{err_from_is_err_and}
use Rattle.keso_cli.specs.Seen.{files_seen}
use Rattle.keso_cli.proofs.Writes.{first_stops, later_stops, last_stops, all_stop_later}
use Rattle.keso_cli.proofs.build.write_texts.Goals as goal

pub returns-in_err-write_text-clause-stop : goal.returns-in_err-write_text-clause-stop
returns-in_err-write_text-clause-stop g c =
    let p = err_from_is_err_and c.from_residual.result c.from_residual.ensures.1 in
    rw (p.1, p.2) (first_stops _ _ _ _ _ (rw c.as_slice.ensures.value at c.in_err-write_text.ensures.stop))

pub returns-in_err-write_text-2-clause-stop : goal.returns-in_err-write_text-2-clause-stop
returns-in_err-write_text-2-clause-stop g c =
    let p = err_from_is_err_and c.from_residual-in_err-write_text-2.result c.from_residual-in_err-write_text-2.ensures.1 in
    rw (p.1, p.2)
    (later_stops _ _ _ _ _ _ (rw c.as_slice.ensures.value at c.in_ok-write_text.ensures.ok) c.in_ok-write_text.ensures.count
    (first_stops _ _ _ _ _ (rw c.as_slice-2.ensures.value at c.in_err-write_text-2.ensures.stop)))

pub returns-clause-stop : goal.returns-clause-stop
returns-clause-stop g c =
    let seen = files_seen g.F.Files.contents g.F.Files.faults in
    all_stop_later _ _ c.write_text-3.result (seen c.args.files.now) (seen c.write_text.new.files) (seen c.write_text-3.new.files)
    (rw c.as_slice.ensures.value at c.in_ok-write_text.ensures.ok) c.in_ok-write_text.ensures.count
    (all_stop_later _ _ c.write_text-3.result (seen c.write_text.new.files) (seen c.write_text-2.new.files) (seen c.write_text-3.new.files)
    (rw c.as_slice-2.ensures.value at c.in_ok-write_text-2.ensures.ok) c.in_ok-write_text-2.ensures.count
    (last_stops _ c.write_text-3.result (seen c.write_text-2.new.files) (seen c.write_text-3.new.files) (rw c.as_slice-3.ensures.value at c.write_text-3.ensures.stop)))
