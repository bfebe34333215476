-- Where the build stops, or that it is done, from what its steps ensure.
use Rattle.std.proofs.Common.{map, string_bytes, subst, refl, ◌∙◌, arith}
use Rattle.std.proofs.lemmas.Result.{err_from_is_err_and, IfErr-weaker, on_ok_weaker}
use Rattle.keso_cli.specs.BuildEnds.{BuildStops}
use Rattle.first_form.specs.Counts.{first_summary}
use Rattle.first_form.specs.Program.{built_of}
use Rattle.keso_cli.specs.Left.{Written}
use Rattle.replay.specs.Seen.{sink_seen}
use Rattle.keso_cli.specs.Seen.{files_seen}
use Rattle.keso_cli.specs.Stops.{PutStops, WritesStop}
use Rattle.keso_cli.specs.Summary.{summary_text}
use Rattle.keso_cli.specs.Texts.{texts_of}
use Rattle.keso_cli.proofs.Builds.{InputIs, reads_stop, compile_stops, built_from, due-is, put_stops, writes_stop, written_since}
use Rattle.keso_cli.proofs.build.build.Goals as goal

pub returns-in_err-classes-clause-stop : goal.returns-in_err-classes-clause-stop
returns-in_err-classes-clause-stop g c =
    let p = err_from_is_err_and c.from_residual-in_err-classes.result c.from_residual-in_err-classes.ensures.1 in
    let files = files_seen g.F.Files.contents g.F.Files.faults in
    let out = sink_seen g.O.Sink.taken g.O.Sink.faults in
    rw (p.1, p.2)
    (reads_stop c.in_err-classes.field-0.0 c.args.names.inputs.config.now c.args.names.base.now (map string_bytes c.args.names.inputs.classes.now) (files c.args.files.now) (files c.read.new.files) (files c.read_all.new.files) (out c.args.out.now)
    c.in_ok-config.ensures.stays c.in_ok-config.ensures.count c.in_err-classes.ensures.stays c.in_err-classes.ensures.stop)

pub returns-in_err-texts-clause-stop : goal.returns-in_err-texts-clause-stop
returns-in_err-texts-clause-stop g c =
    let p = err_from_is_err_and c.from_residual-in_err-texts.result c.from_residual-in_err-texts.ensures.1 in
    let files = files_seen g.F.Files.contents g.F.Files.faults in
    let out = sink_seen g.O.Sink.taken g.O.Sink.faults in
    rw (p.1, p.2)
    (compile_stops _ c.args.names.inputs.config.now (map string_bytes c.args.names.inputs.classes.now) c.args.names.base.now _ _ (files c.args.files.now) (files c.read_all.new.files) (out c.args.out.now) (out c.args.out.now)
    (record { config_read = c.in_ok-config.ensures.ok; classes_read = rw c.in_ok-config.ensures.stays at c.in_ok-classes.ensures.ok })
    (record { files_stay = c.in_ok-classes.ensures.stays ∙ c.in_ok-config.ensures.stays; out_stays = refl })
    (rw (c.as_slice.ensures.value, c.as_slice-2.ensures) at c.in_err-texts.ensures.stop))

pub returns-in_err-write_texts-clause-stop : goal.returns-in_err-write_texts-clause-stop
returns-in_err-write_texts-clause-stop g c =
    let p = err_from_is_err_and c.from_residual-in_err-write_texts.result c.from_residual-in_err-write_texts.ensures.1 in
    let files = files_seen g.F.Files.contents g.F.Files.faults in
    let out = sink_seen g.O.Sink.taken g.O.Sink.faults in
    let input : InputIs c.args.names.inputs.config.now (map string_bytes c.args.names.inputs.classes.now) c.in_ok-config.config.items c.in_ok-classes.classes (files c.args.files.now) =
    record { config_read = c.in_ok-config.ensures.ok; classes_read = rw c.in_ok-config.ensures.stays at c.in_ok-classes.ensures.ok } in
    let made = c.in_ok-texts.ensures.texts in
    let from = built_from made.0 made.1 c.args.names.inputs.config.now (map string_bytes c.args.names.inputs.classes.now) _ _ (files c.args.files.now) input (rw (c.as_slice.ensures.value, c.as_slice-2.ensures) at made.2) in
    rw (p.1, p.2)
    (writes_stop c.in_err-write_texts.field-0.0 c.args.names.inputs.config.now c.args.names.base.now (map string_bytes c.args.names.inputs.classes.now) (built_of made.0 made.1) (files c.args.files.now) (files c.read_all.new.files) (files c.write_texts.new.files) (out c.args.out.now)
    from (c.in_ok-classes.ensures.stays ∙ c.in_ok-config.ensures.stays) (omega (arith, c.in_ok-config.ensures.count, c.in_ok-classes.ensures.count))
    (subst (λ texts. WritesStop c.in_err-write_texts.field-0.0 texts (files c.read_all.new.files) (files c.write_texts.new.files))
    (due-is c.args.names.base.now (built_of made.0 made.1) c.in_ok-texts.texts made.3)
    c.in_err-write_texts.ensures.stop))

pub returns-clause-ok : goal.returns-clause-ok
returns-clause-ok g c =
    let files = files_seen g.F.Files.contents g.F.Files.faults in
    let input : InputIs c.args.names.inputs.config.now (map string_bytes c.args.names.inputs.classes.now) c.in_ok-config.config.items c.in_ok-classes.classes (files c.args.files.now) =
    record { config_read = c.in_ok-config.ensures.ok; classes_read = rw c.in_ok-config.ensures.stays at c.in_ok-classes.ensures.ok } in
    let made = c.in_ok-texts.ensures.texts in
    let from = built_from made.0 made.1 c.args.names.inputs.config.now (map string_bytes c.args.names.inputs.classes.now) _ _ (files c.args.files.now) input (rw (c.as_slice.ensures.value, c.as_slice-2.ensures) at made.2) in
    let stands = written_since (texts_of c.args.names.base.now (built_of made.0 made.1)) (files c.args.files.now) (files c.read_all.new.files) (files c.write_texts.new.files) (c.in_ok-classes.ensures.stays ∙ c.in_ok-config.ensures.stays)
    (subst (λ texts. Written texts (files c.read_all.new.files) (files c.write_texts.new.files))
    (due-is c.args.names.base.now (built_of made.0 made.1) c.in_ok-texts.texts made.3) c.in_ok-write_texts.ensures.ok) in
    on_ok_weaker c.put_summary.result (λ lines. record { built = built_of made.0 made.1; from = from; stands = stands; lines = lines }) c.put_summary.ensures.ok

pub returns-clause-stop : goal.returns-clause-stop
returns-clause-stop g c =
    let files = files_seen g.F.Files.contents g.F.Files.faults in
    let out = sink_seen g.O.Sink.taken g.O.Sink.faults in
    let input : InputIs c.args.names.inputs.config.now (map string_bytes c.args.names.inputs.classes.now) c.in_ok-config.config.items c.in_ok-classes.classes (files c.args.files.now) =
    record { config_read = c.in_ok-config.ensures.ok; classes_read = rw c.in_ok-config.ensures.stays at c.in_ok-classes.ensures.ok } in
    let made = c.in_ok-texts.ensures.texts in
    let from = built_from made.0 made.1 c.args.names.inputs.config.now (map string_bytes c.args.names.inputs.classes.now) _ _ (files c.args.files.now) input (rw (c.as_slice.ensures.value, c.as_slice-2.ensures) at made.2) in
    let stands = written_since (texts_of c.args.names.base.now (built_of made.0 made.1)) (files c.args.files.now) (files c.read_all.new.files) (files c.write_texts.new.files) (c.in_ok-classes.ensures.stays ∙ c.in_ok-config.ensures.stays)
    (subst (λ texts. Written texts (files c.read_all.new.files) (files c.write_texts.new.files))
    (due-is c.args.names.base.now (built_of made.0 made.1) c.in_ok-texts.texts made.3) c.in_ok-write_texts.ensures.ok) in
    IfErr-weaker c.put_summary.result
    (λ trouble. PutStops trouble (summary_text first_summary) (out c.args.out.now) (out c.put_summary.new.out))
    (λ trouble. BuildStops trouble c.args.names.inputs.config.now (map string_bytes c.args.names.inputs.classes.now) c.args.names.base.now (files c.args.files.now) (files c.write_texts.new.files) (out c.args.out.now) (out c.put_summary.new.out))
    (λ trouble h. put_stops trouble c.args.names.inputs.config.now c.args.names.base.now (map string_bytes c.args.names.inputs.classes.now) (built_of made.0 made.1) (files c.args.files.now) (files c.write_texts.new.files) (out c.args.out.now) (out c.put_summary.new.out) from stands h)
    c.put_summary.ensures.stop
