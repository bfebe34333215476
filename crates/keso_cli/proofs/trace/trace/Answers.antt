-- Where the trace stops, or that it is done, from what its steps ensure.
use Rattle.std.proofs.Common.{map, string_bytes, subst, ◌∙◌, List, ℕ, arith}
use Rattle.std.proofs.lemmas.Result.{err_from_is_err_and, IfErr-weaker, on_ok_weaker}
use Rattle.b_machine.specs.Trace.{trace}
use Rattle.script.specs.Names.{event_names}
use Rattle.script.specs.Writing.{moves_of}
use Rattle.replay.specs.Text.{trace_text}
use Rattle.keso_cli.specs.Run.{ShowStops}
use Rattle.replay.specs.Seen.{sink_seen, Takes}
use Rattle.keso_cli.specs.Seen.{files_seen}
use Rattle.keso_cli.specs.TraceEnds.{trace_names, TraceStops}
use Rattle.keso_cli.specs.Traced.{lines_of}
use Rattle.keso_cli.proofs.Traces.{TraceRead, file_unread, second_of, classes_unread, shown_lines, shows_lines, show_stops}
use Rattle.keso_cli.proofs.trace.trace.Goals as goal

pub returns-in_err-script-clause-stop : goal.returns-in_err-script-clause-stop
returns-in_err-script-clause-stop g c =
    let p = err_from_is_err_and c.from_residual-in_err-script.result c.from_residual-in_err-script.ensures.1 in
    let files = files_seen g.F.Files.contents g.F.Files.faults in
    let out = sink_seen g.O.Sink.taken g.O.Sink.faults in
    let names = trace_names c.args.names.inputs.config.now c.args.names.script.now (map string_bytes c.args.names.inputs.classes.now) in
    rw (p.1, p.2)
    (file_unread _ names names.script (files c.args.files.now) (files c.read.new.files) (files c.read-2.new.files) (out c.args.out.now) (second_of names)
    c.in_ok-config.ensures.stays c.in_ok-config.ensures.count c.in_err-script.ensures.stays c.in_err-script.ensures.stop)

pub returns-in_err-classes-clause-stop : goal.returns-in_err-classes-clause-stop
returns-in_err-classes-clause-stop g c =
    let p = err_from_is_err_and c.from_residual-in_err-classes.result c.from_residual-in_err-classes.ensures.1 in
    let files = files_seen g.F.Files.contents g.F.Files.faults in
    let out = sink_seen g.O.Sink.taken g.O.Sink.faults in
    let names = trace_names c.args.names.inputs.config.now c.args.names.script.now (map string_bytes c.args.names.inputs.classes.now) in
    rw (p.1, p.2)
    (classes_unread _ names (files c.args.files.now) (files c.read-2.new.files) (files c.read_all.new.files) (out c.args.out.now)
    (c.in_ok-script.ensures.stays ∙ c.in_ok-config.ensures.stays) (omega (arith, c.in_ok-config.ensures.count, c.in_ok-script.ensures.count)) c.in_err-classes.ensures.stays c.in_err-classes.ensures.stop)

pub returns-clause-ok : goal.returns-clause-ok
returns-clause-ok g c =
    let files = files_seen g.F.Files.contents g.F.Files.faults in
    let out = sink_seen g.O.Sink.taken g.O.Sink.faults in
    let names = trace_names c.args.names.inputs.config.now c.args.names.script.now (map string_bytes c.args.names.inputs.classes.now) in
    let run = c.in_ok-run.run' in
    let is = rw (c.as_slice-config.ensures.value, c.as_slice-script.ensures.value, c.as_slice.ensures) at c.in_ok-run.ensures.ok in
    let stays = c.in_ok-script.ensures.stays ∙ c.in_ok-config.ensures.stays in
    let read : TraceRead names c.in_ok-config.config.items c.in_ok-script.script.items c.in_ok-classes.classes (files c.args.files.now) =
    record { config_read = c.in_ok-config.ensures.ok; script_read = rw c.in_ok-config.ensures.stays at c.in_ok-script.ensures.ok; classes_read = rw stays at c.in_ok-classes.ensures.ok } in
    let shows = shows_lines names c.in_ok-config.config.items c.in_ok-script.script.items c.in_ok-classes.classes (files c.args.files.now) run read is in
    let same = shown_lines run.program (event_names run.names) run.lines.items is.names in
    on_ok_weaker c.show.result (λ taken. record { lines = lines_of run.program run.lines.items; shows = shows; files_stay = c.in_ok-classes.ensures.stays ∙ stays; takes = subst (λ (l : List ℕ). Takes l (out c.args.out.now) (out c.show.new.out)) same taken }) c.show.ensures.ok

pub returns-clause-stop : goal.returns-clause-stop
returns-clause-stop g c =
    let files = files_seen g.F.Files.contents g.F.Files.faults in
    let out = sink_seen g.O.Sink.taken g.O.Sink.faults in
    let names = trace_names c.args.names.inputs.config.now c.args.names.script.now (map string_bytes c.args.names.inputs.classes.now) in
    let run = c.in_ok-run.run' in
    let is = rw (c.as_slice-config.ensures.value, c.as_slice-script.ensures.value, c.as_slice.ensures) at c.in_ok-run.ensures.ok in
    let stays = c.in_ok-script.ensures.stays ∙ c.in_ok-config.ensures.stays in
    let read : TraceRead names c.in_ok-config.config.items c.in_ok-script.script.items c.in_ok-classes.classes (files c.args.files.now) =
    record { config_read = c.in_ok-config.ensures.ok; script_read = rw c.in_ok-config.ensures.stays at c.in_ok-script.ensures.ok; classes_read = rw stays at c.in_ok-classes.ensures.ok } in
    let shows = shows_lines names c.in_ok-config.config.items c.in_ok-script.script.items c.in_ok-classes.classes (files c.args.files.now) run read is in
    let same = shown_lines run.program (event_names run.names) run.lines.items is.names in
    IfErr-weaker c.show.result
    (λ trouble. ShowStops trouble (trace_text (event_names run.names) (trace run.program (moves_of run.lines.items))) (out c.args.out.now) (out c.show.new.out))
    (λ trouble. TraceStops trouble names (files c.args.files.now) (files c.read_all.new.files) (out c.args.out.now) (out c.show.new.out))
    (λ trouble h. show_stops trouble names (lines_of run.program run.lines.items) (files c.args.files.now) (files c.read_all.new.files) (out c.args.out.now) (out c.show.new.out) shows (c.in_ok-classes.ensures.stays ∙ stays)
    (subst (λ (l : List ℕ). ShowStops trouble l (out c.args.out.now) (out c.show.new.out)) same h))
    c.show.ensures.stop
