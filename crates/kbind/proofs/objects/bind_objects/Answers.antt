use Rattle.std.proofs.Common.{ℕ, Bool, not, ◌&&◌, ◌||◌, List, eqb, bytes_eq, take, ap, ◌∙◌}
use Rattle.std.specs.List.{list_all, list_any}
use Rattle.kes_text.specs.declared.refusal.Kind.TheVariants as kind
use Rattle.kconfig.specs.declared.config.CellLine.{CellLine}
use Rattle.kbind.specs.Bases.{is_taken}
use Rattle.kbind.specs.Cells.{is_cell_of}
use Rattle.kbind.specs.Rooms.{has_room}
use Rattle.kbind.specs.Objects.{object_class, takes_base, ends_within}
use Rattle.kbind.specs.Bound.{unless}
use Rattle.kbind.proofs.Lines.{member_more, all_members, object_fault_more, all_object_faults}
use Rattle.kbind.proofs.Searching.{one_behind}
use Rattle.kbind.proofs.objects.bind_objects.Goals as goal

pub loop-line-preserved : goal.loop-line-preserved
loop-line-preserved c =
    let line = c.line-item.result in
    let cells = c.args.cells.now in
    let i = c.loop-line.line-index in
    let has_cell = list_any (is_cell_of line.class) cells in
    let fits = c.in_ok-rooms.ensures line ∙ ap (λ (lines : List CellLine). list_all (ends_within c.args.size line) lines) c.lines.ensures in
    let holds = c.object_holds-holds.ensures ∙ ap (λ (taken : Bool). (has_cell && not taken) && has_room c.in_ok-rooms.rooms line.class line.base) (c.loop-line.invariant.taken line)
    ∙ ap (λ (room : Bool). (has_cell && not (list_any (takes_base line) (take i c.args.lines.now))) && room) fits in
    record {
      members = member_more (object_class c.args.classes.now) c.args.lines.now i line c.object_class.result c.loop-line.members c.keep.new.members _ c.loop-line-test.true c.line-item.is c.object_class.ensures
          c.in_ok-keep.ensures c.loop-line.invariant.members;
      faults = object_fault_more c.args.size cells c.args.lines.now c.args.lines.now i line _ c.loop-line.faults c.blame.new.faults _ c.loop-line-test.true c.line-item.is
          (ap (λ (b : Bool). unless b kind.BadMapped line.line) holds) c.in_ok-blame.ensures c.loop-line.invariant.faults;
      taken = λ other.
          c.in_ok-add.ensures other.base other.class
          ∙ ap (λ (class : List ℕ). (eqb line.base other.base && not (bytes_eq class other.class)) || is_taken c.loop-line.bases other.base other.class) c.as_slice.ensures
          ∙ ap (λ (taken : Bool). takes_base other line || taken) (c.loop-line.invariant.taken other) ∙ one_behind (takes_base other) c.args.lines.now i line c.loop-line-test.true c.line-item.is;
    }

pub returns-clause-members : goal.returns-clause-members
returns-clause-members c =
    all_members (object_class c.args.classes.now) c.args.lines.now c.loop-line.line-index c.loop-line.members _ c.loop-line-test.false c.loop-line.invariant.members

pub returns-clause-faults : goal.returns-clause-faults
returns-clause-faults c =
    all_object_faults c.args.size c.args.cells.now c.args.lines.now c.args.lines.now c.loop-line.line-index c.loop-line.faults _ c.loop-line-test.false c.loop-line.invariant.faults
