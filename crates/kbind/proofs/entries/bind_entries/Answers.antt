use Rattle.std.proofs.Common.{Bool, is_some, ap, ◌∙◌}
use Rattle.kes_text.specs.declared.refusal.Kind.TheVariants as kind
use Rattle.kconfig.specs.declared.config.TaskLine.{TaskLine}
use Rattle.kbind.specs.Bound.{unless, entry_of}
use Rattle.kbind.proofs.Lines.{member_more, fault_more, all_members, all_faults}
use Rattle.kbind.proofs.entries.bind_entries.Goals as goal

pub loop-line-preserved : goal.loop-line-preserved
loop-line-preserved c =
    let files = c.args.classes.now in
    let line = c.line-item.result in
    let blames = ap (λ (b : Bool). unless b kind.NoEntry line.line) (c.is_some.ensures ∙ ap is_some c.entry_of-found.ensures) in
    record {
      members = member_more (entry_of files) c.args.lines.now c.loop-line.line-index line c.entry_of-found.result c.loop-line.members c.keep.new.members _ c.loop-line-test.true c.line-item.is
          c.entry_of-found.ensures c.in_ok-keep.ensures c.loop-line.invariant.members;
      faults = fault_more (λ (x : TaskLine). unless (is_some (entry_of files x)) kind.NoEntry x.line) c.args.lines.now c.loop-line.line-index line _ c.loop-line.faults c.blame.new.faults _ c.loop-line-test.true c.line-item.is
          blames c.in_ok-blame.ensures c.loop-line.invariant.faults;
    }

pub returns-clause-members : goal.returns-clause-members
returns-clause-members c = all_members (entry_of c.args.classes.now) c.args.lines.now c.loop-line.line-index c.loop-line.members _ c.loop-line-test.false c.loop-line.invariant.members

pub returns-clause-faults : goal.returns-clause-faults
returns-clause-faults c =
    all_faults (λ (x : TaskLine). unless (is_some (entry_of c.args.classes.now x)) kind.NoEntry x.line) c.args.lines.now c.loop-line.line-index c.loop-line.faults _ c.loop-line-test.false c.loop-line.invariant.faults
