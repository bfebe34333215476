use Rattle.std.proofs.Common.{Bool, is_some, ap, ◌∙◌}
use Rattle.kes_text.specs.declared.refusal.Kind.TheVariants as kind
use Rattle.kconfig.specs.declared.config.DeviceLine.{DeviceLine}
use Rattle.kbind.specs.Objects.{device_named}
use Rattle.kbind.specs.Bound.{unless}
use Rattle.kbind.proofs.Lines.{member_more, fault_more, all_members, all_faults}
use Rattle.kbind.proofs.devices.bind_devices.Goals as goal

pub loop-line-preserved : goal.loop-line-preserved
loop-line-preserved c =
    let methods = c.args.methods.now in
    let objects = c.args.objects.now in
    let line = c.line-item.result in
    let blames = ap (λ (b : Bool). unless b kind.BadMapped line.line) (c.is_some.ensures ∙ ap is_some c.in_ok-found.ensures) in
    record {
      members = member_more (device_named methods objects) c.args.lines.now c.loop-line.line-index line c.in_ok-found.found c.loop-line.members c.keep.new.members _ c.loop-line-test.true c.line-item.is
          c.in_ok-found.ensures c.in_ok-keep.ensures c.loop-line.invariant.members;
      faults = fault_more (λ (x : DeviceLine). unless (is_some (device_named methods objects x)) kind.BadMapped x.line) c.args.lines.now c.loop-line.line-index line _ c.loop-line.faults c.blame.new.faults _ c.loop-line-test.true c.line-item.is
          blames c.in_ok-blame.ensures c.loop-line.invariant.faults;
    }

pub returns-clause-members : goal.returns-clause-members
returns-clause-members c = all_members (device_named c.args.methods.now c.args.objects.now) c.args.lines.now c.loop-line.line-index c.loop-line.members _ c.loop-line-test.false c.loop-line.invariant.members

pub returns-clause-faults : goal.returns-clause-faults
returns-clause-faults c =
    all_faults (λ (x : DeviceLine). unless (is_some (device_named c.args.methods.now c.args.objects.now x)) kind.BadMapped x.line) c.args.lines.now c.loop-line.line-index c.loop-line.faults _ c.loop-line-test.false c.loop-line.invariant.faults
