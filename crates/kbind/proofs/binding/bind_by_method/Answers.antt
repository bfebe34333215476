use Rattle.std.proofs.Common.{List, ap, ◌∙◌, ◌++◌}
use Rattle.std.specs.List.{filter_map}
use Rattle.kconfig.specs.declared.config.NativeLine.{NativeLine}
use Rattle.kconfig.specs.declared.config.DeviceLine.{DeviceLine}
use Rattle.kconfig.specs.declared.config.ObjectLine.{ObjectLine}
use Rattle.kconfig.specs.declared.config.PortalLine.{PortalLine}
use Rattle.kbind.specs.Natives.{native_named}
use Rattle.kbind.specs.Objects.{device_named}
use Rattle.kbind.specs.Portals.{portal_named}
use Rattle.kbind.specs.Bound.{native_faults, device_faults, portal_faults, method_faults}
use Rattle.kbind.proofs.Joining.{three}
use Rattle.kbind.proofs.binding.bind_by_method.Goals as goal

pub returns-clause-natives : goal.returns-clause-natives
returns-clause-natives c = c.in_ok-natives.ensures.members ∙ ap (filter_map (native_named c.args.methods.now)) c.as_slice.ensures

pub returns-clause-devices : goal.returns-clause-devices
returns-clause-devices c =
    let methods = c.args.methods.now in
    c.in_ok-device_methods.ensures.members ∙ ap (λ (objects : List ObjectLine). filter_map (device_named methods objects) c.as_slice-devices.result.now) c.as_slice-objects.ensures
    ∙ ap (filter_map (device_named methods c.args.config.now.objects)) c.as_slice-devices.ensures

pub returns-clause-portals : goal.returns-clause-portals
returns-clause-portals c = c.in_ok-portals.ensures.members ∙ ap (filter_map (portal_named c.args.methods.now)) c.as_slice-2.ensures

pub returns-clause-faults : goal.returns-clause-faults
unfolding method_faults
returns-clause-faults c =
    let methods = c.args.methods.now in
    let none = c.args.faults.now in
    let natives = c.bind_natives.new.faults in
    let devices = c.bind_devices.new.faults in
    three none natives devices c.bind_portals.new.faults _ _ _
    (c.in_ok-natives.ensures.faults ∙ ap (λ (lines : List NativeLine). none ++ native_faults methods lines) c.as_slice.ensures)
    (c.in_ok-device_methods.ensures.faults ∙ ap (λ (objects : List ObjectLine). natives ++ device_faults methods objects c.as_slice-devices.result.now) c.as_slice-objects.ensures
    ∙ ap (λ (lines : List DeviceLine). natives ++ device_faults methods c.args.config.now.objects lines) c.as_slice-devices.ensures)
    (c.in_ok-portals.ensures.faults ∙ ap (λ (lines : List PortalLine). devices ++ portal_faults methods lines) c.as_slice-2.ensures)
