-- What is found of a method is what is found among all entries.
use Rattle.std.proofs.Common.{◌≡◌, [], map, ap, ◌∙◌}
use Rattle.std.specs.Prelude.{zip}
use Rattle.mentions.specs.Bindings.{native, device, portal, bound_as, add_all, binding_of}
use Rattle.mentions.proofs.Keeping.{all_three}
use Rattle.mentions.proofs.binding.Bindings.of.Goals as goal

pub returns : goal.returns
unfolding binding_of
returns c = λ id.
    let bound = c.args.bound.now in
    let natives = map native (zip bound.config.natives bound.natives) in
    let devices = map device (zip bound.config.device_methods bound.device_methods) in
    let portals = map portal (zip bound.config.portals bound.portals) in
    let first : c.add_lines.new.self ≡ add_all [] natives = rw (c.as_slice.ensures, c.as_slice-2.ensures, c.new-bindings.ensures) at c.in_ok-add_lines.ensures in
    let second : c.add_lines-2.new.self ≡ add_all (add_all [] natives) devices = rw (c.as_slice-3.ensures, c.as_slice-4.ensures, first) at c.in_ok-add_lines-2.ensures in
    let third : c.add_lines-3.new.self ≡ add_all (add_all (add_all [] natives) devices) portals = rw (c.as_slice-5.ensures, c.as_slice-6.ensures, second) at c.in_ok-add_lines-3.ensures in
    ap (bound_as id) third ∙ all_three id natives devices portals
