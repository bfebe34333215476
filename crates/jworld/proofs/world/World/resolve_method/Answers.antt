use Rattle.std.proofs.Common.{◌≡◌, ◌∙◌, Some, None, option_map, sym, ap}
use Rattle.jworld.specs.declared.ids.ClassId.{ClassId}
use Rattle.jworld.specs.Methods.{interface_of}
use Rattle.jworld.proofs.Resolving.{resolved_first, resolved_else}
use Rattle.jworld.proofs.world.World.resolve_method.Goals as goal

pub returns-then-is_some : goal.returns-then-is_some
returns-then-is_some c =
    resolved_first c.args.self.now c.args.key.now c.args.class.n c.declared_first-declared.result c.declared_first-declared.ensures (sym c.is_some.ensures ∙ c.if-is_some.true)

pub returns-in_err-above : goal.returns-in_err-above
returns-in_err-above c =
    let nowhere : None ≡ interface_of c.args.self.now c.args.key.now c.args.class.n = sym (ap (option_map (λ (above : ClassId). above.n)) c.in_err-above.was) ∙ c.interface_of.ensures in
    resolved_else c.args.self.now c.args.key.now c.args.class.n c.declared_first-declared.result c.declared_first-declared.ensures None c.from_residual.result
    (sym c.is_some.ensures ∙ c.if-is_some.false) nowhere c.from_residual.ensures

pub returns : goal.returns
returns c =
    let there : Some c.in_ok-above.above.n ≡ interface_of c.args.self.now c.args.key.now c.args.class.n = sym (ap (option_map (λ (above : ClassId). above.n)) c.in_ok-above.was) ∙ c.interface_of.ensures in
    resolved_else c.args.self.now c.args.key.now c.args.class.n c.declared_first-declared.result c.declared_first-declared.ensures (Some c.in_ok-above.above.n) c.inherited_method.result
    (sym c.is_some.ensures ∙ c.if-is_some.false) there c.inherited_method.ensures
