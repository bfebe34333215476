use Rattle.std.proofs.Common.{◌∙◌, ap, sym, reverse, if◌then◌else◌}
use Rattle.stackmap.specs.declared.vtype.VType.{VType}
use Rattle.type_states.specs.Uninit.{is_same_uninit}
use Rattle.type_states.proofs.Reversed.{map-reverse}
use Rattle.type_states.proofs.uninit.instead_operands.Goals as goal

pub returns : goal.returns
returns c =
    rw (← c.stack.ensures) (c.of.ensures ∙ ap reverse c.in_ok-stack.ensures ∙ sym (map-reverse (λ (t : VType). if is_same_uninit c.args.old.now t then c.args.new.now else t) c.stack.result.now))
