use Rattle.std.proofs.Common.{◌≡◌, ◌∙◌, ap, sym, reverse, false, refl}
use Rattle.std.proofs.lemmas.List.{reverse-reverse}
use Rattle.type_states.specs.TypeStates.{entries_of}
use Rattle.type_states.proofs.frame.frame_of.Goals as goal

pub returns : goal.returns
returns c =
    let locals : c.in_ok-locals.locals ≡ entries_of false c.args.state.now.slots = c.in_ok-locals.ensures ∙ ap (entries_of false) c.as_slice.ensures in
    let stack : c.in_ok-stack.stack ≡ reverse c.args.state.now.operands = c.in_ok-stack.ensures ∙ sym (reverse-reverse c.stack.result.now) ∙ ap reverse c.stack.ensures in
    rw (locals, stack) refl
