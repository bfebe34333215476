use Rattle.std.proofs.Common.{◌∙◌, sym}
use Rattle.type_states.specs.Uninit.{is_same_uninit}
use Rattle.type_states.proofs.Reversed.{list_any-reverse}
use Rattle.type_states.proofs.uninit.has_uninit.Goals as goal

pub returns : goal.returns
returns c = rw (← c.stack.ensures) (c.is_among.ensures ∙ sym (list_any-reverse (is_same_uninit c.args.given.now) c.stack.result.now))
