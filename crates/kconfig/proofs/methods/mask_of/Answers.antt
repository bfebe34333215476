use Rattle.std.proofs.Common.{[], sym, ◌∙◌, arith}
use Rattle.kconfig.proofs.Masks.{mask_more, mask_ends}
use Rattle.kconfig.proofs.methods.mask_of.Goals as goal

pub returns-in_default : goal.returns-in_default
returns-in_default c =
    mask_ends c.args.events.now c.loop-name.mask c.args.names.now c.loop-name.name-index (record { ref_ptr = (0, 0); now = [] }) _ c.loop-name-test.true (sym c.in_default.is ∙ c.named.ensures.place) c.loop-name.invariant

pub loop-name-preserved : goal.loop-name-preserved
loop-name-preserved c =
    mask_more c.args.events.now c.loop-name.mask c.in-Some.event c.args.names.now c.loop-name.name-index (record { ref_ptr = (0, 0); now = [] }) _ c.loop-name-test.true (sym c.in-Some.is ∙ c.named.ensures.place) (let small = c.in-Some.ensures.within in omega arith) c.loop-name.invariant
