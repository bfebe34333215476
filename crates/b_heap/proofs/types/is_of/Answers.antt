use Rattle.std.proofs.Common.{ap, ◌∙◌}
use Rattle.jworld.specs.Subtype.{fits, at_run_time, is_subtype}
use Rattle.b_heap.proofs.types.is_of.Goals as goal

pub returns-in-Instance : goal.returns-in-Instance
unfolding is_subtype
returns-in-Instance c = rw c.in-Instance.is (c.fits.ensures ∙ ap (λ name. fits (at_run_time c.args.world.now) name c.args.target.now) c.name.ensures)

pub returns-in-Array : goal.returns-in-Array
unfolding is_subtype
returns-in-Array c = rw c.in-Array.is c.array_fits.ensures
