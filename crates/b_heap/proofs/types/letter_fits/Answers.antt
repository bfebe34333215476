use Rattle.std.proofs.Common.{bytes_eq, ap, ◌∙◌, sym}
use Rattle.jworld.specs.Subtype.{at_run_time}
use Rattle.b_heap.proofs.Descriptors.{letter_items}
use Rattle.b_heap.proofs.types.letter_fits.Goals as goal

pub returns : goal.returns
returns c =
    c.eq.ensures ∙ ap (λ letters. bytes_eq letters c.args.to.now) c.as_slice.ensures
    ∙ sym (letter_items (at_run_time c.args.world.now) c.args.letter c.args.to.now c.requires.array c.requires.class)
