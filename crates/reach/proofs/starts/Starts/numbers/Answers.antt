-- All of them are left at first.
use Rattle.std.proofs.Common.{◌≡◌, ℕ, ◌++◌, List, map, sym, ap, ◌∙◌}
use Rattle.reach.proofs.Ordering.{valued}
use Rattle.reach.proofs.starts.Starts.numbers.Goals as goal

pub loop-number-init : goal.loop-number-init
loop-number-init c =
    let left : c.into_iter-number-iterator.result ≡ map (λ e. e.1) c.self.inside.numbers.entries = c.into_iter-number-iterator.ensures.into_iter_gives ∙ c.values-number-items.ensures.rest in
    rw (← c.self.view_is) (ap (λ (numbers : List ℕ). numbers ++ c.into_iter-number-iterator.result) c.new-numbers.ensures ∙ left ∙ valued c.self.inside.numbers.entries)
