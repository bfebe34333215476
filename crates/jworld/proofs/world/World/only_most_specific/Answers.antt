use Rattle.std.proofs.Common.{◌∙◌, ◌&&◌, ℕ, Bool, List, filter, is_some, sym, ap}
use Rattle.jworld.specs.Superinterfaces.{superinterfaces}
use Rattle.jworld.specs.Methods.{is_most_specific, concrete_method, only_one}
use Rattle.jworld.proofs.Ranges.{filter-filter}
use Rattle.jworld.proofs.Declaring.{declares, declaring_among}
use Rattle.jworld.proofs.world.World.only_most_specific.Goals as goal

pub loop-n-init : goal.loop-n-init
loop-n-init c =
    let declaring : ℕ → Bool = declares c.args.self.now c.args.key.now in
    let specific : ℕ → Bool = is_most_specific c.args.self.now c.args.key.now c.args.class.n in
    let concrete : ℕ → Bool = λ above. is_some (concrete_method c.args.self.now c.args.key.now above) in
    let all : List ℕ = superinterfaces c.args.self.now c.args.class.n in
    ap (λ (ns : List ℕ). only_one (filter (λ x. declaring x && specific x && concrete x) ns)) c.superinterfaces-n-items.ensures
    ∙ ap only_one
    (sym (ap (filter concrete) (filter-filter specific declaring all) ∙ filter-filter concrete (λ x. declaring x && specific x) all)
    ∙ ap (λ (ns : List ℕ). filter concrete (filter specific ns)) (declaring_among c.args.self.now c.args.key.now c.args.class.n))
