use Rattle.std.proofs.Common.{◌+◌, List, [], ◌∷◌, ◌++◌, Option, map, sym, ap, ◌∙◌, arith}
use Rattle.std.specs.List.{range_with_len}
use Rattle.std.proofs.lemmas.List.FromFn.{map-range_with_len_more}
use Rattle.jworld.specs.declared.ids.MethodId.{MethodId}
use Rattle.mentions.specs.Initialisers.{initialiser_of}
use Rattle.mentions.proofs.initialising.find_all.Goals as goal

pub loop-n-preserved : goal.loop-n-preserved
loop-n-preserved c =
    let one = initialiser_of c.args.world.now in
    c.in_ok-push.ensures.ok ∙ ap (λ (all : List (Option MethodId)). all ++ c.find.result ∷ []) c.loop-n.invariant
    ∙ ap (λ (last : Option MethodId). map one (range_with_len 0 c.loop-n.n) ++ last ∷ []) c.find.ensures
    ∙ sym (map-range_with_len_more one 0 c.loop-n.n c.loop-n.n (omega arith))
