-- The calls of one pair more.
use Rattle.std.proofs.Common.{◌++◌, ◌∷◌, [], ◌+◌, List, ℕ, map, sym, ap, ◌∙◌, arith}
use Rattle.std.specs.List.{flat_map, range_with_len}
use Rattle.std.proofs.lemmas.List.FromFn.{map-range_with_len_more}
use Rattle.reach.specs.declared.calls.Call.{Call}
use Rattle.reach.specs.Calls.{calls_in}
use Rattle.reach.proofs.Left.{flat_map_range_more}
use Rattle.reach.proofs.calls.calls_of.Goals as goal

pub loop-number-preserved : goal.loop-number-preserved
loop-number-preserved c =
    let number = c.loop-number.number in
    let of_pair = calls_in c.args.s.now c.args.pairs.now in
    let targets : List Call → List ℕ = λ calls. flat_map (λ call. call.place.targets) calls in (
      c.in_ok-append.ensures ∙ ap (λ (calls : List Call). calls ++ c.in_ok-more.more.items) c.loop-number.invariant.0
          ∙ ap (λ (more : List Call). flat_map of_pair (range_with_len 0 number) ++ more) c.in_ok-more.ensures ∙ sym (flat_map_range_more of_pair number),
      c.in_ok-push.ensures.ok ∙ ap (λ (edges : List (List ℕ)). edges ++ c.in_ok-targets_in.field-0 ∷ []) c.loop-number.invariant.1
          ∙ ap (λ (last : List ℕ). map (λ n. targets (of_pair n)) (range_with_len 0 number) ++ last ∷ []) (c.in_ok-targets_in.ensures ∙ ap targets (c.as_slice.ensures.value ∙ c.in_ok-more.ensures))
          ∙ sym (map-range_with_len_more (λ n. targets (of_pair n)) 0 number number (omega arith)),
    )
