use Rattle.std.proofs.Common.{◌≡◌, ◌+◌, ℕ, List, [], ◌∷◌, ◌++◌, sym, ap, ◌∙◌, append-nil, arith}
use Rattle.std.specs.List.{flat_map, range_with_len}
use Rattle.std.proofs.lemmas.List.Concat.{flat_map-append}
use Rattle.jworld.specs.Members.{fields_of}
use Rattle.jworld.specs.Classes.{World, count}
use Rattle.jworld.proofs.Numbers.{range-more}
use Rattle.values.specs.declared.value.Value.{Value}
use Rattle.b_heap.specs.Statics.{first_values, first_statics}
use Rattle.b_heap.proofs.statics.Statics.new.Goals as goal

pub loop-n-preserved : goal.loop-n-preserved
loop-n-preserved c =
    let first : ℕ → List Value = λ class. first_values (fields_of c.world-world.result.now class) in
    let n = c.loop-n.n in
    let more : flat_map first (range_with_len 0 (n + 1)) ≡ flat_map first (range_with_len 0 n) ++ first n =
    ap (flat_map first) (range-more n) ∙ flat_map-append first (range_with_len 0 n) (n ∷ []) ∙ ap (λ (last : List Value). flat_map first (range_with_len 0 n) ++ last) (append-nil (first n)) in
    c.in_ok-push_class.ensures ∙ ap (λ (values : List Value). values ++ first n) c.loop-n.invariant ∙ sym more

pub returns : goal.returns
unfolding first_statics
returns c =
    let every : World → ℕ → List Value = λ files n. flat_map (λ class. first_values (fields_of files class)) (range_with_len 0 n) in
    let all : c.loop-n.n ≡ count c.world-world.result.now = omega (arith, c.loop-n-test.false, c.loop-n.auto.n-end, c.count-n-end.ensures.count) in
    c.loop-n.invariant ∙ ap (every c.world-world.result.now) all ∙ ap (λ (files : World). every files (count files)) c.world-world.ensures
