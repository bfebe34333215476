-- The methods of pairs, each once, and those of them that are well typed.
use Rattle.std.proofs.Common.{◌≡◌, ℕ, ◌+◌, ◌<◌, List, [], ◌∷◌, ◌++◌, map, take, length, get_or, filter_map, option_to_list, slice_get, Option, Some, None, Result, Ok, Err, refl, sym, ap, ◌∙◌, append-nil}
use Rattle.std.specs.Result.{result_ok}
use Rattle.std.proofs.lemmas.List.{take_more}
use Rattle.std.proofs.lemmas.List.Sums.{fold-append}
use Rattle.std.proofs.lemmas.Option.{slice_get_within, slice_get-get_or, get_or_from_slice_get}
use Rattle.kes_text.specs.declared.refusal.Stop.{Stop}
use Rattle.jworld.proofs.Supering.{filter_map-more}
use Rattle.method_typing.specs.declared.method.Typed.{Typed}
use Rattle.reaching.specs.declared.pair.Pair.{Pair}
use Rattle.reaching.specs.Order.{add, add_all}
use Rattle.reach.specs.Typings.{in_any_domain, with_method, with_typing}

map-append : {A B : Type 0} (f : A → B) (xs ys : List A) → map f (xs ++ ys) ≡ map f xs ++ map f ys
map-append f [] ys = refl
map-append f (x ∷ xs) ys = ap (λ zs. f x ∷ zs) (map-append f xs ys)

pub one_more : {A : Type 0} (xs : List A) (n : ℕ) (x : A) → slice_get xs n ≡ Some x → take (n + 1) xs ≡ take n xs ++ x ∷ []
one_more xs n x here = take_more xs n x (slice_get_within xs n x here) ∙ ap (λ y. take n xs ++ y ∷ []) (get_or_from_slice_get xs n x x here)

one_pair : (pairs : List Pair) (n : ℕ) (pair : Pair) → slice_get pairs n ≡ Some pair
    → add (add_all [] (map in_any_domain (take n pairs))) (in_any_domain pair) ≡ add_all [] (map in_any_domain (take (n + 1) pairs))
one_pair pairs n pair here =
    sym (ap (λ ps. add_all [] (map in_any_domain ps)) (one_more pairs n pair here) ∙ ap (add_all []) (map-append in_any_domain (take n pairs) (pair ∷ [])) ∙ fold-append add [] (map in_any_domain (take n pairs)) (in_any_domain pair ∷ []))

pub one_method : (pairs : List Pair) (n : ℕ) → n < length pairs
    → with_method (add_all [] (map in_any_domain (take n pairs))) (slice_get pairs n) ≡ add_all [] (map in_any_domain (take (n + 1) pairs))
one_method pairs n lt =
    let none : Pair = record { domain = 0; method = record { class = record { n = 0 }; n = 0 } } in
    let here = slice_get-get_or pairs n none lt in
    ap (with_method (add_all [] (map in_any_domain (take n pairs)))) here ∙ one_pair pairs n (get_or pairs n none) here

with_one : (typed : List Typed) (one : Result Typed Stop) → with_typing typed one ≡ typed ++ option_to_list (result_ok one)
with_one typed (Ok one) = refl
with_one typed (Err stop) = sym (append-nil typed)

pub one_typing : (h : Pair → Result Typed Stop) (methods : List Pair) (n : ℕ) (pair : Pair) → slice_get methods n ≡ Some pair
    → with_typing (filter_map (λ p. result_ok (h p)) (take n methods)) (h pair) ≡ filter_map (λ p. result_ok (h p)) (take (n + 1) methods)
one_typing h methods n pair here =
    with_one (filter_map (λ p. result_ok (h p)) (take n methods)) (h pair)
    ∙ ap (λ p. filter_map (λ p. result_ok (h p)) (take n methods) ++ option_to_list (result_ok (h p))) (sym (get_or_from_slice_get methods n pair pair here))
    ∙ sym (filter_map-more (λ p. result_ok (h p)) methods n pair (slice_get_within methods n pair here))
