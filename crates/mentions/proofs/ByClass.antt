-- The initialiser of each class, kept by its number.
use Rattle.std.proofs.Common.{◌≡◌, ℕ, zero, suc, ◌+◌, ◌-◌, ◌<◌, ◌≤◌, Bool, true, false, cond, List, [], ◌∷◌, map, length, filter_map, get_or, slice_get, slice_index_or, Option, Some, None, refl, sym, ap, subst, ◌∙◌, arith, le-ltb, ⊎_elim}
use Rattle.std.specs.Prelude.{nat_lt, option_map, position, if◌then◌else◌}
use Rattle.std.specs.List.{range_with_len, cons_option}
use Rattle.std.proofs.lemmas.Bool.{cases_lt}
use Rattle.std.proofs.lemmas.Option.{slice_get_past}
use Rattle.std.proofs.lemmas.List.{get_or_past}
use Rattle.std.proofs.lemmas.List.FromFn.{length-map-range_with_len, get_or-map-range_with_len}
use Rattle.classfile.specs.ClassFile.{ClassInfo}
use Rattle.jworld.specs.declared.ids.MethodId.{MethodId}
use Rattle.jworld.specs.Classes.{World, count, file_of}
use Rattle.jworld.specs.Members.{built_in_constructor, methods_in, method_id}
use Rattle.mentions.specs.Initialisers.{is_initialiser, initialiser_of}

same_filter : (f g : ℕ → Option MethodId) → ((n : ℕ) → f n ≡ g n) → (ns : List ℕ) → filter_map f ns ≡ filter_map g ns
same_filter f g same [] = refl
same_filter f g same (n ∷ ns) = ap (λ (one : Option MethodId). cons_option one (filter_map f ns)) (same n) ∙ ap (cons_option (g n)) (same_filter f g same ns)

-- a number that no class has
no_class : (files : World) (n : ℕ) → count files ≤ n → initialiser_of files n ≡ None
no_class files n many =
    ap (λ (b : Bool). option_map (method_id n) (position is_initialiser (if b then built_in_constructor ∷ [] else methods_in (if b then None else slice_get files (n - 4))))) (le-ltb n 4 (omega (many, arith)))
    ∙ ap (λ (file : Option ClassInfo). option_map (method_id n) (position is_initialiser (methods_in file))) (slice_get_past files (n - 4) (omega (many, arith)))

by_number : (files : World) (n : ℕ) → slice_index_or (map (initialiser_of files) (range_with_len 0 (count files))) n None ≡ initialiser_of files n
by_number files n =
    ⊎_elim (λ low. get_or-map-range_with_len (initialiser_of files) 0 (count files) n n None low (omega arith))
    (λ high. get_or_past (map (initialiser_of files) (range_with_len 0 (count files))) n None (let long = length-map-range_with_len (initialiser_of files) 0 (count files) in omega (long, high, arith)) ∙ sym (no_class files n high))
    (cases_lt n (count files))

pub by_class : (files : World) (all : List (Option MethodId)) → all ≡ map (initialiser_of files) (range_with_len 0 (count files)) → (classes : List ℕ)
    → filter_map (λ n. slice_index_or all n None) classes ≡ filter_map (initialiser_of files) classes
by_class files all is classes =
    ap (λ (kept : List (Option MethodId)). filter_map (λ n. slice_index_or kept n None) classes) is
    ∙ same_filter (λ n. slice_index_or (map (initialiser_of files) (range_with_len 0 (count files))) n None) (initialiser_of files) (by_number files) classes
