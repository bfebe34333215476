-- In a world the bound on the steps of a search for a field doesn't matter: what is found from a class is found in it, or from the
-- first of those that are asked behind it from which something is found.
use Rattle.std.proofs.Common.{◌≡◌, ℕ, zero, suc, ◌+◌, ◌<◌, List, [], ◌∷◌, Option, None, length, Contains, option_to_list, refl, sym, ap, subst, ◌∙◌, ⊎_elim, arith}
use Rattle.std.proofs.lemmas.List.Elements.{Contains-append_left, Contains-append_right, Contains-append_cases}
use Rattle.jnames.specs.declared.keys.FieldKey.{FieldKey}
use Rattle.jworld.specs.Classes.{World, count, super_of, interfaces_of}
use Rattle.jworld.specs.Above.{supers_of}
use Rattle.jworld.specs.Faults.{world_fault}
use Rattle.jworld.specs.Members.{declared_field}
use Rattle.jworld.specs.Fields.{or_else, first_found, asked_after, found_field, resolved_field}
use Rattle.jworld.proofs.Among.{Contains-first, Contains-behind}
use Rattle.jworld.proofs.Acyclic.{rank, rank_falls, rank_within}

same_found : {A B : Type 0} (f g : A → Option B) (xs : List A) → ((x : A) → Contains xs x → f x ≡ g x) → first_found f xs ≡ first_found g xs
same_found f g [] same = refl
same_found f g (x ∷ xs) same =
    ap (λ y. or_else y (first_found f xs)) (same x (Contains-first x xs))
    ∙ ap (or_else (g x)) (same_found f g xs (λ y in'. same y (Contains-behind x xs y in')))

module _ (files : World) (none : world_fault files ≡ None) (key : FieldKey) where
  -- what is asked behind a class stands directly above it
  asked_above : (class next : ℕ) → Contains (asked_after files class) next → Contains (supers_of files class) next
  asked_above class next in' =
      ⊎_elim
      (λ interface. Contains-append_right (option_to_list (super_of files class)) (interfaces_of files class) next interface)
      (λ above. Contains-append_left (option_to_list (super_of files class)) (interfaces_of files class) next above)
      (Contains-append_cases (interfaces_of files class) (option_to_list (super_of files class)) next in')

  found_step : (most class : ℕ) → found_field (suc most) files key class ≡ or_else (declared_field files key class) (first_found (found_field most files key) (asked_after files class))
  unfolding found_field
  found_step most class = refl

  settled : (most class : ℕ) → rank files class < most → found_field (suc most) files key class ≡ found_field most files key class
  settled zero class small = absurd (omega arith)
  settled (suc most) class small =
      found_step (suc most) class
      ∙ ap (or_else (declared_field files key class))
      (same_found (found_field (suc most) files key) (found_field most files key) (asked_after files class)
      (λ next in'.
      let falls : rank files next < rank files class = rank_falls files none class next (asked_above class next in') in
      settled most next (omega arith)))
      ∙ sym (found_step most class)

  settled_step : (most class : ℕ) → ((next : ℕ) → Contains (asked_after files class) next → rank files next < most)
      → found_field (suc most) files key class ≡ or_else (declared_field files key class) (first_found (found_field (suc most) files key) (asked_after files class))
  settled_step most class small =
      found_step most class
      ∙ ap (or_else (declared_field files key class))
      (same_found (found_field most files key) (found_field (suc most) files key) (asked_after files class) (λ next in'. sym (settled most next (small next in'))))

  pub resolved_step : (class : ℕ) → resolved_field files key class ≡ or_else (declared_field files key class) (first_found (resolved_field files key) (asked_after files class))
  unfolding resolved_field
  resolved_step class =
      let most = 3 + length files in
      let e : suc most ≡ count files = omega arith in
      let Step : ℕ → Type 0 = λ n. found_field n files key class ≡ or_else (declared_field files key class) (first_found (found_field n files key) (asked_after files class)) in
      subst Step e
      (settled_step most class
      (λ next in'.
      let falls : rank files next < rank files class = rank_falls files none class next (asked_above class next in') in
      let within : rank files class < count files = rank_within files none class next (asked_above class next in') in
      omega arith))
