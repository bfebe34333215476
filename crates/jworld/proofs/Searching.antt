-- A search for a field, class by class.
use Rattle.std.proofs.Common.{◌≡◌, Bor, ℕ, zero, suc, ◌<◌, true, false, List, [], ◌∷◌, ◌++◌, map, length, get_or, filter_map, option_to_list, Option, Some, None, is_some, Contains, refl, sym, ap, subst, ◌∙◌, arith}
use Rattle.std.specs.List.{cons_option}
use Rattle.std.proofs.lemmas.List.Elements.{Contains-append_left, Contains-append_right}
use Rattle.jnames.specs.declared.keys.FieldKey.{FieldKey}
use Rattle.classfile.specs.ClassFile.{ClassInfo}
use Rattle.jworld.specs.declared.ids.FieldId.{FieldId}
use Rattle.jworld.specs.Classes.{World, class_named, super_of, interfaces_of, interfaces_in, file_of}
use Rattle.jworld.specs.Faults.{world_fault}
use Rattle.jworld.specs.Members.{declared_field}
use Rattle.jworld.specs.Fields.{or_else, first_found, resolved_field}
use Rattle.jworld.proofs.Among.{Contains-first, Contains-behind}
use Rattle.jworld.proofs.Supering.{filter_map-map}
use Rattle.jworld.proofs.Acyclic.{rank, rank_falls}
use Rattle.jworld.proofs.Settled.{resolved_step}

-- ---- what is found first in two lists, and in a list of at most one

module _ {B : Type 0} where
  or_else-assoc : (a b c : Option B) → or_else (or_else a b) c ≡ or_else a (or_else b c)
  or_else-assoc None b c = refl
  or_else-assoc (Some x) b c = refl

  or_else-none : (a : Option B) → or_else a None ≡ a
  or_else-none None = refl
  or_else-none (Some x) = refl

  some_first : (a b : Option B) → is_some a ≡ true → or_else a b ≡ a
  some_first None b h = cc
  some_first (Some x) b h = refl

  no_first : (a b : Option B) → is_some a ≡ false → or_else a b ≡ b
  no_first None b h = refl
  no_first (Some x) b h = cc

  is_none : (a : Option B) → is_some a ≡ false → a ≡ None
  is_none None h = refl
  is_none (Some x) h = cc

module _ {A B : Type 0} where
  first_found-append : (find : A → Option B) (xs ys : List A) → first_found find (xs ++ ys) ≡ or_else (first_found find xs) (first_found find ys)
  first_found-append find [] ys = refl
  first_found-append find (x ∷ xs) ys = ap (or_else (find x)) (first_found-append find xs ys) ∙ sym (or_else-assoc (find x) (first_found find xs) (first_found find ys))

  Contains-filter_map : (h : A → Option B) (xs : List A) (i : ℕ) (d : A) (y : B) → i < length xs → h (get_or xs i d) ≡ Some y → Contains (filter_map h xs) y
  Contains-filter_map h [] i d y within is = absurd (omega arith)
  Contains-filter_map h (x ∷ xs) zero d y within is = subst (λ (o : Option B). Contains (cons_option o (filter_map h xs)) y) (sym is) (Contains-first y (filter_map h xs))
  Contains-filter_map h (x ∷ xs) (suc i) d y within is = behind (h x) (Contains-filter_map h xs i d y (omega arith) is)
    where
      behind : (o : Option B) → Contains (filter_map h xs) y → Contains (cons_option o (filter_map h xs)) y
      behind None in' = in'
      behind (Some z) in' = Contains-behind z (filter_map h xs) y in'

-- ---- from a class

module _ (files : World) (none : world_fault files ≡ None) (key : FieldKey) (class : ℕ) where
  abbrev resolved : ℕ → Option FieldId
  resolved = resolved_field files key

  abbrev above : Option FieldId
  above = first_found resolved (option_to_list (super_of files class))

  parts : resolved class ≡ or_else (declared_field files key class) (or_else (first_found resolved (interfaces_of files class)) above)
  parts = resolved_step files none key class ∙ ap (or_else (declared_field files key class)) (first_found-append resolved (interfaces_of files class) (option_to_list (super_of files class)))

  pub found_in_class : (found : Option FieldId) → found ≡ declared_field files key class → is_some found ≡ true → found ≡ resolved class
  found_in_class found is some = sym (some_first found _ some) ∙ ap (λ f. or_else f (or_else (first_found resolved (interfaces_of files class)) above)) is ∙ sym parts

  module _ (in_class : Option FieldId) (is : in_class ≡ declared_field files key class) (not_in_class : is_some in_class ≡ false) where
    behind_class : resolved class ≡ or_else (first_found resolved (interfaces_of files class)) above
    behind_class = parts ∙ ap (λ f. or_else f (or_else (first_found resolved (interfaces_of files class)) above)) (sym is) ∙ no_first in_class _ not_in_class

    pub found_in_interfaces : (found : Option FieldId) → found ≡ first_found resolved (interfaces_of files class) → is_some found ≡ true → found ≡ resolved class
    found_in_interfaces found same some = sym (some_first found above some) ∙ ap (λ f. or_else f above) same ∙ sym behind_class

    module _ (in_interfaces : Option FieldId) (same : in_interfaces ≡ first_found resolved (interfaces_of files class)) (not_in_interfaces : is_some in_interfaces ≡ false) where
      behind_interfaces : resolved class ≡ above
      behind_interfaces = behind_class ∙ ap (λ f. or_else f above) (sym same) ∙ no_first in_interfaces above not_in_interfaces

      pub found_nowhere : None ≡ super_of files class → None ≡ resolved class
      found_nowhere no_super = ap (λ s. first_found resolved (option_to_list s)) no_super ∙ sym behind_interfaces

      pub found_in_super : (super : ℕ) (found : Option FieldId) → Some super ≡ super_of files class → found ≡ resolved super → found ≡ resolved class
      found_in_super super found is_super found_is = found_is ∙ sym (or_else-none (resolved super)) ∙ ap (λ s. first_found resolved (option_to_list s)) is_super ∙ sym behind_interfaces

      pub found_not : (super : ℕ) (found : Option FieldId) → Some super ≡ super_of files class → found ≡ resolved super → is_some found ≡ false → None ≡ resolved class
      found_not super found is_super found_is no_found = sym (is_none found no_found) ∙ found_in_super super found is_super found_is

  -- ---- fewer stand above the superclass and the superinterfaces

  pub super_falls : (super : ℕ) → Some super ≡ super_of files class → rank files super < rank files class
  super_falls super is =
      rank_falls files none class super
      (Contains-append_left (option_to_list (super_of files class)) (interfaces_of files class) super (subst (λ (o : Option ℕ). Contains (option_to_list o) super) is (Contains-first super [])))

  pub interface_falls : (file : Bor ClassInfo) (items : List (Bor (List ℕ))) (i : ℕ) (d : Bor (List ℕ)) (above : ℕ) → Some file.now ≡ file_of files class → map (λ (name : Bor (List ℕ)). name.now) items ≡ file.now.interfaces
      → i < length items → Some above ≡ class_named files (get_or items i d).now → rank files above < rank files class
  interface_falls file items i d above file_is names_are within is =
      let now : Bor (List ℕ) → List ℕ = λ name. name.now in
      let named : Contains (filter_map (λ (name : Bor (List ℕ)). class_named files name.now) items) above = Contains-filter_map (λ (name : Bor (List ℕ)). class_named files name.now) items i d above within (sym is) in
      let same : filter_map (λ (name : Bor (List ℕ)). class_named files name.now) items ≡ interfaces_of files class =
      filter_map-map (class_named files) now items ∙ ap (filter_map (class_named files)) names_are ∙ ap (interfaces_in files) file_is
      in
      rank_falls files none class above
      (Contains-append_right (option_to_list (super_of files class)) (interfaces_of files class) above (subst (λ (xs : List ℕ). Contains xs above) same named))
