-- Targets, gathered class by class.
use Rattle.std.proofs.Common.{◌≡◌, ℕ, zero, suc, ◌+◌, ◌-◌, ◌<◌, ◌≤◌, Bool, true, false, cond, Bor, List, [], ◌∷◌, map, Option, Some, None, refl, sym, ap, ◌∙◌, arith}
use Rattle.std.specs.Prelude.{if◌then◌else◌}
use Rattle.std.specs.Ordering.{nat_cmp, match_ordering}
use Rattle.std.specs.declared.cmp.Ordering.{Ordering}
use Rattle.std.specs.declared.cmp.Ordering.TheVariants.{Less, Equal, Greater}
use Rattle.std.specs.List.{range_with_len}
use Rattle.std.specs.BTreeMap.{insert_entry}
use Rattle.std.specs.Cmp.Lexicographic.{slice_cmp}
use Rattle.jnames.specs.declared.keys.MethodKey.{MethodKey}
use Rattle.jworld.specs.declared.ids.MethodId.{MethodId}
use Rattle.jworld.specs.Classes.{World}
use Rattle.reaching.specs.declared.pair.Pair.{Pair}
use Rattle.mentions.specs.Initialisers.{in_domain}
use Rattle.mentions.specs.Targets.{Targets, put, class_name, is_receiver, selection, gathered}

abbrev pub Kept : Type 0
Kept = List (Bor (List ℕ) × MethodId)

abbrev pub view : Kept → Targets
view kept = map (λ e. (e.0.now, e.1)) kept

pub put_kept : (kept : Kept) (name : Bor (List ℕ)) (method : MethodId) → view (insert_entry (λ x y. slice_cmp nat_cmp x.now y.now) kept name method) ≡ put (view kept) name.now method
put_kept [] name method = refl
put_kept (e ∷ kept) name method = by_order (put_kept kept name method) (slice_cmp nat_cmp name.now e.0.now)
  where
    by_order : view (insert_entry (λ x y. slice_cmp nat_cmp x.now y.now) kept name method) ≡ put (view kept) name.now method → (o : Ordering)
        → view (match_ordering o ((name, method) ∷ e ∷ kept) ((e.0, method) ∷ kept) (e ∷ insert_entry (λ x y. slice_cmp nat_cmp x.now y.now) kept name method))
        ≡ match_ordering o ((name.now, method) ∷ (e.0.now, e.1) ∷ view kept) ((e.0.now, method) ∷ view kept) ((e.0.now, e.1) ∷ put (view kept) name.now method)
    by_order behind Less = refl
    by_order behind Equal = refl
    by_order behind Greater = ap (λ (ts : Targets). (e.0.now, e.1) ∷ ts) behind

module _ (files : World) (key : MethodKey) (called : ℕ) where
  abbrev by_selection : Targets → List ℕ → Option MethodId → Option Targets
  by_selection targets classes found = elim found [ None ↦ None | Some id ↦ gathered files key called (put targets (class_name files id) id) classes ]

  abbrev by_receiver : Targets → ℕ → List ℕ → Bool → Option Targets
  by_receiver targets class classes receives = if receives then by_selection targets classes (selection files key class) else gathered files key called targets classes

  one_more : (targets : Targets) (class : ℕ) (classes : List ℕ) → gathered files key called targets (class ∷ classes) ≡ by_receiver targets class classes (is_receiver files called class)
  unfolding gathered
  one_more targets class classes = refl

  none_left : (targets : Targets) → gathered files key called targets [] ≡ Some targets
  unfolding gathered
  none_left targets = refl

  from : (targets : Targets) (n end : ℕ) → n < end → gathered files key called targets (range_with_len n (end - n)) ≡ by_receiver targets n (range_with_len (n + 1) (end - (n + 1))) (is_receiver files called n)
  from targets n end lt =
      let left : end - n ≡ suc (end - (n + 1)) = omega (lt, arith) in
      ap (λ (many : ℕ). gathered files key called targets (range_with_len n many)) left ∙ one_more targets n (range_with_len (n + 1) (end - (n + 1)))

  pub passed_over : (targets : Targets) (n end : ℕ) → n < end → is_receiver files called n ≡ false
      → gathered files key called targets (range_with_len n (end - n)) ≡ gathered files key called targets (range_with_len (n + 1) (end - (n + 1)))
  passed_over targets n end lt receives = from targets n end lt ∙ ap (by_receiver targets n (range_with_len (n + 1) (end - (n + 1)))) receives

  pub has_none : (targets : Targets) (n end : ℕ) → n < end → is_receiver files called n ≡ true → selection files key n ≡ None
      → gathered files key called targets (range_with_len n (end - n)) ≡ None
  has_none targets n end lt receives none =
      from targets n end lt ∙ ap (by_receiver targets n (range_with_len (n + 1) (end - (n + 1)))) receives ∙ ap (by_selection targets (range_with_len (n + 1) (end - (n + 1)))) none

  pub has_one : (targets : Targets) (n end : ℕ) (id : MethodId) → n < end → is_receiver files called n ≡ true → selection files key n ≡ Some id
      → gathered files key called targets (range_with_len n (end - n)) ≡ gathered files key called (put targets (class_name files id) id) (range_with_len (n + 1) (end - (n + 1)))
  has_one targets n end id lt receives some =
      from targets n end lt ∙ ap (by_receiver targets n (range_with_len (n + 1) (end - (n + 1)))) receives ∙ ap (by_selection targets (range_with_len (n + 1) (end - (n + 1)))) some

  pub ended : (targets : Targets) (n end : ℕ) → end ≤ n → gathered files key called targets (range_with_len n (end - n)) ≡ Some targets
  ended targets n end le =
      let left : end - n ≡ 0 = omega (le, arith) in
      ap (λ (many : ℕ). gathered files key called targets (range_with_len n many)) left ∙ none_left targets

pub valued : (domain : ℕ) (kept : Kept) → map (in_domain domain) (map (λ e. e.1) kept) ≡ map (λ e. in_domain domain e.1) (view kept)
valued domain [] = refl
valued domain (e ∷ kept) = ap (λ (pairs : List Pair). in_domain domain e.1 ∷ pairs) (valued domain kept)
