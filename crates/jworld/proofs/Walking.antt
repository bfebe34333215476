-- Superclasses as a loop goes up along them.
use Rattle.std.proofs.Common.{◌≡◌, ℕ, suc, ◌+◌, ◌-◌, ◌<◌, ◌≤◌, ◌≢◌, Bool, true, false, ◌==◌, ◌||◌, List, [], ◌∷◌, Option, Some, None, is_some, option_map, refl, sym, ap, ◌∙◌, arith}
use Rattle.std.specs.List.{list_any}
use Rattle.std.proofs.lemmas.Grind.{common_steps}
use Rattle.jworld.specs.declared.ids.ClassId.{ClassId}
use Rattle.jworld.specs.Classes.{World, super_of}
use Rattle.jworld.specs.Fields.{or_else, first_found}
use Rattle.jworld.specs.Upwards.{chain, on_some}

abbrev pub number : ClassId → ℕ
number class = class.n

-- from the next class on, if there is one, at most so many
abbrev pub way_up : World → ℕ → Option ClassId → List ℕ
way_up files most next = on_some (chain most files) (option_map number next)

module _ (files : World) (end i : ℕ) where
  chain_step : (most class : ℕ) → chain (suc most) files class ≡ class ∷ on_some (chain most files) (super_of files class)
  unfolding chain
  chain_step most class = refl

  chain_end : (class : ℕ) → chain 0 files class ≡ []
  unfolding chain
  chain_end class = refl

  abbrev further : ClassId → List ℕ
  further class = on_some (chain (end - (i + 1)) files) (super_of files class.n)

  way_from : (class : ClassId) → i < end → way_up files (end - i) (Some class) ≡ class.n ∷ further class
  way_from class h =
      let e : end - i ≡ suc (end - (i + 1)) = omega arith in
      rw (e, chain_step (end - (i + 1)) class.n) refl

  no_way : (next : Option ClassId) → way_up files 0 next ≡ []
  no_way None = refl
  no_way (Some class) = chain_end class.n

  way_ends : (next : Option ClassId) → end ≤ i → way_up files (end - i) next ≡ []
  way_ends next h =
      let e : end - i ≡ 0 = omega arith in
      rw e (no_way next)

  -- ---- whether a class is on the way

  same : (a b : ℕ) → a ≡ b → (a == b) ≡ true
  same a b e = grind (arith, common_steps)

  other : (a b : ℕ) → a ≢ b → (a == b) ≡ false
  other a b e = grind (arith, common_steps)

  pub found_on_way : (of : ℕ) (class : ClassId) (r : Bool) → i < end → class.n ≡ of → list_any (λ c. c == of) (way_up files (end - i) (Some class)) ≡ r → true ≡ r
  found_on_way of class r h e before =
      ap (λ b. b || list_any (λ c. c == of) (further class)) (sym (same class.n of e)) ∙ sym (ap (list_any (λ c. c == of)) (way_from class h)) ∙ before

  pub on_further_way : (of : ℕ) (class : ClassId) (above : Option ClassId) (r : Bool) → i < end → option_map number above ≡ super_of files class.n → class.n ≢ of
      → list_any (λ c. c == of) (way_up files (end - i) (Some class)) ≡ r → list_any (λ c. c == of) (way_up files (end - (i + 1)) above) ≡ r
  on_further_way of class above r h above_is e before =
      ap (λ next. list_any (λ c. c == of) (on_some (chain (end - (i + 1)) files) next)) above_is
      ∙ ap (λ b. b || list_any (λ c. c == of) (further class)) (sym (other class.n of e)) ∙ sym (ap (list_any (λ c. c == of)) (way_from class h)) ∙ before

  pub on_no_way : (of : ℕ) (next : Option ClassId) (r : Bool) → end ≤ i → list_any (λ c. c == of) (way_up files (end - i) next) ≡ r → false ≡ r
  on_no_way of next r h before = sym (ap (list_any (λ c. c == of)) (way_ends next h)) ∙ before

  -- ---- what is found first on the way

  module _ {A : Type 0} (find : ℕ → Option A) (first : Option A) where
    some_first : (found other : Option A) → is_some found ≡ true → or_else found other ≡ found
    some_first None other h = cc
    some_first (Some x) other h = refl

    no_first : (found other : Option A) → is_some found ≡ false → or_else found other ≡ other
    no_first None other h = refl
    no_first (Some x) other h = cc

    asked : (class : ClassId) (found : Option A) → i < end → found ≡ find class.n → first_found find (way_up files (end - i) (Some class)) ≡ first
        → or_else found (first_found find (further class)) ≡ first
    asked class found h e before = ap (λ f. or_else f (first_found find (further class))) e ∙ sym (ap (first_found find) (way_from class h)) ∙ before

    pub found_first : (class : ClassId) (found : Option A) → i < end → found ≡ find class.n → is_some found ≡ true
        → first_found find (way_up files (end - i) (Some class)) ≡ first → found ≡ first
    found_first class found h e some before = sym (some_first found (first_found find (further class)) some) ∙ asked class found h e before

    pub found_further : (class : ClassId) (found : Option A) (above : Option ClassId) → i < end → found ≡ find class.n → is_some found ≡ false → option_map number above ≡ super_of files class.n
        → first_found find (way_up files (end - i) (Some class)) ≡ first → first_found find (way_up files (end - (i + 1)) above) ≡ first
    found_further class found above h e none above_is before =
        ap (λ next. first_found find (on_some (chain (end - (i + 1)) files) next)) above_is
        ∙ sym (no_first found (first_found find (further class)) none) ∙ asked class found h e before

    pub found_nowhere : (next : Option ClassId) → end ≤ i → first_found find (way_up files (end - i) next) ≡ first → None ≡ first
    found_nowhere next h before = sym (ap (first_found find) (way_ends next h)) ∙ before
