-- A method is resolved by what is declared first, or else by the superinterfaces.
use Rattle.std.proofs.Common.{◌≡◌, ℕ, true, false, Option, Some, None, is_some, option_and_then, refl, ap, ◌∙◌}
use Rattle.jnames.specs.declared.keys.MethodKey.{MethodKey}
use Rattle.jworld.specs.declared.ids.MethodId.{MethodId}
use Rattle.jworld.specs.Classes.{World}
use Rattle.jworld.specs.Fields.{or_else, first_found}
use Rattle.jworld.specs.Members.{is_method, declared_method}
use Rattle.jworld.specs.Methods.{inherited_method, interface_of, asked_first, resolved_method}

first_is : {A : Type 0} (a b : Option A) → is_some a ≡ true → a ≡ or_else a b
first_is None b some = cc
first_is (Some x) b some = refl

other_is : {A : Type 0} (a b : Option A) → is_some a ≡ false → b ≡ or_else a b
other_is None b none = refl
other_is (Some x) b none = cc

module _ (files : World) (key : MethodKey) (class : ℕ) (declared : Option MethodId) (is : declared ≡ first_found (declared_method files (is_method key)) (asked_first files class)) where
  abbrev inherited : Option ℕ → Option MethodId
  inherited above = option_and_then (inherited_method files key) above

  pub resolved_first : is_some declared ≡ true → declared ≡ resolved_method files key class
  unfolding resolved_method
  resolved_first some =
      let other : Option MethodId = inherited (interface_of files key class) in
      first_is declared other some ∙ ap (λ (d : Option MethodId). or_else d other) is

  pub resolved_else : (above : Option ℕ) (found : Option MethodId) → is_some declared ≡ false → above ≡ interface_of files key class → found ≡ option_and_then (inherited_method files key) above
      → found ≡ resolved_method files key class
  unfolding resolved_method
  resolved_else above found none above_is found_is =
      let other : Option MethodId = inherited (interface_of files key class) in
      found_is ∙ ap inherited above_is ∙ other_is declared other none ∙ ap (λ (d : Option MethodId). or_else d other) is
