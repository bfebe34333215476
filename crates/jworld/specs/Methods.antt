-- Resolution of a method (JVMS SE 8, 5.4.3.3 and 5.4.3.4), and its selection for a receiver (5.4.6). Access is not looked at.
use Rattle.std.specs.Prelude.{ℕ, Bool, List, [], ◌∷◌, filter, Option, Some, None, is_some, slice_get, option_and_then, not, ◌&&◌, if◌then◌else◌}
use Rattle.std.specs.List.{list_any, range_with_len}
use Rattle.jnames.specs.declared.keys.MethodKey.{MethodKey}
use Rattle.jworld.specs.declared.ids.MethodId.{MethodId}
use Rattle.jworld.specs.Classes.{World, is_interface, count}
use Rattle.jworld.specs.Upwards.{upwards}
use Rattle.jworld.specs.Above.{is_above}
use Rattle.jworld.specs.Fields.{first_found, or_else}
use Rattle.jworld.specs.Members.{is_method, is_inherited, is_abstract, declared_method}

-- the method of this key that a class declares, if it is an instance method that isn't private
abbrev pub inherited_method : World → MethodKey → ℕ → Option MethodId
inherited_method files key class = declared_method files (λ method. is_method key method && is_inherited method) class

-- the same, if it is abstract no more
abbrev pub concrete_method : World → MethodKey → ℕ → Option MethodId
concrete_method files key class = declared_method files (λ method. is_method key method && is_inherited method && not (is_abstract method)) class

-- whether a class is a superinterface that declares one
abbrev pub is_declaring : World → MethodKey → ℕ → ℕ → Bool
is_declaring files key class above = is_interface files above && is_above files class above && is_some (inherited_method files key above)

-- the superinterfaces, direct and indirect, that declare one, by their numbers
abbrev pub declaring : World → MethodKey → ℕ → List ℕ
declaring files key class = filter (is_declaring files key class) (range_with_len 0 (count files))

-- whether none of them is below a class
abbrev pub is_most_specific : World → MethodKey → ℕ → ℕ → Bool
is_most_specific files key class above = not (list_any (λ below. is_above files below above) (declaring files key class))

-- those of them below which no other of them stands: the maximally specific ones (5.4.3.3)
abbrev pub most_specific : World → MethodKey → ℕ → List ℕ
most_specific files key class = filter (is_most_specific files key class) (declaring files key class)

abbrev pub only_one : List ℕ → Option ℕ
only_one (x ∷ []) = Some x
only_one _ = None

-- of the maximally specific ones the one that isn't abstract, if there is exactly one; else the first that declares one, where
-- the standard leaves the choice open
abbrev pub interface_of : World → MethodKey → ℕ → Option ℕ
interface_of files key class =
    or_else (only_one (filter (λ above. is_some (concrete_method files key above)) (most_specific files key class))) (slice_get (declaring files key class) 0)

-- where a method is looked for before the superinterfaces: upwards from a class; in an interface, and in Object
abbrev pub asked_first : World → ℕ → List ℕ
asked_first files class = if is_interface files class then class ∷ 0 ∷ [] else upwards files class

unfoldable pub resolved_method : World → MethodKey → ℕ → Option MethodId
resolved_method files key class =
    or_else (first_found (declared_method files (is_method key)) (asked_first files class)) (option_and_then (inherited_method files key) (interface_of files key class))

-- the method that a receiver of this class runs: the first from its class upwards that is an instance method and not private
unfoldable pub selected_method : World → MethodKey → ℕ → Option MethodId
selected_method files key class = first_found (inherited_method files key) (upwards files class)
