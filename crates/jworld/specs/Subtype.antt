-- When a value of one reference type is one of another (JVMS SE 8, checkcast; JLS 4.10). A reference type is the name of a class or
-- interface, or the descriptor of an array.
use Rattle.std.specs.Prelude.{ℕ, ◌-◌, Bool, false, List, [], ◌∷◌, take, length, Option, Some, bytes_eq, codes, ◌==◌, ◌&&◌, ◌||◌, if◌then◌else◌}
use Rattle.jworld.specs.Classes.{World, class_named}
use Rattle.jworld.specs.Above.{is_above}

-- what is asked of two names of classes, and of a class as the type of an array
pub record Rule : Type 0 where
  pub class : List ℕ → List ℕ → Bool
  pub array : List ℕ → Bool

-- whether a descriptor is that of a class or an array
abbrev pub is_reference : List ℕ → Bool
is_reference [] = false
is_reference (c ∷ rest) = c == 76 || c == 91

-- the reference type of such a descriptor: the name in Lname; whatever its bytes, and the whole of [..
abbrev pub reference_in : List ℕ → List ℕ
reference_in [] = []
reference_in (c ∷ rest) = if c == 76 then take (length rest - 1) rest else c ∷ rest

-- a class, as a reference type
abbrev pub class_fits : Rule → List ℕ → List ℕ → Bool
class_fits rule from [] = rule.class from []
class_fits rule from (c ∷ to) = if c == 91 then false else rule.class from (c ∷ to)

-- an array as a reference type, if it is known of which descriptors its items' one is
abbrev pub array_fits : Rule → (List ℕ → Bool) → List ℕ → Bool
array_fits rule items_fit [] = rule.array []
array_fits rule items_fit (c ∷ to) = if c == 91 then items_fit to else rule.array (c ∷ to)

-- items of this descriptor, as items of another
unfoldable pub items_fit : Rule → List ℕ → List ℕ → Bool
items_fit rule [] to = false
items_fit rule (c ∷ items) to =
    if c == 91 then is_reference to && array_fits rule (items_fit rule items) (reference_in to)
    else if c == 76 then is_reference to && class_fits rule (reference_in (c ∷ items)) (reference_in to)
    else bytes_eq (c ∷ items) to

abbrev pub fits : Rule → List ℕ → List ℕ → Bool
fits rule [] to = class_fits rule [] to
fits rule (c ∷ from) to = if c == 91 then array_fits rule (items_fit rule from) to else class_fits rule (c ∷ from) to

abbrev pub stands_above : World → Option ℕ → Option ℕ → Bool
stands_above files (Some class) (Some above) = is_above files class above
stands_above files _ _ = false

abbrev pub is_object : List ℕ → Bool
is_object name = bytes_eq name (codes "java/lang/Object")

-- at run time a class is itself, Object, and what stands above it; an array is an Object and of the two interfaces that arrays
-- implement (JLS 4.10.3)
abbrev pub at_run_time : World → Rule
at_run_time files = record {
  class = λ from to. bytes_eq from to || is_object to || stands_above files (class_named files from) (class_named files to);
  array = λ to. is_object to || bytes_eq to (codes "java/lang/Cloneable") || bytes_eq to (codes "java/io/Serializable");
}

unfoldable pub is_subtype : World → List ℕ → List ℕ → Bool
is_subtype files from to = fits (at_run_time files) from to
