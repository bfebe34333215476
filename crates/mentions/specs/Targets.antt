-- The methods that a call of a method runs on a receiver of a class: those that its class and the classes below it select (JVMS
-- SE 8, 5.4.6).
use Rattle.std.specs.Prelude.{ℕ, Bool, false, List, [], ◌∷◌, map, filter, Option, Some, None, is_some, option_map, slice_get, slice_index_or, ◌==◌, ◌&&◌, ◌||◌, if◌then◌else◌}
use Rattle.std.specs.List.{range_with_len}
use Rattle.std.specs.Ordering.{nat_cmp}
use Rattle.std.specs.BTreeMap.{insert_entry}
use Rattle.std.specs.Cmp.Lexicographic.{slice_cmp}
use Rattle.classfile.specs.ClassFile.{MethodInfo}
use Rattle.jnames.specs.declared.keys.MethodKey.{MethodKey}
use Rattle.jworld.specs.declared.ids.MethodId.{MethodId}
use Rattle.jworld.specs.Classes.{World, count, names}
use Rattle.jworld.specs.Above.{is_above}
use Rattle.jworld.specs.Members.{methods_of}
use Rattle.jworld.specs.Methods.{selected_method}
use Rattle.linking.specs.Objects.{has_objects}

-- a class that has objects, which is the called one or below it
abbrev pub is_receiver : World → ℕ → ℕ → Bool
is_receiver files called class = has_objects files class && (class == called || is_above files class called)

abbrev pub is_code_in : Option MethodInfo → Bool
is_code_in None = false
is_code_in (Some method) = is_some method.code

abbrev pub has_code : World → MethodId → Bool
has_code files id = is_code_in (slice_get (methods_of files id.class.n) id.n)

abbrev pub with_code : World → Option MethodId → Option MethodId
with_code files None = None
with_code files (Some id) = if has_code files id then Some id else None

-- what a receiver of a class runs
abbrev pub selection : World → MethodKey → ℕ → Option MethodId
selection files key class = with_code files (selected_method files key class)

-- methods in the order of the names of their classes, each once
abbrev pub Targets : Type 0
Targets = List (List ℕ × MethodId)

abbrev pub put : Targets → List ℕ → MethodId → Targets
put targets name method = insert_entry (slice_cmp nat_cmp) targets name method

abbrev pub class_name : World → MethodId → List ℕ
class_name files id = slice_index_or (names files) id.class.n []

-- with what these classes select, if each of those that are receivers selects a method with code
unfoldable pub gathered : World → MethodKey → ℕ → Targets → List ℕ → Option Targets
gathered files key called targets [] = Some targets
gathered files key called targets (class ∷ classes) =
    if is_receiver files called class
    then elim (selection files key class) [ None ↦ None | Some id ↦ gathered files key called (put targets (class_name files id) id) classes ]
    else gathered files key called targets classes

abbrev pub targets_of : World → MethodKey → ℕ → Option Targets
targets_of files key called = gathered files key called [] (range_with_len 0 (count files))
