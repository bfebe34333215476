-- The initialisers among the reached pairs, in the order in which they run: by domain, in each by how many superclasses their
-- class has, and then by the bytes of its name.
use Rattle.std.specs.Prelude.{ℕ, Bool, false, List, [], ◌∷◌, map, fold, length, Option, Some, None, slice_get, slice_index_or, if◌then◌else◌}
use Rattle.std.specs.List.{range_with_len}
use Rattle.std.specs.Ordering.{nat_cmp, ordering_then}
use Rattle.std.specs.declared.cmp.Ordering.{Ordering}
use Rattle.std.specs.BTreeMap.{insert_entry}
use Rattle.std.specs.Cmp.Lexicographic.{slice_cmp}
use Rattle.classfile.specs.ClassFile.{MethodInfo}
use Rattle.jworld.specs.Classes.{World, names, file_of}
use Rattle.jworld.specs.Upwards.{upwards}
use Rattle.mentions.specs.Initialisers.{is_initialiser}
use Rattle.reaching.specs.declared.pair.Pair.{Pair}

abbrev pub is_start_in : Option MethodInfo → Bool
is_start_in None = false
is_start_in (Some method) = is_initialiser method

abbrev pub is_start : World → Pair → Bool
is_start files pair = elim (file_of files pair.method.class.n) [ None ↦ false | Some file ↦ is_start_in (slice_get file.methods pair.method.n) ]

-- a domain, how many classes a class and its superclasses are, and its name
abbrev pub Key : Type 0
Key = ℕ × ℕ × List ℕ

abbrev pub comes_before : Key → Key → Ordering
comes_before one other = ordering_then (ordering_then (nat_cmp one.0 other.0) (nat_cmp one.1 other.1)) (slice_cmp nat_cmp one.2 other.2)

abbrev pub key_of : World → Pair → Key
key_of files pair = (pair.domain, length (upwards files pair.method.class.n), slice_index_or (names files) pair.method.class.n [])

-- the numbers of pairs in the order of their keys
abbrev pub Starts : Type 0
Starts = List (Key × ℕ)

abbrev pub with_start : World → Starts → ℕ → Option Pair → Starts
with_start files starts number None = starts
with_start files starts number (Some pair) = if is_start files pair then insert_entry comes_before starts (key_of files pair) number else starts

abbrev pub put_start : World → List Pair → Starts → ℕ → Starts
put_start files pairs starts number = with_start files starts number (slice_get pairs number)

abbrev pub in_order : World → List Pair → Starts
in_order files pairs = fold (put_start files pairs) [] (range_with_len 0 (length pairs))

abbrev pub starts_of : World → List Pair → List ℕ
starts_of files pairs = map (λ start. start.1) (in_order files pairs)
