-- Names that are seen from the last place to the first, and tables that have what is seen of a name in each class.
use Rattle.std.proofs.Common.{◌≡◌, ℕ, zero, suc, ◌+◌, ◌-◌, ◌<◌, ◌≤◌, Bool, true, false, ◌||◌, cond, List, [], ◌∷◌, ◌++◌, length, drop, get_or, slice_get, position, Option, Some, None, is_some, option_map, nat_lt, bytes_eq, if◌then◌else◌, refl, sym, ap, ◌∙◌, ⊎_elim, arith, add-one, length-append}
use Rattle.std.specs.Option.{option_and_then}
use Rattle.std.specs.List.{list_any, position_from}
use Rattle.std.proofs.lemmas.Bool.{cases_lt, le-ltb}
use Rattle.std.proofs.lemmas.Option.{slice_get_past}
use Rattle.std.proofs.lemmas.Iterator.Adapters.{position_from-zero}
use Rattle.std.proofs.lemmas.Slice.Eq.{bytes_eq-Decides}
use Rattle.kconfig.proofs.Among.{bytes_eq_swap}
use Rattle.classfile.specs.ClassFile.{ClassInfo, FieldInfo}
use Rattle.jworld.specs.Classes.{World, count, file_of, is_interface}
use Rattle.jworld.specs.Members.{built_in_constructor, methods_in, methods_of, fields_in, method_id, declared_method}
use Rattle.kbind.specs.declared.named.Seen.{Seen}
use Rattle.kbind.specs.Named.{Names, seen_in, seen_before, seen_from, seen_of, only_place}
use Rattle.kbind.specs.Entries.{is_entry_of, entry_in}
use Rattle.kbind.specs.Cells.{is_field_of, only_at, only_field}
use Rattle.kbind.specs.Kept.{entry_seen, field_seen, AreTables}
use Rattle.kbind.proofs.Declaring.{left}
use Rattle.kbind.proofs.Searching.{any_found}

-- ---- one place more, before the others

abbrev pub seen_at : ℕ → Bool → Seen
seen_at place again = record { place = place; again = again }

pub added_is : (added name : List ℕ) (place : ℕ) (again : Bool) (old : Names) (new : Option Seen) → new ≡ cond (bytes_eq added name) (Some (seen_at place again)) (seen_in old name) → again ≡ is_some (seen_in old added)
    → new ≡ seen_before (bytes_eq name added) place (seen_in old name)
added_is added name place again old new is was =
    is ∙ by_test (bytes_eq added name) refl ∙ ap (λ (b : Bool). seen_before b place (seen_in old name)) (bytes_eq_swap added name)
  where
    by_test : (b : Bool) → bytes_eq added name ≡ b → cond b (Some (seen_at place again)) (seen_in old name) ≡ seen_before b place (seen_in old name)
    by_test true h =
        let same : added ≡ name = (bytes_eq-Decides added name).0 h in
        ap (λ (a : Bool). Some (seen_at place a)) (was ∙ ap (λ (n : List ℕ). is_some (seen_in old n)) same)
    by_test false h = refl

pub goes_on : {A : Type 0} (test : List ℕ → A → Bool) (xs : List A) (i next : ℕ) (x : A) (old new : Names) → next ≡ i + 1 → i < length xs → x ≡ get_or xs i x
    → ((name : List ℕ) → seen_in new name ≡ seen_before (test name x) i (seen_in old name))
    → ((name : List ℕ) → seen_in old name ≡ seen_from (test name) next (drop next xs)) → (name : List ℕ) → seen_in new name ≡ seen_from (test name) i (drop i xs)
goes_on {A} test xs i next x old new e within is adds so_far name =
    let behind : seen_in old name ≡ seen_from (test name) (i + 1) (drop (i + 1) xs) = so_far name ∙ ap (λ (n : ℕ). seen_from (test name) n (drop n xs)) e in
    adds name ∙ ap (λ (o : Option Seen). seen_before (test name x) i o) behind ∙ ap (λ (ys : List A). seen_from (test name) i ys) (sym (left xs i x within is))

-- ---- the first place of what is seen, and the only one

first_place : {A : Type 0} (test : A → Bool) (i : ℕ) (xs : List A) → option_map (λ (s : Seen). s.place) (seen_from test i xs) ≡ position_from test i xs
first_place test i [] = refl
first_place test i (x ∷ xs) = by_test (test x) (first_place test (i + 1) xs)
  where
    by_test : (b : Bool) → option_map (λ (s : Seen). s.place) (seen_from test (i + 1) xs) ≡ position_from test (i + 1) xs
        → option_map (λ (s : Seen). s.place) (seen_before b i (seen_from test (i + 1) xs)) ≡ cond b (Some i) (position_from test (i + 1) xs)
    by_test true h = refl
    by_test false h = h

any_seen : {A : Type 0} (test : A → Bool) (i : ℕ) (xs : List A) → is_some (seen_from test i xs) ≡ list_any test xs
any_seen test i [] = refl
any_seen test i (x ∷ xs) = by_test (test x) (any_seen test (i + 1) xs)
  where
    by_test : (b : Bool) → is_some (seen_from test (i + 1) xs) ≡ list_any test xs → is_some (seen_before b i (seen_from test (i + 1) xs)) ≡ (b || list_any test xs)
    by_test true h = refl
    by_test false h = h

abbrev only_of : {A : Type 0} → (A → Bool) → List A → Option ℕ → Option ℕ
only_of test xs None = None
only_of test xs (Some found) = if is_some (position test (drop (found + 1) xs)) then None else Some found

drop_next : {A : Type 0} (all : List A) (i : ℕ) (x : A) (xs : List A) → drop i all ≡ x ∷ xs → drop (suc i) all ≡ xs
drop_next [] zero x xs h = absurd cc
drop_next [] (suc i) x xs h = absurd cc
drop_next (y ∷ all) zero x xs h = cc
drop_next (y ∷ all) (suc i) x xs h = drop_next all i x xs h

-- in what is left of a list from place i on
only_left : {A : Type 0} (test : A → Bool) (all : List A) (i : ℕ) (xs : List A) → drop i all ≡ xs → only_place (seen_from test i xs) ≡ only_of test all (position_from test i xs)
only_left test all i [] h = refl
only_left {A} test all i (x ∷ xs) h = by_test (test x) (only_left test all (i + 1) xs next)
  where
    next : drop (i + 1) all ≡ xs
    next = rw add-one (drop_next all i x xs h)

    again : is_some (seen_from test (i + 1) xs) ≡ is_some (position test (drop (i + 1) all))
    again = any_seen test (i + 1) xs ∙ sym (any_found test xs) ∙ ap (λ (ys : List A). is_some (position test ys)) (sym next)

    by_test : (b : Bool) → only_place (seen_from test (i + 1) xs) ≡ only_of test all (position_from test (i + 1) xs)
        → only_place (seen_before b i (seen_from test (i + 1) xs)) ≡ only_of test all (cond b (Some i) (position_from test (i + 1) xs))
    by_test true h' = ap (λ (b : Bool). if b then None else Some i) again
    by_test false h' = h'

same_only : (name : List ℕ) (fields : List FieldInfo) (found : Option ℕ) → only_of (is_field_of name) fields found ≡ only_at name fields found
same_only name fields None = refl
same_only name fields (Some found) = refl

pub only_is : (name : List ℕ) (fields : List FieldInfo) → only_place (seen_from (is_field_of name) 0 fields) ≡ only_field name fields
only_is name fields =
    only_left (is_field_of name) fields 0 fields refl ∙ ap (only_of (is_field_of name) fields) (sym (position_from-zero (is_field_of name) fields))
    ∙ same_only name fields (position (is_field_of name) fields)

-- ---- an entry by what is seen of its name

by_place : (class : ℕ) (seen : Option Seen) → option_map (λ (s : Seen). method_id class s.place) seen ≡ option_map (method_id class) (option_map (λ (s : Seen). s.place) seen)
by_place class None = refl
by_place class (Some seen) = refl

pub entry_found : (files : World) (name : List ℕ) (class : ℕ) → is_interface files class ≡ false → option_map (λ (s : Seen). method_id class s.place) (entry_seen files name class) ≡ entry_in files name class
entry_found files name class no_interface =
    by_place class (entry_seen files name class)
    ∙ ap (option_map (method_id class)) (first_place (is_entry_of name) 0 (methods_of files class) ∙ sym (position_from-zero (is_entry_of name) (methods_of files class)))
    ∙ sym (ap (λ (b : Bool). if b then None else declared_method files (is_entry_of name) class) no_interface)

pub no_entry : (files : World) (name : List ℕ) (class : ℕ) → is_interface files class ≡ true → None ≡ entry_in files name class
no_entry files name class interface = sym (ap (λ (b : Bool). if b then None else declared_method files (is_entry_of name) class) interface)

-- ---- a class that has no file, and one that has

pub no_entries : (files : World) (name : List ℕ) (class : ℕ) → None ≡ file_of files class → None ≡ entry_seen files name class
no_entries files name class none = by_test (nat_lt class 4)
  where
    by_test : (b : Bool) → None ≡ seen_from (is_entry_of name) 0 (if b then built_in_constructor ∷ [] else methods_in (file_of files class))
    by_test true = refl
    by_test false = ap (λ (file : Option ClassInfo). seen_from (is_entry_of name) 0 (methods_in file)) none

pub entries_of : (files : World) (name : List ℕ) (class : ℕ) (file : ClassInfo) → Some file ≡ file_of files class → seen_from (is_entry_of name) 0 file.methods ≡ entry_seen files name class
entries_of files name class file is = by_test (nat_lt class 4) is
  where
    by_test : (b : Bool) → Some file ≡ (if b then None else slice_get files (class - 4))
        → seen_from (is_entry_of name) 0 file.methods ≡ seen_from (is_entry_of name) 0 (if b then built_in_constructor ∷ [] else methods_in (file_of files class))
    by_test true none = absurd cc
    by_test false some = ap (λ (f : Option ClassInfo). seen_from (is_entry_of name) 0 (methods_in f)) is

pub no_fields : (files : World) (name : List ℕ) (class : ℕ) → None ≡ file_of files class → None ≡ field_seen files name class
no_fields files name class none = ap (λ (file : Option ClassInfo). seen_from (is_field_of name) 0 (fields_in file)) none

pub fields_are : (files : World) (name : List ℕ) (class : ℕ) (file : ClassInfo) → Some file ≡ file_of files class → seen_from (is_field_of name) 0 file.fields ≡ field_seen files name class
fields_are files name class file is = ap (λ (f : Option ClassInfo). seen_from (is_field_of name) 0 (fields_in f)) is

no_file : (files : World) (class : ℕ) → count files ≤ class → None ≡ file_of files class
no_file files class past =
    let built_in : nat_lt class 4 ≡ false = le-ltb class 4 (omega arith) in
    let behind : length files ≤ class - 4 = omega arith in
    sym (ap (λ (b : Bool). if b then None else slice_get files (class - 4)) built_in ∙ slice_get_past files (class - 4) behind)

-- ---- tables, one class more at a time

pushed_before : {A : Type 0} (xs : List A) (x : A) (k : ℕ) → k < length xs → slice_get (xs ++ x ∷ []) k ≡ slice_get xs k
pushed_before [] x k h = absurd (omega arith)
pushed_before (y ∷ xs) x zero h = refl
pushed_before (y ∷ xs) x (suc k) h = let inside : k < length xs = omega arith in pushed_before xs x k inside

pushed_at : {A : Type 0} (xs : List A) (x : A) → slice_get (xs ++ x ∷ []) (length xs) ≡ Some x
pushed_at [] x = refl
pushed_at (y ∷ xs) x = pushed_at xs x

-- the tables of the first classes
pub record AreFor (seen : List ℕ → ℕ → Option Seen) (n : ℕ) (tables : List Names) : Type 0 where
  pub all : length tables ≡ n
  pub each : (name : List ℕ) (class : ℕ) → class < n → seen_of tables name class ≡ seen name class

pub table_more : (seen : List ℕ → ℕ → Option Seen) (n : ℕ) (tables : List Names) (names : Names) → AreFor seen n tables → ((name : List ℕ) → seen_in names name ≡ seen name n) → AreFor seen (n + 1) (tables ++ names ∷ [])
table_more seen n tables names so_far are = record {
  all = length-append tables (names ∷ []) ∙ ap (λ (k : ℕ). k + 1) so_far.all;
  each = λ name class below. ⊎_elim
      (λ before.
      let inside : class < length tables = omega (arith, so_far.all) in
      ap (λ (o : Option Names). option_and_then (λ ns. seen_in ns name) o) (pushed_before tables names class inside) ∙ so_far.each name class before)
      (λ past.
      let here : class ≡ length tables = omega (arith, so_far.all) in
      let this : n ≡ class = omega arith in
      ap (λ (o : Option Names). option_and_then (λ ns. seen_in ns name) o) (ap (slice_get (tables ++ names ∷ [])) here ∙ pushed_at tables names) ∙ are name ∙ ap (seen name) this)
      (cases_lt class n);
}

pub all_tables : (seen : List ℕ → ℕ → Option Seen) (files : World) (n : ℕ) (tables : List Names) → count files ≤ n → n ≤ count files → ((name : List ℕ) (class : ℕ) → None ≡ file_of files class → None ≡ seen name class) → AreFor seen n tables → AreTables seen tables
all_tables seen files n tables past within none are = λ name class.
    ⊎_elim
    (λ before. are.each name class before)
    (λ beyond.
    let outside : length tables ≤ class = omega (arith, are.all) in
    let no_class : count files ≤ class = omega arith in
    ap (λ (o : Option Names). option_and_then (λ ns. seen_in ns name) o) (slice_get_past tables class outside) ∙ none name class (no_file files class no_class))
    (cases_lt class n)
