-- What is found of the fields and methods of classes.
use Rattle.std.proofs.Common.{◌≡◌, ℕ, ◌+◌, ◌-◌, ◌<◌, ◌≤◌, Bool, true, false, not, ◌&&◌, cond, ltb, List, [], ◌∷◌, ◌++◌, length, get_or, Option, Some, None, option_map, position, nat_lt, slice_get, slice_index_or, refl, sym, ap, subst, ◌∙◌, ⊎_elim, arith, le-ltb}
use Rattle.std.specs.List.{prefix_len}
use Rattle.std.proofs.lemmas.Bool.{cases_lt}
use Rattle.std.proofs.lemmas.List.{get_or_past, get_or_push, get_or_append_left, length-append}
use Rattle.std.proofs.lemmas.Option.{slice_get_past}
use Rattle.std.proofs.lemmas.Iterator.Adapters.{position_from-zero}
use Rattle.classfile.specs.ClassFile.{ClassInfo, FieldInfo, MethodInfo}
use Rattle.jnames.specs.declared.keys.MethodKey.{MethodKey}
use Rattle.jworld.specs.declared.found.Wanted.{Wanted}
use Rattle.jworld.specs.declared.found.Wanted.TheVariants as wanted
use Rattle.jworld.specs.Classes.{World, count, file_of}
use Rattle.jworld.specs.Members.{fields_in, fields_of, methods_in, methods_of, method_id, is_method, is_inherited, is_abstract, declared_method}
use Rattle.jworld.specs.Methods.{concrete_method}
use Rattle.jworld.specs.Keyed.{Keyed, AreFirst}
use Rattle.jworld.specs.Found.{Found, nothing, is_field_named, is_method_named, method_in, TellsMembers, TellsAllMembers}

-- ---- one file

pub tells : (fields : List FieldInfo) (methods : List MethodInfo) (a b c d : Keyed) → AreFirst is_field_named a 0 fields → AreFirst (is_method_named wanted.Any) b 0 methods
    → AreFirst (is_method_named wanted.Inherited) c 0 methods → AreFirst (is_method_named wanted.Concrete) d 0 methods
    → TellsMembers fields methods (record { fields = a; methods = b; inherited = c; concrete = d })
tells fields methods a b c d are_fields any inherited concrete = record {
  fields = λ name descriptor. are_fields name descriptor ∙ sym (position_from-zero (is_field_named name descriptor) fields);
  methods = by;
}
  where
    by : (which : Wanted) (name descriptor : List ℕ) → method_in which (record { fields = a; methods = b; inherited = c; concrete = d }) name descriptor ≡ position (is_method_named which name descriptor) methods
    by wanted.Any name descriptor = any name descriptor ∙ sym (position_from-zero (is_method_named wanted.Any name descriptor) methods)
    by wanted.Inherited name descriptor = inherited name descriptor ∙ sym (position_from-zero (is_method_named wanted.Inherited name descriptor) methods)
    by wanted.Concrete name descriptor = concrete name descriptor ∙ sym (position_from-zero (is_method_named wanted.Concrete name descriptor) methods)

tells_nothing : TellsMembers [] [] nothing
tells_nothing = record { fields = λ name descriptor. refl; methods = by }
  where
    by : (which : Wanted) (name descriptor : List ℕ) → method_in which nothing name descriptor ≡ position (is_method_named which name descriptor) []
    by wanted.Any name descriptor = refl
    by wanted.Inherited name descriptor = refl
    by wanted.Concrete name descriptor = refl

-- a class without a file
pub tells_none : (files : World) (class : ℕ) → file_of files class ≡ None → TellsMembers (fields_of files class) (methods_in (file_of files class)) nothing
tells_none files class none = subst (λ (file : Option ClassInfo). TellsMembers (fields_in file) (methods_in file) nothing) (sym none) tells_nothing

pub tells_some : (files : World) (class : ℕ) (file : ClassInfo) (found : Found) → Some file ≡ file_of files class → TellsMembers file.fields file.methods found
    → TellsMembers (fields_of files class) (methods_in (file_of files class)) found
tells_some files class file found is tells = subst (λ (f : Option ClassInfo). TellsMembers (fields_in f) (methods_in f) found) is tells

-- ---- all files

file_past : (files : World) (class : ℕ) → count files ≤ class → file_of files class ≡ None
file_past files class past =
    let is_file : ltb class 4 ≡ false = le-ltb class 4 (omega arith) in
    let no_file : slice_get files (class - 4) ≡ None = slice_get_past files (class - 4) (omega arith) in
    rw (is_file, no_file) refl

abbrev Tells : World → ℕ → Found → Type 0
Tells files class found = TellsMembers (fields_of files class) (methods_in (file_of files class)) found

-- those below a number
abbrev pub TellsBelow : World → ℕ → List Found → Type 0
TellsBelow files n all = (class : ℕ) → class < n → Tells files class (slice_index_or all class nothing)

pub longer : (all : List Found) (found : Found) (n : ℕ) → length all ≡ n → length (all ++ found ∷ []) ≡ n + 1
longer all found n long = rw (length-append, long) refl

pub one_more : (files : World) (n : ℕ) (all : List Found) (found : Found) → length all ≡ n → TellsBelow files n all → Tells files n found → TellsBelow files (n + 1) (all ++ found ∷ [])
one_more files n all found long so_far here class below =
    ⊎_elim
    (λ before. subst (λ (f : Found). Tells files class f) (sym (get_or_append_left all (found ∷ []) nothing class (omega (arith, long)))) (so_far class before))
    (λ past.
    let is : n ≡ class = omega arith in
    let last : get_or (all ++ found ∷ []) n nothing ≡ found = get_or_push all found nothing n long in
    subst (λ (c : ℕ). Tells files c (slice_index_or (all ++ found ∷ []) c nothing)) is (subst (λ (f : Found). Tells files n f) (sym last) here))
    (cases_lt class n)

pub tells_all : (files : World) (n : ℕ) (all : List Found) → length all ≡ n → count files ≤ n → TellsBelow files n all → TellsAllMembers files all
tells_all files n all long whole below class =
    ⊎_elim (below class)
    (λ past.
    let none : slice_index_or all class nothing ≡ nothing = get_or_past all class nothing (omega (arith, long)) in
    subst (λ (f : Found). Tells files class f) (sym none) (tells_none files class (file_past files class (omega arith))))
    (cases_lt class n)

-- ---- methods of a class

prefix_same : {A : Type 0} (s t : A → Bool) → ((x : A) → s x ≡ t x) → (xs : List A) → prefix_len s xs ≡ prefix_len t xs
prefix_same s t same [] = refl
prefix_same s t same (x ∷ xs) = rw (same x) (ap (λ (n : ℕ). cond (t x) (1 + n) 0) (prefix_same s t same xs))

position_same : {A : Type 0} (s t : A → Bool) → ((x : A) → s x ≡ t x) → (xs : List A) → position s xs ≡ position t xs
position_same s t same xs =
    ap (λ (n : ℕ). cond (nat_lt n (length xs)) (Some n) None) (prefix_same (λ x. not (s x)) (λ x. not (t x)) (λ x. ap not (same x)) xs)

declared_same : (files : World) (s t : MethodInfo → Bool) (class : ℕ) → ((m : MethodInfo) → s m ≡ t m) → declared_method files s class ≡ declared_method files t class
declared_same files s t class same = ap (option_map (method_id class)) (position_same s t same (methods_of files class))

and_true : (b : Bool) → (b && true) ≡ b
and_true true = refl
and_true false = refl

and_later : (a b c : Bool) → (a && (b && c)) ≡ (a && b && c)
and_later true b c = refl
and_later false b c = refl

pub declared_any : (files : World) (key : MethodKey) (class : ℕ) → declared_method files (is_method_named wanted.Any key.name key.descriptor) class ≡ declared_method files (is_method key) class
declared_any files key class = declared_same files (is_method_named wanted.Any key.name key.descriptor) (is_method key) class (λ m. and_true (is_method key m))

pub declared_concrete : (files : World) (key : MethodKey) (class : ℕ) → declared_method files (is_method_named wanted.Concrete key.name key.descriptor) class ≡ concrete_method files key class
declared_concrete files key class =
    declared_same files (is_method_named wanted.Concrete key.name key.descriptor) (λ m. is_method key m && is_inherited m && not (is_abstract m)) class
    (λ m. and_later (is_method key m) (is_inherited m) (not (is_abstract m)))
