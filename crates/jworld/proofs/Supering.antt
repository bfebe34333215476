-- The lists of what stands directly above each class, and the ways along them.
use Rattle.std.proofs.Common.{◌≡◌, ℕ, zero, suc, ◌+◌, ◌-◌, ◌<◌, ◌≤◌, Bool, true, false, nat_lt, List, [], ◌∷◌, ◌++◌, map, take, length, All, Contains, Option, Some, None, option_and_then, option_to_list, position, filter_map, slice_get, bytes_eq, refl, sym, ap, subst, ⊎_elim, arith, ltb-true, get_or}
use Rattle.std.specs.List.{cons_option, position_or_len}
use Rattle.std.proofs.lemmas.Bool.{cases_Bool, both_ways}
use Rattle.std.proofs.lemmas.List.{take_more, length-map, get_or_past}
use Rattle.std.proofs.lemmas.List.Elements.{All-append, All-nil, All-cons, All-from_get_or, filter_map-append}
use Rattle.classfile.specs.ClassFile.{ClassInfo}
use Rattle.jworld.specs.Classes.{World, count, names, class_named, super_of, built_in_super, interfaces_in, interfaces_of, file_of}
use Rattle.jworld.specs.Ways.{Way, leads}
use Rattle.jworld.specs.Ways.Way.{Step, Further}
use Rattle.jworld.specs.Edges.{graph_of, AreWithin, IsClosure}
use Rattle.jworld.specs.Row.{reaches}
use Rattle.jworld.specs.Above.{supers_of, is_above, TellsAbove}
use Rattle.jworld.proofs.Ways.{Way-is_leads}
use Rattle.jworld.proofs.NoSupers.{supers_past}

-- ---- one more of a list that some map to nothing

cons_none : {B : Type 0} (o : Option B) → cons_option o [] ≡ option_to_list o
cons_none None = refl
cons_none (Some x) = refl

pub filter_map-more : {A B : Type 0} (h : A → Option B) (xs : List A) (i : ℕ) (d : A) → i < length xs → filter_map h (take (i + 1) xs) ≡ filter_map h (take i xs) ++ option_to_list (h (get_or xs i d))
filter_map-more h xs i d within = rw (take_more xs i d within, filter_map-append h, ← cons_none (h (get_or xs i d))) refl

pub filter_map-map : {A B C : Type 0} (h : B → Option C) (f : A → B) (xs : List A) → filter_map (λ x. h (f x)) xs ≡ filter_map h (map f xs)
filter_map-map h f [] = refl
filter_map-map h f (x ∷ xs) = ap (λ ys. cons_option (h (f x)) ys) (filter_map-map h f xs)

cons_is : {B : Type 0} (o : Option B) (xs : List B) → cons_option o xs ≡ option_to_list o ++ xs
cons_is None xs = refl
cons_is (Some x) xs = refl

-- ---- what stands directly above a class is a class

position_within : {A : Type 0} (test : A → Bool) (xs : List A) (n : ℕ) → position test xs ≡ Some n → n < length xs
position_within test xs n is =
    ⊎_elim
    (λ inside.
    let found : Some (position_or_len test xs) ≡ Some n = rw inside at is in
    let place : position_or_len test xs ≡ n = cc in
    rw (← place) (ltb-true _ _ inside))
    (λ past. let none : None ≡ Some n = rw past at is in cc)
    (cases_Bool (nat_lt (position_or_len test xs) (length xs)))

named_within : (files : World) (name : List ℕ) (n : ℕ) → class_named files name ≡ Some n → n < count files
named_within files name n is =
    let below : n < length (names files) = position_within (bytes_eq name) (names files) n is in
    let same : length (map (λ (file : ClassInfo). file.name) files) ≡ length files = length-map files (λ file. file.name) in
    omega (arith, below, same)

built_in_within : (m n : ℕ) → m < 4 → built_in_super m ≡ Some n → n < 4
built_in_within zero n small is = cc
built_in_within (suc m) n small is = let e : m ≡ n = cc in omega arith

super_in_within : (files : World) (file : Option ClassInfo) (n : ℕ) → option_and_then (λ f. class_named files f.super_name) file ≡ Some n → n < count files
super_in_within files None n is = cc
super_in_within files (Some file) n is = named_within files file.super_name n is

super_within : (files : World) (class n : ℕ) → super_of files class ≡ Some n → n < count files
super_within files class n is =
    ⊎_elim
    (λ built_in. let is' : built_in_super class ≡ Some n = rw built_in at is in let small : n < 4 = built_in_within class n (ltb-true class 4 built_in) is' in omega arith)
    (λ of_file. super_in_within files (slice_get files (class - 4)) n (rw of_file at is))
    (cases_Bool (nat_lt class 4))

All-option : (bound : ℕ) (o : Option ℕ) → ((n : ℕ) → o ≡ Some n → n < bound) → All (λ n. n < bound) (option_to_list o)
All-option bound None below = All-nil (λ n. n < bound)
All-option bound (Some n) below = All-cons (λ n. n < bound) n [] (below n refl) (All-nil (λ n. n < bound))

All-named : (files : World) (names' : List (List ℕ)) → All (λ n. n < count files) (filter_map (class_named files) names')
All-named files [] = All-nil (λ n. n < count files)
All-named files (name ∷ names') =
    let rest = filter_map (class_named files) names' in
    rw (cons_is (class_named files name) rest)
    (All-append (λ n. n < count files) (option_to_list (class_named files name)) rest (All-option (count files) (class_named files name) (named_within files name)) (All-named files names'))

All-interfaces : (files : World) (file : Option ClassInfo) → All (λ n. n < count files) (interfaces_in files file)
All-interfaces files None = All-nil (λ n. n < count files)
All-interfaces files (Some file) = All-named files file.interfaces

pub All-supers : (files : World) (class : ℕ) → All (λ n. n < count files) (supers_of files class)
All-supers files class =
    All-append (λ n. n < count files) (option_to_list (super_of files class)) (interfaces_of files class) (All-option (count files) (super_of files class) (super_within files class))
    (All-interfaces files (file_of files class))

same_from_both : (a b : Bool) → (a ≡ true → b ≡ true) → (b ≡ true → a ≡ true) → a ≡ b
same_from_both true true to from = refl
same_from_both true false to from = absurd (both_ways false refl (to refl))
same_from_both false true to from = absurd (both_ways false refl (from refl))
same_from_both false false to from = refl

-- ---- lists that have what stands directly above each class

pub graph_past : (edges : List (List ℕ)) (class : ℕ) → length edges ≤ class → graph_of edges class ≡ []
graph_past edges class past = get_or_past edges class [] past

module _ (files : World) (edges : List (List ℕ)) (same : (class : ℕ) → graph_of edges class ≡ supers_of files class) where
  pub AreWithin-from_supers : length edges ≡ count files → AreWithin edges
  AreWithin-from_supers all =
      let Within : ℕ → List ℕ → Type 0 = λ bound nexts. All (λ next. next < bound) nexts in
      All-from_get_or (Within (length edges)) edges []
      (λ class within. rw (same class, all) (All-supers files class))

  up : (class above : ℕ) → Way (graph_of edges) class above → Way (supers_of files) class above
  up class above (Step class' above' step) = Step class above (subst (λ (xs : List ℕ). Contains xs above) (same class) step)
  up class above (Further class' next above' step way) = Further class next above (subst (λ (xs : List ℕ). Contains xs next) (same class) step) (up next above way)

  along : (class above : ℕ) → Way (supers_of files) class above → Way (graph_of edges) class above
  along class above (Step class' above' step) = Step class above (subst (λ (xs : List ℕ). Contains xs above) (sym (same class)) step)
  along class above (Further class' next above' step way) = Further class next above (subst (λ (xs : List ℕ). Contains xs next) (sym (same class)) step) (along next above way)

  pub TellsAbove-from_closure : (rows : List (List ℕ)) → IsClosure (graph_of edges) (reaches rows) → TellsAbove files rows
  unfolding is_above
  TellsAbove-from_closure rows closure class above =
      let ways = Way-is_leads (supers_of files) (count files) (supers_past files) class above in
      same_from_both (reaches rows class above) (leads (count files) (supers_of files) class above)
      (λ set. ways.0 (up class above ((closure class above).1 set)))
      (λ leads'. (closure class above).0 (along class above (ways.1 leads')))
