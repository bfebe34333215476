-- The refusal of class files that are no world names one of them.
use Rattle.std.proofs.Common.{◌≡◌, ◌⊎◌, inl, inr, ℕ, ◌+◌, ◌<◌, Bool, true, false, true≢false, List, [], ◌∷◌, length, Option, Some, None, Result, Ok, Err, refl, sym, ap, ◌∙◌, arith}
use Rattle.std.specs.Prelude.{is_none, unwrap_or, IfErr}
use Rattle.std.specs.Result.{is_err}
use Rattle.classfile.specs.ClassFile.{ClassInfo, MethodInfo}
use Rattle.kes_text.specs.Answers.{OrNoMemory}
use Rattle.kes_text.specs.declared.refusal.Kind.{Kind}
use Rattle.kes_text.specs.declared.refusal.Kind.TheVariants as kind
use Rattle.kes_text.specs.declared.refusal.Refusal.{Refusal}
use Rattle.kes_text.specs.declared.refusal.Stop.{Stop}
use Rattle.kes_text.specs.declared.refusal.Stop.TheVariants.{Refused, NoMemory}
use Rattle.jworld.specs.Classes.{World, class_named}
use Rattle.jworld.specs.Packages.{is_split}
use Rattle.jworld.specs.Fields.{or_else}
use Rattle.jworld.specs.Faults.{refusal, first_from, refused_if, duplicate_fault, kind_of_super, refusal_of, super_fault, interface_fault, supers_fault, cycle_fault, split_in, split_fault, large_fault, first_of_files, misfit, world_fault, unless, world_of, IsOfFile}

-- what is found is found by the one or by the other
either : (one other : Option Refusal) (r : Refusal) → or_else one other ≡ Some r → (one ≡ Some r) ⊎ (other ≡ Some r)
either None other r e = inr e
either (Some found) other r e = inl e

nothing : {X : Type 0} (r : Refusal) → None ≡ Some r → X
nothing r e = absurd (true≢false (ap is_none e))

-- a fault of file i names it
abbrev Names : ℕ → Option Refusal → Type 0
Names i fault = (r : Refusal) → fault ≡ Some r → r.file ≡ i

none_names : (i : ℕ) → Names i None
none_names i r e = nothing r e

some_names : (i : ℕ) (found : Refusal) → found.file ≡ i → Names i (Some found)
some_names i found is r e = ap (λ o. (unwrap_or o found).file) (sym e) ∙ is

either_names : (i : ℕ) (one other : Option Refusal) → Names i one → Names i other → Names i (or_else one other)
either_names i one other first second r e = elim (either one other r e) [ inl is ↦ first r is | inr is ↦ second r is ]

if_names : (i : ℕ) (holds : Bool) (kind : Kind) (place : ℕ) → Names i (refused_if holds (refusal i kind place))
if_names i true kind place = some_names i (refusal i kind place) refl
if_names i false kind place = none_names i

of_kind_names : (i place : ℕ) (found : Option Kind) → Names i (refusal_of i place found)
of_kind_names i place None = none_names i
of_kind_names i place (Some kind) = some_names i (refusal i kind place) refl

interfaces_name : (files : World) (i place : ℕ) (names : List (List ℕ)) → Names i (interface_fault files i place names)
interfaces_name files i place [] = none_names i
interfaces_name files i place (name ∷ names) =
    either_names i (super_fault files i true name place) (interface_fault files i (place + 2) names)
    (of_kind_names i place (kind_of_super files true (class_named files name))) (interfaces_name files i (place + 2) names)

splits_name : (files : World) (i : ℕ) (methods : List MethodInfo) → Names i (split_in files i methods)
splits_name files i [] = none_names i
splits_name files i (method ∷ methods) =
    either_names i (refused_if (is_split files (4 + i) method) (refusal i kind.SplitPackage method.at)) (split_in files i methods)
    (if_names i (is_split files (4 + i) method) kind.SplitPackage method.at) (splits_name files i methods)

-- the first fault of files that are numbered from i on
of_files : (fault : ℕ → ClassInfo → Option Refusal) → ((i : ℕ) (file : ClassInfo) → Names i (fault i file)) → (i : ℕ) (files : List ClassInfo) (r : Refusal)
    → first_from fault i files ≡ Some r → r.file < i + length files
of_files fault names i [] r e = nothing r e
of_files fault names i (file ∷ files) r e =
    elim (either (fault i file) (first_from fault (i + 1) files) r e) [
      | inl here ↦ (let is = names i file r here in omega (arith, is))
      | inr later ↦ (let below = of_files fault names (i + 1) files r later in omega (arith, below))
    ]

of_all : (fault : ℕ → ClassInfo → Option Refusal) → ((i : ℕ) (file : ClassInfo) → Names i (fault i file)) → (files : List ClassInfo) (r : Refusal)
    → first_from fault 0 files ≡ Some r → r.file < length files
of_all fault names files r e = let below = of_files fault names 0 files r e in omega (arith, below)

misfit_is : (files : List ClassInfo) (r : Refusal) → misfit files ≡ Some r → r.file < length files
misfit_is files r e =
    elim (either (first_of_files supers_fault files) (or_else (first_of_files cycle_fault files) (or_else (first_of_files split_fault files) (first_of_files large_fault files))) r e) [
      | inl found ↦ of_all (supers_fault files) (λ i file. either_names i (super_fault files i false file.super_name file.super_at) (interface_fault files i (file.super_at + 4) file.interfaces)
          (of_kind_names i file.super_at (kind_of_super files false (class_named files file.super_name))) (interfaces_name files i (file.super_at + 4) file.interfaces)) files r found
      | inr more ↦ elim (either (first_of_files cycle_fault files) (or_else (first_of_files split_fault files) (first_of_files large_fault files)) r more) [
        | inl found ↦ of_all (cycle_fault files) (λ i file. if_names i _ kind.SuperCycle 0) files r found
        | inr rest ↦ elim (either (first_of_files split_fault files) (first_of_files large_fault files) r rest) [
          | inl found ↦ of_all (split_fault files) (λ i file. splits_name files i file.methods) files r found
          | inr found ↦ of_all (large_fault files) (λ i file. if_names i _ kind.Large 0) files r found
        ]
      ]
    ]

fault_is : (files : List ClassInfo) (r : Refusal) → world_fault files ≡ Some r → r.file < length files
unfolding world_fault
fault_is files r e =
    elim (either (first_of_files duplicate_fault files) (misfit files) r e) [
      | inl found ↦ of_all (duplicate_fault files) (λ i file. if_names i _ kind.Duplicate 0) files r found
      | inr found ↦ misfit_is files r found
    ]

abbrev refused_for : Result World Stop → Refusal → Refusal
refused_for (Err (Refused fault)) other = fault
refused_for _ other = other

by_fault : (files : List ClassInfo) (fault : Option Refusal) (r : Refusal) → world_fault files ≡ fault → Err (Refused r) ≡ unless fault files → r.file < length files
by_fault files None r is e = absurd (true≢false (ap is_err e))
by_fault files (Some fault) r is e = fault_is files r (is ∙ ap Some (sym (ap (λ answer. refused_for answer r) e)))

pub names_a_file : (files : List ClassInfo) (answer : Result World Stop) → OrNoMemory answer (world_of files) → IfErr answer (IsOfFile (length files))
names_a_file files (Ok world) is = tt
names_a_file files (Err (Refused r)) is = by_fault files (world_fault files) r refl is
names_a_file files (Err NoMemory) is = tt
