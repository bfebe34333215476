-- Where no line has a fault, each line has its member.
use Rattle.std.proofs.Common.{◌≡◌, ℕ, zero, suc, ◌+◌, Bool, true, false, cond, not, ◌&&◌, ◌||◌, List, [], ◌∷◌, ◌++◌, map, slice_get, position, Option, Some, None, is_some, option_map, Result, Ok, Err, IfOk, refl, sym, ap, subst, ◌∙◌, arith, eq-eqb, zero-add}
use Rattle.std.specs.Option.{option_and_then}
use Rattle.std.specs.List.{filter_map, flat_map, cons_option, list_any, position_from}
use Rattle.std.proofs.lemmas.Bool.{both_ways}
use Rattle.std.proofs.lemmas.Option.{none-some, same_Some}
use Rattle.std.proofs.lemmas.Iterator.Adapters.{position_from-zero}
use Rattle.std.proofs.lemmas.Slice.Eq.{bytes_eq-Decides}
use Rattle.kes_text.specs.declared.refusal.Kind.{Kind}
use Rattle.kes_text.specs.declared.refusal.Kind.TheVariants as kind
use Rattle.kes_text.specs.declared.refusal.Refusal.{Refusal}
use Rattle.kes_text.specs.declared.refusal.Stop.{Stop}
use Rattle.kes_text.specs.declared.refusal.Stop.TheVariants.{Refused}
use Rattle.kes_text.specs.Answers.{OrNoMemory}
use Rattle.jworld.specs.Classes.{World}
use Rattle.kconfig.specs.declared.config.Config.{Config}
use Rattle.kconfig.specs.declared.config.CellLine.{CellLine}
use Rattle.kconfig.specs.declared.config.ObjectLine.{ObjectLine}
use Rattle.kconfig.specs.declared.config.TaskLine.{TaskLine}
use Rattle.kconfig.specs.declared.config.NativeLine.{NativeLine}
use Rattle.kconfig.specs.declared.config.DeviceLine.{DeviceLine}
use Rattle.kconfig.specs.declared.config.PortalLine.{PortalLine}
use Rattle.kbind.specs.declared.bound.Bound.{Bound}
use Rattle.kbind.specs.Shown.{class_shown}
use Rattle.kbind.specs.Methods.{declared_methods}
use Rattle.kbind.specs.Natives.{native_named}
use Rattle.kbind.specs.Cells.{cell_parts, cell_in, cell_named, is_cell_of, is_that, is_mapped_class, opens_class, cell_holds}
use Rattle.kbind.specs.Objects.{class_id, object_class, object_holds, device_named}
use Rattle.kbind.specs.Portals.{portal_named}
use Rattle.kbind.specs.Bound.{unless, entry_of, entry_faults, native_faults, cell_faults, object_faults, device_faults, portal_faults, class_faults, method_faults, faults, earliest, members, unless_fault, bound_of, is_of_mapped_class, IsBound}

and_left : (a b : Bool) → (a && b) ≡ true → a ≡ true
and_left true b h = refl
and_left false b h = h

-- a line without a fault keeps its rule, and the others have none
unless_holds : (holds : Bool) (k : Kind) (n : ℕ) (rest : List Refusal) → unless holds k n ++ rest ≡ [] → (holds ≡ true) × (rest ≡ [])
unless_holds true k n rest h = (refl, h)
unless_holds false k n rest h = absurd cc

no_append : {A : Type 0} (xs ys : List A) → xs ++ ys ≡ [] → (xs ≡ []) × (ys ≡ [])
no_append [] ys h = (refl, h)
no_append (x ∷ xs) ys h = absurd cc

-- a line's member comes first
member_first : {A : Type 0} (found : Option A) (ms : List A) (fs : List (Option A)) → is_some found ≡ true → map (λ x. Some x) ms ≡ fs → map (λ x. Some x) (cons_option found ms) ≡ found ∷ fs
member_first None ms fs h e = absurd cc
member_first {A} (Some x) ms fs h e = ap (λ (r : List (Option A)). Some x ∷ r) e

each_named : {L A : Type 0} (named : L → Option A) (k : Kind) (at : L → ℕ) (lines : List L) → flat_map (λ line. unless (is_some (named line)) k (at line)) lines ≡ []
    → map (λ x. Some x) (filter_map named lines) ≡ map named lines
each_named named k at [] h = refl
each_named {L} named k at (line ∷ lines) h =
    let p = unless_holds (is_some (named line)) k (at line) (flat_map (λ (x : L). unless (is_some (named x)) k (at x)) lines) h in
    member_first (named line) (filter_map named lines) (map named lines) p.0 (each_named named k at lines p.1)

each_cell : (files : World) (cells : List CellLine) (n : ℕ) (lines : List CellLine) → cell_faults files cells n lines ≡ []
    → map (λ x. Some x) (filter_map (cell_named files) lines) ≡ map (cell_named files) lines
each_cell files cells n [] h = refl
each_cell files cells n (line ∷ lines) h =
    let p = unless_holds (cell_holds files cells n line) kind.BadMapped line.line (cell_faults files cells (n + 1) lines) h in
    let some = and_left (is_some (cell_named files line)) (opens_class files cells n (cell_parts line.field).0) p.0 in
    member_first (cell_named files line) (filter_map (cell_named files) lines) (map (cell_named files) lines) some (each_cell files cells (n + 1) lines p.1)

and_then_some : {A B : Type 0} (f : A → Option B) (o : Option A) → is_some (option_and_then f o) ≡ true → is_some o ≡ true
and_then_some f None h = h
and_then_some f (Some x) h = refl

mapped_some : {A B : Type 0} (f : A → B) (o : Option A) → is_some o ≡ true → is_some (option_map f o) ≡ true
mapped_some f None h = h
mapped_some f (Some x) h = refl

-- the class of a cell line that has its field is there
shown_by_cell : (files : World) (class : List ℕ) (line : CellLine) → is_cell_of class line ≡ true → is_some (cell_named files line) ≡ true → is_some (class_shown files class) ≡ true
shown_by_cell files class line e some =
    let same : class ≡ (cell_parts line.field).0 = (bytes_eq-Decides class (cell_parts line.field).0).0 e in
    ap (λ (word : List ℕ). is_some (class_shown files word)) same
    ∙ and_then_some (cell_in files line.width (cell_parts line.field).1) (class_shown files (cell_parts line.field).0) some

shown_class : (files : World) (cells : List CellLine) (class : List ℕ) (n : ℕ) (lines : List CellLine) → cell_faults files cells n lines ≡ [] → list_any (is_cell_of class) lines ≡ true
    → is_some (class_shown files class) ≡ true
shown_class files cells class n [] h any = absurd cc
shown_class files cells class n (line ∷ lines) h any =
    let p = unless_holds (cell_holds files cells n line) kind.BadMapped line.line (cell_faults files cells (n + 1) lines) h in
    let some = and_left (is_some (cell_named files line)) (opens_class files cells n (cell_parts line.field).0) p.0 in
    by_test (is_cell_of class line) refl any (shown_by_cell files class line) some (shown_class files cells class (n + 1) lines p.1)
  where
    by_test : (b : Bool) → is_cell_of class line ≡ b → (b || list_any (is_cell_of class) lines) ≡ true
        → (is_cell_of class line ≡ true → is_some (cell_named files line) ≡ true → is_some (class_shown files class) ≡ true) → is_some (cell_named files line) ≡ true
        → (list_any (is_cell_of class) lines ≡ true → is_some (class_shown files class) ≡ true) → is_some (class_shown files class) ≡ true
    by_test true e any here some behind = here e some
    by_test false e any here some behind = behind any

each_object : (files : World) (size : ℕ) (cells : List CellLine) (objects : List ObjectLine) (n : ℕ) (lines : List ObjectLine)
    → ((class : List ℕ) → list_any (is_cell_of class) cells ≡ true → is_some (class_shown files class) ≡ true) → object_faults size cells objects n lines ≡ []
    → map (λ x. Some x) (filter_map (object_class files) lines) ≡ map (object_class files) lines
each_object files size cells objects n [] shown h = refl
each_object files size cells objects n (line ∷ lines) shown h =
    let p = unless_holds (object_holds size cells objects n line) kind.BadMapped line.line (object_faults size cells objects (n + 1) lines) h in
    let has_cell = and_left (list_any (is_cell_of line.class) cells) _ (and_left _ _ p.0) in
    let some = mapped_some class_id (class_shown files line.class) (shown line.class has_cell) in
    member_first (object_class files line) (filter_map (object_class files) lines) (map (object_class files) lines) some (each_object files size cells objects (n + 1) lines shown p.1)

-- ---- the rules of cell lines and of object lines, by the number of the line

here : (i : ℕ) → i ≡ i + zero
here i = omega arith

behind : (i n : ℕ) → (i + 1) + n ≡ i + suc n
behind i n = omega arith

cell_keeps : (files : World) (cells : List CellLine) (i : ℕ) (lines : List CellLine) → cell_faults files cells i lines ≡ [] → (n : ℕ) (line : CellLine) → slice_get lines n ≡ Some line
    → cell_holds files cells (i + n) line ≡ true
cell_keeps files cells i [] h n line is = absurd (none-some line is)
cell_keeps files cells i (first ∷ lines) h zero line is =
    let p = unless_holds (cell_holds files cells i first) kind.BadMapped first.line (cell_faults files cells (i + 1) lines) h in
    subst (λ (x : CellLine). cell_holds files cells (i + zero) x ≡ true) (same_Some first line is) (subst (λ (k : ℕ). cell_holds files cells k first ≡ true) (here i) p.0)
cell_keeps files cells i (first ∷ lines) h (suc n) line is =
    let p = unless_holds (cell_holds files cells i first) kind.BadMapped first.line (cell_faults files cells (i + 1) lines) h in
    subst (λ (k : ℕ). cell_holds files cells k line ≡ true) (behind i n) (cell_keeps files cells (i + 1) lines p.1 n line is)

object_keeps : (size : ℕ) (cells : List CellLine) (objects : List ObjectLine) (i : ℕ) (lines : List ObjectLine) → object_faults size cells objects i lines ≡ [] → (n : ℕ) (line : ObjectLine) → slice_get lines n ≡ Some line
    → object_holds size cells objects (i + n) line ≡ true
object_keeps size cells objects i [] h n line is = absurd (none-some line is)
object_keeps size cells objects i (first ∷ lines) h zero line is =
    let p = unless_holds (object_holds size cells objects i first) kind.BadMapped first.line (object_faults size cells objects (i + 1) lines) h in
    subst (λ (x : ObjectLine). object_holds size cells objects (i + zero) x ≡ true) (same_Some first line is) (subst (λ (k : ℕ). object_holds size cells objects k first ≡ true) (here i) p.0)
object_keeps size cells objects i (first ∷ lines) h (suc n) line is =
    let p = unless_holds (object_holds size cells objects i first) kind.BadMapped first.line (object_faults size cells objects (i + 1) lines) h in
    subst (λ (k : ℕ). object_holds size cells objects k line ≡ true) (behind i n) (object_keeps size cells objects (i + 1) lines p.1 n line is)

-- the first of a list, whose elements have the places from i on, that passes a test
record IsFirst (A : Type 0) (test : A → Bool) (i : ℕ) (xs : List A) (found : Option ℕ) : Type 0 where
  place : ℕ
  element : A
  is_found : found ≡ Some (i + place)
  stands : slice_get xs place ≡ Some element
  passes : test element ≡ true

first_passing : {A : Type 0} (test : A → Bool) (i : ℕ) (xs : List A) (n : ℕ) (x : A) → slice_get xs n ≡ Some x → test x ≡ true → IsFirst A test i xs (position_from test i xs)
first_passing test i [] n x is passes = absurd (none-some x is)
first_passing {A} test i (z ∷ xs) n x is passes = by_test (test z) refl n is (λ k at_k. first_passing test (i + 1) xs k x at_k passes)
  where
    by_test : (b : Bool) → test z ≡ b → (k : ℕ) → slice_get (z ∷ xs) k ≡ Some x → ((j : ℕ) → slice_get xs j ≡ Some x → IsFirst A test (i + 1) xs (position_from test (i + 1) xs))
        → IsFirst A test i (z ∷ xs) (cond b (Some i) (position_from test (i + 1) xs))
    by_test true e k at_k further =
        record { place = 0; element = z; is_found = ap (λ (m : ℕ). Some m) (here i); stands = refl; passes = e }
    by_test false e zero at_k further =
        absurd (both_ways (test z) e (subst (λ (y : A). test y ≡ true) (sym (same_Some z x at_k)) passes))
    by_test false e (suc k) at_k further =
        let later = further k at_k in
        record { place = suc later.place; element = later.element; is_found = later.is_found ∙ ap (λ (m : ℕ). Some m) (behind i later.place); stands = later.stands; passes = later.passes }

and_right : (a b : Bool) → (a && b) ≡ true → b ≡ true
and_right true b h = h
and_right false b h = absurd cc

or_not : (a b : Bool) → a ≡ true → (not a || b) ≡ true → b ≡ true
or_not true b e h = h
or_not false b e h = absurd cc

-- the first line of a CLASS has a mapped class
opened : (files : World) (cells : List CellLine) (class : List ℕ) (n : ℕ) (line : CellLine) → position (is_cell_of class) cells ≡ Some n → class ≡ (cell_parts line.field).0 → cell_holds files cells n line ≡ true
    → is_mapped_class files cells class (class_shown files class) ≡ true
opened files cells class n line found same holds =
    let opens : opens_class files cells n (cell_parts line.field).0 ≡ true = and_right (is_some (cell_named files line)) (opens_class files cells n (cell_parts line.field).0) holds in
    let opens_it : opens_class files cells n class ≡ true = subst (λ (word : List ℕ). opens_class files cells n word ≡ true) (sym same) opens in
    let is_first : is_that (position (is_cell_of class) cells) n ≡ true = ap (λ (o : Option ℕ). is_that o n) found ∙ eq-eqb n n refl in
    or_not (is_that (position (is_cell_of class) cells) n) (is_mapped_class files cells class (class_shown files class)) is_first opens_it

-- so has each other line of the CLASS
class_mapped : (files : World) (cells : List CellLine) → cell_faults files cells 0 cells ≡ [] → (n : ℕ) (line : CellLine) → slice_get cells n ≡ Some line → is_of_mapped_class files cells line ≡ true
class_mapped files cells none n line is =
    let class : List ℕ = (cell_parts line.field).0 in
    let own : is_cell_of class line ≡ true = (bytes_eq-Decides class class).1 refl in
    let first = first_passing (is_cell_of class) 0 cells n line is own in
    let holds = cell_keeps files cells 0 cells none first.place first.element first.stands in
    let same : class ≡ (cell_parts first.element.field).0 = (bytes_eq-Decides class (cell_parts first.element.field).0).0 first.passes in
    opened files cells class (0 + first.place) first.element (position_from-zero (is_cell_of class) cells ∙ first.is_found) same holds

-- the object lines of a configuration without a fault
object_placed : (size : ℕ) (cells : List CellLine) (objects : List ObjectLine) → object_faults size cells objects 0 objects ≡ [] → (n : ℕ) (line : ObjectLine) → slice_get objects n ≡ Some line
    → object_holds size cells objects n line ≡ true
object_placed size cells objects none n line is =
    subst (λ (k : ℕ). object_holds size cells objects k line ≡ true) (zero-add n) (object_keeps size cells objects 0 objects none n line is)

no_fault : (fs : List Refusal) → earliest fs ≡ None → fs ≡ []
no_fault [] h = refl
no_fault (f ∷ fs) h = absurd cc

pub each_line : (files : World) (c : Config) → earliest (faults files c) ≡ None → IsBound files (members files c)
unfolding class_faults method_faults members
each_line files c none =
    let methods = declared_methods files in
    let all = no_append (class_faults files c) (method_faults methods c) (no_fault (faults files c) none) in
    let by_class = no_append (entry_faults files c.tasks ++ cell_faults files c.cells 0 c.cells) (object_faults c.devices.size c.cells c.objects 0 c.objects) all.0 in
    let early = no_append (entry_faults files c.tasks) (cell_faults files c.cells 0 c.cells) by_class.0 in
    let by_method = no_append (native_faults methods c.natives ++ device_faults methods c.objects c.device_methods) (portal_faults methods c.portals) all.1 in
    let bound = no_append (native_faults methods c.natives) (device_faults methods c.objects c.device_methods) by_method.0 in
    record {
      entries = each_named (entry_of files) kind.NoEntry (λ (x : TaskLine). x.line) c.tasks early.0;
      natives = each_named (native_named methods) kind.BadNative (λ (x : NativeLine). x.line) c.natives bound.0;
      cells = each_cell files c.cells 0 c.cells early.1;
      objects = each_object files c.devices.size c.cells c.objects 0 c.objects (λ class. shown_class files c.cells class 0 c.cells early.1) by_class.1;
      device_methods = each_named (device_named methods c.objects) kind.BadMapped (λ (x : DeviceLine). x.line) c.device_methods bound.1;
      portals = each_named (portal_named methods) kind.BadPortal (λ (x : PortalLine). x.line) c.portals by_method.1;
      mapped = class_mapped files c.cells early.1;
      placed = object_placed c.devices.size c.cells c.objects by_class.1;
    }

-- what is answered has each line's member
pub each_of : (files : World) (c : Config) (answer : Result Bound Stop) → OrNoMemory answer (bound_of files c) → IfOk answer (λ bound. IsBound files bound)
each_of files c (Err stop) says = tt
each_of files c (Ok bound) says = by_first (earliest (faults files c)) refl says
  where
    by_first : (first : Option Refusal) → earliest (faults files c) ≡ first → ◌≡◌ {A = Result Bound Stop} (Ok bound) (unless_fault (members files c) first) → IsBound files bound
    by_first None none is =
        let same : bound ≡ members files c = cc in
        subst (λ (b : Bound). IsBound files b) (sym same) (each_line files c none)
    by_first (Some fault) is_fault is = let bad : ◌≡◌ {A = Result Bound Stop} (Ok bound) (Err (Refused fault)) = is in absurd cc
