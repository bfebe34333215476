-- The first fault among index fields and members, one after the other, as a loop finds it.
use Rattle.std.proofs.Common.{◌≡◌, ℕ, zero, suc, ◌+◌, ◌<◌, ◌≤◌, ◌||◌, ◌&&◌, ◌==◌, bytes_eq, Bool, true, false, not, List, [], ◌∷◌, length, take, drop, get_or, Option, Some, None, is_some, refl, sym, ap, ◌∙◌, arith}
use Rattle.std.proofs.Math.Seq.{drop-cons}
use Rattle.std.proofs.lemmas.List.{take_more}
use Rattle.std.proofs.lemmas.List.Folds.{list_any-append}
use Rattle.std.specs.List.{list_any}
use mathlib.Core.Bool.{beq}
use Rattle.kes_text.specs.declared.refusal.Refusal.{Refusal}
use Rattle.kes_text.specs.declared.refusal.Kind.TheVariants as kind
use Rattle.classfile.specs.declared.uses.Use.{Use}
use Rattle.classfile.specs.declared.uses.Use.TheVariants as uses
use Rattle.classfile.specs.declared.pool.Entry.{Entry}
use Rattle.classfile.specs.Pool.{text}
use Rattle.classfile.specs.Numbers.{Numbered, is_same_number, numbered_with, numbered, is_numbered, is_among, number_at, IsNumbering}
use Rattle.classfile.specs.Faults.{key_with, key_of, is_key, has_key, repeats, or_else, place_of, fault_of_index, fault, first_fault}

abbrev pub from : List Entry → List Use → ℕ → Option Refusal
from pool uses i = first_fault pool (take i uses) (drop i uses)

-- the fault of the one at i, or else the first one behind it
step : (pool : List Entry) (uses : List Use) (i : ℕ) (d : Use) → i < length uses
    → from pool uses i ≡ or_else (fault pool (take i uses) (get_or uses i d)) (from pool uses (i + 1))
unfolding first_fault
step pool uses i d within =
    let more = take_more uses i d within in
    let e : suc i ≡ i + 1 = omega arith in
    let cut : drop i uses ≡ get_or uses i d ∷ drop (i + 1) uses = rw (← e) (drop-cons uses i d within) in
    rw (cut, more) refl

-- an index field that is faulty
pub index_ends : (pool : List Entry) (uses : List Use) (i : ℕ) (d : Use) (found total : Option Refusal) → i < length uses
    → found ≡ fault_of_index pool (get_or uses i d) → is_some found ≡ true → from pool uses i ≡ total → found ≡ total
index_ends pool uses i d None total within is some so_far = absurd cc
index_ends pool uses i d (Some r) total within is some so_far =
    let one : from pool uses i ≡ Some r = rw (step pool uses i d within, ← is) refl in
    sym one ∙ so_far

-- whether one of these is a member with these numbers
abbrev pub has_number : List Entry → List ℕ → List Use → Numbered → Bool
has_number pool numbers before one = list_any (λ (other : Use). is_numbered one (numbered pool numbers other)) before

-- members are told apart by numbers as by texts
module _ (pool : List Entry) (numbers : List ℕ) (told : IsNumbering pool numbers) where
  same_with : (method other : Bool) (i j n d : ℕ) (a b : List ℕ) (x y : Option (List ℕ)) → text pool i ≡ Some a → text pool j ≡ Some b → text pool n ≡ x → text pool d ≡ y
      → is_numbered (method, number_at numbers i, number_at numbers j) (numbered_with other (number_at numbers n) (number_at numbers d) x y) ≡ is_key (method, a, b) (key_with other x y)
  same_with method other i j n d a b (Some p) (Some q) one two three four =
      ap (λ (t : Bool). (beq other method && t) && (number_at numbers d == number_at numbers j)) (told n i p a three one)
      ∙ ap (λ (t : Bool). (beq other method && bytes_eq p a) && t) (told d j q b four two)
  same_with method other i j n d a b (Some p) None one two three four = refl
  same_with method other i j n d a b None y one two three four = refl

  same_member : (method : Bool) (i j : ℕ) (a b : List ℕ) (other : Use) → text pool i ≡ Some a → text pool j ≡ Some b
      → is_numbered (method, number_at numbers i, number_at numbers j) (numbered pool numbers other) ≡ is_key (method, a, b) (key_of pool other)
  same_member method i j a b (uses.Index at index names) one two = refl
  same_member method i j a b (uses.Member at other n d) one two = same_with method other i j n d a b (text pool n) (text pool d) one two refl refl

  same_members : (method : Bool) (i j : ℕ) (a b : List ℕ) (before : List Use) → text pool i ≡ Some a → text pool j ≡ Some b
      → has_number pool numbers before (method, number_at numbers i, number_at numbers j) ≡ has_key pool before (method, a, b)
  same_members method i j a b [] one two = refl
  same_members method i j a b (other ∷ before) one two =
      ap (λ (t : Bool). t || has_number pool numbers before (method, number_at numbers i, number_at numbers j)) (same_member method i j a b other one two)
      ∙ ap (λ (t : Bool). is_key (method, a, b) (key_of pool other) || t) (same_members method i j a b before one two)

  among_with : (before : List Use) (seen : List Numbered) (method : Bool) (i j : ℕ) (x y : Option (List ℕ)) → ((one : Numbered) → list_any (is_same_number one) seen ≡ has_number pool numbers before one)
      → text pool i ≡ x → text pool j ≡ y → is_among seen (numbered_with method (number_at numbers i) (number_at numbers j) x y) ≡ repeats pool before (key_with method x y)
  among_with before seen method i j (Some a) (Some b) same one two = same (method, number_at numbers i, number_at numbers j) ∙ same_members method i j a b before one two
  among_with before seen method i j (Some a) None same one two = refl
  among_with before seen method i j None y same one two = refl

  -- what is kept of the members says whether one repeats
  among_is : (before : List Use) (seen : List Numbered) (one : Use) → ((other : Numbered) → list_any (is_same_number other) seen ≡ has_number pool numbers before other)
      → is_among seen (numbered pool numbers one) ≡ repeats pool before (key_of pool one)
  among_is before seen (uses.Index at index names) same = refl
  among_is before seen (uses.Member at method i j) same = among_with before seen method i j (text pool i) (text pool j) same refl refl

none_from : (found : Option Refusal) → is_some found ≡ false → found ≡ None
none_from None e = refl
none_from (Some r) e = absurd cc

flipped : (a b : Bool) → b ≡ not a → b ≡ false → a ≡ true
flipped true b e f = refl
flipped false b e f = absurd cc

flipped_back : (a b : Bool) → b ≡ not a → b ≡ true → a ≡ false
flipped_back true b e f = absurd cc
flipped_back false b e f = refl

-- a member that repeats one before it
pub member_ends : (pool : List Entry) (numbers : List ℕ) (uses : List Use) (i : ℕ) (d : Use) (found : Option Refusal) (seen : List Numbered) (fresh : Bool) (total : Option Refusal) → IsNumbering pool numbers → i < length uses
    → found ≡ fault_of_index pool (get_or uses i d) → is_some found ≡ false
    → ((one : Numbered) → list_any (is_same_number one) seen ≡ has_number pool numbers (take i uses) one)
    → fresh ≡ not (is_among seen (numbered pool numbers (get_or uses i d))) → fresh ≡ false
    → from pool uses i ≡ total → Some (record { file = 0; kind = kind.TwoMembers; at = place_of (get_or uses i d) }) ≡ total
member_ends pool numbers uses i d found seen fresh total told_apart within is none same told not_fresh so_far =
    let x : Use = get_or uses i d in
    let no : fault_of_index pool x ≡ None = sym is ∙ none_from found none in
    let yes : repeats pool (take i uses) (key_of pool x) ≡ true = sym (among_is pool numbers told_apart (take i uses) seen x same) ∙ flipped (is_among seen (numbered pool numbers x)) fresh told not_fresh in
    let one : from pool uses i ≡ Some (record { file = 0; kind = kind.TwoMembers; at = place_of x }) = rw (step pool uses i d within, no, yes) refl in
    sym one ∙ so_far

-- one without a fault
pub goes_on : (pool : List Entry) (numbers : List ℕ) (uses : List Use) (i : ℕ) (d : Use) (found : Option Refusal) (seen : List Numbered) (fresh : Bool) (total : Option Refusal) → IsNumbering pool numbers → i < length uses
    → found ≡ fault_of_index pool (get_or uses i d) → is_some found ≡ false
    → ((one : Numbered) → list_any (is_same_number one) seen ≡ has_number pool numbers (take i uses) one)
    → fresh ≡ not (is_among seen (numbered pool numbers (get_or uses i d))) → fresh ≡ true
    → from pool uses i ≡ total → from pool uses (i + 1) ≡ total
goes_on pool numbers uses i d found seen fresh total told_apart within is none same told new so_far =
    let x : Use = get_or uses i d in
    let no : fault_of_index pool x ≡ None = sym is ∙ none_from found none in
    let yes : repeats pool (take i uses) (key_of pool x) ≡ false = sym (among_is pool numbers told_apart (take i uses) seen x same) ∙ flipped_back (is_among seen (numbered pool numbers x)) fresh told new in
    let one : from pool uses i ≡ from pool uses (i + 1) = rw (step pool uses i d within, no, yes) refl in
    sym one ∙ so_far

swap : (a b : Bool) → (a || b) ≡ (b || (a || false))
swap true true = refl
swap true false = refl
swap false true = refl
swap false false = refl

-- what is kept of the members, with one more
pub more_seen : (pool : List Entry) (numbers : List ℕ) (uses : List Use) (i : ℕ) (d : Use) (seen now : List Numbered) → i < length uses
    → ((one : Numbered) → list_any (is_same_number one) seen ≡ has_number pool numbers (take i uses) one)
    → ((one : Numbered) → list_any (is_same_number one) now ≡ (is_numbered one (numbered pool numbers (get_or uses i d)) || list_any (is_same_number one) seen))
    → (one : Numbered) → list_any (is_same_number one) now ≡ has_number pool numbers (take (i + 1) uses) one
more_seen pool numbers uses i d seen now within same new k =
    let x : Use = get_or uses i d in
    let more = take_more uses i d within in
    let both = list_any-append (λ (one : Use). is_numbered k (numbered pool numbers one)) (take i uses) (x ∷ []) in
    rw (new k, same k, more, both) (swap (is_numbered k (numbered pool numbers x)) (has_number pool numbers (take i uses) k))

drop_all : (uses : List Use) (i : ℕ) → length uses ≤ i → drop i uses ≡ []
drop_all [] zero h = refl
drop_all [] (suc i) h = refl
drop_all (x ∷ xs) zero h = absurd (omega arith)
drop_all (x ∷ xs) (suc i) h = let le : length xs ≤ i = omega arith in drop_all xs i le

pub ended : (pool : List Entry) (uses : List Use) (i : ℕ) (total : Option Refusal) → length uses ≤ i → from pool uses i ≡ total → None ≡ total
unfolding first_fault
ended pool uses i total over so_far =
    let cut : drop i uses ≡ [] = drop_all uses i over in
    let one : from pool uses i ≡ None = rw cut refl in
    sym one ∙ so_far
