-- Members in order: those that compare equal are the same.
use Rattle.std.proofs.Common.{◌≡◌, ◌==◌, ◌&&◌, ◌||◌, Bool, true, false, cond, Ordering, List, [], ◌∷◌, refl}
use Rattle.std.specs.Ordering.{is_eq, ordering_then, nat_cmp, bool_cmp}
use Rattle.std.specs.Cmp.{both_tied, unsigned_ties}
use Rattle.std.specs.List.{list_any}
use Rattle.std.specs.BTreeMap.{is_at}
use mathlib.Core.Bool.{beq}
use Rattle.classfile.specs.Numbers.{Numbered, is_same_number}

-- the order of members
abbrev pub ordered : Numbered → Numbered → Ordering
ordered a b = ordering_then (ordering_then (bool_cmp a.0 b.0) (nat_cmp a.1 b.1)) (nat_cmp a.2 b.2)

bools : (a b : Bool) → beq a b ≡ is_eq (bool_cmp a b)
bools true true = refl
bools true false = refl
bools false true = refl
bools false false = refl

same : (a b : Numbered) → is_same_number a b ≡ is_at (ordered a) b
same a b = both_tied (beq a.0 b.0 && (a.1 == b.1)) (a.2 == b.2) _ _ (both_tied (beq a.0 b.0) (a.1 == b.1) _ _ (bools a.0 b.0) (unsigned_ties a.1 b.1)) (unsigned_ties a.2 b.2)

any_same : (a : Numbered) (others : List Numbered) → list_any (is_same_number a) others ≡ list_any (is_at (ordered a)) others
any_same a [] = refl
any_same a (b ∷ others) = rw (same a b, any_same a others) refl

-- one member more
pub one_more : (member one : Numbered) (old new : List Numbered)
    → list_any (is_at (ordered one)) new ≡ cond (is_at (ordered member) one) true (list_any (is_at (ordered one)) old)
    → list_any (is_same_number one) new ≡ (is_same_number member one || list_any (is_same_number one) old)
one_more member one old new h = rw (any_same one new, any_same one old, same member one, h) (either (is_at (ordered member) one) (list_any (is_at (ordered one)) old)) where
  either : (a b : Bool) → cond a true b ≡ (a || b)
  either true b = refl
  either false b = refl
