-- A pair that is put into a set of keys, or found among them.
use Rattle.std.proofs.Common.{◌≡◌, ℕ, ◌+◌, Bool, true, false, ◌||◌, cond, List, [], ◌∷◌, ◌++◌, map, position, Option, Some, refl, sym, ap, ◌∙◌}
use Rattle.std.specs.Prelude.{if◌then◌else◌}
use Rattle.std.specs.List.{list_any, position_from}
use Rattle.std.proofs.lemmas.Iterator.Adapters.{position_from-zero}
use Rattle.indexmap.specs.IndexSet.{insert_key}
use Rattle.reaching.specs.declared.pair.Pair.{Pair}
use Rattle.reaching.specs.Order.{is_same, add, pair_of}

pub any_same : (eq : ℕ × ℕ × ℕ → Bool) (key : ℕ × ℕ × ℕ) (keys : List (ℕ × ℕ × ℕ)) → ((k : ℕ × ℕ × ℕ) → eq k ≡ is_same (pair_of key) (pair_of k)) → list_any eq keys ≡ list_any (is_same (pair_of key)) (map pair_of keys)
any_same eq key [] same = refl
any_same eq key (k ∷ keys) same =
    ap (λ (b : Bool). b || list_any eq keys) (same k) ∙ ap (λ (b : Bool). is_same (pair_of key) (pair_of k) || b) (any_same eq key keys same)

by_test : (keys : List (ℕ × ℕ × ℕ)) (key : ℕ × ℕ × ℕ) (b : Bool) → map pair_of (if b then keys else keys ++ key ∷ []) ≡ (if b then map pair_of keys else map pair_of keys ++ pair_of key ∷ [])
by_test keys key true = refl
by_test keys key false = map_push keys key
  where
    map_push : (keys : List (ℕ × ℕ × ℕ)) (key : ℕ × ℕ × ℕ) → map pair_of (keys ++ key ∷ []) ≡ map pair_of keys ++ pair_of key ∷ []
    map_push [] key = refl
    map_push (k ∷ keys) key = ap (λ ps. pair_of k ∷ ps) (map_push keys key)

pub added : (eq : ℕ × ℕ × ℕ → ℕ × ℕ × ℕ → Bool) (keys : List (ℕ × ℕ × ℕ)) (key : ℕ × ℕ × ℕ) → ((k : ℕ × ℕ × ℕ) → eq key k ≡ is_same (pair_of key) (pair_of k))
    → map pair_of (insert_key eq keys key) ≡ add (map pair_of keys) (pair_of key)
added eq keys key same =
    by_test keys key (list_any (eq key) keys)
    ∙ ap (λ (b : Bool). if b then map pair_of keys else map pair_of keys ++ pair_of key ∷ []) (any_same (eq key) key keys same)

same_place : (eq : ℕ × ℕ × ℕ → Bool) (key : ℕ × ℕ × ℕ) (place : ℕ) (keys : List (ℕ × ℕ × ℕ)) → ((k : ℕ × ℕ × ℕ) → eq k ≡ is_same (pair_of key) (pair_of k))
    → position_from eq place keys ≡ position_from (is_same (pair_of key)) place (map pair_of keys)
same_place eq key place [] same = refl
same_place eq key place (k ∷ keys) same =
    ap (λ (b : Bool). cond b (Some place) (position_from eq (place + 1) keys)) (same k)
    ∙ ap (λ (behind : Option ℕ). cond (is_same (pair_of key) (pair_of k)) (Some place) behind) (same_place eq key (place + 1) keys same)

pub placed : (eq : ℕ × ℕ × ℕ → Bool) (key : ℕ × ℕ × ℕ) (keys : List (ℕ × ℕ × ℕ)) → ((k : ℕ × ℕ × ℕ) → eq k ≡ is_same (pair_of key) (pair_of k))
    → position eq keys ≡ position (is_same (pair_of key)) (map pair_of keys)
placed eq key keys same = position_from-zero eq keys ∙ same_place eq key 0 keys same ∙ sym (position_from-zero (is_same (pair_of key)) (map pair_of keys))
