-- Rows made of lines, one for each, and what holds of them.
use Rattle.std.proofs.Common.{◌≡◌, ◌<◌, ℕ, zero, suc, ◌+◌, Bool, true, false, List, [], ◌∷◌, map, length, Option, Some, refl, sym, ap, subst, ◌∙◌, arith}
use Rattle.std.specs.Prelude.{All, AllPairs, Contains, filter, slice_get, option_map}
use Rattle.std.specs.List.{enumerate_from, range_with_len, find}
use Rattle.std.specs.List.Sorted.{IsStrictlyIncreasing}
use Rattle.std.proofs.lemmas.Option.{get_or_from_slice_get, slice_get_within, slice_get-map, same_Some, none-some}
use Rattle.std.proofs.lemmas.List.{length-map}
use Rattle.std.proofs.lemmas.List.FromFn.{length-enumerate_from, length-range_with_len, get_or-range_with_len}
use Rattle.std.proofs.lemmas.List.Elements.{All-head, All-tail}

-- the element at a place
pub at_within : {X : Type 0} (xs : List X) (i : ℕ) → i < length xs → (x : X) × (slice_get xs i ≡ Some x)
at_within [] i within = absurd (omega (arith, within))
at_within (x ∷ xs) zero within = (x, refl)
at_within (x ∷ xs) (suc i) within = at_within xs i (omega (arith, within))

pub all_at : {X : Type 0} (P : X → Type 0) (xs : List X) (i : ℕ) (x : X) → All P xs → slice_get xs i ≡ Some x → P x
all_at P xs i x all is = subst P (get_or_from_slice_get xs i x x is) (all i x (slice_get_within xs i x is))

pub one_element : {X : Type 0} (xs : List X) (i j : ℕ) (x y : X) → slice_get xs i ≡ Some x → slice_get xs j ≡ Some y → i ≡ j → x ≡ y
one_element xs i j x y at_i at_j same = let f : ℕ → Option _ = slice_get xs in same_Some x y (sym at_i ∙ ap f same ∙ at_j)

-- a row for each element
pub record AreRows {X A : Type 0} (row : ℕ → X → A) (xs : List X) (rows : List A) : Type 0 where
  pub len : length rows ≡ length xs
  pub at : (i : ℕ) (x : X) → slice_get xs i ≡ Some x → slice_get rows i ≡ Some (row i x)

mapped : {X A : Type 0} (f : X → A) (xs : List X) (i : ℕ) (x : X) → slice_get xs i ≡ Some x → slice_get (map f xs) i ≡ Some (f x)
mapped f xs i x is = let g : Option _ → Option _ = option_map f in slice_get-map f xs i ∙ ap g is

pub rows_of_map : {X A : Type 0} (f : X → A) (xs : List X) → AreRows (λ i x. f x) xs (map f xs)
rows_of_map f xs = record { len = length-map xs f; at = mapped f xs }

pub rows_mapped : {X A B : Type 0} (row : ℕ → X → A) (f : A → B) (xs : List X) (rows : List A) → AreRows row xs rows → AreRows (λ i x. f (row i x)) xs (map f rows)
rows_mapped row f xs rows are = record { len = length-map rows f ∙ are.len; at = λ i x is. mapped f rows i (row i x) (are.at i x is) }

numbered : {X : Type 0} (xs : List X) (n i j : ℕ) (x : X) → n + i ≡ j → slice_get xs i ≡ Some x → slice_get (enumerate_from n xs) i ≡ Some (j, x)
numbered [] n i j x sum is = absurd (none-some x is)
numbered (y ∷ ys) n zero j x sum is =
    let same : y ≡ x = same_Some y x is in
    let at : n ≡ j = omega (arith, sum) in
    rw (same, at) refl
numbered (y ∷ ys) n (suc i) j x sum is = numbered ys (n + 1) i j x (omega (arith, sum)) is

pub rows_numbered : {X A : Type 0} (row : ℕ × X → A) (xs : List X) → AreRows (λ i x. row (i, x)) xs (map row (enumerate_from 0 xs))
rows_numbered row xs = record {
  len = length-map (enumerate_from 0 xs) row ∙ length-enumerate_from 0 xs;
  at = λ i x is. mapped row (enumerate_from 0 xs) i (i, x) (numbered xs 0 i i x (omega arith) is);
}

-- what holds of the row of each element holds of all rows
pub all_rows : {X A : Type 0} (P : A → Type 0) (row : ℕ → X → A) (xs : List X) (rows : List A) → AreRows row xs rows
    → ((i : ℕ) (x : X) → slice_get xs i ≡ Some x → P (row i x)) → All P rows
all_rows P row xs rows are each = λ k d within.
    let e = at_within xs k (omega (arith, within, are.len)) in
    subst P (sym (get_or_from_slice_get rows k (row k e.0) d (are.at k e.0 e.1))) (each k e.0 e.1)

pub pairs_of_rows : {X A : Type 0} (R : A → A → Type 0) (S : X → X → Type 0) (row : ℕ → X → A) (xs : List X) (rows : List A) → AreRows row xs rows
    → ((i j : ℕ) (x y : X) → S x y → R (row i x) (row j y)) → AllPairs S xs → AllPairs R rows
pairs_of_rows R S row xs rows are each pairs = λ i j d less within.
    let a = at_within xs i (omega (arith, less, within, are.len)) in
    let b = at_within xs j (omega (arith, within, are.len)) in
    let of_lines : S a.0 b.0 = rw (← get_or_from_slice_get xs i a.0 a.0 a.1, ← get_or_from_slice_get xs j b.0 a.0 b.1) (pairs i j a.0 less (slice_get_within xs j b.0 b.1)) in
    rw (get_or_from_slice_get rows i (row i a.0) d (are.at i a.0 a.1), get_or_from_slice_get rows j (row j b.0) d (are.at j b.0 b.1)) (each i j a.0 b.0 of_lines)

-- the places below a count rise, and stay so where some are left out
pub range_rises : (n : ℕ) → IsStrictlyIncreasing (range_with_len 0 n)
range_rises n = λ k within.
    let count = length-range_with_len 0 n in
    let here = get_or-range_with_len 0 n k 0 (omega (arith, within, count)) in
    let behind = get_or-range_with_len 0 n (k + 1) 0 (omega (arith, within, count)) in
    omega (arith, here, behind)

pub range_within : (n : ℕ) → All (λ k. k < n) (range_with_len 0 n)
range_within n = λ k d within.
    let count = length-range_with_len 0 n in
    let here = get_or-range_with_len 0 n k d (omega (arith, within, count)) in
    omega (arith, here, within, count)

pub in_range : (n k : ℕ) → k < n → Contains (range_with_len 0 n) k
in_range n k less =
    let count = length-range_with_len 0 n in
    let here = get_or-range_with_len 0 n k k less in
    (k, omega (arith, less, count), omega (arith, here))

kept : {X : Type 0} (test : X → Bool) (y : X) (ys : List X) (x : X) (first : Bool) → test y ≡ first → Contains (filter test ys) x → Contains (filter test (y ∷ ys)) x
kept test y ys x true is behind = rw is (suc behind.0, omega (arith, behind.1), behind.2)
kept test y ys x false is behind = rw is behind

pub contains_filtered : {X : Type 0} (test : X → Bool) (xs : List X) (x : X) → Contains xs x → test x ≡ true → Contains (filter test xs) x
contains_filtered test [] x (k, within, is) passes = absurd (omega (arith, within))
contains_filtered test (y ∷ ys) x (zero, within, is) passes = let first : test y ≡ true = rw is passes in rw first (0, omega arith, is)
contains_filtered test (y ∷ ys) x (suc k, within, is) passes = kept test y ys x (test y) refl (contains_filtered test ys x (k, omega (arith, within), is) passes)

-- what is found passes, and is one of these
found_by : {X : Type 0} (P : X → Type 0) (test : X → Bool) (y : X) (ys : List X) (x : X) (first : Bool) → test y ≡ first → P y → find test (y ∷ ys) ≡ Some x
    → (find test ys ≡ Some x → (test x ≡ true) × P x) → (test x ≡ true) × P x
found_by P test y ys x true first here is behind =
    let e : find test (y ∷ ys) ≡ Some y = rw first refl in
    let same : y ≡ x = same_Some y x (sym e ∙ is) in
    (rw (← same) first, subst P same here)
found_by P test y ys x false first here is behind = let e : find test (y ∷ ys) ≡ find test ys = rw first refl in behind (sym e ∙ is)

pub found_is : {X : Type 0} (P : X → Type 0) (test : X → Bool) (xs : List X) (x : X) → All P xs → find test xs ≡ Some x → (test x ≡ true) × P x
found_is P test [] x all is = absurd (none-some x is)
found_is P test (y ∷ ys) x all is = found_by P test y ys x (test y) refl (All-head P y ys all) is (λ more. found_is P test ys x (All-tail P y ys all) more)
