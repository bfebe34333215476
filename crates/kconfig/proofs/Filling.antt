-- Masks and rows, one more after the other, as loops make them.
use Rattle.std.proofs.Common.{◌≡◌, ◌≢◌, ◌<◌, ℕ, ◌+◌, ◌*◌, ◌%◌, ◌^◌, Bool, true, false, ◌&&◌, ◌||◌, List, [], ◌∷◌, ◌++◌, map, length, take, get_or, set, eqb, bit_or, w32, refl, sym, ap, ◌∙◌, arith, get_or-set_same, get_or-set_other, take_all, replicate, ◌⊎◌, inl, inr, ◌≤◌, if◌then◌else◌}
use Rattle.std.specs.Prelude.{All, filter}
use Rattle.std.specs.List.{enumerate_from, range_with_len}
use Rattle.std.proofs.lemmas.Bool.Decides.{eqb_tells}
use Rattle.std.proofs.lemmas.List.{map_more, map-id, get_or-replicate}
use Rattle.std.proofs.lemmas.List.Elements.{All-head, All-tail, All-weaker}
use Rattle.std.proofs.lemmas.List.FromFn.{get_or-enumerate_from, length-enumerate_from, filter_of_map_range_with_len_more}
use Rattle.std.proofs.lemmas.Nat.Bits.{bit_at_set_same, bit_at_set_other, bit_at-zero}
use Rattle.kconfig.specs.Tables.{places_where}
use Rattle.kconfig.specs.Masks.{is_set}
use Rattle.kconfig.proofs.Rows.{range_within}

or_other : (b : Bool) → (b || false) ≡ b
or_other true = refl
or_other false = refl

or_passes : (b : Bool) → (b || true) ≡ true
or_passes true = refl
or_passes false = refl

-- one bit more
pub set_more : (mask place p : ℕ) → place < 32 → is_set (bit_or mask (1 * 2 ^ place % 2 ^ 32)) p ≡ (is_set mask p || eqb place p)
set_more mask place p within = by (eqb_tells place p) where
  by : ((eqb place p ≡ true) × (place ≡ p)) ⊎ ((eqb place p ≡ false) × (place ≢ p)) → is_set (bit_or mask (1 * 2 ^ place % 2 ^ 32)) p ≡ (is_set mask p || eqb place p)
  by (inl same) = rw (same.0, ← same.1, bit_at_set_same w32 mask place within) (sym (or_passes _))
  by (inr other) = rw (other.0, bit_at_set_other w32 mask place within p (λ e. other.1 (sym e))) (sym (or_other _))

-- one place more in the mask of a task
pub mask_more : (masks : List ℕ) (task place t p : ℕ) → t < length masks → place < 32
    → is_set (get_or (set masks task (bit_or (get_or masks task 0) (1 * 2 ^ place % 2 ^ 32))) t 0) p ≡ (is_set (get_or masks t 0) p || (eqb task t && eqb place p))
mask_more masks task place t p within small = by (eqb_tells task t) where
  by : ((eqb task t ≡ true) × (task ≡ t)) ⊎ ((eqb task t ≡ false) × (task ≢ t))
      → is_set (get_or (set masks task (bit_or (get_or masks task 0) (1 * 2 ^ place % 2 ^ 32))) t 0) p ≡ (is_set (get_or masks t 0) p || (eqb task t && eqb place p))
  by (inl same) =
      let at : task < length masks = omega (arith, within, same.1) in
      rw (same.0, ← same.1, get_or-set_same masks task (bit_or (get_or masks task 0) (1 * 2 ^ place % 2 ^ 32)) 0 at) (set_more (get_or masks task 0) place p small)
  by (inr other) = rw (other.0, get_or-set_other masks task t (bit_or (get_or masks task 0) (1 * 2 ^ place % 2 ^ 32)) 0 (λ e. other.1 (sym e))) (sym (or_other _))

pub none_set : (task place : ℕ) → task < 64 → is_set (get_or (replicate 64 0) task 0) place ≡ false
none_set task place within = rw (get_or-replicate {A = ℕ} 64 task 0 0 within, bit_at-zero place) refl

-- one place more that passes the test, or doesn't
pub places_more : (test : ℕ → Bool) (n : ℕ) → places_where test (n + 1) ≡ places_where test n ++ (if test n then n ∷ [] else [])
places_more test n =
    let same : ℕ → ℕ = λ k. k in
    let f : List ℕ → List ℕ = filter test in
    let put : List ℕ → List ℕ = λ ks. ks ++ (if test n then n ∷ [] else []) in
    ap f (sym (map-id (range_with_len 0 (n + 1)))) ∙ filter_of_map_range_with_len_more test same 0 n n (omega arith) ∙ ap put (ap f (map-id (range_with_len 0 n)))

same_kept : {X : Type 0} (p q : X → Bool) (xs : List X) → All (λ x. p x ≡ q x) xs → filter p xs ≡ filter q xs
same_kept p q [] all = refl
same_kept p q (x ∷ xs) all =
    let here : p x ≡ q x = All-head (λ x. p x ≡ q x) x xs all in
    let others : filter p xs ≡ filter q xs = same_kept p q xs (All-tail (λ x. p x ≡ q x) x xs all) in
    rw (here, others) refl

-- tests that agree below the count
pub same_places : (p q : ℕ → Bool) (n : ℕ) → ((k : ℕ) → k < n → p k ≡ q k) → places_where p n ≡ places_where q n
same_places p q n agree = same_kept p q (range_with_len 0 n) (All-weaker (λ k. k < n) (λ k. p k ≡ q k) agree (range_with_len 0 n) (range_within n))

-- one row more
pub rows_more : {X A : Type 0} (row : ℕ × X → A) (xs items : List X) (i : ℕ) (x : X) (before after : List A) (item : A) → items ≡ xs → i < length items → x ≡ get_or items i x
    → before ≡ map row (take i (enumerate_from 0 xs)) → item ≡ row (i, x) → after ≡ before ++ item ∷ [] → after ≡ map row (take (i + 1) (enumerate_from 0 xs))
rows_more row xs items i x before after item same within here so_far is more =
    let numbered = enumerate_from 0 xs in
    let less : i < length xs = rw (← same) within in
    let in_lines : get_or xs i x ≡ x = rw (← same) (sym here) in
    let zero_more : 0 + i ≡ i = omega arith in
    let element : get_or numbered i (0, x) ≡ (i, x) = get_or-enumerate_from 0 xs i (0, x) less ∙ rw (zero_more, in_lines) refl in
    let less_numbered : i < length numbered = omega (arith, less, length-enumerate_from 0 xs) in
    let step : map row (take (i + 1) numbered) ≡ map row (take i numbered) ++ row (get_or numbered i (0, x)) ∷ [] = map_more row numbered i (0, x) less_numbered in
    more ∙ rw (so_far, is, step, element) refl

pub rows_all : {X A : Type 0} (row : ℕ × X → A) (xs items : List X) (i : ℕ) (rows : List A) → items ≡ xs → length items ≤ i → rows ≡ map row (take i (enumerate_from 0 xs))
    → rows ≡ map row (enumerate_from 0 xs)
rows_all row xs items i rows same past so_far =
    let numbered = enumerate_from 0 xs in
    let past_lines : length xs ≤ i = rw (← same) past in
    let all : take i numbered ≡ numbered = take_all i numbered (omega (arith, past_lines, length-enumerate_from 0 xs)) in
    so_far ∙ ap (map row) all
