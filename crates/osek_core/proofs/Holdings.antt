-- One list of the resources that are held stands for what each task holds.
use Rattle.std.proofs.Common.{◌≡◌, ◌≢◌, ℕ, zero, suc, ◌+◌, ◌-◌, ◌<◌, ◌≤◌, max, Bool, true, false, ◌||◌, nat_eq, if◌then◌else◌, List, [], ◌∷◌, ◌++◌, map, filter, fold, reverse, length, get_or, take, drop, set, Some, None, inl, inr, refl, sym, ap, ◌∙◌, subst, arith, All, sum_by, position, replicate, zero-add, length-append, append-nil}
use Rattle.std.specs.List.{range_with_len, list_any, position_from, ends_with, IsDistinct, AllByRecursion}
use Rattle.std.proofs.lemmas.Bool.Decides.{eqb_tells}
use Rattle.std.proofs.lemmas.Iterator.Adapters.{position_from-zero}
use Rattle.std.proofs.lemmas.List.{reverse-append, take_at, drop_at, length-map, map-append}
use Rattle.std.proofs.lemmas.List.Elements.{filter-append}
use Rattle.std.proofs.lemmas.List.Sums.{fold_push, sum_by-set, sum_by_push, sum_by-cons, sum_by-take-le}
use Rattle.std.proofs.lemmas.List.FromFn.{get_or-map-range_with_len, length-range_with_len}
use Rattle.std.proofs.lemmas.Map.Steps.{length-le_from_distinct_below}
use Rattle.osek_core.specs.declared.scheduler.Holding.{Holding}
use Rattle.osek_core.specs.Core.Held.{taken_by, resources_of, without_last_taken, highest_of}
use Rattle.osek_core.specs.Kernel.Invariant.{count_of}
use Rattle.osek_core.proofs.Queues.{map-range-set}

pub taken-same : (holding : Holding) (holdings : List Holding) (task : ℕ) → holding.task ≡ task → taken_by (holding ∷ holdings) task ≡ holding.resource ∷ taken_by holdings task
taken-same holding holdings task e = elim (eqb_tells holding.task task) [ inl h ↦ rw h.0 refl | inr h ↦ absurd (h.1 e) ]

pub taken-other : (holding : Holding) (holdings : List Holding) (task : ℕ) → holding.task ≢ task → taken_by (holding ∷ holdings) task ≡ taken_by holdings task
taken-other holding holdings task e = elim (eqb_tells holding.task task) [ inl h ↦ absurd (e h.1) | inr h ↦ rw h.0 refl ]

-- the one that was taken last is the first of the list, and the last in the order taken
pub reverse-cons : (x : ℕ) (xs : List ℕ) → reverse (x ∷ xs) ≡ reverse xs ++ x ∷ []
reverse-cons x xs = reverse-append (x ∷ []) xs

pub resources-same : (holding : Holding) (holdings : List Holding) (task : ℕ) → holding.task ≡ task → resources_of (holding ∷ holdings) task ≡ resources_of holdings task ++ holding.resource ∷ []
resources-same holding holdings task e = ap reverse (taken-same holding holdings task e) ∙ reverse-cons holding.resource (taken_by holdings task)

pub resources-other : (holding : Holding) (holdings : List Holding) (task : ℕ) → holding.task ≢ task → resources_of (holding ∷ holdings) task ≡ resources_of holdings task
resources-other holding holdings task e = ap reverse (taken-other holding holdings task e)

-- a task that is not found holds nothing, and one that is found holds something
pub taken-none : (holdings : List Holding) (task : ℕ) → list_any (λ holding. nat_eq holding.task task) holdings ≡ false → taken_by holdings task ≡ []
taken-none [] task e = refl
taken-none (holding ∷ holdings) task e =
    elim (eqb_tells holding.task task) [
      | inl h ↦ let k = rw h.0 at e in absurd cc
      | inr h ↦ rw h.0 (taken-none holdings task (rw h.0 at e))
    ]

pub taken-some : (holdings : List Holding) (task : ℕ) → list_any (λ holding. nat_eq holding.task task) holdings ≡ true → 1 ≤ length (taken_by holdings task)
taken-some [] task e = absurd cc
taken-some (holding ∷ holdings) task e =
    elim (eqb_tells holding.task task) [
      | inl h ↦ rw h.0 (omega arith)
      | inr h ↦ rw h.0 (taken-some holdings task (rw h.0 at e))
    ]

-- the lists of all tasks when those of one change
pub held-set : (n task : ℕ) (holdings holdings' : List Holding) → ((q : ℕ) → q ≢ task → resources_of holdings' q ≡ resources_of holdings q) →
    map (resources_of holdings') (range_with_len 0 n) ≡ set (map (resources_of holdings) (range_with_len 0 n)) task (resources_of holdings' task)
held-set n task holdings holdings' other =
    subst (λ v. map (resources_of holdings') (range_with_len 0 n) ≡ set (map (resources_of holdings) (range_with_len 0 n)) task (resources_of holdings' v)) (zero-add task)
    (map-range-set (resources_of holdings) (resources_of holdings') 0 n task (λ q ne. other q (omega arith)))

pub held-at : (holdings : List Holding) (n task : ℕ) → task < n → get_or (map (resources_of holdings) (range_with_len 0 n)) task [] ≡ resources_of holdings task
held-at holdings n task lt = get_or-map-range_with_len (resources_of holdings) 0 n task task [] lt (omega arith)

pub held-none : (n a : ℕ) → map (resources_of []) (range_with_len a n) ≡ replicate n []
held-none zero a = refl
held-none (suc n) a = ap (λ r. [] ∷ r) (held-none n (a + 1))

-- the holding that the task took last
pub last-some : (holdings : List Holding) (task i : ℕ) (d : Holding) → position (λ holding. nat_eq holding.task task) holdings ≡ Some i →
    taken_by holdings task ≡ (get_or holdings i d).resource ∷ taken_by (without_last_taken holdings task) task
last-some holdings task i d e = let h = from 0 holdings (sym (position_from-zero (λ (holding : Holding). nat_eq holding.task task) holdings) ∙ e) in let z : i - 0 ≡ i = omega arith in subst (λ j. taken_by holdings task ≡ (get_or holdings j d).resource ∷ taken_by (without_last_taken holdings task) task) z h.1
  where
    from : (n : ℕ) (rest : List Holding) → position_from (λ holding. nat_eq holding.task task) n rest ≡ Some i →
        (n ≤ i) × (taken_by rest task ≡ (get_or rest (i - n) d).resource ∷ taken_by (without_last_taken rest task) task)
    from n [] e = absurd cc
    from n (holding ∷ rest) e =
        elim (eqb_tells holding.task task) [
          | inl h ↦ let same : n ≡ i = let k = rw h.0 at e in cc in let none : i - n ≡ 0 = omega (arith, same) in (omega (arith, same), rw (none, h.0) refl)
          | inr h ↦ let more = from (n + 1) rest (rw h.0 at e) in let next : i - n ≡ suc (i - (n + 1)) = omega (arith, more.0) in
              (omega (arith, more.0), rw (next, h.0, h.0) more.1)
        ]

pub last-none : (holdings : List Holding) (task : ℕ) → position (λ holding. nat_eq holding.task task) holdings ≡ None → taken_by holdings task ≡ []
last-none holdings task e = from 0 holdings (sym (position_from-zero (λ (holding : Holding). nat_eq holding.task task) holdings) ∙ e)
  where
    from : (n : ℕ) (rest : List Holding) → position_from (λ holding. nat_eq holding.task task) n rest ≡ None → taken_by rest task ≡ []
    from n [] e = refl
    from n (holding ∷ rest) e =
        elim (eqb_tells holding.task task) [
          | inl h ↦ let k = rw h.0 at e in absurd cc
          | inr h ↦ rw h.0 (from (n + 1) rest (rw h.0 at e))
        ]

without-same : (holdings : List Holding) (task : ℕ) → taken_by (without_last_taken holdings task) task ≡ drop 1 (taken_by holdings task)
without-same [] task = refl
without-same (holding ∷ holdings) task =
    elim (eqb_tells holding.task task) [
      | inl h ↦ rw h.0 refl
      | inr h ↦ rw (h.0, h.0) (without-same holdings task)
    ]

pub without-other : (holdings : List Holding) (task q : ℕ) → q ≢ task → resources_of (without_last_taken holdings task) q ≡ resources_of holdings q
without-other holdings task q ne = ap reverse (from holdings)
  where
    from : (rest : List Holding) → taken_by (without_last_taken rest task) q ≡ taken_by rest q
    from [] = refl
    from (holding ∷ rest) =
        elim (eqb_tells holding.task task) [
          | inl h ↦ rw h.0 (sym (taken-other holding rest q (λ e. ne (sym e ∙ h.1))))
          | inr h ↦ elim (eqb_tells holding.task q) [
            | inl k ↦ rw (h.0, k.0) (ap (λ r. holding.resource ∷ r) (from rest))
            | inr k ↦ rw (h.0, k.0) (from rest)
          ]
        ]

-- a list in the order taken, without the last
reverse-less : (xs : List ℕ) → reverse (drop 1 xs) ≡ take (length (reverse xs) - 1) (reverse xs)
reverse-less [] = refl
reverse-less (x ∷ xs) =
    let e = reverse-cons x xs in
    let n : length (reverse xs ++ x ∷ []) - 1 ≡ length (reverse xs) = let h = length-append (reverse xs) (x ∷ []) in omega (arith, h) in
    subst (λ r. reverse xs ≡ take (length r - 1) r) (sym e) (rw n (sym (take_at (reverse xs) (x ∷ []) (length (reverse xs)) refl)))

pub resources-less : (holdings : List Holding) (task : ℕ) → resources_of (without_last_taken holdings task) task ≡ take (length (resources_of holdings task) - 1) (resources_of holdings task)
resources-less holdings task = ap reverse (without-same holdings task) ∙ reverse-less (taken_by holdings task)

-- whether the resource is the one that was taken last
pub ends-none : (r : ℕ) → ends_with nat_eq (reverse []) (r ∷ []) ≡ false
ends-none r = refl

pub ends-some : (x r : ℕ) (xs : List ℕ) → ends_with nat_eq (reverse (x ∷ xs)) (r ∷ []) ≡ nat_eq x r
ends-some x r xs =
    let e = reverse-cons x xs in
    let n : length (reverse xs ++ x ∷ []) - 1 ≡ length (reverse xs) = let h = length-append (reverse xs) (x ∷ []) in omega (arith, h) in
    subst (λ l. ends_with nat_eq l (r ∷ []) ≡ nat_eq x r) (sym e) (rw (n, drop_at (reverse xs) (x ∷ []) (length (reverse xs)) refl)
    (elim (eqb_tells x r) [
      | inl h ↦ rw h.0 (elim (eqb_tells r x) [ inl k ↦ rw k.0 refl | inr k ↦ absurd (k.1 (sym h.1)) ])
      | inr h ↦ rw h.0 (elim (eqb_tells r x) [ inl k ↦ absurd (h.1 (sym k.1)) | inr k ↦ rw k.0 refl ])
    ]))

-- the greatest of a list doesn't depend on its order
max-over : (a b : ℕ) (xs : List ℕ) → fold max (max a b) xs ≡ max (fold max a xs) b
max-over a b [] = refl
max-over a b (x ∷ xs) = let e : max (max a b) x ≡ max (max a x) b = omega arith in ap (λ n. fold max n xs) e ∙ max-over (max a x) b xs

pub highest-reverse : (a : ℕ) (f : ℕ → ℕ) (xs : List ℕ) → fold max a (map f (reverse xs)) ≡ fold max a (map f xs)
highest-reverse a f [] = refl
highest-reverse a f (x ∷ xs) =
    ap (λ l. fold max a (map f l)) (reverse-cons x xs)
    ∙ ap (fold max a) (map-append f (reverse xs) (x ∷ []))
    ∙ fold_push max a (map f (reverse xs)) (f x)
    ∙ ap (λ n. max n (f x)) (highest-reverse a f xs)
    ∙ sym (max-over a (f x) (map f xs))

-- some task holds the resource
any-set : {X : Type 0} (P : X → Bool) (xs : List X) (i : ℕ) (y d : X) (b : Bool) → i < length xs → P y ≡ P (get_or xs i d) || b → list_any P (set xs i y) ≡ list_any P xs || b
any-set P [] i y d b lt e = absurd (omega arith)
any-set P (x ∷ xs) zero y d b lt e = ap (λ t. t || list_any P xs) e ∙ turn (P x) b (list_any P xs)
  where
    turn : (p q r : Bool) → (p || q) || r ≡ (p || r) || q
    turn true q r = refl
    turn false true true = refl
    turn false true false = refl
    turn false false true = refl
    turn false false false = refl
any-set P (x ∷ xs) (suc i) y d b lt e = ap (λ t. P x || t) (any-set P xs i y d b (omega arith) e) ∙ turn (P x) (list_any P xs) b
  where
    turn : (p q r : Bool) → p || (q || r) ≡ (p || q) || r
    turn true q r = refl
    turn false q r = refl

any-push : (P : ℕ → Bool) (xs : List ℕ) (x : ℕ) → list_any P (xs ++ x ∷ []) ≡ list_any P xs || P x
any-push P [] x = or_false (P x)
  where
    or_false : (p : Bool) → p || false ≡ p
    or_false true = refl
    or_false false = refl
any-push P (y ∷ xs) x = ap (λ t. P y || t) (any-push P xs x) ∙ turn (P y) (list_any P xs) (P x)
  where
    turn : (p q r : Bool) → p || (q || r) ≡ (p || q) || r
    turn true q r = refl
    turn false q r = refl

eq-turn : (a b : ℕ) → nat_eq a b ≡ nat_eq b a
eq-turn a b = elim (eqb_tells a b) [
  | inl h ↦ elim (eqb_tells b a) [ inl k ↦ h.0 ∙ sym k.0 | inr k ↦ absurd (k.1 (sym h.1)) ]
  | inr h ↦ elim (eqb_tells b a) [ inl k ↦ absurd (h.1 (sym k.1)) | inr k ↦ h.0 ∙ sym k.0 ]
]

pub held-any : (holdings : List Holding) (n resource : ℕ) → All (λ holding. holding.task < n) holdings →
    list_any (list_any (nat_eq resource)) (map (resources_of holdings) (range_with_len 0 n)) ≡ list_any (λ holding. nat_eq holding.resource resource) holdings
held-any [] n resource below = rw (held-none n 0) (nothing n)
  where
    nothing : (m : ℕ) → list_any (list_any (nat_eq resource)) (replicate m []) ≡ false
    nothing zero = refl
    nothing (suc m) = nothing m
held-any (holding ∷ holdings) n resource below =
    let t = holding.task in
    let lt = below 0 holding (omega arith) in
    let lists = map (resources_of holdings) (range_with_len 0 n) in
    let e = held-set n t holdings (holding ∷ holdings) (λ q ne. resources-other holding holdings q (λ h. ne (sym h))) ∙ ap (set lists t) (resources-same holding holdings t refl) in
    let long : t < length lists = rw (length-map (range_with_len 0 n) (resources_of holdings), length-range_with_len) lt in
    let one : list_any (nat_eq resource) (resources_of holdings t ++ holding.resource ∷ []) ≡ list_any (nat_eq resource) (get_or lists t []) || nat_eq resource holding.resource =
    any-push (nat_eq resource) (resources_of holdings t) holding.resource ∙ ap (λ l. list_any (nat_eq resource) l || nat_eq resource holding.resource) (sym (held-at holdings n t lt)) in
    ap (list_any (list_any (nat_eq resource))) e
    ∙ any-set (list_any (nat_eq resource)) lists t (resources_of holdings t ++ holding.resource ∷ []) [] (nat_eq resource holding.resource) long one
    ∙ ap (λ b. b || nat_eq resource holding.resource) (held-any holdings n resource (λ k d l. below (suc k) d (omega arith)))
    ∙ turn (list_any (λ h. nat_eq h.resource resource) holdings) (nat_eq resource holding.resource)
    ∙ ap (λ b. b || list_any (λ h. nat_eq h.resource resource) holdings) (eq-turn resource holding.resource)
  where
    turn : (p q : Bool) → p || q ≡ q || p
    turn true true = refl
    turn true false = refl
    turn false true = refl
    turn false false = refl

count-other : (r x : ℕ) (xs : List ℕ) → nat_eq r x ≡ false → count_of r (x ∷ xs) ≡ count_of r xs
count-other r x xs e = sum_by-cons (λ y. if nat_eq r y then 1 else 0) x xs ∙ ap (λ b. (if b then 1 else 0) + count_of r xs) e ∙ zero-add (count_of r xs)

-- where nobody holds the resource it stands in no list
pub not-held : (lists : List (List ℕ)) (resource : ℕ) → list_any (list_any (nat_eq resource)) lists ≡ false → sum_by (count_of resource) lists ≡ 0
not-held [] resource e = refl
not-held (list ∷ lists) resource e =
    let h = or-none (list_any (nat_eq resource) list) (list_any (list_any (nat_eq resource)) lists) e in
    let more = not-held lists resource h.1 in
    let none = empty list h.0 in
    let s = sum_by-cons (count_of resource) list lists in
    omega (arith, s, none, more)
  where
    or-none : (p q : Bool) → p || q ≡ false → (p ≡ false) × (q ≡ false)
    or-none true q e = absurd cc
    or-none false q e = (refl, e)

    empty : (xs : List ℕ) → list_any (nat_eq resource) xs ≡ false → count_of resource xs ≡ 0
    empty [] k = refl
    empty (x ∷ xs) k =
        let h = or-none (nat_eq resource x) (list_any (nat_eq resource) xs) k in
        count-other resource x xs h.0 ∙ empty xs h.1

-- one holder at most, when a task takes a free resource, and when it holds fewer
pub take-one : (lists : List (List ℕ)) (task resource q : ℕ) → task < length lists → list_any (list_any (nat_eq resource)) lists ≡ false →
    sum_by (count_of q) lists ≤ 1 → sum_by (count_of q) (set lists task (get_or lists task [] ++ resource ∷ [])) ≤ 1
take-one lists task resource q lt free one =
    let s = sum_by-set (count_of q) lists task (get_or lists task [] ++ resource ∷ []) [] lt in
    let p = sum_by_push (λ y. if nat_eq q y then 1 else 0) (get_or lists task []) resource in
    elim (eqb_tells q resource) [
      | inl h ↦ let none = subst (λ r. sum_by (count_of r) lists ≡ 0) (sym h.1) (not-held lists resource free) in let k = rw h.0 at p in omega (arith, s, k, none)
      | inr h ↦ let k = rw h.0 at p in omega (arith, s, k, one)
    ]

pub less-one : (lists : List (List ℕ)) (task n q : ℕ) → task < length lists → sum_by (count_of q) lists ≤ 1 → sum_by (count_of q) (set lists task (take n (get_or lists task []))) ≤ 1
less-one lists task n q lt one =
    let s = sum_by-set (count_of q) lists task (take n (get_or lists task [])) [] lt in
    let t = sum_by-take-le (λ y. if nat_eq q y then 1 else 0) (get_or lists task []) n in
    omega (arith, s, t, one)

-- the resources stay apart
pub apart-take : (holdings : List Holding) (resource : ℕ) → list_any (λ holding. nat_eq holding.resource resource) holdings ≡ false →
    IsDistinct nat_eq (map (λ holding. holding.resource) holdings) → IsDistinct nat_eq (resource ∷ map (λ holding. holding.resource) holdings)
unfolding IsDistinct
apart-take holdings resource e h = (from holdings e, h)
  where
    from : (rest : List Holding) → list_any (λ holding. nat_eq holding.resource resource) rest ≡ false → AllByRecursion (λ y. nat_eq resource y ≡ false) (map (λ holding. holding.resource) rest)
    from [] k = tt
    from (holding ∷ rest) k = by (nat_eq holding.resource resource) refl k (from rest)
      where
        by : (t : Bool) → nat_eq holding.resource resource ≡ t → t || list_any (λ h. nat_eq h.resource resource) rest ≡ false →
            (list_any (λ h. nat_eq h.resource resource) rest ≡ false → AllByRecursion (λ y. nat_eq resource y ≡ false) (map (λ h. h.resource) rest)) →
            AllByRecursion (λ y. nat_eq resource y ≡ false) (map (λ h. h.resource) (holding ∷ rest))
        by true t j more = absurd cc
        by false t j more = (eq-turn resource holding.resource ∙ t, more j)

pub apart-without : (holdings : List Holding) (task : ℕ) → IsDistinct nat_eq (map (λ holding. holding.resource) holdings) → IsDistinct nat_eq (map (λ holding. holding.resource) (without_last_taken holdings task))
unfolding IsDistinct
apart-without [] task h = h
apart-without (holding ∷ holdings) task h =
    elim (eqb_tells holding.task task) [
      | inl t ↦ rw t.0 h.1
      | inr t ↦ rw t.0 (fewer holdings h.0, apart-without holdings task h.1)
    ]
  where
    fewer : (rest : List Holding) → AllByRecursion (λ y. nat_eq holding.resource y ≡ false) (map (λ h. h.resource) rest) → AllByRecursion (λ y. nat_eq holding.resource y ≡ false) (map (λ h. h.resource) (without_last_taken rest task))
    fewer [] k = k
    fewer (next ∷ rest) k = elim (eqb_tells next.task task) [ inl t ↦ rw t.0 k.1 | inr t ↦ rw t.0 (k.0, fewer rest k.1) ]

-- there is room for a resource that is free
pub spare-left : (holdings : List Holding) (resource n : ℕ) → list_any (λ holding. nat_eq holding.resource resource) holdings ≡ false → resource < n → All (λ holding. holding.resource < n) holdings →
    IsDistinct nat_eq (map (λ holding. holding.resource) holdings) → length holdings < n
spare-left holdings resource n free lt below apart =
    let h = length-le_from_distinct_below (resource ∷ map (λ holding. holding.resource) holdings) n (apart-take holdings resource free apart) here in
    let l = length-map holdings (λ holding. holding.resource) in
    omega (arith, h, l)
  where
    there : (rest : List Holding) (q : ℕ) → All (λ holding. holding.resource < n) rest → list_any (nat_eq q) (map (λ holding. holding.resource) rest) ≡ true → q < n
    there [] q each e = absurd cc
    there (holding ∷ rest) q each e =
        elim (eqb_tells q holding.resource) [
          | inl h ↦ let k = each 0 holding (omega arith) in omega (arith, h.1, k)
          | inr h ↦ there rest q (λ k d l. each (suc k) d (omega arith)) (rw h.0 at e)
        ]

    here : (q : ℕ) → list_any (nat_eq q) (resource ∷ map (λ holding. holding.resource) holdings) ≡ true → q < n
    here q e =
        elim (eqb_tells q resource) [
          | inl h ↦ omega (arith, h.1, lt)
          | inr h ↦ there holdings q below (rw h.0 at e)
        ]

-- the greatest so far, and one holding on
pub highest-same : (own : ℕ) (ceilings : List ℕ) (holdings : List Holding) (holding : Holding) (task : ℕ) → holding.task ≡ task →
    highest_of own ceilings (holdings ++ holding ∷ []) task ≡ max (highest_of own ceilings holdings task) (get_or ceilings holding.resource 0)
highest-same own ceilings holdings holding task e =
    ap (λ l. fold max own (map (λ (r : ℕ). get_or ceilings r 0) (map (λ (h : Holding). h.resource) l))) (filter-append (λ (h : Holding). nat_eq h.task task) holdings (holding ∷ []))
    ∙ ap (λ l. fold max own (map (λ (r : ℕ). get_or ceilings r 0) l)) (map-append (λ (h : Holding). h.resource) (filter (λ (h : Holding). nat_eq h.task task) holdings) (filter (λ (h : Holding). nat_eq h.task task) (holding ∷ [])))
    ∙ ap (λ l. fold max own (map (λ (r : ℕ). get_or ceilings r 0) (taken_by holdings task ++ l))) (taken-same holding [] task e)
    ∙ ap (fold max own) (map-append (λ (r : ℕ). get_or ceilings r 0) (taken_by holdings task) (holding.resource ∷ []))
    ∙ fold_push max own (map (λ (r : ℕ). get_or ceilings r 0) (taken_by holdings task)) (get_or ceilings holding.resource 0)

pub highest-other : (own : ℕ) (ceilings : List ℕ) (holdings : List Holding) (holding : Holding) (task : ℕ) → holding.task ≢ task →
    highest_of own ceilings (holdings ++ holding ∷ []) task ≡ highest_of own ceilings holdings task
highest-other own ceilings holdings holding task e =
    ap (λ l. fold max own (map (λ (r : ℕ). get_or ceilings r 0) (map (λ (h : Holding). h.resource) l))) (filter-append (λ (h : Holding). nat_eq h.task task) holdings (holding ∷ []))
    ∙ ap (λ l. fold max own (map (λ (r : ℕ). get_or ceilings r 0) l)) (map-append (λ (h : Holding). h.resource) (filter (λ (h : Holding). nat_eq h.task task) holdings) (filter (λ (h : Holding). nat_eq h.task task) (holding ∷ [])))
    ∙ ap (λ l. fold max own (map (λ (r : ℕ). get_or ceilings r 0) (taken_by holdings task ++ l))) (taken-other holding [] task e)
    ∙ ap (λ l. fold max own (map (λ (r : ℕ). get_or ceilings r 0) l)) (append-nil (taken_by holdings task))
