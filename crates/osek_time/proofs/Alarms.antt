-- The alarms as they are kept stand for those of the definition.
use Rattle.std.proofs.Common.{◌≡◌, ◌≢◌, ℕ, zero, suc, ◌+◌, ◌<◌, ◌^◌, Bool, true, false, nat_eq, if◌then◌else◌, List, [], ◌∷◌, ◌++◌, map, filter, length, get_or, take, drop, set, Option, None, inl, inr, refl, sym, ap, ◌∙◌, subst, arith, bit_or, replicate, get_or-set_same, get_or-set_other}
use Rattle.std.specs.List.{range_with_len}
use Rattle.std.proofs.lemmas.Bool.Decides.{eqb_tells}
use Rattle.std.proofs.lemmas.List.{ext_get_or, get_or_default, take-append-le, take_all, length-map, map-id, append-nil}
use Rattle.std.proofs.lemmas.List.FromFn.{get_or-map-range_with_len, length-map-range_with_len, filter_of_map_range_with_len_more}
use Rattle.std.proofs.lemmas.List.Sums.{fold_push}
use Rattle.osek_core.specs.Kernel.Clock.{Armed, Clock, advance, no_counter, counted_down}
use Rattle.osek_time.specs.declared.time.Countdown.{Countdown}
use Rattle.osek_time.specs.Value.{alarm_set}
use Rattle.osek_core.specs.declared.tables.CounterRule.{CounterRule}
use Rattle.osek_time.specs.Kept.{shown, clock_of}

-- what an alarm shows
pub shown-at : (armed : List (Option Countdown)) (alarm : ℕ) → get_or (map shown armed) alarm None ≡ shown (get_or armed alarm None)
shown-at [] alarm = refl
shown-at (x ∷ armed) zero = refl
shown-at (x ∷ armed) (suc alarm) = shown-at armed alarm

pub shown-none : (n : ℕ) → map shown (replicate n None) ≡ replicate n None
shown-none zero = refl
shown-none (suc n) = ap (λ r. None ∷ r) (shown-none n)

-- one alarm more that may be due
filter-more : (p : ℕ → Bool) (n : ℕ) → filter p (range_with_len 0 (n + 1)) ≡ filter p (range_with_len 0 n) ++ (if p n then n ∷ [] else [])
filter-more p n =
    ap (filter p) (sym (map-id (range_with_len 0 (n + 1)))) ∙ filter_of_map_range_with_len_more p (λ k. k) 0 n n (omega arith)
    ∙ ap (λ l. filter p l ++ (if p n then n ∷ [] else [])) (map-id (range_with_len 0 n))

pub set-more : (p : ℕ → Bool) (n : ℕ) → p n ≡ true → alarm_set (filter p (range_with_len 0 (n + 1))) ≡ bit_or (alarm_set (filter p (range_with_len 0 n))) (2 ^ n)
set-more p n e =
    ap alarm_set (filter-more p n ∙ ap (λ b. filter p (range_with_len 0 n) ++ (if b then n ∷ [] else [])) e)
    ∙ fold_push (λ set alarm. bit_or set (2 ^ alarm)) 0 (filter p (range_with_len 0 n)) n

pub set-same : (p : ℕ → Bool) (n : ℕ) → p n ≡ false → alarm_set (filter p (range_with_len 0 (n + 1))) ≡ alarm_set (filter p (range_with_len 0 n))
set-same p n e =
    ap alarm_set (filter-more p n ∙ ap (λ b. filter p (range_with_len 0 n) ++ (if b then n ∷ [] else [])) e ∙ append-nil (filter p (range_with_len 0 n)))

-- an alarm after a tick
abbrev pub after-tick : List ℕ → ℕ → List (Option Countdown) → ℕ → Option Armed
after-tick alarms counter old k =
    if nat_eq (get_or alarms k 0) counter then counted_down (shown (get_or old k None)) else shown (get_or old k None)

-- one alarm more was counted down
pub done-yes : (alarms : List ℕ) (counter i : ℕ) (old armed : List (Option Countdown)) (x : Option Countdown) → i < length armed →
    ((k : ℕ) → k < i → shown (get_or armed k None) ≡ after-tick alarms counter old k) → get_or armed i None ≡ get_or old i None →
    get_or alarms i 0 ≡ counter → shown x ≡ counted_down (shown (get_or armed i None)) →
    (k : ℕ) → k < i + 1 → shown (get_or (set armed i x) k None) ≡ after-tick alarms counter old k
done-yes alarms counter i old armed x lt done same e f k le =
    elim (eqb_tells k i) [
      | inl h ↦ subst (λ j. shown (get_or (set armed i x) j None) ≡ after-tick alarms counter old j) (sym h.1)
          (ap shown (get_or-set_same armed i x None lt) ∙ f ∙ ap (λ a. counted_down (shown a)) same ∙ sym here)
      | inr h ↦ ap shown (get_or-set_other armed i k x None h.1) ∙ done k (omega (arith, h.1))
    ]
  where
    here : after-tick alarms counter old i ≡ counted_down (shown (get_or old i None))
    here = elim (eqb_tells (get_or alarms i 0) counter) [ inl h ↦ rw h.0 refl | inr h ↦ absurd (h.1 e) ]

pub done-no : (alarms : List ℕ) (counter i : ℕ) (old armed : List (Option Countdown)) →
    ((k : ℕ) → k < i → shown (get_or armed k None) ≡ after-tick alarms counter old k) → get_or armed i None ≡ get_or old i None → get_or alarms i 0 ≢ counter →
    (k : ℕ) → k < i + 1 → shown (get_or armed k None) ≡ after-tick alarms counter old k
done-no alarms counter i old armed done same ne k le =
    elim (eqb_tells k i) [
      | inl h ↦ subst (λ j. shown (get_or armed j None) ≡ after-tick alarms counter old j) (sym h.1) (ap shown same ∙ sym here)
      | inr h ↦ done k (omega (arith, h.1))
    ]
  where
    here : after-tick alarms counter old i ≡ shown (get_or old i None)
    here = elim (eqb_tells (get_or alarms i 0) counter) [ inl h ↦ absurd (ne h.1) | inr h ↦ rw h.0 refl ]

-- all alarms were counted down
pub all-down : (alarms : List ℕ) (counter : ℕ) (old armed : List (Option Countdown)) → length armed ≡ length old →
    ((k : ℕ) → k < length armed → shown (get_or armed k None) ≡ after-tick alarms counter old k) →
    map shown armed ≡ map (after-tick alarms counter old) (range_with_len 0 (length old))
all-down alarms counter old armed long done =
    ext_get_or None (map shown armed) (map (after-tick alarms counter old) (range_with_len 0 (length old)))
    (length-map armed shown ∙ long ∙ sym (length-map-range_with_len (after-tick alarms counter old) 0 (length old)))
    (λ i lt. let l : i < length armed = omega (arith, lt, length-map armed shown) in
    shown-at armed i ∙ done i l ∙ sym (get_or-map-range_with_len (after-tick alarms counter old) 0 (length old) i i None (omega (arith, l, long)) (omega arith)))

-- the same as the clock's definition has it
pub down-advance : (alarms : List ℕ) (counter n : ℕ) (old : List (Option Countdown)) →
    map (after-tick alarms counter old) (range_with_len 0 n) ≡ map (λ alarm. if nat_eq (get_or alarms alarm 0) counter then counted_down (get_or (map shown old) alarm None) else get_or (map shown old) alarm None) (range_with_len 0 n)
down-advance alarms counter n old = same_map (range_with_len 0 n)
  where
    same_map : (ks : List ℕ) → map (after-tick alarms counter old) ks ≡ map (λ alarm. if nat_eq (get_or alarms alarm 0) counter then counted_down (get_or (map shown old) alarm None) else get_or (map shown old) alarm None) ks
    same_map [] = refl
    same_map (k ∷ ks) =
        ap (λ (a : Option Armed). (if nat_eq (get_or alarms k 0) counter then counted_down a else a) ∷ map (after-tick alarms counter old) ks) (sym (shown-at old k))
        ∙ ap (λ (r : List (Option Armed)). (if nat_eq (get_or alarms k 0) counter then counted_down (get_or (map shown old) k None) else get_or (map shown old) k None) ∷ r) (same_map ks)

-- an item that is there, whatever stands for one that isn't
pub read-at : {X : Type 0} (xs : List X) (i : ℕ) (x d : X) → i < length xs → x ≡ get_or xs i x → x ≡ get_or xs i d
read-at xs i x d lt e = e ∙ get_or_default xs i x d lt

-- as many items written over a list's are those
pub written-over : {X : Type 0} (n : ℕ) (xs ws : List X) → length ws ≡ n → take n (ws ++ drop (length ws) xs) ≡ ws
written-over n xs ws e = rw (take-append-le n ws (drop (length ws) xs) (omega arith)) (take_all n ws (omega arith))

-- the clock after a tick
pub tick-view : (rules : List CounterRule) (alarms values : List ℕ) (armed armed' : List (Option Countdown)) (counter v : ℕ) →
    v ≡ (if nat_eq (get_or values counter 0) (get_or rules counter no_counter).max then 0 else get_or values counter 0 + 1) →
    map shown armed' ≡ map (after-tick alarms counter armed) (range_with_len 0 (length armed)) →
    clock_of (set values counter v) armed' ≡ advance (record { counters = rules; alarms = alarms }) (clock_of values armed) counter
tick-view rules alarms values armed armed' counter v e down =
    ap (λ n. clock_of (set values counter n) armed') e
    ∙ ap (λ (a : List (Option Armed)). let k : Clock = record { counters = set values counter (if nat_eq (get_or values counter 0) (get_or rules counter no_counter).max then 0 else get_or values counter 0 + 1); alarms = a } in k)
    (down ∙ down-advance alarms counter (length armed) armed
    ∙ ap (λ n. map (λ alarm. if nat_eq (get_or alarms alarm 0) counter then counted_down (get_or (map shown armed) alarm None) else get_or (map shown armed) alarm None) (range_with_len 0 n)) (sym (length-map armed shown)))
