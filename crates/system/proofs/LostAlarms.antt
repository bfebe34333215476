-- The alarms that are lost at a tick rise, so they are the list of their set.
use Rattle.std.proofs.Common.{◌≡◌, ◌≢◌, ℕ, zero, suc, ◌+◌, ◌^◌, ◌<◌, ◌≤◌, Bool, true, false, not, nat_eq, if◌then◌else◌, List, [], ◌∷◌, ◌++◌, filter, fold, length, inl, inr, refl, sym, ap, ◌∙◌, subst, arith, bit_or, slice_get}
use Rattle.std.specs.List.{range_with_len}
use Rattle.std.specs.Int.Bits.{and_zero_l}
use Rattle.std.proofs.lemmas.Bool.Decides.{eqb_tells}
use lib.Pow.{pow_pos}
use Rattle.std.proofs.lemmas.Nat.{and_or_self, and_or_apart, pow_apart}
use Rattle.osek_core.specs.declared.tables.Tables.{Tables}
use Rattle.osek_core.specs.Kernel.Clock.{due, clock_rules_of}
use Rattle.osek_core.specs.Kernel.Rules.{rules_of}
use Rattle.osek_core.specs.Kernel.Scheduler.{Scheduler}
use Rattle.osek_core.specs.Kernel.State.{Kernel}
use Rattle.osek_core.specs.Kernel.Status.{Answered}
use Rattle.osek_core.specs.Kernel.Tick.{act_all, act_row, tick}
use Rattle.osek_time.specs.Value.{alarm_set}
use Rattle.system.specs.Lost.{is_in, lost_alarms}

-- from a number on each is above the one before it, and below 64
abbrev pub Rises : ℕ → List ℕ → Type 0
Rises low [] = Unit {0}
Rises low (x ∷ xs) = (low ≤ x) × (x < 64) × Rises (x + 1) xs

rises-lower : (low high : ℕ) (xs : List ℕ) → low ≤ high → Rises high xs → Rises low xs
rises-lower low high [] le h = tt
rises-lower low high (x ∷ xs) le h = (omega (arith, le, h.0), h.1, h.2)

rises-if : (b : Bool) (low : ℕ) (rest : List ℕ) → low < 64 → Rises (low + 1) rest → Rises low (if b then low ∷ rest else rest)
rises-if true low rest lt h = (omega arith, lt, h)
rises-if false low rest lt h = rises-lower low (low + 1) rest (omega arith) h

rises-filter : (p : ℕ → Bool) (n low : ℕ) → low + n ≤ 64 → Rises low (filter p (range_with_len low n))
rises-filter p zero low le = tt
rises-filter p (suc n) low le =
    rises-if (p low) low (filter p (range_with_len (low + 1) n)) (omega (arith, le)) (rises-filter p n (low + 1) (omega (arith, le)))

rises-unless : (b : Bool) (low x : ℕ) (rest : List ℕ) → low ≤ x → x < 64 → Rises (x + 1) rest → Rises low ((if b then [] else x ∷ []) ++ rest)
rises-unless true low x rest le lt h = rises-lower low (x + 1) rest (omega (arith, le)) h
rises-unless false low x rest le lt h = (le, lt, h)

-- the alarms that are lost are some of those that act
rises-lost : (tables : Tables) (s : Scheduler) (xs : List ℕ) (low : ℕ) → Rises low xs → Rises low (act_all tables s xs).lost
rises-lost tables s [] low h = tt
rises-lost tables s (x ∷ xs) low h =
    let first : Answered Scheduler = act_row (rules_of tables) s (slice_get tables.alarms x) in
    rises-unless (nat_eq first.status 0) low x (act_all tables first.state xs).lost h.0 h.1 (rises-lost tables first.state xs (x + 1) h.2)

-- one alarm more
abbrev with : ℕ → ℕ → ℕ
with set alarm = bit_or set (2 ^ alarm)

tests-other : (set x k : ℕ) (b : Bool) → x ≢ k → is_in set k ≡ b → is_in (with set x) k ≡ b
tests-other set x k b ne e = ap (λ n. not (nat_eq n 0)) (and_or_apart (2 ^ k) set (2 ^ x) (pow_apart x k ne)) ∙ e

not-zero : (n : ℕ) → 0 < n → not (nat_eq n 0) ≡ true
not-zero n lt = elim (eqb_tells n 0) [ inl h ↦ absurd (omega (arith, h.1, lt)) | inr h ↦ ap not h.0 ]

tests-own : (set k : ℕ) → is_in (with set k) k ≡ true
tests-own set k = ap (λ n. not (nat_eq n 0)) (and_or_self (2 ^ k) set) ∙ not-zero (2 ^ k) (pow_pos k)

tests-more : (set x k : ℕ) → is_in set k ≡ true → is_in (with set x) k ≡ true
tests-more set x k e = elim (eqb_tells x k) [
  | inl h ↦ subst (λ y. is_in (with set y) k ≡ true) (sym h.1) (tests-own set k)
  | inr h ↦ tests-other set x k true h.1 e
]

stays-in : (xs : List ℕ) (set k : ℕ) → is_in set k ≡ true → is_in (fold with set xs) k ≡ true
stays-in [] set k e = e
stays-in (x ∷ xs) set k e = stays-in xs (with set x) k (tests-more set x k e)

stays-out : (xs : List ℕ) (set k low : ℕ) → k < low → Rises low xs → is_in set k ≡ false → is_in (fold with set xs) k ≡ false
stays-out [] set k low lt h e = e
stays-out (x ∷ xs) set k low lt h e =
    let ne : x ≢ k = λ q. absurd (omega (arith, q, lt, h.0)) in
    stays-out xs (with set x) k (x + 1) (omega (arith, lt, h.0)) h.2 (tests-other set x k false ne e)

filter-first : (p : ℕ → Bool) (n low : ℕ) (b : Bool) (rest : List ℕ) → p low ≡ b → filter p (range_with_len (low + 1) n) ≡ rest →
    filter p (range_with_len low (suc n)) ≡ (if b then low ∷ rest else rest)
filter-first p n low b rest e r =
    ap (λ t. if t then low ∷ filter p (range_with_len (low + 1) n) else filter p (range_with_len (low + 1) n)) e ∙ ap (λ l. if b then low ∷ l else l) r

-- the list of the set of numbers that rise, with a set of numbers below
listed : (n low set : ℕ) (xs : List ℕ) → low + n ≡ 64 → Rises low xs → ((k : ℕ) → low ≤ k → is_in set k ≡ false) →
    filter (is_in (fold with set xs)) (range_with_len low n) ≡ xs
listed zero low set [] e h out = refl
listed zero low set (x ∷ xs) e h out = absurd (omega (arith, e, h.0, h.1))
listed (suc n) low set [] e h out =
    filter-first (is_in set) n low false [] (out low (omega arith)) (listed n (low + 1) set [] (omega (arith, e)) tt (λ k le. out k (omega (arith, le))))
listed (suc n) low set (x ∷ xs) e h out = elim (eqb_tells x low) [
  | inl q ↦
      filter-first (is_in (fold with (with set x) xs)) n low true xs
      (subst (λ k. is_in (fold with (with set x) xs) k ≡ true) q.1 (stays-in xs (with set x) x (tests-own set x)))
      (listed n (low + 1) (with set x) xs (omega (arith, e)) (rises-lower (low + 1) (x + 1) xs (omega (arith, q.1)) h.2)
      (λ k le. tests-other set x k false (λ r. absurd (omega (arith, r, q.1, le))) (out k (omega (arith, le)))))
      ∙ ap (λ k. k ∷ xs) (sym q.1)
  | inr q ↦
      filter-first (is_in (fold with (with set x) xs)) n low false (x ∷ xs)
      (stays-out (x ∷ xs) set low (low + 1) (omega arith) (omega (arith, q.1, h.0), h.1, h.2) (out low (omega arith)))
      (listed n (low + 1) set (x ∷ xs) (omega (arith, e)) (omega (arith, q.1, h.0), h.1, h.2) (λ k le. out k (omega (arith, le))))
]

none-in : (k : ℕ) → is_in 0 k ≡ false
none-in k = ap (λ n. not (nat_eq n 0)) (and_zero_l (2 ^ k))

pub none-lost : lost_alarms 0 ≡ []
unfolding lost_alarms
none-lost = listed 64 0 0 [] refl tt (λ k _. none-in k)

pub tick-lost : (tables : Tables) (k : Kernel) (counter : ℕ) → length k.clock.alarms ≤ 64 →
    lost_alarms (alarm_set (tick tables k counter).lost) ≡ (tick tables k counter).lost
unfolding lost_alarms
tick-lost tables k counter few =
    let rising : Rises 0 (due (clock_rules_of tables) k.clock counter) = rises-filter _ (length k.clock.alarms) 0 (omega (arith, few)) in
    listed 64 0 0 (tick tables k counter).lost refl (rises-lost tables k.scheduler (due (clock_rules_of tables) k.clock counter) 0 rising) (λ a _. none-in a)

-- the list so far, at the end
pub all-listed : (set n : ℕ) → n ≡ 64 → filter (is_in set) (range_with_len 0 n) ≡ lost_alarms set
unfolding lost_alarms
all-listed set n e = ap (λ n. filter (is_in set) (range_with_len 0 n)) e
