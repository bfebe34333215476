-- Numbers below a limit that are put behind others, each once.
use Rattle.std.proofs.Common.{◌≡◌, ◌⊎◌, inl, inr, ⊎_elim, ℕ, zero, suc, ◌<◌, Bool, true, false, cond, nat_eq, nat_lt, List, [], ◌∷◌, ◌++◌, filter, fold, Contains, refl, sym, ap, subst, ◌∙◌, arith, eqb-true, eq-eqb, lt-ltb, ltb-true}
use Rattle.std.specs.Prelude.{if◌then◌else◌}
use Rattle.indexmap.specs.IndexSet.{insert_key, insert_all}
use Rattle.jworld.proofs.Among.{Contains-first, Contains-behind}
use Rattle.reaching.proofs.Inserting as inserting
use Rattle.reaching.proofs.Inserting.{Distinct}
use Rattle.call_graph.specs.ReachedFrom.{put_below}

-- ---- those of a list that pass a test

pub has_passing : {A : Type 0} (p : A → Bool) (xs : List A) (x : A) → Contains xs x → p x ≡ true → Contains (filter p xs) x
has_passing p [] x there passes = absurd (let lt = there.1 in omega (lt, arith))
has_passing p (y ∷ xs) x (zero, lt, is) passes = subst (λ (b : Bool). Contains (cond b (y ∷ filter p xs) (filter p xs)) x) (sym (ap p is ∙ passes)) (subst (Contains (y ∷ filter p xs)) is (Contains-first y (filter p xs)))
has_passing p (y ∷ xs) x (suc k, lt, is) passes = by_test (p y) (has_passing p xs x (k, omega (lt, arith), is) passes)
  where
    by_test : (b : Bool) → Contains (filter p xs) x → Contains (cond b (y ∷ filter p xs) (filter p xs)) x
    by_test true behind = Contains-behind y (filter p xs) x behind
    by_test false behind = behind

pub from_passing : {A : Type 0} (p : A → Bool) (xs : List A) (x : A) → Contains (filter p xs) x → (Contains xs x) × (p x ≡ true)
from_passing p [] x there = absurd (let lt = there.1 in omega (lt, arith))
from_passing p (y ∷ xs) x there = by_test (from_passing p xs x) (p y) refl there
  where
    -- of the others
    Behind : Type 0
    Behind = Contains (filter p xs) x → (Contains xs x) × (p x ≡ true)

    first_or_behind : Behind → p y ≡ true → Contains (y ∷ filter p xs) x → (Contains (y ∷ xs) x) × (p x ≡ true)
    first_or_behind others passes (zero, lt, is) = (subst (Contains (y ∷ xs)) is (Contains-first y xs), ap p (sym is) ∙ passes)
    first_or_behind others passes (suc k, lt, is) = let (behind, passes') = others (k, omega (lt, arith), is) in (Contains-behind y xs x behind, passes')

    by_test : Behind → (b : Bool) → p y ≡ b → Contains (cond b (y ∷ filter p xs) (filter p xs)) x → (Contains (y ∷ xs) x) × (p x ≡ true)
    by_test others true passes h = first_or_behind others passes h
    by_test others false fails h = let (behind, passes') = others h in (Contains-behind y xs x behind, passes')

-- ---- numbers below a limit

module _ (limit : ℕ) where
  abbrev pub is_below : ℕ → Bool
  is_below number = nat_lt number limit

  abbrev pub put_all : List ℕ → List ℕ → List ℕ
  put_all numbers more = fold (put_below limit) numbers more

  passed_over : (more numbers : List ℕ) → put_all numbers more ≡ insert_all nat_eq numbers (filter is_below more)
  passed_over [] numbers = refl
  passed_over (number ∷ more) numbers = by_test (passed_over more (insert_key nat_eq numbers number)) (passed_over more numbers) (is_below number)
    where
      by_test : put_all (insert_key nat_eq numbers number) more ≡ insert_all nat_eq (insert_key nat_eq numbers number) (filter is_below more)
          → put_all numbers more ≡ insert_all nat_eq numbers (filter is_below more) → (b : Bool)
          → put_all (if b then insert_key nat_eq numbers number else numbers) more ≡ insert_all nat_eq numbers (cond b (number ∷ filter is_below more) (filter is_below more))
      by_test with' without true = with'
      by_test with' without false = without

  is_one : (x y : ℕ) → nat_eq x y ≡ true → x ≡ y
  is_one x y same = eqb-true x y same

  is_itself : (x : ℕ) → nat_eq x x ≡ true
  is_itself x = eq-eqb x x refl

  pub stays : (more numbers : List ℕ) (x : ℕ) → Contains numbers x → Contains (put_all numbers more) x
  stays more numbers x there =
      subst (λ xs. Contains xs x) (sym (passed_over more numbers)) (inserting.stays nat_eq is_one is_itself (filter is_below more) numbers x there)

  pub are_there : (more numbers : List ℕ) (x : ℕ) → Contains more x → x < limit → Contains (put_all numbers more) x
  are_there more numbers x there below =
      subst (λ xs. Contains xs x) (sym (passed_over more numbers))
      (inserting.are_there nat_eq is_one is_itself (filter is_below more) numbers x (has_passing is_below more x there (lt-ltb x limit below)))

  pub were : (more numbers : List ℕ) (x : ℕ) → Contains (put_all numbers more) x → Contains numbers x ⊎ ((Contains more x) × (x < limit))
  were more numbers x there =
      ⊎_elim inl (λ new. let (is_new, passes) = from_passing is_below more x new in inr (is_new, ltb-true x limit passes))
      (inserting.were nat_eq is_one is_itself (filter is_below more) numbers x (subst (λ xs. Contains xs x) (passed_over more numbers) there))

  pub behind : (more numbers : List ℕ) → (rest : List ℕ) × (put_all numbers more ≡ numbers ++ rest)
  behind more numbers = let (rest, e) = inserting.behind nat_eq is_one is_itself (filter is_below more) numbers in (rest, passed_over more numbers ∙ e)

  pub distinct_all : (more numbers : List ℕ) → Distinct numbers → Distinct (put_all numbers more)
  distinct_all more numbers distinct =
      subst Distinct (sym (passed_over more numbers)) (inserting.distinct_all nat_eq is_one is_itself (filter is_below more) numbers distinct)
