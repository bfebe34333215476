-- Values that are put behind others, each once, by a test that tells which are the same.
use Rattle.std.proofs.Common.{◌≡◌, ◌≢◌, ◌⊎◌, inl, inr, ⊎_elim, ℕ, zero, suc, ◌<◌, Bool, true, false, List, [], ◌∷◌, ◌++◌, length, get_or, All, AllPairs, Contains, slice_get, refl, sym, ap, subst, ◌∙◌, arith, append-nil, append_assoc}
use Rattle.std.specs.Prelude.{if◌then◌else◌}
use Rattle.std.specs.List.{list_any}
use Rattle.std.proofs.lemmas.Bool.{both_ways}
use Rattle.std.proofs.lemmas.List.Elements.{Contains-get_or, Contains-append_left, Contains-push, Contains-push_cases}
use Rattle.std.proofs.lemmas.List.Kept.{AllPairs-cons}
use Rattle.indexmap.specs.IndexSet.{insert_key, insert_all}
use Rattle.jworld.proofs.Among.{found, among, Contains-first, Contains-behind}

-- a value keeps its place
pub at_place : {T : Type 0} (xs rest : List T) (k : ℕ) → k < length xs → slice_get (xs ++ rest) k ≡ slice_get xs k
at_place [] rest k lt = absurd (omega (lt, arith))
at_place (x ∷ xs) rest zero lt = refl
at_place (x ∷ xs) rest (suc k) lt = at_place xs rest k (omega (lt, arith))

-- ---- values of which no two are one

abbrev pub Distinct : {T : Type 0} → List T → Type 0
Distinct [] = Unit {0}
Distinct (x ∷ xs) = (Contains xs x → ⊥) × Distinct xs

push_distinct : {T : Type 0} (xs : List T) (x : T) → Distinct xs → (Contains xs x → ⊥) → Distinct (xs ++ x ∷ [])
push_distinct [] x distinct new = (λ there. nothing there, tt)
  where
    nothing : Contains [] x → ⊥
    nothing there = let lt = there.1 in omega (lt, arith)
push_distinct (first ∷ xs) x distinct new = (
  λ there. ⊎_elim distinct.0 (λ (same : x ≡ first). new (subst (Contains (first ∷ xs)) (sym same) (Contains-first first xs))) (Contains-push_cases xs x first there),
  push_distinct xs x distinct.1 (λ there. new (Contains-behind first xs x there)),
)

pub all_pairs : {T : Type 0} (xs : List T) → Distinct xs → AllPairs (λ one another. one ≢ another) xs
all_pairs [] distinct = λ i j d low lt. absurd (omega (lt, arith))
all_pairs (x ∷ xs) distinct = AllPairs-cons (λ one another. one ≢ another) x xs others (all_pairs xs distinct.1)
  where
    others : All (λ other. x ≢ other) xs
    others k d lt same = distinct.0 (subst (Contains xs) (sym same) (Contains-get_or xs k d lt))

module _ {T : Type 0} (is_same : T → T → Bool) (is_one : (x y : T) → is_same x y ≡ true → x ≡ y) (is_itself : (x : T) → is_same x x ≡ true) where
  -- a value is there already, or it comes last
  pub put : (xs : List T) (x : T) → ((insert_key is_same xs x ≡ xs) × Contains xs x) ⊎ ((insert_key is_same xs x ≡ xs ++ x ∷ []) × (Contains xs x → ⊥))
  put xs x = by_test (list_any (is_same x) xs) refl
    where
      by_test : (b : Bool) → list_any (is_same x) xs ≡ b → ((insert_key is_same xs x ≡ xs) × Contains xs x) ⊎ ((insert_key is_same xs x ≡ xs ++ x ∷ []) × (Contains xs x → ⊥))
      by_test true e =
          let (other, there, same) = found (is_same x) xs e in
          inl (ap (λ (b : Bool). if b then xs else xs ++ x ∷ []) e, subst (Contains xs) (sym (is_one x other same)) there)
      by_test false e =
          inr (ap (λ (b : Bool). if b then xs else xs ++ x ∷ []) e, λ there. both_ways (list_any (is_same x) xs) e (among (is_same x) xs x there (is_itself x)))

  -- ---- one value

  one_stays : (xs : List T) (x y : T) → Contains xs y → Contains (insert_key is_same xs x) y
  one_stays xs x y there =
      ⊎_elim (λ old. subst (λ ys. Contains ys y) (sym old.0) there) (λ new. subst (λ ys. Contains ys y) (sym new.0) (Contains-append_left xs (x ∷ []) y there)) (put xs x)

  one_is_there : (xs : List T) (x : T) → Contains (insert_key is_same xs x) x
  one_is_there xs x =
      ⊎_elim (λ old. subst (λ ys. Contains ys x) (sym old.0) old.1) (λ new. subst (λ ys. Contains ys x) (sym new.0) (Contains-push xs x)) (put xs x)

  one_was : (xs : List T) (x y : T) → Contains (insert_key is_same xs x) y → Contains xs y ⊎ (x ≡ y)
  one_was xs x y there =
      ⊎_elim (λ old. inl (subst (λ ys. Contains ys y) old.0 there)) (λ new. Contains-push_cases xs x y (subst (λ ys. Contains ys y) new.0 there)) (put xs x)

  one_behind : (xs : List T) (x : T) → (rest : List T) × (insert_key is_same xs x ≡ xs ++ rest)
  one_behind xs x = ⊎_elim (λ old. ([], old.0 ∙ sym (append-nil xs))) (λ new. (x ∷ [], new.0)) (put xs x)

  one_distinct : (xs : List T) (x : T) → Distinct xs → Distinct (insert_key is_same xs x)
  one_distinct xs x distinct = ⊎_elim (λ old. subst Distinct (sym old.0) distinct) (λ new. subst Distinct (sym new.0) (push_distinct xs x distinct new.1)) (put xs x)

  -- ---- all of some values

  pub stays : (more xs : List T) (y : T) → Contains xs y → Contains (insert_all is_same xs more) y
  stays [] xs y there = there
  stays (x ∷ more) xs y there = stays more (insert_key is_same xs x) y (one_stays xs x y there)

  pub are_there : (more xs : List T) (y : T) → Contains more y → Contains (insert_all is_same xs more) y
  are_there [] xs y there = absurd (let lt = there.1 in omega (lt, arith))
  are_there (x ∷ more) xs y (zero, lt, is) = stays more (insert_key is_same xs x) y (subst (Contains (insert_key is_same xs x)) is (one_is_there xs x))
  are_there (x ∷ more) xs y (suc k, lt, is) = are_there more (insert_key is_same xs x) y (k, omega (lt, arith), is)

  pub were : (more xs : List T) (y : T) → Contains (insert_all is_same xs more) y → Contains xs y ⊎ Contains more y
  were [] xs y there = inl there
  were (x ∷ more) xs y there =
      ⊎_elim (λ before. ⊎_elim inl (λ (same : x ≡ y). inr (subst (Contains (x ∷ more)) same (Contains-first x more))) (one_was xs x y before))
      (λ behind. inr (Contains-behind x more y behind)) (were more (insert_key is_same xs x) y there)

  pub behind : (more xs : List T) → (rest : List T) × (insert_all is_same xs more ≡ xs ++ rest)
  behind [] xs = ([], sym (append-nil xs))
  behind (x ∷ more) xs =
      let one = one_behind xs x in
      let all = behind more (insert_key is_same xs x) in
      (one.0 ++ all.0, all.1 ∙ ap (λ ys. ys ++ all.0) one.1 ∙ append_assoc xs one.0 all.0)

  pub distinct_all : (more xs : List T) → Distinct xs → Distinct (insert_all is_same xs more)
  distinct_all [] xs distinct = distinct
  distinct_all (x ∷ more) xs distinct = distinct_all more (insert_key is_same xs x) (one_distinct xs x distinct)
