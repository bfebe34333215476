-- Numbers of which some pass a test, as a loop goes along them.
use Rattle.std.proofs.Common.{◌≡◌, ℕ, suc, ◌+◌, ◌-◌, ◌<◌, Bool, true, false, ◌&&◌, ◌||◌, cond, List, [], ◌∷◌, ◌++◌, filter, drop, get_or, length, Option, Some, None, is_some, option_map, option_to_list, refl, sym, ap, ◌∙◌, add-one, drop-cons, arith}
use Rattle.std.specs.List.{list_any, range_with_len}
use Rattle.jworld.specs.declared.ids.ClassId.{ClassId}
use Rattle.jworld.specs.Methods.{only_one}

pick : (a : Bool) (p : ℕ → Bool) (x : ℕ) (ys zs : List ℕ) → filter p ys ≡ zs → filter p (cond a (x ∷ ys) ys) ≡ cond (a && p x) (x ∷ zs) zs
pick true p x ys zs rest = ap (λ (l : List ℕ). cond (p x) (x ∷ l) l) rest
pick false p x ys zs rest = rest

pub filter-filter : (p q : ℕ → Bool) (xs : List ℕ) → filter p (filter q xs) ≡ filter (λ x. q x && p x) xs
filter-filter p q [] = refl
filter-filter p q (x ∷ xs) = pick (q x) p x (filter q xs) (filter (λ y. q y && p y) xs) (filter-filter p q xs)

any_picked : (a : Bool) (p : ℕ → Bool) (x : ℕ) (ys : List ℕ) (rest : Bool) → list_any p ys ≡ rest → list_any p (cond a (x ∷ ys) ys) ≡ ((a && p x) || rest)
any_picked true p x ys rest is = ap (λ (b : Bool). p x || b) is
any_picked false p x ys rest is = is

pub list_any-filter : (p q : ℕ → Bool) (xs : List ℕ) → list_any p (filter q xs) ≡ list_any (λ x. q x && p x) xs
list_any-filter p q [] = refl
list_any-filter p q (x ∷ xs) = any_picked (q x) p x (filter q xs) (list_any (λ y. q y && p y) xs) (list_any-filter p q xs)

-- from a number on
pub range_from : (end i : ℕ) → i < end → range_with_len i (end - i) ≡ i ∷ range_with_len (i + 1) (end - (i + 1))
range_from end i within = let e : end - i ≡ suc (end - (i + 1)) = omega arith in rw e refl

pub drop_from : (xs : List ℕ) (i : ℕ) → i < length xs → drop i xs ≡ get_or xs i 0 ∷ drop (i + 1) xs
drop_from xs i within = rw add-one (drop-cons xs i 0 within)

-- what is asked of those that pass
module _ (test : ℕ → Bool) (n : ℕ) (all rest : List ℕ) (is : all ≡ n ∷ rest) {A : Type 0} (ask : List ℕ → A) (r : A) (so_far : ask (filter test all) ≡ r) where
  abbrev later : List ℕ
  later = filter test rest

  pub passes_here : test n ≡ true → ask (n ∷ later) ≡ r
  passes_here passing = ap (λ (b : Bool). ask (cond b (n ∷ later) later)) (sym passing) ∙ sym (ap (λ (ns : List ℕ). ask (filter test ns)) is) ∙ so_far

  pub passes_later : test n ≡ false → ask later ≡ r
  passes_later failing = ap (λ (b : Bool). ask (cond b (n ∷ later) later)) (sym failing) ∙ sym (ap (λ (ns : List ℕ). ask (filter test ns)) is) ∙ so_far

-- ---- one that was found, and others behind it

abbrev pub only_of : Option ClassId → List ℕ → Option ℕ
only_of found others = only_one (option_to_list (option_map (λ c. c.n) found) ++ others)

pub second : (found : Option ClassId) (n : ℕ) (others : List ℕ) → is_some found ≡ true → only_of found (n ∷ others) ≡ None
second None n others some = cc
second (Some c) n others some = refl

pub first_only : (found : Option ClassId) (c : ClassId) (others : List ℕ) → is_some found ≡ false → only_of found (c.n ∷ others) ≡ only_of (Some c) others
first_only None c others none = refl
first_only (Some d) c others none = cc

pub no_other : (found : Option ClassId) → only_of found [] ≡ option_map (λ c. c.n) found
no_other None = refl
no_other (Some c) = refl
