-- The lines of a configuration, one after the other, as a loop reads them.
use Rattle.std.proofs.Common.{◌≡◌, ℕ, suc, ◌+◌, ◌<◌, ◌≤◌, Bool, true, false, true≢false, List, [], ◌∷◌, ◌++◌, map, length, drop, get_or, Result, Ok, Err, append_assoc, refl, sym, ap, subst, ◌∙◌, arith}
use Rattle.std.proofs.Math.Seq.{drop-cons}
use Rattle.std.proofs.lemmas.List.{drop_all}
use Rattle.std.specs.List.{flat_map, enumerate_from}
use Rattle.kes_text.specs.declared.refusal.Stop.{Stop}
use Rattle.kes_text.specs.declared.refusal.Stop.TheVariants.{Refused, NoMemory}
use Rattle.kconfig.specs.declared.config.Config.{Config}
use Rattle.kconfig.specs.declared.config.Line.{Line}
use Rattle.text_words.specs.Said.{◌>>=◌, OrNoMemory}
use Rattle.kconfig.specs.Config.{Before, with_line, after}
use Rattle.text_words.specs.TextLines.{words}
use Rattle.kconfig.specs.Reading.{line_of, config_with}

or_else : {A : Type 0} → A → Result A Stop → A
or_else d (Ok x) = x
or_else d (Err e) = d

pub ok_is : {A : Type 0} (x y : A) → ◌≡◌ {A = Result A Stop} (Ok x) (Ok y) → x ≡ y
unfolding or_else
ok_is {A} x y h = let f : Result A Stop → A = or_else x in ap f h

fault_or : {A : Type 0} → Stop → Result A Stop → Stop
fault_or d (Ok x) = d
fault_or d (Err e) = e

err_is : {A : Type 0} (x y : Stop) → ◌≡◌ {A = Result A Stop} (Err x) (Err y) → x ≡ y
unfolding fault_or
err_is {A} x y h = let f : Result A Stop → Stop = fault_or x in ap f h

is_ok_test : {A : Type 0} → Result A Stop → Bool
is_ok_test (Ok x) = true
is_ok_test (Err e) = false

pub not_both : {A : Type 0} (x : A) (e : Stop) → ◌≡◌ {A = Result A Stop} (Ok x) (Err e) → ⊥
unfolding is_ok_test
not_both {A} x e h = let f : Result A Stop → Bool = is_ok_test in true≢false (ap f h)

-- the next line and those behind it
pub next : (waits : List (List ℕ × List ℕ)) (c : Config) (line : ℕ × List ℕ) (lines : List (ℕ × List ℕ))
    → config_with waits c (line ∷ lines) ≡ (line_of (record { config = c; waits = waits }) line.0 (words line.1) >>= (λ x. config_with waits (with_line c x) lines))
unfolding config_with
next waits c line lines = refl

by_said : (waits : List (List ℕ × List ℕ)) (before behind : Before) (said : Result Line Stop) (lines : List (ℕ × List ℕ))
    → Ok behind ≡ (said >>= (λ x. Ok (after before x))) → (said >>= (λ x. config_with waits (with_line before.config x) lines)) ≡ config_with waits behind.config lines
by_said waits before behind (Ok x) lines h = let e = ok_is {A = Before} behind (after before x) h in rw e refl
by_said waits before behind (Err e) lines h = absurd (not_both {A = Before} behind e h)

waits_by : (before behind : Before) (said : Result Line Stop) → Ok behind ≡ (said >>= (λ x. Ok (after before x))) → behind.waits ≡ before.waits
waits_by before behind (Ok x) h = let e = ok_is {A = Before} behind (after before x) h in rw e refl
waits_by before behind (Err e) h = absurd (not_both {A = Before} behind e h)

err_by : {A B : Type 0} (said : Result A Stop) (f : A → Before) (g : A → Result B Stop) (e : Stop) → OrNoMemory (Err e) (said >>= (λ x. Ok (f x))) → OrNoMemory (Err e) (said >>= g)
err_by (Ok x) f g (Refused r) h = absurd (not_both {A = Before} (f x) (Refused r) (sym h))
err_by {A} {B} (Err d) f g (Refused r) h = let e = err_is {A = Before} (Refused r) d h in let P : Stop → Type 0 = λ s. ◌≡◌ {A = Result B Stop} (Err (Refused r)) (Err s) in subst P e refl
err_by said f g NoMemory h = tt

-- the next line in its place
at_next : (lines : List (ℕ × List ℕ)) (i : ℕ) (d : ℕ × List ℕ) → i < length lines → drop i lines ≡ get_or lines i d ∷ drop (i + 1) lines
at_next lines i d within =
    let e : suc i ≡ i + 1 = omega arith in
    rw (← e) (drop-cons lines i d within)

pub goes_on : (waits : List (List ℕ × List ℕ)) (before behind : Before) (line : ℕ × List ℕ) (lines : List (ℕ × List ℕ)) (total : Result Config Stop) → before.waits ≡ waits
    → Ok behind ≡ (line_of before line.0 (words line.1) >>= (λ x. Ok (after before x)))
    → config_with waits before.config (line ∷ lines) ≡ total → config_with waits behind.config lines ≡ total
goes_on waits before behind line lines total same h so_far =
    let said : Result Line Stop = line_of before line.0 (words line.1) in
    let one = next waits before.config line lines in
    let e : record { config = before.config; waits = waits } ≡ before = rw (← same) refl in
    let two : (said >>= (λ x. config_with waits (with_line before.config x) lines)) ≡ config_with waits behind.config lines = by_said waits before behind said lines h in
    let three : config_with waits before.config (line ∷ lines) ≡ (said >>= (λ x. config_with waits (with_line before.config x) lines)) =
    (let f : Before → Result Config Stop = λ b. (line_of b line.0 (words line.1) >>= (λ x. config_with waits (with_line before.config x) lines)) in one ∙ ap f e) in
    sym two ∙ sym three ∙ so_far

pub ends : (waits : List (List ℕ × List ℕ)) (before : Before) (line : ℕ × List ℕ) (lines : List (ℕ × List ℕ)) (total : Result Config Stop) (e : Stop) → before.waits ≡ waits
    → OrNoMemory (Err e) (line_of before line.0 (words line.1) >>= (λ x. Ok (after before x)))
    → config_with waits before.config (line ∷ lines) ≡ total → OrNoMemory (Err e) total
ends waits before line lines total e same h so_far =
    let one = next waits before.config line lines in
    let same_before : record { config = before.config; waits = waits } ≡ before = rw (← same) refl in
    let three : config_with waits before.config (line ∷ lines) ≡ (line_of before line.0 (words line.1) >>= (λ x. config_with waits (with_line before.config x) lines)) =
    (let f : Before → Result Config Stop = λ b. (line_of b line.0 (words line.1) >>= (λ x. config_with waits (with_line before.config x) lines)) in one ∙ ap f same_before) in
    let fault : OrNoMemory (Err e) (line_of before line.0 (words line.1) >>= (λ x. config_with waits (with_line before.config x) lines)) =
    err_by (line_of before line.0 (words line.1)) (after before) (λ x. config_with waits (with_line before.config x) lines) e h in
    let P : Result Config Stop → Type 0 = λ r. OrNoMemory (Err e) r in
    subst P (sym three ∙ so_far) fault

pub same_waits : (before behind : Before) (line : ℕ × List ℕ) → Ok behind ≡ (line_of before line.0 (words line.1) >>= (λ x. Ok (after before x))) → behind.waits ≡ before.waits
same_waits before behind line h = waits_by before behind (line_of before line.0 (words line.1)) h

pub done : (waits : List (List ℕ × List ℕ)) (c : Config) (total : Result Config Stop) → config_with waits c [] ≡ total → Ok c ≡ total
unfolding config_with
done waits c total h = h

-- one element more of those whose lists are joined
pub flat_step : {X A : Type 0} (f : X → List A) (xs : List X) (i : ℕ) (d : X) (before behind total : List A) → i < length xs
    → behind ≡ before ++ f (get_or xs i d) → before ++ flat_map f (drop i xs) ≡ total → behind ++ flat_map f (drop (i + 1) xs) ≡ total
flat_step f xs i d before behind total within more so_far =
    let e : suc i ≡ i + 1 = omega arith in
    let cut : drop i xs ≡ get_or xs i d ∷ drop (i + 1) xs = rw (← e) (drop-cons xs i d within) in
    rw more (append_assoc before (f (get_or xs i d)) (flat_map f (drop (i + 1) xs)) ∙ ((let g : List _ → List _ = λ ys. before ++ flat_map f ys in ap g (sym cut)) ∙ so_far))

pub flat_of_map : {X Y A : Type 0} (f : Y → List A) (g : X → Y) (xs : List X) → flat_map f (map g xs) ≡ flat_map (λ x. f (g x)) xs
flat_of_map f g [] = refl
flat_of_map f g (x ∷ xs) = ap (λ ys. f (g x) ++ ys) (flat_of_map f g xs)

-- one line more
pub line_step : (spoken : ℕ × List ℕ → List (ℕ × List ℕ)) (n : ℕ) (line : List ℕ) (all lines : List (List ℕ)) (before behind total : List (ℕ × List ℕ)) → all ≡ line ∷ lines
    → behind ≡ before ++ spoken (n, line) → before ++ flat_map spoken (enumerate_from n all) ≡ total → behind ++ flat_map spoken (enumerate_from (n + 1) lines) ≡ total
line_step spoken n line all lines before behind total cut more so_far =
    rw more (append_assoc before (spoken (n, line)) (flat_map spoken (enumerate_from (n + 1) lines)) ∙ ((let g : List (List ℕ) → List (ℕ × List ℕ) = λ ys. before ++ flat_map spoken (enumerate_from n ys) in ap g (sym cut)) ∙ so_far))
