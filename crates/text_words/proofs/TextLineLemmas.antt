-- The lines of a text whose carriage returns before line feeds are dropped, taken one at a time.
use Rattle.std.proofs.Common.{◌≡◌, nat_lt, ℕ, suc, ◌+◌, ◌-◌, ◌<◌, ◌≤◌, ◌==◌, Bool, true, false, List, [], ◌∷◌, length, take, drop, get_or, refl, ap, sym, ◌∙◌, arith, if◌then◌else◌}
use Rattle.std.specs.List.{before_first, after_first, position_or_len}
use Rattle.std.proofs.lemmas.Bool.Decides.{nat_tests}
use Rattle.std.proofs.lemmas.Grind.{common_steps}
use Rattle.kes_text.specs.Lines.{is_line_feed, put_first, lines}
use Rattle.kes_text.specs.Reading.{Reading, rest, next_line, behind_line}
use Rattle.text_words.specs.TextLines.{without_returns, chomp}

take-cons : (n b : ℕ) (bs : List ℕ) → take (1 + n) (b ∷ bs) ≡ b ∷ take n bs
take-cons n b bs = let e : 1 + n ≡ suc n = omega arith in rw e refl

drop-cons-more : (n b : ℕ) (bs : List ℕ) → drop (1 + n + 1) (b ∷ bs) ≡ drop (n + 1) bs
drop-cons-more n b bs = let e : 1 + n + 1 ≡ suc (n + 1) = omega arith in rw e refl

-- the same by recursion
abbrev chomp_by : List ℕ → List ℕ
chomp_by [] = []
chomp_by (byte ∷ []) = if byte == 13 then [] else byte ∷ []
chomp_by (byte ∷ next ∷ bytes) = byte ∷ chomp_by (next ∷ bytes)

-- a line that ends in a carriage return, and one that doesn't
chomp_last : (line : List ℕ) → 0 < length line → get_or line (length line - 1) 0 ≡ 13 → chomp_by line ≡ take (length line - 1) line
chomp_last [] more last = absurd (omega arith)
chomp_last (b ∷ []) more last = let is : b ≡ 13 = last in rw is refl
chomp_last (b ∷ c ∷ cs) more last =
    let e : length (b ∷ c ∷ cs) - 1 ≡ suc (length (c ∷ cs) - 1) = omega arith in
    let more : 0 < length (c ∷ cs) = omega arith in
    let before : get_or (c ∷ cs) (length (c ∷ cs) - 1) 0 ≡ 13 = (let f : ℕ → ℕ = λ n. get_or (b ∷ c ∷ cs) n 0 in ap f (sym e) ∙ last) in
    rw e (ap (λ bs. b ∷ bs) (chomp_last (c ∷ cs) more before))

chomp_other : (line : List ℕ) → (get_or line (length line - 1) 0 == 13) ≡ false → chomp_by line ≡ line
chomp_other [] last = refl
chomp_other (b ∷ []) last = let is : (b == 13) ≡ false = last in rw is refl
chomp_other (b ∷ c ∷ cs) last =
    let e : length (b ∷ c ∷ cs) - 1 ≡ suc (length (c ∷ cs) - 1) = omega arith in
    let before : (get_or (c ∷ cs) (length (c ∷ cs) - 1) 0 == 13) ≡ false = (let f : ℕ → Bool = λ n. get_or (b ∷ c ∷ cs) n 0 == 13 in ap f (sym e) ∙ last) in
    ap (λ bs. b ∷ bs) (chomp_other (c ∷ cs) before)

-- a byte that is no line feed, in front of a text that begins with none
no_feed : (b c : ℕ) (cs : List ℕ) → is_line_feed c ≡ false → without_returns (b ∷ c ∷ cs) ≡ b ∷ without_returns (c ∷ cs)
no_feed b c cs plain = by (b == 13) refl where
  by : (return : Bool) → (b == 13) ≡ return → without_returns (b ∷ c ∷ cs) ≡ b ∷ without_returns (c ∷ cs)
  by true is = rw (is, plain) refl
  by false is = rw is refl

is_ten : (b : ℕ) → is_line_feed b ≡ true → b ≡ 10
is_ten b is = grind (arith, nat_tests, is)

-- a line feed in front
at_feed : (b : ℕ) (cs : List ℕ) → b ≡ 10 → lines (without_returns (b ∷ cs)) ≡ chomp_by (before_first is_line_feed (b ∷ cs)) ∷ lines (without_returns (after_first is_line_feed (b ∷ cs)))
at_feed b cs is = rw is refl

-- one byte, and then a line feed
behind_one : (b c : ℕ) (cs : List ℕ) → is_line_feed b ≡ false → c ≡ 10 → (return : Bool) → (b == 13) ≡ return
    → lines (without_returns (b ∷ c ∷ cs)) ≡ chomp_by (before_first is_line_feed (b ∷ c ∷ cs)) ∷ lines (without_returns (after_first is_line_feed (b ∷ c ∷ cs)))
behind_one b c cs plain is true return = rw (is, plain, return) refl
behind_one b c cs plain is false return = rw (is, plain, return, plain) refl

-- the length before the first line feed, one byte more
counted : (b : ℕ) (cs : List ℕ) → is_line_feed b ≡ false → position_or_len is_line_feed (b ∷ cs) ≡ 1 + position_or_len is_line_feed cs
counted b cs plain = rw plain refl

chomp_cons : (b : ℕ) (bs : List ℕ) → 0 < length bs → chomp_by (b ∷ bs) ≡ b ∷ chomp_by bs
chomp_cons b [] some = absurd (omega arith)
chomp_cons b (c ∷ cs) some = refl

some_front : (c : ℕ) (cs : List ℕ) → is_line_feed c ≡ false → 0 < length (before_first is_line_feed (c ∷ cs))
some_front c cs second =
    let n = position_or_len is_line_feed cs in
    let count = counted c cs second in
    let f : ℕ → List ℕ = λ k. take k (c ∷ cs) in
    let e : before_first is_line_feed (c ∷ cs) ≡ c ∷ take n cs = ap f count ∙ take-cons n c cs in
    rw e (omega arith)

-- more bytes before the line feed
further : (b c : ℕ) (cs : List ℕ) → is_line_feed b ≡ false → is_line_feed c ≡ false
    → lines (without_returns (c ∷ cs)) ≡ chomp_by (before_first is_line_feed (c ∷ cs)) ∷ lines (without_returns (after_first is_line_feed (c ∷ cs)))
    → lines (without_returns (b ∷ c ∷ cs)) ≡ chomp_by (before_first is_line_feed (b ∷ c ∷ cs)) ∷ lines (without_returns (after_first is_line_feed (b ∷ c ∷ cs)))
further b c cs first second more =
    let m = position_or_len is_line_feed (c ∷ cs) in
    let count = counted b (c ∷ cs) first in
    let f : ℕ → List ℕ = λ k. take k (b ∷ c ∷ cs) in
    let g : ℕ → List ℕ = λ k. drop (k + 1) (b ∷ c ∷ cs) in
    let front : before_first is_line_feed (b ∷ c ∷ cs) ≡ b ∷ before_first is_line_feed (c ∷ cs) = ap f count ∙ take-cons m b (c ∷ cs) in
    let behind : after_first is_line_feed (b ∷ c ∷ cs) ≡ after_first is_line_feed (c ∷ cs) = ap g count ∙ drop-cons-more m b (c ∷ cs) in
    let cut = chomp_cons b (before_first is_line_feed (c ∷ cs)) (some_front c cs second) in
    let put : List (List ℕ) → List (List ℕ) = λ ls. (if is_line_feed b then [] ∷ ls else put_first b ls) in
    let left : lines (without_returns (b ∷ c ∷ cs)) ≡ put (lines (without_returns (c ∷ cs))) = ap lines (no_feed b c cs second) in
    let none : put (lines (without_returns (c ∷ cs))) ≡ put_first b (lines (without_returns (c ∷ cs))) = rw first refl in
    let right : put_first b (lines (without_returns (c ∷ cs))) ≡ (b ∷ chomp_by (before_first is_line_feed (c ∷ cs))) ∷ lines (without_returns (after_first is_line_feed (c ∷ cs))) = ap (put_first b) more in
    let line : chomp_by (before_first is_line_feed (b ∷ c ∷ cs)) ≡ b ∷ chomp_by (before_first is_line_feed (c ∷ cs)) = ap chomp_by front ∙ cut in
    let both : chomp_by (before_first is_line_feed (b ∷ c ∷ cs)) ∷ lines (without_returns (after_first is_line_feed (b ∷ c ∷ cs)))
    ≡ (b ∷ chomp_by (before_first is_line_feed (c ∷ cs))) ∷ lines (without_returns (after_first is_line_feed (c ∷ cs))) = rw (line, behind) refl in
    left ∙ none ∙ right ∙ sym both

step_further : (b c : ℕ) (cs : List ℕ) → is_line_feed b ≡ false
    → (position_or_len is_line_feed (c ∷ cs) < length (c ∷ cs) → lines (without_returns (c ∷ cs)) ≡ chomp_by (before_first is_line_feed (c ∷ cs)) ∷ lines (without_returns (after_first is_line_feed (c ∷ cs))))
    → position_or_len is_line_feed (b ∷ c ∷ cs) < length (b ∷ c ∷ cs) → (feed : Bool) → is_line_feed c ≡ feed
    → lines (without_returns (b ∷ c ∷ cs)) ≡ chomp_by (before_first is_line_feed (b ∷ c ∷ cs)) ∷ lines (without_returns (after_first is_line_feed (b ∷ c ∷ cs)))
step_further b c cs plain behind h true is = behind_one b c cs plain (is_ten c is) (b == 13) refl
step_further b c cs plain behind h false is =
    let count = counted b (c ∷ cs) plain in
    let less : position_or_len is_line_feed (c ∷ cs) < length (c ∷ cs) = omega (arith, count, h) in
    further b c cs plain is (behind less)

step : (b : ℕ) (cs : List ℕ)
    → (position_or_len is_line_feed cs < length cs → lines (without_returns cs) ≡ chomp_by (before_first is_line_feed cs) ∷ lines (without_returns (after_first is_line_feed cs)))
    → position_or_len is_line_feed (b ∷ cs) < length (b ∷ cs) → (feed : Bool) → is_line_feed b ≡ feed
    → lines (without_returns (b ∷ cs)) ≡ chomp_by (before_first is_line_feed (b ∷ cs)) ∷ lines (without_returns (after_first is_line_feed (b ∷ cs)))
step b cs behind h true is = at_feed b cs (is_ten b is)
step b [] behind h false is = let count = counted b [] is in absurd (omega (arith, count, h))
step b (c ∷ cs) behind h false is = step_further b c cs is behind h (is_line_feed c) refl

-- a text that has a line feed: its first line, and the lines behind
pub with_feed : (bs : List ℕ) → position_or_len is_line_feed bs < length bs
    → lines (without_returns bs) ≡ chomp_by (before_first is_line_feed bs) ∷ lines (without_returns (after_first is_line_feed bs))
with_feed [] h = absurd (omega arith)
with_feed (b ∷ cs) h = step b cs (λ less. with_feed cs less) h (is_line_feed b) refl

-- a text without a line feed is one line
alone : (b : ℕ) → is_line_feed b ≡ false → (return : Bool) → (b == 13) ≡ return → lines (without_returns (b ∷ [])) ≡ (b ∷ []) ∷ []
alone b plain true return = rw (return, plain) refl
alone b plain false return = rw (return, plain) refl

plain_front : (b : ℕ) (cs : List ℕ) → length (b ∷ cs) ≤ position_or_len is_line_feed (b ∷ cs) → (feed : Bool) → is_line_feed b ≡ feed → is_line_feed b ≡ false
plain_front b cs h true is = let count : position_or_len is_line_feed (b ∷ cs) ≡ 0 = rw is refl in absurd (omega (arith, count, h))
plain_front b cs h false is = is

pub without_feed : (bs : List ℕ) → 0 < length bs → length bs ≤ position_or_len is_line_feed bs → lines (without_returns bs) ≡ bs ∷ []
without_feed [] more h = absurd (omega arith)
without_feed (b ∷ []) more h = alone b (plain_front b [] h (is_line_feed b) refl) (b == 13) refl
without_feed (b ∷ c ∷ cs) more h =
    let first = plain_front b (c ∷ cs) h (is_line_feed b) refl in
    let count = counted b (c ∷ cs) first in
    let rest : length (c ∷ cs) ≤ position_or_len is_line_feed (c ∷ cs) = omega (arith, count, h) in
    let second = plain_front c cs rest (is_line_feed c) refl in
    let some : 0 < length (c ∷ cs) = omega arith in
    rw (no_feed b c cs second, first, without_feed (c ∷ cs) some rest) refl

chomp_is : (line : List ℕ) → chomp line ≡ chomp_by line
chomp_is [] = refl
chomp_is (b ∷ bs) = by_last (get_or (b ∷ bs) (length (b ∷ bs) - 1) 0 == 13) refl where
  some : nat_lt 0 (length (b ∷ bs)) ≡ true
  some = grind (arith, nat_tests)

  by_last : (is : Bool) → (get_or (b ∷ bs) (length (b ∷ bs) - 1) 0 == 13) ≡ is → chomp (b ∷ bs) ≡ chomp_by (b ∷ bs)
  by_last true e =
      let last : get_or (b ∷ bs) (length (b ∷ bs) - 1) 0 ≡ 13 = grind (arith, nat_tests, e) in
      let more : 0 < length (b ∷ bs) = omega arith in
      rw (some, e) (sym (chomp_last (b ∷ bs) more last))
  by_last false e = rw (some, e) (sym (chomp_other (b ∷ bs) e))

-- what a cursor over the text tells: a line with its line feed, and a last one without
pub feed_case : (r s : Reading) (piece : List ℕ) → piece ≡ next_line r → s ≡ behind_line r → r.place ≤ length r.input → length piece < s.place - r.place
    → lines (without_returns (rest r)) ≡ chomp piece ∷ lines (without_returns (rest s))
feed_case r s piece is to within passed =
    let bs = rest r in
    let front : piece ≡ before_first is_line_feed bs = is in
    let less : position_or_len is_line_feed bs < length bs = grind (arith, common_steps) in
    let behind : rest s ≡ after_first is_line_feed bs = grind (arith, common_steps) in
    let line : chomp piece ≡ chomp_by (before_first is_line_feed bs) = ap chomp front ∙ chomp_is (before_first is_line_feed bs) in
    let put : List ℕ → List (List ℕ) = λ l. l ∷ lines (without_returns (after_first is_line_feed bs)) in
    let over : List ℕ → List (List ℕ) = λ left. chomp piece ∷ lines (without_returns left) in
    with_feed bs less ∙ ap put (sym line) ∙ ap over (sym behind)

pub last_case : (r s : Reading) (piece : List ℕ) → piece ≡ next_line r → s ≡ behind_line r → r.place < length r.input → s.place - r.place ≤ length piece
    → lines (without_returns (rest r)) ≡ piece ∷ lines (without_returns (rest s))
last_case r s piece is to within passed =
    let bs = rest r in
    let some : 0 < length bs = grind (arith, common_steps) in
    let more : length bs ≤ position_or_len is_line_feed bs = grind (arith, common_steps) in
    let front : piece ≡ bs = grind (arith, common_steps) in
    let behind : rest s ≡ [] = grind (arith, common_steps) in
    rw (front, behind) (without_feed bs some more)
