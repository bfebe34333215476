-- The lines of a text, taken one at a time.
use Rattle.std.proofs.Common.{◌≡◌, ℕ, suc, ◌+◌, ◌<◌, Bool, true, false, List, [], ◌∷◌, length, take, drop, refl, arith}
use Rattle.std.specs.List.{before_first, after_first, position_or_len}
use Rattle.kes_text.specs.Lines.{is_line_feed, put_first, lines}

-- the front of a list that is one longer
take-cons : (n b : ℕ) (bs : List ℕ) → take (1 + n) (b ∷ bs) ≡ b ∷ take n bs
take-cons n b bs = let e : 1 + n ≡ suc n = omega arith in rw e refl

-- what is left of it behind that front
drop-cons-cons : (n b : ℕ) (bs : List ℕ) → drop (1 + n + 1) (b ∷ bs) ≡ drop (n + 1) bs
drop-cons-cons n b bs = let e : 1 + n + 1 ≡ suc (n + 1) = omega arith in rw e refl

-- one byte more at the front, whether it is a line feed or not
cons_by : (b : ℕ) (bs : List ℕ) → put_first b (lines bs) ≡ (b ∷ before_first is_line_feed bs) ∷ lines (after_first is_line_feed bs)
    → (feed : Bool) → is_line_feed b ≡ feed
    → lines (b ∷ bs) ≡ before_first is_line_feed (b ∷ bs) ∷ lines (after_first is_line_feed (b ∷ bs))
cons_by b bs h true is = rw is refl
cons_by b bs h false is = let n = position_or_len is_line_feed bs in rw (is, h, take-cons n b bs, drop-cons-cons n b bs) refl

-- a text's first line stands before its first line feed, and the others behind it
pub lines-cons : (b : ℕ) (bs : List ℕ) → lines (b ∷ bs) ≡ before_first is_line_feed (b ∷ bs) ∷ lines (after_first is_line_feed (b ∷ bs))
lines-cons b [] = cons_by b [] refl (is_line_feed b) refl
lines-cons b (c ∷ cs) = cons_by b (c ∷ cs) (rw (lines-cons c cs) refl) (is_line_feed b) refl

-- the same of a text that is not empty
pub lines_step : (bs : List ℕ) → 0 < length bs → lines bs ≡ before_first is_line_feed bs ∷ lines (after_first is_line_feed bs)
lines_step [] h = absurd (omega arith)
lines_step (b ∷ bs) h = lines-cons b bs
