-- Joined lines are in form where the lines are, and stand for as many moves.
use Rattle.std.proofs.Common.{◌≡◌, nat_le, ℕ, ◌+◌, ◌<◌, ◌≤◌, ◌^◌, ◌==◌, Bool, true, false, List, [], ◌∷◌, ◌++◌, length, All, Option, Some, None, refl, sym, ◌∙◌, arith, leb-true}
use Rattle.std.proofs.lemmas.List.Elements.{All-nil, All-cons, All-head, All-tail}
use Rattle.std.proofs.lemmas.List.Sums.{sum_by-cons}
use Rattle.osek_core.specs.declared.moves.Move.{Move}
use Rattle.osek_core.specs.declared.moves.Move.TheVariants.{Run, Tick, Poke}
use Rattle.script.specs.declared.line.Line.{Line}
use Rattle.script.specs.declared.names.Names.{Names}
use Rattle.script.specs.Writing.{summed, both, written, going_on, joined_from, joined}
use Rattle.script.specs.InForm.{AreMoves, IsLine}
use Rattle.script.specs.ReadsBack.{move_count}

-- one line for both is in form, and has the moves of both
pub record IsSum (names : Names) (a b : ℕ) (one : Line) : Type 0 where
  pub line : IsLine names one
  pub times : one.times ≡ a + b

abbrev IfSum : Names → ℕ → ℕ → Option Line → Type 0
IfSum names a b None = Unit {0}
IfSum names a b (Some one) = IsSum names a b one

of_sum : (names : Names) (a b : ℕ) (step : Move) → 1 ≤ a → AreMoves names (a + b) step → IfSum names a b (summed a b step)
of_sum names a b step low is = by (nat_le (a + b) (10 ^ 18)) refl where
  by : (small : Bool) → nat_le (a + b) (10 ^ 18) ≡ small → IfSum names a b (summed a b step)
  by true h = rw h (record { line = record { at_least = omega arith; at_most = leb-true (a + b) (10 ^ 18) h; moves = is }; times = refl })
  by false h = rw h tt

of_ticks : (names : Names) (a b c d : ℕ) → 1 ≤ a → c < length names.counters → IfSum names a b (both a b (Tick c) (Tick d))
of_ticks names a b c d low there = by (c == d) refl where
  by : (same : Bool) → (c == d) ≡ same → IfSum names a b (both a b (Tick c) (Tick d))
  by true h = rw h (of_sum names a b (Tick c) low there)
  by false h = rw h tt

of_both : (names : Names) (a b : ℕ) (s t : Move) → 1 ≤ a → AreMoves names a s → IfSum names a b (both a b s t)
of_both names a b Run Run low is = of_sum names a b Run low tt
of_both names a b (Tick c) (Tick d) low is = of_ticks names a b c d low is
of_both names a b Run (Tick d) low is = tt
of_both names a b Run (Poke at bytes) low is = tt
of_both names a b (Tick c) Run low is = tt
of_both names a b (Tick c) (Poke at bytes) low is = tt
of_both names a b (Poke at bytes) t low is = tt

of_lines : (names : Names) (first second : Line) → IsLine names first → IfSum names first.times second.times (both first.times second.times first.step second.step)
of_lines names first second is = of_both names first.times second.times first.step second.step is.at_least is.moves

-- what holds of lines that are joined, and of all lines
from_form : (names : Names) (last : Line) (lines : List Line) → IsLine names last → All (IsLine names) lines → All (IsLine names) (joined_from last lines)
from_form names last [] is each = All-cons (IsLine names) last [] is (All-nil (IsLine names))
from_form names last (next ∷ lines) is each = by (both last.times next.times last.step next.step) (of_lines names last next is) (λ l. from_form names l lines) where
  by : (one : Option Line) → IfSum names last.times next.times one → ((l : Line) → IsLine names l → All (IsLine names) lines → All (IsLine names) (joined_from l lines))
      → All (IsLine names) (written last one ++ joined_from (going_on next one) lines)
  by None h behind = All-cons (IsLine names) last (joined_from next lines) is (behind next (All-head (IsLine names) next lines each) (All-tail (IsLine names) next lines each))
  by (Some one) h behind = behind one h.line (All-tail (IsLine names) next lines each)

-- one line more
pub counted : (line : Line) (lines : List Line) → move_count (line ∷ lines) ≡ line.times + move_count lines
counted line lines = let times : Line → ℕ = λ l. l.times in sum_by-cons times line lines

from_count : (names : Names) (last : Line) (lines : List Line) → IsLine names last → All (IsLine names) lines → move_count (joined_from last lines) ≡ last.times + move_count lines
from_count names last [] is each = omega arith
from_count names last (next ∷ lines) is each = by (both last.times next.times last.step next.step) (of_lines names last next is) (λ l. from_count names l lines) where
  by : (one : Option Line) → IfSum names last.times next.times one → ((l : Line) → IsLine names l → All (IsLine names) lines → move_count (joined_from l lines) ≡ l.times + move_count lines)
      → move_count (written last one ++ joined_from (going_on next one) lines) ≡ last.times + move_count (next ∷ lines)
  by None h behind =
      let more = behind next (All-head (IsLine names) next lines each) (All-tail (IsLine names) next lines each) in
      omega (arith, counted last (joined_from next lines), counted next lines, more)
  by (Some one) h behind =
      let more = behind one h.line (All-tail (IsLine names) next lines each) in
      omega (arith, counted next lines, more, h.times)

pub joined_form : (names : Names) (lines : List Line) → All (IsLine names) lines → All (IsLine names) (joined lines)
joined_form names [] each = each
joined_form names (first ∷ lines) each = from_form names first lines (All-head (IsLine names) first lines each) (All-tail (IsLine names) first lines each)

pub joined_count : (names : Names) (lines : List Line) → All (IsLine names) lines → move_count (joined lines) ≡ move_count lines
joined_count names [] each = refl
joined_count names (first ∷ lines) each =
    from_count names first lines (All-head (IsLine names) first lines each) (All-tail (IsLine names) first lines each) ∙ sym (counted first lines)
