-- Lines that are joined stand for the moves of both.
use Rattle.std.proofs.Common.{◌≡◌, nat_le, ℕ, zero, suc, ◌+◌, ◌==◌, Bool, true, false, List, [], ◌∷◌, ◌++◌, replicate, Option, Some, None, append_assoc, refl, ap, ◌∙◌, arith, ◌^◌}
use Rattle.std.proofs.lemmas.Bool.Decides.{nat_tests}
use Rattle.osek_core.specs.declared.moves.Move.{Move}
use Rattle.osek_core.specs.declared.moves.Move.TheVariants.{Run, Tick, Poke}
use Rattle.script.specs.declared.line.Line.{Line}
use Rattle.script.specs.Writing.{summed, both, written, going_on, joined_from, moves_of}
use Rattle.script.specs.Moves.{KeepsItsMoves}

twice : (a b : ℕ) (x : Move) → replicate (a + b) x ≡ replicate a x ++ replicate b x
twice zero b x = let e : zero + b ≡ b = omega arith in rw e refl
twice (suc a) b x = let e : suc a + b ≡ suc (a + b) = omega arith in rw e (ap (λ xs. x ∷ xs) (twice a b x))

abbrev for_both : ℕ → ℕ → Move → Move → Option Line → Type 0
for_both a b s t None = Unit {0}
for_both a b s t (Some one) = replicate one.times one.step ≡ replicate a s ++ replicate b t

of_sum : (a b : ℕ) (x : Move) → for_both a b x x (summed a b x)
of_sum a b x = by (nat_le (a + b) (10 ^ 18)) refl where
  by : (small : Bool) → nat_le (a + b) (10 ^ 18) ≡ small → for_both a b x x (summed a b x)
  by true h = rw h (twice a b x)
  by false h = rw h tt

of_ticks : (a b c d : ℕ) → for_both a b (Tick c) (Tick d) (both a b (Tick c) (Tick d))
of_ticks a b c d = by (c == d) refl where
  by : (same : Bool) → (c == d) ≡ same → for_both a b (Tick c) (Tick d) (both a b (Tick c) (Tick d))
  by true h = let e : c ≡ d = grind (arith, nat_tests, h) in rw (h, ← e) (of_sum a b (Tick c))
  by false h = rw h tt

of_both : (a b : ℕ) (s t : Move) → for_both a b s t (both a b s t)
of_both a b Run Run = of_sum a b Run
of_both a b (Tick c) (Tick d) = of_ticks a b c d
of_both a b Run (Tick d) = tt
of_both a b Run (Poke at bytes) = tt
of_both a b (Tick c) Run = tt
of_both a b (Tick c) (Poke at bytes) = tt
of_both a b (Poke at bytes) t = tt

from : (last : Line) (lines : List Line) → moves_of (joined_from last lines) ≡ replicate last.times last.step ++ moves_of lines
from last [] = refl
from last (next ∷ lines) = by (both last.times next.times last.step next.step) (of_both last.times next.times last.step next.step) (λ l. from l lines) where
  by : (one : Option Line) → for_both last.times next.times last.step next.step one
      → ((l : Line) → moves_of (joined_from l lines) ≡ replicate l.times l.step ++ moves_of lines)
      → moves_of (written last one ++ joined_from (going_on next one) lines) ≡ replicate last.times last.step ++ (replicate next.times next.step ++ moves_of lines)
  by None h behind = ap (λ ms. replicate last.times last.step ++ ms) (behind next)
  by (Some one) h behind = behind one ∙ ap (λ ms. ms ++ moves_of lines) h ∙ append_assoc (replicate last.times last.step) (replicate next.times next.step) (moves_of lines)

pub keeps : KeepsItsMoves
keeps [] = refl
keeps (first ∷ lines) = from first lines
