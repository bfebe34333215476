use Rattle.std.proofs.Common.{◌≡◌, ◌<◌, ◌≤◌, ◌^◌, ℕ, [], ◌∷◌, codes, refl, arith, lit<, lit≤}
use Rattle.std.specs.Fmt.{digits}
use Rattle.std.proofs.lemmas.List.Elements.{All-from_recursion}
use Rattle.script.specs.Reading.{line_of}
use Rattle.script.specs.InTurn.{in_turn}
use Rattle.osek_core.specs.declared.moves.Move.{Move}
use Rattle.osek_core.specs.declared.moves.Move.TheVariants.{Run, Tick, Poke}
use Rattle.script.specs.InForm.{IsWord, IsPoked, AreMoves, IsLine}
use Rattle.script.specs.Worked.{small, few}
use Rattle.script.proofs.law.small_scripts.Goals as goal

pub returns-clause-lines : goal.returns-clause-lines
unfolding line_of in_turn
returns-clause-lines c = refl

pub returns-clause-moves : goal.returns-clause-moves
unfolding line_of in_turn
returns-clause-moves c = refl

pub returns-clause-devices : goal.returns-clause-devices
unfolding line_of in_turn
returns-clause-devices c = refl

pub returns-clause-joins : goal.returns-clause-joins
unfolding digits
returns-clause-joins c = refl

ms_is_word : IsWord (codes "ms")
ms_is_word = record { some = lit≤ tt; each = All-from_recursion (λ byte. 32 < byte) (codes "ms") (lit< tt, (lit< tt, tt)) }

line_is : (times : ℕ) (step : Move) → 1 ≤ times → times ≤ 10 ^ 18 → AreMoves small times step → IsLine small (record { times = times; step = step })
line_is times step low high is = record { at_least = low; at_most = high; moves = is }

two_bytes : IsPoked (record { len = 2; bytes = 10 ∷ 255 ∷ 0 ∷ 0 ∷ 0 ∷ 0 ∷ 0 ∷ 0 ∷ [] })
two_bytes = record {
  at_least = lit≤ tt;
  at_most = lit≤ tt;
  all = refl;
  each = All-from_recursion (λ byte. byte < 2 ^ 8) (10 ∷ 255 ∷ 0 ∷ 0 ∷ 0 ∷ 0 ∷ 0 ∷ 0 ∷ []) (lit< tt, (lit< tt, (lit< tt, (lit< tt, (lit< tt, (lit< tt, (lit< tt, (lit< tt, tt))))))));
  zeros = All-from_recursion (λ byte. byte ≡ 0) (0 ∷ 0 ∷ 0 ∷ 0 ∷ 0 ∷ 0 ∷ []) (refl, (refl, (refl, (refl, (refl, (refl, tt))))));
}

pub returns-clause-form : goal.returns-clause-form
returns-clause-form c = record {
  named = record {
    counters = All-from_recursion IsWord small.counters (ms_is_word, tt);
    differ = λ i j d before within. absurd (omega arith);
    devices = lit< tt;
  };
  each = All-from_recursion (IsLine small) few (
    line_is 2 Run (lit≤ tt) (lit≤ tt) tt,
    (
      line_is 3 Run (lit≤ tt) (lit≤ tt) tt,
      (
        line_is 1 (Tick 0) (lit≤ tt) (lit≤ tt) (lit< tt),
        (line_is 1 (Poke 1 (record { len = 2; bytes = 10 ∷ 255 ∷ 0 ∷ 0 ∷ 0 ∷ 0 ∷ 0 ∷ 0 ∷ [] })) (lit≤ tt) (lit≤ tt) (record { once = refl; within = lit≤ tt; bytes = two_bytes }), tt),
      ),
    ),
  );
}
