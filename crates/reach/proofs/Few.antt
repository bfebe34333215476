-- There are never more pairs than the sum of their sizes may be.
use Rattle.std.proofs.Common.{◌≡◌, ℕ, zero, suc, ◌+◌, ◌≤◌, true≢false, List, [], ◌∷◌, length, slice_get, Option, Some, None, Result, Ok, Err, refl, sym, ap, subst, ◌∙◌, arith}
use Rattle.std.specs.Result.{is_err}
use Rattle.std.proofs.lemmas.Option.{none-some}
use Rattle.kes_text.specs.declared.refusal.Stop.{Stop}
use Rattle.kes_text.specs.Answers.{◌>>=◌}
use Rattle.reaching.specs.declared.graph.Mention.{Mention}
use Rattle.reaching.specs.declared.pair.Pair.{Pair}
use Rattle.reaching.specs.Reached.{Known, look_at, explored, ended}
use Rattle.reaching.proofs.Exploring.{looks}
use Rattle.mentions.specs.Setting.{Setting}
use Rattle.reach.specs.Pairs.{pairs_of}

abbrev answer : (A : Type 0) → Type 0
answer A = Result A Stop

abbrev value : {A : Type 0} → A → answer A → A
value other (Ok x) = x
value other (Err stop) = other

one_value : {A : Type 0} (x y : A) → ◌≡◌ {A = answer A} (Ok x) (Ok y) → x ≡ y
one_value x y e = ap (value x) e

no_value : {A : Type 0} (x : A) (stop : Stop) → ◌≡◌ {A = answer A} (Err stop) (Ok x) → ⊥
no_value x stop e = true≢false (ap is_err e)

none_past : (pairs : List Pair) (place : ℕ) → slice_get pairs place ≡ None → length pairs ≤ place
none_past [] place none = omega arith
none_past (pair ∷ pairs) zero none = absurd (none-some pair (sym none))
none_past (pair ∷ pairs) (suc place) none = let le = none_past pairs place none in omega (le, arith)

module _ (mentions : Pair → Result Mention Stop) (large : Pair → Stop) where
  at_none : (known pairs : List Pair) (place left : ℕ) → slice_get known place ≡ None → ◌≡◌ {A = answer (List Pair)} (Ok known) (Ok pairs) → length pairs ≤ place + left
  at_none known pairs place left none e =
      let le = none_past known place none in
      let same = ap length (one_value known pairs e) in
      omega (le, same, arith)

  few : (left place : ℕ) (known : Known) (pairs : List Pair) → explored left mentions large place known ≡ Ok pairs → length pairs ≤ place + left
  unfolding explored
  few zero place known pairs e = by_end (slice_get known.0 place) refl e
    where
      by_end : (found : Option Pair) → slice_get known.0 place ≡ found → ended large known.0 found ≡ Ok pairs → length pairs ≤ place + 0
      by_end None none f = at_none known.0 pairs place 0 none f
      by_end (Some pair) some f = absurd (no_value pairs (large pair) f)
  few (suc left) place known pairs e = by_end (few left (place + 1)) (slice_get known.0 place) refl e
    where
      Behind : Type 0
      Behind = (next : Known) (pairs : List Pair) → explored left mentions large (place + 1) next ≡ Ok pairs → length pairs ≤ (place + 1) + left

      by_look : Behind → (r : Result Known Stop) → r >>= explored left mentions large (place + 1) ≡ Ok pairs → length pairs ≤ place + suc left
      by_look behind (Ok next) f = let le = behind next pairs f in omega (le, arith)
      by_look behind (Err stop) f = absurd (no_value pairs stop f)

      by_end : Behind → (found : Option Pair) → slice_get known.0 place ≡ found → looks mentions large left place known found ≡ Ok pairs → length pairs ≤ place + suc left
      by_end behind None none f = at_none known.0 pairs place (suc left) none f
      by_end behind (Some pair) some f = by_look behind (look_at mentions large pair known) f

pub are_few : (s : Setting) (pairs : List Pair) → pairs_of s ≡ Ok pairs → length pairs ≤ 1048577
unfolding pairs_of
are_few s pairs e = few _ _ 1048577 0 _ pairs e
