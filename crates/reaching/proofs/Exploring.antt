-- How the pairs are looked at, one after the other.
use Rattle.std.proofs.Common.{◌≡◌, ℕ, zero, suc, ◌+◌, ◌-◌, ◌<◌, List, Option, Some, None, Result, Ok, Err, slice_get, refl, sym, ap, subst, ◌∙◌, arith}
use Rattle.kes_text.specs.declared.refusal.Stop.{Stop}
use Rattle.kes_text.specs.declared.refusal.Stop.TheVariants.{Refused, NoMemory}
use Rattle.kes_text.specs.Answers.{◌>>=◌, OrNoMemory}
use Rattle.reaching.specs.declared.graph.Mention.{Mention}
use Rattle.reaching.specs.declared.pair.Pair.{Pair}
use Rattle.reaching.specs.Reached.{Known, Looks, look_at, explored, ended}

-- what stops is answered, whether or not memory does
pub answered : {A : Type 0} (stop : Stop) (whole : Result A Stop) → Err stop ≡ whole → OrNoMemory (Err stop) whole
answered (Refused fault) whole e = e
answered NoMemory whole e = tt

module _ (mentions : Pair → Result Mention Stop) (large : Pair → Stop) where
  abbrev pub looks : ℕ → ℕ → Known → Option Pair → Result (List Pair) Stop
  looks left place known found = elim found [ None ↦ Ok known.0 | Some pair ↦ look_at mentions large pair known >>= explored left mentions large (place + 1) ]

  step : (left place : ℕ) (known : Known) → explored (suc left) mentions large place known ≡ looks left place known (slice_get known.0 place)
  unfolding explored
  step left place known = refl

  pub goes_on : (left place : ℕ) (known next : Known) (pair : Pair) → slice_get known.0 place ≡ Some pair → look_at mentions large pair known ≡ Ok next
      → explored (suc left) mentions large place known ≡ explored left mentions large (place + 1) next
  goes_on left place known next pair found looked =
      step left place known ∙ ap (looks left place known) found ∙ ap (λ r. r >>= explored left mentions large (place + 1)) looked

  pub stops : (left place : ℕ) (known : Known) (pair : Pair) (stop : Stop) → slice_get known.0 place ≡ Some pair → look_at mentions large pair known ≡ Err stop
      → explored (suc left) mentions large place known ≡ Err stop
  stops left place known pair stop found looked =
      step left place known ∙ ap (looks left place known) found ∙ ap (λ r. r >>= explored left mentions large (place + 1)) looked

  pub ends : (left place : ℕ) (known : Known) → slice_get known.0 place ≡ None → explored left mentions large place known ≡ Ok known.0
  unfolding explored
  ends zero place known none = ap (ended large known.0) none
  ends (suc left) place known none = ap (looks left place known) none

  pub is_too_large : (place : ℕ) (known : Known) (pair : Pair) → slice_get known.0 place ≡ Some pair → explored 0 mentions large place known ≡ Err (large pair)
  unfolding explored
  is_too_large place known pair found = ap (ended large known.0) found

  -- a look that stops is where the whole stops
  pub look_stops : (left place : ℕ) (known : Known) (pair : Pair) (stop : Stop) (pairs : List Pair) (whole : Result (List Pair) Stop) → slice_get known.0 place ≡ Some pair
      → Looks (Err stop) pairs (look_at mentions large pair known) → explored (suc left) mentions large place known ≡ whole → OrNoMemory (Err stop) whole
  look_stops left place known pair (Refused fault) pairs whole found looked e = sym (stops left place known pair (Refused fault) found (sym looked)) ∙ e
  look_stops left place known pair NoMemory pairs whole found looked e = tt
