-- What is explored is the least closed set.
use Rattle.std.proofs.Common.{◌≡◌, ◌⊎◌, inl, inr, ⊎_elim, ℕ, zero, suc, ◌+◌, ◌-◌, ◌<◌, ◌≤◌, Bool, true, false, true≢false, List, [], ◌∷◌, length, get_or, Contains, slice_get, Option, Some, None, Result, Ok, Err, nat_le, refl, sym, ap, subst, ◌∙◌, arith}
use Rattle.std.specs.Prelude.{unwrap_or, if◌then◌else◌}
use Rattle.std.specs.Result.{is_err}
use Rattle.std.proofs.lemmas.Bool.{cases_lt}
use Rattle.std.proofs.lemmas.Option.{none-some, same_Some, slice_get_within, slice_get-get_or, get_or_from_slice_get}
use Rattle.kes_text.specs.declared.refusal.Stop.{Stop}
use Rattle.kes_text.specs.Answers.{◌>>=◌}
use Rattle.reaching.specs.declared.graph.Mention.{Mention}
use Rattle.reaching.specs.declared.pair.Pair.{Pair}
use Rattle.reaching.specs.Order.{add_all}
use Rattle.reaching.specs.Reached.{Known, most, with_mention, look_at, explored, ended, reached}
use Rattle.reaching.specs.Closed.{IsReached, Root, Mentioned, AreReached, LeastClosed}
use Rattle.reaching.proofs.Exploring.{looks}
use Rattle.reaching.proofs.Inserting.{Distinct, at_place, all_pairs}
use Rattle.reaching.proofs.Putting.{stays, are_there, were, behind, distinct_all}

abbrev answer : (A : Type 0) → Type 0
answer A = Result A Stop

abbrev value : {A : Type 0} → A → answer A → A
value other (Ok x) = x
value other (Err stop) = other

one_value : {A : Type 0} (x y : A) → ◌≡◌ {A = answer A} (Ok x) (Ok y) → x ≡ y
one_value x y e = ap (value x) e

no_value : {A : Type 0} (x : A) (stop : Stop) → ◌≡◌ {A = answer A} (Err stop) (Ok x) → ⊥
no_value x stop e = true≢false (ap is_err e)

none_past : (pairs : List Pair) (place : ℕ) → slice_get pairs place ≡ None → length pairs ≤ place
none_past [] place none = omega arith
none_past (pair ∷ pairs) zero none = absurd (none-some pair (sym none))
none_past (pair ∷ pairs) (suc place) none = let le = none_past pairs place none in omega (le, arith)

module _ (mentions : Pair → Result Mention Stop) (large : Pair → Stop) (roots : List Pair) where
  -- what a pair mentions is there
  record HasMentioned (pairs : List Pair) (pair : Pair) : Type 0 where
    mention : Mention
    is : mentions pair ≡ Ok mention
    there : (x : Pair) → Contains mention.pairs x → Contains pairs x

  -- what holds while the pairs are looked at
  record SoFar (place : ℕ) (pairs : List Pair) : Type 0 where
    roots_in : (x : Pair) → Contains roots x → Contains pairs x
    are : (x : Pair) → Contains pairs x → IsReached mentions roots x
    closed : (k : ℕ) (pair : Pair) → k < place → slice_get pairs k ≡ Some pair → HasMentioned pairs pair
    distinct : Distinct pairs

  -- ---- at the end

  at_end : (place : ℕ) (pairs : List Pair) → SoFar place pairs → slice_get pairs place ≡ None → (x : Pair) → IsReached mentions roots x → Contains pairs x
  at_end place pairs so_far none x (Root _ there) = so_far.roots_in x there
  at_end place pairs so_far none x (Mentioned by _ mention is_reached is there) =
      let (k, lt, at) = at_end place pairs so_far none by is_reached in
      let here : slice_get pairs k ≡ Some by = slice_get-get_or pairs k by lt ∙ ap Some at in
      let long : length pairs ≤ place = none_past pairs place none in
      let has = so_far.closed k by (omega (lt, long, arith)) here in
      has.there x (subst (λ (m : Mention). Contains m.pairs x) (one_value mention has.mention (sym is ∙ has.is)) there)

  are_reached : (place : ℕ) (pairs : List Pair) → SoFar place pairs → slice_get pairs place ≡ None → AreReached mentions roots pairs
  are_reached place pairs so_far none = record {
    are = λ x. (at_end place pairs so_far none x, so_far.are x);
    once = all_pairs pairs so_far.distinct;
  }

  -- ---- one pair more

  -- what a look found
  record Looked (pair : Pair) (known next : Known) : Type 0 where
    mention : Mention
    is : mentions pair ≡ Ok mention
    pairs : next.0 ≡ add_all known.0 mention.pairs

  looked : (pair : Pair) (known next : Known) → look_at mentions large pair known ≡ Ok next → Looked pair known next
  looked pair known next e = by_mention (mentions pair) refl e
    where
      fits : (mention : Mention) (b : Bool) → (if b then Ok (add_all known.0 mention.pairs, known.1 + mention.size) else Err (large pair)) ≡ Ok next → next.0 ≡ add_all known.0 mention.pairs
      fits mention true f = ap (λ (k : Known). k.0) (sym (one_value (add_all known.0 mention.pairs, known.1 + mention.size) next f))
      fits mention false f = absurd (no_value next (large pair) f)

      by_mention : (r : Result Mention Stop) → mentions pair ≡ r → r >>= with_mention large pair known ≡ Ok next → Looked pair known next
      by_mention (Ok mention) is f = record { mention = mention; is = is; pairs = fits mention (nat_le mention.size (most - known.1)) f }
      by_mention (Err stop) is f = absurd (no_value next stop f)

  one_more : (place : ℕ) (pairs : List Pair) (pair : Pair) (mention : Mention) → SoFar place pairs → slice_get pairs place ≡ Some pair → mentions pair ≡ Ok mention
      → SoFar (place + 1) (add_all pairs mention.pairs)
  one_more place pairs pair mention so_far here is = record {
    roots_in = λ x there. stays mention.pairs pairs x (so_far.roots_in x there);
    are = λ x there. ⊎_elim (so_far.are x) (Mentioned pair x mention (so_far.are pair at) is) (were mention.pairs pairs x there);
    closed = closed;
    distinct = distinct_all mention.pairs pairs so_far.distinct;
  }
    where
      within : place < length pairs
      within = slice_get_within pairs place pair here

      at : Contains pairs pair
      at = (place, within, get_or_from_slice_get pairs place pair pair here)

      old : (k : ℕ) → k < length pairs → slice_get (add_all pairs mention.pairs) k ≡ slice_get pairs k
      old k lt = let (rest, e) = behind mention.pairs pairs in ap (λ ps. slice_get ps k) e ∙ at_place pairs rest k lt

      closed : (k : ℕ) (other : Pair) → k < place + 1 → slice_get (add_all pairs mention.pairs) k ≡ Some other → HasMentioned (add_all pairs mention.pairs) other
      closed k other low is_other = by_place (cases_lt k place)
        where
          was : slice_get pairs k ≡ Some other
          was = sym (old k (omega (low, within, arith))) ∙ is_other

          by_place : (k < place) ⊎ (place ≤ k) → HasMentioned (add_all pairs mention.pairs) other
          by_place (inl before) =
              let has = so_far.closed k other before was in
              record { mention = has.mention; is = has.is; there = λ x there. stays mention.pairs pairs x (has.there x there) }
          by_place (inr from) =
              let same : k ≡ place = omega (low, from, arith) in
              let one : pair ≡ other = same_Some pair other (sym here ∙ ap (slice_get pairs) (sym same) ∙ was) in
              record { mention = mention; is = ap mentions (sym one) ∙ is; there = λ x there. are_there mention.pairs pairs x there }

  -- ---- all of them

  -- what is left to look at behind a place is the least closed set
  abbrev Behind : ℕ → ℕ → Type 0
  Behind left place = (next : Known) (pairs : List Pair) → SoFar (place + 1) next.0 → explored left mentions large (place + 1) next ≡ Ok pairs → AreReached mentions roots pairs

  all : (left place : ℕ) (known : Known) (pairs : List Pair) → SoFar place known.0 → explored left mentions large place known ≡ Ok pairs → AreReached mentions roots pairs
  unfolding explored
  all zero place known pairs so_far e = by_end (slice_get known.0 place) refl e
    where
      by_end : (found : Option Pair) → slice_get known.0 place ≡ found → ended large known.0 found ≡ Ok pairs → AreReached mentions roots pairs
      by_end None none f = subst (AreReached mentions roots) (one_value known.0 pairs f) (are_reached place known.0 so_far none)
      by_end (Some pair) some f = absurd (no_value pairs (large pair) f)
  all (suc left) place known pairs so_far e = by_end (all left (place + 1)) (slice_get known.0 place) refl e
    where
      by_look : Behind left place → (pair : Pair) (r : Result Known Stop) → slice_get known.0 place ≡ Some pair → look_at mentions large pair known ≡ r → r >>= explored left mentions large (place + 1) ≡ Ok pairs → AreReached mentions roots pairs
      by_look behind_it pair (Ok next) some l f =
          let found = looked pair known next l in
          behind_it next pairs (subst (SoFar (place + 1)) (sym found.pairs) (one_more place known.0 pair found.mention so_far some found.is)) f
      by_look behind_it pair (Err stop) some l f = absurd (no_value pairs stop f)

      by_end : Behind left place → (found : Option Pair) → slice_get known.0 place ≡ found → looks mentions large left place known found ≡ Ok pairs → AreReached mentions roots pairs
      by_end behind_it None none f = subst (AreReached mentions roots) (one_value known.0 pairs f) (are_reached place known.0 so_far none)
      by_end behind_it (Some pair) some f = by_look behind_it pair (look_at mentions large pair known) some refl f

  at_first : SoFar 0 (add_all [] roots)
  at_first = record {
    roots_in = λ x there. are_there roots [] x there;
    are = λ x there. ⊎_elim (λ none. absurd (let lt = none.1 in omega (lt, arith))) (Root x) (were roots [] x there);
    closed = λ k pair low is. absurd (omega (low, arith));
    distinct = distinct_all roots [] tt;
  }

pub least_closed : LeastClosed
least_closed mentions large roots pairs e = all mentions large roots (most + 1) 0 (add_all [] roots, 0) pairs (at_first mentions large roots) e
