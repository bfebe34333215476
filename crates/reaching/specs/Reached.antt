-- The pairs that are reached from roots, in the order of their first mention: first the roots, and behind them what each of
-- the pairs mentions, one pair after the other.
use Rattle.std.specs.Prelude.{◌≡◌, ℕ, zero, suc, ◌+◌, ◌-◌, nat_le, List, [], Option, Some, None, Result, Ok, Err, slice_get, if◌then◌else◌}
use Rattle.kes_text.specs.declared.refusal.Stop.{Stop}
use Rattle.kes_text.specs.declared.refusal.Stop.TheVariants.{Refused, NoMemory}
use Rattle.kes_text.specs.Answers.{◌>>=◌}
use Rattle.reaching.specs.declared.graph.Mention.{Mention}
use Rattle.reaching.specs.declared.pair.Pair.{Pair}
use Rattle.reaching.specs.Order.{add_all}

-- the greatest sum of the sizes
abbrev pub most : ℕ
most = 1048576

-- the pairs that are known, with the sum of the sizes of those that were looked at
abbrev pub Known : Type 0
Known = List Pair × ℕ

-- what is known once a pair was looked at that mentions this
abbrev pub with_mention : (Pair → Stop) → Pair → Known → Mention → Result Known Stop
with_mention large pair known mention =
    if nat_le mention.size (most - known.1) then Ok (add_all known.0 mention.pairs, known.1 + mention.size) else Err (large pair)

abbrev pub look_at : (Pair → Result Mention Stop) → (Pair → Stop) → Pair → Known → Result Known Stop
look_at mentions large pair known = mentions pair >>= with_mention large pair known

-- each pair has an instruction, so with so many the sum is too large
abbrev pub ended : (Pair → Stop) → List Pair → Option Pair → Result (List Pair) Stop
ended large pairs None = Ok pairs
ended large pairs (Some pair) = Err (large pair)

-- the pairs from a place on are looked at, at most so many
unfoldable pub explored : ℕ → (Pair → Result Mention Stop) → (Pair → Stop) → ℕ → Known → Result (List Pair) Stop
explored zero mentions large place known = ended large known.0 (slice_get known.0 place)
explored (suc left) mentions large place known =
    elim (slice_get known.0 place) [ None ↦ Ok known.0 | Some pair ↦ look_at mentions large pair known >>= explored left mentions large (place + 1) ]

abbrev pub reached : (Pair → Result Mention Stop) → (Pair → Stop) → List Pair → Result (List Pair) Stop
reached mentions large roots = explored (most + 1) mentions large 0 (add_all [] roots, 0)

-- what a look answers, the sum of the sizes, and the pairs that it leaves, are what is known
abbrev pub Looks : Result ℕ Stop → List Pair → Result Known Stop → Type 0
Looks (Ok size) pairs defined = Ok (pairs, size) ≡ defined
Looks (Err (Refused fault)) pairs defined = Err (Refused fault) ≡ defined
Looks (Err NoMemory) pairs defined = Unit {0}
