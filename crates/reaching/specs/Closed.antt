-- What is reached is the least set of pairs that has the roots, and with a pair what it mentions.
use Rattle.std.specs.Prelude.{◌≡◌, ◌≢◌, ◌↔◌, List, Contains, AllPairs, Result, Ok}
use Rattle.kes_text.specs.declared.refusal.Stop.{Stop}
use Rattle.reaching.specs.declared.graph.Mention.{Mention}
use Rattle.reaching.specs.declared.pair.Pair.{Pair}
use Rattle.reaching.specs.Reached.{reached}

pub data IsReached (mentions : Pair → Result Mention Stop) (roots : List Pair) : Pair → Type 0 where
  Root : (pair : Pair) → Contains roots pair → IsReached mentions roots pair
  Mentioned : (by other : Pair) (mention : Mention) → IsReached mentions roots by → mentions by ≡ Ok mention → Contains mention.pairs other → IsReached mentions roots other

-- The list has what is reached and nothing else, each once.
pub record AreReached (mentions : Pair → Result Mention Stop) (roots pairs : List Pair) : Type 0 where
  pub are : (pair : Pair) → IsReached mentions roots pair ↔ Contains pairs pair
  pub once : AllPairs (λ one another. one ≢ another) pairs

abbrev pub LeastClosed : Type 0
LeastClosed = (mentions : Pair → Result Mention Stop) (large : Pair → Stop) (roots pairs : List Pair) → reached mentions large roots ≡ Ok pairs → AreReached mentions roots pairs
