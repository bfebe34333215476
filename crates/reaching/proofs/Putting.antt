-- Pairs that are put behind others, each once.
use Rattle.std.proofs.Common.{◌≡◌, ◌⊎◌, ℕ, Bool, true, ◌&&◌, nat_eq, List, ◌++◌, Contains, refl, ap, ◌∙◌, eqb-true, eq-eqb}
use Rattle.std.proofs.lemmas.Bool.{and_parts, and_from}
use Rattle.reaching.specs.declared.pair.Pair.{Pair}
use Rattle.reaching.specs.Order.{is_same, add_all}
use Rattle.reaching.proofs.Inserting as inserting
use Rattle.reaching.proofs.Inserting.{Distinct}

-- pairs of the same numbers are one
pub is_one : (one other : Pair) → is_same one other ≡ true → one ≡ other
is_one one other same =
    let (both, n) = and_parts (nat_eq one.domain other.domain && nat_eq one.method.class.n other.method.class.n) (nat_eq one.method.n other.method.n) same in
    let (domain, class) = and_parts (nat_eq one.domain other.domain) (nat_eq one.method.class.n other.method.class.n) both in
    of_numbers (eqb-true one.domain other.domain domain) (eqb-true one.method.class.n other.method.class.n class) (eqb-true one.method.n other.method.n n)
  where
    made : ℕ → ℕ → ℕ → Pair
    made domain class n = record { domain = domain; method = record { class = record { n = class }; n = n } }

    of_numbers : one.domain ≡ other.domain → one.method.class.n ≡ other.method.class.n → one.method.n ≡ other.method.n → one ≡ other
    of_numbers d c n =
        ap (λ x. made x one.method.class.n one.method.n) d ∙ ap (λ x. made other.domain x one.method.n) c ∙ ap (made other.domain other.method.class.n) n

pub is_itself : (pair : Pair) → is_same pair pair ≡ true
is_itself pair =
    and_from (nat_eq pair.domain pair.domain && nat_eq pair.method.class.n pair.method.class.n) (nat_eq pair.method.n pair.method.n)
    (and_from (nat_eq pair.domain pair.domain) (nat_eq pair.method.class.n pair.method.class.n) (eq-eqb pair.domain pair.domain refl) (eq-eqb pair.method.class.n pair.method.class.n refl))
    (eq-eqb pair.method.n pair.method.n refl)

-- ---- all of some pairs

pub stays : (more pairs : List Pair) (x : Pair) → Contains pairs x → Contains (add_all pairs more) x
stays = inserting.stays is_same is_one is_itself

pub are_there : (more pairs : List Pair) (x : Pair) → Contains more x → Contains (add_all pairs more) x
are_there = inserting.are_there is_same is_one is_itself

pub were : (more pairs : List Pair) (x : Pair) → Contains (add_all pairs more) x → Contains pairs x ⊎ Contains more x
were = inserting.were is_same is_one is_itself

pub behind : (more pairs : List Pair) → (rest : List Pair) × (add_all pairs more ≡ pairs ++ rest)
behind = inserting.behind is_same is_one is_itself

pub distinct_all : (more pairs : List Pair) → Distinct pairs → Distinct (add_all pairs more)
distinct_all = inserting.distinct_all is_same is_one is_itself
