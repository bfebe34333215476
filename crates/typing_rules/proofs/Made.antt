-- The table of what is made at each place, one instruction further.
use Rattle.std.proofs.Common.{◌≡◌, ◌≢◌, ◌∙◌, ℕ, zero, suc, ◌+◌, ◌<◌, Bool, true, false, List, [], ◌∷◌, ◌++◌, length, take, get_or, set, Option, Some, None, refl, sym, ap, ◌==◌, if◌then◌else◌, arith}
use Rattle.std.proofs.lemmas.Bool.Decides.{nat_tests}
use Rattle.std.proofs.lemmas.List.{take_more, get_or-set_same, get_or-set_other}
use Rattle.jcode.specs.declared.op.Ins.{Ins}
use Rattle.jworld.specs.Fields.{or_else}
use Rattle.typing_rules.specs.Environment.{made_index, made_at}

abbrev pub here : Ins → ℕ → Option ℕ
here ins k = if ins.pc == k then made_index ins.op else None

or_else-none : (a : Option ℕ) → or_else a None ≡ a
or_else-none None = refl
or_else-none (Some x) = refl

or_else-assoc : (a b c : Option ℕ) → or_else (or_else a b) c ≡ or_else a (or_else b c)
or_else-assoc None b c = refl
or_else-assoc (Some x) b c = refl

pub made_at-push : (code : List Ins) (ins : Ins) (k : ℕ) → made_at (code ++ ins ∷ []) k ≡ or_else (made_at code k) (here ins k)
made_at-push [] ins k = or_else-none (here ins k)
made_at-push (first ∷ code) ins k = ap (or_else (here first k)) (made_at-push code ins k) ∙ sym (or_else-assoc (here first k) (made_at code k) (here ins k))

updated : (b : Bool) (made : List (Option ℕ)) (pc k : ℕ) (m : Option ℕ) → (pc == k) ≡ b → pc < length made
    → get_or (set made pc (or_else (get_or made pc None) m)) k None ≡ or_else (get_or made k None) (if b then m else None)
updated true made pc k m e lt =
    let same : k ≡ pc = grind (arith, nat_tests) in
    rw same (get_or-set_same made pc (or_else (get_or made pc None) m) None lt)
updated false made pc k m e lt =
    let other : k ≢ pc = grind (arith, nat_tests) in
    get_or-set_other made pc k (or_else (get_or made pc None) m) None other ∙ sym (or_else-none (get_or made k None))

-- one instruction more
pub noted : (made : List (Option ℕ)) (code : List Ins) (i : ℕ) (ins : Ins) → i < length code → ins ≡ get_or code i ins → ins.pc < length made
    → ((k : ℕ) → get_or made k None ≡ made_at (take i code) k)
    → (k : ℕ) → get_or (set made ins.pc (or_else (get_or made ins.pc None) (made_index ins.op))) k None ≡ made_at (take (i + 1) code) k
noted made code i ins lt is within so_far k =
    let more : take (i + 1) code ≡ take i code ++ ins ∷ [] = take_more code i ins lt ∙ ap (λ x. take i code ++ x ∷ []) (sym is) in
    updated (ins.pc == k) made ins.pc k (made_index ins.op) refl within
    ∙ ap (λ a. or_else a (here ins k)) (so_far k)
    ∙ sym (made_at-push (take i code) ins k)
    ∙ ap (λ c. made_at c k) (sym more)

-- within the list the default doesn't count
pub get_or-within : (made : List (Option ℕ)) (i : ℕ) (d : Option ℕ) → i < length made → get_or made i d ≡ get_or made i None
get_or-within [] i d lt = absurd (omega arith)
get_or-within (x ∷ made) zero d lt = refl
get_or-within (x ∷ made) (suc i) d lt = let lt' : i < length made = omega arith in get_or-within made i d lt'
