-- What a walk has found of a code, as a relation between its instructions and its states.
use Rattle.std.proofs.Common.{◌≡◌, ◌∙◌, ℕ, zero, suc, Bool, true, false, List, [], ◌∷◌, length, Option, Some, None, Result, Ok, Err, slice_get, refl, sym, ap, subst, arith}
use Rattle.std.specs.List.{Contains}
use Rattle.kes_text.specs.declared.refusal.Stop.{Stop}
use Rattle.kes_text.specs.Answers.{◌>>=◌}
use Rattle.jcode.specs.declared.op.Ins.{Ins}
use Rattle.jcode.specs.Decoded.{targets}
use Rattle.stackmap.specs.declared.frame.Declared.{Declared}
use Rattle.type_states.specs.declared.state.TypeState.{TypeState}
use Rattle.type_states.specs.Assignable.{is_state_assignable}
use Rattle.typing_rules.specs.Environment.{Environment}
use Rattle.typing_rules.specs.Outcome.{falls_through}
use Rattle.verify.specs.Placing.{declared_at}
use Rattle.verify.specs.Steps.{left, passed, coming, entered}
use Rattle.verify.specs.Typing.{or_untyped, ended, states_from}
use Rattle.verify.specs.WellTyped.{FlowsTo}
use Rattle.verify.proofs.Stepped.{coming-some, coming-none, coming-falls, coming-stays, jumps-flow, flows-jump, passed-left, left-passed, entered-assignable, entered-declared, entered-none, enters-declared}

-- the rule of an instruction holds on a state, where this instruction follows or none does
pub record Rule (e : Environment) (maps : List Declared) (next : Option Ins) (ins : Ins) (state : TypeState) : Type 0 where
  pub after : TypeState
  pub leaves : left e state ins ≡ Some after
  pub jumps : (pc : ℕ) → Contains (targets ins.op) pc → FlowsTo e maps after pc
  pub next_is_there : falls_through ins.op ≡ true → (following : Ins) × (next ≡ Some following)
  pub next_flows : falls_through ins.op ≡ true → (following : Ins) (declared : TypeState) → next ≡ Some following → declared_at maps following.pc ≡ Some declared → is_state_assignable e.files after declared ≡ true
  pub next_declared : falls_through ins.op ≡ false → (following : Ins) → next ≡ Some following → (declared : TypeState) × (declared_at maps following.pc ≡ Some declared)

-- a state is what the instruction of this number leaves
pub record Leaves (e : Environment) (code : List Ins) (found : List TypeState) (j : ℕ) (state : TypeState) : Type 0 where
  pub ins : Ins
  pub before : TypeState
  pub ins_is : slice_get code j ≡ Some ins
  pub before_is : slice_get found j ≡ Some before
  pub falls : falls_through ins.op ≡ true
  pub leaves : left e before ins ≡ Some state

abbrev pub Stands : Environment → List Ins → List TypeState → Option TypeState → ℕ → TypeState → Option TypeState → Type 0
Stands e code found comes k state (Some declared) = state ≡ declared
Stands e code found comes zero state None = comes ≡ Some state
Stands e code found comes (suc j) state None = Leaves e code found j state

pub record Walked (e : Environment) (maps : List Declared) (comes : Option TypeState) (code : List Ins) (found : List TypeState) : Type 0 where
  pub one_each : length found ≡ length code
  pub stands : (k : ℕ) (ins : Ins) (state : TypeState) → slice_get code k ≡ Some ins → slice_get found k ≡ Some state → Stands e code found comes k state (declared_at maps ins.pc)
  pub starts : (ins : Ins) (declared start : TypeState) → slice_get code 0 ≡ Some ins → declared_at maps ins.pc ≡ Some declared → comes ≡ Some start → is_state_assignable e.files start declared ≡ true
  pub enters : (ins : Ins) → slice_get code 0 ≡ Some ins → comes ≡ None → (declared : TypeState) × (declared_at maps ins.pc ≡ Some declared)
  pub ends : code ≡ [] → comes ≡ None
  pub holds : (k : ℕ) (ins : Ins) (state : TypeState) → slice_get code k ≡ Some ins → slice_get found k ≡ Some state → Rule e maps (slice_get code (suc k)) ins state

-- ---- no instruction

walked-nil : (e : Environment) (maps : List Declared) → Walked e maps None [] []
walked-nil e maps = record {
  one_each = refl;
  stands = λ k ins state there has. cc;
  starts = λ ins declared start there is comes. cc;
  enters = λ ins there comes. cc;
  ends = λ is. refl;
  holds = λ k ins state there has. cc;
}

-- ---- one more instruction before

first-stands : (e : Environment) (code : List Ins) (found : List TypeState) (comes : Option TypeState) (state : TypeState) (o : Option TypeState) → entered e comes o ≡ Some state → Stands e code found comes zero state o
first-stands e code found comes state None enters = enters
first-stands e code found comes state (Some declared) enters = entered-declared e comes state declared enters

left-further : (e : Environment) (first : Ins) (code : List Ins) (one : TypeState) (found : List TypeState) (j : ℕ) (state : TypeState)
    → Leaves e code found j state → Leaves e (first ∷ code) (one ∷ found) (suc j) state
left-further e first code one found j state l =
    record { ins = l.ins; before = l.before; ins_is = l.ins_is; before_is = l.before_is; falls = l.falls; leaves = l.leaves }

further : (e : Environment) (maps : List Declared) (comes : Option TypeState) (first : Ins) (code : List Ins) (one after : TypeState) (found : List TypeState) (k : ℕ) (state : TypeState) (o : Option TypeState)
    → left e one first ≡ Some after → Stands e code found (coming first after) k state o → Stands e (first ∷ code) (one ∷ found) comes (suc k) state o
further e maps comes first code one after found zero state None leaves s =
    let parts = coming-some first after state s in
    record { ins = first; before = one; ins_is = refl; before_is = refl; falls = parts.0; leaves = leaves ∙ ap (λ (x : TypeState). Some x) parts.1 }
further e maps comes first code one after found (suc j) state None leaves s = left-further e first code one found j state s
further e maps comes first code one after found k state (Some declared) leaves s = s

next-there : (e : Environment) (maps : List Declared) (first : Ins) (after : TypeState) (code : List Ins) (found : List TypeState) → Walked e maps (coming first after) code found
    → falls_through first.op ≡ true → (following : Ins) × (slice_get code 0 ≡ Some following)
next-there e maps first after [] found w falls =
    let some : coming first after ≡ Some after = coming-falls first after falls in
    let none : coming first after ≡ None = w.ends refl in
    cc
next-there e maps first after (next ∷ code) found w falls = (next, refl)

first-holds : (e : Environment) (maps : List Declared) (first : Ins) (one after : TypeState) (code : List Ins) (found : List TypeState)
    → passed e maps one first ≡ Some after → Walked e maps (coming first after) code found → Rule e maps (slice_get code 0) first one
first-holds e maps first one after code found leaves w =
    let parts = passed-left e maps one after first leaves in
    record {
      after = after;
      leaves = parts.0;
      jumps = jumps-flow e maps after (targets first.op) parts.1;
      next_is_there = next-there e maps first after code found w;
      next_flows = λ falls following declared there is. w.starts following declared after there is (coming-falls first after falls);
      next_declared = λ stays following there. w.enters following there (coming-stays first after stays);
    }

cons-stands : (e : Environment) (maps : List Declared) (comes : Option TypeState) (first : Ins) (code : List Ins) (one after : TypeState) (found : List TypeState)
    → entered e comes (declared_at maps first.pc) ≡ Some one → left e one first ≡ Some after → Walked e maps (coming first after) code found
    → (k : ℕ) (ins : Ins) (state : TypeState) → slice_get (first ∷ code) k ≡ Some ins → slice_get (one ∷ found) k ≡ Some state → Stands e (first ∷ code) (one ∷ found) comes k state (declared_at maps ins.pc)
cons-stands e maps comes first code one after found enters leaves w zero ins state there has =
    let same : first ≡ ins = cc in
    let same' : one ≡ state = cc in
    subst (λ (i : Ins). Stands e (first ∷ code) (one ∷ found) comes zero state (declared_at maps i.pc)) same
    (subst (λ (s : TypeState). Stands e (first ∷ code) (one ∷ found) comes zero s (declared_at maps first.pc)) same'
    (first-stands e (first ∷ code) (one ∷ found) comes one (declared_at maps first.pc) enters))
cons-stands e maps comes first code one after found enters leaves w (suc k) ins state there has =
    further e maps comes first code one after found k state (declared_at maps ins.pc) leaves (w.stands k ins state there has)

cons-holds : (e : Environment) (maps : List Declared) (first : Ins) (code : List Ins) (one after : TypeState) (found : List TypeState)
    → passed e maps one first ≡ Some after → Walked e maps (coming first after) code found
    → (k : ℕ) (ins : Ins) (state : TypeState) → slice_get (first ∷ code) k ≡ Some ins → slice_get (one ∷ found) k ≡ Some state → Rule e maps (slice_get (first ∷ code) (suc k)) ins state
cons-holds e maps first code one after found leaves w zero ins state there has =
    let same : first ≡ ins = cc in
    let same' : one ≡ state = cc in
    subst (λ (i : Ins). Rule e maps (slice_get code 0) i state) same
    (subst (λ (s : TypeState). Rule e maps (slice_get code 0) first s) same' (first-holds e maps first one after code found leaves w))
cons-holds e maps first code one after found leaves w (suc k) ins state there has = w.holds k ins state there has

walked-cons : (e : Environment) (maps : List Declared) (comes : Option TypeState) (first : Ins) (code : List Ins) (one after : TypeState) (found : List TypeState)
    → entered e comes (declared_at maps first.pc) ≡ Some one → passed e maps one first ≡ Some after → Walked e maps (coming first after) code found
    → Walked e maps comes (first ∷ code) (one ∷ found)
walked-cons e maps comes first code one after found enters leaves w = record {
  one_each = ap suc w.one_each;
  stands = cons-stands e maps comes first code one after found enters (passed-left e maps one after first leaves).0 w;
  starts = λ ins declared start there is comes_is.
      let same : ins ≡ first = cc in
      let is' : declared_at maps first.pc ≡ Some declared = subst (λ (i : Ins). declared_at maps i.pc ≡ Some declared) same is in
      entered-assignable e start one declared (subst (λ o. entered e (Some start) o ≡ Some one) is' (subst (λ o. entered e o (declared_at maps first.pc) ≡ Some one) comes_is enters));
  enters = λ ins there none.
      let same : first ≡ ins = cc in
      subst (λ (i : Ins). (declared : TypeState) × (declared_at maps i.pc ≡ Some declared)) same
      (entered-none e one (declared_at maps first.pc) (subst (λ o. entered e o (declared_at maps first.pc) ≡ Some one) none enters));
  ends = λ is. cc;
  holds = cons-holds e maps first code one after found leaves w;
}

-- ---- one instruction less

first-enters : (e : Environment) (code : List Ins) (found : List TypeState) (comes : Option TypeState) (state : TypeState) (o : Option TypeState) → Stands e code found comes zero state o
    → ((declared start : TypeState) → o ≡ Some declared → comes ≡ Some start → is_state_assignable e.files start declared ≡ true) → entered e comes o ≡ Some state
first-enters e code found comes state None s fits = s
first-enters e code found comes state (Some declared) s fits = enters-declared e comes state declared s (λ start comes_is. fits declared start refl comes_is)

left-nearer : (e : Environment) (first : Ins) (code : List Ins) (one : TypeState) (found : List TypeState) (j : ℕ) (state : TypeState)
    → Leaves e (first ∷ code) (one ∷ found) (suc j) state → Leaves e code found j state
left-nearer e first code one found j state l =
    record { ins = l.ins; before = l.before; ins_is = l.ins_is; before_is = l.before_is; falls = l.falls; leaves = l.leaves }

left-first : (e : Environment) (first : Ins) (code : List Ins) (one after : TypeState) (found : List TypeState) (state : TypeState) → left e one first ≡ Some after
    → Leaves e (first ∷ code) (one ∷ found) zero state → coming first after ≡ Some state
left-first e first code one after found state leaves l =
    let ins_is : Some first ≡ Some l.ins = l.ins_is in
    let before_is : Some one ≡ Some l.before = l.before_is in
    let same : l.ins ≡ first = cc in
    let same' : l.before ≡ one = cc in
    let falls : falls_through first.op ≡ true = subst (λ (i : Ins). falls_through i.op ≡ true) same l.falls in
    let state_is : left e one first ≡ Some state = subst (λ (i : Ins). left e one i ≡ Some state) same (subst (λ s. left e s l.ins ≡ Some state) same' l.leaves) in
    coming-falls first after falls ∙ sym leaves ∙ state_is

nearer : (e : Environment) (comes : Option TypeState) (first : Ins) (code : List Ins) (one after : TypeState) (found : List TypeState) (k : ℕ) (state : TypeState) (o : Option TypeState)
    → left e one first ≡ Some after → Stands e (first ∷ code) (one ∷ found) comes (suc k) state o → Stands e code found (coming first after) k state o
nearer e comes first code one after found zero state None leaves s = left-first e first code one after found state leaves s
nearer e comes first code one after found (suc j) state None leaves s = left-nearer e first code one found j state s
nearer e comes first code one after found k state (Some declared) leaves s = s

rule-passes : (e : Environment) (maps : List Declared) (next : Option Ins) (ins : Ins) (state : TypeState) (r : Rule e maps next ins state) → passed e maps state ins ≡ Some r.after
rule-passes e maps next ins state r = left-passed e maps state r.after ins r.leaves (flows-jump e maps r.after (targets ins.op) r.jumps)

rule-ends : (e : Environment) (maps : List Declared) (next : Option Ins) (ins : Ins) (state : TypeState) (r : Rule e maps next ins state) → next ≡ None → (b : Bool) → falls_through ins.op ≡ b → coming ins r.after ≡ None
rule-ends e maps next ins state r none true falls =
    let there = r.next_is_there falls in
    let is : next ≡ Some there.0 = there.1 in
    cc
rule-ends e maps next ins state r none false stays = coming-stays ins r.after stays

walked-tail : (e : Environment) (maps : List Declared) (comes : Option TypeState) (first : Ins) (code : List Ins) (one : TypeState) (found : List TypeState)
    → Walked e maps comes (first ∷ code) (one ∷ found) → (r : Rule e maps (slice_get code 0) first one) → Walked e maps (coming first r.after) code found
walked-tail e maps comes first code one found w r = record {
  one_each = let both : suc (length found) ≡ suc (length code) = w.one_each in omega arith;
  stands = λ k ins state there has. nearer e comes first code one r.after found k state (declared_at maps ins.pc) r.leaves (w.stands (suc k) ins state there has);
  starts = λ ins declared start there is comes_is.
      let parts = coming-some first r.after start comes_is in
      subst (λ s. is_state_assignable e.files s declared ≡ true) parts.1 (r.next_flows parts.0 ins declared there is);
  enters = λ ins there none. r.next_declared (coming-none first r.after none) ins there;
  ends = λ is. rule-ends e maps (slice_get code 0) first one r (ap (λ (c : List Ins). slice_get c 0) is) (falls_through first.op) refl;
  holds = λ k ins state there has. w.holds (suc k) ins state there has;
}

-- ---- what is found, and what is related

record Step (e : Environment) (maps : List Declared) (before : ℕ) (comes : Option TypeState) (ins : Ins) (code : List Ins) (found : List TypeState) : Type 0 where
  state : TypeState
  after : TypeState
  behind : List TypeState
  enters : entered e comes (declared_at maps ins.pc) ≡ Some state
  leaves : passed e maps state ins ≡ Some after
  behind_is : states_from e maps ins.pc (coming ins after) code ≡ Ok behind
  found_is : state ∷ behind ≡ found

bound : {X Y : Type 0} (r : Result X Stop) (f : X → Result Y Stop) (y : Y) → (r >>= f) ≡ Ok y → (x : X) × (r ≡ Ok x) × (f x ≡ Ok y)
bound (Ok x) f y e = (x, refl, e)
bound (Err s) f y e = cc

or_untyped-Ok : {X : Type 0} (e : Environment) (pc : ℕ) (o : Option X) (x : X) → or_untyped e pc o ≡ Ok x → o ≡ Some x
or_untyped-Ok e pc None x is = cc
or_untyped-Ok e pc (Some y) x is = let same : y ≡ x = cc in ap (λ z. Some z) same

step-of : (e : Environment) (maps : List Declared) (before : ℕ) (comes : Option TypeState) (ins : Ins) (code : List Ins) (found : List TypeState)
    → states_from e maps before comes (ins ∷ code) ≡ Ok found → Step e maps before comes ins code found
step-of e maps before comes ins code found is =
    let first = bound (or_untyped e before (entered e comes (declared_at maps ins.pc)))
    (λ state. or_untyped e ins.pc (passed e maps state ins) >>= λ after. states_from e maps ins.pc (coming ins after) code >>= λ behind. Ok (state ∷ behind)) found is in
    let second = bound (or_untyped e ins.pc (passed e maps first.0 ins)) (λ after. states_from e maps ins.pc (coming ins after) code >>= λ behind. Ok (first.0 ∷ behind)) found first.2 in
    let third = bound (states_from e maps ins.pc (coming ins second.0) code) (λ behind. Ok (first.0 ∷ behind)) found second.2 in
    let last : Ok (first.0 ∷ third.0) ≡ Ok found = third.2 in
    record {
      state = first.0;
      after = second.0;
      behind = third.0;
      enters = or_untyped-Ok e before (entered e comes (declared_at maps ins.pc)) first.0 first.1;
      leaves = or_untyped-Ok e ins.pc (passed e maps first.0 ins) second.0 second.1;
      behind_is = third.1;
      found_is = cc;
    }

ended-Ok : (e : Environment) (before : ℕ) (comes : Option TypeState) (found : List TypeState) → ended e before comes [] ≡ Ok found → (comes ≡ None) × ([] ≡ found)
ended-Ok e before None found is = (refl, cc)
ended-Ok e before (Some state) found is = cc

pub found-walked : (e : Environment) (maps : List Declared) (before : ℕ) (comes : Option TypeState) (code : List Ins) (found : List TypeState)
    → states_from e maps before comes code ≡ Ok found → Walked e maps comes code found
found-walked e maps before comes [] found is =
    let parts = ended-Ok e before comes found is in
    subst (λ o. Walked e maps o [] found) (sym parts.0) (subst (λ (f : List TypeState). Walked e maps None [] f) parts.1 (walked-nil e maps))
found-walked e maps before comes (ins ∷ code) found is =
    let s = step-of e maps before comes ins code found is in
    subst (λ (f : List TypeState). Walked e maps comes (ins ∷ code) f) s.found_is
    (walked-cons e maps comes ins code s.state s.after s.behind s.enters s.leaves (found-walked e maps ins.pc (coming ins s.after) code s.behind s.behind_is))

pub walked-found : (e : Environment) (maps : List Declared) (before : ℕ) (comes : Option TypeState) (code : List Ins) (found : List TypeState)
    → Walked e maps comes code found → states_from e maps before comes code ≡ Ok found
walked-found e maps before comes [] [] w = rw w.ends refl
walked-found e maps before comes [] (state ∷ found) w = let uneven : suc (length found) ≡ 0 = w.one_each in absurd (omega arith)
walked-found e maps before comes (ins ∷ code) [] w = let uneven : 0 ≡ suc (length code) = w.one_each in absurd (omega arith)
walked-found e maps before comes (ins ∷ code) (state ∷ found) w =
    let r : Rule e maps (slice_get code 0) ins state = w.holds 0 ins state refl refl in
    let enters : entered e comes (declared_at maps ins.pc) ≡ Some state =
    first-enters e (ins ∷ code) (state ∷ found) comes state (declared_at maps ins.pc) (w.stands 0 ins state refl refl) (λ declared start is comes_is. w.starts ins declared start refl is comes_is) in
    let leaves : passed e maps state ins ≡ Some r.after = rule-passes e maps (slice_get code 0) ins state r in
    let behind : states_from e maps ins.pc (coming ins r.after) code ≡ Ok found = walked-found e maps ins.pc (coming ins r.after) code found (walked-tail e maps comes ins code state found w r) in
    rw (enters, leaves, behind) refl
