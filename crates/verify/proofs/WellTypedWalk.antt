-- What is typed is what is well-typed, and what follows of it.
use Rattle.std.proofs.Common.{◌≡◌, ◌∙◌, ℕ, zero, suc, ◌≤◌, ◌<◌, Bool, true, false, nat_le, List, [], ◌∷◌, length, map, reverse, Option, Some, None, Result, Ok, Err, slice_get, get_or, refl, sym, ap, subst, arith}
use Rattle.std.specs.List.{All, Contains}
use Rattle.std.proofs.lemmas.Bool.{and_parts, leb-true}
use Rattle.std.proofs.lemmas.List.Elements.{All-map, All-contains_itself, All-weaker}
use Rattle.std.proofs.lemmas.Option.{slice_get-get_or}
use Rattle.kes_text.specs.declared.refusal.Stop.{Stop}
use Rattle.kes_text.specs.Answers.{◌>>=◌}
use Rattle.jcode.specs.declared.op.Ins.{Ins}
use Rattle.jcode.specs.Decoded.{targets, begins_at}
use Rattle.jworld.specs.declared.ids.MethodId.{MethodId}
use Rattle.jworld.specs.Classes.{World}
use Rattle.stackmap.specs.declared.frame.Declared.{Declared}
use Rattle.stackmap.specs.declared.frame.Frame.{Frame}
use Rattle.stackmap.specs.declared.vtype.VType.{VType}
use Rattle.type_states.specs.declared.state.TypeState.{TypeState}
use Rattle.type_states.specs.Assignable.{is_state_assignable}
use Rattle.typing_rules.specs.Environment.{Environment, environment_of}
use Rattle.verify.specs.Laws.{FoundIsWellTyped, WellTypedIsFound, StatesAreUnique, IsWithin, FramesAreWithin, JumpsLand}
use Rattle.verify.specs.Placing.{first_unplaced, declared_at}
use Rattle.verify.specs.Steps.{is_bounded}
use Rattle.type_states.specs.TypeStates.{is_wide, entries_of, frame_of, places}
use Rattle.verify.specs.Typing.{start_state, states, framed, typed_in, typed_where, typed}
use Rattle.verify.specs.WellTyped.{StandsAt, RuleHolds, IsWellTyped}
use Rattle.type_states.proofs.Reversal.{places-reverse}
use Rattle.verify.proofs.Rising.{placed-begins}
use Rattle.verify.proofs.Stepped.{left-bounded, environment_of-instructions}
use Rattle.verify.proofs.Walked.{Rule, Stands, Walked, found-walked, walked-found}

-- ---- between a walk and the relation

stands-at : (e : Environment) (found : List TypeState) (k : ℕ) (state : TypeState) (o : Option TypeState) → Stands e e.instructions found (Some (start_state e)) k state o → StandsAt e found k state o
stands-at e found k state (Some declared) s = s
stands-at e found zero state None s = let same : Some (start_state e) ≡ Some state = s in cc
stands-at e found (suc j) state None s =
    record { ins = s.ins; before = s.before; ins_is = s.ins_is; before_is = s.before_is; falls = s.falls; leaves = s.leaves }

stands-of : (e : Environment) (found : List TypeState) (k : ℕ) (state : TypeState) (o : Option TypeState) → StandsAt e found k state o → Stands e e.instructions found (Some (start_state e)) k state o
stands-of e found k state (Some declared) s = s
stands-of e found zero state None s = ap (λ (x : TypeState). Some x) (sym s)
stands-of e found (suc j) state None s =
    record { ins = s.ins; before = s.before; ins_is = s.ins_is; before_is = s.before_is; falls = s.falls; leaves = s.leaves }

rule-holds : (e : Environment) (maps : List Declared) (k : ℕ) (ins : Ins) (state : TypeState) → Rule e maps (slice_get e.instructions (suc k)) ins state → RuleHolds e maps k ins state
rule-holds e maps k ins state r =
    record { after = r.after; leaves = r.leaves; jumps = r.jumps; next_is_there = r.next_is_there; next_flows = r.next_flows; next_declared = r.next_declared }

rule-of : (e : Environment) (maps : List Declared) (k : ℕ) (ins : Ins) (state : TypeState) → RuleHolds e maps k ins state → Rule e maps (slice_get e.instructions (suc k)) ins state
rule-of e maps k ins state r =
    record { after = r.after; leaves = r.leaves; jumps = r.jumps; next_is_there = r.next_is_there; next_flows = r.next_flows; next_declared = r.next_declared }

walked-related : (e : Environment) (maps : List Declared) (found : List TypeState) → first_unplaced e.instructions 0 maps ≡ None → Walked e maps (Some (start_state e)) e.instructions found → IsWellTyped e maps found
walked-related e maps found placed w = record {
  placed = placed;
  one_each = w.one_each;
  stands = λ k ins state there has. stands-at e found k state (declared_at maps ins.pc) (w.stands k ins state there has);
  starts = λ ins declared there is. w.starts ins declared (start_state e) there is refl;
  holds = λ k ins state there has. rule-holds e maps k ins state (w.holds k ins state there has);
}

related-walked : (e : Environment) (maps : List Declared) (first : Ins) (code : List Ins) (found : List TypeState) → e.instructions ≡ first ∷ code → IsWellTyped e maps found → Walked e maps (Some (start_state e)) e.instructions found
related-walked e maps first code found more t = record {
  one_each = t.one_each;
  stands = λ k ins state there has. stands-of e found k state (declared_at maps ins.pc) (t.stands k ins state there has);
  starts = λ ins declared start there is comes_is. let same : start_state e ≡ start = cc in subst (λ s. is_state_assignable e.files s declared ≡ true) same (t.starts ins declared there is);
  enters = λ ins there none. cc;
  ends = λ none. cc;
  holds = λ k ins state there has. rule-of e maps k ins state (t.holds k ins state there has);
}

nothing-related : (e : Environment) (maps : List Declared) → e.instructions ≡ [] → first_unplaced e.instructions 0 maps ≡ None → IsWellTyped e maps []
nothing-related e maps none placed = record {
  placed = placed;
  one_each = ap length (sym none);
  stands = λ k ins state there has. cc;
  starts = λ ins declared there is. let nothing : slice_get {X = Ins} [] 0 ≡ Some ins = subst (λ (c : List Ins). slice_get c 0 ≡ Some ins) none there in cc;
  holds = λ k ins state there has. cc;
}

related-by : (e : Environment) (maps : List Declared) (found : List TypeState) (code : List Ins) → e.instructions ≡ code → first_unplaced e.instructions 0 maps ≡ None → states e maps code ≡ Ok found → IsWellTyped e maps found
related-by e maps found [] is placed finds = let none : [] ≡ found = cc in subst (λ (f : List TypeState). IsWellTyped e maps f) none (nothing-related e maps is placed)
related-by e maps found (ins ∷ code) is placed finds =
    walked-related e maps found placed
    (subst (λ (c : List Ins). Walked e maps (Some (start_state e)) c found) (sym is) (found-walked e maps ins.pc (Some (start_state e)) (ins ∷ code) found finds))

pub found-related : (e : Environment) (maps : List Declared) (found : List TypeState) → first_unplaced e.instructions 0 maps ≡ None → states e maps e.instructions ≡ Ok found → IsWellTyped e maps found
found-related e maps found placed finds = related-by e maps found e.instructions refl placed finds

nothing : {X : Type 0} (found : List X) → length found ≡ 0 → found ≡ []
nothing [] e = refl
nothing (x ∷ found) e = absurd (omega arith)

found-by : (e : Environment) (maps : List Declared) (found : List TypeState) (code : List Ins) → e.instructions ≡ code → IsWellTyped e maps found → states e maps code ≡ Ok found
found-by e maps found [] is t = ap (λ (f : List TypeState). Ok f) (sym (nothing found (t.one_each ∙ ap length is)))
found-by e maps found (ins ∷ code) is t =
    walked-found e maps ins.pc (Some (start_state e)) (ins ∷ code) found
    (subst (λ (c : List Ins). Walked e maps (Some (start_state e)) c found) is (related-walked e maps ins code found is t))

pub related-found : (e : Environment) (maps : List Declared) (found : List TypeState) → IsWellTyped e maps found → states e maps e.instructions ≡ Ok found
related-found e maps found t = found-by e maps found e.instructions refl t

pub unique : StatesAreUnique
unique e maps one other t t' =
    let first : states e maps e.instructions ≡ Ok one = related-found e maps one t in
    let second : states e maps e.instructions ≡ Ok other = related-found e maps other t' in
    cc

-- ---- the method

record Parts (files : World) (method : MethodId) (code : List Ins) (maps : List Declared) (frames : List Frame) : Type 0 where
  e : Environment
  found : List TypeState
  e_is : environment_of files method code ≡ Some e
  placed : first_unplaced code 0 maps ≡ None
  finds : states e maps e.instructions ≡ Ok found
  frames_are : map frame_of found ≡ frames

framed-Ok : (found : Result (List TypeState) Stop) (frames : List Frame) → framed found ≡ Ok frames → (states : List TypeState) × (found ≡ Ok states) × (map frame_of states ≡ frames)
framed-Ok (Ok states) frames is = let same : map frame_of states ≡ frames = cc in (states, refl, same)
framed-Ok (Err stop) frames is = cc

parts-by : (files : World) (method : MethodId) (code : List Ins) (maps : List Declared) (frames : List Frame) (o : Option Environment) (unplaced : Option ℕ)
    → environment_of files method code ≡ o → first_unplaced code 0 maps ≡ unplaced → typed_where maps o unplaced ≡ Ok frames → Parts files method code maps frames
parts-by files method code maps frames o (Some at) e_is placed is = cc
parts-by files method code maps frames None None e_is placed is = cc
parts-by files method code maps frames (Some e) None e_is placed is =
    let found = framed-Ok (states e maps e.instructions) frames is in
    record { e = e; found = found.0; e_is = e_is; placed = placed; finds = found.1; frames_are = found.2 }

parts-of : (files : World) (method : MethodId) (code : List Ins) (maps : List Declared) (frames : List Frame) → typed files method code maps ≡ Ok frames → Parts files method code maps frames
unfolding typed
parts-of files method code maps frames is = parts-by files method code maps frames (environment_of files method code) (first_unplaced code 0 maps) refl refl is

parts-related : (files : World) (method : MethodId) (code : List Ins) (maps : List Declared) (frames : List Frame) (p : Parts files method code maps frames) → IsWellTyped p.e maps p.found
parts-related files method code maps frames p =
    let own : p.e.instructions ≡ code = environment_of-instructions files method code p.e p.e_is in
    found-related p.e maps p.found (ap (λ (c : List Ins). first_unplaced c 0 maps) own ∙ p.placed) p.finds

pub well_typed : FoundIsWellTyped
well_typed files method code maps frames is =
    let p = parts-of files method code maps frames is in
    record { checked = p.e; states = p.found; checked_is = p.e_is; well_typed = parts-related files method code maps frames p; frames_are = sym p.frames_are }

pub found : WellTypedIsFound
unfolding typed
found files method code maps frames a =
    let own : a.checked.instructions ≡ code = environment_of-instructions files method code a.checked a.checked_is in
    let placed : first_unplaced code 0 maps ≡ None = ap (λ (c : List Ins). first_unplaced c 0 maps) (sym own) ∙ a.well_typed.placed in
    let finds : states a.checked maps a.checked.instructions ≡ Ok a.states = related-found a.checked maps a.states a.well_typed in
    ap (λ o. typed_where maps (environment_of files method code) o) placed
    ∙ ap (typed_in maps) a.checked_is
    ∙ ap framed finds
    ∙ ap (λ (f : List Frame). Ok f) (sym a.frames_are)

-- ---- what follows

there : {X : Type 0} (xs : List X) (k : ℕ) → k < length xs → (x : X) × (slice_get xs k ≡ Some x)
there [] k lt = absurd (omega arith)
there (x ∷ xs) zero lt = (x, refl)
there (x ∷ xs) (suc k) lt = let less : k < length xs = omega arith in there xs k less

entries-length : (second : Bool) (slots : List VType) → length (entries_of second slots) ≤ length slots
entries-length second [] = omega arith
entries-length true (t ∷ slots) = let less : length (entries_of false slots) ≤ length slots = entries-length false slots in omega arith
entries-length false (t ∷ slots) = let less : length (entries_of (is_wide t) slots) ≤ length slots = entries-length (is_wide t) slots in omega arith

within : (e : Environment) (state : TypeState) → is_bounded e state ≡ true → IsWithin e.code.max_stack e.code.max_locals (frame_of state)
within e state bounded =
    let parts = and_parts (nat_le (places state.operands) e.code.max_stack) (nat_le (length state.slots) e.code.max_locals) bounded in
    let deep : places state.operands ≤ e.code.max_stack = leb-true (places state.operands) e.code.max_stack parts.0 in
    let long : length state.slots ≤ e.code.max_locals = leb-true (length state.slots) e.code.max_locals parts.1 in
    let less : length (entries_of false state.slots) ≤ length state.slots = entries-length false state.slots in
    let same : places (reverse state.operands) ≡ places state.operands = places-reverse state.operands in
    record { stack = omega arith; locals = omega arith }

state-within : (e : Environment) (maps : List Declared) (states : List TypeState) → IsWellTyped e maps states → All (λ state. IsWithin e.code.max_stack e.code.max_locals (frame_of state)) states
state-within e maps states t k d lt =
    let lt' : k < length e.instructions = let same : length states ≡ length e.instructions = t.one_each in omega arith in
    let ins = there e.instructions k lt' in
    let rule = t.holds k ins.0 (get_or states k d) ins.1 (slice_get-get_or states k d lt) in
    within e (get_or states k d) (left-bounded e (get_or states k d) rule.after ins.0 rule.leaves)

pub bounded : FramesAreWithin
bounded files method code maps frames e is e_is =
    let p = parts-of files method code maps frames is in
    let same : p.e ≡ e = let both : Some p.e ≡ Some e = sym p.e_is ∙ e_is in cc in
    subst (λ (x : Environment). All (IsWithin x.code.max_stack x.code.max_locals) frames) same
    (subst (λ (f : List Frame). All (IsWithin p.e.code.max_stack p.e.code.max_locals) f) p.frames_are
    (All-map (IsWithin p.e.code.max_stack p.e.code.max_locals) frame_of p.found (state-within p.e maps p.found (parts-related files method code maps frames p))))

pub land : JumpsLand
land files method code maps frames is k d lt =
    let p = parts-of files method code maps frames is in
    let t : IsWellTyped p.e maps p.found = parts-related files method code maps frames p in
    let own : p.e.instructions ≡ code = environment_of-instructions files method code p.e p.e_is in
    let lt' : k < length p.found = let same : length p.found ≡ length code = t.one_each ∙ ap length own in omega arith in
    let state = there p.found k lt' in
    let ins_is : slice_get p.e.instructions k ≡ Some (get_or code k d) = ap (λ (c : List Ins). slice_get c k) own ∙ slice_get-get_or code k d lt in
    let rule = t.holds k (get_or code k d) state.0 ins_is state.1 in
    All-weaker (Contains (targets (get_or code k d).op)) (λ pc. begins_at code pc ≡ true)
    (λ pc among. let f = rule.jumps pc among in placed-begins code 0 maps pc f.declared p.placed f.declared_is)
    (targets (get_or code k d).op) (All-contains_itself (targets (get_or code k d).op))
