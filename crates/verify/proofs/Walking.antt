-- The states one after the other, as a loop finds them.
use Rattle.std.proofs.Common.{◌≡◌, ◌∙◌, ℕ, ◌+◌, ◌≤◌, ◌<◌, List, [], ◌∷◌, ◌++◌, length, map, drop, get_or, Option, Some, None, Result, Ok, Err, refl, sym, ap, append_assoc, add-one}
use Rattle.std.proofs.Math.Seq.{drop-cons}
use Rattle.std.proofs.lemmas.List.{append-nil, drop_all}
use Rattle.kes_text.specs.declared.refusal.Stop.{Stop}
use Rattle.kes_text.specs.declared.refusal.Stop.TheVariants.{Refused, NoMemory}
use Rattle.kes_text.specs.Answers.{◌>>=◌, OrNoMemory}
use Rattle.jcode.specs.declared.op.Ins.{Ins}
use Rattle.stackmap.specs.declared.frame.Declared.{Declared}
use Rattle.stackmap.specs.declared.frame.Frame.{Frame}
use Rattle.type_states.specs.declared.state.TypeState.{TypeState}
use Rattle.typing_rules.specs.Environment.{Environment}
use Rattle.verify.specs.Placing.{declared_at}
use Rattle.verify.specs.Steps.{passed, coming, entered}
use Rattle.type_states.specs.TypeStates.{frame_of}
use Rattle.verify.specs.Typing.{or_untyped, ended, states_from}

-- the frames that were found before, and those of the states that are still found
abbrev pub with_frames : List Frame → Result (List TypeState) Stop → Result (List Frame) Stop
with_frames front found = found >>= λ states. Ok (front ++ map frame_of states)

regroup : (front : List Frame) (state : TypeState) (found : Result (List TypeState) Stop)
    → with_frames front (found >>= λ behind. Ok (state ∷ behind)) ≡ with_frames (front ++ frame_of state ∷ []) found
regroup front state (Ok behind) = ap (λ (all : List Frame). Ok all) (simp append_assoc)
regroup front state (Err stop) = refl

cell : (code : List Ins) (i : ℕ) (ins : Ins) → i < length code → ins ≡ get_or code i ins → drop i code ≡ ins ∷ drop (i + 1) code
cell code i ins lt is =
    let parts : drop i code ≡ get_or code i ins ∷ drop (i + 1) code = rw (add-one, drop-cons code i ins) refl in
    parts ∙ ap (λ x. x ∷ drop (i + 1) code) (sym is)

pub goes_on : (e : Environment) (maps : List Declared) (before : ℕ) (comes : Option TypeState) (code : List Ins) (i : ℕ) (ins : Ins) (front : List Frame) (state after : TypeState) (total : Result (List Frame) Stop)
    → i < length code → ins ≡ get_or code i ins
    → Ok state ≡ or_untyped e before (entered e comes (declared_at maps ins.pc)) → Ok after ≡ or_untyped e ins.pc (passed e maps state ins)
    → with_frames front (states_from e maps before comes (drop i code)) ≡ total
    → with_frames (front ++ frame_of state ∷ []) (states_from e maps ins.pc (coming ins after) (drop (i + 1) code)) ≡ total
goes_on e maps before comes code i ins front state after total lt is enters leaves so_far =
    let step : with_frames front (states_from e maps before comes (drop i code)) ≡ with_frames (front ++ frame_of state ∷ []) (states_from e maps ins.pc (coming ins after) (drop (i + 1) code)) =
    rw (cell code i ins lt is, ← enters, ← leaves) (regroup front state (states_from e maps ins.pc (coming ins after) (drop (i + 1) code))) in
    sym step ∙ so_far

-- no state stands at an instruction
pub ends_at : (e : Environment) (maps : List Declared) (before : ℕ) (comes : Option TypeState) (code : List Ins) (i : ℕ) (ins : Ins) (front : List Frame) (stop : Stop) (total : Result (List Frame) Stop)
    → i < length code → ins ≡ get_or code i ins
    → OrNoMemory (Err stop) (or_untyped e before (entered e comes (declared_at maps ins.pc)))
    → with_frames front (states_from e maps before comes (drop i code)) ≡ total
    → OrNoMemory (Err stop) total
ends_at e maps before comes code i ins front NoMemory total lt is enters so_far = tt
ends_at e maps before comes code i ins front (Refused r) total lt is enters so_far =
    let step : with_frames front (states_from e maps before comes (drop i code)) ≡ Err (Refused r) = rw (cell code i ins lt is, ← enters) refl in
    sym step ∙ so_far

-- its rule fails
pub ends_after : (e : Environment) (maps : List Declared) (before : ℕ) (comes : Option TypeState) (code : List Ins) (i : ℕ) (ins : Ins) (front : List Frame) (state : TypeState) (stop : Stop) (total : Result (List Frame) Stop)
    → i < length code → ins ≡ get_or code i ins
    → Ok state ≡ or_untyped e before (entered e comes (declared_at maps ins.pc)) → OrNoMemory (Err stop) (or_untyped e ins.pc (passed e maps state ins))
    → with_frames front (states_from e maps before comes (drop i code)) ≡ total
    → OrNoMemory (Err stop) total
ends_after e maps before comes code i ins front state NoMemory total lt is enters leaves so_far = tt
ends_after e maps before comes code i ins front state (Refused r) total lt is enters leaves so_far =
    let step : with_frames front (states_from e maps before comes (drop i code)) ≡ Err (Refused r) = rw (cell code i ins lt is, ← enters, ← leaves) refl in
    sym step ∙ so_far

at_end : (e : Environment) (before : ℕ) (comes : Option TypeState) (front : List Frame) → ended e before comes front ≡ with_frames front (ended e before comes [])
at_end e before None front = ap (λ (all : List Frame). Ok all) (sym (append-nil front))
at_end e before (Some state) front = refl

known : (answer total : Result (List Frame) Stop) → answer ≡ total → OrNoMemory answer total
known (Ok frames) total e = e
known (Err (Refused r)) total e = e
known (Err NoMemory) total e = tt

-- the end of the code
pub is_done : (e : Environment) (maps : List Declared) (before : ℕ) (comes : Option TypeState) (code : List Ins) (i : ℕ) (front : List Frame) (answer total : Result (List Frame) Stop)
    → length code ≤ i → answer ≡ ended e before comes front
    → with_frames front (states_from e maps before comes (drop i code)) ≡ total → OrNoMemory answer total
is_done e maps before comes code i front answer total le is so_far =
    let step : with_frames front (states_from e maps before comes (drop i code)) ≡ with_frames front (ended e before comes []) = ap (λ (rest : List Ins). with_frames front (states_from e maps before comes rest)) (drop_all i code le) in
    known answer total (is ∙ at_end e before comes front ∙ sym step ∙ so_far)
