use Rattle.std.proofs.Common.{◌≡◌, ◌∙◌, List, Some, get_or, ap, sym}
use Rattle.stackmap.specs.declared.frame.Declared.{Declared}
use Rattle.type_states.specs.declared.state.TypeState.{TypeState}
use Rattle.verify.specs.Placing.{declared_at}
use Rattle.verify.proofs.Rising.{places_of, found-place, no-place}
use Rattle.verify.proofs.maps.DeclaredFrames.declared_at.Goals as goal

pub returns-in_ok-state_of-in-Ok : goal.returns-in_ok-state_of-in-Ok
returns-in_ok-state_of-in-Ok c =
    let same : c.as_slice.result.now ≡ places_of c.self.inside.maps.now = c.as_slice.ensures.value ∙ c.self.invariant.0 in
    let one : Declared = get_or c.self.inside.maps.now c.in-Ok.at c.index-self-at.result in
    let is : one ≡ get_or c.self.inside.maps.now c.in-Ok.at one = ap (get_or c.self.inside.maps.now c.in-Ok.at) c.index-self-at.is in
    ap (λ (s : TypeState). Some s) c.in_ok-state_of-in-Ok.ensures
    ∙ sym (found-place c.self.inside.maps.now c.as_slice.result.now c.args.pc c.in-Ok.at one same c.self.invariant.1 c.in-Ok.ensures.position is)
    ∙ ap (λ (maps : List Declared). declared_at maps c.args.pc) c.self.view_is

pub returns-in-Err : goal.returns-in-Err
returns-in-Err c =
    let same : c.as_slice.result.now ≡ places_of c.self.inside.maps.now = c.as_slice.ensures.value ∙ c.self.invariant.0 in
    sym (no-place c.self.inside.maps.now c.as_slice.result.now c.args.pc c.in-Err.field-0 same c.self.invariant.1 c.in-Err.ensures.position)
    ∙ ap (λ (maps : List Declared). declared_at maps c.args.pc) c.self.view_is
