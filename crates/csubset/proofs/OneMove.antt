-- A trace and an image, one move at a time.
use Rattle.std.proofs.Common.{◌≡◌, List, ◌∷◌, ◌++◌, ap, ◌∙◌}
use Rattle.osek_core.specs.declared.event.Event.{Event}
use Rattle.osek_core.specs.declared.moves.Move.{Move}
use Rattle.csubset.specs.Machine.Application.{CApplication}
use Rattle.csubset.specs.Machine.State.{State}
use Rattle.csubset.specs.Machine.Trace.{Moved, c_move, c_trace_from}
use Rattle.csubset.specs.Image.{move_image, image_from}

pub trace-move : (app : CApplication) (s : State) (m : Move) (moves : List Move) (moved : Moved) (events : List Event) → c_move app s m ≡ moved → c_trace_from app moved.state moves ≡ events → c_trace_from app s (m ∷ moves) ≡ moved.events ++ events
trace-move app s m moves moved events here behind =
    ap (λ r. r.events ++ c_trace_from app r.state moves) here ∙ ap (λ e. moved.events ++ e) behind

pub image-move : (app : CApplication) (s : State) (m : Move) (moves : List Move) (moved : Moved) (first behind : List Move) → move_image app s m ≡ first → c_move app s m ≡ moved → image_from app moved.state moves ≡ behind → image_from app s (m ∷ moves) ≡ first ++ behind
image-move app s m moves moved first behind shown here later =
    ap (λ x. x ++ image_from app (c_move app s m).state moves) shown
    ∙ ap (λ r. first ++ image_from app r.state moves) here
    ∙ ap (λ x. first ++ x) later
