-- Frames as a StackMapTable spells them (JVMS SE 8, 4.7.4).
use Rattle.std.specs.Prelude.{ℕ, ◌+◌, ◌-◌, List, [], ◌∷◌, ◌++◌, length, take, Option, Some, None, Result, Ok, slice_get, nat_le, nat_lt, ◌==◌, ◌||◌, if◌then◌else◌}
use Rattle.std.specs.Int.{w8, w16}
use Rattle.kes_text.specs.declared.refusal.Kind.TheVariants as kind
use Rattle.kes_text.specs.declared.refusal.Stop.{Stop}
use Rattle.classfile.specs.ClassFile.{ClassInfo}
use Rattle.classfile.specs.Scan.{◌>>=◌, repeat}
use Rattle.stackmap.specs.declared.frame.Declared.{Declared}
use Rattle.stackmap.specs.declared.frame.Frame.{Frame}
use Rattle.stackmap.specs.declared.vtype.VType.{VType}
use Rattle.stackmap.specs.Items.{item_at, items_at}
use Rattle.stackmap.specs.Places.{Table, place, refused, unended, number_at}

-- how far a frame of this tag, which begins at these bytes, stands behind the least place that it may have: in the tag of
-- same_frame and same_locals_1_stack_item_frame, and in two bytes of the others; tags from 128 to 246 are reserved
abbrev pub delta_at : Table → List ℕ → ℕ → List ℕ → Result (ℕ × List ℕ) Stop
delta_at t frame tag bytes =
    if nat_le tag 63 then Ok (tag, bytes)
    else if nat_le tag 127 then Ok (tag - 64, bytes)
    else if nat_le tag 246 then refused t kind.FrameTag frame
    else number_at t w16 bytes

-- no instruction stands behind place 65535
abbrev pub pc_at : Table → List ℕ → ℕ → Result ℕ Stop
pc_at t frame pc = if nat_le pc 65535 then Ok pc else refused t kind.FramePlace frame

abbrev pub one_item_at : Table → List VType → List ℕ → Result (Frame × List ℕ) Stop
one_item_at t locals bytes = do
  item ← item_at t bytes
  Ok (record { locals = locals; stack = item.0 ∷ [] }, item.1)

-- without the last of the locals, where there are so many
abbrev pub chop_at : Table → List ℕ → List VType → ℕ → List ℕ → Result (Frame × List ℕ) Stop
chop_at t frame locals count bytes =
    if nat_lt (length locals) count then refused t kind.FrameItem frame
    else Ok (record { locals = take (length locals - count) locals; stack = [] }, bytes)

abbrev pub append_at : Table → List VType → ℕ → List ℕ → Result (Frame × List ℕ) Stop
append_at t locals count bytes = do
  items ← items_at t locals count bytes
  Ok (record { locals = items.0; stack = [] }, items.1)

abbrev pub full_at : Table → List ℕ → Result (Frame × List ℕ) Stop
full_at t bytes = do
  many ← number_at t w16 bytes
  locals ← items_at t [] many.0 many.1
  deep ← number_at t w16 locals.1
  stack ← items_at t [] deep.0 deep.1
  Ok (record { locals = locals.0; stack = stack.0 }, stack.1)

-- the frame of a tag, from the locals of the frame before: same_frame and same_frame_extended, the two with one stack item,
-- chop_frame, append_frame and full_frame
abbrev pub body_at : Table → List ℕ → List VType → ℕ → List ℕ → Result (Frame × List ℕ) Stop
body_at t frame locals tag bytes =
    if nat_le tag 63 || tag == 251 then Ok (record { locals = locals; stack = [] }, bytes)
    else if nat_le tag 127 || tag == 247 then one_item_at t locals bytes
    else if nat_le tag 250 then chop_at t frame locals (251 - tag) bytes
    else if nat_le tag 254 then append_at t locals (tag - 251) bytes
    else full_at t bytes

-- the locals before a frame: of the last frame that was declared, or of the start frame
abbrev pub locals_before : Frame → Option Declared → List VType
locals_before start None = start.locals
locals_before start (Some last) = last.frame.locals

-- the least place of a frame: behind the last that was declared, or 0
abbrev pub least_place : Option Declared → ℕ
least_place None = 0
least_place (Some last) = last.pc + 1

unfoldable pub frame_at : Table → Frame → Option Declared → List ℕ → Result (Declared × List ℕ) Stop
frame_at t start last bytes = do
  tag ← number_at t w8 bytes
  delta ← delta_at t bytes tag.0 tag.1
  pc ← pc_at t bytes (least_place last + delta.0)
  body ← body_at t bytes (locals_before start last) tag.0 delta.1
  Ok (record { at = place t bytes; pc = pc; frame = body.0 }, body.1)

abbrev pub last_of : List Declared → Option Declared
last_of frames = slice_get frames (length frames - 1)

abbrev pub another_frame : Table → Frame → List Declared × List ℕ → Result (List Declared × List ℕ) Stop
another_frame t start x = do
  one ← frame_at t start (last_of x.0) x.1
  Ok (x.0 ++ one.0 ∷ [], one.1)

-- so many frames, and nothing behind them
abbrev pub frames_at : Table → Frame → ℕ → List ℕ → Result (List Declared) Stop
frames_at t start count bytes = do
  frames ← repeat count (another_frame t start) ([], bytes)
  if length frames.1 == 0 then Ok frames.0 else unended t

-- the frames of a table whose first byte stands at this place of the class file
unfoldable pub frames_of : ClassInfo → ℕ → Frame → List ℕ → Result (List Declared) Stop
frames_of class base start bytes =
    let t : Table = record { base = base; size = length bytes; class = class } in
    number_at t w16 bytes >>= λ count. frames_at t start count.0 count.1
