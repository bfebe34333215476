-- pop, dup and swap and their forms (JVMS SE 8, 4.10.1.9): they take every type but Top, and never split a long or a double. The
-- forms of one instruction differ in which of its groups are one value of two places, and which two values of one.
use Rattle.std.specs.Prelude.{Bool, true, false, List, [], ◌∷◌, ◌++◌, Option, Some, None, if◌then◌else◌}
use Rattle.classfile.specs.Pool.{◌>>=◌}
use Rattle.stackmap.specs.declared.vtype.VType.{VType}
use Rattle.stackmap.specs.declared.vtype.VType.TheVariants.{Top, Double, Long}
use Rattle.typing_rules.specs.declared.group.Group.{Group}
use Rattle.typing_rules.specs.declared.group.Group.TheVariants.{Nothing, One, Pair}
use Rattle.type_states.specs.declared.state.TypeState.{TypeState}
use Rattle.type_states.specs.TypeStates.{is_wide}
use Rattle.typing_rules.specs.Rules.Transition.{popped}

-- a value of one place
abbrev pub is_single : VType → Bool
is_single Top = false
is_single Double = false
is_single Long = false
is_single _ = true

abbrev pub single_popped : TypeState → Option (VType × TypeState)
single_popped state = do
  top ← popped state
  if is_single top.0 then Some top else None

abbrev pub one_popped : TypeState → Option (List VType × TypeState)
one_popped state = do
  top ← single_popped state
  Some (top.0 ∷ [], top.1)

-- the group of two places of which this operand is the topmost: a long or a double, or two values
abbrev pub pair_of : VType → TypeState → Option (List VType × TypeState)
pair_of top rest =
    if is_wide top then Some (top ∷ [], rest)
    else if is_single top then (do
      second ← single_popped rest
      Some (top ∷ second.0 ∷ [], second.1))
    else None

abbrev pub pair_popped : TypeState → Option (List VType × TypeState)
pair_popped state = do
  top ← popped state
  pair_of top.0 top.1

-- the operands of a group, from the top, and the state without them
unfoldable pub group_popped : Group → TypeState → Option (List VType × TypeState)
group_popped Nothing state = Some ([], state)
group_popped One state = one_popped state
group_popped Pair state = pair_popped state

abbrev pub with_operands : List VType → TypeState → TypeState
with_operands tops state = record state { operands = tops ++ state.operands }

abbrev pub group_dropped : Group → TypeState → Option TypeState
group_dropped group state = do
  gone ← group_popped group state
  Some gone.1

-- the topmost group once more, below the group under it
abbrev pub duplicated : Group → Group → TypeState → Option TypeState
duplicated group under state = do
  tops ← group_popped group state
  below ← group_popped under tops.1
  Some (with_operands tops.0 (with_operands below.0 (with_operands tops.0 below.1)))

abbrev pub swapped : TypeState → Option TypeState
swapped state = do
  tops ← group_popped One state
  below ← group_popped One tops.1
  Some (with_operands below.0 (with_operands tops.0 below.1))
