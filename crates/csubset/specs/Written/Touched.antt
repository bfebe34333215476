-- The bytes of regions that the next step of an actor touches, and the domain that the step belongs to.
use Rattle.std.specs.Prelude.{ℕ, List, [], ◌∷◌, map, Option, Some, None, slice_get}
use Rattle.std.specs.List.{range_with_len}
use Rattle.std.specs.Option.{option_map}
use Rattle.csubset.specs.declared.statement.Form.{Form}
use Rattle.csubset.specs.declared.statement.Form.TheVariants.{Load, Store}
use Rattle.csubset.specs.declared.program.CProgram.{CProgram}
use Rattle.csubset.specs.declared.map.Map.{Map}
use Rattle.csubset.specs.Machine.Expression.{atom_value}
use Rattle.csubset.specs.Machine.Application.{form_at}
use Rattle.csubset.specs.Machine.State.{Frame, Actor}

-- a byte of a region, and whether it is loaded or stored
pub data Access : Type 0 where
  Loads : (region byte : ℕ) → Access
  Stores : (region byte : ℕ) → Access

-- the bytes of a cell
abbrev pub cell : (ℕ → Access) → ℕ → Option ℕ → List Access
cell access width None = []
cell access width (Some at) = map access (range_with_len at width)

abbrev pub accesses : List ℕ → Form → List Access
accesses words (Load to width region at) = cell (Loads region) width (atom_value words at)
accesses words (Store width region at value) = cell (Stores region) width (atom_value words at)
accesses words form = []

-- by the statement of the actor's innermost frame
abbrev pub touched : CProgram → Actor → List Access
touched program actor = of_frames actor.frames
  where
    of_form : Frame → Option Form → List Access
    of_form f None = []
    of_form f (Some form) = accesses f.words form

    of_frames : List Frame → List Access
    of_frames [] = []
    of_frames (f ∷ callers) = of_form f (form_at program f.function f.place)

-- the domain of the innermost frame's function in the map
abbrev pub domain_of : Map → Actor → Option ℕ
domain_of map actor = of_frames actor.frames
  where
    of_frames : List Frame → Option ℕ
    of_frames [] = None
    of_frames (f ∷ callers) = option_map (λ row. row.domain) (slice_get map.functions f.function)
