-- What is kept beside a world: for each class the shapes of its own instance fields, what its objects take, and where its fields stand.
use Rattle.std.specs.Prelude.{◌≡◌, ℕ, ◌<◌, ◌^◌, List, [], length, slice_get, slice_index, slice_index_or}
use Rattle.jnames.specs.declared.shape.Shape.{Shape}
use Rattle.jworld.specs.Classes.{World}
use Rattle.jworld.specs.Members.{field_id}
use Rattle.b_heap.specs.declared.places.Place.{Place}
use Rattle.b_heap.specs.declared.tables.Tables.{Tables}
use Rattle.b_heap.specs.Objects.{own_shapes, object_shapes, object_cost}
use Rattle.b_heap.specs.Places.{place_of}

-- the shapes of each class's own instance fields
abbrev pub TellsShapes : World → List (List Shape) → Type 0
TellsShapes files shapes = (class : ℕ) → slice_index_or shapes class [] ≡ own_shapes files class

-- numbers of classes
abbrev pub TellsNumbers : (ℕ → ℕ) → List ℕ → Type 0
TellsNumbers number numbers = (class : ℕ) → slice_index numbers class ≡ number class

-- no object has as many fields as an int can count
abbrev pub AreFew : World → Type 0
AreFew files = (class : ℕ) → length (object_shapes files class) < 2 ^ 31

abbrev pub TellsPlaces : World → List (List Place) → Type 0
TellsPlaces files places = (class n : ℕ) → slice_get (slice_index_or places class []) n ≡ place_of files (field_id class n)

pub record IsLaidOut (files : World) (tables : Tables) : Type 0 where
  pub shapes : TellsShapes files tables.shapes
  pub costs : (class : ℕ) → slice_index_or tables.costs class 8 ≡ object_cost files class
  pub few : AreFew files
  pub places : TellsPlaces files tables.places
