-- Verification types as a table spells them (JVMS SE 8, 4.7.4): a tag, and of an object its class, of an object that isn't
-- initialised yet the place of its new.
use Rattle.std.specs.Prelude.{ℕ, List, [], ◌∷◌, ◌++◌, Option, Some, None, Result, Ok, ◌==◌, if◌then◌else◌}
use Rattle.std.specs.Int.{w8, w16}
use Rattle.kes_text.specs.declared.refusal.Kind.TheVariants as kind
use Rattle.kes_text.specs.declared.refusal.Stop.{Stop}
use Rattle.classfile.specs.Pool.{class_name}
use Rattle.classfile.specs.Scan.{◌>>=◌, repeat}
use Rattle.stackmap.specs.declared.vtype.VType.{VType}
use Rattle.stackmap.specs.declared.vtype.VType.TheVariants.{Top, Integer, Float, Double, Long, Null, UninitThis, Object, Uninit}
use Rattle.stackmap.specs.Places.{Table, refused, number_at}

-- the class that an index names, of the item that begins at these bytes
abbrev pub object_of : Table → List ℕ → Option (List ℕ) → List ℕ → Result (VType × List ℕ) Stop
object_of t item None rest = refused t kind.FrameItem item
object_of t item (Some name) rest = Ok (Object name, rest)

abbrev pub object_at : Table → List ℕ → List ℕ → Result (VType × List ℕ) Stop
object_at t item bytes = do
  index ← number_at t w16 bytes
  object_of t item (class_name t.class.pool index.0) index.1

abbrev pub uninit_at : Table → List ℕ → Result (VType × List ℕ) Stop
uninit_at t bytes = do
  pc ← number_at t w16 bytes
  Ok (Uninit pc.0, pc.1)

-- the item of a tag that begins at these bytes
unfoldable pub item_of : Table → List ℕ → ℕ → List ℕ → Result (VType × List ℕ) Stop
item_of t item tag bytes =
    if tag == 0 then Ok (Top, bytes)
    else if tag == 1 then Ok (Integer, bytes)
    else if tag == 2 then Ok (Float, bytes)
    else if tag == 3 then Ok (Double, bytes)
    else if tag == 4 then Ok (Long, bytes)
    else if tag == 5 then Ok (Null, bytes)
    else if tag == 6 then Ok (UninitThis, bytes)
    else if tag == 7 then object_at t item bytes
    else if tag == 8 then uninit_at t bytes
    else refused t kind.FrameItem item

abbrev pub item_at : Table → List ℕ → Result (VType × List ℕ) Stop
item_at t bytes = do
  tag ← number_at t w8 bytes
  item_of t bytes tag.0 tag.1

abbrev pub another_item : Table → List VType × List ℕ → Result (List VType × List ℕ) Stop
another_item t x = do
  one ← item_at t x.1
  Ok (x.0 ++ one.0 ∷ [], one.1)

-- so many items behind those before
abbrev pub items_at : Table → List VType → ℕ → List ℕ → Result (List VType × List ℕ) Stop
items_at t before count bytes = repeat count (another_item t) (before, bytes)
