-- The bytes of attributes (JVMS SE 8, 4.7).
use Rattle.std.specs.Prelude.{ℕ, List, [], ◌∷◌, length, filter, Option, Some, None}
use Rattle.classfile.specs.declared.uses.Wanted.TheVariants as wanted
use Rattle.classfile.specs.declared.pool.Entry.{Entry}
use Rattle.classfile.specs.Attributes.{is_text}
use Rattle.classfile.specs.Spelled.Pieces.{Piece, ◌▸◌, u4, held, index}

-- an attribute: the index of its name, and its contents with the place where they begin
pub record Attribute : Type 0 where
  pub name : ℕ
  pub at : ℕ
  pub contents : List ℕ

-- attribute_length and info
abbrev pub info : Attribute → Piece
info a = u4 (length a.contents) ▸ held a.at a.contents

abbrev pub attribute : List Entry → Attribute → Piece
attribute pool a = index pool wanted.Text a.name ▸ info a

-- the attributes with this name
abbrev pub named : List Entry → List ℕ → List Attribute → List Attribute
named pool name all = filter (λ (a : Attribute). is_text pool a.name name) all

-- the first of these, if there is one
abbrev pub first_of : List Attribute → Option Attribute
first_of [] = None
first_of (a ∷ others) = Some a
