-- The index fields of a class file and what they are to name (JVMS SE 8, 4.4 to 4.7), and members that repeat.
use Rattle.std.specs.Prelude.{ℕ, ◌+◌, List, [], ◌∷◌, ◌++◌, Option, Some, None, Bool, true, false, not, is_some, nat_le, ◌||◌, if◌then◌else◌}
use Rattle.std.specs.List.{list_any}
use Rattle.kes_text.specs.declared.refusal.Refusal.{Refusal}
use Rattle.kes_text.specs.declared.refusal.Kind.{Kind}
use Rattle.kes_text.specs.declared.refusal.Kind.TheVariants as kind
use Rattle.jnames.specs.Bytes.{begins_with}
use Rattle.jnames.specs.Descriptors.{field_of, method_slots}
use Rattle.classfile.specs.declared.uses.Use.{Use}
use Rattle.classfile.specs.declared.uses.Use.TheVariants as uses
use Rattle.classfile.specs.declared.uses.Wanted.{Wanted}
use Rattle.classfile.specs.declared.uses.Wanted.TheVariants as wanted
use Rattle.classfile.specs.declared.pool.Entry.{Entry}
use Rattle.classfile.specs.declared.pool.Entry.TheVariants as entry
use Rattle.classfile.specs.Seen.{Key, is_same}
use Rattle.classfile.specs.Pool.{entry_of, text, name_and_type_indices}

abbrev pub is_field_text : List ℕ → Bool
is_field_text t = is_some (field_of t)

-- the slots of the parameters, and so many more, are at most 255
abbrev pub slots_fit : ℕ → Option ℕ → Bool
slots_fit more None = false
slots_fit more (Some slots) = nat_le (slots + more) 255

abbrev pub is_method_text : List ℕ → Bool
is_method_text t = is_some (method_slots t)

-- a text that an index field names and that is to be a descriptor; `this` takes a slot
abbrev pub text_fits : Wanted → List ℕ → Bool
text_fits wanted.ClassText t = not (begins_with 91 t) || is_field_text t
text_fits wanted.FieldText t = is_field_text t
text_fits wanted.MethodText t = is_method_text t
text_fits wanted.InstanceText t = slots_fit 1 (method_slots t)
text_fits wanted.AnyText t = is_field_text t || is_method_text t
text_fits _ t = true

-- no Utf8, or one that doesn't fit
abbrev pub text_fault : Wanted → Option (List ℕ) → Option Kind
text_fault names None = Some kind.PoolIndex
text_fault names (Some t) = if text_fits names t then None else Some kind.BadDescriptor

-- a descriptor of the other kind; one that is none is a fault of the NameAndType itself
abbrev pub type_fits : Bool → Option (List ℕ) → Bool
type_fits of_method None = true
type_fits of_method (Some t) = if of_method then not (is_field_text t) else not (is_method_text t)

abbrev pub type_fault : Bool → List Entry → Option (ℕ × ℕ) → Option Kind
type_fault of_method pool None = Some kind.PoolIndex
type_fault of_method pool (Some indices) = if type_fits of_method (text pool indices.1) then None else Some kind.BadDescriptor

-- whether an entry is of the kind that is wanted
abbrev pub is_wanted : Wanted → Entry → Bool
is_wanted wanted.Class (entry.Class name) = true
is_wanted wanted.Constant (entry.Integer value) = true
is_wanted wanted.Constant entry.Float = true
is_wanted wanted.Constant (entry.Long value) = true
is_wanted wanted.Constant entry.Double = true
is_wanted wanted.Constant entry.String = true
is_wanted wanted.Fieldref (entry.Fieldref class named) = true
is_wanted wanted.Methodref (entry.Methodref class named) = true
is_wanted wanted.InterfaceMethodref (entry.InterfaceMethodref class named) = true
is_wanted wanted.AnyMethodref (entry.Methodref class named) = true
is_wanted wanted.AnyMethodref (entry.InterfaceMethodref class named) = true
is_wanted _ _ = false

abbrev pub entry_fault : Wanted → Option Entry → Option Kind
entry_fault names None = Some kind.PoolIndex
entry_fault names (Some found) = if is_wanted names found then None else Some kind.PoolIndex

abbrev pub type_indices : Option Entry → Option (ℕ × ℕ)
type_indices None = None
type_indices (Some found) = name_and_type_indices found

-- what is wrong with an index field
abbrev pub index_fault : List Entry → Wanted → ℕ → Option Kind
index_fault pool wanted.Text i = text_fault wanted.Text (text pool i)
index_fault pool wanted.ClassText i = text_fault wanted.ClassText (text pool i)
index_fault pool wanted.FieldText i = text_fault wanted.FieldText (text pool i)
index_fault pool wanted.MethodText i = text_fault wanted.MethodText (text pool i)
index_fault pool wanted.InstanceText i = text_fault wanted.InstanceText (text pool i)
index_fault pool wanted.AnyText i = text_fault wanted.AnyText (text pool i)
index_fault pool wanted.FieldType i = type_fault false pool (type_indices (entry_of pool i))
index_fault pool wanted.MethodType i = type_fault true pool (type_indices (entry_of pool i))
index_fault pool names i = entry_fault names (entry_of pool i)

abbrev pub key_with : Bool → Option (List ℕ) → Option (List ℕ) → Option Key
key_with is_method (Some name) (Some descriptor) = Some (is_method, name, descriptor)
key_with is_method _ _ = None

abbrev pub key_of : List Entry → Use → Option Key
key_of pool (uses.Index at index names) = None
key_of pool (uses.Member at is_method name descriptor) = key_with is_method (text pool name) (text pool descriptor)

abbrev pub is_key : Key → Option Key → Bool
is_key key None = false
is_key key (Some other) = is_same other key

-- whether one of these is a member with this key
abbrev pub has_key : List Entry → List Use → Key → Bool
has_key pool before key = list_any (λ one. is_key key (key_of pool one)) before

-- two fields, or two methods, have one name and one descriptor
abbrev pub repeats : List Entry → List Use → Option Key → Bool
repeats pool before None = false
repeats pool before (Some key) = has_key pool before key

-- a fault at a place
abbrev pub fault_at : ℕ → Option Kind → Option Refusal
fault_at at None = None
fault_at at (Some found) = Some (record { file = 0; kind = found; at = at })

abbrev pub or_else : Option Refusal → Option Refusal → Option Refusal
or_else (Some first) second = Some first
or_else None second = second

abbrev pub place_of : Use → ℕ
place_of (uses.Index at index names) = at
place_of (uses.Member at is_method name descriptor) = at

-- what is wrong with an index field by what it names
abbrev pub fault_of_index : List Entry → Use → Option Refusal
fault_of_index pool (uses.Index at index names) = fault_at at (index_fault pool names index)
fault_of_index pool (uses.Member at is_method name descriptor) = None

-- what is wrong with an index field, or with a member behind those before it
abbrev pub fault : List Entry → List Use → Use → Option Refusal
fault pool before one =
    or_else (fault_of_index pool one) (if repeats pool before (key_of pool one) then fault_at (place_of one) (Some kind.TwoMembers) else None)

-- the first fault among index fields and members, behind those before them
unfoldable pub first_fault : List Entry → List Use → List Use → Option Refusal
first_fault pool before [] = None
first_fault pool before (one ∷ others) = or_else (fault pool before one) (first_fault pool (before ++ one ∷ []) others)
