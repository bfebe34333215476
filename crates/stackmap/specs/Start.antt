-- The frame at the start of a method (JVMS SE 8, 4.10.1.6): `this`, where the method isn't static, and the parameters.
use Rattle.std.specs.Prelude.{ℕ, Bool, List, [], ◌∷◌, ◌++◌, map, Option, Some, None, not, bit_and, bytes_eq, codes, ◌==◌, if◌then◌else◌}
use Rattle.classfile.specs.ClassFile.{ClassInfo, MethodInfo}
use Rattle.jnames.specs.declared.param.Param.{Param}
use Rattle.jnames.specs.declared.shape.Shape.{Shape}
use Rattle.jnames.specs.declared.shape.Shape.TheVariants as shape
use Rattle.jnames.specs.Descriptors.{Signature, signature_of}
use Rattle.stackmap.specs.declared.frame.Frame.{Frame}
use Rattle.stackmap.specs.declared.vtype.VType.{VType}
use Rattle.stackmap.specs.declared.vtype.VType.TheVariants.{Integer, Float, Double, Long, UninitThis, Object}

-- a value of this type, of a class its name, of an array its descriptor (4.10.1.2)
abbrev pub type_by : Shape → List ℕ → VType
type_by shape.Long name = Long
type_by shape.Float name = Float
type_by shape.Double name = Double
type_by shape.Class name = Object name
type_by shape.Array name = Object name
type_by _ name = Integer

abbrev pub type_of : Param → VType
type_of param = type_by param.shape param.name

-- ACC_STATIC is 0x0008
abbrev pub is_static : ℕ → Bool
is_static flags = not (bit_and flags 0x0008 == 0)

-- a constructor's is not initialised yet
abbrev pub this_of : List ℕ → List ℕ → VType
this_of class method = if bytes_eq method (codes "<init>") then UninitThis else Object class

abbrev pub these : ClassInfo → MethodInfo → List VType
these class method = if is_static method.flags then [] else this_of class.name method.name ∷ []

-- a text that is no descriptor has no parameters
abbrev pub parameters_by : Option Signature → List Param
parameters_by None = []
parameters_by (Some signature) = signature.parameters

abbrev pub start_of : ClassInfo → MethodInfo → Frame
start_of class method =
    record { locals = these class method ++ map type_of (parameters_by (signature_of method.descriptor)); stack = [] }
