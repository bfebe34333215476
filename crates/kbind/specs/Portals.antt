-- The two methods of a portal: a static native one, and a static one with code and the same descriptor in the server's domain. What
-- they answer is no float, double or reference.
use Rattle.std.specs.Prelude.{Bool, true, false, ◌&&◌, List, Option, Some, None, bytes_eq, is_some, if◌then◌else◌}
use Rattle.std.specs.Option.{option_and_then}
use Rattle.classfile.specs.ClassFile.{MethodInfo}
use Rattle.jnames.specs.declared.shape.Shape.{Shape}
use Rattle.jnames.specs.declared.shape.Shape.TheVariants as shape
use Rattle.jnames.specs.declared.param.Param.{Param}
use Rattle.jnames.specs.Descriptors.{Signature, signature_of}
use Rattle.jworld.specs.declared.ids.MethodId.{MethodId}
use Rattle.jworld.specs.Members.{is_static}
use Rattle.kconfig.specs.declared.config.PortalLine.{PortalLine}
use Rattle.kbind.specs.Methods.{Declared, method_named, is_native}

-- a type that is handed back as a number: an int, what an int stands for, or a long
abbrev pub is_number_shape : Shape → Bool
is_number_shape shape.Float = false
is_number_shape shape.Double = false
is_number_shape shape.Class = false
is_number_shape shape.Array = false
is_number_shape _ = true

-- void, or such a type
abbrev pub is_handed_back : Option Param → Bool
is_handed_back None = true
is_handed_back (Some answer) = is_number_shape answer.shape

abbrev pub answers_number : Option Signature → Bool
answers_number None = false
answers_number (Some signature) = signature.is_method && is_handed_back signature.answer

abbrev pub is_portal : MethodInfo → MethodInfo → Bool
is_portal method target =
    ((is_static method && is_native method) && (is_static target && is_some target.code))
    && (bytes_eq method.descriptor target.descriptor && answers_number (signature_of method.descriptor))

abbrev pub portal_by : Declared → Declared → Option (MethodId × MethodId)
portal_by method target = if is_portal method.method target.method then Some (method.id, target.id) else None

-- the native method of a portal line, and its target
abbrev pub portal_named : List Declared → PortalLine → Option (MethodId × MethodId)
portal_named methods line =
    option_and_then (λ method. option_and_then (portal_by method) (method_named methods line.target)) (method_named methods line.method)
