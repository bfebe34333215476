-- The native methods that call services of OSEK/VDX OS 2.2.3.
use Rattle.std.specs.Prelude.{ℕ, Bool, ◌&&◌, List, Option, Some, None, codes, bytes_eq, if◌then◌else◌}
use Rattle.std.specs.Option.{option_and_then}
use Rattle.classfile.specs.ClassFile.{MethodInfo}
use Rattle.jworld.specs.declared.ids.MethodId.{MethodId}
use Rattle.jworld.specs.Members.{is_static}
use Rattle.kconfig.specs.declared.config.Service.{Service}
use Rattle.kconfig.specs.declared.config.Service.TheVariants as service
use Rattle.kconfig.specs.declared.config.NativeLine.{NativeLine}
use Rattle.kbind.specs.Methods.{Declared, method_named, is_native}

-- the two numbers that SetRelAlarm and SetAbsAlarm take are ints, and so is what each service answers
abbrev pub descriptor_of : Service → List ℕ
descriptor_of (service.SetRelAlarm alarm) = codes "(II)I"
descriptor_of (service.SetAbsAlarm alarm) = codes "(II)I"
descriptor_of _ = codes "()I"

-- a static native method of this descriptor
abbrev pub is_bound_to : List ℕ → MethodInfo → Bool
is_bound_to descriptor method = (is_static method && is_native method) && bytes_eq method.descriptor descriptor

abbrev pub native_by : Service → Declared → Option MethodId
native_by called found = if is_bound_to (descriptor_of called) found.method then Some found.id else None

-- the method of a native line
abbrev pub native_named : List Declared → NativeLine → Option MethodId
native_named methods line = option_and_then (native_by line.service) (method_named methods line.method)
