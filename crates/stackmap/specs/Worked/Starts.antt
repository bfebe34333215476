-- Worked examples of the frame at a method's start (JVMS SE 8, 4.10.1.6).
use Rattle.std.specs.Prelude.{◌≡◌, ℕ, List, [], ◌∷◌, codes, None, Ok}
use Rattle.classfile.specs.ClassFile.{MethodInfo}
use Rattle.stackmap.specs.declared.frame.Frame.{Frame}
use Rattle.stackmap.specs.declared.vtype.VType.{VType}
use Rattle.stackmap.specs.declared.vtype.VType.TheVariants.{Integer, Float, Double, Long, UninitThis, Object}
use Rattle.stackmap.specs.Frames.{frames_of}
use Rattle.stackmap.specs.Start.{start_of}
use Rattle.stackmap.specs.Worked.Tables.{class, declared}

abbrev pub method : ℕ → List ℕ → List ℕ → MethodInfo
method flags name descriptor = record { at = 40; flags = flags; name = name; descriptor = descriptor; code = None }

abbrev pub Starts : MethodInfo → List VType → Type 0
Starts method locals = start_of class method ≡ record { locals = locals; stack = [] }

-- a constructor's `this` is not initialised yet, and so not in the first frame of its table either
abbrev pub ConstructorsStartUninitialised : Type 0
ConstructorsStartUninitialised =
    let constructor = method 0x0001 (codes "<init>") (codes "(J)V") in
    Starts constructor (UninitThis ∷ Long ∷ []) × (frames_of class 100 (start_of class constructor) (0 ∷ 1 ∷ 4 ∷ []) ≡ Ok (declared 102 4 (UninitThis ∷ Long ∷ []) [] ∷ []))

-- `this` of another method is an object of the class; a static method has none
abbrev pub ThisComesFirst : Type 0
ThisComesFirst = Starts (method 0x0001 (codes "m") (codes "()V")) (Object (codes "C") ∷ []) × Starts (method 0x0009 (codes "m") (codes "()V")) [] × Starts (method 0x0008 (codes "m") (codes "(D)V")) (Double ∷ [])

-- a boolean, byte, char or short counts as an int; a long and a double are one entry each
abbrev pub ParametersFollow : Type 0
ParametersFollow =
    Starts (method 0x0008 (codes "m") (codes "(ZBCSIJFDLq/B;[J)V"))
    (Integer ∷ Integer ∷ Integer ∷ Integer ∷ Integer ∷ Long ∷ Float ∷ Double ∷ Object (codes "q/B") ∷ Object (codes "[J") ∷ [])
