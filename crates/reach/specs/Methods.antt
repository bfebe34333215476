-- What a method mentions in a domain, or its first fault: it is synchronized, it has handlers, what decoding, its frames and typing
-- refuse, and then the first instruction that breaks a rule of the profile.
use Rattle.std.specs.Prelude.{ℕ, ◌+◌, ◌-◌, ◌^◌, min, Bool, List, [], ◌∷◌, ◌++◌, length, Option, Some, None, Result, Ok, Err, slice_get, ◌==◌, if◌then◌else◌}
use Rattle.std.specs.List.{list_any}
use Rattle.kes_text.specs.declared.refusal.Kind.{Kind}
use Rattle.kes_text.specs.declared.refusal.Kind.TheVariants as kind
use Rattle.kes_text.specs.declared.refusal.Stop.{Stop}
use Rattle.kes_text.specs.declared.refusal.Stop.TheVariants.{Refused, NoMemory}
use Rattle.kes_text.specs.Answers.{◌>>=◌}
use Rattle.classfile.specs.ClassFile.{ClassInfo, MethodInfo, CodeInfo}
use Rattle.jcode.specs.declared.op.Ins.{Ins}
use Rattle.jworld.specs.Classes.{World, file_of, is_set}
use Rattle.reaching.specs.declared.graph.Mention.{Mention}
use Rattle.reaching.specs.declared.pair.Pair.{Pair}
use Rattle.reaching.specs.Order.{is_same}
use Rattle.mentions.specs.declared.called.Called.{Called}
use Rattle.mentions.specs.Initialisers.{initialisers}
use Rattle.mentions.specs.Mentioned.{mentioned}
use Rattle.mentions.specs.Setting.{Setting}
use Rattle.method_typing.specs.declared.method.Typed.{Typed}
use Rattle.method_typing.specs.Method.{method_typed}

-- the place of an instruction in a class file; a number of 64 bits stands still at its end
abbrev pub place_of : ℕ → ℕ → ℕ
place_of base pc = min (base + pc) (2 ^ 64 - 1)

abbrev pub refused : {A : Type 0} → Kind → ℕ → Result A Stop
refused kind place = Err (Refused (record { file = 0; kind = kind; at = place }))

-- ---- the instructions, one after the other

abbrev pub called_at : ℕ → Result Called Kind → Result Called Stop
called_at place (Ok called) = Ok called
called_at place (Err rule) = refused rule place

-- what was mentioned, and what an instruction mentions behind it; an instruction counts, and so does each target
abbrev pub with_called : Mention → Called → Mention
with_called mention called = record {
  pairs = mention.pairs ++ called.initialisers ++ called.targets;
  size = min (mention.size + (1 + length called.targets)) (2 ^ 64 - 1);
}

unfoldable pub gathered : Setting → ℕ → ℕ → ClassInfo → ℕ → Mention → List Ins → Result Mention Stop
gathered s domain own file base mention [] = Ok mention
gathered s domain own file base mention (ins ∷ code) =
    called_at (place_of base ins.pc) (mentioned s domain own file ins.op) >>= λ called. gathered s domain own file base (with_called mention called) code

-- ---- a method

-- an entry of a task mentions its class first
abbrev pub at_first : Setting → List Pair → Pair → Mention
at_first s entries pair = record {
  pairs = if list_any (is_same pair) entries then initialisers s.files pair.domain pair.method.class.n else [];
  size = 0;
}

abbrev pub of_typed : Setting → List Pair → Pair → ClassInfo → CodeInfo → Typed → Result Mention Stop
of_typed s entries pair file code typed = gathered s pair.domain pair.method.class.n file code.at (at_first s entries pair) typed.code

-- an exception table has no entry (JVMS SE 8, 4.7.3)
abbrev pub of_code : Setting → List Pair → Pair → ClassInfo → CodeInfo → Result Mention Stop
of_code s entries pair file code =
    if code.handlers == 0 then (method_typed s.files pair.method >>= of_typed s entries pair file code) else refused kind.Handlers code.handlers_at

-- a method that isn't there, or has no code, is refused at 0
abbrev pub by_code : Setting → List Pair → Pair → ClassInfo → Option CodeInfo → Result Mention Stop
by_code s entries pair file None = refused kind.Typing 0
by_code s entries pair file (Some code) = of_code s entries pair file code

-- ACC_SYNCHRONIZED (4.6)
abbrev pub by_method : Setting → List Pair → Pair → ClassInfo → Option MethodInfo → Result Mention Stop
by_method s entries pair file None = refused kind.Typing 0
by_method s entries pair file (Some method) =
    if is_set method.flags 0x0020 then refused kind.Synchronized method.at else by_code s entries pair file method.code

abbrev pub by_file : Setting → List Pair → Pair → Option ClassInfo → Result Mention Stop
by_file s entries pair None = refused kind.Typing 0
by_file s entries pair (Some file) = by_method s entries pair file (slice_get file.methods pair.method.n)

-- the number of the file of a class, from 0
abbrev pub in_file : {A : Type 0} → ℕ → Result A Stop → Result A Stop
in_file number (Ok x) = Ok x
in_file number (Err (Refused fault)) = Err (Refused (record { file = number; kind = fault.kind; at = fault.at }))
in_file number (Err NoMemory) = Err NoMemory

unfoldable pub mentions_of : Setting → List Pair → Pair → Result Mention Stop
mentions_of s entries pair = in_file (pair.method.class.n - 4) (by_file s entries pair (file_of s.files pair.method.class.n))

-- where a method stands in its file
abbrev pub place_in : Option MethodInfo → ℕ
place_in None = 0
place_in (Some method) = method.at

abbrev pub method_place : World → Pair → ℕ
method_place files pair = elim (file_of files pair.method.class.n) [ None ↦ 0 | Some file ↦ place_in (slice_get file.methods pair.method.n) ]

abbrev pub too_large : Setting → Pair → Stop
too_large s pair = Refused (record { file = pair.method.class.n - 4; kind = kind.Large; at = method_place s.files pair })
