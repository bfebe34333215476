-- The calls of the reached pairs, in reach order: pair by pair, and in each pair by instruction.
use Rattle.std.specs.Prelude.{ℕ, ◌+◌, ◌-◌, ◌^◌, min, Bool, true, false, List, [], ◌∷◌, ◌++◌, map, filter_map, option_to_list, position, length, Option, Some, None, Result, Ok, Err, slice_get, ◌&&◌, if◌then◌else◌}
use Rattle.std.specs.List.{flat_map, range_with_len}
use Rattle.kes_text.specs.declared.refusal.Kind.{Kind}
use Rattle.kes_text.specs.declared.refusal.Stop.{Stop}
use Rattle.classfile.specs.ClassFile.{ClassInfo, MethodInfo, CodeInfo}
use Rattle.jcode.specs.declared.op.Ins.{Ins}
use Rattle.jcode.specs.declared.op.Op.{Op}
use Rattle.jcode.specs.declared.op.Op.TheVariants as op
use Rattle.jworld.specs.Classes.{file_of}
use Rattle.call_graph.specs.declared.call_place.CallPlace.{CallPlace}
use Rattle.linking.specs.declared.named.Named.{Named}
use Rattle.linking.specs.declared.named.Named.TheVariants as named
use Rattle.linking.specs.Linked.{linked}
use Rattle.method_typing.specs.declared.method.Typed.{Typed}
use Rattle.method_typing.specs.Method.{method_typed}
use Rattle.reaching.specs.declared.pair.Pair.{Pair}
use Rattle.reaching.specs.Order.{is_same}
use Rattle.mentions.specs.declared.binding.Binding.{Binding}
use Rattle.mentions.specs.declared.binding.Binding.TheVariants.{Service, Device, Portal}
use Rattle.mentions.specs.declared.called.Called.{Called}
use Rattle.mentions.specs.Bindings.{binding_of}
use Rattle.mentions.specs.Mentioned.{mentioned}
use Rattle.mentions.specs.Setting.{Setting}
use Rattle.reach.specs.declared.calls.Call.{Call}
use Rattle.reach.specs.declared.calls.Site.{Site}
use Rattle.reach.specs.Methods.{place_of}

-- ---- one instruction

abbrev pub is_call : Op → Bool
is_call (op.InvokeVirtual index) = true
is_call (op.InvokeSpecial index) = true
is_call (op.InvokeStatic index) = true
is_call (op.InvokeInterface index) = true
is_call _ = false

-- the numbers of these among the pairs
abbrev pub numbers_of : List Pair → List Pair → List ℕ
numbers_of pairs targets = filter_map (λ target. position (is_same target) pairs) targets

abbrev pub targets_in : List Pair → Result Called Kind → List ℕ
targets_in pairs (Ok called) = numbers_of pairs called.targets
targets_in pairs (Err rule) = []

abbrev pub targets_of : Setting → List Pair → Pair → ClassInfo → Op → List ℕ
targets_of s pairs pair file op = targets_in pairs (mentioned s pair.domain pair.method.class.n file op)

-- a service or a portal
abbrev pub is_of_others : Option Binding → Bool
is_of_others (Some (Service service)) = true
is_of_others (Some (Portal domain target)) = true
is_of_others _ = false

abbrev pub names_others : Setting → Result Named Kind → Bool
names_others s (Ok (named.Method id)) = is_of_others (binding_of s.bound id)
names_others s _ = false

abbrev pub is_static_call : Op → Bool
is_static_call (op.InvokeStatic index) = true
is_static_call _ = false

-- whether an instruction calls a service or a portal
abbrev pub is_outside : Setting → ClassInfo → Op → Bool
is_outside s file op = is_static_call op && names_others s (linked s.files file op)

abbrev pub call_of : Setting → List Pair → Site → ClassInfo → Ins → ℕ → Call
call_of s pairs site file ins index = record {
  place = record { pair = site.number; ins = index; targets = targets_of s pairs site.pair file ins.op };
  file = site.pair.method.class.n - 4;
  at = place_of site.at ins.pc;
  is_outside = is_outside s file ins.op;
}

-- the call that an instruction is, if it is one
abbrev pub call_in : Setting → List Pair → Site → ClassInfo → Ins → ℕ → Option Call
call_in s pairs site file ins index = if is_call ins.op then Some (call_of s pairs site file ins index) else None

-- ---- the instructions of a pair, from one on; a number of 32 bits stands still at its end

unfoldable pub calls_from : Setting → List Pair → Site → ClassInfo → ℕ → List Ins → List Call
calls_from s pairs site file index [] = []
calls_from s pairs site file index (ins ∷ code) =
    option_to_list (call_in s pairs site file ins index) ++ calls_from s pairs site file (min (index + 1) (2 ^ 32 - 1)) code

-- where the code of a method begins in its file
abbrev pub begins_at : Option CodeInfo → ℕ
begins_at None = 0
begins_at (Some code) = code.at

abbrev pub code_in : Option MethodInfo → ℕ
code_in None = 0
code_in (Some method) = begins_at method.code

abbrev pub code_at : ClassInfo → ℕ → ℕ
code_at file n = code_in (slice_get file.methods n)

-- the instructions of a method that is well typed
abbrev pub code_of : Result Typed Stop → List Ins
code_of (Ok typed) = typed.code
code_of (Err stop) = []

abbrev pub calls_by_file : Setting → List Pair → ℕ → Pair → Option ClassInfo → List Call
calls_by_file s pairs number pair None = []
calls_by_file s pairs number pair (Some file) =
    calls_from s pairs (record { number = number; pair = pair; at = code_at file pair.method.n }) file 0 (code_of (method_typed s.files pair.method))

abbrev pub calls_by : Setting → List Pair → ℕ → Option Pair → List Call
calls_by s pairs number None = []
calls_by s pairs number (Some pair) = calls_by_file s pairs number pair (file_of s.files pair.method.class.n)

-- the calls of the pair of this number
unfoldable pub calls_in : Setting → List Pair → ℕ → List Call
calls_in s pairs number = calls_by s pairs number (slice_get pairs number)

-- ---- the pairs, one after the other

abbrev pub calls_of : Setting → List Pair → List Call
calls_of s pairs = flat_map (calls_in s pairs) (range_with_len 0 (length pairs))

-- the pairs that each pair runs
abbrev pub edges_of : Setting → List Pair → List (List ℕ)
edges_of s pairs = map (λ number. flat_map (λ call. call.place.targets) (calls_in s pairs number)) (range_with_len 0 (length pairs))

abbrev pub places_of : List Call → List CallPlace
places_of calls = map (λ call. call.place) calls
