-- Instructions on ints: constants, locals and the three operations, which wrap. The numbers come out as an alarm's.
use Rattle.std.specs.Prelude.{◌≡◌, pos, negsuc, true, false, [], ◌∷◌, codes}
use Rattle.osek_core.specs.declared.tables.Action.TheVariants.{Activate}
use Rattle.osek_core.specs.Bytecode.World.{Const4, LoadI, StoreI, Pop, Add, Sub, Mul, Return}
use Rattle.osek_core.specs.Bytecode.Application.{Application, SetRel}
use Rattle.osek_core.specs.Worked.Application.{Bound, calls, task_row, each_tick, application, lines, runs}

abbrev pub set_alarm : Bound
set_alarm = record { name = codes "set"; takes = 2; service = SetRel 0 }

-- i = 2147483647; set(i + 1, (i - -2) * 3)
abbrev pub arithmetic : Application
arithmetic =
    application (set_alarm ∷ [])
    (record {
      name = codes "x";
      row = task_row (codes "x") 1 true [] [];
      code = Const4 (pos 2147483647) ∷ StoreI 1
          ∷ LoadI 1 ∷ Const4 (pos 1) ∷ Add false
          ∷ LoadI 1 ∷ Const4 (negsuc 1) ∷ Sub false ∷ Const4 (pos 3) ∷ Mul false
          ∷ calls set_alarm ∷ Pop ∷ Return ∷ [];
    } ∷ [])
    (each_tick (codes "al") (Activate 0) ∷ []) [] []

abbrev pub IntsWrap : Type 0
IntsWrap = lines arithmetic (runs 14) ≡ codes "x SetRelAlarm al -2147483648 -2147483645 7" ∷ codes "x TerminateTask 0" ∷ []
