-- The lines that every program begins with: ISO C99 with <stdint.h>, and the kernel's header "os.h"
-- (OSEK/VDX OS 2.2.3). They give a program its word type, its loads and stores, its operators and its
-- services.
use Rattle.std.specs.Prelude.{ℕ, List, [], ◌∷◌, ◌++◌, codes, flat_map}
use Rattle.csubset.specs.Text.Line.{line}

-- what the text is, the word type and the cell that shows a failure
abbrev pub heading_lines : List (List ℕ)
heading_lines =
    codes "/* KESO C 1 */"
    ∷ codes "#include <stdint.h>"
    ∷ codes "#include \"os.h\""
    ∷ codes "typedef uint64_t W;"
    ∷ codes "static volatile uint32_t keso_failure;"
    ∷ []

-- LDk and STk read and write k bytes of a region, DLDk and DSTk those of the device
abbrev pub memory_lines : List (List ℕ)
memory_lines =
    codes "#define LD1(r, a) ((W)*((volatile uint8_t *)(r) + (a)))"
    ∷ codes "#define LD2(r, a) ((W)*(volatile uint16_t *)((volatile uint8_t *)(r) + (a)))"
    ∷ codes "#define LD4(r, a) ((W)*(volatile uint32_t *)((volatile uint8_t *)(r) + (a)))"
    ∷ codes "#define LD8(r, a) ((W)*(volatile uint64_t *)((volatile uint8_t *)(r) + (a)))"
    ∷ codes "#define ST1(r, a, v) (*((volatile uint8_t *)(r) + (a)) = (uint8_t)(v))"
    ∷ codes "#define ST2(r, a, v) (*(volatile uint16_t *)((volatile uint8_t *)(r) + (a)) = (uint16_t)(v))"
    ∷ codes "#define ST4(r, a, v) (*(volatile uint32_t *)((volatile uint8_t *)(r) + (a)) = (uint32_t)(v))"
    ∷ codes "#define ST8(r, a, v) (*(volatile uint64_t *)((volatile uint8_t *)(r) + (a)) = (v))"
    ∷ codes "#define DLD1(a) LD1(KDEV, a)"
    ∷ codes "#define DLD2(a) LD2(KDEV, a)"
    ∷ codes "#define DLD4(a) LD4(KDEV, a)"
    ∷ codes "#define DLD8(a) LD8(KDEV, a)"
    ∷ codes "#define DST1(a, v) ST1(KDEV, a, v)"
    ∷ codes "#define DST2(a, v) ST2(KDEV, a, v)"
    ∷ codes "#define DST4(a, v) ST4(KDEV, a, v)"
    ∷ codes "#define DST8(a, v) ST8(KDEV, a, v)"
    ∷ []

-- the operators on 64-bit words
abbrev pub operator_lines : List (List ℕ)
operator_lines =
    codes "#define SIGN8 0x8000000000000000ull"
    ∷ codes "static W LO4(W a) { return a & 0xFFFFFFFFull; }"
    ∷ codes "static W SX4(W a) { return (LO4(a) ^ 0x80000000ull) - 0x80000000ull; }"
    ∷ codes "static W ZB(W a) { return a & 0xFFull; }"
    ∷ codes "static W ZH(W a) { return a & 0xFFFFull; }"
    ∷ codes "static W SB4(W a) { return LO4((ZB(a) ^ 0x80ull) - 0x80ull); }"
    ∷ codes "static W SH4(W a) { return LO4((ZH(a) ^ 0x8000ull) - 0x8000ull); }"
    ∷ codes "static W ADD8(W a, W b) { return a + b; }"
    ∷ codes "static W SUB8(W a, W b) { return a - b; }"
    ∷ codes "static W MUL8(W a, W b) { return a * b; }"
    ∷ codes "static W ABS8(W a) { return a >> 63 ? 0ull - a : a; }"
    ∷ codes "static W DIV8(W a, W b) { W q = ABS8(a) / ABS8(b); return (a ^ b) >> 63 ? 0ull - q : q; }"
    ∷ codes "static W REM8(W a, W b) { W q = ABS8(a) % ABS8(b); return a >> 63 ? 0ull - q : q; }"
    ∷ codes "static W SHL8(W a, W b) { return a << (b & 63); }"
    ∷ codes "static W USHR8(W a, W b) { return a >> (b & 63); }"
    ∷ codes "static W SHR8(W a, W b) { return a >> 63 ? ~(~a >> (b & 63)) : a >> (b & 63); }"
    ∷ codes "static W LT8(W a, W b) { return (a ^ SIGN8) < (b ^ SIGN8); }"
    ∷ codes "static W CMP8(W a, W b) { return LT8(a, b) ? 0xFFFFFFFFull : (W)(a != b); }"
    ∷ codes "static W ADD4(W a, W b) { return LO4(a + b); }"
    ∷ codes "static W SUB4(W a, W b) { return LO4(a - b); }"
    ∷ codes "static W MUL4(W a, W b) { return LO4(a * b); }"
    ∷ codes "static W DIV4(W a, W b) { return LO4(DIV8(SX4(a), SX4(b))); }"
    ∷ codes "static W REM4(W a, W b) { return LO4(REM8(SX4(a), SX4(b))); }"
    ∷ codes "static W SHL4(W a, W b) { return LO4(a << (b & 31)); }"
    ∷ codes "static W USHR4(W a, W b) { return LO4(a) >> (b & 31); }"
    ∷ codes "static W SHR4(W a, W b) { return LO4(SHR8(SX4(a), b & 31)); }"
    ∷ codes "static W LT4(W a, W b) { return LT8(SX4(a), SX4(b)); }"
    ∷ codes "static W AND(W a, W b) { return a & b; }"
    ∷ codes "static W OR(W a, W b) { return a | b; }"
    ∷ codes "static W XOR(W a, W b) { return a ^ b; }"
    ∷ codes "static W EQ(W a, W b) { return a == b; }"
    ∷ codes "static W NE(W a, W b) { return a != b; }"
    ∷ codes "static W LTU(W a, W b) { return a < b; }"
    ∷ []

-- the services of the kernel; one that answers through a pointer gives the answer, or its status negated
abbrev pub service_lines : List (List ℕ)
service_lines =
    codes "#define K_ActivateTask(t) ((W)ActivateTask(t))"
    ∷ codes "#define K_TerminateTask() ((W)TerminateTask())"
    ∷ codes "#define K_ChainTask(t) ((W)ChainTask(t))"
    ∷ codes "#define K_Schedule() ((W)Schedule())"
    ∷ codes "#define K_GetResource(r) ((W)GetResource(r))"
    ∷ codes "#define K_ReleaseResource(r) ((W)ReleaseResource(r))"
    ∷ codes "#define K_SetEvent(t, m) ((W)SetEvent(t, m))"
    ∷ codes "#define K_ClearEvent(m) ((W)ClearEvent(m))"
    ∷ codes "#define K_WaitEvent(m) ((W)WaitEvent(m))"
    ∷ codes "#define K_SetRelAlarm(a, n, c) ((W)SetRelAlarm(a, (TickType)(n), (TickType)(c)))"
    ∷ codes "#define K_SetAbsAlarm(a, n, c) ((W)SetAbsAlarm(a, (TickType)(n), (TickType)(c)))"
    ∷ codes "#define K_CancelAlarm(a) ((W)CancelAlarm(a))"
    ∷ codes "static W K_GetEvent(TaskType t) { EventMaskType m; W s = (W)GetEvent(t, &m); return s ? LO4(0ull - s) : (W)m; }"
    ∷ codes "static W K_GetAlarm(AlarmType a) { TickType n; W s = (W)GetAlarm(a, &n); return s ? LO4(0ull - s) : (W)n; }"
    ∷ []

-- a failure, interrupt sections and the body of a task
abbrev pub control_lines : List (List ℕ)
control_lines =
    codes "#define FAIL(n) { keso_failure = (n); ShutdownOS((StatusType)255); for (;;) { } }"
    ∷ codes "#define SUSPEND SuspendAllInterrupts()"
    ∷ codes "#define RESUME ResumeAllInterrupts()"
    ∷ codes "#define KTASK(t, f) TASK(t) { (void)f(); (void)TerminateTask(); FAIL(0) }"
    ∷ []

-- It is long, so a proof computes it only where it asks for that.
unfoldable pub prologue : List ℕ
prologue =
    flat_map line heading_lines
    ++ flat_map line memory_lines
    ++ flat_map line operator_lines
    ++ flat_map line service_lines
    ++ flat_map line control_lines
