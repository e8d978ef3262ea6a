-- The line of `gen NUMBER`.
use Rattle.std.specs.Prelude.{ℕ, List, ◌++◌, codes, decimal, drop, length, sum, take}
use Rattle.plc_base.specs.declared.Area.TheVariants.{M}
use Rattle.plc_base.specs.declared.Mode.{Mode}
use Rattle.plc_base.specs.declared.Mode.TheVariants.{Run, Startup, Stop}
use Rattle.plc_base.specs.declared.Profile.{Profile}
use Rattle.plc_base.specs.declared.Width.TheVariants.{Byte}
use Rattle.var_access.specs.declared.Entry.{Entry}
use Rattle.var_access.specs.declared.Var.{Var}
use Rattle.machine.specs.Code.{Code}
use Rattle.controller.specs.Replay.{replay}
use Rattle.controller.specs.ReplayResult.{entry_events}
use Rattle.controller.specs.State.{State}

-- the words for a mode; for STOP with its cause. A run without OB 100 and without requests never
-- stands in STARTUP
unfoldable pub mode_words : Mode → List ℕ
mode_words Run = codes "RUN"
mode_words Startup = codes "STARTUP"
mode_words (Stop cause at) = codes "STOP " ++ decimal cause

-- a byte of bit memory
abbrev pub memory_byte : ℕ → Var
memory_byte byte =
    record { place = record { number = 0; byte = byte; area = M; bit = 0 }; width = Byte }

-- eight bytes of bit memory from this one on, added up
abbrev pub sum_of_eight : State → (first : ℕ) → ℕ
sum_of_eight s first = sum (take 8 (drop first s.store.memory.bit_memory))

-- the bytes MB 0 to MB 255, added up
abbrev pub bit_memory_sum : State → ℕ
bit_memory_sum s = sum (take 256 s.store.memory.bit_memory)

-- the line of `gen NUMBER`: how many entries the history has, the mode behind them, and the sum of
-- the bytes MB 0 to MB 255
unfoldable pub summary_of : (number entries : ℕ) → State → List ℕ
summary_of number entries s =
    codes "GEN " ++ decimal number ++ codes " ENTRIES " ++ decimal entries ++ codes " MODE "
    ++ mode_words s.mode
    ++ codes " SUM " ++ decimal (bit_memory_sum s) ++ codes "\n"

-- the summary of a program's run along a history, at a profile
abbrev pub summary_text : (number : ℕ) → Profile → Code → List Entry → List ℕ
summary_text number profile code entries =
    summary_of number (length entries) (replay profile code (entry_events entries))
