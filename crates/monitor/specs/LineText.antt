-- The lines of a run text, one by one.
use Rattle.std.specs.Prelude.{ℕ, zero, suc, ◌+◌, ◌/◌, ◌%◌, List, [], ◌∷◌, ◌++◌, Option, Some, None, codes, decimal, nat_lt, if◌then◌else◌}
use Rattle.std.specs.List.{flat_map}
use Rattle.plc_base.specs.declared.blocks.BlockKind.{BlockKind}
use Rattle.plc_base.specs.declared.blocks.BlockKind.TheVariants.{Ob, Fc, Fb, Db, Sfc, Udt}
use Rattle.plc_base.specs.declared.modes.Mode.{Mode}
use Rattle.plc_base.specs.declared.modes.Mode.TheVariants.{Run, Startup, Stop}
use Rattle.plc_base.specs.declared.modes.Spot.{Spot}
use Rattle.monitor.specs.declared.records.DiagRecord.{DiagRecord}
use Rattle.monitor.specs.declared.records.MonRecord.{MonRecord}

-- a hexadecimal digit, in upper case
abbrev pub hex_digit : ℕ → ℕ
hex_digit n = if nat_lt n 10 then n + 48 else n + 55

-- the lowest so many hexadecimal digits of a number
abbrev pub hex_text : (digits : ℕ) → ℕ → List ℕ
hex_text zero n = []
hex_text (suc digits) n = hex_text digits (n / 16) ++ hex_digit (n % 16) ∷ []

-- a byte as two hexadecimal digits
abbrev pub byte_text : ℕ → List ℕ
byte_text byte = hex_text 2 byte

-- a peripheral output byte that entry n changed, and its new value
unfoldable pub output_text : ℕ → (ℕ × ℕ) → List ℕ
output_text n output =
    codes "@" ++ decimal n ++ codes " PQ " ++ decimal output.0 ++ codes " = " ++ byte_text output.1
    ++ codes "\n"

-- the kind of a block, as STEP 7 abbreviates it
unfoldable pub kind_text : BlockKind → List ℕ
kind_text Ob = codes "OB"
kind_text Fc = codes "FC"
kind_text Fb = codes "FB"
kind_text Db = codes "DB"
kind_text Sfc = codes "SFC"
kind_text Udt = codes "UDT"

-- a statement, by its block and its source line
unfoldable pub spot_text : Spot → List ℕ
spot_text at =
    kind_text at.block.kind ++ codes " " ++ decimal at.block.number ++ codes " LINE "
    ++ decimal at.line

-- where a stop happened, or NONE where no organization block ran
abbrev pub stop_text : Option Spot → List ℕ
stop_text None = codes "NONE"
stop_text (Some at) = spot_text at

-- the registers that monitoring shows: all nine bits of the status word, accumulators 1 and 2
unfoldable pub registers_text : MonRecord → List ℕ
registers_text r =
    codes " STW " ++ hex_text 4 r.stw ++ codes " A1 " ++ hex_text 8 r.a1 ++ codes " A2 "
    ++ hex_text 8 r.a2

-- the line of a run text for a statement of the monitored block that entry n executed
unfoldable pub mon_text : ℕ → MonRecord → List ℕ
mon_text n r =
    codes "@" ++ decimal n ++ codes " MON " ++ spot_text (record { block = r.block; line = r.line })
    ++ registers_text r ++ codes "\n"

-- the line of a run text for a mode that entry n began
unfoldable pub mode_text : ℕ → Mode → List ℕ
mode_text n Run = codes "@" ++ decimal n ++ codes " MODE RUN\n"
mode_text n Startup = codes "@" ++ decimal n ++ codes " MODE STARTUP\n"
mode_text n (Stop cause at) =
    codes "@" ++ decimal n ++ codes " MODE STOP " ++ decimal cause ++ codes " AT " ++ stop_text at
    ++ codes "\n"

-- an entry of the diagnostic buffer, in the answer to entry n: the entry that made it, its code and
-- what that is about
unfoldable pub diag_text : ℕ → DiagRecord → List ℕ
diag_text n r =
    codes "@" ++ decimal n ++ codes " DIAG " ++ decimal r.entry ++ codes " " ++ decimal r.code
    ++ codes " " ++ decimal r.info ++ codes "\n"

-- the mode at the end, after n entries
unfoldable pub end_text : ℕ → Mode → List ℕ
end_text n Run = codes "END " ++ decimal n ++ codes " RUN\n"
end_text n Startup = codes "END " ++ decimal n ++ codes " STARTUP\n"
end_text n (Stop cause at) =
    codes "END " ++ decimal n ++ codes " STOP " ++ decimal cause ++ codes "\n"

-- how a line of a data block begins: its number, and the offset of the first byte
abbrev pub row_head : (number offset : ℕ) → List ℕ
row_head number offset = codes "DB " ++ decimal number ++ codes " " ++ decimal offset ++ codes " "

-- bytes of a data block, the first one at this offset
unfoldable pub row_text : (number offset : ℕ) → (bytes : List ℕ) → List ℕ
row_text number offset bytes = row_head number offset ++ flat_map byte_text bytes ++ codes "\n"
