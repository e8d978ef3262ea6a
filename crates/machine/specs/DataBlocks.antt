-- Data blocks: OPN, CDB, L DBLG, L DBNO, L DILG, L DINO.
-- Siemens, Statement List (STL): Data Block Instructions.
use Rattle.std.specs.Prelude.{ℕ, ◌==◌, ◌%◌, ◌^◌, Bool, is_some, length, List, Option, Some, None, unwrap_or, Result, Ok, Err, if◌then◌else◌}
use Rattle.std.specs.FinMap as map
use Rattle.plc_base.specs.ErrorCodes as errors
use Rattle.plc_base.specs.declared.Width.TheVariants as widths
use Rattle.plc_mem.specs.Areas.{Areas}
use Rattle.status_word.specs.declared.Regs.{Regs}
use Rattle.frames.specs.FrameData.{FrameData}
use Rattle.flat_code.specs.Kinds.{db_register_number}
use Rattle.flat_code.specs.declared.operands.Operand.{Operand}
use Rattle.flat_code.specs.declared.operands.Operand.TheVariants as operand
use Rattle.machine.specs.ExecState.{Local, then_ok}
use Rattle.machine.specs.Places.{pointer_number, no_operand}
use Rattle.machine.specs.Loads.{with_accu_loaded}

-- whether the data block with a number is loaded
abbrev pub is_block_loaded : ℕ → Areas → Bool
is_block_loaded number m = is_some (map.get m.data_blocks number)

-- a running block with the data block of a number opened in the DB (1) or DI (2) register
abbrev pub block_opened : (register number : ℕ) → Local → Local
block_opened register number s =
    if register == db_register_number then record s { inner = record s.inner { db = Some number } }
    else record s { inner = record s.inner { di = Some number } }

-- a running block with a data block opened in the DB (1) or DI (2) register, if it is loaded; else
-- error 3A
abbrev pub block_opened_if : Bool → (register number : ℕ) → Local → Result Local ℕ
block_opened_if loaded register number s =
    if loaded then Ok (block_opened register number s) else Err errors.no_data_block

-- OPN of a number, or of the number in a word of memory
unfoldable pub block_opened_by : Operand → Local → Areas → Result Local ℕ
block_opened_by (operand.OpenBlock register number) s m =
    block_opened_if (is_block_loaded number m) register number s
block_opened_by (operand.OpenBy register from byte) s m =
    then_ok (pointer_number from byte widths.Word s m) (λ number.
    block_opened_if (is_block_loaded number m) register number s)
block_opened_by _ s m = Err no_operand

-- CDB: a running block with the contents of the DB and DI registers exchanged
unfoldable pub registers_exchanged : Local → Local
registers_exchanged s = record s { inner = record s.inner { db = s.inner.di; di = s.inner.db } }

-- the number of an opened data block, as it is loaded in an accumulator; 0 where none is open
abbrev pub number_opened : Option ℕ → ℕ
number_opened block = unwrap_or block 0

-- the length of a data block in bytes, modulo 2^32; 0 for one that isn't loaded
abbrev pub len_of : Option (List ℕ) → ℕ
len_of None = 0
len_of (Some bytes) = length bytes % 2 ^ 32

-- the length in bytes, modulo 2^32, of the data block in a register; 0 where none is open
abbrev pub len_opened : Option ℕ → Areas → ℕ
len_opened None m = 0
len_opened (Some number) m = len_of (map.get m.data_blocks number)

-- the number that L loads of an open data block: for 0 DBLG, 1 DBNO, 2 DILG, 3 DINO
unfoldable pub open_block_fact : ℕ → FrameData → Areas → ℕ
open_block_fact which f m =
    if which == 0 then len_opened f.db m
    else if which == 1 then number_opened f.db
    else if which == 2 then len_opened f.di m
    else number_opened f.di

-- registers after L DBLG, L DBNO, L DILG or L DINO
unfoldable pub loading_open_block : Operand → Local → Areas → Result Regs ℕ
loading_open_block (operand.Literal which) s m =
    Ok (with_accu_loaded (open_block_fact which s.inner m) s.regs)
loading_open_block _ s m = Err no_operand
