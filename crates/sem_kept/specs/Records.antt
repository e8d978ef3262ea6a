-- The records of the program of an accepted source: no field has a fault, where its code and its
-- counts have none.
use Rattle.std.specs.Prelude.{◌≡◌, ◌<◌, ℕ, Bool, true, List, length, get_or, None}
use Rattle.std.specs.List.{AllByRecursion}
use Rattle.flat_code.specs.Checking.{good_counts}
use Rattle.flat_code.specs.Codes.{are_ops, code_bytes, code_fault}
use Rattle.flat_code.specs.Image.{body_layout}
use Rattle.flat_code.specs.Programs.{CodeBlock, Program}
use Rattle.stl_ast.specs.declared.blocks.Tree.{Tree}
use Rattle.stl_symbols.specs.Symbol.{Symbol}
use Rattle.sem_kept.specs.AcceptedSource.{IsAccepted, program_in}

-- the code of a block has no fault, and its statements and bytes are few enough for their fields
pub record HasFaultlessCode (b : CodeBlock) : Type 0 where
  -- each op of the code is one of the table
  pub ops : are_ops b.code ≡ true
  -- no statement has a 65th op, and the last op is BE
  pub ends : code_fault b.code ≡ None
  -- the number of its statements fits 16 bits
  pub statements : length b.lines < 65536
  -- the number of its bytes fits 32 bits
  pub size : length (code_bytes b.code) < 4294967296

-- a symbols file is made of bytes: what `AreBytes` says of its elements, by their places
abbrev pub IsOfBytes : List ℕ → Type 0
IsOfBytes file = (i : ℕ) → get_or file i 0 < 256

-- a program has at most 65,535 code blocks, 256 data blocks and 65,535 names
abbrev pub HasCounts : Program → Type 0
HasCounts p =
    good_counts (length p.code_blocks) (length p.data_blocks) (length p.names) ≡ true

-- the records of the program of an accepted source have no fault where the code and the counts have
-- none; `checks_code` says whether a 65th op of a statement and a wrong last op (fault 5) and a
-- wrong statement count or line (fault 9) are faults there
abbrev pub RecordsAreRight : Type 0
RecordsAreRight =
    (source file : List ℕ) (symbols : List Symbol) (t : Tree)
    → IsAccepted source file symbols t → IsOfBytes file
    → AllByRecursion HasFaultlessCode (program_in symbols t).code_blocks
    → HasCounts (program_in symbols t)
    → (checks_code : Bool) → (body_layout checks_code).good (program_in symbols t) ≡ true
