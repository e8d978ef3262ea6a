-- The code of statements: what a source means to the machine. Positions are numbers of statements.
use Rattle.std.specs.Prelude.{ℕ, suc, List, [], ◌∷◌, map, Option, Some, None, if◌then◌else◌}
use Rattle.std.specs.List.{slice_get, AllByRecursion}
use Rattle.std.specs.Option.{option_map, option_and_then}
use Rattle.plc_base.specs.declared.blocks.BlockId.{BlockId}
use Rattle.flat_code.specs.Programs.{DataBlock, NameEntry, Program}
use Rattle.image_file.specs.Readers.{is_same_id}
use Rattle.machine.specs.Code.{Code, Fetched, BlockHead}
use Rattle.machine.specs.Flat.{numbered_bytes, code_of}
use Rattle.machine.specs.MovedCode.{FollowsCode}
use Rattle.stl_codegen.specs.CompiledBlock.{SourceInstruction, StatedBlock, ops_in, offset_of_statement, compiled_block}
use Rattle.sem_kept.specs.Back.{AreCompiled}

-- the first block of a kind and number
abbrev pub stated_block_named : BlockId → List StatedBlock → Option StatedBlock
stated_block_named id [] = None
stated_block_named id (b ∷ bs) = if is_same_id b.id id then Some b else stated_block_named id bs

-- the statement of a number, with the next one behind it
abbrev pub fetched_statement : (n : ℕ) → SourceInstruction → Fetched
fetched_statement n s = record { instr = s.instr; next = suc n; line = s.line }

-- the statement of a block at a number, from 0; none behind the last one
abbrev pub numbered_statement : StatedBlock → (n : ℕ) → Option Fetched
numbered_statement b n = option_map (fetched_statement n) (slice_get b.statements n)

-- the head of a block: its local bytes, the bytes of its instance, its parameters
abbrev pub stated_head : StatedBlock → BlockHead
stated_head b =
    record { local_len = b.local_len; instance_len = b.instance_len; params = b.params }

-- the code of these blocks and data blocks: positions are the numbers of statements
abbrev pub stated_code : List StatedBlock → List DataBlock → Code
stated_code blocks data_blocks = record {
  fetch = λ id n. option_and_then (λ b. numbered_statement b n) (stated_block_named id blocks);
  head = λ id. option_map stated_head (stated_block_named id blocks);
  blocks = numbered_bytes data_blocks;
}

-- the position of the statement of number n in the code of its block: its byte offset; where
-- there is no block, the number itself
abbrev pub position_in : Option StatedBlock → (n : ℕ) → ℕ
position_in None n = n
position_in (Some b) n = offset_of_statement (ops_in b.statements) n

-- the position of the statement of number n in the code of the first block of a kind and number:
-- its byte offset; where the block is absent, the number itself
abbrev pub statement_position : List StatedBlock → BlockId → (n : ℕ) → ℕ
statement_position blocks id n = position_in (stated_block_named id blocks) n

-- code can be generated for each statement of a block
abbrev pub IsCompilable : StatedBlock → Type 0
IsCompilable b = AreCompiled 0 b.statements

-- the program of these blocks, with their statements as ops, and of these data blocks and names
abbrev pub program_with : List StatedBlock → List DataBlock → List NameEntry → Program
program_with blocks data_blocks names =
    record { code_blocks = map compiled_block blocks; data_blocks = data_blocks; names = names }

-- the code of the program that is made of statements, for which code can be generated, follows them
abbrev pub ProgramsFollow : Type 0
ProgramsFollow =
    (blocks : List StatedBlock) (data_blocks : List DataBlock) (names : List NameEntry)
    → AllByRecursion IsCompilable blocks
    → FollowsCode (statement_position blocks) (stated_code blocks data_blocks)
    (code_of (program_with blocks data_blocks names))
