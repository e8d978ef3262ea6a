-- Tables by which statements, data blocks and code blocks are found without a search.
use Rattle.std.specs.Prelude.{◌≡◌, ℕ, suc, ◌+◌, ◌*◌, ◌<◌, ◌≤◌, nat_lt, ◌==◌, true, ◌&&◌, if◌then◌else◌, List, [], ◌∷◌, length, slice_get, slice_index_or, is_some, Option, Some, None}
use Rattle.std.specs.Option.{option_map, option_and_then}
use Rattle.plc_base.specs.Kinds.{kind_number, kind_order}
use Rattle.plc_base.specs.declared.blocks.BlockKind.TheVariants as kinds
use Rattle.plc_base.specs.declared.blocks.BlockId.{BlockId}
use Rattle.flat_code.specs.Codes.{code_bytes}
use Rattle.flat_code.specs.Blocks.{BlockSignature, CalleeSignature, callee_of_block, block_with, length_of_data}
use Rattle.flat_code.specs.PlacedOps.{StatementStart, statement_start_at}
use Rattle.flat_code.specs.Programs.{CodeBlock}
use Rattle.image_file.specs.Readers.{block_by_id}

-- the index, from 0, of the first of the offsets `starts` that is `at`; None where none is
abbrev pub start_index : ℕ → List ℕ → Option ℕ
start_index at [] = None
start_index at (start ∷ starts) =
    if start == at then Some 0 else option_map suc (start_index at starts)

-- the entry of a table of indexes that stands for none: it is past the end of every list
abbrev pub no_index : ℕ
no_index = 0xFFFF_FFFF

-- the entry of a table of indexes for an index, `no_index` for none
abbrev pub table_entry : Option ℕ → ℕ
table_entry None = no_index
table_entry (Some place) = place

-- a table of `len` entries has at each offset the index of the start that is that offset
pub record IsTableOf (starts : List ℕ) (len : ℕ) (table : List ℕ) : Type 0 where
  -- the table has an entry for each offset below `len`
  pub size : length table ≡ len
  -- each index is below the entry that stands for none
  pub few : length starts ≤ no_index
  -- each entry is the index of the start at that offset, or `no_index`
  pub places :
      (at : ℕ) → at < len → slice_index_or table at no_index ≡ table_entry (start_index at starts)

-- a table finds the statements of a block: it has at each offset of the code the index among
-- `statements` of the statement that begins there
abbrev pub FindsStatements : List StatementStart → List ℕ → Type 0
FindsStatements statements table =
    (at : ℕ)
    → option_and_then (λ place. slice_get statements place) (slice_get table at)
    ≡ statement_start_at statements at

-- a table finds the lengths of data blocks: it has at each number the index among `lens` of the
-- data block of that number
abbrev pub FindsLens : List (ℕ × ℕ) → List ℕ → Type 0
FindsLens lens table =
    (number : ℕ) → number < 65536
    → option_map (λ d. d.1)
    (option_and_then (λ place. slice_get lens place) (slice_get table number))
    ≡ length_of_data number lens

-- the number by which a table finds a block that may be called: twice the block's own number for a
-- function (kind 2), and one more for a function block (3); other blocks have 131,072, past those
abbrev pub call_key : BlockSignature → ℕ
call_key b =
    if b.kind == kind_number kinds.Fc then 2 * b.number
    else if b.kind == kind_number kinds.Fb then 2 * b.number + 1
    else 131072

-- the block that a table finds by a key (`call_key`), as a CALL sees it; None where it finds none
abbrev pub found_callee : List BlockSignature → List ℕ → ℕ → Option CalleeSignature
found_callee blocks table key =
    option_map callee_of_block
    (option_and_then (λ place. slice_get blocks place) (slice_get table key))

-- a table finds what is called: it has at the key of a function or function block the index among
-- `blocks` of the first block of that kind and number
pub record FindsCallees (blocks : List BlockSignature) (table : List ℕ) : Type 0 where
  -- a function is found at twice its number
  pub functions :
      (number : ℕ) → number < 65536
      → found_callee blocks table (2 * number) ≡ block_with (kind_number kinds.Fc) number blocks
  -- a function block is found at twice its number plus 1
  pub function_blocks :
      (number : ℕ) → number < 65536
      → found_callee blocks table (2 * number + 1) ≡ block_with (kind_number kinds.Fb) number blocks

-- the code and lines of a block are short enough for tables by offset and for marks
pub record HasSmallCode (block : CodeBlock) : Type 0 where
  -- the code has at most 16#FFFF_FFFF bytes
  pub code : length (code_bytes block.code) ≤ no_index
  -- there are fewer than 65,536 lines
  pub lines : length block.lines < 65536

-- each of code blocks has code and lines that are short enough for tables by offset and for marks
abbrev pub AreSmall : List CodeBlock → Type 0
AreSmall [] = Unit {0}
AreSmall (b ∷ bs) = HasSmallCode b × AreSmall bs

-- how many slots the table of a program's code blocks has: 2,048 each for OB, FC and FB
abbrev pub slots : ℕ
slots = 6144

-- the slot of a block in the table of a program's code blocks, by kind (OB, FC, FB), then number, 0
-- to 2,047; None for another block
abbrev pub slot_of : BlockId → Option ℕ
slot_of id =
    if nat_lt (kind_order id.kind) 3 && nat_lt id.number 2048
    then Some (2048 * kind_order id.kind + id.number)
    else None

-- a table finds code blocks: it has at each slot the index among `blocks` of the block of that kind
-- and number
pub record FindsBlocks (blocks : List CodeBlock) (table : List ℕ) : Type 0 where
  -- the table has an entry for each slot
  pub size : length table ≡ slots
  -- the entry at the slot of a kind and number is the index of that block
  pub there :
      (id : BlockId) (slot : ℕ) → slot_of id ≡ Some slot
      → slice_get blocks (slice_index_or table slot 0) ≡ block_by_id id blocks

-- each block of a program has a slot
abbrev pub HaveSlots : List CodeBlock → Type 0
HaveSlots [] = Unit {0}
HaveSlots (b ∷ bs) = (is_some (slot_of b.id) ≡ true) × HaveSlots bs
