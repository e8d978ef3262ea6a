-- Rule 54: data blocks above 2,097,152 bytes together. The line is that of the head of the data
-- block with which they are more, and of each later one.
use Rattle.std.specs.Prelude.{ℕ, ◌+◌, Bool, nat_lt, ◌&&◌, List, sum_by, if◌then◌else◌}
use Rattle.plc_base.specs.Kinds.{is_data_block}
use Rattle.plc_base.specs.declared.refusals.Refusal.{Refusal}
use Rattle.stl_ast.specs.declared.blocks.Block.{Block}
use Rattle.block_layout.specs.Heads.{on_heads}
use Rattle.block_layout.specs.Lengths.{length_of_block}
use Rattle.block_layout.specs.Types.{Types}

-- the length of a data block in bytes; that of another block is 0
abbrev pub data_length : Types → List Block → Block → ℕ
data_length y blocks b = if is_data_block b.kind then length_of_block y blocks b else 0

-- the length of the data blocks among some blocks, together
abbrev pub total_data_length : Types → List Block → List Block → ℕ
total_data_length y blocks some = sum_by (data_length y blocks) some

-- a data block with which the data blocks up to it are above 2,097,152 bytes; `before` are the
-- blocks before it
abbrev pub exceeds_total : Types → List Block → List Block → Block → Bool
exceeds_total y blocks before b =
    is_data_block b.kind
    && nat_lt 2097152 (total_data_length y blocks before + data_length y blocks b)

-- rule 54: data blocks above 2,097,152 bytes together
unfoldable pub rule_54 : Types → List Block → List Refusal
rule_54 y blocks = on_heads (exceeds_total y blocks) 54 blocks
