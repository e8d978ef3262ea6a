-- Rule 53: the 257th data block, and each later one. The line is that of its head.
use Rattle.std.specs.Prelude.{ℕ, Bool, nat_le, ◌&&◌, List}
use Rattle.std.specs.List.{count_by}
use Rattle.plc_base.specs.Kinds.{is_data_block}
use Rattle.plc_base.specs.declared.refusals.Refusal.{Refusal}
use Rattle.stl_ast.specs.declared.blocks.Block.{Block}
use Rattle.block_layout.specs.Heads.{on_heads}

-- the number of data blocks among blocks
abbrev pub data_blocks : List Block → ℕ
data_blocks blocks = count_by (λ b. is_data_block b.kind) blocks

-- a data block with 256 or more before it
abbrev pub is_one_too_many : List Block → Block → Bool
is_one_too_many before b = is_data_block b.kind && nat_le 256 (data_blocks before)

-- rule 53: the 257th data block, and each later one
unfoldable pub rule_53 : List Block → List Refusal
rule_53 blocks = on_heads is_one_too_many 53 blocks
