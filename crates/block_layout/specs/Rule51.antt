-- Rule 51: a data block, a user-defined data type or an instance above 16,384 bytes. The line is
-- that of the head: of the function block, and of each of its instance data blocks.
use Rattle.std.specs.Prelude.{Bool, nat_lt, List}
use Rattle.plc_base.specs.declared.refusals.Refusal.{Refusal}
use Rattle.stl_ast.specs.declared.blocks.Block.{Block}
use Rattle.block_layout.specs.Heads.{on_heads}
use Rattle.block_layout.specs.Lengths.{length_of_block}
use Rattle.block_layout.specs.Types.{Types}

-- the structure of a block has more than 16,384 bytes
abbrev pub is_too_long : Types → List Block → Block → Bool
is_too_long y blocks b = nat_lt 16384 (length_of_block y blocks b)

-- rule 51: a data block, data type or instance above 16,384 bytes
unfoldable pub rule_51 : Types → List Block → List Refusal
rule_51 y blocks = on_heads (λ before b. is_too_long y blocks b) 51 blocks
