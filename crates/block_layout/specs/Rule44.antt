-- Rule 44: a block number beyond the limits, or an organization block that the profile hasn't. It
-- is checked at the head alone, and its line is that of the head.
use Rattle.std.specs.Prelude.{Bool, false, not, List, Option, Some, None}
use Rattle.plc_base.specs.declared.blocks.BlockId.{BlockId}
use Rattle.plc_base.specs.declared.refusals.Refusal.{Refusal}
use Rattle.stl_ast.specs.declared.blocks.Block.{Block}
use Rattle.stl_symbols.specs.Symbol.{Symbol}
use Rattle.block_layout.specs.Blocks.{id_of, is_block_number}
use Rattle.block_layout.specs.Heads.{on_heads}

-- a block number beyond the limits of its kind
abbrev pub is_number_beyond_limits : Option BlockId → Bool
is_number_beyond_limits None = false
is_number_beyond_limits (Some id) = not (is_block_number id.kind id.number)

-- a block whose head has a number beyond the limits of its kind
abbrev pub has_wrong_number : List Symbol → Block → Bool
has_wrong_number symbols b = is_number_beyond_limits (id_of symbols b)

-- rule 44: a block number beyond the limits, or an OB that the profile hasn't
unfoldable pub rule_44 : List Symbol → List Block → List Refusal
rule_44 symbols blocks = on_heads (λ before b. has_wrong_number symbols b) 44 blocks
