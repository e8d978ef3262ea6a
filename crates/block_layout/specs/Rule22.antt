-- Rule 22: a block twice: one with its kind and number stands before it. The line is that of its
-- head.
use Rattle.std.specs.Prelude.{ℕ, nat_lt, length, Bool, false, List, Option, Some, None}
use Rattle.std.specs.Option.{option_and_then}
use Rattle.plc_base.specs.declared.refusals.Refusal.{Refusal}
use Rattle.stl_ast.specs.declared.blocks.Block.{Block}
use Rattle.block_layout.specs.Blocks.{id_of, place_of_block}
use Rattle.block_layout.specs.Heads.{on_heads}
use Rattle.block_layout.specs.Types.{Types}

-- a first place, where there is one, lies before `place`
abbrev pub is_earlier : Option ℕ → ℕ → Bool
is_earlier None place = false
is_earlier (Some first) place = nat_lt first place

-- the first block with the kind and number of this one has an earlier place; `before` are those
-- before it
abbrev pub is_block_twice : Types → (before : List Block) → Block → Bool
is_block_twice y before b =
    is_earlier (option_and_then (λ id. place_of_block id y.ids) (id_of y.symbols b)) (length before)

-- rule 22: a block twice
unfoldable pub rule_22 : Types → List Block → List Refusal
rule_22 y blocks = on_heads (is_block_twice y) 22 blocks
