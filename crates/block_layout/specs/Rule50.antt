-- Rule 50: local data above 1,024 bytes. The line is that of the block's head.
use Rattle.std.specs.Prelude.{Bool, nat_lt, List}
use Rattle.plc_base.specs.declared.refusals.Refusal.{Refusal}
use Rattle.stl_ast.specs.declared.blocks.Block.{Block}
use Rattle.block_layout.specs.Heads.{on_heads}
use Rattle.block_layout.specs.Lengths.{local_len}
use Rattle.block_layout.specs.Types.{Types}

-- the local data of a block are above 1,024 bytes
abbrev pub has_too_much_local : Types → Block → Bool
has_too_much_local y b = nat_lt 1024 (local_len y b)

-- rule 50: local data above 1,024 bytes
unfoldable pub rule_50 : Types → List Block → List Refusal
rule_50 y blocks = on_heads (λ before b. has_too_much_local y b) 50 blocks
