-- Rule 55: more than 65,534 statements, empty ones and the one that returns not counted. The line
-- is that of the head.
use Rattle.std.specs.Prelude.{Bool, nat_lt, not, List}
use Rattle.std.specs.List.{count_by}
use Rattle.plc_base.specs.declared.refusals.Refusal.{Refusal}
use Rattle.stl_ast.specs.Statements.{is_empty_statement}
use Rattle.stl_ast.specs.declared.blocks.Block.{Block}
use Rattle.block_layout.specs.Heads.{on_heads}

-- a block has more than 65,534 statements that aren't empty
abbrev pub has_too_many_statements : Block → Bool
has_too_many_statements b = nat_lt 65534 (count_by (λ s. not (is_empty_statement s.code)) b.body)

-- rule 55: more than 65,534 statements
unfoldable pub rule_55 : List Block → List Refusal
rule_55 blocks = on_heads (λ before b. has_too_many_statements b) 55 blocks
