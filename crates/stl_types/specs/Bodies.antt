-- Rules on the bodies of a source.
use Rattle.std.specs.Prelude.{◌+◌, List, [], ◌∷◌, ◌++◌}
use Rattle.std.specs.List.{flat_map}
use Rattle.plc_base.specs.declared.refusals.Refusal.{Refusal}
use Rattle.stl_ast.specs.declared.blocks.Block.{Block}
use Rattle.stl_ast.specs.declared.statements.Statement.{Statement}
use Rattle.stl_symbols.specs.Symbol.{Symbol}
use Rattle.block_layout.specs.declared.blocks.BlockLayout.{BlockLayout}
use Rattle.stl_types.specs.Context.{Context}

-- what is broken in the bodies, each by itself
abbrev pub in_bodies : (List Statement → List Refusal) → List Block → List Refusal
in_bodies broken blocks = flat_map (λ b. broken b.body) blocks

-- what is broken with what the source declares, in the bodies of blocks, the first of which stands
-- at the place of the context
abbrev pub in_contexts : (Context → List Statement → List Refusal) → Context → List Block
    → List Refusal
in_contexts broken c [] = []
in_contexts broken c (b ∷ bs) =
    broken c b.body ++ in_contexts broken (record c { block = c.block + 1 }) bs

-- what the body of the first block is checked by
abbrev pub first_context : List Symbol → List BlockLayout → List Block → Context
first_context symbols layouts blocks =
    record { symbols = symbols; blocks = blocks; layouts = layouts; block = 0 }
