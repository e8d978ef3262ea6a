-- The rules of statements, by their numbers.
use Rattle.std.specs.Prelude.{◌≡◌, List, ◌++◌, Option, Some, None, Result, Ok, Err}
use Rattle.plc_base.specs.declared.refusals.Refusal.{Refusal}
use Rattle.plc_base.specs.declared.refusals.SourceFault.{SourceFault}
use Rattle.plc_base.specs.declared.refusals.SourceFault.TheVariants.{Refused, NoMemory}
use Rattle.stl_ast.specs.declared.blocks.Block.{Block}
use Rattle.stl_ast.specs.declared.blocks.Tree.{Tree}
use Rattle.stl_symbols.specs.Symbol.{Symbol}
use Rattle.block_layout.specs.declared.blocks.BlockLayout.{BlockLayout}
use Rattle.stl_types.specs.Bodies.{first_context}
use Rattle.stl_types.specs.Brackets.{rule_29, rule_30, rule_31}
use Rattle.stl_types.specs.Calls.{rule_24_of_actuals, rule_34, rule_35, rule_36, rule_37, rule_38, rule_40, rule_46}
use Rattle.stl_types.specs.Context.{Context}
use Rattle.stl_types.specs.Labels.{rule_26, rule_27}
use Rattle.stl_types.specs.Landings.{rule_33}
use Rattle.stl_types.specs.Lists.{rule_32}
use Rattle.stl_types.specs.Operands.{rules_24_25_39}
use Rattle.stl_types.specs.Unknown.{rule_20}
use Rattle.stl_types.specs.Zones.{rule_47, rule_48, rule_49}

-- what all bodies and settings break, by the rules of statements in their order
unfoldable pub statement_refusals_by : Context → List Block → List Refusal
statement_refusals_by c blocks =
    rule_20 c blocks  -- an unknown name or component
    ++ rules_24_25_39 c blocks  -- a width, a form or a constant that isn't allowed; a written input
    ++ rule_24_of_actuals c blocks  -- a DATE_AND_TIME as an actual parameter
    ++ rule_26 blocks  -- an unknown label
    ++ rule_27 blocks  -- a label twice
    ++ rule_29 blocks  -- a ) without open bracket
    ++ rule_30 blocks  -- a bracket open at the block's end
    ++ rule_31 blocks  -- the eighth open bracket
    ++ rule_32 blocks  -- a JL without a right jump list
    ++ rule_33 blocks  -- unequal open brackets or zones at a jump and its label
    ++ rule_34 c blocks  -- a call that names no such parameter
    ++ rule_35 c blocks  -- a parameter supplied twice
    ++ rule_36 c blocks  -- a parameter of a function that isn't supplied
    ++ rule_37 c blocks  -- an actual parameter that doesn't fit
    ++ rule_38 c blocks  -- a data block that isn't an instance of the function block
    ++ rule_40 c blocks  -- UC or CC of a block with parameters, CALL without data block
    ++ rule_46 c blocks  -- a system function that isn't one of the nine
    ++ rule_47 blocks  -- a )MCR without open zone
    ++ rule_48 blocks  -- a zone open at the block's end
    ++ rule_49 blocks  -- the ninth open zone

-- what a tree breaks, with its symbols and the layouts of its blocks
unfoldable pub statement_refusals : Tree → List Symbol → List BlockLayout → List Refusal
statement_refusals t symbols l = statement_refusals_by (first_context symbols l t.blocks) t.blocks

-- the tree where no rule is broken, else the least refusal
abbrev pub ChecksTree : Option Refusal → Tree → Result Tree SourceFault → Type 0
ChecksTree least tree (Ok t) = (least ≡ None) × (t ≡ tree)
ChecksTree least tree (Err (Refused r)) = least ≡ Some r
ChecksTree least tree (Err NoMemory) = Unit {0}
