-- A tree that breaks none of the rules, each by itself, has no refusals.
use Rattle.std.proofs.Common.{◌≡◌, List, [], ◌++◌}
use Rattle.std.specs.List.{flat_map}
use Rattle.plc_base.specs.declared.refusals.Refusal.{Refusal}
use Rattle.stl_ast.specs.declared.blocks.Block.{Block}
use Rattle.stl_ast.specs.declared.blocks.Tree.{Tree}
use Rattle.stl_symbols.specs.Symbol.{Symbol}
use Rattle.block_layout.specs.Around.{refusals_in_blocks}
use Rattle.block_layout.specs.Heads.{on_heads}
use Rattle.block_layout.specs.Layouts.{layouts_of}
use Rattle.block_layout.specs.Measures.{types_of_source}
use Rattle.block_layout.specs.Operands.{in_body}
use Rattle.block_layout.specs.Rule23.{refusals_23, has_unknown_head, operand_23, rule_23}
use Rattle.block_layout.specs.Rule41.{refusals_41, rule_41, setting_misfits}
use Rattle.block_layout.specs.Rule42.{bodies_42, refusals_42, rule_42, setting_is_outside}
use Rattle.block_layout.specs.Settings.{on_settings}
use Rattle.block_layout.specs.Table.{layout_refusals, refusals_of_blocks as layout_refusals_by}
use Rattle.block_layout.specs.Types.{Types}
use Rattle.block_layout.specs.declared.blocks.BlockLayout.{BlockLayout}
use Rattle.stl_types.specs.Bodies.{first_context, in_contexts}
use Rattle.stl_types.specs.Context.{Context}
use Rattle.stl_types.specs.Table.{statement_refusals_by, statement_refusals}
use Rattle.stl_types.specs.Unknown.{operand_20, rule_20, sets_unknown}
use Rattle.sem_kept.proofs.accepted.Accepted.{LaysOutRight, StatesRight}

both : (xs ys : List Refusal) → xs ≡ [] → ys ≡ [] → xs ++ ys ≡ []
both xs ys e f = λ i. e i ++ f i

-- ---- rules of several parts

pub by_20 : (c : Context) (blocks : List Block) → on_settings (sets_unknown c.layouts) 20 0 blocks ≡ [] → in_contexts (λ c body. in_body (operand_20 c) body) c blocks ≡ [] → rule_20 c blocks ≡ []
unfolding rule_20
by_20 c blocks settings bodies = both _ _ settings bodies

pub by_23 : (y : Types) (blocks : List Block) → on_heads (λ before b. has_unknown_head y b) 23 blocks ≡ [] → refusals_in_blocks (refusals_23 y) blocks ≡ []
    → flat_map (λ b. in_body (operand_23 y) b.body) blocks ≡ [] → rule_23 y blocks ≡ []
unfolding rule_23
by_23 y blocks heads declared bodies = both _ _ (both _ _ heads declared) bodies

pub by_41 : (l : List BlockLayout) (blocks : List Block) → refusals_in_blocks refusals_41 blocks ≡ [] → on_settings (setting_misfits l) 41 0 blocks ≡ [] → rule_41 l blocks ≡ []
unfolding rule_41
by_41 l blocks declared settings = both _ _ declared settings

pub by_42 : (y : Types) (l : List BlockLayout) (blocks : List Block) → refusals_in_blocks refusals_42 blocks ≡ [] → on_settings (setting_is_outside l) 42 0 blocks ≡ [] → bodies_42 y l 0 blocks ≡ []
    → rule_42 y l blocks ≡ []
unfolding rule_42
by_42 y l blocks declared settings bodies = both _ _ (both _ _ declared settings) bodies

-- ---- all of them

layouts_by_rules : (y : Types) (l : List BlockLayout) (blocks : List Block) → LaysOutRight y l blocks → layout_refusals_by y l blocks ≡ []
unfolding layout_refusals_by
layouts_by_rules y l blocks h =
    let to_23 = both _ _ (both _ _ h.by_21 h.by_22) h.by_23 in
    let to_43 = both _ _ (both _ _ (both _ _ to_23 h.by_41) h.by_42) h.by_43 in
    let to_51 = both _ _ (both _ _ (both _ _ to_43 h.by_44) h.by_50) h.by_51 in
    both _ _ (both _ _ (both _ _ (both _ _ (both _ _ to_51 h.by_52) h.by_53) h.by_54) h.by_55) h.by_56

pub no_layout_refusals : (symbols : List Symbol) (t : Tree) → LaysOutRight (types_of_source symbols t.blocks) (layouts_of t symbols) t.blocks → layout_refusals t symbols ≡ []
unfolding layout_refusals
no_layout_refusals symbols t h = layouts_by_rules (types_of_source symbols t.blocks) (layouts_of t symbols) t.blocks h

statements_by_rules : (c : Context) (blocks : List Block) → StatesRight c blocks → statement_refusals_by c blocks ≡ []
unfolding statement_refusals_by
statements_by_rules c blocks h =
    let to_27 = both _ _ (both _ _ (both _ _ (both _ _ h.by_20 h.by_24) h.by_dates) h.by_26) h.by_27 in
    let to_33 = both _ _ (both _ _ (both _ _ (both _ _ (both _ _ to_27 h.by_29) h.by_30) h.by_31) h.by_32) h.by_33 in
    let to_38 = both _ _ (both _ _ (both _ _ (both _ _ (both _ _ to_33 h.by_34) h.by_35) h.by_36) h.by_37) h.by_38 in
    both _ _ (both _ _ (both _ _ (both _ _ (both _ _ to_38 h.by_40) h.by_46) h.by_47) h.by_48) h.by_49

pub no_statement_refusals : (symbols : List Symbol) (t : Tree) (l : List BlockLayout) → StatesRight (first_context symbols l t.blocks) t.blocks → statement_refusals t symbols l ≡ []
unfolding statement_refusals
no_statement_refusals symbols t l h = statements_by_rules (first_context symbols l t.blocks) t.blocks h
