-- The rules of statements, in the groups that the code checks together.
use Rattle.std.specs.Prelude.{List, [], ◌++◌}
use Rattle.std.specs.List.{flat_map}
use Rattle.plc_base.specs.declared.refusals.Refusal.{Refusal}
use Rattle.stl_ast.specs.declared.blocks.Block.{Block}
use Rattle.stl_ast.specs.declared.statements.Statement.{Statement}
use Rattle.plc_base.specs.Least.{broken_if}
use Rattle.stl_types.specs.Bodies.{in_contexts}
use Rattle.stl_types.specs.Brackets.{rule_29, rule_30, rule_31}
use Rattle.stl_types.specs.Calls.{by_callee, call_37, calls_unknown, has_wrong_instance, is_bare_call, lacks_actual, rule_24_of_actuals, rule_34, rule_35, rule_36, rule_37, rule_38, rule_40, rule_46, is_resolved_date, actuals_supplied_twice, actuals_without_formal}
use Rattle.stl_types.specs.Context.{Context}
use Rattle.stl_types.specs.Labels.{rule_26, rule_27}
use Rattle.stl_types.specs.Landings.{rule_33}
use Rattle.stl_types.specs.Lists.{rule_32}
use Rattle.stl_types.specs.Parameters.{Callee, callee_of}
use Rattle.stl_types.specs.Resolution.{resolution_of}
use Rattle.stl_types.specs.Zones.{rule_47, rule_48, rule_49}

-- what each statement breaks by itself, in all bodies
abbrev pub in_statements : (Context → Statement → List Refusal) → Context → List Block
    → List Refusal
in_statements broken c blocks = in_contexts (λ c body. flat_map (broken c) body) c blocks

-- what a call breaks by the block that is called
unfoldable pub broken_call : Context → Callee → Statement → List Refusal
broken_call c callee s =
    actuals_without_formal callee.formals s.actuals
    ++ actuals_supplied_twice callee.formals [] s.actuals
    ++ broken_if (lacks_actual callee s) s.line 36 ++ call_37 c callee s
    ++ broken_if (has_wrong_instance c callee s.operand) s.line 38
    ++ broken_if (is_bare_call callee s) s.line 40

-- rule 24 in a statement: each actual parameter that is a DATE_AND_TIME
abbrev pub dates_of : Context → Statement → List Refusal
dates_of c s =
    flat_map (λ a. broken_if (is_resolved_date (resolution_of c a.value)) a.line 24) s.actuals

-- what a statement breaks by rules 34 to 38, 40 and 46, and its actual parameters by rule 24
unfoldable pub broken_statement : Context → Statement → List Refusal
broken_statement c s =
    by_callee (broken_call c) s (callee_of c s.operand)
    ++ broken_if (calls_unknown c s.operand) s.line 46 ++ dates_of c s

-- the rules of calls, 34 to 38, 40 and 46, and rule 24 of actual parameters, in all bodies
unfoldable pub rules_of_calls : Context → List Block → List Refusal
rules_of_calls c blocks =
    rule_34 c blocks ++ rule_35 c blocks ++ rule_36 c blocks ++ rule_37 c blocks
    ++ rule_38 c blocks
    ++ rule_40 c blocks ++ rule_46 c blocks ++ rule_24_of_actuals c blocks

-- the rules of labels, brackets and jumps, 26, 27 and 29 to 33, in all bodies
unfoldable pub rules_of_jumps : List Block → List Refusal
rules_of_jumps blocks =
    rule_26 blocks ++ rule_27 blocks ++ rule_29 blocks ++ rule_30 blocks ++ rule_31 blocks
    ++ rule_32 blocks ++ rule_33 blocks

-- the rules of zones, 47 to 49, in all bodies
unfoldable pub rules_of_zones : List Block → List Refusal
rules_of_zones blocks = rule_47 blocks ++ rule_48 blocks ++ rule_49 blocks
