-- Rules 34 to 38, 40 and 46: calls. Those of an actual parameter have its line, all others that of
-- the statement. A call of a block that breaks a rule itself, or by the declaration of a parameter,
-- isn't checked by them.
use Rattle.std.specs.Prelude.{ℕ, nat_eq, Bool, true, false, ◌&&◌, ◌||◌, not, is_some, List, [], ◌∷◌, ◌++◌, map, Option, Some, None}
use Rattle.std.specs.List.{flat_map, list_all, list_any, slice_get}
use Rattle.std.specs.Str.{bytes_eq}
use Rattle.std.specs.Option.{is_none}
use Rattle.plc_base.specs.Kinds.{is_function_block, is_system_function}
use Rattle.plc_base.specs.declared.blocks.BlockId.{BlockId}
use Rattle.plc_base.specs.declared.refusals.Refusal.{Refusal}
use Rattle.stl_ast.specs.declared.blocks.Block.{Block}
use Rattle.stl_ast.specs.declared.operands.Operand.{Operand}
use Rattle.stl_ast.specs.declared.operands.Operand.TheVariants as operand
use Rattle.stl_ast.specs.declared.statements.Actual.{Actual}
use Rattle.stl_ast.specs.declared.statements.Statement.{Statement}
use Rattle.stl_ast.specs.Statements.{has_actuals}
use Rattle.plc_base.specs.Folding.{upper_case_name}
use Rattle.plc_base.specs.RefusalsAlong.{refusals_along}
use Rattle.plc_base.specs.Least.{broken_if}
use Rattle.stl_symbols.specs.Names.{name_place}
use Rattle.block_layout.specs.Blocks.{named_block}
use Rattle.block_layout.specs.declared.blocks.BlockLayout.{BlockLayout}
use Rattle.block_layout.specs.declared.blocks.Shape.{Shape}
use Rattle.block_layout.specs.declared.blocks.Shape.TheVariants as shape
use Rattle.stl_types.specs.Actuals.{fits_operand, formal_named}
use Rattle.stl_types.specs.Bodies.{in_contexts}
use Rattle.stl_types.specs.Context.{Context, whole_data_place}
use Rattle.stl_types.specs.Kinds.{is_date}
use Rattle.stl_types.specs.Parameters.{Callee, callee_of, system_formals}
use Rattle.stl_types.specs.Resolution.{resolution_of}
use Rattle.stl_types.specs.declared.parameters.Formal.{Formal}
use Rattle.stl_types.specs.declared.resolved_operands.Resolution.{Resolution}
use Rattle.stl_types.specs.declared.resolved_operands.Resolution.TheVariants.{Resolved}

-- what a statement breaks as a call, by the block that is called; nothing where none is known
abbrev pub by_callee : (Callee → Statement → List Refusal) → Statement → Option Callee
    → List Refusal
by_callee broken s None = []
by_callee broken s (Some callee) = broken callee s

-- what the calls in all bodies break, by the block that is called
abbrev pub in_calls : (Context → Callee → Statement → List Refusal) → Context → List Block
    → List Refusal
in_calls broken c blocks =
    in_contexts (λ c body. flat_map (λ s. by_callee (broken c) s (callee_of c s.operand)) body) c
    blocks

-- one of these parameters has this name, in upper case
abbrev pub has_formal : List Formal → List ℕ → Bool
has_formal formals name = list_any (λ f. bytes_eq name f.name) formals

-- rule 34: the name of an actual parameter is that of no parameter of the called block
abbrev pub names_no_formal : List Formal → Actual → Bool
names_no_formal formals a = not (has_formal formals (upper_case_name a.name))

-- rule 34 in a call: each actual parameter whose name is that of no parameter
abbrev pub actuals_without_formal : List Formal → List Actual → List Refusal
actuals_without_formal formals actuals =
    flat_map (λ a. broken_if (names_no_formal formals a) a.line 34) actuals

-- rule 34, in all bodies: a call names a parameter that its block does not have
unfoldable pub rule_34 : Context → List Block → List Refusal
rule_34 c blocks = in_calls (λ c callee s. actuals_without_formal callee.formals s.actuals) c blocks

-- rule 35: a parameter is supplied twice; the second one, and each later one
abbrev pub is_supplied_twice : List Formal → (before : List (List ℕ)) → Actual → Bool
is_supplied_twice formals before a =
    not (names_no_formal formals a) && is_some (name_place (upper_case_name a.name) before)

-- rule 35 in a call: each actual parameter whose name is supplied before it; `before` are the names
-- supplied before these actual parameters
abbrev pub actuals_supplied_twice : List Formal → (before : List (List ℕ)) → List Actual
    → List Refusal
actuals_supplied_twice formals before actuals =
    refusals_along (λ a. false) (λ before a. broken_if
    (is_supplied_twice formals before a) a.line 35)
    (λ before a. before ++ upper_case_name a.name ∷ []) before actuals

-- rule 35, in all bodies: a parameter supplied twice
unfoldable pub rule_35 : Context → List Block → List Refusal
rule_35 c blocks =
    in_calls (λ c callee s. actuals_supplied_twice callee.formals [] s.actuals) c blocks

-- the names that a call supplies, in upper case
abbrev pub supplied_names : List Actual → List (List ℕ)
supplied_names actuals = map (λ a. upper_case_name a.name) actuals

-- a parameter is supplied: its name is one of those that a call supplies
abbrev pub is_supplied : (names : List (List ℕ)) → Formal → Bool
is_supplied names f = is_some (name_place f.name names)

-- rule 36 in a call: a parameter of a function or system function isn't supplied by CALL
abbrev pub lacks_actual : Callee → Statement → Bool
lacks_actual callee s =
    has_actuals s.code && not (is_function_block callee.id.kind)
    && not (list_all (is_supplied (supplied_names s.actuals)) callee.formals)

-- rule 36, in all bodies: a parameter of a function that isn't supplied
unfoldable pub rule_36 : Context → List Block → List Refusal
rule_36 c blocks =
    in_calls (λ c callee s. broken_if (lacks_actual callee s) s.line 36) c blocks

-- rule 37: an actual parameter doesn't fit the parameter of its name, where there is one
abbrev pub misfits_formal : Context → Actual → Option Formal → Bool
misfits_formal c a None = false
misfits_formal c a (Some f) = not (fits_operand c f a.value)

-- rule 37 in a call: each actual parameter that doesn't fit the parameter of its name
abbrev pub call_37 : Context → Callee → Statement → List Refusal
call_37 c callee s =
    flat_map
    (λ a. broken_if (misfits_formal c a (formal_named callee.formals a.name)) a.line 37) s.actuals

-- rule 37, in all bodies: an actual parameter that doesn't fit
unfoldable pub rule_37 : Context → List Block → List Refusal
rule_37 c blocks = in_calls call_37 c blocks

-- what an operand comes to is a DATE_AND_TIME, which rule 24 forbids as an actual parameter
abbrev pub is_resolved_date : Resolution → Bool
is_resolved_date (Resolved v) = is_date v
is_resolved_date _ = false

-- rule 24 in a body: each actual parameter that is a DATE_AND_TIME, whatever is called
abbrev pub dates_in : Context → List Statement → List Refusal
dates_in c body =
    flat_map
    (λ s. flat_map (λ a. broken_if (is_resolved_date (resolution_of c a.value)) a.line 24)
    s.actuals)
    body

-- rule 24 of actual parameters, in all bodies: a DATE_AND_TIME as an actual parameter
unfoldable pub rule_24_of_actuals : Context → List Block → List Refusal
rule_24_of_actuals c blocks = in_contexts dates_in c blocks

-- the structure of a data block is that of the function block at this place
abbrev pub is_of_block : (place : Option ℕ) → Shape → Bool
is_of_block (Some place) (shape.Of block) = nat_eq place block
is_of_block _ _ = false

-- the layout of a data block is that of an instance of the function block at this place; a data
-- block without a layout counts as one
abbrev pub is_instance : (place : Option ℕ) → Option BlockLayout → Bool
is_instance place None = true
is_instance place (Some b) = is_of_block place b.shape

-- the data block at the second place isn't an instance of the function block at the first; one that
-- is absent or breaks a rule itself isn't checked
abbrev pub is_no_instance : Context → (place : Option ℕ) → Option ℕ → Bool
is_no_instance c place None = false
is_no_instance c place (Some block) = not (is_instance place (slice_get c.layouts block))

-- rule 38 in a call: the data block isn't an instance of the function block
abbrev pub has_wrong_instance : Context → Callee → Operand → Bool
has_wrong_instance c callee (operand.Called name (Some instance)) =
    is_function_block callee.id.kind
    && is_no_instance c callee.place (whole_data_place c instance)
has_wrong_instance c callee _ = false

-- rule 38, in all bodies: a data block that isn't an instance of the function block
unfoldable pub rule_38 : Context → List Block → List Refusal
rule_38 c blocks =
    in_calls (λ c callee s. broken_if (has_wrong_instance c callee s.operand) s.line 38) c blocks

-- the operand of a call names no data block
abbrev pub has_no_instance : Operand → Bool
has_no_instance (operand.Called name None) = true
has_no_instance _ = false

-- a block has parameters
abbrev pub has_formals : List Formal → Bool
has_formals [] = false
has_formals (f ∷ fs) = true

-- rule 40 in a call: UC or CC of a block with parameters, or CALL of a function block without data
-- block
abbrev pub is_bare_call : Callee → Statement → Bool
is_bare_call callee s =
    (has_actuals s.code && is_function_block callee.id.kind && has_no_instance s.operand)
    || (not (has_actuals s.code) && has_formals callee.formals)

-- rule 40, in all bodies: UC or CC of a block with parameters, CALL without data block
unfoldable pub rule_40 : Context → List Block → List Refusal
rule_40 c blocks =
    in_calls (λ c callee s. broken_if (is_bare_call callee s) s.line 40) c blocks

-- rule 46: a called block is a system function that isn't one of the nine
abbrev pub is_unknown_function : Option BlockId → Bool
is_unknown_function None = false
is_unknown_function (Some id) = is_system_function id.kind && is_none (system_formals id.number)

-- rule 46 in a statement: its operand calls a system function that isn't one of the nine
abbrev pub calls_unknown : Context → Operand → Bool
calls_unknown c (operand.Called name instance) =
    is_unknown_function (named_block c.symbols name)
calls_unknown c _ = false

-- rule 46, in all bodies: a system function that isn't one of the nine
unfoldable pub rule_46 : Context → List Block → List Refusal
rule_46 c blocks =
    in_contexts (λ c body. flat_map (λ s. broken_if (calls_unknown c s.operand) s.line 46) body) c
    blocks
