-- Rules 24, 25 and 39: the operand of an instruction. 24: its width doesn't fit; 25: its form isn't
-- allowed, or the constant that it is; 39: an input parameter of a function is written. The line is
-- that of the statement.
use Rattle.std.specs.Prelude.{ℕ, Bool, true, false, ◌&&◌, ◌||◌, not, List, [], ◌∷◌, Option, Some, None, if◌then◌else◌}
use Rattle.std.specs.List.{flat_map}
use Rattle.plc_base.specs.declared.places.Width.{Width}
use Rattle.plc_base.specs.declared.refusals.Refusal.{Refusal}
use Rattle.stl_ast.specs.declared.blocks.Block.{Block}
use Rattle.stl_ast.specs.declared.blocks.PartKind.TheVariants as part
use Rattle.stl_ast.specs.declared.operands.Operand.{Operand}
use Rattle.stl_ast.specs.declared.operands.Operand.TheVariants as operand
use Rattle.stl_ast.specs.declared.statements.Statement.{Statement}
use Rattle.stl_types.specs.Bodies.{in_contexts}
use Rattle.stl_types.specs.Constants.{takes_constant}
use Rattle.stl_types.specs.Context.{Context}
use Rattle.stl_types.specs.OperandRules.{operand_rule_of}
use Rattle.stl_types.specs.Kinds.{names_nothing, is_direct, is_in_memory, is_timer, is_counter, is_opened, is_condition, is_pointer_constant, is_label_operand, is_status_word, is_second_register, is_loadable_register, is_operand_of_call, is_composite, is_date, width_in, is_bit, is_double_word, is_peripheral, is_peripheral_area}
use Rattle.stl_types.specs.Resolution.{resolution_of}
use Rattle.stl_types.specs.declared.operand_rules.OperandRule.{OperandRule}
use Rattle.stl_types.specs.declared.operand_rules.OperandRule.TheVariants as rules
use Rattle.stl_types.specs.declared.resolved_operands.Resolution.{Resolution}
use Rattle.stl_types.specs.declared.resolved_operands.Resolution.TheVariants.{Resolved}
use Rattle.stl_types.specs.declared.resolved_operands.Side.TheVariants as side
use Rattle.stl_types.specs.declared.resolved_operands.ResolvedOperand.{ResolvedOperand}
use Rattle.stl_types.specs.declared.resolved_operands.ResolvedOperand.TheVariants as resolved

-- the operands but constants that an operand rule takes, whatever their width
unfoldable pub takes_operand : OperandRule → ResolvedOperand → Bool
takes_operand rules.Bare v = names_nothing v
takes_operand rules.ReadsBit v = is_in_memory v || is_timer v || is_counter v || is_condition v
takes_operand rules.ReadsBitOrBare v =
    names_nothing v || is_in_memory v || is_timer v || is_counter v || is_condition v
takes_operand rules.WritesBit v = is_in_memory v
takes_operand rules.Sets v = is_in_memory v || is_counter v
takes_operand rules.Resets v = is_in_memory v || is_timer v || is_counter v
takes_operand rules.Loads v =
    is_in_memory v || is_timer v || is_counter v || is_pointer_constant v || is_loadable_register v
takes_operand rules.Transfers v = is_in_memory v || is_status_word v
takes_operand rules.LoadsBcd v = is_timer v || is_counter v
takes_operand rules.LoadsAr1 v =
    names_nothing v || is_pointer_constant v || is_direct v || is_second_register v
takes_operand rules.LoadsAr2 v = names_nothing v || is_pointer_constant v || is_direct v
takes_operand rules.StoresAr1 v = names_nothing v || is_direct v || is_second_register v
takes_operand rules.StoresAr2 v = names_nothing v || is_direct v
takes_operand rules.AddsToAr v = names_nothing v || is_pointer_constant v
takes_operand (rules.Counts most) v = false
takes_operand (rules.Shifts most) v = names_nothing v
takes_operand rules.Adds v = false
takes_operand (rules.Combines kind) v = names_nothing v
takes_operand rules.Jumps v = is_label_operand v
takes_operand rules.StartsTimer v = is_timer v
takes_operand rules.Enables v = is_timer v || is_counter v
takes_operand rules.StepsCounter v = is_counter v
takes_operand rules.Calls v = is_operand_of_call v
takes_operand rules.Opens v = is_opened v

-- an operand rule that takes a place in memory, of whatever width
unfoldable pub takes_places : OperandRule → Bool
takes_places rules.ReadsBit = true
takes_places rules.ReadsBitOrBare = true
takes_places rules.WritesBit = true
takes_places rules.Sets = true
takes_places rules.Resets = true
takes_places rules.Loads = true
takes_places rules.Transfers = true
takes_places rules.LoadsAr1 = true
takes_places rules.LoadsAr2 = true
takes_places rules.StoresAr1 = true
takes_places rules.StoresAr2 = true
takes_places _ = false

-- an operand rule takes an operand of a width: bit instructions a bit, L and T a byte, a word or a
-- double word, those of address registers a double word
unfoldable pub takes_width : OperandRule → Option Width → Bool
takes_width rules.ReadsBit w = is_bit w
takes_width rules.ReadsBitOrBare w = is_bit w
takes_width rules.WritesBit w = is_bit w
takes_width rules.Sets w = is_bit w
takes_width rules.Resets w = is_bit w
takes_width rules.Loads w = not (is_bit w)
takes_width rules.Transfers w = not (is_bit w)
takes_width rules.LoadsAr1 w = is_double_word w
takes_width rules.LoadsAr2 w = is_double_word w
takes_width rules.StoresAr1 w = is_double_word w
takes_width rules.StoresAr2 w = is_double_word w
takes_width _ w = true

-- the width of an operand fits an operand rule; only a place in memory has one
abbrev pub has_width : OperandRule → Option Width → Bool
has_width f None = true
has_width f (Some w) = takes_width f (Some w)

-- an operand rule of instructions that write their operand
abbrev pub rule_writes_operand : OperandRule → Bool
rule_writes_operand rules.WritesBit = true
rule_writes_operand rules.Sets = true
rule_writes_operand rules.Resets = true
rule_writes_operand rules.Transfers = true
rule_writes_operand rules.StoresAr1 = true
rule_writes_operand rules.StoresAr2 = true
rule_writes_operand _ = false

-- an operand lies in the peripheral area where the operand rule can't take it: there are inputs to
-- read and outputs to write, and no pointer leads there by an area of its own
abbrev pub is_on_wrong_side : OperandRule → ResolvedOperand → Bool
is_on_wrong_side f (resolved.Direct place width side.Inputs declared) = rule_writes_operand f
is_on_wrong_side f (resolved.Direct place width side.Outputs declared) = not (rule_writes_operand f)
is_on_wrong_side f (resolved.ByMemory a width from byte) = is_peripheral a
is_on_wrong_side f (resolved.ByRegister a width register bits) = is_peripheral_area a
is_on_wrong_side f _ = false

-- an operand is an input parameter of the function that has the body
abbrev pub is_input : ResolvedOperand → Bool
is_input (resolved.Parameter index part.Input declared) = true
is_input _ = false

-- the rule that an operand that isn't elementary breaks: a structure or an array has no width that
-- fits, where the operand rule takes places at all; a DATE_AND_TIME never has one
abbrev pub composite_rule : OperandRule → ResolvedOperand → ℕ
composite_rule f v = if is_date v || takes_places f then 24 else 25

-- the rule that an instruction breaks by its operand: of one that the operand rule takes, the width
-- comes before the side
unfoldable pub rule_of_resolved_operand : OperandRule → ResolvedOperand → Option ℕ
rule_of_resolved_operand f v =
    if is_composite v then Some (composite_rule f v)
    else if not (takes_operand f v) then Some 25
    else if not (has_width f (width_in v)) then Some 24
    else if is_on_wrong_side f v then Some 25
    else if rule_writes_operand f && is_input v then Some 39
    else None

-- the rule that an instruction of an operand rule breaks by what its operand comes to; none where
-- the operand is unknown or isn't checked
abbrev pub rule_of_resolution : OperandRule → Resolution → Option ℕ
rule_of_resolution f (Resolved v) = rule_of_resolved_operand f v
rule_of_resolution f _ = None

-- the rule that an operand breaks with an instruction of an operand rule
abbrev pub rule_of_operand : Context → OperandRule → Operand → Option ℕ
rule_of_operand c f (operand.Constant value) = if takes_constant f value then None else Some 25
rule_of_operand c f o = rule_of_resolution f (resolution_of c o)

-- the refusal of a line by the rule that is broken, if one is
abbrev pub at_line : (line : ℕ) → Option ℕ → List Refusal
at_line line None = []
at_line line (Some rule) = record { line = line; rule = rule } ∷ []

-- the rule that a statement breaks by its operand
abbrev pub statement_rule : Context → Statement → Option ℕ
statement_rule c s = rule_of_operand c (operand_rule_of s.code) s.operand

-- what the statements of a body break by their operands: rules 24, 25 and 39
abbrev pub operands_24 : Context → List Statement → List Refusal
operands_24 c body = flat_map (λ s. at_line s.line (statement_rule c s)) body

-- rules 24, 25 and 39, in all bodies: a width, a form or a constant that isn't allowed, and a
-- written input
unfoldable pub rules_24_25_39 : Context → List Block → List Refusal
rules_24_25_39 c blocks = in_contexts operands_24 c blocks
