-- What a CALL passes: the actual parameters by the index of their parameters.
use Rattle.std.specs.Prelude.{ℕ, suc, List, [], ◌∷◌, ◌++◌, Option, Some, None, if◌then◌else◌, find}
use Rattle.std.specs.Str.{bytes_eq}
use Rattle.plc_base.specs.declared.places.Place.{Place}
use Rattle.plc_base.specs.declared.places.Width.{Width}
use Rattle.flat_code.specs.Instr.{Passing}
use Rattle.flat_code.specs.declared.operands.Passed.{Passed}
use Rattle.flat_code.specs.declared.operands.Passed.TheVariants as passed
use Rattle.stl_ast.specs.declared.operands.Operand.{Operand}
use Rattle.stl_ast.specs.declared.statements.Actual.{Actual}
use Rattle.plc_base.specs.Folding.{upper_case_name}
use Rattle.block_layout.specs.Offsets.{width_of}
use Rattle.stl_types.specs.Context.{Context}
use Rattle.stl_types.specs.declared.parameters.Formal.{Formal}
use Rattle.stl_types.specs.Resolution.{resolution_of}
use Rattle.stl_types.specs.declared.resolved_operands.Resolution.{Resolution}
use Rattle.stl_types.specs.declared.resolved_operands.Resolution.TheVariants.{Resolved}
use Rattle.stl_types.specs.declared.resolved_operands.ResolvedOperand.{ResolvedOperand}
use Rattle.stl_types.specs.declared.resolved_operands.ResolvedOperand.TheVariants as resolved
use Rattle.stl_codegen.specs.Operands.{is_in_named_block, constant_bits}

-- what passes a place, as it is written: in a data block that is named, or in the open one
abbrev pub passed_place : Place → Width → Passed
passed_place place width =
    if is_in_named_block place
    then passed.InBlock place.number place.area width place.byte place.bit
    else passed.Direct place.area width place.byte place.bit

-- what an actual parameter passes: a constant, a place, or a parameter of the function that calls;
-- nothing else fits a parameter
abbrev pub passed_by_operand : Operand → ResolvedOperand → Option Passed
passed_by_operand o (resolved.Direct place width side declared) = Some (passed_place place width)
passed_by_operand o (resolved.Parameter index section declared) =
    Some (passed.Parameter index (width_of declared))
passed_by_operand o resolved.Constant = Some (passed.Literal (constant_bits o))
passed_by_operand o _ = None

-- what an actual parameter passes; none where what it names is unknown, or breaks a rule itself
abbrev pub passed_resolution : Operand → Resolution → Option Passed
passed_resolution o (Resolved v) = passed_by_operand o v
passed_resolution o _ = None

-- the actual parameter that is supplied for a parameter
abbrev pub actual_of_formal : List Actual → Formal → Option Actual
actual_of_formal actuals f = find (λ a. bytes_eq (upper_case_name a.name) f.name) actuals

-- what is passed, with the index of its parameter, in a list; nothing where nothing can be passed
abbrev pub with_index : ℕ → Option Passed → List Passing
with_index index None = []
with_index index (Some actual) = record { index = index; actual = actual } ∷ []

-- what a CALL passes for the parameter of an index; nothing where it supplies none
abbrev pub passed_actual : Context → (index : ℕ) → Option Actual → List Passing
passed_actual c index None = []
passed_actual c index (Some a) =
    with_index index (passed_resolution a.value (resolution_of c a.value))

-- what a CALL passes for these parameters, one after the other, the first of them with the index
-- `index`
abbrev pub passings_from : Context → List Actual → (index : ℕ) → List Formal → List Passing
passings_from c actuals index [] = []
passings_from c actuals index (f ∷ fs) =
    passed_actual c index (actual_of_formal actuals f) ++ passings_from c actuals (suc index) fs
