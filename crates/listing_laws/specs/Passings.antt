-- What a listed CALL passes is what the ops before it pass, and it breaks no rule.
use Rattle.std.specs.Prelude.{◌≡◌, ◌<◌, ◌≤◌, ◌^◌, ℕ, suc, nat_eq, ◌==◌, true, false, ◌&&◌, not, List, [], ◌∷◌, length, map, Some, slice_get}
use Rattle.std.specs.List.{AllByRecursion, list_any}
use Rattle.std.specs.Str.{bytes_eq}
use Rattle.plc_base.specs.Folding.{upper_case_name}
use Rattle.plc_base.specs.Kinds.{is_function_block}
use Rattle.plc_base.specs.Widths.{width_number}
use Rattle.plc_base.specs.declared.places.Area.TheVariants as area
use Rattle.flat_code.specs.Blocks.{literal_fits}
use Rattle.flat_code.specs.Instr.{Passing}
use Rattle.flat_code.specs.declared.operands.Passed.{Passed}
use Rattle.flat_code.specs.declared.operands.Passed.TheVariants as passed
use Rattle.stl_ast.specs.Statements.{has_actuals}
use Rattle.stl_ast.specs.declared.statements.Actual.{Actual}
use Rattle.stl_ast.specs.declared.statements.Statement.{Statement}
use Rattle.block_layout.specs.Offsets.{width_of}
use Rattle.stl_types.specs.Actuals.{formal_named, is_input_section, takes_section}
use Rattle.stl_types.specs.Calls.{lacks_actual, misfits_formal, names_no_formal, is_resolved_date, actuals_supplied_twice}
use Rattle.stl_types.specs.Context.{Context, data_number}
use Rattle.stl_types.specs.Parameters.{Callee}
use Rattle.stl_types.specs.Resolution.{resolution_of}
use Rattle.stl_types.specs.declared.parameters.Formal.{Formal}
use Rattle.stl_types.specs.declared.resolved_operands.Resolution.TheVariants.{Resolved}
use Rattle.stl_types.specs.declared.resolved_operands.ResolvedOperand.TheVariants as resolved
use Rattle.stl_codegen.specs.EmittedOps.{pass_ops}
use Rattle.stl_codegen.specs.Instruction.{source_block_at, in_parameter_order, passings_to}
use Rattle.stl_list.specs.Actuals.{actuals_before}
use Rattle.stl_parser.specs.Operands.{data_block_name}
use Rattle.stl_list.specs.Operands.{own_parameter}
use Rattle.listing_laws.specs.Chains.{is_listed_type}

-- ---- what fits

-- what is passed for the parameter `f` of a listing fits it, in a body whose own parameters are
-- `own`
abbrev pub FitsListed : Context → (own : List Formal) → Formal → Passed → Type 0
FitsListed c own f (passed.Literal value) =
    (is_input_section f.section ≡ true) × (is_listed_type f.kind ≡ true)
    × (literal_fits (width_number (width_of f.kind)) value ≡ true) × (value < 2 ^ 32)
FitsListed c own f (passed.Direct a width byte bit) = width ≡ width_of f.kind
FitsListed c own f (passed.InBlock number a width byte bit) =
    (width ≡ width_of f.kind) × (a ≡ area.Db) × (nat_eq number 0 ≡ false)
    × (data_number c (data_block_name number) ≡ Some number)
FitsListed c own f (passed.Parameter index width) =
    (g : Formal) × (width ≡ width_of g.kind) × (g.kind ≡ f.kind)
    × (takes_section f.section g.section ≡ true)
    × (resolution_of c (own_parameter own index) ≡ Resolved (resolved.Parameter index g.section g.kind))

-- a passing is for a parameter that the called block has, and what it passes fits there
pub record IsPassable (c : Context) (own called : List Formal) (p : Passing) : Type 0 where
  -- the parameter of the called block
  pub formal : Formal
  -- the parameter has the index of the passing
  pub there : slice_get called p.index ≡ Some formal
  -- what is passed fits the parameter
  pub fits : FitsListed c own formal p.actual

-- passings are for parameters of rising indices, none of them below `from`
abbrev pub AreRising : (from : ℕ) → List Passing → Type 0
AreRising from [] = Unit {0}
AreRising from (p ∷ ps) = (from ≤ p.index) × AreRising (suc p.index) ps

-- parameters have names of their own, also in upper case
abbrev pub AreNamedApart : List Formal → Type 0
AreNamedApart called =
    (i j : ℕ) (f g : Formal) → slice_get called i ≡ Some f → slice_get called j ≡ Some g
    → bytes_eq (upper_case_name f.name) (upper_case_name g.name) ≡ (i == j)

-- a parameter as the rules know it: with its name in upper case
abbrev pub in_upper_case : Formal → Formal
in_upper_case f = record f { name = upper_case_name f.name }

-- ---- what is passed

-- a CALL as a listing has it: its actual parameters are made of the ops before it. `callee` is the
-- called block as the rules find it, `called` are its parameters in the listing, by their index
pub record IsListedCall (c : Context) (own called : List Formal) (callee : Callee)
    (ps : List Passing) (s : Statement) : Type 0 where
  -- the actual parameters are made of the ops of these passings
  pub actuals : s.actuals ≡ actuals_before s.line own called (pass_ops ps)
  -- the parameters by their index are those of the listing, with their names in upper case
  pub order : in_parameter_order (source_block_at c.blocks callee.place) callee.formals
      ≡ map in_upper_case called
  -- no two of the parameters have one name, even in upper case
  pub named : AreNamedApart called
  -- each passing is for a parameter of the called block, and fits there
  pub passable : AllByRecursion (IsPassable c own called) ps
  -- the passings stand by rising index, none twice
  pub rising : AreRising 0 ps

-- a listed CALL passes what the ops before it pass
abbrev pub ArePassingsKept : Type 0
ArePassingsKept =
    (c : Context) (own called : List Formal) (callee : Callee) (ps : List Passing) (s : Statement)
    → IsListedCall c own called callee ps s → passings_to c s (Some callee) ≡ ps

-- ---- rules

-- for each parameter of a called block something is passed
abbrev pub AreAllPassed : List Formal → List Passing → Type 0
AreAllPassed called ps =
    (i : ℕ) → i < length called → list_any (λ (p : Passing). p.index == i) ps ≡ true

-- a statement that calls a block breaks none of the rules 24, 34, 35 and 37 by its actual
-- parameters
pub record BreaksNone (c : Context) (callee : Callee) (s : Statement) : Type 0 where
  -- no actual parameter is a DATE_AND_TIME
  pub by_24 : AllByRecursion
      (λ (a : Actual). is_resolved_date (resolution_of c a.value) ≡ false) s.actuals
  -- each actual parameter names a parameter of the block
  pub by_34 : AllByRecursion (λ (a : Actual). names_no_formal callee.formals a ≡ false) s.actuals
  -- no parameter is supplied twice
  pub by_35 : actuals_supplied_twice callee.formals [] s.actuals ≡ []
  -- each actual parameter fits its parameter
  pub by_37 : AllByRecursion
      (λ (a : Actual). misfits_formal c a (formal_named callee.formals a.name) ≡ false) s.actuals

-- what a listed call passes breaks none of the rules 24, 34, 35 and 37
abbrev pub AreActualsRight : Type 0
AreActualsRight =
    (c : Context) (own called : List Formal) (callee : Callee) (ps : List Passing) (s : Statement)
    → IsListedCall c own called callee ps s → BreaksNone c callee s

-- rule 36: a listed call lacks no actual parameter that it must have, where it passes all
-- parameters of what it calls, or this is a function block, or it is no CALL
abbrev pub AreCallsComplete : Type 0
AreCallsComplete =
    (c : Context) (own called : List Formal) (callee : Callee) (ps : List Passing) (s : Statement)
    → IsListedCall c own called callee ps s
    → ((has_actuals s.code && not (is_function_block callee.id.kind)) ≡ true
    → AreAllPassed called ps)
    → lacks_actual callee s ≡ false
