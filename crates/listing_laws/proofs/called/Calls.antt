-- Listed calls: operands, instructions, and what they call.
use Rattle.std.proofs.Common.{◌≡◌, ℕ, zero, suc, Bool, true, false, ◌&&◌, ◌||◌, not, List, [], ◌∷◌, length, Option, Some, None, option_map, refl, sym, ap, ap₂, ◌∙◌, arith, if◌then◌else◌, eq-eqb, ne_eqb}
use Rattle.plc_base.specs.Kinds.{is_function_block}
use Rattle.plc_base.specs.declared.blocks.BlockId.{BlockId}
use Rattle.plc_base.specs.declared.blocks.BlockKind.{BlockKind}
use Rattle.flat_code.specs.Instr.{Calls}
use Rattle.flat_code.specs.declared.operations.CallOperation.{CallOperation}
use Rattle.stl_ast.specs.Statements.{has_actuals}
use Rattle.stl_ast.specs.declared.mnemonics.Mnemonic.{Mnemonic}
use Rattle.stl_ast.specs.declared.mnemonics.Mnemonic.TheVariants as code
use Rattle.stl_ast.specs.declared.names.BlockName.{BlockName}
use Rattle.stl_ast.specs.declared.names.BlockName.TheVariants as block
use Rattle.stl_ast.specs.declared.operands.Operand.TheVariants as operand
use Rattle.block_layout.specs.declared.blocks.BlockLayout.{BlockLayout}
use Rattle.block_layout.specs.declared.blocks.Shape.{Shape}
use Rattle.stl_types.specs.Calls.{has_formals, has_no_instance, is_instance, is_no_instance, is_of_block, is_unknown_function}
use Rattle.stl_types.specs.Context.{whole_data_place}
use Rattle.stl_types.specs.Parameters.{Callee}
use Rattle.stl_types.specs.declared.parameters.Formal.{Formal}
use Rattle.stl_types.specs.declared.resolved_operands.ResolvedOperand.TheVariants as resolved
use Rattle.block_layout.specs.Fits.{number_or_zero}
use Rattle.stl_codegen.specs.Instruction.{instr_by, instruction, passings_to, resolved_instr, operand_instr}
use Rattle.stl_codegen.specs.Operations.{call_operation_of, jump_operation_of}
use Rattle.stl_parser.specs.Operands.{data_block_name}
use Rattle.stl_list.specs.Operands.{instance_name, operand_by, plain_operand}
use Rattle.listing_laws.specs.Calls.{AreCallsKept, AreCallsListed, AreCallsWhole, AreFunctionsKnown, AreInstancesRight, AreStatementsListed, IsInstanceNumbered}
use Rattle.stl_codegen.specs.EmittedOps.{pass_ops}
use Rattle.stl_list.specs.Actuals.{actuals_before, actuals_by}
use Rattle.stl_list.specs.Lines.{line_of_statement}
use Rattle.stl_list.specs.Signatures.{called_formals}
use Rattle.listing_laws.proofs.WordLemmas.{call_words_found}
use Rattle.listing_laws.proofs.called.HandedOn.{called_is}
use Rattle.listing_laws.proofs.called.Passings.{passings_kept}

-- ---- operands

pub instance_is : (instance : Option ℕ) → IsInstanceNumbered instance → instance_name (number_or_zero instance) ≡ option_map data_block_name instance
instance_is None h = refl
instance_is (Some zero) h = absurd (h refl)
instance_is (Some (suc n)) h = ap (λ (t : Bool). if t then None else Some (data_block_name (suc n))) (ne_eqb (suc n) 0 (λ e. absurd (omega (arith, e))))

pub calls_listed : AreCallsListed
unfolding operand_by plain_operand
calls_listed formals starts f how id instance ps callable numbered =
    ap₂ (λ (i : BlockId) (x : Option BlockName). operand.Called (block.Number i) x) (called_is id callable) (instance_is instance numbered)

-- ---- statements

pub statements_listed : AreStatementsListed
unfolding actuals_by
statements_listed sur n f m how id instance ps callable call = (
  call_words_found m how call,
  ap (λ (i : BlockId). actuals_before (line_of_statement sur.lines n) sur.formals (called_formals sur.signatures i) (pass_ops ps)) (called_is id callable),
)

-- ---- instructions

no_jump : (m : Mnemonic) (how : CallOperation) → call_operation_of m ≡ Some how → jump_operation_of m ≡ None
no_jump code.Call how e = refl
no_jump code.Uc how e = refl
no_jump code.Cc how e = refl
no_jump _ how e = absurd cc

pub calls_kept : AreCallsKept
unfolding instruction
calls_kept c body n s how id instance own called callee ps call seen found listed =
    ap (instr_by c body n s) (no_jump s.code how call)
    ∙ ap (resolved_instr c s) seen
    ∙ ap (operand_instr c s (resolved.Called id instance)) call
    ∙ ap (λ (o : Option Callee). Calls how id instance (passings_to c s o)) found
    ∙ ap (Calls how id instance) (passings_kept c own called callee ps s listed)

-- ---- rules

pub functions_known : AreFunctionsKnown
functions_known c other name id instance others named known = sym (ap is_unknown_function named) ∙ known

has_formals_as : (fs gs : List Formal) → length fs ≡ length gs → has_formals fs ≡ has_formals gs
has_formals_as [] [] e = refl
has_formals_as [] (g ∷ gs) e = absurd (omega (arith, e))
has_formals_as (f ∷ fs) [] e = absurd (omega (arith, e))
has_formals_as (f ∷ fs) (g ∷ gs) e = refl

abbrev bare : Mnemonic → BlockKind → (none some : Bool) → Bool
bare m k none some = (has_actuals m && is_function_block k && none) || (not (has_actuals m) && some)

pub calls_whole : AreCallsWhole
calls_whole callee other s listed code id none long right =
    ap₂ (λ (m : Mnemonic) (i : BlockId). bare m i.kind (has_no_instance listed.operand) (has_formals other.formals)) code id
    ∙ ap₂ (λ (x y : Bool). bare s.code callee.id.kind x y) none (has_formals_as other.formals callee.formals long)
    ∙ right

pub instances_right : AreInstancesRight
instances_right c callee name None h = refl
instances_right c callee name (Some instance) h =
    ap (λ (t : Bool). is_function_block callee.id.kind && t) is ∙ never (is_function_block callee.id.kind)
  where
    never : (t : Bool) → (t && false) ≡ false
    never true = refl
    never false = refl

    is : is_no_instance c callee.place (whole_data_place c instance) ≡ false
    is =
        ap (is_no_instance c callee.place) h.4
        ∙ ap (λ (o : Option BlockLayout). not (is_instance callee.place o)) h.5
        ∙ ap₂ (λ (o : Option ℕ) (x : Shape). not (is_of_block o x)) h.3 h.6
        ∙ ap not (eq-eqb h.2 h.2 refl)
