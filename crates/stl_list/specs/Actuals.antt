-- The actual parameters of a CALL, by the ops before it.
use Rattle.std.specs.Prelude.{ℕ, Bool, true, false, List, [], ◌∷◌, Option, Some, None, slice_get}
use Rattle.std.specs.List.{flat_map}
use Rattle.flat_code.specs.Ops.{OpData}
use Rattle.flat_code.specs.declared.operands.Operand.{Operand as FlatOperand}
use Rattle.flat_code.specs.declared.operands.Operand.TheVariants as flat
use Rattle.flat_code.specs.declared.operands.Passed.{Passed}
use Rattle.flat_code.specs.declared.operands.Passed.TheVariants as passed
use Rattle.stl_ast.specs.declared.blocks.PartKind.{PartKind}
use Rattle.stl_ast.specs.declared.blocks.PartKind.TheVariants as part
use Rattle.stl_ast.specs.declared.operands.Operand.{Operand}
use Rattle.stl_ast.specs.declared.operands.Operand.TheVariants as operand
use Rattle.stl_ast.specs.declared.statements.Actual.{Actual}
use Rattle.stl_types.specs.declared.parameters.Formal.{Formal}
use Rattle.stl_list.specs.Constants.{typed_constant}
use Rattle.stl_list.specs.JoinedParameters.{called_id}
use Rattle.stl_list.specs.Operands.{direct_operand, own_parameter}
use Rattle.stl_list.specs.Signatures.{Signature, called_formals}

-- whether a parameter of a section is written by the block that has it: OUT and IN_OUT are
abbrev pub is_written : PartKind → Bool
is_written part.Input = false
is_written _ = true

-- the operand that is passed for a parameter `f` of the called block; `formals` are the parameters
-- of the block that calls
abbrev pub passed_operand : List Formal → Formal → Passed → Operand
passed_operand formals f (passed.Literal value) = operand.Constant (typed_constant f.kind value)
passed_operand formals f (passed.Direct a width byte bit) =
    direct_operand None (is_written f.section) a width byte bit
passed_operand formals f (passed.Parameter index width) = own_parameter formals index
passed_operand formals f (passed.InBlock number a width byte bit) =
    direct_operand (Some number) (is_written f.section) a width byte bit

-- the actual parameter of a CALL on a line: what is passed for a parameter `f` of the called block
abbrev pub actual_of_passed : (line : ℕ) → List Formal → Formal → Passed → Actual
actual_of_passed line formals f p =
    record { line = line; name = f.name; value = passed_operand formals f p }

-- the actual parameter of a CALL on a line, as a list of one; none where the called block lacks the
-- parameter (None)
abbrev pub actual_for : (line : ℕ) → List Formal → Option Formal → Passed → List Actual
actual_for line formals None p = []
actual_for line formals (Some f) p = actual_of_passed line formals f p ∷ []

-- the actual parameter that an op before a call passes, as a list of one; none where the op is no
-- PASS
abbrev pub actual_here : (line : ℕ) → (formals called : List Formal) → FlatOperand → List Actual
actual_here line formals called (flat.Pass index p) =
    actual_for line formals (slice_get called index) p
actual_here line formals called _ = []

-- the actual parameters that the ops before a call pass; `formals` are the parameters of the block
-- that calls, `called` those of the called block
abbrev pub actuals_before : (line : ℕ) → (formals called : List Formal) → List OpData → List Actual
actuals_before line formals called before =
    flat_map (λ op. actual_here line formals called op.operand) before

-- the actual parameters of a statement, by its ops before the last one and the operand of that; a
-- statement that calls nothing has none
unfoldable pub actuals_by : List Signature → (line : ℕ) → List Formal → List OpData → FlatOperand
    → List Actual
actuals_by signatures line formals before (flat.Called kind number instance) =
    actuals_before line formals (called_formals signatures (called_id kind number)) before
actuals_by signatures line formals before _ = []
