-- The operands of a body that name blocks or declarations, with the line by which they are checked.
use Rattle.std.specs.Prelude.{ℕ, List, ◌∷◌, map}
use Rattle.std.specs.List.{flat_map}
use Rattle.plc_base.specs.declared.refusals.Refusal.{Refusal}
use Rattle.stl_ast.specs.declared.operands.Operand.{Operand}
use Rattle.stl_ast.specs.declared.statements.Statement.{Statement}

-- an operand, or the value of an actual parameter, with its line
pub record OperandAtLine : Type 0 where
  -- the line of the statement or of the actual parameter
  pub line : ℕ
  -- the operand, or the value of the actual parameter
  pub operand : Operand

-- of a statement its operand, and the values of its actual parameters, each in its own line
abbrev pub operands_of : Statement → List OperandAtLine
operands_of s =
    record { line = s.line; operand = s.operand } ∷ map
    (λ a. record { line = a.line; operand = a.value }) s.actuals

-- the refusals by a rule of operands, of all operands and actual parameters of a body
abbrev pub in_body : (OperandAtLine → List Refusal) → List Statement → List Refusal
in_body broken body = flat_map (λ s. flat_map broken (operands_of s)) body
