-- No code block of an accepted source has a fault in its jumps, brackets or zones.
use Rattle.std.proofs.Common.{◌≡◌, ℕ, false, List, [], ◌∷◌, ◌++◌, Option, Some, None, refl, ap, ◌∙◌}
use Rattle.std.specs.List.{AllByRecursion}
use Rattle.stl_ast.specs.Statements.{names_called_block}
use Rattle.stl_ast.specs.declared.blocks.Block.{Block}
use Rattle.stl_ast.specs.declared.blocks.Tree.{Tree}
use Rattle.stl_ast.specs.declared.statements.Statement.{Statement}
use Rattle.stl_symbols.specs.Symbol.{Symbol}
use Rattle.block_layout.specs.Measures.{types_of_source}
use Rattle.block_layout.specs.Types.{Types}
use Rattle.block_layout.specs.declared.blocks.BlockLayout.{BlockLayout}
use Rattle.stl_types.specs.Context.{Context}
use Rattle.stl_types.specs.Resolution.{resolution_of}
use Rattle.stl_codegen.specs.CompiledBlock.{code_in}
use Rattle.stl_codegen.specs.Fitting.{IsStill}
use Rattle.flat_code.specs.Blocks.{Environment, block_faults, call_fault, faults_over, op_faults, operand_fault}
use Rattle.flat_code.specs.PlacedOps.{PlacedOp, StatementStart, code_places, starts_of_statements}
use Rattle.flat_code.specs.declared.operands.Operand.{Operand as FlatOperand}
use Rattle.flat_code.specs.declared.operands.Operand.TheVariants as flat
use Rattle.sem_kept.specs.Jumps.{AllLandRight, NoOperandFaultIsNoFault, JumpsLandRight, LandsRight, jump_fault_of}
use Rattle.sem_kept.specs.Operands.{HaveNoOperandFaults, HasNoOperandFault}
use Rattle.sem_kept.specs.SettledStatements.{context_at}
use Rattle.sem_kept.proofs.accepted.Accepted.{IsSoundBlock, IsSoundStatement, right_tree, sound_code_blocks}
use Rattle.sem_kept.proofs.accepted.Jumps.{IsRightBody, lands_right}
use Rattle.sem_kept.proofs.accepted.JumpsOperands.{Settles, takes_right}
use Rattle.sem_kept.proofs.accepted.JumpsSettled.{Settle, operands_settle}
use Rattle.sem_kept.proofs.accepted.JumpsOperations.{TakesRight}

all_take : (y : Types) (c : Context) (body : List Statement)
    → AllByRecursion (IsSoundStatement y c) body
    → AllByRecursion (λ s. names_called_block s.operand ≡ false → Settles (resolution_of c s.operand)) body
    → AllByRecursion TakesRight body
all_take y c [] h k = tt
all_take y c (s ∷ ss) h k = (takes_right y c s h.0 k.0, all_take y c ss h.1 k.1)

right_block : (symbols : List Symbol) (t : Tree) (k : ℕ) (b : Block) (l : BlockLayout)
    → IsSoundBlock symbols t k b l → AllByRecursion (Settle symbols t k) b.body → IsRightBody b.body
right_block symbols t k b l h settle = record {
  takes = all_take (types_of_source symbols t.blocks) (context_at symbols t k) b.body h.statements settle;
  by_26 = h.body.by_26;
  by_29 = h.body.by_29;
  by_30 = h.body.by_30;
  by_31 = h.body.by_31;
  by_32 = h.body.by_32;
  by_33 = h.body.by_33;
  by_47 = h.body.by_47;
  by_48 = h.body.by_48;
  by_49 = h.body.by_49;
}

pub jumps_land_right : JumpsLandRight
jumps_land_right source file symbols t accepted =
    sound_code_blocks symbols t (λ b. AllLandRight (code_in b.statements))
    (right_tree source file symbols t accepted)
    (λ k b l id h is code.
    lands_right (context_at symbols t k) b
    (right_block symbols t k b l h
    (operands_settle source file symbols t accepted k b h.block_there)))

-- ---- with what operands, calls and marks leave

all_operands : (a : Environment) (ss : List StatementStart) (p : PlacedOp) (o : FlatOperand)
    → (IsStill o → operand_fault a ss p o ≡ None) → jump_fault_of ss p o ≡ None
    → operand_fault a ss p o ≡ None
all_operands a ss p (flat.Jump kind target) still jump = jump
all_operands a ss p _ still jump = still tt

op_faultless : (a : Environment) (lens : List (ℕ × ℕ)) (ss : List StatementStart) (start : ℕ) (p : PlacedOp)
    → a.data_lens ≡ Some lens → HasNoOperandFault a lens ss p → LandsRight ss p → op_faults a ss start p ≡ []
unfolding op_faults
op_faultless a lens ss start p e fine lands =
    let calls : call_fault a a.data_lens p ≡ None =
    ap (λ (z : Option (List (ℕ × ℕ))). call_fault a z p) e ∙ fine.call in
    rw (all_operands a ss p p.op.operand fine.operand lands.jump)
    (rw calls (rw fine.mark (rw lands.brackets (rw lands.zones refl))))

all_faultless : (a : Environment) (lens : List (ℕ × ℕ)) (ss : List StatementStart) (start : ℕ) (ps : List PlacedOp)
    → a.data_lens ≡ Some lens → HaveNoOperandFaults a lens ss ps → AllByRecursion (LandsRight ss) ps
    → faults_over a ss start ps ≡ []
all_faultless a lens ss start [] e fine lands = refl
all_faultless a lens ss start (p ∷ ps) e fine lands =
    ap (λ (z : List (ℕ × ℕ)). z ++ faults_over a ss start ps)
    (op_faultless a lens ss start p e fine.0 lands.0)
    ∙ all_faultless a lens ss start ps e fine.1 lands.1

pub fine_is_faultless : NoOperandFaultIsNoFault
unfolding block_faults
fine_is_faultless a lens start ops e fine lands =
    rw (all_faultless a lens (starts_of_statements ops) start (code_places ops) e fine lands.each)
    (rw lands.closed (rw lands.ended refl))
