-- THE OPS OF AN ACCEPTED SOURCE have no fault by their operands, their end marks and their calls.
use Rattle.std.proofs.Common.{ℕ, suc, ◌≡◌, ◌≤◌, Bool, true, false, List, [], ◌∷◌, map, Some, refl, sym, ◌∙◌, ap, subst, if◌then◌else◌}
use Rattle.std.specs.List.{AllByRecursion}
use Rattle.plc_base.specs.Kinds.{kind_number, is_code}
use Rattle.plc_base.specs.declared.blocks.BlockId.{BlockId}
use Rattle.plc_base.proofs.ListLemmas.{all_append}
use Rattle.flat_code.specs.Blocks.{Environment}
use Rattle.flat_code.specs.Image.{record_of_block}
use Rattle.flat_code.specs.Loading.{environment_of_block, lens_of}
use Rattle.flat_code.specs.PlacedOps.{starts_of_statements}
use Rattle.flat_code.specs.Programs.{Program}
use Rattle.stl_ast.specs.Statements.{is_empty_statement}
use Rattle.stl_ast.specs.declared.blocks.Block.{Block}
use Rattle.stl_ast.specs.declared.blocks.Tree.{Tree}
use Rattle.stl_ast.specs.declared.statements.Statement.{Statement}
use Rattle.stl_symbols.specs.Symbol.{Symbol}
use Rattle.block_layout.specs.Layouts.{layouts_of}
use Rattle.block_layout.specs.Lengths.{farthest_operand_end, local_len}
use Rattle.block_layout.specs.Measures.{types_of_source}
use Rattle.block_layout.specs.declared.blocks.BlockLayout.{BlockLayout}
use Rattle.stl_codegen.specs.CompiledBlock.{SourceInstruction, StatedBlock, compiled_block}
use Rattle.stl_codegen.specs.GeneratedProgram.{code_block, code_blocks_of, return_statement, instructions_from, statements_of}
use Rattle.stl_codegen.specs.Instruction.{instruction}
use Rattle.sem_kept.specs.AcceptedSource.{program_in}
use Rattle.sem_kept.specs.CodedBlocks.{StatementHasBytes}
use Rattle.sem_kept.specs.Operands.{BlockHasNoOperandFault, InstrFits, OperandsAreFine}
use Rattle.sem_kept.specs.SettledStatements.{context_at}
use Rattle.sem_kept.proofs.accepted.Accepted.{IsSoundBlock, IsSoundStatement, IsSoundTree, right_tree, sound_code_blocks}
use Rattle.sem_kept.proofs.accepted.CodedBytes.{block_has_bytes}
use Rattle.sem_kept.proofs.accepted.OperandsCalls.{call_fits}
use Rattle.sem_kept.proofs.accepted.OperandsInstr.{instr_fits}
use Rattle.sem_kept.proofs.accepted.OperandsPlaced.{code_fine}
use Rattle.sem_kept.proofs.accepted.OperandsSymbols.{IsRightSymbol, symbols_fit}
use Rattle.sem_kept.proofs.accepted.OperandsViews.{EndsBy, Surrounds, ends_by, holds_locals, layout_id, layout_local, operand_seen}
use Rattle.block_layout.proofs.BlockLemmas.{kind_there}

-- ---- a block

module _ (symbols : List Symbol) (t : Tree) (tree : IsSoundTree symbols t)
    (fit : AllByRecursion IsRightSymbol symbols) (k : ℕ) (b : Block) (l : BlockLayout) (id : BlockId)
    (block : IsSoundBlock symbols t k b l) (named : l.id ≡ Some id) (code : is_code id.kind ≡ true)
    (bytes : AllByRecursion StatementHasBytes b.body) where
  -- what surrounds it
  abbrev here : Environment
  here = environment_of_block (Some (lens_of (program_in symbols t).data_blocks))
      (map record_of_block (program_in symbols t).code_blocks)
      (record_of_block (compiled_block (code_block (context_at symbols t k) b l id)))

  kind_is : b.kind ≡ id.kind
  kind_is = kind_there symbols b id (sym (layout_id symbols t k b l block) ∙ named)

  is_code_here : is_code b.kind ≡ true
  is_code_here = ap is_code kind_is ∙ code

  surrounded : Surrounds symbols t b l here
  surrounded = record { kind = ap kind_number (sym kind_is); local = refl; params = refl }

  ends : AllByRecursion (EndsBy here.local_len) b.body
  ends = ends_by l.local_len b.body
      (subst (λ (n : ℕ). farthest_operand_end b.body ≤ n) (sym (layout_local symbols t k b l block))
      (holds_locals (types_of_source symbols t.blocks) b is_code_here block.head.by_50).operands)

  statement_fits : (n : ℕ) (s : Statement)
      → IsSoundStatement (types_of_source symbols t.blocks) (context_at symbols t k) s
      → EndsBy here.local_len s → StatementHasBytes s
      → InstrFits here (lens_of (program_in symbols t).data_blocks) (instruction (context_at symbols t k) b.body n s)
  statement_fits n s sound end has =
      instr_fits here (lens_of (program_in symbols t).data_blocks) (context_at symbols t k) b.body n s sound.allowed
      (λ other. operand_seen symbols t tree fit k b l block is_code_here here surrounded s.operand
      (record {
        well_formed = sound.well_formed.value;
        known = sound.known;
        there = sound.there;
        inside = sound.inside;
      })
      (sound.well_formed.called ∙ other) end.0)
      (call_fits symbols t tree fit k b l block is_code_here here surrounded refl s sound end has)

  stated_fits : (n : ℕ) (ss : List Statement)
      → AllByRecursion (IsSoundStatement (types_of_source symbols t.blocks) (context_at symbols t k)) ss
      → AllByRecursion (EndsBy here.local_len) ss → AllByRecursion StatementHasBytes ss
      → AllByRecursion (λ (s : SourceInstruction). InstrFits here (lens_of (program_in symbols t).data_blocks) s.instr)
      (instructions_from (context_at symbols t k) b.body n ss)
  stated_fits n [] sound end has = tt
  stated_fits n (s ∷ ss) sound end has =
      by (is_empty_statement s.code) (stated_fits n ss sound.1 end.1 has.1) (stated_fits (suc n) ss sound.1 end.1 has.1)
    where
      by : (empty : Bool)
          → AllByRecursion (λ (s : SourceInstruction). InstrFits here (lens_of (program_in symbols t).data_blocks) s.instr)
          (instructions_from (context_at symbols t k) b.body n ss)
          → AllByRecursion (λ (s : SourceInstruction). InstrFits here (lens_of (program_in symbols t).data_blocks) s.instr)
          (instructions_from (context_at symbols t k) b.body (suc n) ss)
          → AllByRecursion (λ (s : SourceInstruction). InstrFits here (lens_of (program_in symbols t).data_blocks) s.instr)
          (if empty then instructions_from (context_at symbols t k) b.body n ss
          else record { instr = instruction (context_at symbols t k) b.body n s; line = s.line }
          ∷ instructions_from (context_at symbols t k) b.body (suc n) ss)
      by true same next = same
      by false same next = (statement_fits n s sound.0 end.0 has.0, next)

  block_fine : BlockHasNoOperandFault (program_in symbols t) (compiled_block (code_block (context_at symbols t k) b l id))
  unfolding statements_of
  block_fine =
      code_fine here (lens_of (program_in symbols t).data_blocks)
      (starts_of_statements (compiled_block (code_block (context_at symbols t k) b l id)).code)
      (statements_of (context_at symbols t k) b)
      (all_append (λ (s : SourceInstruction). InstrFits here (lens_of (program_in symbols t).data_blocks) s.instr)
      (instructions_from (context_at symbols t k) b.body 0 b.body) (return_statement b ∷ [])
      (stated_fits 0 b.body block.statements ends bytes) (tt, tt))

-- ---- the program

mapped_fine : (p : Program) (bs : List StatedBlock) → AllByRecursion (λ b. BlockHasNoOperandFault p (compiled_block b)) bs
    → AllByRecursion (BlockHasNoOperandFault p) (map compiled_block bs)
mapped_fine p [] h = tt
mapped_fine p (b ∷ bs) h = (h.0, mapped_fine p bs h.1)

pub operands_are_fine : OperandsAreFine
operands_are_fine source file symbols t accepted bytes =
    mapped_fine (program_in symbols t) (code_blocks_of t symbols (layouts_of t symbols))
    (sound_code_blocks symbols t (λ b. BlockHasNoOperandFault (program_in symbols t) (compiled_block b)) tree
    (λ k b l id sound named code.
    block_fine symbols t tree (symbols_fit accepted.language file symbols accepted.named) k b l id sound named code
    (block_has_bytes source accepted.tokens t bytes accepted.parsed k b sound.block_there).body))
  where
    tree : IsSoundTree symbols t
    tree = right_tree source file symbols t accepted
