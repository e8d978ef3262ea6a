-- In an accepted source each statement names what its instruction takes, and each actual parameter
-- names what is passed.
use Rattle.std.proofs.Common.{ℕ, ◌≡◌, ◌≤◌, Bool, true, false, List, [], ◌∷◌, map, Option, Some, None, refl, sym, ◌∙◌, ap, subst}
use Rattle.std.specs.List.{AllByRecursion}
use Rattle.plc_base.specs.Kinds.{kind_number, is_code}
use Rattle.flat_code.specs.Blocks.{Environment, signature_of}
use Rattle.flat_code.specs.Image.{record_of_block, record_of_param}
use Rattle.flat_code.specs.declared.kinds.JumpOperation.{JumpOperation}
use Rattle.flat_code.specs.declared.operations.CallOperation.{CallOperation}
use Rattle.stl_ast.specs.Statements.{has_actuals}
use Rattle.stl_ast.specs.declared.blocks.Block.{Block}
use Rattle.stl_ast.specs.declared.blocks.Tree.{Tree}
use Rattle.stl_ast.specs.declared.mnemonics.Mnemonic.{Mnemonic}
use Rattle.stl_ast.specs.declared.mnemonics.Mnemonic.TheVariants as code
use Rattle.stl_ast.specs.declared.operands.Operand.TheVariants as operand
use Rattle.stl_ast.specs.declared.statements.Statement.{Statement}
use Rattle.stl_symbols.specs.Names.{name_place}
use Rattle.stl_symbols.specs.Symbol.{Symbol}
use Rattle.block_layout.specs.Layouts.{layouts_of}
use Rattle.block_layout.specs.Lengths.{farthest_operand_end, local_len}
use Rattle.block_layout.specs.Measures.{types_of_source}
use Rattle.block_layout.specs.declared.blocks.BlockLayout.{BlockLayout}
use Rattle.stl_types.specs.Labels.{is_unknown_label, labels_of}
use Rattle.stl_types.specs.Resolution.{resolution_of}
use Rattle.stl_types.specs.ResolvedStatement.{resolved_operand, operand_if_resolved}
use Rattle.stl_codegen.specs.CompiledBlock.{compiled_block}
use Rattle.stl_codegen.specs.GeneratedProgram.{code_blocks_of, params_of}
use Rattle.stl_codegen.specs.Operations.{call_operation_of, jump_operation_of}
use Rattle.sem_kept.specs.CodedBlocks.{StatementHasBytes}
use Rattle.sem_kept.specs.SettledStatements.{HasInstruction, HasLabel, HasOperand, NamesWhatIsPassed, IsResolvedStatement, StatementsSettle, context_at}
use Rattle.sem_kept.proofs.accepted.Accepted.{IsSoundBlock, IsSoundStatement, IsSoundTree, each_passes, right_tree}
use Rattle.sem_kept.proofs.accepted.CodedBytes.{block_has_bytes}
use Rattle.sem_kept.proofs.accepted.JumpsOperands.{takes_right}
use Rattle.sem_kept.proofs.accepted.JumpsOperations.{TakesRight}
use Rattle.sem_kept.proofs.accepted.JumpsSettled.{Settle, operands_settle}
use Rattle.sem_kept.proofs.accepted.OperandsCalls.{actuals_pass, callee_found, called_is}
use Rattle.sem_kept.proofs.accepted.OperandsCells.{layout_of_block}
use Rattle.sem_kept.proofs.accepted.OperandsInstr.{no_call, resolved_is}
use Rattle.sem_kept.proofs.accepted.OperandsSymbols.{IsRightSymbol, symbols_fit}
use Rattle.sem_kept.proofs.accepted.OperandsViews.{EndsBy, ResolvesRight, Surrounds, ends_by, holds_locals, layout_local, not_none, operand_seen}

-- what calls no block has no actual parameters
none_owed : (m : Mnemonic) → call_operation_of m ≡ None → has_actuals m ≡ false
none_owed code.Call e = absurd cc
none_owed _ e = refl

module _ (symbols : List Symbol) (t : Tree) (tree : IsSoundTree symbols t)
    (fit : AllByRecursion IsRightSymbol symbols) (k : ℕ) (b : Block) (l : BlockLayout)
    (block : IsSoundBlock symbols t k b l) (code : is_code b.kind ≡ true) where
  -- the block among all code blocks
  abbrev here : Environment
  here = record {
    kind = kind_number b.kind;
    local_len = l.local_len;
    params = map record_of_param (params_of b l);
    blocks = map signature_of (map record_of_block (map compiled_block (code_blocks_of t symbols (layouts_of t symbols))));
    data_lens = None;
  }

  surrounded : Surrounds symbols t b l here
  surrounded = record { kind = refl; local = refl; params = refl }

  statement_settles : (s : Statement)
      → IsSoundStatement (types_of_source symbols t.blocks) (context_at symbols t k) s
      → EndsBy l.local_len s → StatementHasBytes s
      → is_unknown_label (labels_of b.body) s.operand ≡ false → Settle symbols t k s
      → IsResolvedStatement (context_at symbols t k) b.body s
  statement_settles s sound ends has known settle = record {
    instruction = by (jump_operation_of s.code) refl;
    actuals = passed (call_operation_of s.code) refl;
  }
    where
      takes : TakesRight s
      takes = takes_right (types_of_source symbols t.blocks) (context_at symbols t k) s sound settle

      labelled : (n : (name : List ℕ) × (s.operand ≡ operand.Label name)) → HasLabel b.body s
      labelled n =
          let there = not_none (name_place n.0 (labels_of b.body))
          (ap (is_unknown_label (labels_of b.body)) (sym n.1) ∙ known) in
          record { name = n.0; is = n.1; place = there.0; there = there.1 }

      resolves : resolved_operand (context_at symbols t k) s ≡ operand_if_resolved (resolution_of (context_at symbols t k) s.operand)
      resolves = resolved_is (context_at symbols t k) s sound.allowed

      whether : (o : Option CallOperation) → call_operation_of s.code ≡ o
          → HasOperand (context_at symbols t k) s o
      whether None is = (found.operand, resolves ∙ ap operand_if_resolved found.is)
        where
          found : ResolvesRight here (resolution_of (context_at symbols t k) s.operand)
          found = operand_seen symbols t tree fit k b l block code here surrounded s.operand
              (record {
                well_formed = sound.well_formed.value;
                known = sound.known;
                there = sound.there;
                inside = sound.inside;
              })
              (sound.well_formed.called ∙ no_call s.code is) ends.0
      whether (Some how) is =
          let called = called_is symbols t tree fit k b l block code here surrounded refl s sound ends has how is in
          let callee = callee_found symbols t tree fit k b l block code here surrounded refl s sound ends has how is in
          record {
            id = called.0;
            instance = called.1;
            called = resolves ∙ ap operand_if_resolved called.2;
            callee = callee.0;
            found = callee.1;
            same = callee.2;
            named = callee.3.named;
            once = callee.3.once;
          }

      by : (j : Option JumpOperation) → jump_operation_of s.code ≡ j
          → HasInstruction (context_at symbols t k) b.body s j
      by None is = whether (call_operation_of s.code) refl
      by (Some how) is = labelled (takes.jumps how is)

      passed : (o : Option CallOperation) → call_operation_of s.code ≡ o
          → AllByRecursion (NamesWhatIsPassed (context_at symbols t k)) s.actuals
      passed None is =
          subst (AllByRecursion (NamesWhatIsPassed (context_at symbols t k)))
          (sym (sound.well_formed.no_actuals (none_owed s.code is))) tt
      passed (Some how) is =
          actuals_pass symbols t tree fit k b l block code here surrounded refl s sound ends has how is

  all_settle : (ss : List Statement)
      → AllByRecursion (IsSoundStatement (types_of_source symbols t.blocks) (context_at symbols t k)) ss
      → AllByRecursion (EndsBy l.local_len) ss → AllByRecursion StatementHasBytes ss
      → AllByRecursion (λ (s : Statement). is_unknown_label (labels_of b.body) s.operand ≡ false) ss
      → AllByRecursion (Settle symbols t k) ss
      → AllByRecursion (IsResolvedStatement (context_at symbols t k) b.body) ss
  all_settle [] sound ends has known settle = tt
  all_settle (s ∷ ss) sound ends has known settle = (
    statement_settles s sound.0 ends.0 has.0 known.0 settle.0,
    all_settle ss sound.1 ends.1 has.1 known.1 settle.1,
  )

block_settles : (symbols : List Symbol) (t : Tree) → IsSoundTree symbols t
    → AllByRecursion IsRightSymbol symbols → (k : ℕ) (b : Block) (l : BlockLayout)
    → IsSoundBlock symbols t k b l → AllByRecursion StatementHasBytes b.body
    → AllByRecursion (Settle symbols t k) b.body
    → AllByRecursion (IsResolvedStatement (context_at symbols t k) b.body) b.body
block_settles symbols t tree fit k b l block has settle = by (is_code b.kind) refl
  where
    by : (code : Bool) → is_code b.kind ≡ code
        → AllByRecursion (IsResolvedStatement (context_at symbols t k) b.body) b.body
    by true is =
        all_settle symbols t tree fit k b l block is b.body block.statements
        (ends_by l.local_len b.body
        (subst (λ (n : ℕ). farthest_operand_end b.body ≤ n) (sym (layout_local symbols t k b l block))
        (holds_locals (types_of_source symbols t.blocks) b is block.head.by_50).operands))
        has
        (each_passes (λ (s : Statement). is_unknown_label (labels_of b.body) s.operand)
        (λ (s : Statement). s.line) 26 b.body block.body.by_26)
        settle
    by false is =
        subst (AllByRecursion (IsResolvedStatement (context_at symbols t k) b.body))
        (sym (block.well_formed.runs.1 is)) tt

pub statements_settle : StatementsSettle
statements_settle source file symbols t accepted bytes k b there =
    let tree = right_tree source file symbols t accepted in
    let laid = layout_of_block symbols t tree k b there in
    block_settles symbols t tree (symbols_fit accepted.language file symbols accepted.named) k b laid.0 laid.2
    (block_has_bytes source accepted.tokens t bytes accepted.parsed k b there).body
    (operands_settle source file symbols t accepted k b there)
