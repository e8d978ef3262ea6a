-- The code of each block of an accepted source is made of ops of the table.
use Rattle.std.proofs.Common.{◌≡◌, ℕ, suc, ◌≤◌, Bool, true, false, eqb, ◌&&◌, List, [], ◌∷◌, length, length-append, map, refl, ap, arith}
use Rattle.std.specs.Prelude.{not, if◌then◌else◌}
use Rattle.std.specs.List.{AllByRecursion, count_by}
use Rattle.std.proofs.lemmas.Bool.{and_from, eq-eqb, ltb-false}
use Rattle.plc_base.specs.declared.blocks.BlockId.{BlockId}
use Rattle.plc_base.proofs.ListLemmas.{all_append}
use Rattle.flat_code.specs.Codes.{are_ops, code_bytes, code_layout, stop_at}
use Rattle.flat_code.specs.Layout.{is_fine}
use Rattle.flat_code.specs.declared.operations.EndOperation.TheVariants as end
use Rattle.stl_ast.specs.Statements.{is_empty_statement}
use Rattle.stl_ast.specs.declared.blocks.Block.{Block}
use Rattle.stl_ast.specs.declared.blocks.Tree.{Tree}
use Rattle.stl_ast.specs.declared.statements.Statement.{Statement}
use Rattle.stl_symbols.specs.Symbol.{Symbol}
use Rattle.block_layout.specs.Layouts.{layouts_of}
use Rattle.block_layout.specs.Measures.{types_of_source}
use Rattle.block_layout.specs.Rule55.{has_too_many_statements}
use Rattle.block_layout.specs.declared.blocks.BlockLayout.{BlockLayout}
use Rattle.stl_types.specs.Context.{Context}
use Rattle.stl_codegen.specs.CompiledBlock.{StatedBlock, compiled_block}
use Rattle.stl_codegen.specs.EmittedOps.{ops_of}
use Rattle.stl_codegen.specs.GeneratedProgram.{code_block, code_blocks_of, return_statement, instructions_from, statements_of}
use Rattle.stl_codegen.specs.Instruction.{instruction}
use Rattle.sem_kept.specs.SettledStatements.{context_at}
use Rattle.sem_kept.proofs.accepted.Accepted.{IsSoundBlock, IsSoundStatement, IsSoundTree, right_tree, sound_code_blocks}
use Rattle.sem_kept.proofs.accepted.CodedBlocks.{AreGood, block_coded}
use Rattle.sem_kept.proofs.accepted.CodedBytes.{block_has_bytes}
use Rattle.sem_kept.proofs.accepted.CodedOps.{IsGoodSource, IsGoodStatement, end_good, statement_good}
use Rattle.sem_kept.proofs.accepted.CodedSources.{context_fit, formals_few}
use Rattle.sem_kept.proofs.accepted.CodedSymbols.{symbols_fit}
use Rattle.sem_kept.proofs.accepted.CodedViews.{ContextFits, SymbolFits}
use Rattle.sem_kept.proofs.accepted.Shared.{stated_count}
use Rattle.sem_kept.specs.CodedBlocks.{AreCoded, CodedIsGood, IsBlockCoded, StatementHasBytes}

-- ---- the statements of a body

stated_good : (c : Context) (body : List Statement) (n : ℕ) (ss : List Statement) → ContextFits c
    → AllByRecursion (IsGoodSource c) ss → AreGood (instructions_from c body n ss)
stated_good c body n [] fit h = tt
stated_good c body n (s ∷ ss) fit h =
    by (is_empty_statement s.code) refl (stated_good c body n ss fit h.1)
    (stated_good c body (suc n) ss fit h.1)
  where
    by : (b : Bool) → is_empty_statement s.code ≡ b → AreGood (instructions_from c body n ss)
        → AreGood (instructions_from c body (suc n) ss)
        → AreGood (if b then instructions_from c body n ss
        else record { instr = instruction c body n s; line = s.line }
        ∷ instructions_from c body (suc n) ss)
    by true e same next = same
    by false e same next = (statement_good c body n s fit h.0 e, next)

-- ---- a block

sources_good : (symbols : List Symbol) (t : Tree) (k : ℕ) (ss : List Statement)
    → AllByRecursion SymbolFits symbols → IsSoundTree symbols t
    → AllByRecursion (IsSoundStatement (types_of_source symbols t.blocks) (context_at symbols t k)) ss
    → AllByRecursion StatementHasBytes ss
    → AllByRecursion (IsGoodSource (context_at symbols t k)) ss
sources_good symbols t k [] fit tree sound has = tt
sources_good symbols t k (s ∷ ss) fit tree sound has = (
  record {
    formed = sound.0.well_formed;
    has = has.0;
    callee = formals_few symbols t k s fit tree;
  },
  sources_good symbols t k ss fit tree sound.1 has.1,
)

few_statements : (b : Block) → has_too_many_statements b ≡ false
    → count_by (λ s. not (is_empty_statement s.code)) b.body ≤ 65534
few_statements b h =
    let k = ltb-false 65534 (count_by (λ s. not (is_empty_statement s.code)) b.body) h in omega (arith, k)

source_coded : (symbols : List Symbol) (t : Tree) (k : ℕ) (b : Block) (l : BlockLayout)
    (id : BlockId) → AllByRecursion SymbolFits symbols → IsSoundTree symbols t
    → IsSoundBlock symbols t k b l → AllByRecursion StatementHasBytes b.body
    → IsBlockCoded (compiled_block (code_block (context_at symbols t k) b l id))
unfolding statements_of
source_coded symbols t k b l id fit tree sound has =
    let c = context_at symbols t k in
    let inner = instructions_from c b.body 0 b.body in
    let good = stated_good c b.body 0 b.body (context_fit symbols t k b l fit tree sound)
    (sources_good symbols t k b.body fit tree sound.statements has) in
    let count = stated_count c b.body 0 b.body in
    let few = few_statements b sound.head.by_55 in
    let all = length-append inner (return_statement b ∷ []) in
    block_coded (code_block c b l id) inner b.end_line refl
    (all_append (λ s. IsGoodStatement (ops_of s.instr)) inner (return_statement b ∷ []) good
    (end_good end.Be, tt))
    (omega (arith, count, few, all))

-- ---- the program

mapped_coded : (bs : List StatedBlock) → AllByRecursion (λ b. IsBlockCoded (compiled_block b)) bs
    → AllByRecursion IsBlockCoded (map compiled_block bs)
mapped_coded [] h = tt
mapped_coded (b ∷ bs) h = (h.0, mapped_coded bs h.1)

-- THE CODE OF AN ACCEPTED SOURCE
pub are_coded : AreCoded
are_coded source file symbols t accepted bytes =
    let fit = symbols_fit accepted.language file symbols accepted.named in
    let tree = right_tree source file symbols t accepted in
    mapped_coded (code_blocks_of t symbols (layouts_of t symbols))
    (sound_code_blocks symbols t (λ b. IsBlockCoded (compiled_block b)) tree
    (λ k b l id sound named is.
    source_coded symbols t k b l id fit tree sound
    (block_has_bytes source accepted.tokens t bytes accepted.parsed k b sound.block_there).body))

pub coded_is_good : CodedIsGood
unfolding code_layout
coded_is_good with_code_faults b coded =
    let n = length (code_bytes b.code) in
    and_from (are_ops b.code && is_fine (stop_at with_code_faults b.code [])) (eqb n n)
    (and_from (are_ops b.code) (is_fine (stop_at with_code_faults b.code [])) coded.ops (stops with_code_faults))
    (eq-eqb n n refl)
  where
    stops : (with_code_faults : Bool) → is_fine (stop_at with_code_faults b.code []) ≡ true
    stops true = ap is_fine coded.right
    stops false = refl
