-- The tree of the listing of a source's program is one that is read back.
use Rattle.std.proofs.Common.{◌≡◌, ℕ, suc, true, false, List, [], ◌∷◌, ◌++◌, length, map, Option, Some, None, inl, refl, sym, ap, subst, ◌∙◌}
use Rattle.std.specs.List.{AllByRecursion}
use Rattle.std.proofs.lemmas.Bool.{and_parts}
use Rattle.plc_base.proofs.ListLemmas.{all_append}
use Rattle.flat_code.specs.Image.{IsProgram}
use Rattle.flat_code.specs.Programs.{CodeBlock, Program}
use Rattle.plc_base.specs.Kinds.{is_code}
use Rattle.plc_base.specs.declared.blocks.BlockId.{BlockId}
use Rattle.flat_code.specs.Codes.{are_ops}
use Rattle.flat_code.specs.Instr.{Calls, Does, Instr, Jumps, JumpsByList, Returns}
use Rattle.flat_code.specs.OpCodes.{op_code_of}
use Rattle.flat_code.specs.Ops.{IsOp, OpData, is_op}
use Rattle.flat_code.specs.declared.operands.Operand.TheVariants as flat
use Rattle.flat_code.specs.declared.operands.Operand.{Operand as FlatOperand}
use Rattle.stl_ast.specs.Statements.{is_empty_statement}
use Rattle.stl_ast.specs.WellFormed.{IsWellFormed}
use Rattle.stl_ast.specs.declared.blocks.Block.{Block}
use Rattle.stl_ast.specs.declared.blocks.Tree.{Tree}
use Rattle.stl_symbols.specs.Symbol.{Symbol}
use Rattle.block_layout.specs.declared.blocks.BlockLayout.{BlockLayout}
use Rattle.stl_types.specs.Bodies.{first_context}
use Rattle.stl_types.specs.Context.{Context}
use Rattle.stl_types.specs.Labels.{rule_26}
use Rattle.stl_codegen.specs.CompiledBlock.{SourceInstruction, StatedBlock, operand_with_target, code_in, compiled_block}
use Rattle.stl_codegen.specs.GeneratedProgram.{code_block, code_block_of, code_blocks_of, each_block, program_of}
use Rattle.stl_codegen.specs.Order.{is_code_before}
use Rattle.stl_list.specs.Mnemonics.{mnemonic_of, mnemonic_by}
use Rattle.stl_list.specs.Runs.{StatementOps, runs, runs_from}
use Rattle.flat_code.specs.declared.operands.Passed.TheVariants as passed
use Rattle.flat_code.specs.declared.operands.Passed.{Passed}
use Rattle.stl_list.specs.Operands.{block_opened_by_ops}
use Rattle.listing_laws.proofs.CompiledLemmas.{written_compiled}
use Rattle.listing_laws.proofs.OpenedLemmas.{opened_right}
use Rattle.listing_laws.specs.OpenedBlocks.{ActsInOpened, OpensRight, PassesInOpened, PreparesInOpened}
use Rattle.listing_laws.proofs.EndLemmas.{ends_free}
use Rattle.listing_laws.proofs.RunLemmas.{runs_found}
use Rattle.listing_laws.proofs.WordLemmas.{have_words}
use Rattle.listing_laws.specs.Bodies.{IsEndFree, IsLastOperandPrinted, IsSourceRun, PassesPlace, PreparesPlace}
use Rattle.listing_laws.specs.Labels.{HasWord}
use Rattle.listing_laws.specs.Statements.{statement_offset, run_of}
use Rattle.stl_list.specs.CodeBlocks.{in_lines, line_reached, listed_block, listed_blocks}
use Rattle.stl_list.specs.DataBlocks.{listed_data_blocks}
use Rattle.stl_list.specs.JoinedParameters.{chains_of}
use Rattle.stl_list.specs.Lines.{line_behind_statements, lines_from, stands_before}
use Rattle.stl_list.specs.Listing.{listed_tree}
use Rattle.stl_list.specs.Signatures.{Signature, signatures}
use Rattle.print_laws.specs.PrintedTree.{IsPrintable}
use Rattle.print_laws.specs.Reading.{HasPrintedForms, IsPrintedBlock}
use Rattle.listing_laws.proofs.BlockLemmas.{all_sorted, listed_printable}
use Rattle.listing_laws.proofs.BodyLemmas.{AreBlocksWords, bodies_printed, words_of}
use Rattle.listing_laws.proofs.FormLemmas.{IsHead, data_printed, frames_printed, program_heads}
use Rattle.listing_laws.proofs.NameLemmas.{AreSignatures, all_signatures, either_way}
use Rattle.listing_laws.proofs.PlaceLemmas.{HasLines, all_have_lines, lines_count, placed_by}
use Rattle.listing_laws.proofs.RangeLemmas.{program_listed}
use Rattle.listing_laws.specs.Forms.{IsPrintedFrame}
use Rattle.listing_laws.specs.Ranges.{IsOffsetWritable, IsWrittenBlock, IsWrittenProgram}
use Rattle.listing_laws.specs.Sources.{ActsOnNamed, IsRunNamed, IsNamedProgram, IsSourceBlock, PassesNamedPlace, PreparesOnNamed}

signatures_words : (ss : List Signature) → AreSignatures ss → AreBlocksWords ss
signatures_words [] h = tt
signatures_words (s ∷ ss) (one, more) = (words_of s.formals one.0, signatures_words ss more)

block_printed : (ss : List Signature) (reached : ℕ) (b : CodeBlock) → AreBlocksWords ss → IsSourceBlock b → IsPrintedFrame (listed_block ss reached b) → IsPrintedBlock (listed_block ss reached b)
block_printed ss reached b known h frame = (
  frame.name,
  inl (record {
    kind = frame.kind;
    result = frame.result;
    order = frame.order;
    parts = frame.parts;
    shape = frame.shape;
    components = frame.components;
    instance = frame.instance;
    settings = frame.settings;
    body = bodies_printed ss (lines_from reached b.lines) b known h.statements (λ n e. h.end n (e ∙ lines_count reached b.lines));
  }),
)

blocks_printed : (ss : List Signature) (reached : ℕ) (bs : List CodeBlock) → AreBlocksWords ss → AllByRecursion IsSourceBlock bs → AllByRecursion IsPrintedFrame (listed_blocks ss reached bs)
    → AllByRecursion IsPrintedBlock (listed_blocks ss reached bs)
blocks_printed ss reached [] known h frames = tt
blocks_printed ss reached (b ∷ bs) known (one, more) (frame, frames) = (block_printed ss reached b known one frame, blocks_printed ss (line_behind_statements reached b.lines) bs known more frames)

have_lines : (bs : List CodeBlock) → AllByRecursion IsSourceBlock bs → AllByRecursion HasLines bs
have_lines [] h = tt
have_lines (b ∷ bs) (one, more) = (one.count, have_lines bs more)

in_order : (bs : List CodeBlock) → AllByRecursion IsSourceBlock bs → AllByRecursion IsSourceBlock (in_lines bs)
unfolding in_lines
in_order bs h = all_sorted IsSourceBlock stands_before bs h

source_readable : (p : Program) → IsProgram p → IsWrittenProgram p → AllByRecursion IsSourceBlock p.code_blocks → HasPrintedForms (listed_tree p)
unfolding listed_tree
source_readable p is w h =
    let ss = signatures (chains_of p.code_blocks) p.code_blocks in
    let blocks = in_lines p.code_blocks in
    let known = signatures_words ss (all_signatures (chains_of p.code_blocks) p.code_blocks (program_listed p is w).code_blocks) in
    record {
      blocks = all_append IsPrintedBlock (listed_blocks ss 1 blocks) (listed_data_blocks ss (line_reached 1 blocks) p.data_blocks)
          (blocks_printed ss 1 blocks known (in_order p.code_blocks h) (frames_printed p is w)) (data_printed p (line_reached 1 blocks) is w);
      lines = placed_by p (have_lines p.code_blocks h);
    }

pub source_printable : (p : Program) → IsProgram p → IsWrittenProgram p → AllByRecursion IsSourceBlock p.code_blocks → IsPrintable (listed_tree p)
source_printable p is w h = record { tokens = listed_printable p is w; forms = source_readable p is w h }

-- ---- the program of a source

abbrev HasOps : StatementOps → Type 0
HasOps r = AllByRecursion IsOp r.before × IsOp r.op × IsOffsetWritable r.op.operand

ops_are : (ops : List OpData) → are_ops ops ≡ true → AllByRecursion IsOp ops
ops_are [] e = tt
ops_are (op ∷ ops) e = let parts = and_parts (is_op op.code op.operand) (are_ops ops) e in (parts.0, ops_are ops parts.1)

runs_have_ops : (before ops : List OpData) → AllByRecursion IsOp before → AllByRecursion IsOp ops → AllByRecursion (λ op. IsOffsetWritable op.operand) ops → AllByRecursion HasOps (runs_from before ops)
runs_have_ops before [] h k w = tt
runs_have_ops before (op ∷ ops) h (one, more) (here, there) =
    either_way (λ rs. AllByRecursion HasOps rs) op.last (record { before = before; op = op } ∷ runs_from [] ops) (runs_from (before ++ op ∷ []) ops)
    ((h, one, here), runs_have_ops [] ops tt more there) (runs_have_ops (before ++ op ∷ []) ops (all_append IsOp before (op ∷ []) h (one, tt)) more there)

block_ops : (b : CodeBlock) → are_ops b.code ≡ true → IsWrittenBlock b → AllByRecursion HasOps (runs b.code)
unfolding runs
block_ops b e w = runs_have_ops [] b.code tt (ops_are b.code e) w

abbrev HasRunWord : StatementOps → Type 0
HasRunWord r = is_empty_statement (mnemonic_of r.op) ≡ false

word_aimed : (f : ℕ → ℕ) (code : ℕ) (o : FlatOperand) → mnemonic_by code (operand_with_target f o) ≡ mnemonic_by code (operand_with_target (λ n. n) o)
word_aimed f code (flat.Jump kind target) = refl
word_aimed f code _ = refl

word_same : (f : ℕ → ℕ) (i : Instr) → mnemonic_of (run_of f i).op ≡ mnemonic_of (run_of (λ n. n) i).op
word_same f (Does use_db w o) = word_aimed f (op_code_of w) o
word_same f (Jumps how target) = refl
word_same f (JumpsByList targets otherwise) = refl
word_same f (Calls how id instance passings) = refl
word_same f (Returns how) = refl

runs_have_words : (f : ℕ → ℕ) (ss : List SourceInstruction) → AllByRecursion (λ s. HasWord s.instr) ss → AllByRecursion HasRunWord (map (λ s. run_of f s.instr) ss)
runs_have_words f [] h = tt
runs_have_words f (s ∷ ss) (one, more) = (ap is_empty_statement (word_same f s.instr) ∙ one, runs_have_words f ss more)

abbrev HasWords : StatedBlock → Type 0
HasWords b = AllByRecursion (λ s. HasWord s.instr) b.statements

one_has_words : (c : Context) (b : Block) (l : BlockLayout) (id : Option BlockId) → AllByRecursion HasWords (code_block_of c b l id)
one_has_words c b l None = tt
one_has_words c b l (Some id) = either_way (λ l. AllByRecursion HasWords l) (is_code id.kind) (code_block c b l id ∷ []) [] (have_words c b, tt) tt

blocks_have_words : (c : Context) (bs : List Block) (ls : List BlockLayout) → AllByRecursion HasWords (each_block (λ c b l. code_block_of c b l l.id) c bs ls)
blocks_have_words c [] ls = tt
blocks_have_words c (b ∷ bs) [] = tt
blocks_have_words c (b ∷ bs) (l ∷ ls) = all_append HasWords (code_block_of c b l l.id) _ (one_has_words c b l l.id) (blocks_have_words (record c { block = suc c.block }) bs ls)

program_words : (t : Tree) (symbols : List Symbol) (layouts : List BlockLayout) → AllByRecursion HasWords (code_blocks_of t symbols layouts)
unfolding code_blocks_of
program_words t symbols layouts =
    all_sorted HasWords is_code_before (each_block (λ c b l. code_block_of c b l l.id) (first_context symbols layouts t.blocks) t.blocks layouts)
    (blocks_have_words (first_context symbols layouts t.blocks) t.blocks layouts)

passes_place : (p : Passed) → PassesInOpened p → PassesNamedPlace p → PassesPlace p
passes_place (passed.Direct a w byte bit) h k = k
passes_place (passed.InBlock number a w byte bit) h k = (h, k)
passes_place _ h k = tt

prepares_place : (o : FlatOperand) → PreparesInOpened o → PreparesOnNamed o → PreparesPlace o
prepares_place (flat.Pass index p) h k = passes_place p h k
prepares_place _ h k = tt

all_prepare : (ops : List OpData) → AllByRecursion (λ op. PreparesInOpened op.operand) ops → AllByRecursion (λ op. PreparesOnNamed op.operand) ops → AllByRecursion (λ op. PreparesPlace op.operand) ops
all_prepare [] h k = tt
all_prepare (op ∷ ops) (one, more) (on, others) = (prepares_place op.operand one on, all_prepare ops more others)

shows : (before : List OpData) (code : ℕ) (o : FlatOperand) → ActsInOpened (block_opened_by_ops before) o → IsOffsetWritable o → ActsOnNamed before code o → IsLastOperandPrinted before code o
shows before code (flat.Direct a w byte bit) h k on = (h, on)
shows before code (flat.ByRegister a w register bits) h k on = k
shows before code (flat.Called kind number instance) h k on = on
shows before code _ h k on = tt

runs_of_source : (rs : List StatementOps) → AllByRecursion HasOps rs → AllByRecursion HasRunWord rs → AllByRecursion OpensRight rs → AllByRecursion IsRunNamed rs → AllByRecursion IsSourceRun rs
runs_of_source [] ops words opens named = tt
runs_of_source (r ∷ rs) (op, ops) (word, words) (open_, opens) (one, more) = (
  record {
    ops = op.0;
    op = op.1;
    prepares = all_prepare r.before open_.prepares one.prepares;
    shown = shows r.before r.op.code r.op.operand open_.acts op.2 one.acts;
    word = word;
  },
  runs_of_source rs ops words opens more,
)

all_source : (bs : List StatedBlock) → AllByRecursion HasWords bs → AllByRecursion IsHead (map compiled_block bs) → AllByRecursion IsWrittenBlock (map compiled_block bs)
    → AllByRecursion (λ b. IsEndFree (length b.lines) b) (map compiled_block bs) → AllByRecursion (λ b. AllByRecursion OpensRight (runs b.code)) (map compiled_block bs)
    → AllByRecursion (λ b. AllByRecursion IsRunNamed (runs b.code)) (map compiled_block bs) → AllByRecursion HasLines (map compiled_block bs) → AllByRecursion IsSourceBlock (map compiled_block bs)
all_source [] words heads writes ends opens named lines = tt
all_source (b ∷ bs) (word, words) (head, heads) (written, writes) (end, ends) (open_, opens) (one, named) (count, lines) = (
  record {
    statements = runs_of_source (runs (code_in b.statements)) (block_ops (compiled_block b) head.code written)
        (subst (λ (rs : List StatementOps). AllByRecursion HasRunWord rs) (sym (runs_found b.statements)) (runs_have_words (statement_offset b.statements) b.statements word)) open_ one;
    count = count;
    end = end;
  },
  all_source bs words heads writes ends opens named lines,
)

pub source_blocks : (t : Tree) (symbols : List Symbol) (layouts : List BlockLayout) → IsWellFormed t → rule_26 t.blocks ≡ [] → IsProgram (program_of t symbols layouts)
    → IsNamedProgram (program_of t symbols layouts) → AllByRecursion IsSourceBlock (program_of t symbols layouts).code_blocks
source_blocks t symbols layouts whole labels is named =
    let bs = code_blocks_of t symbols layouts in
    all_source bs (program_words t symbols layouts) (program_heads (program_of t symbols layouts) is) (written_compiled t symbols layouts whole)
    (ends_free t symbols layouts whole labels) (opened_right t symbols layouts) named (all_have_lines bs)
