-- So the program of an accepted source is named as in a source, and its listing is read as its tree.
use Rattle.std.proofs.Common.{ℕ, List, [], ◌∷◌}
use Rattle.std.specs.List.{AllByRecursion}
use Rattle.block_layout.specs.Layouts.{layouts_of}
use Rattle.flat_code.specs.Ops.{OpData}
use Rattle.flat_code.specs.Programs.{CodeBlock}
use Rattle.flat_code.specs.declared.operands.Operand.TheVariants as flat
use Rattle.flat_code.specs.declared.operands.Operand.{Operand as FlatOperand}
use Rattle.flat_code.specs.declared.operands.Passed.TheVariants as passed
use Rattle.flat_code.specs.declared.operands.Passed.{Passed}
use Rattle.stl_list.specs.Runs.{StatementOps, runs}
use Rattle.sem_kept.specs.AcceptedSource.{program_in}
use Rattle.sem_kept.proofs.accepted.Accepted.{right_tree}
use Rattle.sem_kept.proofs.accepted.Verified.{accepted_verifies}
use Rattle.listing_laws.proofs.naming.Bits.{OperandBit, PassedBit, RunBit, program_bits}
use Rattle.listing_laws.proofs.naming.Coded.{ActsOnNoBit, PassedIsNoBit, PreparesNoBit, RunIsNoBit, program_named}
use Rattle.listing_laws.proofs.naming.Symbols.{symbols_no_bits}
use Rattle.listing_laws.proofs.naming.Trees.{tree_plain}
use Rattle.listing_laws.specs.NamedProgram.{AreAcceptedRead, AreSourcesNamed}
use Rattle.listing_laws.specs.Sources.{ActsOnNamed, AreSourcesRead, IsRunNamed, PassesNamedPlace, PreparesOnNamed}

passes_on : (p : Passed) → PassedIsNoBit p → PassedBit p → PassesNamedPlace p
passes_on (passed.Direct a w byte bit) h k = (h, k)
passes_on (passed.InBlock number a w byte bit) h k = (h, k)
passes_on _ h k = tt

prepares_on : (o : FlatOperand) → PreparesNoBit o → OperandBit o → PreparesOnNamed o
prepares_on (flat.Pass index p) h k = passes_on p h k
prepares_on _ h k = tt

all_prepare : (ops : List OpData) → AllByRecursion (λ op. PreparesNoBit op.operand) ops → AllByRecursion (λ op. OperandBit op.operand) ops → AllByRecursion (λ op. PreparesOnNamed op.operand) ops
all_prepare [] h k = tt
all_prepare (op ∷ ops) (one, more) (bit, bits) = (prepares_on op.operand one bit, all_prepare ops more bits)

acts_on : (before : List OpData) (code : ℕ) (o : FlatOperand) → ActsOnNoBit before code o → OperandBit o → ActsOnNamed before code o
acts_on before code (flat.Direct a w byte bit) h k = (h, k)
acts_on before code (flat.Called kind number instance) h k = h
acts_on before code _ h k = tt

all_named : (rs : List StatementOps) → AllByRecursion RunIsNoBit rs → AllByRecursion RunBit rs → AllByRecursion IsRunNamed rs
all_named [] h k = tt
all_named (r ∷ rs) (one, more) (bit, bits) =
    (record { prepares = all_prepare r.before one.prepares bit.0; acts = acts_on r.before r.op.code r.op.operand one.acts bit.1 }, all_named rs more bits)

blocks_named : (bs : List CodeBlock) → AllByRecursion (λ b. AllByRecursion RunIsNoBit (runs b.code)) bs → AllByRecursion (λ b. AllByRecursion RunBit (runs b.code)) bs
    → AllByRecursion (λ b. AllByRecursion IsRunNamed (runs b.code)) bs
blocks_named [] h k = tt
blocks_named (b ∷ bs) (one, more) (bit, bits) = (all_named (runs b.code) one bit, blocks_named bs more bits)

pub sources_named : AreSourcesNamed
sources_named source file symbols t a bytes file_bytes =
    let p = program_in symbols t in
    let tree = right_tree source file symbols t a in
    let verified = accepted_verifies source file symbols t a bytes file_bytes in
    blocks_named p.code_blocks
    (program_named t symbols (layouts_of t symbols) (symbols_no_bits a.language file symbols a.named) tree.well_formed (tree_plain source a.tokens t a.parsed))
    (program_bits p verified.0 verified.1)

-- where the listing of the program of each source that is named so is read
pub accepted_read : AreSourcesRead → AreAcceptedRead
accepted_read read source file symbols t a bytes file_bytes =
    let tree = right_tree source file symbols t a in
    read t symbols (layouts_of t symbols) tree.well_formed tree.by_statements.by_26 (accepted_verifies source file symbols t a bytes file_bytes).0
    (sources_named source file symbols t a bytes file_bytes)
