-- THE PROGRAM OF AN ACCEPTED SOURCE has an image and verifies: no field of its records has a fault, and no op of a
-- block has one, by its operand, its jump, its brackets or its call.
use Rattle.std.proofs.Common.{◌≡◌, ℕ, ◌+◌, ◌<◌, zero, suc, true, false, List, [], ◌∷◌, length, map, get_or, Some, refl, arith}
use Rattle.std.specs.List.{AllByRecursion}
use Rattle.flat_code.specs.Checking.{good_blocks}
use Rattle.flat_code.specs.Image.{record_of_block}
use Rattle.flat_code.specs.Loading.{AreVerified, environment_of_block, lens_of}
use Rattle.flat_code.specs.PlacedOps.{code_places, starts_of_statements}
use Rattle.flat_code.specs.Programs.{CodeBlock}
use Rattle.flat_code.specs.Records.{BlockRecord}
use Rattle.image_file.specs.Writing.{BlockFitsFields}
use Rattle.stl_ast.specs.Literals.{AreBytes}
use Rattle.stl_codegen.specs.CompiledBlock.{StatedBlock, code_in, compiled_block}
use Rattle.stl_codegen.specs.GeneratedProgram.{code_blocks_of}
use Rattle.stl_parser.proofs.RiseLemmas.{lines_rise}
use Rattle.block_layout.specs.Layouts.{layouts_of}
use Rattle.sem_kept.specs.AcceptedSource.{AcceptedVerifies, program_in}
use Rattle.sem_kept.specs.CodedBlocks.{IsBlockCoded}
use Rattle.sem_kept.specs.Jumps.{AllLandRight}
use Rattle.sem_kept.specs.Operands.{HaveNoOperandFaults}
use Rattle.sem_kept.specs.Records.{HasFaultlessCode}
use Rattle.sem_kept.proofs.accepted.Accepted.{right_tree}
use Rattle.sem_kept.proofs.accepted.Coded.{are_coded}
use Rattle.sem_kept.proofs.accepted.JumpsProgram.{fine_is_faultless, jumps_land_right}
use Rattle.sem_kept.proofs.accepted.OperandsFine.{operands_are_fine}
use Rattle.sem_kept.proofs.accepted.RecordBlocks.{data_blocks_rise}
use Rattle.sem_kept.proofs.accepted.RecordData.{data_blocks_right}
use Rattle.sem_kept.proofs.accepted.RecordNames.{names_right}
use Rattle.sem_kept.proofs.accepted.Records.{code_blocks_right, file_named, records_right}
use Rattle.sem_kept.proofs.accepted.Sizes.{accepted_is_small}
use Rattle.sem_kept.proofs.accepted.SizesProgram.{small_is_program}

-- ---- blocks

abbrev BlockLands : StatedBlock → Type 0
BlockLands b = AllLandRight (code_in b.statements)

blocks_clean : (lens : List (ℕ × ℕ)) (all : List BlockRecord) (bs : List StatedBlock)
    → AllByRecursion
    (λ b. HaveNoOperandFaults (environment_of_block (Some lens) all (record_of_block b)) lens (starts_of_statements b.code) (code_places b.code))
    (map compiled_block bs)
    → AllByRecursion BlockLands bs → AreVerified lens all (map record_of_block (map compiled_block bs))
blocks_clean lens all [] fine lands = tt
blocks_clean lens all (b ∷ bs) fine lands =
    let a = environment_of_block (Some lens) all (record_of_block (compiled_block b)) in (
      fine_is_faultless a lens 0 (code_in b.statements) refl fine.0 lands.0,
      blocks_clean lens all bs fine.1 lands.1,
    )

-- ---- the program

has_code : (bs : List CodeBlock) → AllByRecursion IsBlockCoded bs → AllByRecursion BlockFitsFields bs
    → AllByRecursion HasFaultlessCode bs
has_code [] coded small = tt
has_code (b ∷ bs) coded small = (
  record { ops = coded.0.ops; ends = coded.0.right; statements = small.0.lines; size = small.0.code },
  has_code bs coded.1 small.1,
)

below : (bytes : List ℕ) → AreBytes bytes → (i : ℕ) → get_or bytes i 0 < 256
below [] are i = omega arith
below (b ∷ bytes) are zero = let le = are.0 in omega arith
below (b ∷ bytes) are (suc i) = below bytes are.1 i

pub accepted_verifies : AcceptedVerifies
accepted_verifies source file symbols t a bytes file_bytes =
    let small = accepted_is_small source file symbols t a in
    let p = program_in symbols t in
    let codes = has_code p.code_blocks (are_coded source file symbols t a bytes) small.blocks in
    let tree = right_tree source file symbols t a in
    let short = a.short in
    let blocks : good_blocks (0, 0) p.code_blocks ≡ true =
    code_blocks_right symbols t (1 + length source) false tree (omega (arith, short)) (lines_rise source a.tokens t a.lexed a.parsed) codes in
    let datas = data_blocks_right symbols t tree (data_blocks_rise symbols t tree) in
    let names = names_right symbols (file_named a.language file symbols a.named (below file file_bytes)) in (
      small_is_program p small blocks datas names,
      record {
        right = records_right source file symbols t a (below file file_bytes) codes small.counts true;
        blocks = blocks_clean (lens_of p.data_blocks) (map record_of_block p.code_blocks)
            (code_blocks_of t symbols (layouts_of t symbols)) (operands_are_fine source file symbols t a bytes)
            (jumps_land_right source file symbols t a);
      },
    )
