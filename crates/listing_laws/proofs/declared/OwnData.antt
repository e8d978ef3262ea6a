-- The data blocks with a structure of their own are those of the program again.
use Rattle.std.proofs.Common.{◌≡◌, ℕ, zero, suc, ◌+◌, ◌*◌, ◌/◌, ◌%◌, ◌<◌, ◌≤◌, Bool, true, false, List, [], ◌∷◌, ◌++◌, length, replicate, Option, Some, None, refl, sym, ap, ◌∙◌, arith}
use Rattle.std.specs.Prelude.{if◌then◌else◌, nat_lt, slice_get}
use Rattle.std.specs.List.{AllByRecursion}
use Rattle.std.specs.Option.{option_and_then, option_map}
use Rattle.std.proofs.lemmas.Bool.{ltb-false}
use Rattle.std.proofs.lemmas.Bool.Decides.{nat_tests}
use Rattle.std.proofs.lemmas.List.{length-replicate}
use Rattle.plc_base.specs.Kinds.{is_data_block}
use Rattle.plc_base.specs.declared.blocks.BlockId.{BlockId}
use Rattle.plc_base.specs.declared.blocks.BlockKind.TheVariants as kinds
use Rattle.flat_code.specs.Programs.{DataBlock}
use Rattle.stl_ast.specs.declared.blocks.Block.{Block}
use Rattle.stl_ast.specs.declared.blocks.Tree.{Tree}
use Rattle.stl_ast.specs.declared.declarations.Init.{Init}
use Rattle.stl_symbols.specs.Symbol.{Symbol}
use Rattle.block_layout.specs.Cells.{components_of}
use Rattle.block_layout.specs.InitialBytes.{initial_bytes, length_at, setting_writes, settings_at, structure_writes}
use Rattle.block_layout.specs.Layouts.{block_layout, layouts_by, layouts_from, layouts_of}
use Rattle.block_layout.specs.Lengths.{bits_of_cells, is_structured, length_of_block, shape_bits, shape_of}
use Rattle.block_layout.specs.Measures.{types_of_source}
use Rattle.block_layout.specs.Paths.{cells_in, shape_block, structure_of, whole_block}
use Rattle.block_layout.specs.Sizes.{capped_size, cell_bits, element_of, components_end, structure_bits, next_multiple}
use Rattle.block_layout.specs.Types.{Types}
use Rattle.block_layout.specs.declared.blocks.BlockLayout.{BlockLayout}
use Rattle.block_layout.specs.declared.blocks.Shape.{Shape}
use Rattle.block_layout.specs.declared.blocks.Shape.TheVariants as shape
use Rattle.block_layout.specs.declared.cells.Cell.{Cell}
use Rattle.stl_codegen.specs.GeneratedProgram.{generated_data_block, data_block_of, instance_in}
use Rattle.stl_list.specs.DataBlocks.{listed_data}
use Rattle.stl_list.specs.Initial.{values_of}
use Rattle.stl_list.specs.Signatures.{Signature}
use Rattle.sem_kept.specs.AcceptedSource.{program_in}
use Rattle.sem_kept.specs.SettledStatements.{context_at}
use Rattle.sem_kept.proofs.accepted.Accepted.{IsSoundBlock, right_tree, sound_data_blocks}
use Rattle.sem_kept.proofs.accepted.RecordData.{length_there}
use Rattle.sem_kept.proofs.accepted.RecordParams.{end_step}
use Rattle.block_layout.proofs.FillLemmas.{written_length}
use Rattle.sem_kept.proofs.accepted.Verified.{accepted_verifies}
use Rattle.listing_laws.specs.ListedDeclarations.{signatures_in}
use Rattle.listing_laws.specs.OwnData.{AreOwnDataAgain, IsOwnDataAgain}
use Rattle.listing_laws.proofs.CompiledLemmas.{written_compiled}
use Rattle.listing_laws.proofs.RangeLemmas.{IsListedData, program_listed}
use Rattle.listing_laws.proofs.declared.Cells.{bytes_count}
use Rattle.listing_laws.proofs.declared.Kept.{even, last_step, no_bytes_end, size_uncapped, up_from}
use Rattle.listing_laws.proofs.declared.Own.{own_bytes, own_cell, own_cells}

-- ---- lengths of a source

whole_words : (cells : List Cell) → structure_bits cells / 8 % 2 ≡ 0
unfolding structure_bits next_multiple
whole_words cells = half (components_end 0 0 cells)
  where
    half : (n : ℕ) → capped_size ((n + 15) / 16 * 16) / 8 % 2 ≡ 0
    half n = omega arith

shape_even : (y : Types) (blocks : List Block) (b : Block) (s : Shape) → shape_bits y blocks b s / 8 % 2 ≡ 0
shape_even y blocks b shape.Own = whole_words (components_of y b)
shape_even y blocks b (shape.Of block) = by (slice_get blocks block)
  where
    by : (o : Option Block) → bits_of_cells (option_map (components_of y) o) / 8 % 2 ≡ 0
    by None = refl
    by (Some c) = whole_words (components_of y c)
shape_even y blocks b shape.Unknown = refl

length_even : (y : Types) (blocks : List Block) (b : Block) → length_of_block y blocks b % 2 ≡ 0
unfolding length_of_block
length_even y blocks b = by (is_structured b.kind)
  where
    by : (t : Bool) → (if t then shape_bits y blocks b (shape_of y b) / 8 else 0) % 2 ≡ 0
    by true = shape_even y blocks b (shape_of y b)
    by false = refl

-- a data block of whole words, within the limit
record IsEven (d : DataBlock) : Type 0 where
  even : length d.bytes % 2 ≡ 0
  short : length d.bytes ≤ 16384

pub initial_long : (l : List BlockLayout) (blocks : List Block) (k : ℕ) → length (initial_bytes l blocks k) ≡ length_at (slice_get l k)
unfolding initial_bytes
initial_long l blocks k =
    written_length (replicate (length_at (slice_get l k)) 0) (structure_writes l (structure_of l k) ++ setting_writes l k (settings_at (slice_get blocks k)))
    ∙ length-replicate (length_at (slice_get l k)) 0

source_even : (symbols : List Symbol) (t : Tree) (k : ℕ) (b : Block) (l : BlockLayout) (id : BlockId) → IsSoundBlock symbols t k b l → l.id ≡ Some id → is_data_block id.kind ≡ true
    → IsEven (generated_data_block (context_at symbols t k) l id)
source_even symbols t k b l id h named db =
    let y = types_of_source symbols t.blocks in
    let long : length (initial_bytes (layouts_of t symbols) t.blocks k) ≡ length_of_block y t.blocks b =
    initial_long (layouts_of t symbols) t.blocks k ∙ ap length_at h.layout_there ∙ length_there symbols t k b l h in
    let most : length_of_block y t.blocks b ≤ 16384 = ltb-false 16384 (length_of_block y t.blocks b) h.head.by_51 in
    record { even = ap (λ n. n % 2) long ∙ length_even y t.blocks b; short = omega (arith, long, most) }

-- ---- the length of a listed block

own_bits : (n : ℕ) (values : List Init) → 0 < n → n % 2 ≡ 0 → n ≤ 16384 → cell_bits (own_cell n values) [] ≡ 8 * n
unfolding element_of own_cell
own_bits n values some is_even short =
    let size = bytes_count n some in
    let whole : n * 8 ≡ 8 * n = omega arith in
    rw (size, whole, size_uncapped (8 * n) (omega (arith, short)), even n is_even, size_uncapped (8 * n) (omega (arith, short))) refl

own_end : (n : ℕ) (values : List Init) → components_end 0 0 (own_cell n values ∷ []) ≡ capped_size (next_multiple 0 16 + cell_bits (own_cell n values) [])
unfolding own_cell
own_end n values = end_step 0 (own_cell n values) [] ∙ last_step (capped_size (next_multiple 0 16 + cell_bits (own_cell n values) []))

own_long : (n : ℕ) (values : List Init) → 0 < n → n % 2 ≡ 0 → n ≤ 16384 → structure_bits (own_cell n values ∷ []) ≡ 8 * n
unfolding structure_bits
own_long n values some is_even short =
    let end : components_end 0 0 (own_cell n values ∷ []) ≡ 8 * n =
    own_end n values ∙ ap (λ m. capped_size (next_multiple 0 16 + m)) (own_bits n values some is_even short) ∙ ap capped_size (up_from (8 * n)) ∙ size_uncapped (8 * n) (omega (arith, short)) in
    ap (λ m. capped_size (next_multiple m 16)) end ∙ ap capped_size (even n is_even) ∙ size_uncapped (8 * n) (omega (arith, short))

components_long : (y : Types) (ss : List Signature) (line number : ℕ) (bytes : List ℕ) → length bytes % 2 ≡ 0 → length bytes ≤ 16384
    → structure_bits (components_of y (listed_data ss line number bytes None)) ≡ 8 * length bytes
unfolding structure_bits
components_long y ss line number [] is_even short = no_bytes_end 0 refl
components_long y ss line number (b ∷ bs) is_even short =
    ap structure_bits (own_cells y line b bs) ∙ own_long (length (b ∷ bs)) (values_of (b ∷ bs)) (omega arith) is_even short

listed_long : (y : Types) (blocks : List Block) (ss : List Signature) (line number : ℕ) (bytes : List ℕ) → length bytes % 2 ≡ 0 → length bytes ≤ 16384
    → length_of_block y blocks (listed_data ss line number bytes None) ≡ length bytes
unfolding length_of_block
listed_long y blocks ss line number bytes is_even short =
    ap (λ n. n / 8) (components_long y ss line number bytes is_even short) ∙ eighth (length bytes)
  where
    eighth : (n : ℕ) → 8 * n / 8 ≡ n
    eighth n = omega arith

-- ---- a block at its place

-- the layout of a block
pub record IsLaid (y : Types) (blocks : List Block) (b : Block) (l : BlockLayout) : Type 0 where
  pub before : List Block
  pub layout : l ≡ block_layout y blocks before b

laid_at : (y : Types) (blocks before bs : List Block) (k : ℕ) (b : Block) (l : BlockLayout) → slice_get bs k ≡ Some b → slice_get (layouts_from y blocks before bs) k ≡ Some l
    → IsLaid y blocks b l
laid_at y blocks before [] k b l there e = absurd cc
laid_at y blocks before (x ∷ xs) zero b l there e =
    let one : x ≡ b = cc in
    let laid : block_layout y blocks before x ≡ l = cc in
    record { before = before; layout = sym laid ∙ ap (block_layout y blocks before) one }
laid_at y blocks before (x ∷ xs) (suc k) b l there e = laid_at y blocks (x ∷ before) xs k b l there e

pub laid_in : (symbols : List Symbol) (t : Tree) (k : ℕ) (b : Block) (l : BlockLayout) → slice_get t.blocks k ≡ Some b → slice_get (layouts_of t symbols) k ≡ Some l
    → IsLaid (types_of_source symbols t.blocks) t.blocks b l
unfolding layouts_of layouts_by
laid_in symbols t k b l there e = laid_at (types_of_source symbols t.blocks) t.blocks [] t.blocks k b l there e

laid_shape : (y : Types) (blocks before : List Block) (ss : List Signature) (line number : ℕ) (bytes : List ℕ) → (block_layout y blocks before (listed_data ss line number bytes None)).shape ≡ shape.Own
unfolding block_layout
laid_shape y blocks before ss line number bytes = refl

laid_id : (y : Types) (blocks before : List Block) (ss : List Signature) (line number : ℕ) (bytes : List ℕ)
    → (block_layout y blocks before (listed_data ss line number bytes None)).id ≡ Some (record { kind = kinds.Db; number = number })
unfolding block_layout
laid_id y blocks before ss line number bytes = refl

pub laid_cells : (y : Types) (blocks before : List Block) (b : Block) → (block_layout y blocks before b).components ≡ components_of y b
unfolding block_layout
laid_cells y blocks before b = refl

pub laid_length : (y : Types) (blocks before : List Block) (b : Block) → (block_layout y blocks before b).length ≡ length_of_block y blocks b
unfolding block_layout
laid_length y blocks before b = refl

own_structure : (ls : List BlockLayout) (k : ℕ) (l : BlockLayout) → slice_get ls k ≡ Some l → l.broken ≡ false → l.shape ≡ shape.Own → structure_of ls k ≡ Some k
own_structure ls k l there whole own =
    ap (λ o. option_and_then (λ (b : BlockLayout). shape_block ls k b.shape) (whole_block o)) there
    ∙ ap (λ (t : Bool). option_and_then (λ (b : BlockLayout). shape_block ls k b.shape) (if t then None else Some l)) whole ∙ ap (shape_block ls k) own

pub not_long : (n : ℕ) → n ≤ 16384 → nat_lt 16384 n ≡ false
not_long n h = grind (arith, nat_tests)

own_again : (ss : List Signature) (d : DataBlock) → IsEven d → AllByRecursion (λ b. b < 256) d.bytes → d.instance_of ≡ None → IsOwnDataAgain ss d
own_again ss d h small own = record {
  length = λ y blocks line. listed_long y blocks ss line d.number d.bytes h.even h.short;
  by_51 = λ y blocks line. ap (nat_lt 16384) (listed_long y blocks ss line d.number d.bytes h.even h.short) ∙ not_long (length d.bytes) h.short;
  again = λ symbols t k line l there e whole. again symbols t k line l there e whole;
}
  where
    again : (symbols : List Symbol) (t : Tree) (k line : ℕ) (l : BlockLayout) → slice_get t.blocks k ≡ Some (listed_data ss line d.number d.bytes None)
        → slice_get (layouts_of t symbols) k ≡ Some l → l.broken ≡ false → data_block_of (context_at symbols t k) l l.id ≡ d ∷ []
    again symbols t k line l there e whole =
        let y = types_of_source symbols t.blocks in
        let ls = layouts_of t symbols in
        let b = listed_data ss line d.number d.bytes None in
        let laid = laid_in symbols t k b l there e in
        let own_shape : l.shape ≡ shape.Own = ap (λ (x : BlockLayout). x.shape) laid.layout ∙ laid_shape y t.blocks laid.before ss line d.number d.bytes in
        let named : l.id ≡ Some (record { kind = kinds.Db; number = d.number }) =
        ap (λ (x : BlockLayout). x.id) laid.layout ∙ laid_id y t.blocks laid.before ss line d.number d.bytes in
        let cells = ap (cells_in false) e ∙ ap (λ (x : BlockLayout). x.components) laid.layout ∙ laid_cells y t.blocks laid.before b in
        let long = ap length_at e ∙ ap (λ (x : BlockLayout). x.length) laid.layout ∙ laid_length y t.blocks laid.before b ∙ listed_long y t.blocks ss line d.number d.bytes h.even h.short in
        let short = h.short in
        let bytes = own_bytes y ls t.blocks k ss line d.number d.bytes (own_structure ls k l e whole own_shape) cells long there small (omega (arith, short)) in
        let instance : instance_in ls l.shape ≡ d.instance_of = ap (instance_in ls) own_shape ∙ sym own in
        ap (data_block_of (context_at symbols t k) l) named ∙ λ i. record { number = d.number; instance_of = instance i; bytes = bytes i } ∷ []

-- ---- all of a program

all_own : (ss : List Signature) (ds : List DataBlock) → AllByRecursion IsEven ds → AllByRecursion IsListedData ds
    → AllByRecursion (λ d. d.instance_of ≡ None → IsOwnDataAgain ss d) ds
all_own ss [] h good = tt
all_own ss (d ∷ ds) (one, more) (fine, others) = (own_again ss d one fine.bytes, all_own ss ds more others)

pub own_data : AreOwnDataAgain
own_data source file symbols t accepted bytes file_bytes =
    let tree = right_tree source file symbols t accepted in
    let p = program_in symbols t in
    let good = (accepted_verifies source file symbols t accepted bytes file_bytes).0 in
    let listed = program_listed p good (written_compiled t symbols (layouts_of t symbols) tree.well_formed) in
    all_own (signatures_in p) p.data_blocks (sound_data_blocks symbols t IsEven tree (source_even symbols t)) listed.data_blocks
