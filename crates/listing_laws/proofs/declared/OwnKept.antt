-- Each data block with a structure of its own is among those of the program of the listing.
use Rattle.std.proofs.Common.{◌≡◌, ℕ, zero, suc, ◌+◌, false, List, [], ◌∷◌, ◌++◌, append_assoc, length, map, Some, None, refl, subst, ◌∙◌, arith}
use Rattle.std.specs.Prelude.{IfSome, slice_get}
use Rattle.std.specs.List.{AllByRecursion}
use Rattle.plc_base.proofs.ListLemmas.{all_back, all_front}
use Rattle.flat_code.specs.Programs.{DataBlock, Program}
use Rattle.stl_ast.specs.declared.blocks.Block.{Block}
use Rattle.stl_ast.specs.declared.blocks.Tree.{Tree}
use Rattle.stl_symbols.specs.Symbol.{Symbol}
use Rattle.block_layout.specs.Layouts.{block_layout, layouts_by, layouts_from, layouts_of}
use Rattle.block_layout.specs.Measures.{types_of_source}
use Rattle.block_layout.specs.Types.{Types}
use Rattle.block_layout.specs.declared.blocks.BlockLayout.{BlockLayout}
use Rattle.stl_codegen.specs.GeneratedProgram.{data_block_of, data_blocks_of, each_block}
use Rattle.stl_codegen.specs.Order.{is_data_before}
use Rattle.stl_codegen.proofs.ProgramLemmas.{all_before}
use Rattle.stl_list.specs.CodeBlocks.{in_lines, line_reached, listed_blocks}
use Rattle.stl_list.specs.DataBlocks.{listed_data}
use Rattle.stl_list.specs.Listing.{listed_tree}
use Rattle.stl_list.specs.Signatures.{Signature}
use Rattle.sem_kept.specs.AcceptedSource.{program_in}
use Rattle.sem_kept.specs.SettledStatements.{context_at}
use Rattle.sem_kept.proofs.accepted.RecordData.{holds_at}
use Rattle.listing_laws.specs.ListedDeclarations.{signatures_in}
use Rattle.listing_laws.specs.OwnData.{AreOwnDataKept, IsOneOfDataBlocks, IsOwnDataAgain}
use Rattle.listing_laws.proofs.declared.OwnData.{own_data}

-- ---- among the data blocks of a source

further_among : (x : DataBlock) (ds es : List DataBlock) → AllByRecursion (λ d. IsOneOfDataBlocks d ds) es → AllByRecursion (λ d. IsOneOfDataBlocks d (x ∷ ds)) es
further_among x ds [] h = tt
further_among x ds (e ∷ es) (one, more) = (record { place = suc one.place; there = one.there }, further_among x ds es more)

pub all_among : (ds : List DataBlock) → AllByRecursion (λ d. IsOneOfDataBlocks d ds) ds
all_among [] = tt
all_among (d ∷ ds) = (record { place = 0; there = refl }, further_among d ds ds (all_among ds))

-- what holds of all data blocks of a source holds of that of each of its blocks
each_has : (P : DataBlock → Type 0) (symbols : List Symbol) (t : Tree) (d : DataBlock) (k j i : ℕ) (bs : List Block) (ls : List BlockLayout) (b : Block) (l : BlockLayout)
    → j + i ≡ k → slice_get bs i ≡ Some b → slice_get ls i ≡ Some l → data_block_of (context_at symbols t k) l l.id ≡ d ∷ []
    → AllByRecursion P (each_block (λ c b l. data_block_of c l l.id) (context_at symbols t j) bs ls) → P d
each_has P symbols t d k j i [] ls b l e block layout is h = absurd cc
each_has P symbols t d k j i (x ∷ xs) [] b l e block layout is h = absurd cc
each_has P symbols t d k j zero (x ∷ xs) (m ∷ ms) b l e block layout is h =
    let one : m ≡ l = cc in
    let same : j ≡ k = omega (arith, e) in
    let here : data_block_of (context_at symbols t j) m m.id ≡ d ∷ [] = (λ n. data_block_of (context_at symbols t (same n)) (one n) (one n).id) ∙ is in
    let first = all_front P (data_block_of (context_at symbols t j) m m.id) (each_block (λ c b l. data_block_of c l l.id) (context_at symbols t (suc j)) xs ms) h in
    (subst (AllByRecursion P) here first).0
each_has P symbols t d k j (suc i) (x ∷ xs) (m ∷ ms) b l e block layout is h =
    each_has P symbols t d k (suc j) i xs ms b l (omega (arith, e)) block layout is
    (all_back P (data_block_of (context_at symbols t j) m m.id) (each_block (λ c b l. data_block_of c l l.id) (context_at symbols t (suc j)) xs ms) h)

among : (symbols : List Symbol) (t : Tree) (d : DataBlock) (k : ℕ) (b : Block) (l : BlockLayout) → slice_get t.blocks k ≡ Some b → slice_get (layouts_of t symbols) k ≡ Some l
    → data_block_of (context_at symbols t k) l l.id ≡ d ∷ [] → IsOneOfDataBlocks d (data_blocks_of t symbols (layouts_of t symbols))
unfolding data_blocks_of
among symbols t d k b l block layout is =
    each_has (λ x. IsOneOfDataBlocks x (data_blocks_of t symbols (layouts_of t symbols))) symbols t d k 0 k t.blocks (layouts_of t symbols) b l (omega arith) block layout is
    (all_before (λ x. IsOneOfDataBlocks x (data_blocks_of t symbols (layouts_of t symbols))) is_data_before
    (each_block (λ c b l. data_block_of c l l.id) (context_at symbols t 0) t.blocks (layouts_of t symbols))
    (all_among (data_blocks_of t symbols (layouts_of t symbols))))

-- ---- the places of listed blocks

-- the layout at the place of a block
pub record HasLayout (ls : List BlockLayout) (k : ℕ) : Type 0 where
  pub layout : BlockLayout
  pub there : slice_get ls k ≡ Some layout

laid_there : (y : Types) (blocks before bs : List Block) (k : ℕ) (b : Block) → slice_get bs k ≡ Some b → HasLayout (layouts_from y blocks before bs) k
laid_there y blocks before [] k b e = absurd cc
laid_there y blocks before (x ∷ xs) zero b e = record { layout = block_layout y blocks before x; there = refl }
laid_there y blocks before (x ∷ xs) (suc k) b e =
    let more = laid_there y blocks (x ∷ before) xs k b e in record { layout = more.layout; there = more.there }

pub layout_there : (symbols : List Symbol) (t : Tree) (k : ℕ) (b : Block) → slice_get t.blocks k ≡ Some b → HasLayout (layouts_of t symbols) k
unfolding layouts_of layouts_by
layout_there symbols t k b e = laid_there (types_of_source symbols t.blocks) t.blocks [] t.blocks k b e

-- a block that stands in a list
record Stands (b : Block) (bs : List Block) : Type 0 where
  place : ℕ
  there : slice_get bs place ≡ Some b

behind : (front : List Block) (b : Block) (bs : List Block) → slice_get (front ++ b ∷ bs) (length front) ≡ Some b
behind [] b bs = refl
behind (x ∷ front) b bs = behind front b bs

all_stand : (of : DataBlock → Block) (front : List Block) (ds : List DataBlock) → AllByRecursion (λ d. Stands (of d) (front ++ map of ds)) ds
all_stand of front [] = tt
all_stand of front (d ∷ ds) = (
  record { place = length front; there = behind front (of d) (map of ds) },
  subst (λ bs. AllByRecursion (λ e. Stands (of e) bs) ds) (append_assoc front (of d ∷ []) (map of ds)) (all_stand of (front ++ of d ∷ []) ds),
)

one_kept : (ss : List Signature) (line : ℕ) (symbols : List Symbol) (t : Tree) (d : DataBlock) → AllByRecursion (λ l. l.broken ≡ false) (layouts_of t symbols)
    → IsOwnDataAgain ss d → Stands (listed_data ss line d.number d.bytes None) t.blocks → IsOneOfDataBlocks d (data_blocks_of t symbols (layouts_of t symbols))
one_kept ss line symbols t d whole again stands =
    let b = listed_data ss line d.number d.bytes None in
    let laid = layout_there symbols t stands.place b stands.there in
    let l = laid.layout in
    let clean : l.broken ≡ false = subst (λ o. IfSome o (λ x. x.broken ≡ false)) laid.there (holds_at (λ x. x.broken ≡ false) (layouts_of t symbols) stands.place whole) in
    among symbols t d stands.place b l stands.there laid.there (again.again symbols t stands.place line l stands.there laid.there clean)

all_kept : (ss : List Signature) (line : ℕ) (symbols : List Symbol) (t : Tree) (ds : List DataBlock) → AllByRecursion (λ l. l.broken ≡ false) (layouts_of t symbols)
    → AllByRecursion (λ d. d.instance_of ≡ None → IsOwnDataAgain ss d) ds → AllByRecursion (λ d. Stands (listed_data ss line d.number d.bytes d.instance_of) t.blocks) ds
    → AllByRecursion (λ d. d.instance_of ≡ None → IsOneOfDataBlocks d (data_blocks_of t symbols (layouts_of t symbols))) ds
all_kept ss line symbols t [] whole again stand = tt
all_kept ss line symbols t (d ∷ ds) whole (one, more) (there, others) = (
  λ own. one_kept ss line symbols t d whole (one own) (subst (λ o. Stands (listed_data ss line d.number d.bytes o) t.blocks) own there),
  all_kept ss line symbols t ds whole more others,
)

-- the data blocks of a program stand in its listing
data_stand : (p : Program) → AllByRecursion (λ d. Stands (listed_data (signatures_in p) (line_reached 1 (in_lines p.code_blocks)) d.number d.bytes d.instance_of) (listed_tree p).blocks) p.data_blocks
unfolding listed_tree
data_stand p =
    let ss = signatures_in p in
    let line = line_reached 1 (in_lines p.code_blocks) in
    all_stand (λ d. listed_data ss line d.number d.bytes d.instance_of) (listed_blocks ss 1 (in_lines p.code_blocks)) p.data_blocks

pub own_kept : AreOwnDataKept
own_kept source file symbols t accepted bytes file_bytes others whole =
    let p = program_in symbols t in
    all_kept (signatures_in p) (line_reached 1 (in_lines p.code_blocks)) others (listed_tree p) p.data_blocks whole
    (own_data source file symbols t accepted bytes file_bytes) (data_stand p)
