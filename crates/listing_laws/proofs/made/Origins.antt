-- What the blocks of the listing of an accepted source's program were made of.
use Rattle.std.proofs.Common.{◌≡◌, ℕ, zero, suc, ◌+◌, ◌<◌, true, List, [], ◌∷◌, ◌++◌, length, map, Some, slice_get, refl, sym, ap, subst, ◌∙◌, arith}
use Rattle.std.specs.List.{AllByRecursion}
use Rattle.plc_base.specs.Kinds.{is_code}
use Rattle.plc_base.specs.declared.blocks.BlockId.{BlockId}
use Rattle.flat_code.specs.Programs.{CodeBlock, DataBlock, Program}
use Rattle.stl_ast.specs.declared.blocks.Block.{Block}
use Rattle.stl_ast.specs.declared.blocks.Tree.{Tree}
use Rattle.stl_symbols.specs.Symbol.{Symbol}
use Rattle.block_layout.specs.Layouts.{layouts_of}
use Rattle.block_layout.specs.declared.blocks.BlockLayout.{BlockLayout}
use Rattle.stl_codegen.specs.CompiledBlock.{StatedBlock, compiled_block}
use Rattle.stl_codegen.specs.GeneratedProgram.{code_block, code_blocks_of}
use Rattle.stl_list.specs.CodeBlocks.{in_lines, line_reached, listed_block, listed_blocks}
use Rattle.stl_list.specs.DataBlocks.{listed_data, listed_data_blocks}
use Rattle.stl_list.specs.Lines.{line_behind_statements, stands_before}
use Rattle.stl_list.specs.Listing.{listed_tree}
use Rattle.stl_list.specs.Signatures.{Signature}
use Rattle.sem_kept.specs.AcceptedSource.{program_in}
use Rattle.sem_kept.proofs.accepted.Accepted.{IsSoundBlock, IsSoundTree, right_tree, sound_code_blocks}
use Rattle.block_layout.proofs.CommonLemmas.{all_there}
use Rattle.listing_laws.specs.ListedSource.{AreMadeOfSource, IsCodeAt, IsMadeOf, listed_tree_again, source_context_at}
use Rattle.listing_laws.specs.ListedDeclarations.{signatures_in}
use Rattle.listing_laws.specs.Lines.{StandBehind, StandsBehind}
use Rattle.listing_laws.specs.Origins.{AreDataListed}
use Rattle.listing_laws.proofs.LineLemmas.{lines_kept}
use Rattle.listing_laws.proofs.OrderLemmas.{all_sorted, length_sorted}

-- ---- places in lists

-- one that stands at a place
pub record HasAt {A : Type 0} (xs : List A) (k : ℕ) : Type 0 where
  pub item : A
  pub there : slice_get xs k ≡ Some item

pub has_at : {A : Type 0} (xs : List A) (k : ℕ) → k < length xs → HasAt xs k
has_at [] k low = absurd (omega (arith, low))
has_at (x ∷ xs) zero low = record { item = x; there = refl }
has_at (x ∷ xs) (suc k) low = let more = has_at xs k (omega (arith, low)) in record { item = more.item; there = more.there }

pub in_front : {A : Type 0} (xs ys : List A) (k : ℕ) (x : A) → slice_get xs k ≡ Some x → slice_get (xs ++ ys) k ≡ Some x
in_front [] ys k x e = absurd cc
in_front (y ∷ xs) ys zero x e = e
in_front (y ∷ xs) ys (suc k) x e = in_front xs ys k x e

pub at_back : {A : Type 0} (xs ys : List A) (n j : ℕ) → n ≡ length xs + j → slice_get (xs ++ ys) n ≡ slice_get ys j
at_back [] ys n j e = ap (slice_get ys) (omega (arith, e))
at_back (x ∷ xs) ys zero j e = absurd (omega (arith, e))
at_back (x ∷ xs) ys (suc n) j e = at_back xs ys n j (omega (arith, e))

pub mapped_at : {A B : Type 0} (f : A → B) (xs : List A) (k : ℕ) (x : A) → slice_get xs k ≡ Some x → slice_get (map f xs) k ≡ Some (f x)
mapped_at f [] k x e = absurd cc
mapped_at f (y ∷ xs) zero x e = let same : y ≡ x = cc in ap (λ z. Some (f z)) same
mapped_at f (y ∷ xs) (suc k) x e = mapped_at f xs k x e

-- ---- the code blocks of the program

-- the code block of a block of the source
pub record IsFrom (symbols : List Symbol) (t : Tree) (x : CodeBlock) : Type 0 where
  pub place : ℕ
  pub block : Block
  pub layout : BlockLayout
  pub id : BlockId
  pub source : IsCodeAt symbols t place block layout id
  pub is : compiled_block (code_block (source_context_at symbols t place) block layout id) ≡ x

one_from : (symbols : List Symbol) (t : Tree) (k : ℕ) (b : Block) (l : BlockLayout) (id : BlockId) → IsSoundBlock symbols t k b l → l.id ≡ Some id → is_code id.kind ≡ true
    → IsFrom symbols t (compiled_block (code_block (source_context_at symbols t k) b l id))
one_from symbols t k b l id h e code = record {
  place = k;
  block = b;
  layout = l;
  id = id;
  source = record { block = h.block_there; layout = h.layout_there; known = e; code = code };
  is = refl;
}

pub all_compiled : (P : CodeBlock → Type 0) (xs : List StatedBlock) → AllByRecursion (λ x. P (compiled_block x)) xs → AllByRecursion P (map compiled_block xs)
all_compiled P [] h = tt
all_compiled P (x ∷ xs) (one, more) = (one, all_compiled P xs more)

pub all_from : (symbols : List Symbol) (t : Tree) → IsSoundTree symbols t → AllByRecursion (IsFrom symbols t) (in_lines (program_in symbols t).code_blocks)
unfolding in_lines
all_from symbols t tree =
    all_sorted (IsFrom symbols t) stands_before (program_in symbols t).code_blocks
    (all_compiled (IsFrom symbols t) (code_blocks_of t symbols (layouts_of t symbols))
    (sound_code_blocks symbols t (λ x. IsFrom symbols t (compiled_block x)) tree (one_from symbols t)))

pub lines_count : (bs : List CodeBlock) → length (in_lines bs) ≡ length bs
unfolding in_lines
lines_count bs = length_sorted stands_before bs

-- ---- their places in the listing

-- a code block that is listed at a place, behind what reaches to a line
record IsListedAt (ss : List Signature) (blocks : List Block) (k : ℕ) (b : CodeBlock) : Type 0 where
  reached : ℕ
  there : slice_get blocks k ≡ Some (listed_block ss reached b)
  stands : StandsBehind reached b

listed_at : (ss : List Signature) (reached : ℕ) (bs : List CodeBlock) (k : ℕ) (b : CodeBlock) → StandBehind reached bs → slice_get bs k ≡ Some b
    → IsListedAt ss (listed_blocks ss reached bs) k b
listed_at ss reached [] k b h e = absurd cc
listed_at ss reached (x ∷ bs) zero b h e =
    let same : x ≡ b = cc in
    record { reached = reached; there = ap (λ (z : CodeBlock). Some (listed_block ss reached z)) same; stands = subst (StandsBehind reached) same h.0 }
listed_at ss reached (x ∷ bs) (suc k) b h e =
    let more = listed_at ss (line_behind_statements reached x.lines) bs k b (subst (λ n. StandBehind n bs) (sym h.0.end) h.1) e in
    record { reached = more.reached; there = more.there; stands = more.stands }

pub tree_blocks : (p : Program) → (listed_tree p).blocks
    ≡ listed_blocks (signatures_in p) 1 (in_lines p.code_blocks) ++ listed_data_blocks (signatures_in p) (line_reached 1 (in_lines p.code_blocks)) p.data_blocks
unfolding listed_tree
tree_blocks p = refl

listed_in_tree : (p : Program) (k : ℕ) (b : CodeBlock) → StandBehind 1 (in_lines p.code_blocks) → slice_get (in_lines p.code_blocks) k ≡ Some b
    → IsListedAt (signatures_in p) (listed_tree p).blocks k b
listed_in_tree p k b h e =
    let ss = signatures_in p in
    let code : List Block = listed_blocks ss 1 (in_lines p.code_blocks) in
    let stored : List Block = listed_data_blocks ss (line_reached 1 (in_lines p.code_blocks)) p.data_blocks in
    let one = listed_at ss 1 (in_lines p.code_blocks) k b h e in
    record {
      reached = one.reached;
      there = ap (λ (z : List Block). slice_get z k) (tree_blocks p) ∙ in_front code stored k (listed_block ss one.reached b) one.there;
      stands = one.stands;
    }

-- one of them was made of the source
one_made : (symbols : List Symbol) (t : Tree) (again : ℕ) (x : CodeBlock) (from : IsFrom symbols t x) → slice_get (in_lines (program_in symbols t).code_blocks) again ≡ Some x
    → IsListedAt (signatures_in (program_in symbols t)) (listed_tree_again symbols t).blocks again x
    → IsMadeOf symbols t again from.place from.block from.layout from.id
one_made symbols t again x from e listed = record {
  source = from.source;
  ordered = e ∙ ap (λ (z : CodeBlock). Some z) (sym from.is);
  reached = listed.reached;
  listed = listed.there ∙ ap (λ (z : CodeBlock). Some (listed_block (signatures_in (program_in symbols t)) listed.reached z)) (sym from.is);
  stands = subst (StandsBehind listed.reached) (sym from.is) listed.stands;
}

pub made_of_source : AreMadeOfSource
made_of_source source file symbols t accepted bytes file_bytes again low =
    let p = program_in symbols t in
    let count = lines_count p.code_blocks in
    let at = has_at (in_lines p.code_blocks) again (omega (arith, low, count)) in
    let from = all_there (IsFrom symbols t) (in_lines p.code_blocks) again at.item (all_from symbols t (right_tree source file symbols t accepted)) at.there in
    let stand = lines_kept source accepted.tokens t symbols (layouts_of t symbols) accepted.lexed accepted.parsed in
    let listed = listed_in_tree p again at.item stand at.there in
    (from.place, from.block, from.layout, from.id, one_made symbols t again at.item from at.there listed)

-- ---- the data blocks

pub blocks_count : (ss : List Signature) (reached : ℕ) (bs : List CodeBlock) → length (listed_blocks ss reached bs) ≡ length bs
blocks_count ss reached [] = refl
blocks_count ss reached (b ∷ bs) = ap (λ n. suc n) (blocks_count ss (line_behind_statements reached b.lines) bs)

pub data_listed : AreDataListed
data_listed p j d e =
    let ss = signatures_in p in
    let line = line_reached 1 (in_lines p.code_blocks) in
    let code : List Block = listed_blocks ss 1 (in_lines p.code_blocks) in
    let stored : List Block = listed_data_blocks ss line p.data_blocks in
    let many = blocks_count ss 1 (in_lines p.code_blocks) in
    let count = lines_count p.code_blocks in
    ap (λ (z : List Block). slice_get z (length p.code_blocks + j)) (tree_blocks p)
    ∙ at_back code stored (length p.code_blocks + j) j (omega (arith, many, count))
    ∙ mapped_at (λ (d : DataBlock). listed_data ss line d.number d.bytes d.instance_of) p.data_blocks j d e
