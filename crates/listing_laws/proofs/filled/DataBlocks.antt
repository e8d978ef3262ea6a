-- The program of a listing has the data blocks of the source's program.
use Rattle.std.proofs.Common.{◌≡◌, ℕ, suc, ◌+◌, Bool, true, false, List, [], ◌∷◌, ◌++◌, map, Option, Some, None, refl, sym, ap, ◌∙◌, arith}
use Rattle.std.specs.Prelude.{if◌then◌else◌, nat_lt, slice_get}
use Rattle.std.specs.List.{AllByRecursion}
use Rattle.std.proofs.lemmas.Bool.Decides.{nat_tests}
use Rattle.plc_base.specs.Kinds.{is_code, is_data_block}
use Rattle.plc_base.specs.declared.blocks.BlockKind.{BlockKind}
use Rattle.plc_base.specs.declared.blocks.BlockKind.TheVariants as kinds
use Rattle.flat_code.specs.Programs.{CodeBlock, DataBlock, Program}
use Rattle.stl_ast.specs.declared.blocks.Block.{Block}
use Rattle.stl_ast.specs.declared.blocks.Tree.{Tree}
use Rattle.stl_symbols.specs.Symbol.{Symbol}
use Rattle.block_layout.specs.Layouts.{block_layout, layouts_of}
use Rattle.block_layout.specs.Measures.{types_of_source}
use Rattle.block_layout.specs.Types.{Types}
use Rattle.block_layout.specs.declared.blocks.BlockLayout.{BlockLayout}
use Rattle.stl_codegen.specs.CompiledBlock.{compiled_block}
use Rattle.stl_codegen.specs.GeneratedProgram.{code_blocks_of, generated_data_block, data_block_of, data_blocks_of, each_block}
use Rattle.stl_codegen.specs.Order.{is_data_before, sorted_list}
use Rattle.stl_list.specs.CodeBlocks.{in_lines, line_reached, listed_block, listed_blocks}
use Rattle.stl_list.specs.DataBlocks.{listed_data}
use Rattle.stl_list.specs.Lines.{line_behind_statements, stands_before}
use Rattle.stl_list.specs.Listing.{listed_tree}
use Rattle.stl_list.specs.Signatures.{Signature}
use Rattle.sem_kept.specs.AcceptedSource.{program_in}
use Rattle.sem_kept.specs.SettledStatements.{context_at}
use Rattle.sem_kept.proofs.accepted.Accepted.{right_tree, sound_code_blocks}
use Rattle.block_layout.proofs.CommonLemmas.{all_there}
use Rattle.listing_laws.specs.ListedSource.{listed_tree_again}
use Rattle.listing_laws.specs.ListedDeclarations.{signatures_in}
use Rattle.listing_laws.specs.Instances.{AreDataBlocksAgain, data_again}
use Rattle.listing_laws.specs.OwnData.{IsOwnDataAgain}
use Rattle.listing_laws.proofs.OrderLemmas.{all_sorted, in_order, order_sorted}
use Rattle.listing_laws.proofs.declared.Blocks.{IsSourced, all_codes, all_compiled, own_kind, sourced}
use Rattle.listing_laws.proofs.declared.OwnData.{laid_in, own_data}
use Rattle.listing_laws.proofs.declared.OwnKept.{layout_there}
use Rattle.listing_laws.proofs.filled.Listed.{IsAgain, all_instances}

-- ---- the data blocks of a source block by block

no_data : (k : BlockKind) → is_code k ≡ true → is_data_block k ≡ false
no_data kinds.Ob e = refl
no_data kinds.Fc e = refl
no_data kinds.Fb e = refl
no_data kinds.Db e = absurd cc
no_data kinds.Udt e = absurd cc
no_data kinds.Sfc e = absurd cc

code_id : (y : Types) (blocks before : List Block) (ss : List Signature) (reached : ℕ) (b : CodeBlock) → (block_layout y blocks before (listed_block ss reached b)).id ≡ Some b.id
unfolding block_layout
code_id y blocks before ss reached b = ap (λ (t : Bool). if t then Some b.id else None) (own_kind b.id.kind)

module _ (others : List Symbol) (t : Tree) where
  abbrev ls : List BlockLayout
  ls = layouts_of t others

  -- blocks and layouts from a place on
  record AreFrom (j : ℕ) (bs : List Block) (ms : List BlockLayout) : Type 0 where
    blocks : (i : ℕ) → slice_get t.blocks (j + i) ≡ slice_get bs i
    layouts : (i : ℕ) → slice_get ls (j + i) ≡ slice_get ms i

  none_more : (j : ℕ) → j + 0 ≡ j
  none_more j = omega arith

  next_from : (j : ℕ) (b : Block) (bs : List Block) (m : BlockLayout) (ms : List BlockLayout) → AreFrom j (b ∷ bs) (m ∷ ms) → AreFrom (suc j) bs ms
  next_from j b bs m ms h = record {
    blocks = λ i. let e : suc j + i ≡ j + suc i = omega arith in ap (slice_get t.blocks) e ∙ h.blocks (suc i);
    layouts = λ i. let e : suc j + i ≡ j + suc i = omega arith in ap (slice_get ls) e ∙ h.layouts (suc i);
  }

  block_here : (j : ℕ) (b : Block) (bs : List Block) (ms : List BlockLayout) → AreFrom j (b ∷ bs) ms → slice_get t.blocks j ≡ Some b
  block_here j b bs ms h = ap (slice_get t.blocks) (sym (none_more j)) ∙ h.blocks 0

  layout_here : (j : ℕ) (bs : List Block) (m : BlockLayout) (ms : List BlockLayout) → AreFrom j bs (m ∷ ms) → slice_get ls j ≡ Some m
  layout_here j bs m ms h = ap (slice_get ls) (sym (none_more j)) ∙ h.layouts 0

  some_layout : (j : ℕ) (b : Block) (bs : List Block) → AreFrom j (b ∷ bs) [] → ⊥
  some_layout j b bs h =
      let laid = layout_there others t j b (block_here j b bs [] h) in
      let none : slice_get ls j ≡ None = ap (slice_get ls) (sym (none_more j)) ∙ h.layouts 0 in
      never laid.layout (sym laid.there ∙ none)
    where
      never : (m : BlockLayout) → Some m ≡ None → ⊥
      never m e = absurd cc

  data_each : (of : DataBlock → Block) (j : ℕ) (ds : List DataBlock) (ms : List BlockLayout)
      → AllByRecursion (λ d. (k : ℕ) (l : BlockLayout) → slice_get t.blocks k ≡ Some (of d) → slice_get ls k ≡ Some l → data_block_of (context_at others t k) l l.id ≡ d ∷ []) ds
      → AreFrom j (map of ds) ms → each_block (λ c b l. data_block_of c l l.id) (context_at others t j) (map of ds) ms ≡ ds
  data_each of j [] ms again h = refl
  data_each of j (d ∷ ds) [] again h = absurd (some_layout j (of d) (map of ds) h)
  data_each of j (d ∷ ds) (m ∷ ms) (one, more) h =
      let here = one j m (block_here j (of d) (map of ds) (m ∷ ms) h) (layout_here j (of d ∷ map of ds) m ms h) in
      let rest = data_each of (suc j) ds ms more (next_from j (of d) (map of ds) m ms h) in
      λ i. here i ++ rest i

  code_each : (ss : List Signature) (rest : List Block) (ds : List DataBlock)
      → ((j : ℕ) (ms : List BlockLayout) → AreFrom j rest ms → each_block (λ c b l. data_block_of c l l.id) (context_at others t j) rest ms ≡ ds)
      → (reached j : ℕ) (cs : List CodeBlock) (ms : List BlockLayout) → AllByRecursion (λ b. is_code b.id.kind ≡ true) cs → AreFrom j (listed_blocks ss reached cs ++ rest) ms
      → each_block (λ c b l. data_block_of c l l.id) (context_at others t j) (listed_blocks ss reached cs ++ rest) ms ≡ ds
  code_each ss rest ds behind reached j [] ms codes h = behind j ms h
  code_each ss rest ds behind reached j (b ∷ cs) [] codes h = absurd (some_layout j (listed_block ss reached b) (listed_blocks ss (line_behind_statements reached b.lines) cs ++ rest) h)
  code_each ss rest ds behind reached j (b ∷ cs) (m ∷ ms) (code, codes) h =
      let c = listed_block ss reached b in
      let others_ = listed_blocks ss (line_behind_statements reached b.lines) cs ++ rest in
      let laid = laid_in others t j c m (block_here j c others_ (m ∷ ms) h) (layout_here j (c ∷ others_) m ms h) in
      let id : m.id ≡ Some b.id = ap (λ (x : BlockLayout). x.id) laid.layout ∙ code_id (types_of_source others t.blocks) t.blocks laid.before ss reached b in
      let here : data_block_of (context_at others t j) m m.id ≡ [] =
      ap (data_block_of (context_at others t j) m) id ∙ ap (λ (w : Bool). if w then generated_data_block (context_at others t j) m b.id ∷ [] else []) (no_data b.id.kind code) in
      let more = code_each ss rest ds behind (line_behind_statements reached b.lines) (suc j) cs ms codes (next_from j c others_ m ms h) in
      ap (λ z. z ++ each_block (λ c b l. data_block_of c l l.id) (context_at others t (suc j)) others_ ms) here ∙ more

  from_start : (bs : List Block) → t.blocks ≡ bs → AreFrom 0 bs ls
  from_start bs e = record {
    blocks = λ i. let none : 0 + i ≡ i = omega arith in (λ n. slice_get (e n) (none n));
    layouts = λ i. let none : 0 + i ≡ i = omega arith in ap (slice_get ls) none;
  }

-- ---- all of a listing

one_way : (a b : DataBlock) → is_data_before a b ≡ true → is_data_before b a ≡ false
one_way a b e = numbers a.number b.number e
  where
    numbers : (m n : ℕ) → nat_lt m n ≡ true → nat_lt n m ≡ false
    numbers m n e = grind (arith, nat_tests)

-- the data blocks of a program stand in order
stay_sorted : (symbols : List Symbol) (t : Tree) → sorted_list is_data_before (data_blocks_of t symbols (layouts_of t symbols)) ≡ data_blocks_of t symbols (layouts_of t symbols)
unfolding data_blocks_of
stay_sorted symbols t =
    let ds = each_block (λ c b l. data_block_of c l l.id) (context_at symbols t 0) t.blocks (layouts_of t symbols) in
    in_order is_data_before (sorted_list is_data_before ds) (order_sorted is_data_before one_way ds)

sorted_codes : (bs : List CodeBlock) → AllByRecursion (λ b. is_code b.id.kind ≡ true) bs → AllByRecursion (λ b. is_code b.id.kind ≡ true) (in_lines bs)
unfolding in_lines
sorted_codes bs h = all_sorted (λ b. is_code b.id.kind ≡ true) stands_before bs h

blocks_back : (others : List Symbol) (t : Tree) (ds : List DataBlock) → each_block (λ c b l. data_block_of c l l.id) (context_at others t 0) t.blocks (layouts_of t others) ≡ ds
    → data_blocks_of t others (layouts_of t others) ≡ sorted_list is_data_before ds
unfolding data_blocks_of
blocks_back others t ds e = ap (sorted_list is_data_before) e

pub data_blocks_again : AreDataBlocksAgain
unfolding listed_tree
data_blocks_again source file symbols t accepted bytes file_bytes others whole =
    blocks_back others again p.data_blocks
    (code_each others again ss (map of p.data_blocks) p.data_blocks (λ j ms h. data_each others again of j p.data_blocks ms every h) 1 0 (in_lines p.code_blocks) ls
    (sorted_codes p.code_blocks codes) (from_start others again (listed_blocks ss 1 (in_lines p.code_blocks) ++ map of p.data_blocks) refl))
    ∙ stay_sorted symbols t
  where
    p : Program
    p = program_in symbols t

    again : Tree
    again = listed_tree_again symbols t

    ss : List Signature
    ss = signatures_in (program_in symbols t)

    ls : List BlockLayout
    ls = layouts_of (listed_tree_again symbols t) others

    line : ℕ
    line = line_reached 1 (in_lines p.code_blocks)

    of : DataBlock → Block
    of d = data_again symbols t line d

    codes : AllByRecursion (λ b. is_code b.id.kind ≡ true) p.code_blocks
    codes =
        let blocks = code_blocks_of t symbols (layouts_of t symbols) in
        all_codes p.code_blocks (all_compiled IsSourced blocks (sound_code_blocks symbols t (λ x. IsSourced (compiled_block x)) (right_tree source file symbols t accepted) (sourced symbols t)))

    Comes : DataBlock → Type 0
    Comes d = (k : ℕ) (l : BlockLayout) → slice_get again.blocks k ≡ Some (data_again symbols t line d) → slice_get ls k ≡ Some l → data_block_of (context_at others again k) l l.id ≡ d ∷ []

    comes : (d : DataBlock) → (d.instance_of ≡ None → IsOwnDataAgain ss d) → ((n : ℕ) → d.instance_of ≡ Some n → IsAgain symbols t others d) → Comes d
    comes d own instance k l there laid = by d.instance_of refl
      where
        by : (o : Option ℕ) → d.instance_of ≡ o → data_block_of (context_at others again k) l l.id ≡ d ∷ []
        by None e =
            (own e).again others again k line l (there ∙ ap (λ o. Some (listed_data ss line d.number d.bytes o)) e) laid
            (all_there (λ (x : BlockLayout). x.broken ≡ false) ls k l whole laid)
        by (Some n) e = (instance n e).again k line l there laid

    all_come : (ds : List DataBlock) → AllByRecursion (λ d. d.instance_of ≡ None → IsOwnDataAgain ss d) ds → AllByRecursion (λ d. (n : ℕ) → d.instance_of ≡ Some n → IsAgain symbols t others d) ds
        → AllByRecursion Comes ds
    all_come [] h k = tt
    all_come (d ∷ ds) (one, more) (two, others_) = (comes d one two, all_come ds more others_)

    every : AllByRecursion Comes p.data_blocks
    every = all_come p.data_blocks (own_data source file symbols t accepted bytes file_bytes) (all_instances source file symbols t accepted bytes file_bytes others whole)
