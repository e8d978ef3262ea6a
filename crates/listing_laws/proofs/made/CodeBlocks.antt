-- The code blocks of a listing come to those of the program, where the statements of each do.
use Rattle.std.proofs.Common.{◌≡◌, ℕ, zero, suc, ◌+◌, ◌-◌, ◌≤◌, Bool, true, false, List, [], ◌∷◌, ◌++◌, length, length-append, map, Option, Some, None, if◌then◌else◌, slice_get, refl, sym, ap, ◌∙◌, arith}
use Rattle.std.specs.Prelude.{nat_lt}
use Rattle.std.specs.List.{AllByRecursion}
use Rattle.std.proofs.lemmas.Bool.{ltb-false, ltb-true}
use Rattle.std.proofs.lemmas.Bool.Decides.{nat_tests}
use Rattle.std.proofs.lemmas.List.{map-append}
use Rattle.plc_base.proofs.ListLemmas.{get_past}
use Rattle.plc_base.specs.Kinds.{is_code, is_function_block, is_same_kind}
use Rattle.plc_base.specs.declared.blocks.BlockId.{BlockId}
use Rattle.plc_base.specs.declared.blocks.BlockKind.{BlockKind}
use Rattle.plc_base.specs.declared.blocks.BlockKind.TheVariants as kinds
use Rattle.flat_code.specs.Instr.{Returns}
use Rattle.flat_code.specs.Programs.{CodeBlock, DataBlock}
use Rattle.flat_code.specs.declared.operations.EndOperation.TheVariants as ends
use Rattle.stl_ast.specs.declared.blocks.Block.{Block}
use Rattle.stl_ast.specs.declared.blocks.Tree.{Tree}
use Rattle.stl_symbols.specs.Symbol.{Symbol}
use Rattle.block_layout.specs.Blocks.{id_of}
use Rattle.block_layout.specs.Cells.{components_of}
use Rattle.block_layout.specs.Layouts.{block_layout, layouts_by, layouts_from, layouts_of}
use Rattle.block_layout.specs.Lengths.{length_of_block, local_len}
use Rattle.block_layout.specs.Measures.{types_of_source}
use Rattle.block_layout.specs.Types.{Types}
use Rattle.block_layout.specs.declared.blocks.BlockLayout.{BlockLayout}
use Rattle.stl_types.specs.Bodies.{first_context}
use Rattle.stl_types.specs.Context.{Context}
use Rattle.stl_codegen.specs.CompiledBlock.{SourceInstruction, StatedBlock, compiled_block, lines_in}
use Rattle.stl_codegen.specs.GeneratedProgram.{code_block, code_block_of, code_blocks_of, each_block, instance_len, params_of, return_statement, instructions_from, statements_of}
use Rattle.stl_codegen.specs.Order.{is_block_before, is_code_before, is_id_before, sorted_list}
use Rattle.stl_codegen.proofs.ProgramLemmas.{blocks_sorted}
use Rattle.stl_list.specs.CodeBlocks.{in_lines, line_reached, listed_block, listed_blocks}
use Rattle.stl_list.specs.DataBlocks.{listed_data, listed_data_blocks}
use Rattle.stl_list.specs.Lines.{line_of_statement, stands_before}
use Rattle.stl_list.specs.Signatures.{Signature}
use Rattle.stl_list.specs.Statements.{body_of, listing_context}
use Rattle.sem_kept.specs.AcceptedSource.{program_in}
use Rattle.sem_kept.proofs.accepted.Accepted.{IsSoundTree, right_tree, sound_at}
use Rattle.block_layout.proofs.CommonLemmas.{all_there, origin}
use Rattle.block_layout.proofs.LayoutLemmas.{measured_symbols}
use Rattle.sem_kept.proofs.accepted.RecordBlocks.{code_blocks_rise}
use Rattle.sem_kept.proofs.accepted.RecordData.{id_there}
use Rattle.sem_kept.proofs.accepted.RecordOrder.{Rise, RiseFrom}
use Rattle.block_layout.proofs.BlockLemmas.{kind_there}
use Rattle.listing_laws.specs.ListedSource.{IsCodeAt, IsMadeOf, again_at, listed_tree_again, source_context_at}
use Rattle.listing_laws.specs.AgainBodies.{AreCodeBlocksKept, IsBodyKept, made_block}
use Rattle.listing_laws.specs.ListedDeclarations.{IsDeclaredAgain, signatures_in}
use Rattle.listing_laws.specs.Ids.{data_id_of_number}
use Rattle.listing_laws.specs.Lines.{StandsBehind}
use Rattle.listing_laws.specs.ListedBodies.{AreKeptFrom}
use Rattle.listing_laws.specs.Statements.{statement_offset}
use Rattle.listing_laws.proofs.LineLemmas.{last_of, map_last}
use Rattle.listing_laws.proofs.OrderLemmas.{all_sorted}
use Rattle.listing_laws.proofs.declared.Blocks.{are_declared_again}
use Rattle.listing_laws.proofs.made.Origins.{at_back, blocks_count, lines_count, made_of_source, tree_blocks}
use Rattle.listing_laws.proofs.made.Sorting.{IsOrder, back_in_order}
use Rattle.listing_laws.proofs.ruled.Bodies.{bodies_kept}

-- ---- the layout of a block

-- a layout is that of the block at its place
record IsLayoutOf (y : Types) (blocks : List Block) (b : Block) (l : BlockLayout) : Type 0 where
  before : List Block
  is : l ≡ block_layout y blocks before b

laid_of : (y : Types) (blocks before bs : List Block) (k : ℕ) (b : Block) (l : BlockLayout) → slice_get bs k ≡ Some b → slice_get (layouts_from y blocks before bs) k ≡ Some l → IsLayoutOf y blocks b l
laid_of y blocks before [] k b l e f = absurd cc
laid_of y blocks before (x ∷ bs) zero b l e f =
    let same : x ≡ b = cc in
    let laid : block_layout y blocks before x ≡ l = cc in
    record { before = before; is = sym laid ∙ ap (block_layout y blocks before) same }
laid_of y blocks before (x ∷ bs) (suc k) b l e f = laid_of y blocks (x ∷ before) bs k b l e f

layout_of_block : (symbols : List Symbol) (t : Tree) (k : ℕ) (b : Block) (l : BlockLayout) → slice_get t.blocks k ≡ Some b → slice_get (layouts_of t symbols) k ≡ Some l → IsLayoutOf (types_of_source symbols t.blocks) t.blocks b l
unfolding layouts_of layouts_by
layout_of_block symbols t k b l e f = laid_of (types_of_source symbols t.blocks) t.blocks [] t.blocks k b l e f

laid_count : (y : Types) (blocks before bs : List Block) → length (layouts_from y blocks before bs) ≡ length bs
laid_count y blocks before [] = refl
laid_count y blocks before (b ∷ bs) = ap (λ n. suc n) (laid_count y blocks (b ∷ before) bs)

layouts_count : (symbols : List Symbol) (t : Tree) → length (layouts_of t symbols) ≡ length t.blocks
unfolding layouts_of layouts_by
layouts_count symbols t = laid_count (types_of_source symbols t.blocks) t.blocks [] t.blocks

layout_id : (symbols : List Symbol) (t : Tree) (b : Block) (l : BlockLayout) → IsLayoutOf (types_of_source symbols t.blocks) t.blocks b l → l.id ≡ id_of symbols b
unfolding block_layout
layout_id symbols t b l laid = ap (λ (x : BlockLayout). x.id) laid.is ∙ ap (λ (z : List Symbol). id_of z b) (measured_symbols symbols t.blocks)

laid_local : (y : Types) (blocks : List Block) (b : Block) (l : BlockLayout) → IsLayoutOf y blocks b l → l.local_len ≡ local_len y b
unfolding block_layout
laid_local y blocks b l laid = ap (λ (x : BlockLayout). x.local_len) laid.is

laid_length : (y : Types) (blocks : List Block) (b : Block) (l : BlockLayout) → IsLayoutOf y blocks b l → l.length ≡ length_of_block y blocks b
unfolding block_layout
laid_length y blocks b l laid = ap (λ (x : BlockLayout). x.length) laid.is

laid_components : (y : Types) (blocks : List Block) (b : Block) (l : BlockLayout) → IsLayoutOf y blocks b l → l.components ≡ components_of y b
unfolding block_layout
laid_components y blocks b l laid = ap (λ (x : BlockLayout). x.components) laid.is

-- ---- the same code block again

own_kind : (k : BlockKind) → is_same_kind k k ≡ true
own_kind kinds.Ob = refl
own_kind kinds.Fc = refl
own_kind kinds.Fb = refl
own_kind kinds.Db = refl
own_kind kinds.Udt = refl
own_kind kinds.Sfc = refl

-- the statements and the END clause
ends_on : (c : Context) (b : Block) → line_of_statement (lines_in (statements_of c b)) (length (lines_in (statements_of c b)) - 1) ≡ b.end_line
unfolding statements_of
ends_on c b =
    ap (λ (lines : List ℕ). line_of_statement lines (length lines - 1)) (map_last (instructions_from c b.body 0 b.body) (return_statement b))
    ∙ last_of (map (λ s. s.line) (instructions_from c b.body 0 b.body)) b.end_line

statements_are : (c : Context) (b : Block) → statements_of c b ≡ instructions_from c b.body 0 b.body ++ return_statement b ∷ []
unfolding statements_of
statements_are c b = refl

abbrev returning_by : ℕ → SourceInstruction
returning_by line = record { instr = Returns ends.Be; line = line }

statements_again : (c listed : Context) (ss : List Signature) (b : Block) (l : BlockLayout) (id : BlockId) (reached : ℕ) → StandsBehind reached (compiled_block (code_block c b l id))
    → AreKeptFrom listed (body_of ss (lines_in (statements_of c b)) (compiled_block (code_block c b l id))) (listing_context ss (lines_in (statements_of c b)) (compiled_block (code_block c b l id)))
    (statement_offset (statements_of c b)) 0 (instructions_from c b.body 0 b.body)
    → statements_of listed (listed_block ss reached (compiled_block (code_block c b l id))) ≡ statements_of c b
statements_again c listed ss b l id reached stands kept =
    let x = code_block c b l id in
    let again = listed_block ss reached (compiled_block x) in
    let own : List SourceInstruction = instructions_from c b.body 0 b.body in
    statements_are listed again
    ∙ ap (λ (lines : List ℕ). instructions_from listed (body_of ss lines (compiled_block x)) 0 (body_of ss lines (compiled_block x)) ++ return_statement again ∷ []) stands.lines
    ∙ ap (λ (z : List SourceInstruction). z ++ return_statement again ∷ []) (bodies_kept listed ss x own (return_statement b) (statements_are c b) kept)
    ∙ ap (λ (line : ℕ). own ++ returning_by line ∷ []) (stands.end ∙ ends_on c b)
    ∙ sym (statements_are c b)

-- an instance has its length again; no other block has one
instance_again : (ss : List Signature) (y : Types) (blocks : List Block) (reached : ℕ) (x : CodeBlock) (b : Block) (l m : BlockLayout) → IsDeclaredAgain ss x → x.instance_len ≡ instance_len b l → b.kind ≡ x.id.kind
    → m.length ≡ length_of_block y blocks (listed_block ss reached x) → instance_len (listed_block ss reached x) m ≡ instance_len b l
instance_again ss y blocks reached x b l m declared own kind long = by (is_function_block x.id.kind) refl
  where
    by : (f : Bool) → is_function_block x.id.kind ≡ f → (if f then m.length else 0) ≡ instance_len b l
    by true fb = long ∙ declared.instance_len y blocks reached fb ∙ own
    by false fb = sym (ap (λ (f : Bool). if f then l.length else 0) (ap is_function_block kind ∙ fb))

-- a block of the listing comes to the code block that it was made of
block_again : (c listed : Context) (ss : List Signature) (y : Types) (blocks : List Block) (b : Block) (l n : BlockLayout) (id : BlockId) (reached : ℕ) → b.kind ≡ id.kind
    → IsDeclaredAgain ss (compiled_block (code_block c b l id)) → StandsBehind reached (compiled_block (code_block c b l id))
    → AreKeptFrom listed (body_of ss (lines_in (statements_of c b)) (compiled_block (code_block c b l id))) (listing_context ss (lines_in (statements_of c b)) (compiled_block (code_block c b l id)))
    (statement_offset (statements_of c b)) 0 (instructions_from c b.body 0 b.body)
    → IsLayoutOf y blocks (listed_block ss reached (compiled_block (code_block c b l id))) n
    → code_block listed (listed_block ss reached (compiled_block (code_block c b l id))) n id ≡ code_block c b l id
block_again c listed ss y blocks b l n id reached kind declared stands kept laid = λ i. record {
  id = id;
  local_len = local_same i;
  instance_len = instance_same i;
  params = params_same i;
  statements = statements_again c listed ss b l id reached stands kept i;
}
  where
    x : CodeBlock
    x = compiled_block (code_block c b l id)

    local_same : n.local_len ≡ l.local_len
    local_same = laid_local y blocks (listed_block ss reached x) n laid ∙ declared.local_len y reached

    instance_same : instance_len (listed_block ss reached x) n ≡ instance_len b l
    instance_same = instance_again ss y blocks reached x b l n declared refl kind (laid_length y blocks (listed_block ss reached x) n laid)

    params_same : params_of (listed_block ss reached x) n ≡ params_of b l
    params_same = declared.params y reached n (laid_components y blocks (listed_block ss reached x) n laid)

-- ---- block by block

abbrev one_of : Option CodeBlock → List CodeBlock
one_of None = []
one_of (Some x) = x ∷ []

-- the code blocks of a source, where those of each of its blocks are the one at its place, or none
each_comes : (c : Context) (bs : List Block) (ls : List BlockLayout) (xs : List CodeBlock) (k : ℕ) → length ls ≡ length bs → length xs ≤ length bs
    → ((i n : ℕ) (b : Block) (l : BlockLayout) → n ≡ k + i → slice_get bs i ≡ Some b → slice_get ls i ≡ Some l
    → map compiled_block (code_block_of (record c { block = n }) b l l.id) ≡ one_of (slice_get xs i))
    → map compiled_block (each_block (λ c b l. code_block_of c b l l.id) (record c { block = k }) bs ls) ≡ xs
each_comes c [] ls [] k same few h = refl
each_comes c [] ls (x ∷ xs) k same few h = absurd (omega (arith, few))
each_comes c (b ∷ bs) [] xs k same few h = absurd (omega (arith, same))
each_comes c (b ∷ bs) (l ∷ ls) [] k same few h =
    map-append compiled_block (code_block_of (record c { block = k }) b l l.id) (each_block (λ c b l. code_block_of c b l l.id) (record c { block = suc k }) bs ls)
    ∙ ap (λ (z : List CodeBlock). z ++ map compiled_block (each_block (λ c b l. code_block_of c b l l.id) (record c { block = suc k }) bs ls)) (h 0 k b l (omega arith) refl refl)
    ∙ each_comes c bs ls [] (suc k) (omega (arith, same)) (omega arith) (λ i n d m e. h (suc i) n d m (omega (arith, e)))
each_comes c (b ∷ bs) (l ∷ ls) (x ∷ xs) k same few h =
    map-append compiled_block (code_block_of (record c { block = k }) b l l.id) (each_block (λ c b l. code_block_of c b l l.id) (record c { block = suc k }) bs ls)
    ∙ ap (λ (z : List CodeBlock). z ++ map compiled_block (each_block (λ c b l. code_block_of c b l l.id) (record c { block = suc k }) bs ls)) (h 0 k b l (omega arith) refl refl)
    ∙ ap (λ (z : List CodeBlock). x ∷ z) (each_comes c bs ls xs (suc k) (omega (arith, same)) (omega (arith, few)) (λ i n d m e. h (suc i) n d m (omega (arith, e))))

-- ---- of a listing

code_here : (c : Context) (b : Block) (l : BlockLayout) (id : BlockId) → l.id ≡ Some id → is_code id.kind ≡ true → code_block_of c b l l.id ≡ code_block c b l id ∷ []
code_here c b l id e code = ap (code_block_of c b l) e ∙ ap (λ (t : Bool). if t then code_block c b l id ∷ [] else []) code

own_id : (symbols : List Symbol) (ss : List Signature) (reached : ℕ) (x : CodeBlock) → id_of symbols (listed_block ss reached x) ≡ Some x.id
own_id symbols ss reached x = ap (λ (t : Bool). if t then Some x.id else None) (own_kind x.id.kind)

data_id_of : (symbols : List Symbol) (ss : List Signature) (line number : ℕ) (bytes : List ℕ) (of : Option ℕ) → id_of symbols (listed_data ss line number bytes of) ≡ Some (data_id_of_number number)
data_id_of symbols ss line number bytes None = refl
data_id_of symbols ss line number bytes (Some of) = refl

source_kind : (symbols : List Symbol) (t : Tree) (place : ℕ) (b : Block) (l : BlockLayout) (id : BlockId) → IsSoundTree symbols t → IsCodeAt symbols t place b l id → b.kind ≡ id.kind
source_kind symbols t place b l id tree at =
    let sound = sound_at symbols t tree place b l at.block at.layout in
    kind_there (types_of_source symbols t.blocks).symbols b id (sym (id_there symbols t place b l sound) ∙ at.known)

-- a code block of it
made_again : (symbols : List Symbol) (t : Tree) (others : List Symbol) (i : ℕ) (d : Block) (n : BlockLayout) (place : ℕ) (b : Block) (l : BlockLayout) (id : BlockId) → IsSoundTree symbols t
    → IsMadeOf symbols t i place b l id → AllByRecursion (IsDeclaredAgain (signatures_in (program_in symbols t))) (in_lines (program_in symbols t).code_blocks) → IsBodyKept symbols t others i place b l id
    → slice_get (listed_tree_again symbols t).blocks i ≡ Some d → slice_get (layouts_of (listed_tree_again symbols t) others) i ≡ Some n
    → map compiled_block (code_block_of (again_at symbols t others i) d n n.id) ≡ one_of (slice_get (in_lines (program_in symbols t).code_blocks) i)
made_again symbols t others i d n place b l id tree m all kept there laid =
    let ss = signatures_in (program_in symbols t) in
    let x : CodeBlock = compiled_block (made_block symbols t place b l id) in
    let again : Block = listed_block ss m.reached x in
    let from = layout_of_block others (listed_tree_again symbols t) i again n m.listed laid in
    let known : n.id ≡ Some id = layout_id others (listed_tree_again symbols t) again n from ∙ own_id others ss m.reached x in
    let declared = all_there (IsDeclaredAgain ss) (in_lines (program_in symbols t).code_blocks) i x all m.ordered in
    let same : d ≡ again = some_same d again (sym there ∙ m.listed) in
    ap (λ (z : Block). map compiled_block (code_block_of (again_at symbols t others i) z n n.id)) same
    ∙ ap (map compiled_block) (code_here (again_at symbols t others i) again n id known m.source.code)
    ∙ ap (λ (z : StatedBlock). compiled_block z ∷ [])
    (block_again (source_context_at symbols t place) (again_at symbols t others i) ss (types_of_source others (listed_tree_again symbols t).blocks) (listed_tree_again symbols t).blocks b l n id m.reached
    (source_kind symbols t place b l id tree m.source) declared m.stands kept from)
    ∙ ap one_of (sym m.ordered)
  where
    some_same : (u v : Block) → Some u ≡ Some v → u ≡ v
    some_same u v e = cc

-- the others are data blocks
none_again : (symbols : List Symbol) (t : Tree) (others : List Symbol) (i : ℕ) (d : Block) (n : BlockLayout) → length (in_lines (program_in symbols t).code_blocks) ≤ i
    → slice_get (listed_tree_again symbols t).blocks i ≡ Some d → slice_get (layouts_of (listed_tree_again symbols t) others) i ≡ Some n
    → map compiled_block (code_block_of (again_at symbols t others i) d n n.id) ≡ one_of (slice_get (in_lines (program_in symbols t).code_blocks) i)
none_again symbols t others i d n high there laid =
    let p = program_in symbols t in
    let ss = signatures_in p in
    let line = line_reached 1 (in_lines p.code_blocks) in
    let code : List Block = listed_blocks ss 1 (in_lines p.code_blocks) in
    let many = blocks_count ss 1 (in_lines p.code_blocks) in
    let j : ℕ = i - length code in
    let behind : slice_get (listed_data_blocks ss line p.data_blocks) j ≡ Some d =
    sym (at_back code (listed_data_blocks ss line p.data_blocks) i j (omega (arith, many, high))) ∙ ap (λ (z : List Block). slice_get z i) (sym (tree_blocks p)) ∙ there in
    let from = origin (λ (x : DataBlock). listed_data ss line x.number x.bytes x.instance_of) p.data_blocks j d behind in
    let known : n.id ≡ Some (data_id_of_number from.of.number) =
    layout_id others (listed_tree_again symbols t) d n (layout_of_block others (listed_tree_again symbols t) i d n there laid)
    ∙ ap (id_of others) (sym from.image) ∙ data_id_of others ss line from.of.number from.of.bytes from.of.instance_of in
    ap (λ (o : Option BlockId). map compiled_block (code_block_of (again_at symbols t others i) d n o)) known
    ∙ ap one_of (sym (get_past (in_lines p.code_blocks) i high))

-- ---- in order again

order_of_blocks : IsOrder is_block_before
order_of_blocks = record {
  one_way = λ a b h. ids_one_way a.id b.id h;
  chain = λ a b c h k. ids_chain a.id b.id c.id h k;
}
  where
    ids_one_way : (a b : BlockId) → is_id_before a b ≡ true → is_id_before b a ≡ false
    ids_one_way a b h = grind (arith, nat_tests)

    ids_chain : (a b c : BlockId) → is_id_before a b ≡ true → is_id_before b c ≡ true → is_id_before a c ≡ true
    ids_chain a b c h k = grind (arith, nat_tests)

behind_rise : (x : StatedBlock) (xs : List StatedBlock) → RiseFrom is_code_before x xs → RiseFrom is_block_before (compiled_block x) (map compiled_block xs)
behind_rise x [] rise = tt
behind_rise x (y ∷ ys) rise = (rise.0, behind_rise y ys rise.1)

rise_compiled : (xs : List StatedBlock) → Rise is_code_before xs → Rise is_block_before (map compiled_block xs)
rise_compiled [] rise = tt
rise_compiled (x ∷ xs) rise = behind_rise x xs rise

sorted_back : (blocks : List CodeBlock) → Rise is_block_before blocks → sorted_list is_block_before (in_lines blocks) ≡ blocks
unfolding in_lines
sorted_back blocks rise = back_in_order is_block_before stands_before order_of_blocks blocks rise

all_in_lines : (P : CodeBlock → Type 0) (blocks : List CodeBlock) → AllByRecursion P blocks → AllByRecursion P (in_lines blocks)
unfolding in_lines
all_in_lines P blocks h = all_sorted P stands_before blocks h

pub code_blocks_kept : AreCodeBlocksKept
code_blocks_kept source file symbols t accepted bytes file_bytes others kept =
    blocks_sorted again others ls
    ∙ ap (sorted_list is_block_before) (each_comes (first_context others ls again.blocks) again.blocks ls codes 0 (layouts_count others again) few each)
    ∙ sorted_back (program_in symbols t).code_blocks (rise_compiled (code_blocks_of t symbols (layouts_of t symbols)) (code_blocks_rise symbols t tree))
  where
    again : Tree
    again = listed_tree_again symbols t

    ls : List BlockLayout
    ls = layouts_of again others

    codes : List CodeBlock
    codes = in_lines (program_in symbols t).code_blocks

    tree : IsSoundTree symbols t
    tree = right_tree source file symbols t accepted

    declared : AllByRecursion (IsDeclaredAgain (signatures_in (program_in symbols t))) codes
    declared = all_in_lines (IsDeclaredAgain (signatures_in (program_in symbols t))) (program_in symbols t).code_blocks (are_declared_again source file symbols t accepted bytes file_bytes)

    few : length codes ≤ length again.blocks
    few =
        let p = program_in symbols t in
        let ss = signatures_in p in
        let count = ap length (tree_blocks p) in
        let many = blocks_count ss 1 (in_lines p.code_blocks) in
        let parts = length-append (listed_blocks ss 1 (in_lines p.code_blocks)) (listed_data_blocks ss (line_reached 1 (in_lines p.code_blocks)) p.data_blocks) in
        omega (arith, count, many, parts)

    each : (i n : ℕ) (b : Block) (l : BlockLayout) → n ≡ 0 + i → slice_get again.blocks i ≡ Some b → slice_get ls i ≡ Some l
        → map compiled_block (code_block_of (again_at symbols t others n) b l l.id) ≡ one_of (slice_get codes i)
    each i n b l e there laid = ap (λ (k : ℕ). map compiled_block (code_block_of (again_at symbols t others k) b l l.id)) same ∙ by (nat_lt i (length codes)) refl
      where
        same : n ≡ i
        same = omega (arith, e)

        by : (within : Bool) → nat_lt i (length codes) ≡ within → map compiled_block (code_block_of (again_at symbols t others i) b l l.id) ≡ one_of (slice_get codes i)
        by true low =
            let count = lines_count (program_in symbols t).code_blocks in
            let from = made_of_source source file symbols t accepted bytes file_bytes i (omega (arith, count, ltb-true i (length codes) low)) in
            made_again symbols t others i b l from.0 from.1 from.2 from.3 tree from.4 declared (kept i from.0 from.1 from.2 from.3 from.4) there laid
        by false high = none_again symbols t others i b l (ltb-false i (length codes) high) there laid
