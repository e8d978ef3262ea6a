-- The data blocks of an accepted source: each is within its length, and each instance as long as the
-- structure of its function block.
use Rattle.std.proofs.Common.{◌≡◌, ℕ, zero, suc, ◌+◌, ◌≤◌, ◌/◌, Bool, true, false, List, [], ◌∷◌, ◌++◌, length, replicate, map, Option, Some, None, refl, sym, ap, subst, ◌∙◌, arith}
use Rattle.std.specs.Prelude.{if◌then◌else◌, slice_get}
use Rattle.std.specs.List.{AllByRecursion}
use Rattle.std.specs.Option.{option_and_then}
use Rattle.std.proofs.lemmas.Bool.{ltb-false}
use Rattle.std.proofs.lemmas.List.{length-replicate}
use Rattle.plc_base.proofs.ListLemmas.{all_back, all_front}
use Rattle.plc_base.specs.Kinds.{is_code, is_data_block, is_function_block}
use Rattle.plc_base.specs.declared.blocks.BlockId.{BlockId}
use Rattle.plc_base.specs.declared.blocks.BlockKind.{BlockKind}
use Rattle.plc_base.specs.declared.blocks.BlockKind.TheVariants as kinds
use Rattle.flat_code.specs.Programs.{CodeBlock, DataBlock}
use Rattle.stl_ast.specs.WellFormed.{IsShapeOf}
use Rattle.stl_ast.specs.declared.blocks.Block.{Block}
use Rattle.stl_ast.specs.declared.blocks.Tree.{Tree}
use Rattle.stl_symbols.specs.Symbol.{Symbol}
use Rattle.block_layout.specs.Cells.{components_of}
use Rattle.block_layout.specs.InitialBytes.{initial_bytes, length_at, setting_writes, settings_at, structure_writes}
use Rattle.block_layout.specs.Layouts.{block_layout, layouts_by, layouts_from, layouts_of}
use Rattle.block_layout.specs.Lengths.{block_bits, is_structured, length_of_block, shape_bits, shape_of}
use Rattle.block_layout.specs.Measures.{types_of_source}
use Rattle.block_layout.specs.Paths.{structure_of}
use Rattle.block_layout.specs.Sizes.{structure_bits}
use Rattle.block_layout.specs.Types.{Types}
use Rattle.block_layout.specs.declared.blocks.BlockLayout.{BlockLayout}
use Rattle.block_layout.specs.declared.blocks.Shape.{Shape}
use Rattle.block_layout.specs.declared.blocks.Shape.TheVariants as shape
use Rattle.stl_codegen.specs.CompiledBlock.{StatedBlock, compiled_block}
use Rattle.stl_codegen.specs.GeneratedProgram.{code_block, code_block_of, code_blocks_of, generated_data_block, each_block, function_block_number, instance_in, instance_len}
use Rattle.stl_codegen.specs.Order.{is_code_before}
use Rattle.stl_codegen.proofs.ProgramLemmas.{all_before}
use Rattle.stl_list.specs.CodeBlocks.{in_lines}
use Rattle.stl_list.specs.DataBlocks.{function_block}
use Rattle.stl_list.specs.Lines.{stands_before}
use Rattle.sem_kept.specs.AcceptedSource.{program_in}
use Rattle.sem_kept.specs.SettledStatements.{context_at}
use Rattle.sem_kept.proofs.accepted.Accepted.{IsSoundBlock, IsSoundTree, sound_at, sound_data_blocks}
use Rattle.sem_kept.proofs.accepted.RecordData.{id_there, length_there}
use Rattle.block_layout.proofs.BlockLemmas.{kind_there}
use Rattle.block_layout.proofs.FillLemmas.{written_length}

-- ---- what stands in a list

pub record IsThere {A : Type 0} (x : A) (xs : List A) : Type 0 where
  pub place : ℕ
  pub there : slice_get xs place ≡ Some x

further_there : {A : Type 0} (x : A) (xs ys : List A) → AllByRecursion (λ y. IsThere y xs) ys → AllByRecursion (λ y. IsThere y (x ∷ xs)) ys
further_there x xs [] h = tt
further_there x xs (y ∷ ys) h = (record { place = suc h.0.place; there = h.0.there }, further_there x xs ys h.1)

all_there : {A : Type 0} (xs : List A) → AllByRecursion (λ x. IsThere x xs) xs
all_there [] = tt
all_there (x ∷ xs) = (record { place = 0; there = refl }, further_there x xs xs (all_there xs))

-- ---- the code block of a block of the source

all_behind : {A B : Type 0} (P : B → Type 0) (f : A → B) (xs : List A) → AllByRecursion P (map f xs) → AllByRecursion (λ x. P (f x)) xs
all_behind P f [] h = tt
all_behind P f (x ∷ xs) h = (h.0, all_behind P f xs h.1)

-- what holds of all code blocks of a source holds of that of each of its blocks
each_has : (P : StatedBlock → Type 0) (symbols : List Symbol) (t : Tree) (c : StatedBlock) (k j i : ℕ) (bs : List Block) (ls : List BlockLayout) (b : Block) (l : BlockLayout)
    → j + i ≡ k → slice_get bs i ≡ Some b → slice_get ls i ≡ Some l → code_block_of (context_at symbols t k) b l l.id ≡ c ∷ []
    → AllByRecursion P (each_block (λ c b l. code_block_of c b l l.id) (context_at symbols t j) bs ls) → P c
each_has P symbols t c k j i [] ls b l e block layout is h = absurd cc
each_has P symbols t c k j i (x ∷ xs) [] b l e block layout is h = absurd cc
each_has P symbols t c k j zero (x ∷ xs) (m ∷ ms) b l e block layout is h =
    let one : x ≡ b = cc in
    let laid : m ≡ l = cc in
    let same : j ≡ k = omega (arith, e) in
    let here : code_block_of (context_at symbols t j) x m m.id ≡ c ∷ [] = (λ n. code_block_of (context_at symbols t (same n)) (one n) (laid n) (laid n).id) ∙ is in
    let first = all_front P (code_block_of (context_at symbols t j) x m m.id) (each_block (λ c b l. code_block_of c b l l.id) (context_at symbols t (suc j)) xs ms) h in
    (subst (AllByRecursion P) here first).0
each_has P symbols t c k j (suc i) (x ∷ xs) (m ∷ ms) b l e block layout is h =
    each_has P symbols t c k (suc j) i xs ms b l (omega (arith, e)) block layout is
    (all_back P (code_block_of (context_at symbols t j) x m m.id) (each_block (λ c b l. code_block_of c b l l.id) (context_at symbols t (suc j)) xs ms) h)

-- it stands among those of the program, by their lines
code_there : (symbols : List Symbol) (t : Tree) (c : StatedBlock) (k : ℕ) (b : Block) (l : BlockLayout) → slice_get t.blocks k ≡ Some b → slice_get (layouts_of t symbols) k ≡ Some l
    → code_block_of (context_at symbols t k) b l l.id ≡ c ∷ [] → IsThere (compiled_block c) (in_lines (program_in symbols t).code_blocks)
unfolding code_blocks_of in_lines
code_there symbols t c k b l block layout is =
    let each = each_block (λ c b l. code_block_of c b l l.id) (context_at symbols t 0) t.blocks (layouts_of t symbols) in
    let blocks = map compiled_block (code_blocks_of t symbols (layouts_of t symbols)) in
    let P : CodeBlock → Type 0 = λ x. IsThere x (in_lines blocks) in
    let in_program = all_before P stands_before blocks (all_there (in_lines blocks)) in
    let in_source = all_before (λ x. P (compiled_block x)) is_code_before each (all_behind P compiled_block (code_blocks_of t symbols (layouts_of t symbols)) in_program) in
    each_has (λ x. P (compiled_block x)) symbols t c k 0 k t.blocks (layouts_of t symbols) b l (omega arith) block layout is in_source

-- ---- the block at the place of a layout

record HasBlock (bs : List Block) (k : ℕ) : Type 0 where
  block : Block
  there : slice_get bs k ≡ Some block

laid_block : (y : Types) (blocks before bs : List Block) (k : ℕ) (l : BlockLayout) → slice_get (layouts_from y blocks before bs) k ≡ Some l → HasBlock bs k
laid_block y blocks before [] k l e = absurd cc
laid_block y blocks before (b ∷ bs) zero l e = record { block = b; there = refl }
laid_block y blocks before (b ∷ bs) (suc k) l e = let more = laid_block y blocks (b ∷ before) bs k l e in record { block = more.block; there = more.there }

block_there : (symbols : List Symbol) (t : Tree) (k : ℕ) (l : BlockLayout) → slice_get (layouts_of t symbols) k ≡ Some l → HasBlock t.blocks k
unfolding layouts_of layouts_by
block_there symbols t k l e = laid_block (types_of_source symbols t.blocks) t.blocks [] t.blocks k l e

-- ---- the length of an instance

-- a function block of the program, with instances of so many bytes
pub record HasFunctionBlock (blocks : List CodeBlock) (number bytes : ℕ) : Type 0 where
  pub place : ℕ
  pub block : CodeBlock
  pub there : slice_get blocks place ≡ Some block
  pub id : block.id ≡ function_block number
  pub size : block.instance_len ≡ bytes

pub record IsStored (blocks : List CodeBlock) (d : DataBlock) : Type 0 where
  pub short : length d.bytes ≤ 16384
  pub instance : (number : ℕ) → d.instance_of ≡ Some number → HasFunctionBlock blocks number (length d.bytes)

initial_long : (l : List BlockLayout) (blocks : List Block) (k : ℕ) → length (initial_bytes l blocks k) ≡ length_at (slice_get l k)
unfolding initial_bytes
initial_long l blocks k =
    written_length (replicate (length_at (slice_get l k)) 0) (structure_writes l (structure_of l k) ++ setting_writes l k (settings_at (slice_get blocks k)))
    ∙ length-replicate (length_at (slice_get l k)) 0

pub bytes_long : (symbols : List Symbol) (t : Tree) (k : ℕ) (b : Block) (l : BlockLayout) (id : BlockId) → IsSoundBlock symbols t k b l
    → length (generated_data_block (context_at symbols t k) l id).bytes ≡ length_of_block (types_of_source symbols t.blocks) t.blocks b
bytes_long symbols t k b l id h = initial_long (layouts_of t symbols) t.blocks k ∙ ap length_at h.layout_there ∙ length_there symbols t k b l h

shape_there : (symbols : List Symbol) (t : Tree) (k : ℕ) (b : Block) (l : BlockLayout) → IsSoundBlock symbols t k b l → l.shape ≡ shape_of (types_of_source symbols t.blocks) b
unfolding block_layout
shape_there symbols t k b l h = ap (λ (x : BlockLayout). x.shape) h.layout

data_kind : (k : BlockKind) → is_data_block k ≡ true → k ≡ kinds.Db
data_kind kinds.Db e = refl
data_kind _ e = absurd cc

function_kind : (k : BlockKind) → is_function_block k ≡ true → k ≡ kinds.Fb
function_kind kinds.Fb e = refl
function_kind _ e = absurd cc

pub data_long : (y : Types) (blocks : List Block) (b : Block) (s : Shape) → b.kind ≡ kinds.Db → shape_of y b ≡ s → length_of_block y blocks b ≡ shape_bits y blocks b s / 8
unfolding length_of_block
data_long y blocks b s kind is =
    ap (λ (k : BlockKind). if is_structured k then shape_bits y blocks b (shape_of y b) / 8 else 0) kind ∙ ap (λ z. shape_bits y blocks b z / 8) is

pub structure_long : (y : Types) (blocks : List Block) (b : Block) → b.kind ≡ kinds.Fb → b.shape ≡ None → b.instance_of ≡ None → length_of_block y blocks b ≡ structure_bits (components_of y b) / 8
unfolding length_of_block
structure_long y blocks b kind shape instance = rw kind (rw shape (rw instance refl))

no_shape : (b : Block) → b.kind ≡ kinds.Fb → IsShapeOf b.kind b.shape b.instance_of b.components → (b.shape ≡ None) × (b.instance_of ≡ None)
no_shape b kind h = let own = subst (λ (k : BlockKind). IsShapeOf k b.shape b.instance_of b.components) kind h in (own.0, own.1)

same_id : (id : BlockId) (number : ℕ) → is_function_block id.kind ≡ true → id.number ≡ number → id ≡ function_block number
same_id id number fb e = let kind = function_kind id.kind fb in λ i. record { kind = kind i; number = e i }

is_code_of : (k : BlockKind) → is_function_block k ≡ true → is_code k ≡ true
is_code_of kinds.Fb e = refl
is_code_of _ e = absurd cc

-- the function block of an instance, by its place in the source
from_block : (symbols : List Symbol) (t : Tree) (size place : ℕ) (b : Block) (l : BlockLayout) (id : BlockId) (number : ℕ) → IsSoundBlock symbols t place b l → l.id ≡ Some id
    → is_function_block id.kind ≡ true → id.number ≡ number → block_bits (types_of_source symbols t.blocks) (slice_get t.blocks place) / 8 ≡ size
    → HasFunctionBlock (in_lines (program_in symbols t).code_blocks) number size
from_block symbols t size place b l id number h named fb e long =
    let y = types_of_source symbols t.blocks in
    let c = code_block (context_at symbols t place) b l id in
    let kind : b.kind ≡ id.kind = kind_there y.symbols b id (sym (id_there symbols t place b l h) ∙ named) in
    let own : b.kind ≡ kinds.Fb = kind ∙ function_kind id.kind fb in
    let none = no_shape b own h.well_formed.shaped in
    let is : code_block_of (context_at symbols t place) b l l.id ≡ c ∷ [] =
    ap (code_block_of (context_at symbols t place) b l) named ∙ ap (λ (s : Bool). if s then c ∷ [] else []) (is_code_of id.kind fb) in
    let there = code_there symbols t c place b l h.block_there h.layout_there is in
    let has_length : instance_len b l ≡ l.length = ap (λ (s : Bool). if s then l.length else 0) (ap is_function_block kind ∙ fb) in
    record {
      place = there.place;
      block = compiled_block c;
      there = there.there;
      id = same_id id number fb e;
      size = has_length ∙ length_there symbols t place b l h ∙ structure_long y t.blocks b own none.0 none.1
          ∙ sym (ap (λ o. block_bits y o / 8) h.block_there) ∙ long;
    }

found_block_of : (symbols : List Symbol) (t : Tree) → IsSoundTree symbols t → (size number : ℕ) (s : Shape) → instance_in (layouts_of t symbols) s ≡ Some number
    → ((place : ℕ) → s ≡ shape.Of place → block_bits (types_of_source symbols t.blocks) (slice_get t.blocks place) / 8 ≡ size)
    → HasFunctionBlock (in_lines (program_in symbols t).code_blocks) number size
found_block_of symbols t tree size number shape.Own e long = absurd cc
found_block_of symbols t tree size number shape.Unknown e long = absurd cc
found_block_of symbols t tree size number (shape.Of place) e long = by (slice_get (layouts_of t symbols) place) refl e
  where
    by : (o : Option BlockLayout) → slice_get (layouts_of t symbols) place ≡ o → option_and_then (λ (l : BlockLayout). function_block_number l.id) o ≡ Some number
        → HasFunctionBlock (in_lines (program_in symbols t).code_blocks) number size
    by None laid is = absurd cc
    by (Some l) laid is = by_id l.id refl is
      where
        by_id : (o : Option BlockId) → l.id ≡ o → function_block_number o ≡ Some number → HasFunctionBlock (in_lines (program_in symbols t).code_blocks) number size
        by_id None named is = absurd cc
        by_id (Some id) named is = test (is_function_block id.kind) refl is
          where
            test : (f : Bool) → is_function_block id.kind ≡ f → (if f then Some id.number else None) ≡ Some number
                → HasFunctionBlock (in_lines (program_in symbols t).code_blocks) number size
            test false fb is = absurd cc
            test true fb is =
                let b = block_there symbols t place l laid in
                let same : id.number ≡ number = cc in
                from_block symbols t size place b.block l id number (sound_at symbols t tree place b.block l b.there laid) named fb same (long place refl)

stored : (symbols : List Symbol) (t : Tree) → IsSoundTree symbols t → (k : ℕ) (b : Block) (l : BlockLayout) (id : BlockId) → IsSoundBlock symbols t k b l → l.id ≡ Some id → is_data_block id.kind ≡ true
    → IsStored (in_lines (program_in symbols t).code_blocks) (generated_data_block (context_at symbols t k) l id)
stored symbols t tree k b l id h named db =
    let y = types_of_source symbols t.blocks in
    let long = bytes_long symbols t k b l id h in
    let most : length_of_block y t.blocks b ≤ 16384 = ltb-false 16384 (length_of_block y t.blocks b) h.head.by_51 in
    let kind : b.kind ≡ kinds.Db = kind_there y.symbols b id (sym (id_there symbols t k b l h) ∙ named) ∙ data_kind id.kind db in
    record {
      short = omega (arith, long, most);
      instance = λ number is. found_block_of symbols t tree (length (generated_data_block (context_at symbols t k) l id).bytes) number l.shape is
          (λ place of_. sym (data_long y t.blocks b (shape.Of place) kind (sym (shape_there symbols t k b l h) ∙ of_)) ∙ sym long);
    }

pub all_stored : (symbols : List Symbol) (t : Tree) → IsSoundTree symbols t → AllByRecursion (IsStored (in_lines (program_in symbols t).code_blocks)) (program_in symbols t).data_blocks
all_stored symbols t tree = sound_data_blocks symbols t (IsStored (in_lines (program_in symbols t).code_blocks)) tree (stored symbols t tree)
