-- The blocks of a listing by kind and number.
use Rattle.std.proofs.Common.{◌≡◌, ℕ, zero, suc, Bool, true, false, cond, not, ◌&&◌, ◌||◌, List, [], ◌∷◌, ◌++◌, length, length-append, append_assoc, map, Option, Some, None, is_some, slice_get, refl, sym, ap, subst, ◌∙◌, arith}
use Rattle.std.specs.Prelude.{nat_eq, nat_lt, if◌then◌else◌}
use Rattle.std.specs.List.{AllByRecursion, list_any}
use Rattle.std.specs.Option.{option_and_then, option_map}
use Rattle.std.proofs.lemmas.Bool.{eq-eqb}
use Rattle.std.proofs.lemmas.Bool.Decides.{nat_tests}
use Rattle.plc_base.proofs.ListLemmas.{all_append, all_back, all_front, nil_parts}
use Rattle.plc_base.specs.RefusalsAlong.{refusals_along}
use Rattle.plc_base.specs.Kinds.{is_code, is_data_block, is_data_type, is_same_block, is_same_kind, is_system_function, kind_order}
use Rattle.plc_base.specs.Least.{broken_if}
use Rattle.plc_base.specs.declared.blocks.BlockId.{BlockId}
use Rattle.plc_base.specs.declared.blocks.BlockKind.{BlockKind}
use Rattle.plc_base.specs.declared.blocks.BlockKind.TheVariants as kinds
use Rattle.flat_code.specs.Programs.{CodeBlock, DataBlock, Program}
use Rattle.stl_ast.specs.declared.blocks.Block.{Block}
use Rattle.stl_ast.specs.declared.blocks.Tree.{Tree}
use Rattle.stl_symbols.specs.Symbol.{Symbol}
use Rattle.block_layout.specs.Blocks.{place_of_block, id_of, ids_of, is_block_number, is_id, known_block}
use Rattle.block_layout.specs.Layouts.{block_layout, layouts_by, layouts_from, layouts_of}
use Rattle.block_layout.specs.Measures.{depths_after, bits_after, type_bits, type_depth, types_of_source, unmeasured_types, with_all_bits, with_all_depths, with_bits, with_depths}
use Rattle.block_layout.specs.Rule22.{is_block_twice, is_earlier, rule_22}
use Rattle.block_layout.specs.Rule44.{has_wrong_number, is_number_beyond_limits, rule_44}
use Rattle.block_layout.specs.Types.{Types}
use Rattle.stl_types.specs.Bodies.{first_context}
use Rattle.stl_types.specs.Context.{Context}
use Rattle.stl_codegen.specs.CompiledBlock.{StatedBlock, compiled_block}
use Rattle.stl_codegen.specs.GeneratedProgram.{code_block, code_block_of, code_blocks_of, generated_data_block, data_block_of, data_blocks_of, each_block}
use Rattle.stl_codegen.specs.Order.{sorted_insertion, is_code_before, is_data_before, sorted_list}
use Rattle.stl_list.specs.CodeBlocks.{in_lines, listed_blocks, line_reached}
use Rattle.stl_list.specs.DataBlocks.{listed_data, listed_data_blocks}
use Rattle.stl_list.specs.JoinedParameters.{chains_of}
use Rattle.stl_list.specs.Lines.{line_behind_statements, stands_before}
use Rattle.stl_list.specs.Listing.{listed_tree}
use Rattle.stl_list.specs.Signatures.{Signature, signatures}
use Rattle.listing_laws.specs.Ids.{AreBlocksFound, AreBlocksKept, AreIdsListed, HasNoTypes, data_id_of_number, program_ids}
use Rattle.sem_kept.specs.AcceptedSource.{program_in}
use Rattle.listing_laws.proofs.OrderLemmas.{Pairs, all_sorted, pairs_sorted}

-- ---- kinds

pub same_order : (a b : BlockKind) → is_same_kind a b ≡ nat_eq (kind_order a) (kind_order b)
same_order kinds.Ob kinds.Ob = refl
same_order kinds.Ob kinds.Fc = refl
same_order kinds.Ob kinds.Fb = refl
same_order kinds.Ob kinds.Db = refl
same_order kinds.Ob kinds.Sfc = refl
same_order kinds.Ob kinds.Udt = refl
same_order kinds.Fc kinds.Ob = refl
same_order kinds.Fc kinds.Fc = refl
same_order kinds.Fc kinds.Fb = refl
same_order kinds.Fc kinds.Db = refl
same_order kinds.Fc kinds.Sfc = refl
same_order kinds.Fc kinds.Udt = refl
same_order kinds.Fb kinds.Ob = refl
same_order kinds.Fb kinds.Fc = refl
same_order kinds.Fb kinds.Fb = refl
same_order kinds.Fb kinds.Db = refl
same_order kinds.Fb kinds.Sfc = refl
same_order kinds.Fb kinds.Udt = refl
same_order kinds.Db kinds.Ob = refl
same_order kinds.Db kinds.Fc = refl
same_order kinds.Db kinds.Fb = refl
same_order kinds.Db kinds.Db = refl
same_order kinds.Db kinds.Sfc = refl
same_order kinds.Db kinds.Udt = refl
same_order kinds.Sfc kinds.Ob = refl
same_order kinds.Sfc kinds.Fc = refl
same_order kinds.Sfc kinds.Fb = refl
same_order kinds.Sfc kinds.Db = refl
same_order kinds.Sfc kinds.Sfc = refl
same_order kinds.Sfc kinds.Udt = refl
same_order kinds.Udt kinds.Ob = refl
same_order kinds.Udt kinds.Fc = refl
same_order kinds.Udt kinds.Fb = refl
same_order kinds.Udt kinds.Db = refl
same_order kinds.Udt kinds.Sfc = refl
same_order kinds.Udt kinds.Udt = refl

same_itself : (k : BlockKind) → is_same_kind k k ≡ true
same_itself kinds.Ob = refl
same_itself kinds.Fc = refl
same_itself kinds.Fb = refl
same_itself kinds.Db = refl
same_itself kinds.Sfc = refl
same_itself kinds.Udt = refl

pub id_itself : (id : BlockId) → is_same_block id id ≡ true
id_itself id = rw (same_itself id.kind) (eq-eqb id.number id.number refl)

same_turned : (a b : BlockId) → is_same_block a b ≡ false → is_same_block b a ≡ false
same_turned a b h =
    rw (same_order b.kind a.kind) (numbers (kind_order a.kind) a.number (kind_order b.kind) b.number (rw (same_order a.kind b.kind) at h))
  where
    numbers : (k m l n : ℕ) → (nat_eq k l && nat_eq m n) ≡ false → (nat_eq l k && nat_eq n m) ≡ false
    numbers k m l n h = grind (arith, nat_tests)

-- ---- the blocks of a listing

one_listed : (id : BlockId) → (if is_same_kind id.kind id.kind then Some id else None) ≡ Some id
one_listed id = rw (same_itself id.kind) refl

code_listed : (symbols : List Symbol) (ss : List Signature) (reached : ℕ) (bs : List CodeBlock)
    → map (λ b. id_of symbols b) (listed_blocks ss reached bs) ≡ map (λ id. Some id) (map (λ b. b.id) bs)
code_listed symbols ss reached [] = refl
code_listed symbols ss reached (b ∷ bs) =
    ap (λ (o : Option BlockId). o ∷ map (λ b. id_of symbols b) (listed_blocks ss (line_behind_statements reached b.lines) bs)) (one_listed b.id)
    ∙ ap (λ (z : List (Option BlockId)). Some b.id ∷ z) (code_listed symbols ss (line_behind_statements reached b.lines) bs)

one_data : (symbols : List Symbol) (ss : List Signature) (line number : ℕ) (bytes : List ℕ) (of : Option ℕ) → id_of symbols (listed_data ss line number bytes of) ≡ Some (data_id_of_number number)
one_data symbols ss line number bytes None = refl
one_data symbols ss line number bytes (Some of) = refl

data_listed : (symbols : List Symbol) (ss : List Signature) (line : ℕ) (ds : List DataBlock)
    → map (λ b. id_of symbols b) (listed_data_blocks ss line ds) ≡ map (λ id. Some id) (map (λ d. data_id_of_number d.number) ds)
data_listed symbols ss line [] = refl
data_listed symbols ss line (d ∷ ds) =
    ap (λ (o : Option BlockId). o ∷ map (λ b. id_of symbols b) (listed_data_blocks ss line ds)) (one_data symbols ss line d.number d.bytes d.instance_of)
    ∙ ap (λ (z : List (Option BlockId)). Some (data_id_of_number d.number) ∷ z) (data_listed symbols ss line ds)

map_joined : {A B : Type 0} (f : A → B) (xs ys : List A) → map f (xs ++ ys) ≡ map f xs ++ map f ys
map_joined f [] ys = refl
map_joined {B = B} f (x ∷ xs) ys = ap (λ (z : List B). f x ∷ z) (map_joined f xs ys)

pub ids_listed : AreIdsListed
unfolding listed_tree
ids_listed symbols p =
    let ss = signatures (chains_of p.code_blocks) p.code_blocks in
    let code : List Block = listed_blocks ss 1 (in_lines p.code_blocks) in
    let stored : List Block = listed_data_blocks ss (line_reached 1 (in_lines p.code_blocks)) p.data_blocks in
    map_joined (λ b. id_of symbols b) code stored
    ∙ ap (λ (z : List (Option BlockId)). z ++ map (λ b. id_of symbols b) stored) (code_listed symbols ss 1 (in_lines p.code_blocks))
    ∙ ap (λ (z : List (Option BlockId)). map (λ id. Some id) (map (λ b. b.id) (in_lines p.code_blocks)) ++ z) (data_listed symbols ss (line_reached 1 (in_lines p.code_blocks)) p.data_blocks)
    ∙ sym (map_joined (λ id. Some id) (map (λ b. b.id) (in_lines p.code_blocks)) (map (λ d. data_id_of_number d.number) p.data_blocks))

-- ---- the blocks of a source

-- those with code, and the data blocks
code_ids : List (Option BlockId) → List BlockId
code_ids [] = []
code_ids (None ∷ is) = code_ids is
code_ids (Some id ∷ is) = if is_code id.kind then id ∷ code_ids is else code_ids is

data_ids : List (Option BlockId) → List BlockId
data_ids [] = []
data_ids (None ∷ is) = data_ids is
data_ids (Some id ∷ is) = if is_data_block id.kind then data_id_of_number id.number ∷ data_ids is else data_ids is

abbrev codes_in : Context → List Block → Types → List Block → List Block → List StatedBlock
codes_in c blocks y before bs = each_block (λ c b l. code_block_of c b l l.id) c bs (layouts_from y blocks before bs)

abbrev data_in : Context → List Block → Types → List Block → List Block → List DataBlock
data_in c blocks y before bs = each_block (λ c b l. data_block_of c l l.id) c bs (layouts_from y blocks before bs)

codes_are : (c : Context) (blocks : List Block) (y : Types) (before bs : List Block) → map (λ x. x.id) (codes_in c blocks y before bs) ≡ code_ids (map (λ b. id_of y.symbols b) bs)
unfolding code_ids block_layout
codes_are c blocks y before [] = refl
codes_are c blocks y before (b ∷ bs) =
    by (id_of y.symbols b) (codes_are (record c { block = suc c.block }) blocks y (b ∷ before) bs)
  where
    rest : List StatedBlock
    rest = codes_in (record c { block = suc c.block }) blocks y (b ∷ before) bs

    by : (found : Option BlockId) → map (λ x. x.id) rest ≡ code_ids (map (λ b. id_of y.symbols b) bs)
        → map (λ x. x.id) (code_block_of c b (block_layout y blocks before b) found ++ rest) ≡ code_ids (found ∷ map (λ b. id_of y.symbols b) bs)
    by None more = more
    by (Some id) more = test (is_code id.kind) more
      where
        test : (t : Bool) → map (λ x. x.id) rest ≡ code_ids (map (λ b. id_of y.symbols b) bs)
            → map (λ x. x.id) ((if t then code_block c b (block_layout y blocks before b) id ∷ [] else []) ++ rest)
            ≡ (if t then id ∷ code_ids (map (λ b. id_of y.symbols b) bs) else code_ids (map (λ b. id_of y.symbols b) bs))
        test true more = ap (λ (z : List BlockId). id ∷ z) more
        test false more = more

data_are : (c : Context) (blocks : List Block) (y : Types) (before bs : List Block) → map (λ d. data_id_of_number d.number) (data_in c blocks y before bs) ≡ data_ids (map (λ b. id_of y.symbols b) bs)
unfolding data_ids block_layout
data_are c blocks y before [] = refl
data_are c blocks y before (b ∷ bs) =
    by (id_of y.symbols b) (data_are (record c { block = suc c.block }) blocks y (b ∷ before) bs)
  where
    rest : List DataBlock
    rest = data_in (record c { block = suc c.block }) blocks y (b ∷ before) bs

    by : (found : Option BlockId) → map (λ d. data_id_of_number d.number) rest ≡ data_ids (map (λ b. id_of y.symbols b) bs)
        → map (λ d. data_id_of_number d.number) (data_block_of c (block_layout y blocks before b) found ++ rest) ≡ data_ids (found ∷ map (λ b. id_of y.symbols b) bs)
    by None more = more
    by (Some id) more = test (is_data_block id.kind) more
      where
        test : (t : Bool) → map (λ d. data_id_of_number d.number) rest ≡ data_ids (map (λ b. id_of y.symbols b) bs)
            → map (λ d. data_id_of_number d.number) ((if t then generated_data_block c (block_layout y blocks before b) id ∷ [] else []) ++ rest)
            ≡ (if t then data_id_of_number id.number ∷ data_ids (map (λ b. id_of y.symbols b) bs) else data_ids (map (λ b. id_of y.symbols b) bs))
        test true more = ap (λ (z : List BlockId). data_id_of_number id.number ∷ z) more
        test false more = more

-- ---- whether there is a block

any_joined : {A : Type 0} (p : A → Bool) (xs ys : List A) → list_any p (xs ++ ys) ≡ (list_any p xs || list_any p ys)
any_joined p [] ys = refl
any_joined p (x ∷ xs) ys = ap (λ (t : Bool). p x || t) (any_joined p xs ys) ∙ grouped (p x) (list_any p xs) (list_any p ys)
  where
    grouped : (a b c : Bool) → (a || (b || c)) ≡ ((a || b) || c)
    grouped true b c = refl
    grouped false b c = refl

any_inserted : {A : Type 0} (p : A → Bool) (lt : A → A → Bool) (x : A) (ys : List A) → list_any p (sorted_insertion lt x ys) ≡ (p x || list_any p ys)
any_inserted p lt x [] = refl
any_inserted {A = A} p lt x (y ∷ ys) = by (lt y x) (any_inserted p lt x ys)
  where
    swapped : (a b c : Bool) → (a || (b || c)) ≡ (b || (a || c))
    swapped true true c = refl
    swapped true false c = refl
    swapped false b c = refl

    by : (b : Bool) → list_any p (sorted_insertion lt x ys) ≡ (p x || list_any p ys) → list_any p (cond b (y ∷ sorted_insertion lt x ys) (x ∷ y ∷ ys)) ≡ (p x || (p y || list_any p ys))
    by true more = ap (λ (t : Bool). p y || t) more ∙ swapped (p y) (p x) (list_any p ys)
    by false more = refl

any_sorted : {A : Type 0} (p : A → Bool) (lt : A → A → Bool) (xs : List A) → list_any p (sorted_list lt xs) ≡ list_any p xs
unfolding sorted_list
any_sorted p lt [] = refl
any_sorted p lt (x ∷ xs) = any_inserted p lt x (sorted_list lt xs) ∙ ap (λ (t : Bool). p x || t) (any_sorted p lt xs)

any_mapped : {A B : Type 0} (p : B → Bool) (f : A → B) (xs : List A) → list_any p (map f xs) ≡ list_any (λ x. p (f x)) xs
any_mapped p f [] = refl
any_mapped p f (x ∷ xs) = ap (λ (t : Bool). p (f x) || t) (any_mapped p f xs)

-- the same of a program's blocks
program_any : (q : BlockId → Bool) (xs : List StatedBlock) (ds : List DataBlock)
    → list_any q (map (λ b. b.id) (in_lines (map compiled_block (sorted_list is_code_before xs))) ++ map (λ d. data_id_of_number d.number) (sorted_list is_data_before ds))
    ≡ (list_any q (map (λ x. x.id) xs) || list_any q (map (λ d. data_id_of_number d.number) ds))
unfolding in_lines
program_any q xs ds =
    any_joined q (map (λ b. b.id) (sorted_list stands_before (map compiled_block (sorted_list is_code_before xs)))) (map (λ d. data_id_of_number d.number) (sorted_list is_data_before ds))
    ∙ ap (λ (t : Bool). t || list_any q (map (λ d. data_id_of_number d.number) (sorted_list is_data_before ds)))
    (any_mapped q (λ (b : CodeBlock). b.id) (sorted_list stands_before (map compiled_block (sorted_list is_code_before xs)))
    ∙ any_sorted (λ (b : CodeBlock). q b.id) stands_before (map compiled_block (sorted_list is_code_before xs))
    ∙ any_mapped (λ (b : CodeBlock). q b.id) compiled_block (sorted_list is_code_before xs)
    ∙ any_sorted (λ (x : StatedBlock). q x.id) is_code_before xs
    ∙ sym (any_mapped q (λ (x : StatedBlock). x.id) xs))
    ∙ ap (λ (t : Bool). list_any q (map (λ x. x.id) xs) || t)
    (any_mapped q (λ (d : DataBlock). data_id_of_number d.number) (sorted_list is_data_before ds)
    ∙ any_sorted (λ (d : DataBlock). q (data_id_of_number d.number)) is_data_before ds
    ∙ sym (any_mapped q (λ (d : DataBlock). data_id_of_number d.number) ds))

-- a block of the source is one with code or a data block, where it isn't of another kind
no_type : (k : BlockKind) → is_data_type k ≡ false → is_same_kind k kinds.Udt ≡ false
no_type kinds.Ob h = refl
no_type kinds.Fc h = refl
no_type kinds.Fb h = refl
no_type kinds.Db h = refl
no_type kinds.Sfc h = refl
no_type kinds.Udt h = absurd cc

no_system : (k : BlockKind) → is_system_function k ≡ false → is_same_kind k kinds.Sfc ≡ false
no_system kinds.Ob h = refl
no_system kinds.Fc h = refl
no_system kinds.Fb h = refl
no_system kinds.Db h = refl
no_system kinds.Sfc h = absurd cc
no_system kinds.Udt h = refl

code_first : (a b c d : Bool) → b ≡ (c || d) → (a || b) ≡ ((a || c) || d)
code_first true b c d e = refl
code_first false b c d e = e

data_first : (a b c d : Bool) → b ≡ (c || d) → (a || b) ≡ (c || (a || d))
data_first true b true d e = refl
data_first true b false d e = refl
data_first false b c d e = e

neither : (a b : Bool) (t : Bool) → a ≡ false → b ≡ t → (a || b) ≡ t
neither true b t h e = absurd cc
neither false b t h e = e

source_step : (id : BlockId) (k : BlockKind) (n : ℕ) (is : List (Option BlockId)) → is_data_type id.kind ≡ false → is_system_function id.kind ≡ false
    → list_any (is_id id) is ≡ (list_any (is_same_block id) (code_ids is) || list_any (is_same_block id) (data_ids is))
    → list_any (is_id id) (Some (record { kind = k; number = n }) ∷ is)
    ≡ (list_any (is_same_block id) (code_ids (Some (record { kind = k; number = n }) ∷ is)) || list_any (is_same_block id) (data_ids (Some (record { kind = k; number = n }) ∷ is)))
unfolding code_ids data_ids
source_step id kinds.Ob n is t s more = code_first _ _ _ _ more
source_step id kinds.Fc n is t s more = code_first _ _ _ _ more
source_step id kinds.Fb n is t s more = code_first _ _ _ _ more
source_step id kinds.Db n is t s more = data_first _ _ _ _ more
source_step id kinds.Sfc n is t s more = neither _ _ _ (ap (λ (b : Bool). b && nat_eq id.number n) (no_system id.kind s)) more
source_step id kinds.Udt n is t s more = neither _ _ _ (ap (λ (b : Bool). b && nat_eq id.number n) (no_type id.kind t)) more

source_any : (id : BlockId) (is : List (Option BlockId)) → is_data_type id.kind ≡ false → is_system_function id.kind ≡ false
    → list_any (is_id id) is ≡ (list_any (is_same_block id) (code_ids is) || list_any (is_same_block id) (data_ids is))
unfolding code_ids data_ids
source_any id [] t s = refl
source_any id (None ∷ is) t s = source_any id is t s
source_any id (Some i ∷ is) t s = source_step id i.kind i.number is t s (source_any id is t s)

place_there : (id : BlockId) (is : List (Option BlockId)) → is_some (place_of_block id is) ≡ list_any (is_id id) is
place_there id [] = refl
place_there id (i ∷ is) = by (is_id id i) (place_there id is)
  where
    mapped : (o : Option ℕ) → is_some (option_map (λ k. suc k) o) ≡ is_some o
    mapped None = refl
    mapped (Some k) = refl

    by : (b : Bool) → is_some (place_of_block id is) ≡ list_any (is_id id) is → is_some (if b then Some 0 else option_map (λ k. suc k) (place_of_block id is)) ≡ (b || list_any (is_id id) is)
    by true more = refl
    by false more = mapped (place_of_block id is) ∙ more

-- ---- the program of a source

pub source_symbols : (symbols : List Symbol) (blocks : List Block) → (types_of_source symbols blocks).symbols ≡ symbols
unfolding types_of_source with_all_bits with_all_depths
source_symbols symbols blocks = refl

pub source_ids : (symbols : List Symbol) (blocks : List Block) → (types_of_source symbols blocks).ids ≡ ids_of symbols blocks
unfolding types_of_source with_all_bits with_all_depths
source_ids symbols blocks = refl

abbrev codes_of : Tree → List Symbol → List StatedBlock
codes_of t symbols = codes_in (first_context symbols (layouts_of t symbols) t.blocks) t.blocks (types_of_source symbols t.blocks) [] t.blocks

abbrev stored_of : Tree → List Symbol → List DataBlock
stored_of t symbols = data_in (first_context symbols (layouts_of t symbols) t.blocks) t.blocks (types_of_source symbols t.blocks) [] t.blocks

ids_are : (t : Tree) (symbols : List Symbol) → program_ids (program_in symbols t)
    ≡ map (λ b. b.id) (in_lines (map compiled_block (sorted_list is_code_before (codes_of t symbols)))) ++ map (λ d. data_id_of_number d.number) (sorted_list is_data_before (stored_of t symbols))
unfolding code_blocks_of data_blocks_of layouts_of layouts_by
ids_are t symbols = refl

source_codes : (t : Tree) (symbols : List Symbol) → map (λ x. x.id) (codes_of t symbols) ≡ code_ids (ids_of symbols t.blocks)
source_codes t symbols =
    codes_are (first_context symbols (layouts_of t symbols) t.blocks) t.blocks (types_of_source symbols t.blocks) [] t.blocks
    ∙ ap (λ (z : List Symbol). code_ids (ids_of z t.blocks)) (source_symbols symbols t.blocks)

source_data : (t : Tree) (symbols : List Symbol) → map (λ d. data_id_of_number d.number) (stored_of t symbols) ≡ data_ids (ids_of symbols t.blocks)
source_data t symbols =
    data_are (first_context symbols (layouts_of t symbols) t.blocks) t.blocks (types_of_source symbols t.blocks) [] t.blocks
    ∙ ap (λ (z : List Symbol). data_ids (ids_of z t.blocks)) (source_symbols symbols t.blocks)

no_system_number : (k : BlockKind) (n : ℕ) → is_block_number k n ≡ true → is_system_function k ≡ false
no_system_number kinds.Ob n h = refl
no_system_number kinds.Fc n h = refl
no_system_number kinds.Fb n h = refl
no_system_number kinds.Db n h = refl
no_system_number kinds.Sfc n h = absurd cc
no_system_number kinds.Udt n h = refl

same_there : (t : Tree) (symbols : List Symbol) (id : BlockId) → is_data_type id.kind ≡ false → is_system_function id.kind ≡ false
    → is_some (place_of_block id (map (λ i. Some i) (program_ids (program_in symbols t)))) ≡ is_some (place_of_block id (ids_of symbols t.blocks))
same_there t symbols id plain system =
    place_there id (map (λ i. Some i) (program_ids (program_in symbols t)))
    ∙ any_mapped (is_id id) (λ (i : BlockId). Some i) (program_ids (program_in symbols t))
    ∙ ap (list_any (is_same_block id)) (ids_are t symbols)
    ∙ program_any (is_same_block id) (codes_of t symbols) (stored_of t symbols)
    ∙ ap (λ (z : List BlockId). list_any (is_same_block id) z || list_any (is_same_block id) (map (λ d. data_id_of_number d.number) (stored_of t symbols))) (source_codes t symbols)
    ∙ ap (λ (z : List BlockId). list_any (is_same_block id) (code_ids (ids_of symbols t.blocks)) || list_any (is_same_block id) z) (source_data t symbols)
    ∙ sym (source_any id (ids_of symbols t.blocks) plain system)
    ∙ sym (place_there id (ids_of symbols t.blocks))

pub blocks_kept : AreBlocksKept
blocks_kept t symbols listed id plain =
    ap (λ (is : List (Option BlockId)). is_some (known_block id is)) (ids_listed listed (program_in symbols t))
    ∙ by (is_block_number id.kind id.number) refl
  where
    by : (b : Bool) → is_block_number id.kind id.number ≡ b
        → is_some (if b then place_of_block id (map (λ i. Some i) (program_ids (program_in symbols t))) else None)
        ≡ is_some (if b then place_of_block id (ids_of symbols t.blocks) else None)
    by true e = same_there t symbols id plain (no_system_number id.kind id.number e)
    by false e = refl

-- ---- each at its place

abbrev pub NotSame : BlockId → BlockId → Type 0
NotSame a b = is_same_block a b ≡ false

-- a block of the source isn't one before it
abbrev pub Far : Option BlockId → Option BlockId → Type 0
Far None earlier = Unit {0}
Far (Some id) earlier = is_id id earlier ≡ false

none_broken : (t : Bool) (line rule : ℕ) → broken_if t line rule ≡ [] → t ≡ false
none_broken true line rule h = absurd cc
none_broken false line rule h = refl

all_any : {A : Type 0} (P : A → Type 0) (xs : List A) → ((x : A) → P x) → AllByRecursion P xs
all_any P [] h = tt
all_any P (x ∷ xs) h = (h x, all_any P xs h)

not_in_front : (id : BlockId) (front rest : List (Option BlockId)) → is_earlier (place_of_block id (front ++ rest)) (length front) ≡ false → AllByRecursion (λ e. is_id id e ≡ false) front
not_in_front id [] rest h = tt
not_in_front id (e ∷ front) rest h = by (is_id id e) refl h (not_in_front id front rest)
  where
    one_less : (o : Option ℕ) (n : ℕ) → is_earlier (option_map (λ k. suc k) o) (suc n) ≡ is_earlier o n
    one_less None n = refl
    one_less (Some k) n = grind (arith, nat_tests)

    first : (n : ℕ) → nat_lt 0 (suc n) ≡ true
    first n = grind (arith, nat_tests)

    by : (b : Bool) → is_id id e ≡ b → is_earlier (if b then Some 0 else option_map (λ k. suc k) (place_of_block id (front ++ rest))) (suc (length front)) ≡ false
        → (is_earlier (place_of_block id (front ++ rest)) (length front) ≡ false → AllByRecursion (λ e. is_id id e ≡ false) front) → AllByRecursion (λ e. is_id id e ≡ false) (e ∷ front)
    by true is h more = let f = first (length front) in absurd cc
    by false is h more = (is, more (sym (one_less (place_of_block id (front ++ rest)) (length front)) ∙ h))

far_front : (i : Option BlockId) (front rest : List (Option BlockId)) → is_earlier (option_and_then (λ id. place_of_block id (front ++ rest)) i) (length front) ≡ false → AllByRecursion (Far i) front
far_front None front rest h = all_any (Far None) front (λ e. tt)
far_front (Some id) front rest h = not_in_front id front rest h

all_fronts : (front : List (Option BlockId)) (i : Option BlockId) (later : List (Option BlockId)) → AllByRecursion (λ j. AllByRecursion (Far j) (front ++ i ∷ [])) later
    → AllByRecursion (λ j. AllByRecursion (Far j) front) later × AllByRecursion (λ j. Far j i) later
all_fronts front i [] h = (tt, tt)
all_fronts front i (j ∷ later) h =
    let more = all_fronts front i later h.1 in
    ((all_front (Far j) front (i ∷ []) h.0, more.0), ((all_back (Far j) front (i ∷ []) h.0).0, more.1))

abbrev ids_by : Types → List Block → List (Option BlockId)
ids_by y bs = map (λ b. id_of y.symbols b) bs

none_twice : (y : Types) (front : List (Option BlockId)) (before bs : List Block) → y.ids ≡ front ++ ids_by y bs → length before ≡ length front
    → refusals_along (λ b. false) (λ before b. broken_if (is_block_twice y before b) b.line 22) (λ before b. b ∷ before) before bs ≡ []
    → AllByRecursion (λ j. AllByRecursion (Far j) front) (ids_by y bs) × Pairs Far (ids_by y bs)
none_twice y front before [] whole size h = (tt, tt)
none_twice y front before (b ∷ bs) whole size h =
    let i : Option BlockId = id_of y.symbols b in
    let parts = nil_parts (broken_if (is_block_twice y before b) b.line 22) _ h in
    let once : is_block_twice y before b ≡ false = none_broken (is_block_twice y before b) b.line 22 parts.0 in
    let here : is_earlier (option_and_then (λ id. place_of_block id (front ++ ids_by y (b ∷ bs))) i) (length front) ≡ false =
    ap (λ (n : ℕ). is_earlier (option_and_then (λ id. place_of_block id (front ++ ids_by y (b ∷ bs))) i) n) (sym size)
    ∙ ap (λ (z : List (Option BlockId)). is_earlier (option_and_then (λ id. place_of_block id z) i) (length before)) (sym whole) ∙ once in
    let longer = length-append front (i ∷ []) in
    let more = none_twice y (front ++ i ∷ []) (b ∷ before) bs (whole ∙ sym (append_assoc front (i ∷ []) (ids_by y bs))) (omega (arith, size, longer)) parts.1 in
    let fronts = all_fronts front i (ids_by y bs) more.0 in
    ((far_front i front (ids_by y (b ∷ bs)) here, fronts.0), (fronts.1, more.1))

none_beyond : (symbols : List Symbol) (before bs : List Block)
    → refusals_along (λ b. false) (λ before b. broken_if (has_wrong_number symbols b) b.line 44) (λ before b. b ∷ before) before bs ≡ []
    → AllByRecursion (λ i. is_number_beyond_limits i ≡ false) (ids_of symbols bs)
none_beyond symbols before [] h = tt
none_beyond symbols before (b ∷ bs) h =
    let parts = nil_parts (broken_if (has_wrong_number symbols b) b.line 44) _ h in
    (none_broken (has_wrong_number symbols b) b.line 44 parts.0, none_beyond symbols (b ∷ before) bs parts.1)

pub source_apart : (symbols : List Symbol) (blocks : List Block) → rule_22 (types_of_source symbols blocks) blocks ≡ [] → Pairs Far (ids_of symbols blocks)
unfolding rule_22
source_apart symbols blocks h =
    let y = types_of_source symbols blocks in
    let same : y.ids ≡ ids_by y blocks = source_ids symbols blocks ∙ ap (λ (z : List Symbol). ids_of z blocks) (sym (source_symbols symbols blocks)) in
    subst (λ (z : List Symbol). Pairs Far (ids_of z blocks)) (source_symbols symbols blocks) ((none_twice y [] [] blocks same refl h).1)

pub source_right : (symbols : List Symbol) (blocks : List Block) → rule_44 symbols blocks ≡ [] → AllByRecursion (λ i. is_number_beyond_limits i ≡ false) (ids_of symbols blocks)
unfolding rule_44
source_right symbols blocks h = none_beyond symbols [] blocks h

-- ---- of those with code and of data blocks

abbrev HasCode : BlockId → Type 0
HasCode id = is_code id.kind ≡ true

abbrev pub IsRight : BlockId → Type 0
IsRight id = is_block_number id.kind id.number ≡ true

codes_code : (is : List (Option BlockId)) → AllByRecursion HasCode (code_ids is)
unfolding code_ids
codes_code [] = tt
codes_code (None ∷ is) = codes_code is
codes_code (Some id ∷ is) = by (is_code id.kind) refl (codes_code is)
  where
    by : (b : Bool) → is_code id.kind ≡ b → AllByRecursion HasCode (code_ids is) → AllByRecursion HasCode (if b then id ∷ code_ids is else code_ids is)
    by true e more = (e, more)
    by false e more = more

-- what holds of each that is a block holds of those with code
codes_all : (P : Option BlockId → Type 0) (is : List (Option BlockId)) → AllByRecursion P is → AllByRecursion (λ id. P (Some id)) (code_ids is)
unfolding code_ids
codes_all P [] h = tt
codes_all P (None ∷ is) h = codes_all P is h.1
codes_all P (Some id ∷ is) h = by (is_code id.kind) (codes_all P is h.1)
  where
    by : (b : Bool) → AllByRecursion (λ id. P (Some id)) (code_ids is) → AllByRecursion (λ id. P (Some id)) (if b then id ∷ code_ids is else code_ids is)
    by true more = (h.0, more)
    by false more = more

same_data : (k : BlockKind) (n : ℕ) → is_data_block k ≡ true → record { kind = k; number = n } ≡ data_id_of_number n
same_data kinds.Db n h = refl
same_data _ n h = absurd cc

data_all : (P : Option BlockId → Type 0) (is : List (Option BlockId)) → AllByRecursion P is → AllByRecursion (λ id. P (Some id)) (data_ids is)
unfolding data_ids
data_all P [] h = tt
data_all P (None ∷ is) h = data_all P is h.1
data_all P (Some id ∷ is) h = by (is_data_block id.kind) refl (data_all P is h.1)
  where
    by : (b : Bool) → is_data_block id.kind ≡ b → AllByRecursion (λ id. P (Some id)) (data_ids is) → AllByRecursion (λ id. P (Some id)) (if b then data_id_of_number id.number ∷ data_ids is else data_ids is)
    by true e more = (subst (λ (i : BlockId). P (Some i)) (same_data id.kind id.number e) h.0, more)
    by false e more = more

codes_apart : (is : List (Option BlockId)) → Pairs Far is → Pairs NotSame (code_ids is)
unfolding code_ids
codes_apart [] h = tt
codes_apart (None ∷ is) h = codes_apart is h.1
codes_apart (Some id ∷ is) h = by (is_code id.kind) (codes_apart is h.1)
  where
    by : (b : Bool) → Pairs NotSame (code_ids is) → Pairs NotSame (if b then id ∷ code_ids is else code_ids is)
    by true more = (codes_all (λ j. Far j (Some id)) is h.0, more)
    by false more = more

data_apart : (is : List (Option BlockId)) → Pairs Far is → Pairs NotSame (data_ids is)
unfolding data_ids
data_apart [] h = tt
data_apart (None ∷ is) h = data_apart is h.1
data_apart (Some id ∷ is) h = by (is_data_block id.kind) refl (data_apart is h.1)
  where
    by : (b : Bool) → is_data_block id.kind ≡ b → Pairs NotSame (data_ids is) → Pairs NotSame (if b then data_id_of_number id.number ∷ data_ids is else data_ids is)
    by true e more =
        (data_all (λ j. Far j (Some (data_id_of_number id.number))) is (subst (λ (i : BlockId). AllByRecursion (λ j. Far j (Some i)) is) (same_data id.kind id.number e) h.0), more)
    by false e more = more

-- ---- of the program

all_mapped : {A B : Type 0} (P : B → Type 0) (f : A → B) (xs : List A) → AllByRecursion (λ x. P (f x)) xs → AllByRecursion P (map f xs)
all_mapped P f [] h = tt
all_mapped P f (x ∷ xs) h = (h.0, all_mapped P f xs h.1)

all_behind : {A B : Type 0} (P : B → Type 0) (f : A → B) (xs : List A) → AllByRecursion P (map f xs) → AllByRecursion (λ x. P (f x)) xs
all_behind P f [] h = tt
all_behind P f (x ∷ xs) h = (h.0, all_behind P f xs h.1)

pairs_mapped : {A B : Type 0} (R : B → B → Type 0) (f : A → B) (xs : List A) → Pairs (λ a b. R (f a) (f b)) xs → Pairs R (map f xs)
pairs_mapped R f [] h = tt
pairs_mapped R f (x ∷ xs) h = (all_mapped (λ y. R y (f x)) f xs h.0, pairs_mapped R f xs h.1)

pairs_behind : {A B : Type 0} (R : B → B → Type 0) (f : A → B) (xs : List A) → Pairs R (map f xs) → Pairs (λ a b. R (f a) (f b)) xs
pairs_behind R f [] h = tt
pairs_behind R f (x ∷ xs) h = (all_behind (λ y. R y (f x)) f xs h.0, pairs_behind R f xs h.1)

pairs_joined : {A : Type 0} (R : A → A → Type 0) (xs ys : List A) → Pairs R xs → Pairs R ys → AllByRecursion (λ x. AllByRecursion (λ y. R y x) ys) xs → Pairs R (xs ++ ys)
pairs_joined R [] ys h k cross = k
pairs_joined R (x ∷ xs) ys h k cross = (all_append (λ y. R y x) xs ys h.0 cross.0, pairs_joined R xs ys h.1 k cross.1)

-- what holds of all blocks with code, of the program's
code_program : (P : BlockId → Type 0) (xs : List StatedBlock) → AllByRecursion P (map (λ x. x.id) xs) → AllByRecursion P (map (λ b. b.id) (in_lines (map compiled_block (sorted_list is_code_before xs))))
unfolding in_lines
code_program P xs h =
    all_mapped P (λ (b : CodeBlock). b.id) (sorted_list stands_before (map compiled_block (sorted_list is_code_before xs)))
    (all_sorted (λ (b : CodeBlock). P b.id) stands_before (map compiled_block (sorted_list is_code_before xs))
    (all_mapped (λ (b : CodeBlock). P b.id) compiled_block (sorted_list is_code_before xs)
    (all_sorted (λ (x : StatedBlock). P x.id) is_code_before xs (all_behind P (λ (x : StatedBlock). x.id) xs h))))

data_program : (P : BlockId → Type 0) (ds : List DataBlock) → AllByRecursion P (map (λ d. data_id_of_number d.number) ds) → AllByRecursion P (map (λ d. data_id_of_number d.number) (sorted_list is_data_before ds))
data_program P ds h =
    all_mapped P (λ (d : DataBlock). data_id_of_number d.number) (sorted_list is_data_before ds)
    (all_sorted (λ (d : DataBlock). P (data_id_of_number d.number)) is_data_before ds (all_behind P (λ (d : DataBlock). data_id_of_number d.number) ds h))

code_pairs : (xs : List StatedBlock) → Pairs NotSame (map (λ x. x.id) xs) → Pairs NotSame (map (λ b. b.id) (in_lines (map compiled_block (sorted_list is_code_before xs))))
unfolding in_lines
code_pairs xs h =
    pairs_mapped NotSame (λ (b : CodeBlock). b.id) (sorted_list stands_before (map compiled_block (sorted_list is_code_before xs)))
    (pairs_sorted (λ (a b : CodeBlock). NotSame a.id b.id) (λ a b. same_turned a.id b.id) stands_before (map compiled_block (sorted_list is_code_before xs))
    (pairs_mapped (λ (a b : CodeBlock). NotSame a.id b.id) compiled_block (sorted_list is_code_before xs)
    (pairs_sorted (λ (a b : StatedBlock). NotSame a.id b.id) (λ a b. same_turned a.id b.id) is_code_before xs (pairs_behind NotSame (λ (x : StatedBlock). x.id) xs h))))

data_pairs : (ds : List DataBlock) → Pairs NotSame (map (λ d. data_id_of_number d.number) ds) → Pairs NotSame (map (λ d. data_id_of_number d.number) (sorted_list is_data_before ds))
data_pairs ds h =
    pairs_mapped NotSame (λ (d : DataBlock). data_id_of_number d.number) (sorted_list is_data_before ds)
    (pairs_sorted (λ (a b : DataBlock). NotSame (data_id_of_number a.number) (data_id_of_number b.number)) (λ a b. same_turned (data_id_of_number a.number) (data_id_of_number b.number)) is_data_before ds
    (pairs_behind NotSame (λ (d : DataBlock). data_id_of_number d.number) ds h))

no_data : (k : BlockKind) → is_code k ≡ true → is_data_block k ≡ false
no_data kinds.Ob h = refl
no_data kinds.Fc h = refl
no_data kinds.Fb h = refl
no_data _ h = absurd cc

data_and_code_apart : (ds : List DataBlock) (ids : List BlockId) → AllByRecursion HasCode ids → AllByRecursion (λ x. AllByRecursion (λ y. NotSame y x) (map (λ d. data_id_of_number d.number) ds)) ids
data_and_code_apart ds [] h = tt
data_and_code_apart ds (id ∷ ids) h = (
  all_mapped (λ y. NotSame y id) (λ (d : DataBlock). data_id_of_number d.number) ds
      (all_any (λ (d : DataBlock). NotSame (data_id_of_number d.number) id) ds (λ d. ap (λ (b : Bool). b && nat_eq d.number id.number) (no_data id.kind h.0))),
  data_and_code_apart ds ids h.1,
)

source_have_code : (t : Tree) (symbols : List Symbol) → AllByRecursion HasCode (map (λ x. x.id) (codes_of t symbols))
source_have_code t symbols = subst (AllByRecursion HasCode) (sym (source_codes t symbols)) (codes_code (ids_of symbols t.blocks))

pub program_apart : (t : Tree) (symbols : List Symbol) → Pairs Far (ids_of symbols t.blocks) → Pairs NotSame (program_ids (program_in symbols t))
program_apart t symbols h =
    subst (Pairs NotSame) (sym (ids_are t symbols))
    (pairs_joined NotSame (map (λ b. b.id) (in_lines (map compiled_block (sorted_list is_code_before (codes_of t symbols))))) (map (λ d. data_id_of_number d.number) (sorted_list is_data_before (stored_of t symbols)))
    (code_pairs (codes_of t symbols) (subst (Pairs NotSame) (sym (source_codes t symbols)) (codes_apart (ids_of symbols t.blocks) h)))
    (data_pairs (stored_of t symbols) (subst (Pairs NotSame) (sym (source_data t symbols)) (data_apart (ids_of symbols t.blocks) h)))
    (data_and_code_apart (sorted_list is_data_before (stored_of t symbols)) (map (λ b. b.id) (in_lines (map compiled_block (sorted_list is_code_before (codes_of t symbols)))))
    (code_program HasCode (codes_of t symbols) (source_have_code t symbols))))

right_number : (id : BlockId) → is_number_beyond_limits (Some id) ≡ false → IsRight id
right_number id h = by (is_block_number id.kind id.number) h
  where
    by : (b : Bool) → not b ≡ false → b ≡ true
    by true h = refl
    by false h = absurd cc

all_weaken : {A : Type 0} (P Q : A → Type 0) (xs : List A) → ((x : A) → P x → Q x) → AllByRecursion P xs → AllByRecursion Q xs
all_weaken P Q [] f h = tt
all_weaken P Q (x ∷ xs) f h = (f x h.0, all_weaken P Q xs f h.1)

pub program_right : (t : Tree) (symbols : List Symbol) → AllByRecursion (λ i. is_number_beyond_limits i ≡ false) (ids_of symbols t.blocks) → AllByRecursion IsRight (program_ids (program_in symbols t))
program_right t symbols h =
    let is : List (Option BlockId) = ids_of symbols t.blocks in
    subst (AllByRecursion IsRight) (sym (ids_are t symbols))
    (all_append IsRight (map (λ b. b.id) (in_lines (map compiled_block (sorted_list is_code_before (codes_of t symbols))))) (map (λ d. data_id_of_number d.number) (sorted_list is_data_before (stored_of t symbols)))
    (code_program IsRight (codes_of t symbols)
    (subst (AllByRecursion IsRight) (sym (source_codes t symbols)) (all_weaken (λ id. is_number_beyond_limits (Some id) ≡ false) IsRight (code_ids is) right_number (codes_all (λ i. is_number_beyond_limits i ≡ false) is h))))
    (data_program IsRight (stored_of t symbols)
    (subst (AllByRecursion IsRight) (sym (source_data t symbols)) (all_weaken (λ id. is_number_beyond_limits (Some id) ≡ false) IsRight (data_ids is) right_number (data_all (λ i. is_number_beyond_limits i ≡ false) is h)))))

-- the first place of one that no other is
got : {A : Type 0} (P : A → Type 0) (xs : List A) (k : ℕ) (x : A) → AllByRecursion P xs → slice_get xs k ≡ Some x → P x
got P [] k x h e = absurd cc
got P (y ∷ xs) zero x h e = let same : y ≡ x = cc in subst P same h.0
got P (y ∷ xs) (suc k) x h e = got P xs k x h.1 e

pub place_of : (ids : List BlockId) (k : ℕ) (id : BlockId) → Pairs NotSame ids → slice_get ids k ≡ Some id → place_of_block id (map (λ i. Some i) ids) ≡ Some k
place_of [] k id apart e = absurd cc
place_of (i ∷ ids) zero id apart e =
    let same : i ≡ id = cc in
    let here : is_same_block id i ≡ true = ap (is_same_block id) same ∙ id_itself id in
    rw here refl
place_of (i ∷ ids) (suc k) id apart e =
    let other : is_same_block id i ≡ false = got (λ j. NotSame j i) ids k id apart.0 e in
    rw (other, place_of ids k id apart.1 e) refl

pub blocks_found : AreBlocksFound
blocks_found t symbols listed k id none_22 none_44 e =
    let ids : List BlockId = program_ids (program_in symbols t) in
    let right = got IsRight ids k id (program_right t symbols (source_right symbols t.blocks none_44)) e in
    ap (known_block id) (ids_listed listed (program_in symbols t))
    ∙ ap (λ (b : Bool). if b then place_of_block id (map (λ i. Some i) ids) else None) right
    ∙ place_of ids k id (program_apart t symbols (source_apart symbols t.blocks none_22)) e

-- ---- no types

abbrev IsPlain : Block → Type 0
IsPlain b = is_data_type b.kind ≡ false

no_depths : (y : Types) (bs : List Block) → AllByRecursion IsPlain bs → map (type_depth y) bs ≡ map (λ b. 0) bs
unfolding type_depth
no_depths y [] h = refl
no_depths y (b ∷ bs) h = rw (h.0, no_depths y bs h.1) refl

no_bits : (y : Types) (bs : List Block) → AllByRecursion IsPlain bs → map (type_bits y) bs ≡ map (λ b. 0) bs
unfolding type_bits
no_bits y [] h = refl
no_bits y (b ∷ bs) h = rw (h.0, no_bits y bs h.1) refl

types_plain : (symbols : List Symbol) (bs : List Block) → AllByRecursion IsPlain bs
    → types_of_source symbols bs ≡ record { symbols = symbols; ids = ids_of symbols bs; depths = map (λ b. 0) bs; bits = map (λ b. 0) bs }
unfolding types_of_source with_all_bits with_all_depths
types_plain symbols bs h =
    let first : Types = with_depths (unmeasured_types symbols bs) (depths_after 8 (unmeasured_types symbols bs) bs) in
    let deep : Types = with_depths (unmeasured_types symbols bs) (map (type_depth first) bs) in
    ap (λ (z : List ℕ). record { symbols = symbols; ids = ids_of symbols bs; depths = map (type_depth first) bs; bits = z })
    (no_bits (with_bits deep (bits_after 8 deep bs)) bs h)
    ∙ ap (λ (z : List ℕ). record { symbols = symbols; ids = ids_of symbols bs; depths = z; bits = map (λ b. 0) bs }) (no_depths first bs h)

no_type_code : (k : BlockKind) → is_code k ≡ true → is_data_type k ≡ false
no_type_code kinds.Ob h = refl
no_type_code kinds.Fc h = refl
no_type_code kinds.Fb h = refl
no_type_code _ h = absurd cc

code_plain : (ss : List Signature) (reached : ℕ) (bs : List CodeBlock) → AllByRecursion HasCode (map (λ b. b.id) bs) → AllByRecursion IsPlain (listed_blocks ss reached bs)
code_plain ss reached [] h = tt
code_plain ss reached (b ∷ bs) h = (no_type_code b.id.kind h.0, code_plain ss (line_behind_statements reached b.lines) bs h.1)

one_plain : (ss : List Signature) (line number : ℕ) (bytes : List ℕ) (of : Option ℕ) → IsPlain (listed_data ss line number bytes of)
one_plain ss line number bytes None = refl
one_plain ss line number bytes (Some of) = refl

data_plain : (ss : List Signature) (line : ℕ) (ds : List DataBlock) → AllByRecursion IsPlain (listed_data_blocks ss line ds)
data_plain ss line [] = tt
data_plain ss line (d ∷ ds) = (one_plain ss line d.number d.bytes d.instance_of, data_plain ss line ds)

tree_plain : (p : Program) → AllByRecursion HasCode (map (λ b. b.id) (in_lines p.code_blocks)) → AllByRecursion IsPlain (listed_tree p).blocks
unfolding listed_tree
tree_plain p h =
    let ss = signatures (chains_of p.code_blocks) p.code_blocks in
    all_append IsPlain (listed_blocks ss 1 (in_lines p.code_blocks)) (listed_data_blocks ss (line_reached 1 (in_lines p.code_blocks)) p.data_blocks)
    (code_plain ss 1 (in_lines p.code_blocks) h) (data_plain ss (line_reached 1 (in_lines p.code_blocks)) p.data_blocks)

source_code : (t : Tree) (symbols : List Symbol) → AllByRecursion HasCode (map (λ b. b.id) (in_lines (program_in symbols t).code_blocks))
unfolding code_blocks_of layouts_of layouts_by
source_code t symbols = code_program HasCode (codes_of t symbols) (source_have_code t symbols)

pub no_types : HasNoTypes
no_types t symbols listed =
    let p = program_in symbols t in
    types_plain listed (listed_tree p).blocks (tree_plain p (source_code t symbols))
    ∙ ap (λ (z : List (Option BlockId)). record { symbols = listed; ids = z; depths = map (λ b. 0) (listed_tree p).blocks; bits = map (λ b. 0) (listed_tree p).blocks }) (ids_listed listed p)
