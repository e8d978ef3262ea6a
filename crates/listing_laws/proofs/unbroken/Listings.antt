-- The blocks of a listing: none breaks a rule as a whole, and each data block is laid as it was.
use Rattle.std.proofs.Common.{◌≡◌, ℕ, zero, suc, ◌+◌, ◌≤◌, ◌/◌, Bool, true, false, cond, List, [], ◌∷◌, ◌++◌, length, map, Option, Some, None, is_none, refl, sym, ap, subst, ◌∙◌, arith}
use Rattle.std.specs.Prelude.{◌||◌, if◌then◌else◌, nat_lt, slice_get}
use Rattle.std.specs.List.{AllByRecursion, sum_by}
use Rattle.std.proofs.lemmas.Bool.Decides.{nat_tests}
use Rattle.plc_base.proofs.ListLemmas.{all_append}
use Rattle.plc_base.specs.Kinds.{is_code, is_data_block, is_function_block, is_same_kind}
use Rattle.plc_base.specs.declared.blocks.BlockId.{BlockId}
use Rattle.plc_base.specs.declared.blocks.BlockKind.{BlockKind}
use Rattle.plc_base.specs.declared.blocks.BlockKind.TheVariants as kinds
use Rattle.flat_code.specs.Checking.{good_counts}
use Rattle.flat_code.specs.Programs.{CodeBlock, DataBlock, Program}
use Rattle.image_file.specs.Writing.{BlockFitsFields}
use Rattle.stl_ast.specs.Literals.{AreBytes}
use Rattle.stl_ast.specs.declared.blocks.Block.{Block}
use Rattle.stl_ast.specs.declared.blocks.Tree.{Tree}
use Rattle.stl_symbols.specs.Symbol.{Symbol}
use Rattle.block_layout.specs.Blocks.{id_of, known_block}
use Rattle.block_layout.specs.Layouts.{block_layout, layouts_by, layouts_from, layouts_of}
use Rattle.block_layout.specs.Lengths.{block_bits, length_of_block, shape_at, shape_of}
use Rattle.block_layout.specs.Measures.{types_of_source}
use Rattle.block_layout.specs.Rule22.{is_block_twice, rule_22}
use Rattle.block_layout.specs.Rule23.{has_unknown_head, is_unknown_shape}
use Rattle.block_layout.specs.Rule43.{contains_itself}
use Rattle.block_layout.specs.Rule44.{has_wrong_number, rule_44}
use Rattle.block_layout.specs.Rule50.{has_too_much_local}
use Rattle.block_layout.specs.Rule51.{is_too_long}
use Rattle.block_layout.specs.Rule52.{has_too_many_parameters}
use Rattle.block_layout.specs.Rule53.{data_blocks, is_one_too_many}
use Rattle.block_layout.specs.Rule54.{data_length, exceeds_total, total_data_length}
use Rattle.block_layout.specs.Rule55.{has_too_many_statements}
use Rattle.block_layout.specs.Types.{Types}
use Rattle.block_layout.specs.declared.blocks.BlockLayout.{BlockLayout}
use Rattle.block_layout.specs.declared.blocks.Shape.TheVariants as shape
use Rattle.stl_codegen.specs.CompiledBlock.{StatedBlock, compiled_block}
use Rattle.stl_codegen.specs.GeneratedProgram.{code_blocks_of}
use Rattle.stl_list.specs.CodeBlocks.{in_lines, line_reached, listed_block, listed_blocks}
use Rattle.stl_list.specs.DataBlocks.{function_block, listed_data, listed_data_blocks}
use Rattle.stl_list.specs.JoinedParameters.{chains_of}
use Rattle.stl_list.specs.Lines.{line_behind_statements, stands_before}
use Rattle.stl_list.specs.Listing.{listed_tree}
use Rattle.stl_list.specs.Signatures.{Signature, formals_of_block, signatures}
use Rattle.sem_kept.specs.AcceptedSource.{IsAccepted, program_in}
use Rattle.sem_kept.specs.Sizes.{IsSmall}
use Rattle.block_layout.proofs.HeadLemmas.{AllHeads, heads_none}
use Rattle.sem_kept.proofs.accepted.Accepted.{IsSoundHead, IsSoundTree, all_mapped, right_tree, sound_code_blocks}
use Rattle.sem_kept.proofs.accepted.Sizes.{accepted_is_small}
use Rattle.sem_kept.proofs.accepted.SizesSums.{summed_ones}
use Rattle.listing_laws.specs.ListedSource.{AreWholeAgain, listed_tree_again}
use Rattle.listing_laws.specs.ListedDeclarations.{IsDeclaredAgain, signatures_in}
use Rattle.listing_laws.specs.Ids.{data_id_of_number, program_ids}
use Rattle.listing_laws.specs.OwnData.{IsOwnDataAgain}
use Rattle.listing_laws.specs.Rules.{AreDeclarationsRight, IsHeadRight}
use Rattle.listing_laws.specs.Whole.{AreBlocksRightAgain, AreDataLaid, HasShapeAgain, IsDataAt}
use Rattle.listing_laws.proofs.HeadLemmas.{blocks_once}
use Rattle.listing_laws.proofs.IdLemmas.{blocks_found, source_ids, source_symbols}
use Rattle.listing_laws.proofs.OrderLemmas.{all_sorted, length_sorted}
use Rattle.listing_laws.proofs.declared.Blocks.{IsSourced, are_declared_again, listed_heads, listed_right, listed_short, sourced}
use Rattle.listing_laws.proofs.declared.OwnData.{own_data}
use Rattle.listing_laws.proofs.unbroken.Bodies.{few_statements}
use Rattle.listing_laws.proofs.unbroken.Heads.{blocks_right, heads_whole}
use Rattle.listing_laws.proofs.unbroken.Instances.{HasFunctionBlock, IsStored, all_stored, data_long, structure_long}
use Rattle.listing_laws.proofs.unbroken.Parameters.{few_formals, few_parameters}
use Rattle.listing_laws.proofs.unbroken.Sums.{both_summed, data_block_count, data_size, few_data, short_data, source_bytes}

-- ---- lists

each_line : {A : Type 0} (P : ℕ → A → Type 0) (xs : List A) → ((line : ℕ) → AllByRecursion (P line) xs) → AllByRecursion (λ x. (line : ℕ) → P line x) xs
each_line P [] h = tt
each_line P (x ∷ xs) h = (λ line. (h line).0, each_line P xs (λ line. (h line).1))

all_into : {A B : Type 0} (P : B → Type 0) (f : A → B) (xs : List A) → AllByRecursion (λ x. P (f x)) xs → AllByRecursion P (map f xs)
all_into P f [] h = tt
all_into P f (x ∷ xs) h = (h.0, all_into P f xs h.1)

got_there : {A : Type 0} (P : A → Type 0) (xs : List A) (k : ℕ) (x : A) → AllByRecursion P xs → slice_get xs k ≡ Some x → P x
got_there P [] k x h e = absurd cc
got_there P (y ∷ xs) zero x h e = let same : y ≡ x = cc in subst P same h.0
got_there P (y ∷ xs) (suc k) x h e = got_there P xs k x h.1 e

mapped_there : {A B : Type 0} (f : A → B) (xs : List A) (rest : List B) (k : ℕ) (x : A) → slice_get xs k ≡ Some x → slice_get (map f xs ++ rest) k ≡ Some (f x)
mapped_there f [] rest k x e = absurd cc
mapped_there {A = A} {B = B} f (y ∷ xs) rest zero x e = let same : y ≡ x = cc in ap (λ (z : A). Some (f z)) same
mapped_there f (y ∷ xs) rest (suc k) x e = mapped_there f xs rest k x e

at_back : {A B : Type 0} (front : List B) (f : A → B) (xs : List A) (n k : ℕ) (x : A) → length front ≡ n → slice_get xs k ≡ Some x → slice_get (front ++ map f xs) (n + k) ≡ Some (f x)
at_back [] f [] n k x size e = absurd cc
at_back {A = A} {B = B} [] f (y ∷ xs) n zero x size e =
    let none : n + 0 ≡ 0 = omega (arith, size) in
    let same : y ≡ x = cc in
    ap (slice_get (f y ∷ map f xs)) none ∙ ap (λ (z : A). Some (f z)) same
at_back {B = B} [] f (y ∷ xs) n (suc k) x size e =
    let none : n + suc k ≡ suc (0 + k) = omega (arith, size) in
    ap (slice_get (f y ∷ map f xs)) none ∙ at_back [] f xs 0 k x refl e
at_back (z ∷ front) f xs n k x size e =
    let more : n + k ≡ suc (length front + k) = omega (arith, size) in
    ap (slice_get (z ∷ (front ++ map f xs))) more ∙ at_back front f xs (length front) k x refl e

-- ---- a listed block

-- a block breaks none of the rules of one block, whatever stands before it
record IsBlockRight (y : Types) (blocks : List Block) (b : Block) : Type 0 where
  by_23 : has_unknown_head y b ≡ false
  by_43 : (before : List Block) → contains_itself y blocks before b ≡ false
  by_44 : has_wrong_number y.symbols b ≡ false
  by_50 : has_too_much_local y b ≡ false
  by_51 : is_too_long y blocks b ≡ false
  by_52 : has_too_many_parameters b ≡ false
  by_55 : has_too_many_statements b ≡ false
  declared : AreDeclarationsRight y b

own_kind : (k : BlockKind) → is_same_kind k k ≡ true
own_kind kinds.Ob = refl
own_kind kinds.Fc = refl
own_kind kinds.Fb = refl
own_kind kinds.Db = refl
own_kind kinds.Udt = refl
own_kind kinds.Sfc = refl

code_known : (y : Types) (ss : List Signature) (reached : ℕ) (b : CodeBlock) → has_unknown_head y (listed_block ss reached b) ≡ false
code_known y ss reached b = ap (λ (t : Bool). is_none (if t then Some b.id else None) || false) (own_kind b.id.kind)

abbrev IsFineCode : (y : Types) (blocks : List Block) (ss : List Signature) → CodeBlock → Type 0
IsFineCode y blocks ss b = (line : ℕ) → IsBlockRight y blocks (listed_block ss line b)

codes_fine : (y : Types) (blocks : List Block) (ss : List Signature) → ((id : BlockId) → length (formals_of_block ss id) ≤ 60) → (bs : List CodeBlock)
    → AllByRecursion (λ b. (line : ℕ) → IsHeadRight y (listed_block ss line b)) bs → AllByRecursion (λ b. (line : ℕ) → is_too_long y blocks (listed_block ss line b) ≡ false) bs
    → AllByRecursion (λ b. (line : ℕ) → has_too_many_statements (listed_block ss line b) ≡ false) bs → AllByRecursion (λ b. (line : ℕ) → AreDeclarationsRight y (listed_block ss line b)) bs
    → AllByRecursion (IsFineCode y blocks ss) bs
codes_fine y blocks ss few [] heads short bodies declared = tt
codes_fine y blocks ss few (b ∷ bs) heads short bodies declared = (
  λ line. record {
    by_23 = code_known y ss line b;
    by_43 = λ before. (heads.0 line).by_43 blocks before;
    by_44 = (heads.0 line).by_44 y.symbols;
    by_50 = (heads.0 line).by_50;
    by_51 = short.0 line;
    by_52 = few_parameters ss line b (few b.id);
    by_55 = bodies.0 line;
    declared = declared.0 line;
  },
  codes_fine y blocks ss few bs heads.1 short.1 bodies.1 declared.1,
)

bodies_fine : (ss : List Signature) (xs : List StatedBlock) → AllByRecursion BlockFitsFields (map compiled_block xs)
    → AllByRecursion (λ b. (line : ℕ) → has_too_many_statements (listed_block ss line b) ≡ false) (map compiled_block xs)
bodies_fine ss [] h = tt
bodies_fine ss (x ∷ xs) h = (λ line. few_statements ss line x h.0.lines, bodies_fine ss xs h.1)

listed_fine : (y : Types) (blocks : List Block) (ss : List Signature) (reached : ℕ) (bs : List CodeBlock) → AllByRecursion (IsFineCode y blocks ss) bs
    → AllByRecursion (IsBlockRight y blocks) (listed_blocks ss reached bs)
listed_fine y blocks ss reached [] h = tt
listed_fine y blocks ss reached (b ∷ bs) h = (h.0 reached, listed_fine y blocks ss (line_behind_statements reached b.lines) bs h.1)

-- ---- a listed data block

-- the shape and the length that it has
record IsLaidAgain (y : Types) (blocks : List Block) (p : Program) (line : ℕ) (d : DataBlock) : Type 0 where
  shape : HasShapeAgain p d d.instance_of (shape_of y (listed_data (signatures_in p) line d.number d.bytes d.instance_of))
  size : length_of_block y blocks (listed_data (signatures_in p) line d.number d.bytes d.instance_of) ≡ length d.bytes

-- a code block at its place in the listing
record IsListedAt (ss : List Signature) (b : CodeBlock) (blocks : List Block) (k : ℕ) : Type 0 where
  reached : ℕ
  there : slice_get blocks k ≡ Some (listed_block ss reached b)

listed_there : (ss : List Signature) (reached : ℕ) (bs : List CodeBlock) (rest : List Block) (k : ℕ) (b : CodeBlock) → slice_get bs k ≡ Some b
    → IsListedAt ss b (listed_blocks ss reached bs ++ rest) k
listed_there ss reached [] rest k b e = absurd cc
listed_there ss reached (x ∷ bs) rest zero b e = let same : x ≡ b = cc in record { reached = reached; there = ap (λ (z : CodeBlock). Some (listed_block ss reached z)) same }
listed_there ss reached (x ∷ bs) rest (suc k) b e =
    let more = listed_there ss (line_behind_statements reached x.lines) bs rest k b e in record { reached = more.reached; there = more.there }

-- where the function block of an instance is found
instance_laid : (y : Types) (blocks : List Block) (p : Program) (line : ℕ) (d : DataBlock) (number : ℕ) (f : HasFunctionBlock (in_lines p.code_blocks) number (length d.bytes))
    → known_block (function_block number) y.ids ≡ Some f.place → IsListedAt (signatures_in p) f.block blocks f.place → IsDeclaredAgain (signatures_in p) f.block
    → HasShapeAgain p d (Some number) (shape_of y (listed_data (signatures_in p) line d.number d.bytes (Some number)))
    × (length_of_block y blocks (listed_data (signatures_in p) line d.number d.bytes (Some number)) ≡ length d.bytes)
instance_laid y blocks p line d number f known listed again =
    let ss = signatures_in p in
    let b = listed_data ss line d.number d.bytes (Some number) in
    let c = listed_block ss listed.reached f.block in
    let of_ : shape_of y b ≡ shape.Of f.place = ap shape_at known in
    let kind : f.block.id.kind ≡ kinds.Fb = ap (λ (i : BlockId). i.kind) f.id in (
      record { place = f.place; block = f.block; there = f.there; id = f.id; length = f.size; shape = of_ },
      data_long y blocks b (shape.Of f.place) refl of_ ∙ ap (λ (o : Option Block). block_bits y o / 8) listed.there
          ∙ sym (structure_long y blocks c kind refl refl) ∙ again.instance_len y blocks listed.reached (ap is_function_block kind) ∙ f.size,
    )

-- what is needed of the tree
record IsReady (y : Types) (blocks : List Block) (p : Program) : Type 0 where
  found : (k : ℕ) (id : BlockId) → slice_get (program_ids p) k ≡ Some id → known_block id y.ids ≡ Some k
  listed : (k : ℕ) (b : CodeBlock) → slice_get (in_lines p.code_blocks) k ≡ Some b → IsListedAt (signatures_in p) b blocks k
  again : AllByRecursion (IsDeclaredAgain (signatures_in p)) (in_lines p.code_blocks)

data_laid : (y : Types) (blocks : List Block) (p : Program) (line : ℕ) (d : DataBlock) → IsReady y blocks p → IsStored (in_lines p.code_blocks) d
    → (d.instance_of ≡ None → IsOwnDataAgain (signatures_in p) d) → IsLaidAgain y blocks p line d
data_laid y blocks p line d ready stored own = let both = by d.instance_of refl in record { shape = both.0; size = both.1 }
  where
    by : (o : Option ℕ) → d.instance_of ≡ o
        → HasShapeAgain p d o (shape_of y (listed_data (signatures_in p) line d.number d.bytes o)) × (length_of_block y blocks (listed_data (signatures_in p) line d.number d.bytes o) ≡ length d.bytes)
    by None is = (refl, (own is).length y blocks line)
    by (Some number) is =
        let f = stored.instance number is in
        let named : slice_get (program_ids p) f.place ≡ Some (function_block number) =
        mapped_there (λ (b : CodeBlock). b.id) (in_lines p.code_blocks) (map (λ (d : DataBlock). data_id_of_number d.number) p.data_blocks) f.place f.block f.there ∙ ap (λ (i : BlockId). Some i) f.id in
        instance_laid y blocks p line d number f (ready.found f.place (function_block number) named) (ready.listed f.place f.block f.there)
        (got_there (IsDeclaredAgain (signatures_in p)) (in_lines p.code_blocks) f.place f.block ready.again f.there)

datas_laid : (y : Types) (blocks : List Block) (p : Program) (line : ℕ) (ds : List DataBlock) → IsReady y blocks p → AllByRecursion (IsStored (in_lines p.code_blocks)) ds
    → AllByRecursion (λ d. d.instance_of ≡ None → IsOwnDataAgain (signatures_in p) d) ds → AllByRecursion (IsLaidAgain y blocks p line) ds
datas_laid y blocks p line [] ready stored own = tt
datas_laid y blocks p line (d ∷ ds) ready stored own = (data_laid y blocks p line d ready stored.0 own.0, datas_laid y blocks p line ds ready stored.1 own.1)

data_known : (y : Types) (p : Program) (line : ℕ) (d : DataBlock) (o : Option ℕ) → HasShapeAgain p d o (shape_of y (listed_data (signatures_in p) line d.number d.bytes o))
    → has_unknown_head y (listed_data (signatures_in p) line d.number d.bytes o) ≡ false
data_known y p line d None h = refl
data_known y p line d (Some number) h = ap is_unknown_shape h.shape

pub data_named : (symbols : List Symbol) (ss : List Signature) (line number : ℕ) (bytes : List ℕ) (o : Option ℕ) → id_of symbols (listed_data ss line number bytes o) ≡ Some (data_id_of_number number)
data_named symbols ss line number bytes None = refl
data_named symbols ss line number bytes (Some of) = refl

data_bare : (ss : List Signature) (line number : ℕ) (bytes : List ℕ) (o : Option ℕ)
    → (has_too_many_parameters (listed_data ss line number bytes o) ≡ false) × (has_too_many_statements (listed_data ss line number bytes o) ≡ false)
data_bare ss line number bytes None = (refl, refl)
data_bare ss line number bytes (Some of) = (refl, refl)

not_long : (n : ℕ) → n ≤ 16384 → nat_lt 16384 n ≡ false
not_long n h = grind (arith, nat_tests)

datas_fine : (y : Types) (blocks : List Block) (p : Program) (line : ℕ) (ds : List DataBlock)
    → AllByRecursion (λ d. IsHeadRight y (listed_data (signatures_in p) line d.number d.bytes d.instance_of)) ds
    → AllByRecursion (λ d. AreDeclarationsRight y (listed_data (signatures_in p) line d.number d.bytes d.instance_of)) ds
    → AllByRecursion (IsStored (in_lines p.code_blocks)) ds → AllByRecursion (IsLaidAgain y blocks p line) ds
    → AllByRecursion (λ d. IsBlockRight y blocks (listed_data (signatures_in p) line d.number d.bytes d.instance_of)) ds
datas_fine y blocks p line [] heads declared stored laid = tt
datas_fine y blocks p line (d ∷ ds) heads declared stored laid =
    let bare = data_bare (signatures_in p) line d.number d.bytes d.instance_of in (
      record {
        by_23 = data_known y p line d d.instance_of laid.0.shape;
        by_43 = λ before. heads.0.by_43 blocks before;
        by_44 = heads.0.by_44 y.symbols;
        by_50 = heads.0.by_50;
        by_51 = ap (nat_lt 16384) laid.0.size ∙ not_long (length d.bytes) stored.0.short;
        by_52 = bare.0;
        by_55 = bare.1;
        declared = declared.0;
      },
      datas_fine y blocks p line ds heads.1 declared.1 stored.1 laid.1,
    )

-- ---- all heads

sound_heads : (y : Types) (blocks before bs : List Block) → AllHeads (λ before b. is_block_twice y before b ≡ false) before bs → AllByRecursion (IsBlockRight y blocks) bs
    → AllHeads (λ before b. is_one_too_many before b ≡ false) before bs → AllHeads (λ before b. exceeds_total y blocks before b ≡ false) before bs → AllHeads (IsSoundHead y blocks) before bs
sound_heads y blocks before [] once fine few short = tt
sound_heads y blocks before (b ∷ bs) once fine few short = (
  record {
    by_22 = once.0;
    by_23 = fine.0.by_23;
    by_43 = fine.0.by_43 before;
    by_44 = fine.0.by_44;
    by_50 = fine.0.by_50;
    by_51 = fine.0.by_51;
    by_52 = fine.0.by_52;
    by_53 = few.0;
    by_54 = short.0;
    by_55 = fine.0.by_55;
  },
  sound_heads y blocks (b ∷ before) bs once.1 fine.1 few.1 short.1,
)

all_declared : (y : Types) (blocks bs : List Block) → AllByRecursion (IsBlockRight y blocks) bs → AllByRecursion (AreDeclarationsRight y) bs
all_declared y blocks [] h = tt
all_declared y blocks (b ∷ bs) h = (h.0.declared, all_declared y blocks bs h.1)

heads_once : (y : Types) (blocks : List Block) → rule_22 y blocks ≡ [] → AllHeads (λ before b. is_block_twice y before b ≡ false) [] blocks
unfolding rule_22
heads_once y blocks h = heads_none (is_block_twice y) 22 [] blocks h

-- ---- the sums of data blocks

no_data : (k : BlockKind) → is_code k ≡ true → is_data_block k ≡ false
no_data kinds.Ob h = refl
no_data kinds.Fc h = refl
no_data kinds.Fb h = refl
no_data _ h = absurd cc

codes_no_data : (ss : List Signature) (reached : ℕ) (bs : List CodeBlock) → AllByRecursion (λ b. is_code b.id.kind ≡ true) bs → AllByRecursion (λ b. is_data_block b.kind ≡ false) (listed_blocks ss reached bs)
codes_no_data ss reached [] h = tt
codes_no_data ss reached (b ∷ bs) h = (no_data b.id.kind h.0, codes_no_data ss (line_behind_statements reached b.lines) bs h.1)

data_counted : (ss : List Signature) (line : ℕ) (ds : List DataBlock) → AllByRecursion (λ d. data_block_count (listed_data ss line d.number d.bytes d.instance_of) ≡ 1) ds
data_counted ss line [] = tt
data_counted ss line (d ∷ ds) = (by d.instance_of, data_counted ss line ds)
  where
    by : (o : Option ℕ) → data_block_count (listed_data ss line d.number d.bytes o) ≡ 1
    by None = refl
    by (Some of) = refl

data_measured : (y : Types) (blocks : List Block) (p : Program) (line : ℕ) (ds : List DataBlock) → AllByRecursion (IsLaidAgain y blocks p line) ds
    → AllByRecursion (λ d. data_length y blocks (listed_data (signatures_in p) line d.number d.bytes d.instance_of) ≡ data_size d) ds
data_measured y blocks p line [] h = tt
data_measured y blocks p line (d ∷ ds) h = (by d.instance_of h.0.size, data_measured y blocks p line ds h.1)
  where
    by : (o : Option ℕ) → length_of_block y blocks (listed_data (signatures_in p) line d.number d.bytes o) ≡ length d.bytes → data_length y blocks (listed_data (signatures_in p) line d.number d.bytes o) ≡ length d.bytes
    by None e = e
    by (Some of) e = e

-- ---- a listing

-- what stands of it
record IsRightListing (symbols : List Symbol) (t : Tree) (others : List Symbol) : Type 0 where
  heads : AllHeads (IsSoundHead (types_of_source others (listed_tree_again symbols t).blocks) (listed_tree_again symbols t).blocks) [] (listed_tree_again symbols t).blocks
  declared : AllByRecursion (AreDeclarationsRight (types_of_source others (listed_tree_again symbols t).blocks)) (listed_tree_again symbols t).blocks
  laid : AllByRecursion (IsLaidAgain (types_of_source others (listed_tree_again symbols t).blocks) (listed_tree_again symbols t).blocks (program_in symbols t) (line_reached 1 (in_lines (program_in symbols t).code_blocks)))
      (program_in symbols t).data_blocks

lines_all : (P : CodeBlock → Type 0) (bs : List CodeBlock) → AllByRecursion P bs → AllByRecursion P (in_lines bs)
unfolding in_lines
lines_all P bs h = all_sorted P stands_before bs h

formals_short : (p : Program) → AllByRecursion (λ b. length b.params ≤ 60) p.code_blocks → (id : BlockId) → length (formals_of_block (signatures_in p) id) ≤ 60
unfolding signatures
formals_short p h id = few_formals (chains_of p.code_blocks) 0 p.code_blocks h id

tree_listed : (p : Program) (k : ℕ) (b : CodeBlock) → slice_get (in_lines p.code_blocks) k ≡ Some b → IsListedAt (signatures_in p) b (listed_tree p).blocks k
unfolding listed_tree
tree_listed p k b e =
    let ss = signatures_in p in
    listed_there ss 1 (in_lines p.code_blocks) (listed_data_blocks ss (line_reached 1 (in_lines p.code_blocks)) p.data_blocks) k b e

abbrev data_line : Program → ℕ
data_line p = line_reached 1 (in_lines p.code_blocks)

abbrev listed_in : Program → DataBlock → Block
listed_in p d = listed_data (signatures_in p) (data_line p) d.number d.bytes d.instance_of

tree_fine : (P : Block → Type 0) (p : Program) → AllByRecursion P (listed_blocks (signatures_in p) 1 (in_lines p.code_blocks)) → AllByRecursion (λ d. P (listed_in p d)) p.data_blocks
    → AllByRecursion P (listed_tree p).blocks
unfolding listed_tree
tree_fine P p h k =
    all_append P (listed_blocks (signatures_in p) 1 (in_lines p.code_blocks)) (map (listed_in p) p.data_blocks) h (all_into P (listed_in p) p.data_blocks k)

tree_counted : (p : Program) → AllByRecursion (λ b. is_code b.id.kind ≡ true) (in_lines p.code_blocks) → data_blocks (listed_tree p).blocks ≡ length p.data_blocks
unfolding listed_tree
tree_counted p h =
    both_summed data_block_count (λ b e. ap (λ (t : Bool). cond {A = ℕ} t 1 0) e) (λ d. 1) (listed_in p)
    (listed_blocks (signatures_in p) 1 (in_lines p.code_blocks)) p.data_blocks (codes_no_data (signatures_in p) 1 (in_lines p.code_blocks) h)
    (data_counted (signatures_in p) (data_line p) p.data_blocks)
    ∙ summed_ones p.data_blocks

tree_measured : (y : Types) (blocks : List Block) (p : Program) → AllByRecursion (λ b. is_code b.id.kind ≡ true) (in_lines p.code_blocks)
    → AllByRecursion (IsLaidAgain y blocks p (data_line p)) p.data_blocks → total_data_length y blocks (listed_tree p).blocks ≡ sum_by data_size p.data_blocks
unfolding listed_tree
tree_measured y blocks p h k =
    both_summed (data_length y blocks) (λ b e. ap (λ (t : Bool). if t then length_of_block y blocks b else 0) e) data_size (listed_in p)
    (listed_blocks (signatures_in p) 1 (in_lines p.code_blocks)) p.data_blocks (codes_no_data (signatures_in p) 1 (in_lines p.code_blocks) h)
    (data_measured y blocks p (data_line p) p.data_blocks k)

few_counted : (codes datas names : ℕ) → good_counts codes datas names ≡ true → datas ≤ 256
few_counted codes datas names h = grind (arith, nat_tests)

right_listing : (source file : List ℕ) (symbols : List Symbol) (t : Tree) → IsAccepted source file symbols t → AreBytes source → AreBytes file → (others : List Symbol) → IsRightListing symbols t others
right_listing source file symbols t accepted bytes file_bytes others = record {
  heads = sound_heads y blocks [] blocks (heads_once y blocks (blocks_once t symbols others tree.by_layout.by_22)) fine
      (few_data [] blocks (omega (arith, data_count, most)))
      (short_data y blocks [] blocks (omega (arith, measured, long)));
  declared = all_declared y blocks blocks fine;
  laid = laid;
}
  where
    tree : IsSoundTree symbols t
    tree = right_tree source file symbols t accepted

    p : Program
    p = program_in symbols t

    ss : List Signature
    ss = signatures_in p

    blocks : List Block
    blocks = (listed_tree_again symbols t).blocks

    y : Types
    y = types_of_source others blocks

    small : IsSmall p
    small = accepted_is_small source file symbols t accepted

    from : AllByRecursion IsSourced p.code_blocks
    from = all_into IsSourced compiled_block (code_blocks_of t symbols (layouts_of t symbols)) (sound_code_blocks symbols t (λ x. IsSourced (compiled_block x)) tree (sourced symbols t))

    codes : AllByRecursion (λ b. is_code b.id.kind ≡ true) (in_lines p.code_blocks)
    codes = lines_all (λ b. is_code b.id.kind ≡ true) p.code_blocks (all_mapped IsSourced (λ b. is_code b.id.kind ≡ true) (λ b s. s.code) p.code_blocks from)

    few : (id : BlockId) → length (formals_of_block ss id) ≤ 60
    few = formals_short p (all_mapped IsSourced (λ b. length b.params ≤ 60) (λ b s. s.few) p.code_blocks from)

    fine_codes : AllByRecursion (IsFineCode y blocks ss) p.code_blocks
    fine_codes =
        codes_fine y blocks ss few p.code_blocks
        (each_line (λ line b. IsHeadRight y (listed_block ss line b)) p.code_blocks (λ line. (listed_heads source file symbols t accepted bytes file_bytes y line).0))
        (each_line (λ line b. is_too_long y blocks (listed_block ss line b) ≡ false) p.code_blocks (λ line. listed_short source file symbols t accepted bytes file_bytes y blocks line))
        (bodies_fine ss (code_blocks_of t symbols (layouts_of t symbols)) small.blocks)
        (each_line (λ line b. AreDeclarationsRight y (listed_block ss line b)) p.code_blocks (λ line. (listed_right source file symbols t accepted bytes file_bytes y line).0))

    stored : AllByRecursion (IsStored (in_lines p.code_blocks)) p.data_blocks
    stored = all_stored symbols t tree

    right_44 : rule_44 symbols t.blocks ≡ []
    right_44 = ap (λ (z : List Symbol). rule_44 z t.blocks) (sym (source_symbols symbols t.blocks)) ∙ tree.by_layout.by_44

    ready : IsReady y blocks p
    ready = record {
      found = λ k id e. ap (known_block id) (source_ids others blocks) ∙ blocks_found t symbols others k id tree.by_layout.by_22 right_44 e;
      listed = tree_listed p;
      again = lines_all (IsDeclaredAgain ss) p.code_blocks (are_declared_again source file symbols t accepted bytes file_bytes);
    }

    laid : AllByRecursion (IsLaidAgain y blocks p (data_line p)) p.data_blocks
    laid = datas_laid y blocks p (data_line p) p.data_blocks ready stored (own_data source file symbols t accepted bytes file_bytes)

    fine : AllByRecursion (IsBlockRight y blocks) blocks
    fine =
        tree_fine (IsBlockRight y blocks) p (listed_fine y blocks ss 1 (in_lines p.code_blocks) (lines_all (IsFineCode y blocks ss) p.code_blocks fine_codes))
        (datas_fine y blocks p (data_line p) p.data_blocks (listed_heads source file symbols t accepted bytes file_bytes y (data_line p)).1
        (listed_right source file symbols t accepted bytes file_bytes y (data_line p)).1 stored laid)

    data_count : data_blocks blocks ≡ length p.data_blocks
    data_count = tree_counted p codes

    most : length p.data_blocks ≤ 256
    most = few_counted (length p.code_blocks) (length p.data_blocks) (length p.names) small.counts

    measured : total_data_length y blocks blocks ≡ sum_by data_size p.data_blocks
    measured = tree_measured y blocks p codes laid

    long : sum_by data_size p.data_blocks ≤ 2097152
    long = source_bytes symbols t tree

pub are_whole : AreWholeAgain
unfolding layouts_of layouts_by
are_whole source file symbols t accepted bytes file_bytes others =
    let blocks = (listed_tree_again symbols t).blocks in
    heads_whole (types_of_source others blocks) blocks [] blocks (right_listing source file symbols t accepted bytes file_bytes others).heads

pub are_right : AreBlocksRightAgain
are_right source file symbols t accepted bytes file_bytes others =
    let right = right_listing source file symbols t accepted bytes file_bytes others in
    blocks_right others (listed_tree_again symbols t).blocks right.heads right.declared

-- ---- the layouts of data blocks

record HasLayout (y : Types) (blocks : List Block) (ls : List BlockLayout) (k : ℕ) (b : Block) : Type 0 where
  before : List Block
  there : slice_get ls k ≡ Some (block_layout y blocks before b)

laid_there : (y : Types) (blocks before bs : List Block) (k : ℕ) (b : Block) → slice_get bs k ≡ Some b → HasLayout y blocks (layouts_from y blocks before bs) k b
laid_there y blocks before [] k b e = absurd cc
laid_there y blocks before (x ∷ xs) zero b e = let same : x ≡ b = cc in record { before = before; there = ap (λ (z : Block). Some (block_layout y blocks before z)) same }
laid_there y blocks before (x ∷ xs) (suc k) b e = let more = laid_there y blocks (x ∷ before) xs k b e in record { before = more.before; there = more.there }

layout_there : (symbols : List Symbol) (t : Tree) (k : ℕ) (b : Block) → slice_get t.blocks k ≡ Some b → HasLayout (types_of_source symbols t.blocks) t.blocks (layouts_of t symbols) k b
unfolding layouts_of layouts_by
layout_there symbols t k b e = laid_there (types_of_source symbols t.blocks) t.blocks [] t.blocks k b e

listed_long : (ss : List Signature) (reached : ℕ) (bs : List CodeBlock) → length (listed_blocks ss reached bs) ≡ length bs
listed_long ss reached [] = refl
listed_long ss reached (b ∷ bs) = ap suc (listed_long ss (line_behind_statements reached b.lines) bs)

lines_long : (bs : List CodeBlock) → length (in_lines bs) ≡ length bs
unfolding in_lines
lines_long bs = length_sorted stands_before bs

data_there : (p : Program) (k : ℕ) (d : DataBlock) → slice_get p.data_blocks k ≡ Some d → slice_get (listed_tree p).blocks (length p.code_blocks + k) ≡ Some (listed_in p d)
unfolding listed_tree
data_there p k d e =
    at_back (listed_blocks (signatures_in p) 1 (in_lines p.code_blocks)) (listed_in p) p.data_blocks (length p.code_blocks) k d
    (listed_long (signatures_in p) 1 (in_lines p.code_blocks) ∙ lines_long p.code_blocks) e

-- the layout of a listed data block
data_at : (y : Types) (blocks before : List Block) (p : Program) (ls : List BlockLayout) (place : ℕ) (d : DataBlock) → slice_get blocks place ≡ Some (listed_in p d)
    → slice_get ls place ≡ Some (block_layout y blocks before (listed_in p d)) → IsLaidAgain y blocks p (data_line p) d → IsDataAt p blocks ls place d
unfolding block_layout
data_at y blocks before p ls place d there layout laid = record {
  layout = block_layout y blocks before (listed_in p d);
  block = there;
  layout_is = layout;
  id = data_named y.symbols (signatures_in p) (data_line p) d.number d.bytes d.instance_of;
  size = laid.size;
  shape = laid.shape;
}

pub data_laid_again : AreDataLaid
data_laid_again source file symbols t accepted bytes file_bytes others k d e =
    let p = program_in symbols t in
    let tree = listed_tree_again symbols t in
    let y = types_of_source others tree.blocks in
    let place = length p.code_blocks + k in
    let right = right_listing source file symbols t accepted bytes file_bytes others in
    let there = data_there p k d e in
    let layout = layout_there others tree place (listed_in p d) there in
    data_at y tree.blocks layout.before p (layouts_of tree others) place d there layout.there (got_there (IsLaidAgain y tree.blocks p (data_line p)) p.data_blocks k d right.laid e)
