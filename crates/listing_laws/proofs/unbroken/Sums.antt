-- So many data blocks, and bytes of them, as an accepted source has: a listing has no more (rules 53 and 54).
use Rattle.std.proofs.Common.{◌≡◌, ℕ, ◌+◌, ◌≤◌, Bool, true, false, cond, List, [], ◌∷◌, ◌++◌, length, map, Option, Some, None, refl, sym, ap, ◌∙◌, arith}
use Rattle.std.specs.Prelude.{◌&&◌, if◌then◌else◌, nat_le, nat_lt}
use Rattle.std.specs.List.{AllByRecursion, sum_by}
use Rattle.std.proofs.lemmas.Bool.Decides.{nat_tests}
use Rattle.std.proofs.lemmas.List.Sums.{sum_by-append, sum_by-cons}
use Rattle.plc_base.specs.Kinds.{is_data_block}
use Rattle.plc_base.specs.declared.blocks.BlockId.{BlockId}
use Rattle.flat_code.specs.Programs.{DataBlock}
use Rattle.stl_ast.specs.declared.blocks.Block.{Block}
use Rattle.stl_ast.specs.declared.blocks.Tree.{Tree}
use Rattle.stl_symbols.specs.Symbol.{Symbol}
use Rattle.block_layout.specs.Layouts.{layouts_of}
use Rattle.block_layout.specs.Lengths.{length_of_block}
use Rattle.block_layout.specs.Measures.{types_of_source}
use Rattle.block_layout.specs.Rule53.{data_blocks, is_one_too_many}
use Rattle.block_layout.specs.Rule54.{data_length, exceeds_total, rule_54, total_data_length}
use Rattle.block_layout.specs.Types.{Types}
use Rattle.block_layout.specs.declared.blocks.BlockLayout.{BlockLayout}
use Rattle.stl_types.specs.Context.{Context}
use Rattle.stl_codegen.specs.GeneratedProgram.{generated_data_block, data_block_of, data_blocks_of, each_block}
use Rattle.stl_codegen.specs.Order.{is_data_before}
use Rattle.block_layout.proofs.HeadLemmas.{AllHeads, heads_none}
use Rattle.sem_kept.specs.SettledStatements.{context_at}
use Rattle.sem_kept.proofs.accepted.Accepted.{IsSoundBlock, IsSoundTree}
use Rattle.sem_kept.proofs.accepted.RecordData.{id_there}
use Rattle.block_layout.proofs.BlockLemmas.{kind_there}
use Rattle.sem_kept.proofs.accepted.Sizes.{laid_mapped}
use Rattle.block_layout.proofs.CountLemmas.{few_data_bytes}
use Rattle.sem_kept.proofs.accepted.SizesSums.{each_sum, sorted_sum}
use Rattle.listing_laws.proofs.unbroken.Instances.{bytes_long}

-- ---- from the sum of all to each of them

abbrev pub data_block_count : Block → ℕ
data_block_count b = cond (is_data_block b.kind) 1 0

not_many : (is : Bool) (n m : ℕ) → n + (cond is 1 0 + m) ≤ 256 → (is && nat_le 256 n) ≡ false
not_many true n m h = grind (arith, nat_tests)
not_many false n m h = refl

pub few_data : (before bs : List Block) → data_blocks before + data_blocks bs ≤ 256 → AllHeads (λ before b. is_one_too_many before b ≡ false) before bs
few_data before [] h = tt
few_data before (b ∷ bs) h =
    let here = sum_by-cons data_block_count b bs in
    let front = sum_by-cons data_block_count b before in (
      not_many (is_data_block b.kind) (data_blocks before) (data_blocks bs) (omega (arith, h, here)),
      few_data (b ∷ before) bs (omega (arith, h, here, front)),
    )

not_more : (is : Bool) (n size m : ℕ) → n + (cond is size 0 + m) ≤ 2097152 → (is && nat_lt 2097152 (n + cond is size 0)) ≡ false
not_more true n size m h = grind (arith, nat_tests)
not_more false n size m h = refl

pub short_data : (y : Types) (blocks before bs : List Block) → total_data_length y blocks before + total_data_length y blocks bs ≤ 2097152 → AllHeads (λ before b. exceeds_total y blocks before b ≡ false) before bs
short_data y blocks before [] h = tt
short_data y blocks before (b ∷ bs) h =
    let here = sum_by-cons (data_length y blocks) b bs in
    let front = sum_by-cons (data_length y blocks) b before in (
      not_more (is_data_block b.kind) (total_data_length y blocks before) (length_of_block y blocks b) (total_data_length y blocks bs) (omega (arith, h, here)),
      short_data y blocks (b ∷ before) bs (omega (arith, h, here, front)),
    )

-- ---- the sums of a listing

pub none_summed : (f : Block → ℕ) → ((b : Block) → is_data_block b.kind ≡ false → f b ≡ 0) → (bs : List Block) → AllByRecursion (λ b. is_data_block b.kind ≡ false) bs → sum_by f bs ≡ 0
none_summed f g [] h = refl
none_summed f g (b ∷ bs) h =
    let here = sum_by-cons f b bs in
    let one = g b h.0 in
    let more = none_summed f g bs h.1 in omega (arith, here, one, more)

pub same_summed : {A : Type 0} (f : Block → ℕ) (g : A → ℕ) (of : A → Block) (xs : List A) → AllByRecursion (λ x. f (of x) ≡ g x) xs → sum_by f (map of xs) ≡ sum_by g xs
same_summed f g of [] h = refl
same_summed f g of (x ∷ xs) h =
    let here = sum_by-cons f (of x) (map of xs) in
    let there = sum_by-cons g x xs in
    let one = h.0 in
    let more = same_summed f g of xs h.1 in omega (arith, here, there, one, more)

-- of blocks that are no data blocks, and data blocks behind them
pub both_summed : {A : Type 0} (f : Block → ℕ) → ((b : Block) → is_data_block b.kind ≡ false → f b ≡ 0) → (g : A → ℕ) (of : A → Block) (bs : List Block) (xs : List A)
    → AllByRecursion (λ b. is_data_block b.kind ≡ false) bs → AllByRecursion (λ x. f (of x) ≡ g x) xs → sum_by f (bs ++ map of xs) ≡ sum_by g xs
both_summed f none g of bs xs h k =
    let all = sum_by-append f bs (map of xs) in
    let code = none_summed f none bs h in
    let data_ = same_summed f g of xs k in omega (arith, all, code, data_)

-- ---- the bytes of the data blocks of a source

abbrev pub data_size : DataBlock → ℕ
data_size d = length d.bytes

one_size : (symbols : List Symbol) (t : Tree) (k : ℕ) (b : Block) (l : BlockLayout) → IsSoundBlock symbols t k b l
    → sum_by data_size (data_block_of (context_at symbols t k) l l.id) ≤ data_length (types_of_source symbols t.blocks) t.blocks b
one_size symbols t k b l h = by l.id refl
  where
    y : Types
    y = types_of_source symbols t.blocks

    by : (found : Option BlockId) → l.id ≡ found → sum_by data_size (data_block_of (context_at symbols t k) l found) ≤ data_length y t.blocks b
    by None named = omega arith
    by (Some id) named = test (is_data_block id.kind) refl
      where
        test : (is : Bool) → is_data_block id.kind ≡ is → sum_by data_size (if is then generated_data_block (context_at symbols t k) l id ∷ [] else []) ≤ data_length y t.blocks b
        test true is =
            let kind : is_data_block b.kind ≡ true = ap is_data_block (kind_there y.symbols b id (sym (id_there symbols t k b l h) ∙ named)) ∙ is in
            let whole : data_length y t.blocks b ≡ length_of_block y t.blocks b = ap (λ (s : Bool). if s then length_of_block y t.blocks b else 0) kind in
            let long = bytes_long symbols t k b l id h in
            let all = sum_by-cons data_size (generated_data_block (context_at symbols t k) l id) [] in
            omega (arith, whole, long, all)
        test false is = omega arith

pub source_bytes : (symbols : List Symbol) (t : Tree) → IsSoundTree symbols t → sum_by data_size (data_blocks_of t symbols (layouts_of t symbols)) ≤ 2097152
unfolding data_blocks_of rule_54
source_bytes symbols t tree =
    let y = types_of_source symbols t.blocks in
    let of_ : Context → Block → BlockLayout → List DataBlock = λ c b l. data_block_of c l l.id in
    let each = each_block of_ (context_at symbols t 0) t.blocks (layouts_of t symbols) in
    let fits = laid_mapped (IsSoundBlock symbols t) (λ k b l. sum_by data_size (of_ (context_at symbols t k) b l) ≤ data_length y t.blocks b) (one_size symbols t) 0 t.blocks (layouts_of t symbols) tree.blocks in
    let same = sorted_sum is_data_before data_size each in
    let less = each_sum of_ data_size (data_length y t.blocks) symbols t 0 t.blocks (layouts_of t symbols) fits in
    let most = few_data_bytes y t.blocks t.blocks (heads_none (exceeds_total y t.blocks) 54 [] t.blocks tree.by_layout.by_54) in
    omega (arith, same, less, most)
