-- The layouts of the blocks, one behind the other.
use Rattle.std.proofs.Common.{ℕ, zero, suc, ◌≡◌, ◌<◌, ◌≤◌, ◌+◌, Option, List, [], ◌∷◌, ◌++◌, append_assoc, ◌&&◌, false, refl, sym, ◌∙◌, ap, arith, length, length-append, drop, get_or, map, Some}
use Rattle.std.proofs.Math.ListN.{drop_of_length-le}
use Rattle.std.proofs.lemmas.List.{append-nil, drop_more}
use Rattle.std.specs.List.{slice_get}
use Rattle.plc_base.specs.Kinds.{is_data_type}
use Rattle.plc_base.specs.declared.blocks.BlockId.{BlockId}
use Rattle.stl_ast.specs.declared.blocks.Block.{Block}
use Rattle.stl_ast.specs.declared.blocks.Tree.{Tree}
use Rattle.stl_symbols.specs.Symbol.{Symbol}
use Rattle.block_layout.specs.Before.{IsBefore}
use Rattle.block_layout.specs.Blocks.{id_of, ids_of}
use Rattle.block_layout.specs.Heads.{breach_flags}
use Rattle.block_layout.specs.Layouts.{block_layout, layouts_by, layouts_from, layouts_of}
use Rattle.block_layout.specs.Measures.{types_of_source, with_all_bits, with_all_depths}
use Rattle.block_layout.specs.Rule43.{contains_itself, leads_to}
use Rattle.block_layout.specs.Types.{Types}
use Rattle.block_layout.specs.declared.blocks.BlockLayout.{BlockLayout}
use Rattle.block_layout.specs.declared.breaches.BlocksBefore.{BlocksBefore}

-- what is known of the layouts of the first blocks, and of what stands before the next block
pub record AreLaid (y : Types) (blocks : List Block) (layouts : List BlockLayout) (b : BlocksBefore) : Type 0 where
  pub some : List Block
  pub count : length some ≡ length layouts
  pub known : IsBefore y blocks some b
  pub so_far : layouts ++ layouts_from y blocks some (drop (length layouts) blocks) ≡ layouts_from y blocks [] blocks

pub laid_first : (y : Types) (blocks : List Block) (b : BlocksBefore) → IsBefore y blocks [] b → AreLaid y blocks [] b
laid_first y blocks b known = record { some = []; count = refl; known = known; so_far = refl }

-- one block more
pub laid_next : (y : Types) (blocks : List Block) (done now : List BlockLayout) (one : BlockLayout) (block : Block) (b next : BlocksBefore) (at : AreLaid y blocks done b) →
    length done < length blocks → block ≡ get_or blocks (length done) block → one ≡ block_layout y blocks at.some block → now ≡ done ++ one ∷ [] →
    IsBefore y blocks (block ∷ at.some) next → AreLaid y blocks now next
laid_next y blocks done now one block b next at within is_block is_one is_now known =
    let more : length now ≡ length done + 1 = ap length is_now ∙ length-append done (one ∷ []) in
    record {
      some = block ∷ at.some;
      count = omega (arith, at.count, more);
      known = known;
      so_far =
          ap (λ (n : ℕ). now ++ layouts_from y blocks (block ∷ at.some) (drop n blocks)) more
          ∙ ap (λ (l : List BlockLayout). l ++ layouts_from y blocks (block ∷ at.some) (drop (length done + 1) blocks)) (is_now ∙ ap (λ (x : BlockLayout). done ++ x ∷ []) is_one)
          ∙ append_assoc done (block_layout y blocks at.some block ∷ []) (layouts_from y blocks (block ∷ at.some) (drop (length done + 1) blocks))
          ∙ ap (λ (l : List Block). done ++ layouts_from y blocks at.some l) (sym (drop_more blocks (length done) block within ∙ ap (λ (x : Block). x ∷ drop (length done + 1) blocks) (sym is_block)))
          ∙ at.so_far;
    }

pub laid_end : (y : Types) (blocks : List Block) (done : List BlockLayout) (b : BlocksBefore) → AreLaid y blocks done b → length blocks ≤ length done → done ≡ layouts_from y blocks [] blocks
laid_end y blocks done b at over =
    sym (append-nil done) ∙ ap (λ (l : List Block). done ++ layouts_from y blocks at.some l) (sym (drop_of_length-le blocks over)) ∙ at.so_far

-- a data type contains itself whatever stands before it, but for their number
pub itself_at : (y : Types) (blocks bs start before : List Block) (k : ℕ) (b : Block) → k < length bs → length before ≡ k + length start →
    get_or (breach_flags (contains_itself y blocks) start bs) k false ≡ contains_itself y blocks before (get_or bs k b)
itself_at y blocks [] start before k b within same = absurd (let never : ⊥ = omega arith in never)
itself_at y blocks (x ∷ xs) start before zero b within same =
    let here : length start ≡ length before = omega arith in ap (λ (n : ℕ). is_data_type x.kind && leads_to y blocks (length blocks) n n) here
itself_at y blocks (x ∷ xs) start before (suc k) b within same = let w : k < length xs = omega arith in itself_at y blocks xs (x ∷ start) before k b w (omega arith)

-- the layouts have the kinds and numbers of the blocks
pub ids_laid : (y : Types) (blocks before bs : List Block) → map (λ b. b.id) (layouts_from y blocks before bs) ≡ map (λ b. id_of y.symbols b) bs
unfolding block_layout
ids_laid y blocks before [] = refl
ids_laid y blocks before (b ∷ bs) = ap (λ (l : List (Option BlockId)). id_of y.symbols b ∷ l) (ids_laid y blocks (b ∷ before) bs)

pub measured_ids : (symbols : List Symbol) (blocks : List Block) → (types_of_source symbols blocks).ids ≡ ids_of symbols blocks
unfolding types_of_source with_all_bits with_all_depths
measured_ids symbols blocks = refl

pub measured_symbols : (symbols : List Symbol) (blocks : List Block) → (types_of_source symbols blocks).symbols ≡ symbols
unfolding types_of_source with_all_bits with_all_depths
measured_symbols symbols blocks = refl

pub ids_listed : (symbols : List Symbol) (blocks : List Block) → (types_of_source symbols blocks).ids ≡ map (λ b. b.id) (layouts_by (types_of_source symbols blocks) blocks)
unfolding layouts_by
ids_listed symbols blocks =
    measured_ids symbols blocks ∙ ap (λ (s : List Symbol). ids_of s blocks) (sym (measured_symbols symbols blocks)) ∙ sym (ids_laid (types_of_source symbols blocks) blocks [] blocks)

-- ---- the layouts of a source

pub layouts_are : (symbols : List Symbol) (t : Tree)
    → layouts_of t symbols ≡ layouts_from (types_of_source symbols t.blocks) t.blocks [] t.blocks
unfolding layouts_of layouts_by
layouts_are symbols t = refl

-- a layout is that of a block
pub laid_origin : (y : Types) (blocks before bs : List Block) (k : ℕ) (l : BlockLayout)
    → slice_get (layouts_from y blocks before bs) k ≡ Some l
    → (b : Block) × (slice_get bs k ≡ Some b)
laid_origin y blocks before [] k l e = absurd cc
laid_origin y blocks before (b ∷ bs) zero l e = (b, refl)
laid_origin y blocks before (b ∷ bs) (suc k) l e =
    let more = laid_origin y blocks (b ∷ before) bs k l e in (more.0, more.1)

-- a block has its layout
laid_there : (y : Types) (blocks before bs : List Block) (k : ℕ) (b : Block)
    → slice_get bs k ≡ Some b
    → (l : BlockLayout) × (slice_get (layouts_from y blocks before bs) k ≡ Some l)
laid_there y blocks before [] k b e = absurd cc
laid_there y blocks before (x ∷ bs) zero b e = (block_layout y blocks before x, refl)
laid_there y blocks before (x ∷ bs) (suc k) b e =
    let more = laid_there y blocks (x ∷ before) bs k b e in (more.0, more.1)

pub layout_at : (symbols : List Symbol) (t : Tree) (k : ℕ) (b : Block) → slice_get t.blocks k ≡ Some b
    → (l : BlockLayout) × (slice_get (layouts_of t symbols) k ≡ Some l)
layout_at symbols t k b e =
    let found = laid_there (types_of_source symbols t.blocks) t.blocks [] t.blocks k b e in
    (found.0, ap (λ (ls : List BlockLayout). slice_get ls k) (layouts_are symbols t) ∙ found.1)
