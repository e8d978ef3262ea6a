-- The blocks that a source names stand in the listing of its program.
use Rattle.std.proofs.Common.{◌≡◌, ℕ, Bool, true, false, List, [], map, Option, Some, None, is_some, if◌then◌else◌, slice_get, refl, sym, ap, ◌∙◌}
use Rattle.std.specs.List.{AllByRecursion}
use Rattle.std.specs.Option.{option_and_then}
use Rattle.plc_base.specs.Kinds.{is_data_block, is_data_type, is_system_function}
use Rattle.plc_base.specs.declared.blocks.BlockId.{BlockId}
use Rattle.plc_base.specs.declared.blocks.BlockKind.{BlockKind}
use Rattle.plc_base.specs.declared.blocks.BlockKind.TheVariants as kinds
use Rattle.stl_ast.specs.declared.blocks.Tree.{Tree}
use Rattle.stl_symbols.specs.Symbol.{Symbol}
use Rattle.block_layout.proofs.LayoutLemmas.{ids_laid, measured_symbols}
use Rattle.block_layout.specs.Blocks.{ids_of, known_block, named_block, of_kind}
use Rattle.block_layout.specs.Layouts.{layouts_by, layouts_of}
use Rattle.block_layout.specs.Measures.{types_of_source}
use Rattle.block_layout.specs.Paths.{if_whole, whole_at, whole_block as whole_layout}
use Rattle.block_layout.specs.declared.blocks.BlockLayout.{BlockLayout}
use Rattle.stl_types.specs.Context.{number_of_block}
use Rattle.stl_types.specs.Resolution.{id_at}
use Rattle.block_layout.proofs.CommonLemmas.{all_there, origin}
use Rattle.block_layout.proofs.BlockLemmas.{known_there}
use Rattle.listing_laws.specs.ListedSource.{listed_tree_again}
use Rattle.listing_laws.specs.FoundBlocks.{AreCalledFound, AreDataFound}
use Rattle.listing_laws.specs.Ids.{data_id_of_number}
use Rattle.listing_laws.proofs.IdLemmas.{blocks_kept}

-- ---- a block by its place

abbrev pub laid_ids : List BlockLayout → List (Option BlockId)
laid_ids ls = map (λ b. b.id) ls

-- the layouts of a source have the kinds and numbers of its blocks
pub ids_in : (symbols : List Symbol) (t : Tree) → laid_ids (layouts_of t symbols) ≡ ids_of symbols t.blocks
unfolding layouts_of layouts_by
ids_in symbols t =
    ids_laid (types_of_source symbols t.blocks) t.blocks [] t.blocks ∙ ap (λ (z : List Symbol). ids_of z t.blocks) (measured_symbols symbols t.blocks)

-- the layout of a block that is found
pub record IsFoundAt (ls : List BlockLayout) (id : BlockId) (k : ℕ) : Type 0 where
  pub layout : BlockLayout
  pub there : slice_get ls k ≡ Some layout
  pub known : layout.id ≡ Some id

pub found_at : (ls : List BlockLayout) (id : BlockId) (k : ℕ) → known_block id (laid_ids ls) ≡ Some k → IsFoundAt ls id k
found_at ls id k e =
    let from = origin (λ (b : BlockLayout). b.id) ls k (Some id) (known_there id (laid_ids ls) k e) in
    record { layout = from.of; there = from.there; known = from.image }

-- where none is broken it is whole
record IsWholeAt (ls : List BlockLayout) (id : BlockId) : Type 0 where
  place : ℕ
  found : known_block id (laid_ids ls) ≡ Some place
  layout : BlockLayout
  whole : whole_at ls place ≡ Some layout
  known : layout.id ≡ Some id

whole_found : (ls : List BlockLayout) (id : BlockId) → AllByRecursion (λ l. l.broken ≡ false) ls → is_some (known_block id (laid_ids ls)) ≡ true → IsWholeAt ls id
whole_found ls id clean e = by (known_block id (laid_ids ls)) refl e
  where
    by : (o : Option ℕ) → known_block id (laid_ids ls) ≡ o → is_some o ≡ true → IsWholeAt ls id
    by None f e = absurd cc
    by (Some k) f e =
        let at = found_at ls id k f in
        let right = all_there (λ (l : BlockLayout). l.broken ≡ false) ls k at.layout clean at.there in
        record {
          place = k;
          found = f;
          layout = at.layout;
          whole = ap whole_layout at.there ∙ ap (λ (t : Bool). if t then None else Some at.layout) right;
          known = at.known;
        }

-- a block of the source that is no data type is there again
again : (symbols : List Symbol) (t : Tree) (others : List Symbol) (id : BlockId) → is_data_type id.kind ≡ false
    → is_some (known_block id (laid_ids (layouts_of t symbols))) ≡ true
    → is_some (known_block id (laid_ids (layouts_of (listed_tree_again symbols t) others))) ≡ true
again symbols t others id plain e =
    ap (λ (is : List (Option BlockId)). is_some (known_block id is)) (ids_in others (listed_tree_again symbols t))
    ∙ blocks_kept t symbols others id plain
    ∙ ap (λ (is : List (Option BlockId)). is_some (known_block id is)) (sym (ids_in symbols t)) ∙ e

-- ---- data blocks

data_named : (k : BlockKind) (n m : ℕ) → is_data_block k ≡ true → n ≡ m → record { kind = k; number = n } ≡ data_id_of_number m
data_named kinds.Db n m h e = ap data_id_of_number e
data_named _ n m h e = absurd cc

-- the number of a data block that isn't broken, by what its name means
abbrev number_by : List BlockLayout → Option BlockId → Option ℕ
number_by ls x =
    option_and_then (λ b. number_of_block b.id)
    (option_and_then (whole_at ls) (option_and_then (λ id. known_block id (laid_ids ls)) (of_kind is_data_block x)))

number_there : (ls : List BlockLayout) (x : Option BlockId) (number : ℕ) → number_by ls x ≡ Some number → is_some (known_block (data_id_of_number number) (laid_ids ls)) ≡ true
number_there ls None number e = absurd cc
number_there ls (Some id) number e = kind (is_data_block id.kind) refl e
  where
    same : (m : ℕ) → Some m ≡ Some number → m ≡ number
    same m h = cc

    whole : (k : ℕ) (l : BlockLayout) (t : Bool) → known_block id (laid_ids ls) ≡ Some k → is_data_block id.kind ≡ true → l.id ≡ Some id
        → option_and_then (λ b. number_of_block b.id) (if t then None else Some l) ≡ Some number → is_some (known_block (data_id_of_number number) (laid_ids ls)) ≡ true
    whole k l true f db known h = absurd cc
    whole k l false f db known h =
        let number_is : id.number ≡ number = same id.number (ap number_of_block (sym known) ∙ h) in
        ap (λ (i : BlockId). is_some (known_block i (laid_ids ls))) (sym (data_named id.kind id.number number db number_is)) ∙ ap is_some f

    place : (o : Option ℕ) → known_block id (laid_ids ls) ≡ o → is_data_block id.kind ≡ true
        → option_and_then (λ b. number_of_block b.id) (option_and_then (whole_at ls) o) ≡ Some number → is_some (known_block (data_id_of_number number) (laid_ids ls)) ≡ true
    place None f db h = absurd cc
    place (Some k) f db h =
        let at = found_at ls id k f in
        whole k at.layout at.layout.broken f db at.known
        (ap (λ (o : Option BlockLayout). option_and_then (λ b. number_of_block b.id) (whole_layout o)) (sym at.there) ∙ h)

    kind : (t : Bool) → is_data_block id.kind ≡ t
        → option_and_then (λ b. number_of_block b.id) (option_and_then (whole_at ls) (option_and_then (λ id. known_block id (laid_ids ls)) (if t then Some id else None))) ≡ Some number
        → is_some (known_block (data_id_of_number number) (laid_ids ls)) ≡ true
    kind true db h = place (known_block id (laid_ids ls)) refl db h
    kind false db h = absurd cc

number_again : (ls : List BlockLayout) (number : ℕ) → IsWholeAt ls (data_id_of_number number) → number_by ls (Some (data_id_of_number number)) ≡ Some number
number_again ls number at =
    ap (λ (o : Option ℕ). option_and_then (λ b. number_of_block b.id) (option_and_then (whole_at ls) o)) at.found
    ∙ ap (option_and_then (λ b. number_of_block b.id)) at.whole
    ∙ ap number_of_block at.known

pub data_found : AreDataFound
data_found symbols t others place at clean name number e =
    let ls : List BlockLayout = layouts_of (listed_tree_again symbols t) others in
    number_again ls number
    (whole_found ls (data_id_of_number number) clean (again symbols t others (data_id_of_number number) refl (number_there (layouts_of t symbols) (named_block symbols name) number e)))

-- ---- called blocks

called_there : (ls : List BlockLayout) (id : BlockId) (o : Option ℕ) → id_at id (option_and_then (if_whole ls) o) ≡ Some id → is_some o ≡ true
called_there ls id None e = absurd cc
called_there ls id (Some k) e = refl

called_again : (ls : List BlockLayout) (id : BlockId) → IsWholeAt ls id → id_at id (option_and_then (if_whole ls) (known_block id (laid_ids ls))) ≡ Some id
called_again ls id at =
    ap (λ (o : Option ℕ). id_at id (option_and_then (if_whole ls) o)) at.found
    ∙ ap (λ (o : Option BlockLayout). id_at id (if is_some o then Some at.place else None)) at.whole

pub called_found : AreCalledFound
called_found symbols t others place at clean id plain e = by (is_system_function id.kind) e
  where
    ls : List BlockLayout
    ls = layouts_of t symbols

    ms : List BlockLayout
    ms = layouts_of (listed_tree_again symbols t) others

    by : (b : Bool) → (if b then Some id else id_at id (option_and_then (if_whole ls) (known_block id (laid_ids ls)))) ≡ Some id
        → (if b then Some id else id_at id (option_and_then (if_whole ms) (known_block id (laid_ids ms)))) ≡ Some id
    by true h = refl
    by false h = called_again ms id (whole_found ms id clean (again symbols t others id plain (called_there ls id (known_block id (laid_ids ls)) h)))
