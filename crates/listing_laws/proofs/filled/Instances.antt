-- A listed instance comes to the data block that it was made of.
use Rattle.std.proofs.Common.{◌≡◌, ℕ, zero, suc, ◌+◌, ◌-◌, ◌*◌, ◌/◌, ◌<◌, ◌≤◌, ◌⊎◌, inl, inr, Bool, true, false, List, [], ◌∷◌, ◌++◌, length, map, pos, replicate, Some, None, is_some, refl, sym, ap, subst, ◌∙◌, arith}
use Rattle.std.specs.Prelude.{◌==◌, ◌&&◌, find, if◌then◌else◌, nat_eq, nat_lt, slice_get}
use Rattle.std.specs.List.{AllByRecursion, flat_map, fold}
use Rattle.std.specs.Option.{option_and_then}
use Rattle.std.proofs.lemmas.Bool.Decides.{nat_tests}
use Rattle.plc_base.proofs.ListLemmas.{all_append}
use Rattle.plc_base.specs.Folding.{upper_case_name}
use Rattle.plc_base.specs.Kinds.{is_same_block, is_same_kind}
use Rattle.plc_base.specs.declared.blocks.BlockId.{BlockId}
use Rattle.plc_base.specs.declared.blocks.BlockKind.TheVariants as kinds
use Rattle.flat_code.specs.Programs.{CodeBlock, Program}
use Rattle.flat_code.specs.declared.programs.Param.{Param}
use Rattle.stl_ast.specs.declared.blocks.Block.{Block}
use Rattle.stl_ast.specs.declared.blocks.PartKind.TheVariants as part
use Rattle.stl_ast.specs.declared.blocks.PathStep.TheVariants as step
use Rattle.stl_ast.specs.declared.blocks.Setting.{Setting}
use Rattle.stl_ast.specs.declared.blocks.Tree.{Tree}
use Rattle.stl_ast.specs.declared.declarations.Simple.TheVariants as simple
use Rattle.stl_symbols.specs.Symbol.{Symbol}
use Rattle.block_layout.specs.Blocks.{ids_of, known_block}
use Rattle.block_layout.specs.Cells.{components_of}
use Rattle.block_layout.specs.InitialBytes.{Write, component_starts, cell_writes, component_writes, element_starts, initial_bytes, length_at, preset_values, bytes_with_write, setting_writes, settings_at, structure_writes, type_writes, writes_at, writes_from}
use Rattle.block_layout.specs.Layouts.{block_layout, layouts_of}
use Rattle.block_layout.specs.Lengths.{block_bits, length_of_block, shape_at, shape_bits, shape_of}
use Rattle.block_layout.specs.Measures.{types_of_source}
use Rattle.block_layout.specs.ListedParameters.{AreAlike}
use Rattle.block_layout.specs.Paths.{cells_at, cells_in, setting_structure, shape_block, structure_of}
use Rattle.block_layout.specs.RebuiltBytes.{OneReaches, bit_in}
use Rattle.block_layout.specs.Sizes.{cell_bits, element_of, components_end, largest_size, plain_bits, end_behind_cell, structure_bits, next_multiple}
use Rattle.block_layout.specs.Types.{Types}
use Rattle.block_layout.specs.declared.blocks.BlockLayout.{BlockLayout}
use Rattle.block_layout.specs.declared.blocks.Shape.TheVariants as shape
use Rattle.block_layout.specs.declared.cells.Cell.{Cell}
use Rattle.block_layout.proofs.RebuiltLemmas.{rebuilt}
use Rattle.stl_types.specs.declared.parameters.Formal.{Formal}
use Rattle.stl_codegen.specs.GeneratedProgram.{data_block_of, function_block_number, instance_in}
use Rattle.stl_list.specs.CodeBlocks.{in_lines, listed_block, listed_blocks}
use Rattle.stl_list.specs.DataBlocks.{function_block, known_settings, listed_data}
use Rattle.stl_list.specs.Initial.{byte_settings, parameter_settings, settings_of}
use Rattle.stl_list.specs.JoinedParameters.{PassingChains}
use Rattle.stl_list.specs.Lines.{line_behind_statements}
use Rattle.stl_list.specs.Sections.{static_len, static_name, static_start}
use Rattle.stl_list.specs.Signatures.{Signature, formals_from, formals_of_block, is_behind, signature, signatures_from}
use Rattle.sem_kept.specs.SettledStatements.{context_at}
use Rattle.block_layout.proofs.CommonLemmas.{all_there}
use Rattle.sem_kept.proofs.accepted.OperandsViews.{data_length, whole_is}
use Rattle.listing_laws.specs.Chains.{is_listed_type}
use Rattle.listing_laws.specs.ListedDeclarations.{AreWide}
use Rattle.listing_laws.proofs.IdLemmas.{source_ids}
use Rattle.listing_laws.proofs.called.Listed.{kind_listed}
use Rattle.listing_laws.proofs.declared.Blocks.{AreAfter, all_not_same, same_self}
use Rattle.listing_laws.proofs.declared.Cells.{byte_cell, byte_cells}
use Rattle.listing_laws.proofs.declared.Kept.{HasBoth, HasNoValues}
use Rattle.listing_laws.proofs.declared.Own.{below_all, whole_writes}
use Rattle.listing_laws.proofs.declared.OwnData.{IsLaid, laid_cells, laid_in, laid_length}
use Rattle.listing_laws.proofs.declared.OwnKept.{HasLayout, layout_there}
use Rattle.listing_laws.proofs.declared.Placed.{alike_of, all_found, end_alike, look_in}
use Rattle.listing_laws.proofs.declared.Sources.{Begins}
use Rattle.listing_laws.proofs.filled.Params.{ArePlaced, IsWithin, bare, past_cell, placed_alike, placed_from, placed_within}
use Rattle.listing_laws.proofs.filled.Settings.{AllSettable, IndicesLead, IsRight, bytes_reached, bytes_right, parameters_reached, parameters_right, reached_back, reached_front, writes_true}
use Rattle.listing_laws.proofs.filled.Walks.{AllLead, LeadsTo, all_lead, all_look, index_leads, static_found}

-- ---- signatures

-- a code block has its own signature among those of a program
pub record HasSignature (ss : List Signature) (b : CodeBlock) : Type 0 where
  pub own : Signature
  pub found : find (λ s. is_same_block s.id b.id) ss ≡ Some own
  pub params : own.params ≡ b.params
  pub len : own.instance_len ≡ b.instance_len
  pub formals : own.formals ≡ formals_of_block ss b.id

signed_behind : (s : Signature) (ss : List Signature) (bs : List CodeBlock) → AllByRecursion (λ b. is_same_block s.id b.id ≡ false) bs → AllByRecursion (HasSignature ss) bs
    → AllByRecursion (HasSignature (s ∷ ss)) bs
signed_behind s ss [] apart h = tt
signed_behind s ss (b ∷ bs) (other, others) (one, more) = (
  record {
    own = one.own;
    found = ap (λ (t : Bool). if t then Some s else find (λ z. is_same_block z.id b.id) ss) other ∙ one.found;
    params = one.params;
    len = one.len;
    formals = one.formals ∙ sym (ap (λ (t : Bool). if t then s.formals else formals_of_block ss b.id) other);
  },
  signed_behind s ss bs others more,
)

pub all_signed : (c : PassingChains) (first : ℕ) (bs : List CodeBlock) → AreAfter bs → AllByRecursion (HasSignature (signatures_from c first bs)) bs
all_signed c first [] after = tt
all_signed c first (b ∷ bs) (later, after) =
    let s = signature c first b in
    let ss = signatures_from c (first + length b.params) bs in (
      record {
        own = s;
        found = ap (λ (t : Bool). if t then Some s else find (λ z. is_same_block z.id b.id) ss) (same_self b.id);
        params = refl;
        len = refl;
        formals = sym (ap (λ (t : Bool). if t then s.formals else formals_of_block ss b.id) (same_self b.id));
      },
      signed_behind s ss bs (all_not_same b bs later) (all_signed c (first + length b.params) bs after),
    )

-- the types of parameters are those that a listing has
pub formals_listed : (c : PassingChains) (returns behind : Bool) (index first : ℕ) (ps : List Param) → AllByRecursion (λ f. is_listed_type f.kind ≡ true) (formals_from c returns behind index first ps)
formals_listed c returns behind index first [] = tt
formals_listed c returns behind index first (p ∷ ps) = (kind_listed c first p.width, formals_listed c returns (is_behind returns behind p) (suc index) (suc first) ps)

settable : (bytes : List ℕ) (at : ℕ) (cs : List Cell) (ps : List Param) (fs : List Formal) → ArePlaced at cs ps → AreWide ps fs → AllByRecursion (λ f. is_listed_type f.kind ≡ true) fs
    → AllByRecursion (IsWithin (8 * length bytes)) ps → AllSettable bytes fs ps
settable bytes at [] [] [] placed wide listed within = tt
settable bytes at [] [] (f ∷ fs) placed wide listed within = absurd wide
settable bytes at [] (p ∷ ps) fs placed wide listed within = absurd placed
settable bytes at (c ∷ cs) [] fs placed wide listed within = absurd placed
settable bytes at (c ∷ cs) (p ∷ ps) [] placed wide listed within = absurd wide
settable bytes at (c ∷ cs) (p ∷ ps) (f ∷ fs) (here, placed) (w, wide) (l, listed) (one, within) =
    (record { listed = l; wide = w; bit = here.bit; within = one.within }, settable bytes (past_cell at c) cs ps fs placed wide listed within)

-- ---- cells without initial values write nothing

nothing_each : (width : ℕ) (c : Cell) (element : ℕ) (starts : List ℕ) → c.presets ≡ [] → flat_map (λ s. writes_at width (element_starts c.bounds element (s ∷ [])) (preset_values c.presets)) starts ≡ []
nothing_each width c element [] e = refl
nothing_each width c element (s ∷ starts) e =
    let first : writes_at width (element_starts c.bounds element (s ∷ [])) (preset_values c.presets) ≡ [] =
    ap (λ ps. writes_at width (element_starts c.bounds element (s ∷ [])) (preset_values ps)) e ∙ none (element_starts c.bounds element (s ∷ [])) in
    let rest = nothing_each width c element starts e in
    λ i. first i ++ rest i
  where
    none : (offsets : List ℕ) → writes_at width offsets [] ≡ []
    none [] = refl
    none (o ∷ offsets) = refl

nothing_written : (of_type : ℕ → List ℕ → List Write) (at : ℕ) (starts : List ℕ) (cells : List Cell) → AllByRecursion HasNoValues cells → writes_from of_type 0 starts at cells ≡ []
nothing_written of_type at starts [] h = refl
nothing_written of_type at starts (c ∷ cs) (one, more) = by (nat_lt c.level 0) (nothing_written of_type next starts cs more)
  where
    next : ℕ
    next = end_behind_cell 0 at c (cell_bits c cs)

    inside : List ℕ → List Write
    inside = λ inner. writes_from of_type (c.level + 1) inner 0 cs

    here : (t : Bool) → (if t then component_writes inside of_type c (element_of c cs) (component_starts at c starts) c.of else []) ≡ []
    here true = ap (component_writes inside of_type c (element_of c cs) (component_starts at c starts)) one.of ∙ nothing_each (plain_bits one.kind) c (element_of c cs) (component_starts at c starts) one.presets
    here false = refl

    by : (t : Bool) → writes_from of_type 0 starts next cs ≡ []
        → (if t then [] else cell_writes inside of_type 0 at starts c (element_of c cs) ++ writes_from of_type 0 starts next cs) ≡ []
    by true rest = refl
    by false rest = λ i. here (c.sound && nat_eq c.level 0) i ++ rest i

pub bytes_bare : (n : ℕ) → AllByRecursion HasNoValues (byte_cells part.Static static_name n)
bytes_bare n = by (n == 0)
  where
    by : (t : Bool) → AllByRecursion HasNoValues (if t then [] else byte_cell part.Static static_name n ∷ [])
    by true = tt
    by false = (record { kind = simple.Byte; of = refl; presets = refl }, tt)

-- ---- places in a listing

-- what a block is listed as, at its place
pub record IsListedAt (ss : List Signature) (bs : List Block) (j : ℕ) (b : CodeBlock) : Type 0 where
  pub reached : ℕ
  pub there : slice_get bs j ≡ Some (listed_block ss reached b)

listed_at : (ss : List Signature) (reached : ℕ) (bs : List CodeBlock) (j : ℕ) (b : CodeBlock) → slice_get bs j ≡ Some b → IsListedAt ss (listed_blocks ss reached bs) j b
listed_at ss reached [] j b e = absurd cc
listed_at ss reached (x ∷ xs) zero b e = let same : x ≡ b = cc in record { reached = reached; there = ap (λ z. Some (listed_block ss reached z)) same }
listed_at ss reached (x ∷ xs) (suc j) b e = let more = listed_at ss (line_behind_statements reached x.lines) xs j b e in record { reached = more.reached; there = more.there }

pub in_front : {A : Type 0} (xs ys : List A) (j : ℕ) (x : A) → slice_get xs j ≡ Some x → slice_get (xs ++ ys) j ≡ Some x
in_front [] ys j x e = absurd cc
in_front (z ∷ zs) ys zero x e = e
in_front (z ∷ zs) ys (suc j) x e = in_front zs ys j x e

pub behind_all : {A : Type 0} (xs : List A) (y : A) (ys : List A) → slice_get (xs ++ y ∷ ys) (length xs) ≡ Some y
behind_all [] y ys = refl
behind_all (x ∷ xs) y ys = behind_all xs y ys

pub slice_get_mapped : {A B : Type 0} (f : A → B) (xs : List A) (j : ℕ) (x : A) → slice_get xs j ≡ Some x → slice_get (map f xs) j ≡ Some (f x)
slice_get_mapped f [] j x e = absurd cc
slice_get_mapped f (z ∷ zs) zero x e = let same : z ≡ x = cc in ap (λ y. Some (f y)) same
slice_get_mapped f (z ∷ zs) (suc j) x e = slice_get_mapped f zs j x e

pub listed_there : (p : Program) (ss : List Signature) (j : ℕ) (b : CodeBlock) → slice_get (in_lines p.code_blocks) j ≡ Some b → (bs : List Block)
    → IsListedAt ss (listed_blocks ss 1 (in_lines p.code_blocks) ++ bs) j b
listed_there p ss j b e bs =
    let at = listed_at ss 1 (in_lines p.code_blocks) j b e in
    record { reached = at.reached; there = in_front (listed_blocks ss 1 (in_lines p.code_blocks)) bs j (listed_block ss at.reached b) at.there }

-- ---- a function block in a listing

-- the function block of a number at its place, with what its cells are in the source
pub record IsFunctionBlockAt (others : List Symbol) (t : Tree) (ss : List Signature) (n : ℕ) (b : CodeBlock) (cells : List Cell) : Type 0 where
  pub id : b.id ≡ function_block n
  pub place : ℕ
  pub reached : ℕ
  pub there : slice_get t.blocks place ≡ Some (listed_block ss reached b)
  pub found : known_block (function_block n) (ids_of others t.blocks) ≡ Some place
  pub both : HasBoth (types_of_source others t.blocks) ss reached b cells
  pub long : structure_bits (components_of (types_of_source others t.blocks) (listed_block ss reached b)) / 8 ≡ b.instance_len
  pub short : b.instance_len ≤ 16384
  pub size : structure_bits cells ≡ 8 * b.instance_len
  pub signature : HasSignature ss b
  pub wide : AreWide b.params (formals_of_block ss b.id)
  pub kinds : AllByRecursion (λ f. is_listed_type f.kind ≡ true) (formals_of_block ss b.id)

block_shape : (y : Types) (blocks before : List Block) (b : Block) → (block_layout y blocks before b).shape ≡ shape_of y b
unfolding block_layout
block_shape y blocks before b = refl

instance_id : (y : Types) (blocks before : List Block) (ss : List Signature) (line number : ℕ) (bytes : List ℕ) (n : ℕ)
    → (block_layout y blocks before (listed_data ss line number bytes (Some n))).id ≡ Some (record { kind = kinds.Db; number = number })
unfolding block_layout
instance_id y blocks before ss line number bytes n = refl

code_id : (y : Types) (blocks before : List Block) (ss : List Signature) (reached : ℕ) (b : CodeBlock) (n : ℕ) → b.id ≡ function_block n
    → (block_layout y blocks before (listed_block ss reached b)).id ≡ Some (function_block n)
unfolding block_layout
code_id y blocks before ss reached b n e = ap (λ (i : BlockId). if is_same_kind i.kind i.kind then Some i else None) e

-- how the parameters and VAR share an instance
record ShareInstance (end start count len : ℕ) : Type 0 where
  whole : start + count ≡ len
  begins : 8 * start ≡ next_multiple end 16
  within : end ≤ 8 * len

share : (whole end start count len : ℕ) → whole ≡ 8 * len → whole ≡ 8 * count + next_multiple end 16 → start ≡ next_multiple end 16 / 8 → ShareInstance end start count len
unfolding next_multiple
share whole end start count len e f g = record { whole = omega (arith, e, f, g); begins = omega (arith, e, f, g); within = omega (arith, e, f, g) }

module _ (others : List Symbol) (t : Tree) (ss : List Signature) (n : ℕ) (b : CodeBlock) (cells : List Cell) (h : IsFunctionBlockAt others t ss n b cells) where
  -- an instance has the structure of the function block, and its length
  data_shape : (line number : ℕ) (bytes : List ℕ) → shape_of (types_of_source others t.blocks) (listed_data ss line number bytes (Some n)) ≡ shape.Of h.place
  data_shape line number bytes = ap (λ ids. shape_at (known_block (function_block n) ids)) (source_ids others t.blocks) ∙ ap shape_at h.found

  pub data_long : (line number : ℕ) (bytes : List ℕ) → length_of_block (types_of_source others t.blocks) t.blocks (listed_data ss line number bytes (Some n)) ≡ b.instance_len
  data_long line number bytes =
      let y = types_of_source others t.blocks in
      let d = listed_data ss line number bytes (Some n) in
      data_length y t.blocks d refl ∙ ap (λ s. shape_bits y t.blocks d s / 8) (data_shape line number bytes) ∙ ap (λ o. block_bits y o / 8) h.there ∙ h.long

  module _ (k line number : ℕ) (bytes : List ℕ) (l : BlockLayout) (there : slice_get t.blocks k ≡ Some (listed_data ss line number bytes (Some n))) (laid : slice_get (layouts_of t others) k ≡ Some l)
      (whole : AllByRecursion (λ l. l.broken ≡ false) (layouts_of t others)) (long : length bytes ≡ b.instance_len) (are : AllByRecursion (λ b. b < 256) bytes) where
    abbrev ls : List BlockLayout
    ls = layouts_of t others

    abbrev y : Types
    y = types_of_source others t.blocks

    abbrev d : Block
    d = listed_data ss line number bytes (Some n)

    abbrev c : Block
    c = listed_block ss h.reached b

    abbrev start : ℕ
    start = static_start b.params

    abbrev count : ℕ
    count = b.instance_len - static_start b.params

    abbrev first : List Cell
    first = h.both.first

    abbrev second : List Cell
    second = h.both.second

    abbrev own : List Cell
    own = h.both.second ++ byte_cells part.Static static_name (b.instance_len - static_start b.params)

    -- ---- the layouts of both

    own_layout : IsLaid y t.blocks d l
    own_layout = laid_in others t k d l there laid

    other : HasLayout ls h.place
    other = layout_there others t h.place c h.there

    other_layout : IsLaid y t.blocks c other.layout
    other_layout = laid_in others t h.place c other.layout h.there other.there

    is_whole : (i : ℕ) (m : BlockLayout) → slice_get ls i ≡ Some m → m.broken ≡ false
    is_whole i m e = all_there (λ (x : BlockLayout). x.broken ≡ false) ls i m whole e

    shape_is : l.shape ≡ shape.Of h.place
    shape_is = ap (λ (x : BlockLayout). x.shape) own_layout.layout ∙ block_shape y t.blocks own_layout.before d ∙ data_shape line number bytes

    other_whole : shape_block ls k (shape.Of h.place) ≡ Some h.place
    other_whole = ap (λ (w : Bool). if w then Some h.place else None) (ap is_some (whole_is ls h.place other.layout other.there (is_whole h.place other.layout other.there)))

    structure : structure_of ls k ≡ Some h.place
    structure = ap (option_and_then (λ (m : BlockLayout). shape_block ls k m.shape)) (whole_is ls k l laid (is_whole k l laid)) ∙ ap (shape_block ls k) shape_is ∙ other_whole

    setting : setting_structure ls k ≡ Some h.place
    setting = ap (option_and_then (λ (m : BlockLayout). shape_block ls k m.shape)) laid ∙ ap (shape_block ls k) shape_is ∙ other_whole

    cells_are : cells_at ls h.place false ≡ own
    cells_are = ap (cells_in false) other.there ∙ ap (λ (x : BlockLayout). x.components) other_layout.layout ∙ laid_cells y t.blocks other_layout.before c ∙ h.both.listed

    length_is : length_at (slice_get ls k) ≡ length bytes
    length_is = ap length_at laid ∙ ap (λ (x : BlockLayout). x.length) own_layout.layout ∙ laid_length y t.blocks own_layout.before d ∙ data_long line number bytes ∙ sym long

    -- ---- the parameters and VAR in it

    alike : AreAlike first second
    alike = alike_of (look_in (first ++ h.both.rest)) first b.params second h.both.same

    placed_first : ArePlaced 0 first b.params
    placed_first = placed_from (look_in (first ++ h.both.rest)) 0 0 first h.both.rest b.params second h.both.apart h.both.same (all_found (first ++ h.both.rest) first)

    placed : ArePlaced 0 second b.params
    placed = placed_alike 0 first second b.params alike placed_first

    same_end : components_end 0 0 first ≡ components_end 0 0 second
    same_end = end_alike 0 first second alike

    shared : ShareInstance (components_end 0 0 second) start count b.instance_len
    shared =
        share (structure_bits (first ++ h.both.rest)) (components_end 0 0 second) start count b.instance_len (sym (ap structure_bits h.both.are) ∙ h.size)
        (h.both.ends ∙ ap (λ e. 8 * count + next_multiple e 16) same_end) (h.both.start ∙ ap (λ e. next_multiple e 16 / 8) same_end)

    short : components_end 0 0 second < largest_size
    short = subst (λ e. e < largest_size) same_end h.both.short

    names_lead : AllLead ls k (formals_of_block ss b.id) b.params
    names_lead =
        all_lead ls k h.place structure setting own 0 0 second (byte_cells part.Static static_name count) (formals_of_block ss b.id) b.params cells_are (omega arith) short placed h.both.formals h.both.again
        (all_look own second) (λ j. let e : 0 + j ≡ j = omega arith in ap (slice_get own) e)

    can_be_set : AllSettable bytes (formals_of_block ss b.id) b.params
    can_be_set =
        settable bytes 0 second b.params (formals_of_block ss b.id) placed h.wide h.kinds
        (placed_within (8 * length bytes) 0 second b.params (omega (arith, long, h.short)) (omega arith) (omega (arith, long, shared.within)) placed)

    indices_lead : IndicesLead ls k line bytes are start count
    indices_lead i less =
        subst (λ o. LeadsTo ls k (step.Named (upper_case_name static_name) ∷ step.Index (pos i) ∷ []) (o + 8 * i) simple.Byte) (sym shared.begins)
        (index_leads ls k h.place structure setting count (next_multiple (components_end 0 0 second) 16) (0 + length second) (second ++ bytes_cell ∷ []) i (cells_are ∙ ap (λ vs. second ++ vs) some)
        (static_found 0 0 0 second b.params bytes_cell h.both.named placed refl refl refl) at less few)
      where
        bytes_cell : Cell
        bytes_cell = byte_cell part.Static static_name count

        some : byte_cells part.Static static_name count ≡ bytes_cell ∷ []
        some = let not_none : (count == 0) ≡ false = grind (arith, nat_tests) in ap (λ (w : Bool). if w then [] else bytes_cell ∷ []) not_none

        at : slice_get (second ++ bytes_cell ∷ []) (0 + length second) ≡ Some bytes_cell
        at = let e : 0 + length second ≡ length second = omega arith in ap (slice_get (second ++ bytes_cell ∷ [])) e ∙ behind_all second bytes_cell []

        few : next_multiple (components_end 0 0 second) 16 + i * 8 ≤ largest_size
        few = bounded (next_multiple (components_end 0 0 second) 16) start count b.instance_len i shared.begins shared.whole less h.short
          where
            bounded : (o s m len i : ℕ) → 8 * s ≡ o → s + m ≡ len → i < m → len ≤ 16384 → o + i * 8 ≤ largest_size
            bounded o s m len i e f g k = omega (arith, e, f, g, k)

    -- ---- the settings

    abbrev listed_settings : List Setting
    listed_settings = parameter_settings line bytes (formals_of_block ss b.id) b.params ++ byte_settings line bytes start count

    settings_are : d.settings ≡ listed_settings
    unfolding settings_of
    settings_are =
        ap (λ i. known_settings line bytes (find (λ (s : Signature). is_same_block s.id i) ss)) (sym h.id) ∙ ap (known_settings line bytes) h.signature.found
        ∙ (λ i. parameter_settings line bytes (h.signature.formals i) (h.signature.params i)
        ++ byte_settings line bytes (static_start (h.signature.params i)) (static_len (h.signature.len i) (h.signature.params i)))

    pub settings_right : AllByRecursion (IsRight ls k bytes) d.settings
    settings_right =
        subst (AllByRecursion (IsRight ls k bytes)) (sym settings_are)
        (all_append (IsRight ls k bytes) (parameter_settings line bytes (formals_of_block ss b.id) b.params) (byte_settings line bytes start count)
        (parameters_right ls k line bytes are (formals_of_block ss b.id) b.params names_lead can_be_set)
        (bytes_right ls k line bytes are start count (omega (arith, long, shared.whole)) indices_lead))

    -- a bit that is set is written, where it lies in a parameter or behind them
    bit_written : (j i : ℕ) → bit_in bytes j i ≡ 1 → OneReaches (map bare b.params) j i ⊎ (start ≤ j) → OneReaches (setting_writes ls k d.settings) j i
    bit_written j i one at = subst (λ xs. OneReaches (setting_writes ls k xs) j i) (sym settings_are) (by at)
      where
        by : OneReaches (map bare b.params) j i ⊎ (start ≤ j) → OneReaches (setting_writes ls k listed_settings) j i
        by (inl r) =
            reached_front ls k j i (parameter_settings line bytes (formals_of_block ss b.id) b.params) (byte_settings line bytes start count)
            (parameters_reached ls k line bytes are (formals_of_block ss b.id) b.params j i names_lead can_be_set r one)
        by (inr low) =
            reached_back ls k j i (parameter_settings line bytes (formals_of_block ss b.id) b.params) (byte_settings line bytes start count)
            (bytes_reached ls k line bytes are start count j i indices_lead (shared.whole ∙ sym long) low one)

    nothing_else : structure_writes ls (structure_of ls k) ≡ []
    nothing_else =
        ap (structure_writes ls) structure ∙ whole_writes ls h.place ∙ ap (writes_from (type_writes ls 8) 0 (0 ∷ []) 0) cells_are
        ∙ nothing_written (type_writes ls 8) 0 (0 ∷ []) own (all_append HasNoValues second (byte_cells part.Static static_name count) h.both.bare (bytes_bare count))

    bytes_back : ((j i : ℕ) → bit_in bytes j i ≡ 1 → OneReaches (map bare b.params) j i ⊎ (start ≤ j)) → initial_bytes ls t.blocks k ≡ bytes
    unfolding initial_bytes
    bytes_back set =
        (λ i. fold bytes_with_write (replicate (length_is i) 0) (nothing_else i ++ setting_writes ls k (settings_at (there i))))
        ∙ rebuilt bytes (setting_writes ls k d.settings) (λ j. below_all bytes j are) (writes_true ls k bytes d.settings settings_right) (λ j i less one. bit_written j i one (set j i one))

    pub data_back : ((j i : ℕ) → bit_in bytes j i ≡ 1 → OneReaches (map bare b.params) j i ⊎ (start ≤ j))
        → data_block_of (context_at others t k) l l.id ≡ record { number = number; instance_of = Some n; bytes = bytes } ∷ []
    data_back set =
        let named : l.id ≡ Some (record { kind = kinds.Db; number = number }) =
        ap (λ (x : BlockLayout). x.id) own_layout.layout ∙ instance_id y t.blocks own_layout.before ss line number bytes n in
        let of_block : other.layout.id ≡ Some (function_block n) =
        ap (λ (x : BlockLayout). x.id) other_layout.layout ∙ code_id y t.blocks other_layout.before ss h.reached b n h.id in
        let instance : instance_in ls l.shape ≡ Some n =
        ap (instance_in ls) shape_is ∙ ap (option_and_then (λ (x : BlockLayout). function_block_number x.id)) other.there ∙ ap function_block_number of_block in
        let back = bytes_back set in
        ap (data_block_of (context_at others t k) l) named ∙ λ i. record { number = number; instance_of = instance i; bytes = back i } ∷ []

    -- the bits of an instance of the source lie there
    pub lies_there : ((first rest : List Cell) (ps : List Param) (start : ℕ) → cells ≡ first ++ rest → Begins rest → ArePlaced 0 first ps → components_end 0 0 first < largest_size
        → start ≡ next_multiple (components_end 0 0 first) 16 / 8 → (j i : ℕ) → bit_in bytes j i ≡ 1 → OneReaches (map bare ps) j i ⊎ (start ≤ j))
        → (j i : ℕ) → bit_in bytes j i ≡ 1 → OneReaches (map bare b.params) j i ⊎ (static_start b.params ≤ j)
    lies_there set = set first h.both.rest b.params start h.both.are h.both.begins placed_first h.both.short h.both.start
