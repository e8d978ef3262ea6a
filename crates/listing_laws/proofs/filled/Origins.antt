-- An instance in a source: its bits that are set lie in the parameters of its function block, or behind them.
use Rattle.std.proofs.Common.{◌≡◌, ℕ, ◌*◌, ◌/◌, ◌<◌, ◌≤◌, ◌⊎◌, Bool, true, false, List, [], ◌∷◌, ◌++◌, length, map, Option, Some, None, is_some, refl, sym, ap, subst, ◌∙◌, arith}
use Rattle.std.specs.Prelude.{if◌then◌else◌, nat_eq, slice_get}
use Rattle.std.specs.List.{AllByRecursion}
use Rattle.std.specs.Option.{option_and_then}
use Rattle.plc_base.proofs.ListLemmas.{all_append, all_back}
use Rattle.plc_base.specs.Kinds.{is_data_block, is_function_block}
use Rattle.plc_base.specs.declared.blocks.BlockId.{BlockId}
use Rattle.flat_code.specs.Programs.{DataBlock}
use Rattle.flat_code.specs.declared.programs.Param.{Param}
use Rattle.stl_ast.specs.Literals.{AreBytes}
use Rattle.stl_ast.specs.declared.blocks.Block.{Block}
use Rattle.stl_ast.specs.declared.blocks.Setting.{Setting}
use Rattle.stl_ast.specs.declared.blocks.Tree.{Tree}
use Rattle.stl_symbols.specs.Symbol.{Symbol}
use Rattle.block_layout.specs.InitialBytes.{Write, initial_bytes, setting_write, setting_writes, settings_at, structure_writes, type_writes, writes_from}
use Rattle.block_layout.specs.Layouts.{layouts_of}
use Rattle.block_layout.specs.Paths.{cells_at, cells_in, folded_path, shape_block, structure_of, path_end_in_data_block, path_end_or_unjudged}
use Rattle.block_layout.specs.RebuiltBytes.{OneReaches, Reaches, bit_in}
use Rattle.block_layout.specs.Sizes.{alignment, element_alignment, components_end, largest_size, structure_bits, next_multiple}
use Rattle.block_layout.specs.declared.blocks.BlockLayout.{BlockLayout}
use Rattle.block_layout.specs.declared.blocks.Shape.{Shape}
use Rattle.block_layout.specs.declared.blocks.Shape.TheVariants as shape
use Rattle.block_layout.specs.declared.cells.Cell.{Cell}
use Rattle.stl_codegen.specs.CompiledBlock.{compiled_block}
use Rattle.stl_codegen.specs.GeneratedProgram.{code_block, generated_data_block, function_block_number, instance_in, instance_len}
use Rattle.stl_list.specs.DataBlocks.{function_block}
use Rattle.sem_kept.specs.AcceptedSource.{IsAccepted}
use Rattle.sem_kept.specs.Initial.{HasRoom, IsMadeByWrites, writes_of}
use Rattle.sem_kept.specs.SettledStatements.{context_at}
use Rattle.sem_kept.proofs.accepted.Accepted.{IsSoundBlock, IsSoundTree, right_tree}
use Rattle.sem_kept.proofs.accepted.Initial.{initial_values_are_whole}
use Rattle.sem_kept.proofs.accepted.OperandsCells.{IsLaid as LaidBlock, block_of_layout}
use Rattle.sem_kept.proofs.accepted.OperandsViews.{IsStructured, IsThere, layout_id, structure_known, whole_is}
use Rattle.block_layout.proofs.BlockLemmas.{kind_there}
use Rattle.listing_laws.proofs.declared.Blocks.{IsLaidInstance, fb_kind, laid_instance}
use Rattle.listing_laws.proofs.declared.Own.{whole_writes}
use Rattle.listing_laws.proofs.declared.OwnData.{initial_long}
use Rattle.listing_laws.proofs.declared.Sources.{Begins}
use Rattle.listing_laws.proofs.filled.Behind.{FirstBehind}
use Rattle.listing_laws.proofs.filled.Params.{ArePlaced, IsIn, bare, path_in, structure_in}
use Rattle.listing_laws.proofs.filled.Reached.{from_each, reached_by}

-- ---- the function block of an instance

-- a data block has the structure of a function block at a place
record HasFunctionBlock (symbols : List Symbol) (t : Tree) (n : ℕ) (s : Shape) : Type 0 where
  place : ℕ
  layout : BlockLayout
  there : slice_get (layouts_of t symbols) place ≡ Some layout
  is : layout.id ≡ Some (function_block n)
  shape : s ≡ shape.Of place

has_function_block : (symbols : List Symbol) (t : Tree) (n : ℕ) (s : Shape) → instance_in (layouts_of t symbols) s ≡ Some n → HasFunctionBlock symbols t n s
has_function_block symbols t n shape.Own e = absurd cc
has_function_block symbols t n shape.Unknown e = absurd cc
has_function_block symbols t n (shape.Of q) e = by (slice_get (layouts_of t symbols) q) refl e
  where
    whether : (m : BlockLayout) (id : BlockId) (is : Bool) → slice_get (layouts_of t symbols) q ≡ Some m → m.id ≡ Some id → is_function_block id.kind ≡ is
        → (if is then Some id.number else None) ≡ Some n → HasFunctionBlock symbols t n (shape.Of q)
    whether m id true there known is k =
        let number : id.number ≡ n = cc in
        let kind = fb_kind id.kind is in
        record { place = q; layout = m; there = there; is = known ∙ (λ i. Some (record { kind = kind i; number = number i })); shape = refl }
    whether m id false there known is k = absurd cc

    of_id : (m : BlockLayout) (o : Option BlockId) → slice_get (layouts_of t symbols) q ≡ Some m → m.id ≡ o → function_block_number o ≡ Some n → HasFunctionBlock symbols t n (shape.Of q)
    of_id m None there known k = absurd cc
    of_id m (Some id) there known k = whether m id (is_function_block id.kind) there known refl k

    by : (o : Option BlockLayout) → slice_get (layouts_of t symbols) q ≡ o → option_and_then (λ (l : BlockLayout). function_block_number l.id) o ≡ Some n → HasFunctionBlock symbols t n (shape.Of q)
    by None there k = absurd cc
    by (Some m) there k = of_id m m.id there refl k

-- what a source says of an instance
pub record IsSourceInstance (symbols : List Symbol) (t : Tree) (n : ℕ) (d : DataBlock) : Type 0 where
  pub place : ℕ
  pub block : Block
  pub layout : BlockLayout
  pub sound : IsSoundBlock symbols t place block layout
  pub is : layout.id ≡ Some (function_block n)
  pub long : length d.bytes ≡ (compiled_block (code_block (context_at symbols t place) block layout (function_block n))).instance_len
  -- where the parameters of the function block stand first among its cells
  pub set : (first rest : List Cell) (ps : List Param) (start : ℕ) → layout.components ≡ first ++ rest → Begins rest → ArePlaced 0 first ps → components_end 0 0 first < largest_size
      → start ≡ next_multiple (components_end 0 0 first) 16 / 8 → (j i : ℕ) → bit_in d.bytes j i ≡ 1 → OneReaches (map bare ps) j i ⊎ (start ≤ j)

-- ---- where the other sections begin

first_behind : (start end : ℕ) (rest : List Cell) → start ≡ next_multiple end 16 / 8 → Begins rest → AllByRecursion HasRoom rest → FirstBehind (8 * start) end rest
first_behind start end [] e begins room = tt
first_behind start end (c ∷ cs) e begins room =
    let opens = begins.1 room.0.sound in
    let aligned : alignment c ≡ 16 = ap (λ (t : Bool). if t then 16 else if nat_eq (length c.bounds) 0 then element_alignment c.of else 16) opens in
    (subst (λ n. 8 * start ≤ next_multiple end n) (sym aligned) (low start end e), begins.0, room.0.sound)
  where
    low : (start end : ℕ) → start ≡ next_multiple end 16 / 8 → 8 * start ≤ next_multiple end 16
    low start end e = omega (arith, e)

near_start : (start end : ℕ) → start ≡ next_multiple end 16 / 8 → end < largest_size → 8 * start ≤ largest_size
unfolding next_multiple
near_start start end e short = omega (arith, e, short)

all_settings : (P : Write → Type 0) (l : List BlockLayout) (k : ℕ) → ((s : Setting) → AllByRecursion P (setting_write l s.value (path_end_in_data_block l k (folded_path s.path)))) → (ss : List Setting)
    → AllByRecursion P (setting_writes l k ss)
all_settings P l k each [] = tt
all_settings P l k each (s ∷ ss) = all_append P (setting_write l s.value (path_end_in_data_block l k (folded_path s.path))) (setting_writes l k ss) (each s) (all_settings P l k each ss)

data_walk : (l : List BlockLayout) (k q : ℕ) → structure_of l k ≡ Some q → (s : Setting) → path_end_in_data_block l k (folded_path s.path) ≡ path_end_or_unjudged l (Some q) (folded_path s.path)
unfolding path_end_in_data_block
data_walk l k q e s = ap (λ o. path_end_or_unjudged l o (folded_path s.path)) e

-- all that an instance is written from lies in the parameters or behind them
all_in : (l : List BlockLayout) (blocks : List Block) (k q start : ℕ) (first rest : List Cell) (ps : List Param) → structure_of l k ≡ Some q → cells_at l q false ≡ first ++ rest
    → Begins rest → AllByRecursion HasRoom (first ++ rest) → ArePlaced 0 first ps → components_end 0 0 first < largest_size → start ≡ next_multiple (components_end 0 0 first) 16 / 8
    → AllByRecursion (IsIn ps start) (writes_of l blocks k)
all_in l blocks k q start first rest ps structure cells begins room placed short at =
    all_append (IsIn ps start) (structure_writes l (structure_of l k)) (setting_writes l k (settings_at (slice_get blocks k)))
    (subst (λ o. AllByRecursion (IsIn ps start) (structure_writes l o)) (sym structure)
    (subst (AllByRecursion (IsIn ps start)) (sym (whole_writes l q))
    (subst (λ cs. AllByRecursion (IsIn ps start) (writes_from (type_writes l 8) 0 (0 ∷ []) 0 cs)) (sym cells) (structure_in l start near 8 0 first rest ps placed (omega arith) short behind))))
    (all_settings (IsIn ps start) l k
    (λ s. subst (λ e. AllByRecursion (IsIn ps start) (setting_write l s.value e)) (sym (data_walk l k q structure s))
    (path_in l start near q first rest ps s.value (folded_path s.path) cells placed short behind))
    (settings_at (slice_get blocks k)))
  where
    near : 8 * start ≤ largest_size
    near = near_start start (components_end 0 0 first) at short

    behind : FirstBehind (8 * start) (components_end 0 0 first) rest
    behind = first_behind start (components_end 0 0 first) rest at begins (all_back HasRoom first rest room)

each_reach : (Q : ℕ → ℕ → Type 0) (ws : List Write) (j i : ℕ) → AllByRecursion (λ w. (j i : ℕ) → Reaches w j i → Q j i) ws → AllByRecursion (λ w. Reaches w j i → Q j i) ws
each_reach Q [] j i h = tt
each_reach Q (w ∷ ws) j i (one, more) = (one j i, each_reach Q ws j i more)

pub source_instance : (source file : List ℕ) (symbols : List Symbol) (t : Tree) → IsAccepted source file symbols t → AreBytes source → (k : ℕ) (b : Block) (l : BlockLayout) (id : BlockId)
    → IsSoundBlock symbols t k b l → l.id ≡ Some id → is_data_block id.kind ≡ true → (n : ℕ) → (generated_data_block (context_at symbols t k) l id).instance_of ≡ Some n
    → IsSourceInstance symbols t n (generated_data_block (context_at symbols t k) l id)
source_instance source file symbols t accepted bytes k b l id h is db n instance = record {
  place = q;
  block = found.block;
  layout = has.layout;
  sound = found.sound;
  is = has.is;
  long = long;
  set = set;
}
  where
    ls : List BlockLayout
    ls = layouts_of t symbols

    tree : IsSoundTree symbols t
    tree = right_tree source file symbols t accepted

    has : HasFunctionBlock symbols t n l.shape
    has = has_function_block symbols t n l.shape instance

    q : ℕ
    q = has.place

    found : LaidBlock symbols t q has.layout
    found = block_of_layout symbols t tree q has.layout has.there

    structure : structure_of ls k ≡ Some q
    structure =
        ap (option_and_then (λ (m : BlockLayout). shape_block ls k m.shape)) (whole_is ls k l h.layout_there h.whole)
        ∙ ap (shape_block ls k) has.shape
        ∙ ap (λ (t : Bool). if t then Some q else None) (ap is_some (whole_is ls q has.layout has.there found.sound.whole))

    cells : cells_at ls q false ≡ has.layout.components
    cells = ap (cells_in false) has.there

    laid : IsLaidInstance has.layout (compiled_block (code_block (context_at symbols t q) found.block has.layout (function_block n)))
    laid = laid_instance symbols t q found.block has.layout (function_block n) found.sound has.is refl refl

    there : IsThere symbols t is_data_block k
    there = record {
      id = id;
      block = b;
      layout = l;
      laid = h.layout_there;
      is = is;
      kind = db;
      same = kind_there symbols b id (sym (layout_id symbols t k b l h) ∙ is);
      sound = h;
    }

    shaped : IsStructured symbols t k
    shaped = structure_known symbols t tree k there

    inside : shaped.inside ≡ q
    inside = some_same shaped.inside q (sym shaped.is ∙ structure)
      where
        some_same : (m n : ℕ) → Some m ≡ Some n → m ≡ n
        some_same m n e = cc

    long : length (initial_bytes ls t.blocks k) ≡ instance_len found.block has.layout
    long =
        initial_long ls t.blocks k ∙ shaped.long ∙ ap (λ m. structure_bits (cells_at ls m false) / 8) inside ∙ ap (λ cs. structure_bits cs / 8) (cells ∙ laid.are)
        ∙ sym laid.instance.length

    written : IsMadeByWrites ls t.blocks k l.length
    written = initial_values_are_whole source file symbols t accepted bytes k l id h.layout_there is db

    set : (first rest : List Cell) (ps : List Param) (start : ℕ) → has.layout.components ≡ first ++ rest → Begins rest → ArePlaced 0 first ps → components_end 0 0 first < largest_size
        → start ≡ next_multiple (components_end 0 0 first) 16 / 8 → (j i : ℕ) → bit_in (initial_bytes ls t.blocks k) j i ≡ 1 → OneReaches (map bare ps) j i ⊎ (start ≤ j)
    set first rest ps start are begins placed short at j i one =
        from_each (OneReaches (map bare ps) j i ⊎ (start ≤ j)) (writes_of ls t.blocks k) j i
        (each_reach (λ j i. OneReaches (map bare ps) j i ⊎ (start ≤ j)) (writes_of ls t.blocks k) j i
        (all_in ls t.blocks k q start first rest ps structure (cells ∙ are) begins (subst (AllByRecursion HasRoom) (cells ∙ are) (written.room q)) placed short at))
        (reached_by l.length (writes_of ls t.blocks k) j i (ap (λ bs. bit_in bs j i) (sym written.made) ∙ one))
