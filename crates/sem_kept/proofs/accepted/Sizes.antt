-- The program of an accepted source is small enough for an image.
use Rattle.std.proofs.Common.{◌≡◌, ℕ, zero, suc, ◌+◌, ◌*◌, ◌≤◌, ◌<◌, Bool, true, false, cond, not, List, [], ◌∷◌, ◌++◌, length, length-append, map, Option, Some, None, refl, sym, ap, subst, ◌∙◌, arith}
use Rattle.std.specs.Prelude.{is_some, nat_lt, slice_get, if◌then◌else◌}
use Rattle.std.specs.List.{AllByRecursion, count_by, flat_map, sum_by}
use Rattle.std.proofs.lemmas.Bool.Decides.{nat_tests}
use Rattle.std.proofs.lemmas.List.{length-map}
use Rattle.std.proofs.lemmas.List.Concat.{length-flat_map}
use Rattle.std.proofs.lemmas.List.Sums.{sum_by-append, sum_by-cons}
use Rattle.std.proofs.lemmas.Option.{same_Some}
use Rattle.plc_base.specs.Kinds.{is_code, is_data_block, is_function_block}
use Rattle.plc_base.specs.declared.blocks.BlockId.{BlockId}
use Rattle.flat_code.specs.Checking.{records_size, data_size, good_counts}
use Rattle.flat_code.specs.Programs.{DataBlock}
use Rattle.flat_code.specs.declared.programs.Param.{Param}
use Rattle.image_file.specs.Writing.{BlockFitsFields}
use Rattle.stl_ast.specs.Blocks.{is_parameter}
use Rattle.stl_ast.specs.Sizes.{body_size}
use Rattle.stl_ast.specs.Statements.{is_empty_statement}
use Rattle.stl_ast.specs.declared.blocks.Block.{Block}
use Rattle.stl_ast.specs.declared.blocks.Part.{Part}
use Rattle.stl_ast.specs.declared.blocks.PartKind.{PartKind}
use Rattle.stl_ast.specs.declared.blocks.PartKind.TheVariants as part
use Rattle.stl_ast.specs.declared.blocks.Tree.{Tree}
use Rattle.stl_ast.specs.declared.declarations.Declaration.{Declaration}
use Rattle.stl_ast.specs.declared.declarations.ElementType.{ElementType}
use Rattle.stl_ast.specs.declared.declarations.ElementType.TheVariants as types
use Rattle.stl_ast.specs.declared.declarations.Simple.{Simple}
use Rattle.stl_ast.specs.declared.operands.Operand.{Operand}
use Rattle.stl_ast.specs.declared.operands.Operand.TheVariants as operand
use Rattle.stl_ast.specs.declared.statements.Statement.{Statement}
use Rattle.stl_symbols.specs.Symbol.{Symbol}
use Rattle.block_layout.specs.Around.{Outside, of_sections, of_structure, declarations_before_next}
use Rattle.block_layout.specs.Blocks.{id_of}
use Rattle.block_layout.specs.Cells.{cell_of, cells_of, components_of, is_temp, layout_element, with_first_cell_opening, returned_cells, section_cells, udt_element}
use Rattle.block_layout.specs.InitialBytes.{length_at}
use Rattle.block_layout.specs.Layouts.{block_layout, layouts_by, layouts_from, layouts_of}
use Rattle.block_layout.specs.Lengths.{length_of_block}
use Rattle.block_layout.specs.Measures.{types_of_source}
use Rattle.block_layout.specs.Rule22.{is_block_twice, rule_22}
use Rattle.block_layout.specs.Rule23.{names_unknown}
use Rattle.block_layout.specs.Rule44.{has_wrong_number, rule_44}
use Rattle.block_layout.specs.Rule53.{is_one_too_many, rule_53}
use Rattle.block_layout.specs.Rule54.{data_length, exceeds_total, rule_54}
use Rattle.block_layout.specs.Types.{Types, data_type_place}
use Rattle.block_layout.specs.declared.blocks.BlockLayout.{BlockLayout}
use Rattle.block_layout.specs.declared.cells.Cell.{Cell}
use Rattle.stl_types.specs.Context.{Context}
use Rattle.stl_types.specs.Parameters.{formals_of}
use Rattle.stl_codegen.specs.CompiledBlock.{StatedBlock, compiled_block}
use Rattle.stl_codegen.specs.GeneratedProgram.{code_block, code_block_of, code_blocks_of, generated_data_block, data_block_of, data_blocks_of, each_block, name_entries_of, param_here, param_of, params_of}
use Rattle.stl_codegen.specs.Instruction.{return_last}
use Rattle.stl_codegen.specs.Order.{is_code_before, is_data_before}
use Rattle.sem_kept.specs.Sizes.{AcceptedIsSmall}
use Rattle.block_layout.proofs.HeadLemmas.{AllHeads, heads_none}
use Rattle.sem_kept.specs.SettledStatements.{context_at}
use Rattle.sem_kept.proofs.accepted.Accepted.{AllLaid, IsSoundBlock, IsSoundStatement, IsSoundTree, right_tree, sound_code_blocks}
use Rattle.block_layout.proofs.LayoutLemmas.{measured_ids, measured_symbols}
use Rattle.sem_kept.proofs.accepted.OperandsMembers.{initial_long}
use Rattle.sem_kept.proofs.accepted.OperandsViews.{data_there, layout_components, layout_id, layout_length}
use Rattle.block_layout.proofs.CountLemmas.{bit, count_of_code, counted_data, few_code_blocks, few_data_blocks, few_data_bytes, is_code_id}
use Rattle.sem_kept.proofs.accepted.SizesCalls.{AllAreOnce, AreNamesOnce, passes_few, sound_once}
use Rattle.sem_kept.proofs.accepted.SizesNames.{IsShortSymbol, names_count, names_size, symbols_fine}
use Rattle.sem_kept.proofs.accepted.SizesOps.{IsTaken, Opens, bytes_in, whole_count, whole_fits}
use Rattle.sem_kept.proofs.accepted.SizesSums.{each_sum, mapped_sum, sorted_sum, summed_22, summed_8, summed_ones}
use Rattle.block_layout.proofs.CommonLemmas.{summed_two}
use Rattle.stl_parser.proofs.SizeLemmas.{bounded_by_source, declared_size, element_size, part_size, parts_size, whole_size}
use Rattle.block_layout.proofs.BlockLemmas.{kind_there}

-- ---- parameters

-- how many parameters cells come to
abbrev param_count : Bool → List Cell → Cell → ℕ
param_count in_instance all c = length (param_here in_instance all c)

abbrev params_among : Bool → List Cell → List Cell → ℕ
params_among in_instance all cells = sum_by (param_count in_instance all) cells

among_opened : (i : Bool) (all cells : List Cell)
    → params_among i all (with_first_cell_opening cells) ≡ params_among i all cells
among_opened i all [] = refl
among_opened i all (c ∷ cs) = by c.sound (among_opened i all cs)
  where
    by : (sound : Bool) → params_among i all (with_first_cell_opening cs) ≡ params_among i all cs
        → params_among i all (if sound then record c { opens = true } ∷ cs else c ∷ with_first_cell_opening cs)
        ≡ params_among i all (c ∷ cs)
    by true more = refl
    by false more = omega (arith, sum_by-cons (param_count i all) c (with_first_cell_opening cs), sum_by-cons (param_count i all) c cs, more)

-- six bytes each, as their declarations have
one_param : (i : Bool) (all : List Cell) (c : Cell) (y : Types) (e : ElementType)
    → 6 * length (param_of i all c (layout_element y e)) ≤ element_size e
one_param i all c y (types.Plain kind) = omega arith
one_param i all c y types.Structure = omega arith
one_param i all c y types.DateAndTime = omega arith
one_param i all c y (types.Udt name) = by (data_type_place y name)
  where
    by : (block : Option ℕ) → 6 * length (param_of i all c (udt_element y.bits block)) ≤ 0
    by None = omega arith
    by (Some block) = omega arith

items_params : (i : Bool) (all : List Cell) (y : Types) (o : Outside) (section : PartKind)
    (before ds : List Declaration)
    → 6 * params_among i all (cells_of y o section before ds) ≤ sum_by declared_size ds
unfolding cell_of
items_params i all y o section before [] = omega arith
items_params i all y o section before (d ∷ ds) =
    let c = cell_of y o section before d in
    omega (
      arith,
      sum_by-cons (param_count i all) c (cells_of y o section (d ∷ before) ds),
      by (is_parameter section),
      items_params i all y o section (d ∷ before) ds,
      sum_by-cons declared_size d ds,
    )
  where
    by : (is : Bool)
        → 6 * length (if is then param_of i all (cell_of y o section before d) (layout_element y d.of.of)
        else []) ≤ declared_size d
    by true = one_param i all (cell_of y o section before d) y d.of.of
    by false = omega arith

sections_params : (i : Bool) (all : List Cell) (y : Types) (o : Outside)
    (wanted : PartKind → Bool) (before : List Declaration) (ps : List Part)
    → 6 * params_among i all (section_cells y o wanted before ps) ≤ parts_size ps
sections_params i all y o wanted before [] = omega arith
sections_params i all y o wanted before (p ∷ ps) =
    let here = if wanted p.kind then with_first_cell_opening (cells_of y o p.kind before p.items) else [] in
    omega (
      arith,
      sum_by-append (param_count i all) here (section_cells y o wanted (declarations_before_next before p.items) ps),
      by (wanted p.kind),
      sections_params i all y o wanted (declarations_before_next before p.items) ps,
      sum_by-cons part_size p ps,
    )
  where
    by : (is : Bool)
        → 6 * params_among i all (if is then with_first_cell_opening (cells_of y o p.kind before p.items) else [])
        ≤ part_size p
    by true =
        omega (
          arith,
          among_opened i all (cells_of y o p.kind before p.items),
          items_params i all y o p.kind before p.items,
        )
    by false = omega arith

static_params : (i : Bool) (all : List Cell) (y : Types) (o : Outside)
    (before ds : List Declaration)
    → params_among i all (cells_of y o part.Static before ds) ≡ 0
unfolding cell_of
static_params i all y o before [] = refl
static_params i all y o before (d ∷ ds) =
    omega (
      arith,
      sum_by-cons (param_count i all) (cell_of y o part.Static before d)
          (cells_of y o part.Static (d ∷ before) ds),
      static_params i all y o (d ∷ before) ds,
    )

returned_params : (i : Bool) (all : List Cell) (result : Option Simple)
    → params_among i all (returned_cells result) ≤ 1
returned_params i all None = omega arith
returned_params i all (Some kind) = omega arith

ordered_length : (result : Option Simple) (ps : List Param)
    → length (return_last result ps) ≡ length ps
ordered_length None ps = refl
ordered_length (Some result) [] = refl
ordered_length (Some result) (p ∷ ps) = omega (arith, length-append ps (p ∷ []))

params_size : (y : Types) (b : Block) (l : BlockLayout) → l.components ≡ components_of y b
    → 6 * length (params_of b l) ≤ 6 + parts_size b.parts
unfolding params_of
params_size y b l are =
    let o = of_sections b in
    let i = is_function_block b.kind in
    let all = l.components in
    let returned = returned_cells b.result in
    let sections = section_cells y o (λ k. not (is_temp k)) [] b.parts in
    let own = cells_of y of_structure part.Static [] b.components in
    omega (
      arith,
      ordered_length b.result (flat_map (λ c. param_here i all c) all),
      length-flat_map (λ c. param_here i all c) all,
      ap (params_among i all) are,
      sum_by-append (param_count i all) (returned ++ sections) own,
      sum_by-append (param_count i all) returned sections,
      static_params i all y of_structure [] b.components,
      returned_params i all b.result,
      sections_params i all y o (λ k. not (is_temp k)) [] b.parts,
    )

-- ---- statements

-- of the blocks of a source with their layouts
pub laid_mapped : (P Q : ℕ → Block → BlockLayout → Type 0)
    → ((k : ℕ) (b : Block) (l : BlockLayout) → P k b l → Q k b l) → (k : ℕ) (bs : List Block)
    (ls : List BlockLayout) → AllLaid P k bs ls → AllLaid Q k bs ls
laid_mapped P Q f k [] ls h = tt
laid_mapped P Q f k (b ∷ bs) [] h = absurd h
laid_mapped P Q f k (b ∷ bs) (l ∷ ls) h = (f k b l h.0, laid_mapped P Q f (suc k) bs ls h.1)

-- what each sound block has by its layout, all layouts have
laid_each : (symbols : List Symbol) (t : Tree) (P : BlockLayout → Type 0)
    → ((k : ℕ) (b : Block) (l : BlockLayout) → IsSoundBlock symbols t k b l → P l)
    → (y : Types) (blocks before : List Block) (k : ℕ) (bs : List Block)
    → AllLaid (IsSoundBlock symbols t) k bs (layouts_from y blocks before bs)
    → AllByRecursion P (layouts_from y blocks before bs)
laid_each symbols t P f y blocks before k [] h = tt
laid_each symbols t P f y blocks before k (b ∷ bs) h =
    (f k b (block_layout y blocks before b) h.0, laid_each symbols t P f y blocks (b ∷ before) (suc k) bs h.1)

all_laid : (symbols : List Symbol) (t : Tree) (P : BlockLayout → Type 0)
    → ((k : ℕ) (b : Block) (l : BlockLayout) → IsSoundBlock symbols t k b l → P l) → IsSoundTree symbols t
    → AllByRecursion P (layouts_of t symbols)
unfolding layouts_of layouts_by
all_laid symbols t P f h =
    laid_each symbols t P f (types_of_source symbols t.blocks) t.blocks [] 0 t.blocks h.blocks

-- a data block that is opened has a number
opens : (symbols : List Symbol) (t : Tree) → IsSoundTree symbols t → (k : ℕ) (o : Operand)
    → names_unknown (types_of_source symbols t.blocks) o ≡ false → Opens (context_at symbols t k) o
opens symbols t tree k (operand.OpenBlock di name) there = ap is_some (data_there symbols t tree k name there).number
opens symbols t tree k _ there = tt

-- what is needed of a tree
record IsShortTree (symbols : List Symbol) (t : Tree) : Type 0 where
  fine : AllByRecursion IsShortSymbol symbols
  sound : IsSoundTree symbols t
  once : AllAreOnce (layouts_of t symbols)

all_taken : (symbols : List Symbol) (t : Tree) (k : ℕ) (ss : List Statement) → IsShortTree symbols t
    → AllByRecursion (IsSoundStatement (types_of_source symbols t.blocks) (context_at symbols t k)) ss
    → AllByRecursion (IsTaken (context_at symbols t k)) ss
all_taken symbols t k [] ready h = tt
all_taken symbols t k (s ∷ ss) ready h = (
  record {
    allowed = h.0.allowed;
    opens = opens symbols t ready.sound k s.operand h.0.there;
    few = passes_few (context_at symbols t k) s ready.once;
  },
  all_taken symbols t k ss ready h.1,
)

-- ---- code blocks

sound_kind : (symbols : List Symbol) (t : Tree) (k : ℕ) (b : Block) (l : BlockLayout)
    (id : BlockId) → IsSoundBlock symbols t k b l → l.id ≡ Some id → b.kind ≡ id.kind
sound_kind symbols t k b l id sound e = kind_there symbols b id (sym (layout_id symbols t k b l sound) ∙ e)

-- its code
code_fits : (symbols : List Symbol) (t : Tree) → IsShortTree symbols t → (k : ℕ) (b : Block)
    (l : BlockLayout) (id : BlockId) → IsSoundBlock symbols t k b l → l.id ≡ Some id
    → is_code id.kind ≡ true
    → bytes_in (compiled_block (code_block (context_at symbols t k) b l id)).code
    + 4 * length (compiled_block (code_block (context_at symbols t k) b l id)).lines ≤ body_size b
code_fits symbols t ready k b l id sound e is =
    whole_fits (context_at symbols t k) b ready.fine
    (all_taken symbols t k b.body ready sound.statements)
    (ap is_code (sound_kind symbols t k b l id sound e) ∙ is)

code_size : (symbols : List Symbol) (t : Tree) → IsShortTree symbols t → (k : ℕ) (b : Block)
    (l : BlockLayout) (id : BlockId) → IsSoundBlock symbols t k b l → l.id ≡ Some id
    → is_code id.kind ≡ true
    → records_size (compiled_block (code_block (context_at symbols t k) b l id)) ≤ 22 + whole_size b
code_size symbols t ready k b l id sound e is =
    let y = types_of_source symbols t.blocks in
    omega (
      arith,
      code_fits symbols t ready k b l id sound e is,
      params_size y b l (layout_components symbols t k b l sound),
    )

coded_is : (symbols : List Symbol) (t : Tree) (k : ℕ) (b : Block) (l : BlockLayout)
    → IsSoundBlock symbols t k b l → bit (is_code_id l.id) ≡ count_of_code symbols b
coded_is symbols t k b l sound = ap (λ (o : Option BlockId). bit (is_code_id o)) (layout_id symbols t k b l sound)

coded_one : (symbols : List Symbol) (t : Tree) (k : ℕ) (b : Block) (l : BlockLayout) (id : BlockId)
    → IsSoundBlock symbols t k b l → l.id ≡ Some id → is_code id.kind ≡ true → count_of_code symbols b ≡ 1
coded_one symbols t k b l id sound e is =
    sym (coded_is symbols t k b l sound) ∙ ap (λ (o : Option BlockId). bit (is_code_id o)) e ∙ ap bit is

-- what a block makes is at most so large, if what it makes under its number is
made_sum : {A : Type 0} (f : A → ℕ) (n : ℕ) (of : Option BlockId → List A) (one : BlockId → A) (test : BlockId → Bool)
    → of None ≡ [] → ((id : BlockId) → of (Some id) ≡ (if test id then one id ∷ [] else [])) → (o : Option BlockId)
    → ((id : BlockId) → o ≡ Some id → test id ≡ true → f (one id) ≤ n) → sum_by f (of o) ≤ n
made_sum f n of one test none some None h = rw none (omega arith)
made_sum f n of one test none some (Some id) h = rw (some id) (by (test id) (h id refl))
  where
    by : (is : Bool) → (is ≡ true → f (one id) ≤ n) → sum_by f (if is then one id ∷ [] else []) ≤ n
    by true most = omega (arith, most refl, sum_by-cons f (one id) [])
    by false most = omega arith

codes_sum : (symbols : List Symbol) (t : Tree) → IsSoundTree symbols t → (f : StatedBlock → ℕ) (g : Block → ℕ)
    → ((k : ℕ) (b : Block) (l : BlockLayout) (id : BlockId) → IsSoundBlock symbols t k b l → l.id ≡ Some id
    → is_code id.kind ≡ true → f (code_block (context_at symbols t k) b l id) ≤ g b)
    → sum_by f (code_blocks_of t symbols (layouts_of t symbols)) ≤ sum_by g t.blocks
unfolding code_blocks_of
codes_sum symbols t sound f g each =
    let of_ : Context → Block → BlockLayout → List StatedBlock = λ c b l. code_block_of c b l l.id in
    let here = laid_mapped (IsSoundBlock symbols t) (λ k b l. sum_by f (of_ (context_at symbols t k) b l) ≤ g b)
    (λ k b l h. made_sum f (g b) (code_block_of (context_at symbols t k) b l) (code_block (context_at symbols t k) b l)
    (λ id. is_code id.kind) refl (λ id. refl) l.id (λ id. each k b l id h)) 0 t.blocks (layouts_of t symbols) sound.blocks in
    omega (
      arith,
      sorted_sum is_code_before f (each_block of_ (context_at symbols t 0) t.blocks (layouts_of t symbols)),
      each_sum of_ f g symbols t 0 t.blocks (layouts_of t symbols) here,
    )

codes_size : (symbols : List Symbol) (t : Tree) → IsShortTree symbols t
    → sum_by records_size (map compiled_block (code_blocks_of t symbols (layouts_of t symbols)))
    ≤ 22 * sum_by (count_of_code symbols) t.blocks + sum_by whole_size t.blocks
codes_size symbols t ready =
    omega (
      arith,
      mapped_sum compiled_block records_size (code_blocks_of t symbols (layouts_of t symbols)),
      codes_sum symbols t ready.sound (λ s. records_size (compiled_block s)) (λ b. 22 * count_of_code symbols b + whole_size b)
          (λ k b l id h e is. omega (
            arith,
            code_size symbols t ready k b l id h e is,
            coded_one symbols t k b l id h e is,
          )),
      summed_two (λ b. 22 * count_of_code symbols b) whole_size t.blocks,
      summed_22 (count_of_code symbols) t.blocks,
    )

codes_count : (symbols : List Symbol) (t : Tree) → IsSoundTree symbols t
    → length (map compiled_block (code_blocks_of t symbols (layouts_of t symbols)))
    ≤ sum_by (count_of_code symbols) t.blocks
codes_count symbols t sound =
    omega (
      arith,
      length-map (code_blocks_of t symbols (layouts_of t symbols)) compiled_block,
      summed_ones (code_blocks_of t symbols (layouts_of t symbols)),
      codes_sum symbols t sound (λ s. 1) (count_of_code symbols)
          (λ k b l id h e is. omega (arith, coded_one symbols t k b l id h e is)),
    )

-- ---- data blocks

sound_data : (symbols : List Symbol) (t : Tree) (k : ℕ) (b : Block) (l : BlockLayout)
    (id : BlockId) → IsSoundBlock symbols t k b l → l.id ≡ Some id → is_data_block id.kind ≡ true
    → is_data_block b.kind ≡ true
sound_data symbols t k b l id sound e is = ap is_data_block (sound_kind symbols t k b l id sound e) ∙ is

one_data_size : (symbols : List Symbol) (t : Tree) (k : ℕ) (b : Block) (l : BlockLayout)
    (id : BlockId) → IsSoundBlock symbols t k b l → l.id ≡ Some id → is_data_block id.kind ≡ true
    → data_size (generated_data_block (context_at symbols t k) l id)
    ≡ 8 * counted_data b + data_length (types_of_source symbols t.blocks) t.blocks b
one_data_size symbols t k b l id sound e is =
    let y = types_of_source symbols t.blocks in
    let counted : counted_data b ≡ 1 = ap bit (sound_data symbols t k b l id sound e is) in
    let long : data_length y t.blocks b ≡ length_of_block y t.blocks b =
    ap (λ (d : Bool). cond d (length_of_block y t.blocks b) 0)
    (sound_data symbols t k b l id sound e is) in
    omega (
      arith,
      counted,
      long,
      initial_long (layouts_of t symbols) t.blocks k,
      ap length_at sound.layout_there,
      layout_length symbols t k b l sound,
    )

datas_sum : (symbols : List Symbol) (t : Tree) → IsSoundTree symbols t → (f : DataBlock → ℕ) (g : Block → ℕ)
    → ((k : ℕ) (b : Block) (l : BlockLayout) (id : BlockId) → IsSoundBlock symbols t k b l → l.id ≡ Some id
    → is_data_block id.kind ≡ true → f (generated_data_block (context_at symbols t k) l id) ≤ g b)
    → sum_by f (data_blocks_of t symbols (layouts_of t symbols)) ≤ sum_by g t.blocks
unfolding data_blocks_of
datas_sum symbols t sound f g each =
    let of_ : Context → Block → BlockLayout → List DataBlock = λ c b l. data_block_of c l l.id in
    let here = laid_mapped (IsSoundBlock symbols t) (λ k b l. sum_by f (of_ (context_at symbols t k) b l) ≤ g b)
    (λ k b l h. made_sum f (g b) (data_block_of (context_at symbols t k) l) (generated_data_block (context_at symbols t k) l)
    (λ id. is_data_block id.kind) refl (λ id. refl) l.id (λ id. each k b l id h)) 0 t.blocks (layouts_of t symbols) sound.blocks in
    omega (
      arith,
      sorted_sum is_data_before f (each_block of_ (context_at symbols t 0) t.blocks (layouts_of t symbols)),
      each_sum of_ f g symbols t 0 t.blocks (layouts_of t symbols) here,
    )

datas_size : (symbols : List Symbol) (t : Tree) → IsSoundTree symbols t
    → sum_by data_size (data_blocks_of t symbols (layouts_of t symbols))
    ≤ 8 * sum_by counted_data t.blocks
    + sum_by (data_length (types_of_source symbols t.blocks) t.blocks) t.blocks
datas_size symbols t sound =
    let long = data_length (types_of_source symbols t.blocks) t.blocks in
    omega (
      arith,
      datas_sum symbols t sound data_size (λ b. 8 * counted_data b + long b)
          (λ k b l id h e is. omega (arith, one_data_size symbols t k b l id h e is)),
      summed_two (λ b. 8 * counted_data b) long t.blocks,
      summed_8 counted_data t.blocks,
    )

datas_count : (symbols : List Symbol) (t : Tree) → IsSoundTree symbols t
    → length (data_blocks_of t symbols (layouts_of t symbols)) ≤ sum_by counted_data t.blocks
datas_count symbols t sound =
    omega (
      arith,
      summed_ones (data_blocks_of t symbols (layouts_of t symbols)),
      datas_sum symbols t sound (λ d. 1) counted_data
          (λ k b l id h e is. omega (arith, ap bit (sound_data symbols t k b l id h e is))),
    )

counts_good : (codes datas names : ℕ) → codes ≤ 4219 → datas ≤ 256 → names ≤ 65535
    → good_counts codes datas names ≡ true
counts_good codes datas names h k l = grind (arith, nat_tests)

-- rules of heads
heads_22 : (y : Types) (blocks : List Block) → rule_22 y blocks ≡ []
    → AllHeads (λ before b. is_block_twice y before b ≡ false) [] blocks
unfolding rule_22
heads_22 y blocks e = heads_none (is_block_twice y) 22 [] blocks e

heads_44 : (symbols : List Symbol) (blocks : List Block) → rule_44 symbols blocks ≡ []
    → AllHeads (λ before b. has_wrong_number symbols b ≡ false) [] blocks
unfolding rule_44
heads_44 symbols blocks e =
    heads_none (λ before b. has_wrong_number symbols b) 44 [] blocks e

heads_53 : (blocks : List Block) → rule_53 blocks ≡ []
    → AllHeads (λ before b. is_one_too_many before b ≡ false) [] blocks
unfolding rule_53
heads_53 blocks e = heads_none is_one_too_many 53 [] blocks e

heads_54 : (y : Types) (blocks : List Block) → rule_54 y blocks ≡ []
    → AllHeads (λ before b. exceeds_total y blocks before b ≡ false) [] blocks
unfolding rule_54
heads_54 y blocks e = heads_none (exceeds_total y blocks) 54 [] blocks e

few_codes : (symbols : List Symbol) (t : Tree) → IsSoundTree symbols t
    → sum_by (count_of_code symbols) t.blocks ≤ 4219
few_codes symbols t sound =
    let y = types_of_source symbols t.blocks in
    subst (λ (s : List Symbol). sum_by (count_of_code s) t.blocks ≤ 4219)
    (measured_symbols symbols t.blocks)
    (few_code_blocks y t.blocks (measured_ids symbols t.blocks ∙ ap (λ (s : List Symbol). map (λ b. id_of s b) t.blocks)
    (sym (measured_symbols symbols t.blocks)))
    (heads_22 y t.blocks sound.by_layout.by_22)
    (heads_44 y.symbols t.blocks sound.by_layout.by_44))

-- ---- each code block

part_of : {X : Type 0} (f : X → ℕ) (xs : List X) (k : ℕ) (x : X) → slice_get xs k ≡ Some x
    → f x ≤ sum_by f xs
part_of f [] k x h = absurd cc
part_of f (y ∷ ys) zero x h =
    omega (arith, ap f (same_Some y x h), sum_by-cons f y ys)
part_of f (y ∷ ys) (suc k) x h = omega (arith, part_of f ys k x h, sum_by-cons f y ys)

few_statements : (n : ℕ) → nat_lt 65534 n ≡ false → n + 1 < 65536
few_statements n h = grind (arith, nat_tests)

small_block : (symbols : List Symbol) (t : Tree) → IsShortTree symbols t
    → sum_by whole_size t.blocks ≤ 4194304 → (k : ℕ) (b : Block) (l : BlockLayout)
    (id : BlockId) → IsSoundBlock symbols t k b l → l.id ≡ Some id → is_code id.kind ≡ true
    → BlockFitsFields (compiled_block (code_block (context_at symbols t k) b l id))
small_block symbols t ready bounded k b l id sound e is =
    let count = count_by (λ (s : Statement). not (is_empty_statement s.code)) b.body in
    record {
      lines = omega (
        arith,
        whole_count (context_at symbols t k) b,
        few_statements count sound.head.by_55,
      );
      code = omega (
        arith,
        code_fits symbols t ready k b l id sound e is,
        part_of whole_size t.blocks k b sound.block_there,
        bounded,
      );
    }

all_mapped_to : {A B : Type 0} (P : B → Type 0) (f : A → B) (xs : List A)
    → AllByRecursion (λ x. P (f x)) xs → AllByRecursion P (map f xs)
all_mapped_to P f [] h = tt
all_mapped_to P f (x ∷ xs) h = (h.0, all_mapped_to P f xs h.1)

-- ---- the program

pub accepted_is_small : AcceptedIsSmall
accepted_is_small source file symbols t is =
    let sound = right_tree source file symbols t is in
    let fine = symbols_fine is.language file symbols is.named in
    let y = types_of_source symbols t.blocks in
    let ready : IsShortTree symbols t = record {
      fine = fine.each;
      sound = sound;
      once = all_laid symbols t (λ l. AreNamesOnce (formals_of l.components)) (sound_once symbols t) sound;
    } in
    let short = is.short in
    let bounded = bounded_by_source source is.tokens t is.lexed is.parsed in
    let code_bytes : sum_by whole_size t.blocks ≤ 4194304 = omega (arith, short, bounded) in
    let codes = few_codes symbols t sound in
    let datas = few_data_blocks t.blocks (heads_53 t.blocks sound.by_layout.by_53) in
    let bytes = few_data_bytes y t.blocks t.blocks (heads_54 y t.blocks sound.by_layout.by_54) in
    let code_sum = codes_size symbols t ready in
    let data_sum = datas_size symbols t sound in
    let name_sum = names_size symbols fine in
    record {
      counts = counts_good (length (map compiled_block (code_blocks_of t symbols (layouts_of t symbols))))
          (length (data_blocks_of t symbols (layouts_of t symbols))) (length (name_entries_of symbols))
          (omega (arith, codes_count symbols t sound, codes))
          (omega (arith, datas_count symbols t sound, datas)) (names_count symbols fine);
      short = omega (arith, code_bytes, codes, datas, bytes, code_sum, data_sum, name_sum);
      blocks = all_mapped_to BlockFitsFields compiled_block
          (code_blocks_of t symbols (layouts_of t symbols))
          (sound_code_blocks symbols t (λ s. BlockFitsFields (compiled_block s)) sound
          (small_block symbols t ready code_bytes));
    }
