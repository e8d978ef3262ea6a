-- What surrounds the bodies of an accepted source fits: numbers, and the counts of parameters.
use Rattle.std.proofs.Common.{◌≡◌, ℕ, suc, ◌+◌, ◌≤◌, Bool, true, false, eqb, List, [], ◌∷◌, ◌++◌, length, length-append, Option, refl, sym, ap, subst, ◌∙◌, arith}
use Rattle.std.specs.Prelude.{IfSome, nat_eq, not, sum_by, cond}
use Rattle.std.specs.List.{AllByRecursion, count_by}
use Rattle.std.proofs.lemmas.Bool.Decides.{nat_tests}
use Rattle.std.proofs.lemmas.Bool.{eq-eqb}
use Rattle.std.proofs.lemmas.Grind.{flat_map-append}
use Rattle.std.proofs.lemmas.List.Sums.{sum_by-cons}
use Rattle.plc_base.specs.Kinds.{is_function}
use Rattle.plc_base.specs.declared.blocks.BlockId.{BlockId}
use Rattle.plc_base.specs.declared.blocks.BlockKind.{BlockKind}
use Rattle.plc_base.specs.declared.blocks.BlockKind.TheVariants as kinds
use Rattle.stl_ast.specs.Blocks.{is_parameter, may_have_section}
use Rattle.stl_ast.specs.Declarations.{is_elementary}
use Rattle.stl_ast.specs.Operands.{IsAnyName}
use Rattle.stl_ast.specs.Outline.{IsOutline, level_behind}
use Rattle.stl_ast.specs.WellFormed.{AreDeclaredIn, IsBlock, IsHeadName, IsSection, IsShapeOf}
use Rattle.stl_ast.specs.declared.blocks.Block.{Block}
use Rattle.stl_ast.specs.declared.blocks.Part.{Part}
use Rattle.stl_ast.specs.declared.blocks.PartKind.{PartKind}
use Rattle.stl_ast.specs.declared.blocks.PartKind.TheVariants as part
use Rattle.stl_ast.specs.declared.blocks.Tree.{Tree}
use Rattle.stl_ast.specs.declared.declarations.Declaration.{Declaration}
use Rattle.stl_ast.specs.declared.declarations.Simple.{Simple}
use Rattle.stl_ast.specs.declared.names.BlockName.{BlockName}
use Rattle.stl_ast.specs.declared.operands.Operand.{Operand}
use Rattle.stl_ast.specs.declared.statements.Statement.{Statement}
use Rattle.stl_symbols.specs.Symbol.{Symbol}
use Rattle.block_layout.specs.Around.{Outside, of_sections, of_structure, declarations_before_next}
use Rattle.block_layout.specs.Blocks.{id_of}
use Rattle.block_layout.specs.Cells.{cell_of, cells_of, components_of, is_temp, with_first_cell_opening, returned_cells, section_cells}
use Rattle.block_layout.specs.Layouts.{block_layout, layouts_by, layouts_from, layouts_of}
use Rattle.block_layout.specs.Measures.{types_of_source, with_all_bits, with_all_depths}
use Rattle.block_layout.specs.Paths.{cells_at, cells_in}
use Rattle.block_layout.specs.Rule52.{parameters_in_section, has_too_many_parameters, parameter_count, return_value_count}
use Rattle.block_layout.specs.Types.{Types}
use Rattle.block_layout.specs.declared.blocks.BlockLayout.{BlockLayout}
use Rattle.block_layout.specs.declared.cells.Cell.{Cell}
use Rattle.stl_types.specs.Context.{Context, in_function, is_of_function}
use Rattle.stl_types.specs.Parameters.{Callee, callee_by, callee_of, formal_here, formals_of, source_callee, system_formals}
use Rattle.stl_types.specs.declared.parameters.Formal.{Formal}
use Rattle.sem_kept.specs.SettledStatements.{context_at}
use Rattle.sem_kept.proofs.accepted.Accepted.{AllLaid, IsSoundBlock, IsSoundTree, all_mapped}
use Rattle.sem_kept.proofs.accepted.CodedOps.{HasFewFormals}
use Rattle.sem_kept.proofs.accepted.CodedViews.{ContextFits, IsWord, LayoutFits, SymbolFits, block_fits, got_holds}

-- ---- parameters stand in no structure

plain_level : (d : Declaration) → is_elementary d ≡ true → level_behind d.level d.of.of ≡ d.level
plain_level d h = grind arith

abbrev one_if : Bool → ℕ
one_if b = cond b 1 0

elementary_count : (k : BlockKind) (p : PartKind) (items : List Declaration)
    → is_parameter p ≡ true → IsOutline 0 items → AreDeclaredIn k p items
    → count_by (λ d. nat_eq d.level 0) items ≡ length items
elementary_count k p [] is outline declared = refl
elementary_count k p (d ∷ items) is outline declared =
    let level : d.level ≡ 0 = omega (arith, outline.0) in
    let behind : level_behind d.level d.of.of ≡ 0 =
    plain_level d (declared.0.2 is) ∙ level in
    let more = elementary_count k p items is
    (subst (λ (n : ℕ). IsOutline n items) behind outline.1) declared.1 in
    let one : one_if (eqb d.level 0) ≡ 1 = ap one_if (eq-eqb d.level 0 level) in
    let all = sum_by-cons (λ d. cond (nat_eq d.level 0) 1 0) d items in
    omega (arith, one, more, all)

-- ---- how many formals cells are

formals_append : (xs ys : List Cell)
    → length (formals_of (xs ++ ys)) ≡ length (formals_of xs) + length (formals_of ys)
formals_append xs ys =
    ap length (flat_map-append formal_here xs ys) ∙ length-append (formals_of xs) (formals_of ys)

formals_opened : (cells : List Cell) → formals_of (with_first_cell_opening cells) ≡ formals_of cells
formals_opened [] = refl
formals_opened (c ∷ cells) = grind (arith, formals_opened cells)

one_formal : (c : Cell) → length (formal_here c) ≤ 1
one_formal c = grind arith

few_formals : (cells : List Cell) → length (formals_of cells) ≤ length cells
few_formals [] = omega arith
few_formals (c ∷ cells) =
    omega (arith, one_formal c, few_formals cells, length-append (formal_here c) (formals_of cells))

cells_count : (y : Types) (o : Outside) (p : PartKind) (before ds : List Declaration)
    → length (cells_of y o p before ds) ≡ length ds
cells_count y o p before [] = refl
cells_count y o p before (d ∷ ds) = ap suc (cells_count y o p (d ∷ before) ds)

-- cells of a section without parameters
no_formals : (y : Types) (o : Outside) (p : PartKind) (before ds : List Declaration)
    → is_parameter p ≡ false → formals_of (cells_of y o p before ds) ≡ []
unfolding cell_of
no_formals y o p before [] h = refl
no_formals y o p before (d ∷ ds) h = rw (h, no_formals y o p (d ∷ before) ds h)

section_formals : (y : Types) (o : Outside) (k : BlockKind) (before : List Declaration) (p : Part)
    → IsSection k p
    → length (formals_of (with_first_cell_opening (cells_of y o p.kind before p.items))) ≤ parameters_in_section p
section_formals y o k before p section =
    let cells = cells_of y o p.kind before p.items in
    grind (
      arith,
      ap length (formals_opened cells),
      few_formals cells,
      cells_count y o p.kind before p.items,
      (λ (is : is_parameter p.kind ≡ true). elementary_count k p.kind p.items is section.1 section.2),
      (λ (is : is_parameter p.kind ≡ false). ap length (no_formals y o p.kind before p.items is)),
    )

sections_formals : (y : Types) (o : Outside) (k : BlockKind) (before : List Declaration)
    (parts : List Part) → AllByRecursion (IsSection k) parts
    → length (formals_of (section_cells y o (λ p. not (is_temp p)) before parts))
    ≤ sum_by parameters_in_section parts
sections_formals y o k before [] h = omega arith
sections_formals y o k before (p ∷ parts) h =
    let one = section_formals y o k before p h.0 in
    let more = sections_formals y o k (declarations_before_next before p.items) parts h.1 in
    grind (arith, one, more, formals_append, sum_by-cons parameters_in_section p parts)

returned_count : (result : Option Simple) → length (returned_cells result) ≡ return_value_count result
returned_count result = grind arith

block_formals : (y : Types) (b : Block) → IsBlock b
    → length (formals_of (components_of y b)) ≤ parameter_count b
block_formals y b is =
    let result = returned_cells b.result in
    let sections = section_cells y (of_sections b) (λ p. not (is_temp p)) [] b.parts in
    let structure = cells_of y of_structure part.Static [] b.components in
    omega (
      arith,
      few_formals result,
      returned_count b.result,
      sections_formals y (of_sections b) b.kind [] b.parts is.sections.1,
      ap length (no_formals y of_structure part.Static [] b.components refl),
      formals_append (result ++ sections) structure,
      formals_append result sections,
    )

-- ---- how many components a function has

opened_count : (cells : List Cell) → length (with_first_cell_opening cells) ≡ length cells
opened_count [] = refl
opened_count (c ∷ cells) = grind (arith, opened_count cells)

-- a section of a function that isn't VAR_TEMP has parameters
function_section : (p : PartKind) → may_have_section kinds.Fc p ≡ true → is_temp p ≡ false
    → is_parameter p ≡ true
unfolding may_have_section
function_section p h e = grind arith

section_count : (y : Types) (o : Outside) (before : List Declaration) (p : Part)
    → IsSection kinds.Fc p → is_temp p.kind ≡ false
    → length (with_first_cell_opening (cells_of y o p.kind before p.items)) ≤ parameters_in_section p
section_count y o before p section e =
    let is = function_section p.kind section.0 e in
    grind (
      arith,
      is,
      opened_count (cells_of y o p.kind before p.items),
      cells_count y o p.kind before p.items,
      elementary_count kinds.Fc p.kind p.items is section.1 section.2,
    )

sections_count : (y : Types) (o : Outside) (before : List Declaration) (parts : List Part)
    → AllByRecursion (IsSection kinds.Fc) parts
    → length (section_cells y o (λ p. not (is_temp p)) before parts) ≤ sum_by parameters_in_section parts
sections_count y o before [] h = omega arith
sections_count y o before (p ∷ parts) h =
    let one = section_count y o before p h.0 in
    let more = sections_count y o (declarations_before_next before p.items) parts h.1 in
    grind (arith, one, more, length-append {A = Cell}, sum_by-cons parameters_in_section p parts)

function_count : (y : Types) (b : Block) → IsBlock b → is_function b.kind ≡ true
    → length (components_of y b) ≤ parameter_count b
function_count y b is function =
    let kind : b.kind ≡ kinds.Fc = grind arith in
    let result = returned_cells b.result in
    let sections = section_cells y (of_sections b) (λ p. not (is_temp p)) [] b.parts in
    let structure = cells_of y of_structure part.Static [] b.components in
    let shaped : IsShapeOf kinds.Fc b.shape b.instance_of b.components =
    subst (λ (k : BlockKind). IsShapeOf k b.shape b.instance_of b.components) kind is.shaped in
    let parts : AllByRecursion (IsSection kinds.Fc) b.parts =
    subst (λ (k : BlockKind). AllByRecursion (IsSection k) b.parts) kind is.sections.1 in
    omega (
      arith,
      returned_count b.result,
      sections_count y (of_sections b) [] b.parts parts,
      cells_count y of_structure part.Static [] b.components,
      ap length shaped.2,
      length-append (result ++ sections) structure,
      length-append result sections,
    )

-- ---- layouts

few_parameters : (b : Block) → has_too_many_parameters b ≡ false → parameter_count b ≤ 60
few_parameters b h = grind (arith, nat_tests)

any_head : (k : BlockKind) (name : BlockName) → IsHeadName k name → IsAnyName name
any_head k name h = grind arith

measured_symbols : (symbols : List Symbol) (blocks : List Block)
    → (types_of_source symbols blocks).symbols ≡ symbols
unfolding types_of_source with_all_bits with_all_depths
measured_symbols symbols blocks = refl

id_holds : (symbols : List Symbol) (b : Block) → AllByRecursion SymbolFits symbols → IsBlock b
    → IfSome (id_of symbols b) (λ id. IsWord id.number)
id_holds symbols b fit is = grind (arith, block_fits symbols b.name fit (any_head b.kind b.name is.named))

-- the layout of a block that has few parameters
pub record IsFewLayout (l : BlockLayout) : Type 0 where
  pub id : LayoutFits l
  pub formals : length (formals_of l.components) ≤ 60

layout_few : (y : Types) (blocks before : List Block) (b : Block)
    → AllByRecursion SymbolFits y.symbols → IsBlock b → has_too_many_parameters b ≡ false
    → IsFewLayout (block_layout y blocks before b)
unfolding block_layout
layout_few y blocks before b fit is few = record {
  id = id_holds y.symbols b fit is;
  formals = omega (arith, block_formals y b is, few_parameters b few);
}

abbrev IsFewBlock : Block → Type 0
IsFewBlock b = IsBlock b × (has_too_many_parameters b ≡ false)

layouts_few : (y : Types) (blocks before bs : List Block) → AllByRecursion SymbolFits y.symbols
    → AllByRecursion IsFewBlock bs
    → AllByRecursion IsFewLayout (layouts_from y blocks before bs)
layouts_few y blocks before [] fit h = tt
layouts_few y blocks before (b ∷ bs) fit h =
    (layout_few y blocks before b fit h.0.0 h.0.1, layouts_few y blocks (b ∷ before) bs fit h.1)

blocks_few : (symbols : List Symbol) (t : Tree) (k : ℕ) (bs : List Block) (ls : List BlockLayout)
    → AllLaid (IsSoundBlock symbols t) k bs ls → AllByRecursion IsFewBlock bs
blocks_few symbols t k [] ls h = tt
blocks_few symbols t k (b ∷ bs) [] h = elim h [ ]
blocks_few symbols t k (b ∷ bs) (l ∷ ls) h =
    ((h.0.well_formed, h.0.head.by_52), blocks_few symbols t (suc k) bs ls h.1)

tree_few : (symbols : List Symbol) (t : Tree) → AllByRecursion SymbolFits symbols
    → IsSoundTree symbols t → AllByRecursion IsFewLayout (layouts_of t symbols)
unfolding layouts_of layouts_by
tree_few symbols t fit sound =
    layouts_few (types_of_source symbols t.blocks) t.blocks [] t.blocks
    (subst (AllByRecursion SymbolFits) (sym (measured_symbols symbols t.blocks)) fit)
    (blocks_few symbols t 0 t.blocks (layouts_of t symbols) sound.blocks)

laid_components : (y : Types) (blocks before : List Block) (b : Block)
    → (block_layout y blocks before b).components ≡ components_of y b
unfolding block_layout
laid_components y blocks before b = refl

own_few : (symbols : List Symbol) (t : Tree) (k : ℕ) (b : Block) (l : BlockLayout)
    → IsSoundBlock symbols t k b l → in_function (context_at symbols t k) ≡ true
    → length (cells_at (layouts_of t symbols) k false) ≤ 60
own_few symbols t k b l sound function =
    let y = types_of_source symbols t.blocks in
    let kind : is_function b.kind ≡ true =
    subst (λ (o : Option Block). is_of_function o ≡ true) sound.block_there function in
    let cells : cells_at (layouts_of t symbols) k false ≡ components_of y b =
    ap (cells_in false) sound.layout_there
    ∙ ap (λ (x : BlockLayout). x.components) sound.layout
    ∙ laid_components y t.blocks sound.before b in
    omega (arith, function_count y b sound.well_formed kind, few_parameters b sound.head.by_52, ap length cells)

-- ---- WHAT SURROUNDS A BODY FITS

pub context_fit : (symbols : List Symbol) (t : Tree) (k : ℕ) (b : Block) (l : BlockLayout)
    → AllByRecursion SymbolFits symbols → IsSoundTree symbols t → IsSoundBlock symbols t k b l
    → ContextFits (context_at symbols t k)
context_fit symbols t k b l fit tree sound = record {
  symbols = fit;
  layouts = all_mapped IsFewLayout LayoutFits (λ l h. h.id) (layouts_of t symbols) (tree_few symbols t fit tree);
  own = own_few symbols t k b l sound;
}

-- ---- the parameters of a called block

abbrev FewFormals : List Formal → Type 0
FewFormals formals = length formals ≤ 60

system_few : (n : ℕ) → IfSome (system_formals n) FewFormals
unfolding system_formals
system_few n = grind arith

abbrev FewCallee : Callee → Type 0
FewCallee callee = length callee.formals ≤ 60

cells_few : (ls : List BlockLayout) (place : ℕ) → AllByRecursion IsFewLayout ls
    → length (formals_of (cells_at ls place false)) ≤ 60
cells_few ls place h = grind (arith, got_holds IsFewLayout ls place h)

source_few : (c : Context) (id : BlockId) → AllByRecursion IsFewLayout c.layouts
    → IfSome (source_callee c id) FewCallee
source_few c id h = grind (arith, (λ (place : ℕ). cells_few c.layouts place h))

called_few : (c : Context) (id : BlockId) → AllByRecursion IsFewLayout c.layouts
    → IfSome (callee_by c id id.kind) FewCallee
called_few c id h = grind (arith, source_few c id h, system_few id.number)

callee_few : (c : Context) (o : Operand) → AllByRecursion IsFewLayout c.layouts
    → IfSome (callee_of c o) FewCallee
unfolding callee_of
callee_few c o h = grind (arith, (λ (id : BlockId). called_few c id h))

pub formals_few : (symbols : List Symbol) (t : Tree) (k : ℕ) (s : Statement)
    → AllByRecursion SymbolFits symbols → IsSoundTree symbols t
    → HasFewFormals (context_at symbols t k) s
formals_few symbols t k s fit tree =
    callee_few (context_at symbols t k) s.operand (tree_few symbols t fit tree)
