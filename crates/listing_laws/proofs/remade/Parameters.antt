-- The parameters of a body, in the listing of an accepted source's program.
use Rattle.std.proofs.Common.{◌≡◌, ℕ, zero, suc, Bool, true, false, List, [], ◌∷◌, map, Option, Some, slice_get, refl, sym, ap, subst, ◌∙◌}
use Rattle.std.specs.List.{AllByRecursion}
use Rattle.std.proofs.lemmas.Option.{same_Some}
use Rattle.plc_base.specs.Folding.{upper_case_name}
use Rattle.plc_base.specs.Kinds.{is_function, is_function_block}
use Rattle.plc_base.specs.declared.blocks.BlockId.{BlockId}
use Rattle.plc_base.specs.declared.blocks.BlockKind.{BlockKind}
use Rattle.plc_base.specs.declared.blocks.BlockKind.TheVariants as kinds
use Rattle.flat_code.specs.Image.{record_of_param}
use Rattle.flat_code.specs.Programs.{CodeBlock}
use Rattle.flat_code.specs.declared.programs.Param.{Param}
use Rattle.stl_ast.specs.Blocks.{is_parameter}
use Rattle.stl_ast.specs.declared.blocks.Block.{Block}
use Rattle.stl_ast.specs.declared.blocks.PartKind.{PartKind}
use Rattle.stl_ast.specs.declared.blocks.PartKind.TheVariants as part
use Rattle.stl_ast.specs.declared.blocks.Tree.{Tree}
use Rattle.stl_ast.specs.declared.declarations.Simple.{Simple}
use Rattle.stl_symbols.specs.Symbol.{Symbol}
use Rattle.block_layout.specs.Layouts.{layouts_of}
use Rattle.block_layout.specs.Offsets.{width_of}
use Rattle.block_layout.specs.Measures.{types_of_source}
use Rattle.block_layout.specs.Paths.{cells_at}
use Rattle.block_layout.specs.declared.blocks.BlockLayout.{BlockLayout}
use Rattle.block_layout.specs.declared.cells.Cell.{Cell}
use Rattle.stl_types.specs.Context.{Context, is_of_function}
use Rattle.stl_types.specs.Operands.{is_input}
use Rattle.stl_types.specs.Parameters.{formals_of as formals_in}
use Rattle.stl_types.specs.Variables.{own_variable}
use Rattle.stl_types.specs.declared.parameters.Formal.{Formal}
use Rattle.stl_types.specs.declared.resolved_operands.Resolution.TheVariants.{Resolved}
use Rattle.stl_types.specs.declared.resolved_operands.ResolvedOperand.TheVariants as resolved
use Rattle.stl_codegen.specs.CompiledBlock.{compiled_block}
use Rattle.stl_codegen.specs.GeneratedProgram.{code_block, params_of, section_number}
use Rattle.stl_codegen.specs.Instruction.{in_parameter_order}
use Rattle.stl_list.specs.CodeBlocks.{listed_block}
use Rattle.stl_list.specs.JoinedParameters.{PassingChains, chains_of}
use Rattle.stl_list.specs.Operands.{name_at}
use Rattle.stl_list.specs.Parameters.{section_of}
use Rattle.stl_list.specs.Signatures.{formals_from, formals_of_block, is_behind}
use Rattle.sem_kept.specs.AcceptedSource.{program_in}
use Rattle.sem_kept.proofs.accepted.Accepted.{IsSoundBlock, IsSoundTree, right_tree, sound_at}
use Rattle.sem_kept.proofs.accepted.OperandsCells.{cells_are}
use Rattle.sem_kept.proofs.accepted.OperandsFormals.{IsRecordOf, Matched, source_matched}
use Rattle.sem_kept.proofs.accepted.OperandsViews.{layout_id}
use Rattle.block_layout.proofs.BlockLemmas.{kind_there}
use Rattle.listing_laws.specs.ListedSource.{IsMadeOf, again_at, listed_tree_again, source_context_at}
use Rattle.listing_laws.specs.ListedDeclarations.{AreWide, signatures_in}
use Rattle.listing_laws.specs.ParametersAgain.{AreParametersAgain}
use Rattle.listing_laws.proofs.called.AcceptedTypes.{components_same, own_parameters}
use Rattle.listing_laws.proofs.called.Fitting.{same_widths}
use Rattle.listing_laws.proofs.called.Owned.{own_formal, own_function}
use Rattle.listing_laws.proofs.remade.Blocks.{IsListedCode, listed_code}
use Rattle.listing_laws.proofs.remade.Cells.{IsPlainCell, all_plain}
use Rattle.listing_laws.proofs.remade.Own.{own_again}

-- ---- the parameter of an index, in the code and in the listing

-- the parameter that the source declares as the code has it
record IsParamAt (ps : List Param) (index : ℕ) (f : Formal) : Type 0 where
  param : Param
  there : slice_get ps index ≡ Some param
  section : param.section ≡ section_number f.section
  width : param.width ≡ width_of f.kind
  parameter : is_parameter f.section ≡ true

param_at : (fs : List Formal) (ps : List Param) → Matched fs (map record_of_param ps) → (index : ℕ) (f : Formal) → slice_get fs index ≡ Some f → IsParamAt ps index f
param_at [] ps h index f e = absurd cc
param_at (g ∷ fs) [] h index f e = absurd h
param_at (g ∷ fs) (p ∷ ps) h zero f e = by (subst (λ z. IsRecordOf z (record_of_param p)) (same_Some g f e) h.0)
  where
    by : IsRecordOf f (record_of_param p) → IsParamAt (p ∷ ps) zero f
    by r = record { param = p; there = refl; section = r.0; width = same_widths p.width (width_of f.kind) r.1; parameter = r.2 }
param_at (g ∷ fs) (p ∷ ps) h (suc index) f e =
    let more = param_at fs ps h.1 index f e in
    record { param = more.param; there = more.there; section = more.section; width = more.width; parameter = more.parameter }

-- and as the listing has it
pub record IsFormalAt (fs : List Formal) (index : ℕ) (p : Param) : Type 0 where
  pub formal : Formal
  pub there : slice_get fs index ≡ Some formal
  pub section : formal.section ≡ section_of p.section
  pub width : width_of formal.kind ≡ p.width

pub formal_at : (c : PassingChains) (returns behind : Bool) (number first : ℕ) (ps : List Param) → AreWide ps (formals_from c returns behind number first ps)
    → (index : ℕ) (p : Param) → slice_get ps index ≡ Some p → IsFormalAt (formals_from c returns behind number first ps) index p
formal_at c returns behind number first [] wide index p e = absurd cc
formal_at c returns behind number first (q ∷ ps) wide zero p e = by (same_Some q p e)
  where
    by : q ≡ p → IsFormalAt (formals_from c returns behind number first (q ∷ ps)) zero p
    by same = record { formal = _; there = refl; section = ap (λ (z : Param). section_of z.section) same; width = wide.0 ∙ ap (λ (z : Param). z.width) same }
formal_at c returns behind number first (q ∷ ps) wide (suc index) p e =
    let more = formal_at c returns (is_behind returns behind q) (suc number) (suc first) ps wide.1 index p e in
    record { formal = more.formal; there = more.there; section = more.section; width = more.width }

pub name_there : (fs : List Formal) (index : ℕ) (f : Formal) → slice_get fs index ≡ Some f → name_at fs index ≡ f.name
name_there fs index f e = rw e refl

-- an input stays one
input_again : (index : ℕ) (p : ℕ) (own section again : PartKind) (a b : Simple) → own ≡ section → is_parameter own ≡ true → p ≡ section_number own → again ≡ section_of p
    → is_input (resolved.Parameter index again a) ≡ is_input (resolved.Parameter index section b)
input_again index p own section again a b same parameter number is =
    ap (λ z. is_input (resolved.Parameter index z a)) (is ∙ ap section_of number) ∙ by own parameter ∙ ap (λ z. is_input (resolved.Parameter index z b)) same
  where
    by : (k : PartKind) → is_parameter k ≡ true → is_input (resolved.Parameter index (section_of (section_number k)) a) ≡ is_input (resolved.Parameter index k b)
    by part.Input e = refl
    by part.Output e = refl
    by part.InOut e = refl
    by part.Static e = absurd cc
    by part.Temp e = absurd cc

function_no_block : (k : BlockKind) → is_function k ≡ true → is_function_block k ≡ false
function_no_block kinds.Fc e = refl
function_no_block kinds.Fb e = absurd cc
function_no_block kinds.Ob e = refl
function_no_block kinds.Db e = refl
function_no_block kinds.Udt e = refl
function_no_block kinds.Sfc e = refl

-- ---- a parameter of a listed function, by its name

pub formal_again : (symbols : List Symbol) (t : Tree) (others : List Symbol) (again : ℕ) (b : CodeBlock) → IsListedCode symbols t others again b → is_function b.id.kind ≡ true
    → (index : ℕ) (f : Formal) → slice_get (formals_of_block (signatures_in (program_in symbols t)) b.id) index ≡ Some f
    → own_variable (again_at symbols t others again) (upper_case_name f.name) [] ≡ Resolved (resolved.Parameter index f.section f.kind)
formal_again symbols t others again b h function index f there =
    own_again (again_at symbols t others again) (listed_block (signatures_in (program_in symbols t)) h.reached b) h.layout
    (record { block = h.block; kind = function; layout = h.there; whole = h.whole })
    (subst (AllByRecursion IsPlainCell) (sym h.components)
    (all_plain (types_of_source others (listed_tree_again symbols t).blocks) (signatures_in (program_in symbols t)) h.reached b h.groups (function_no_block b.id.kind function)))
    (formals_of_block (signatures_in (program_in symbols t)) b.id) h.order h.named index f there

-- ---- of the source

-- a block of the source at its place is sound, and of the kind of its id
pub source_sound : (symbols : List Symbol) (t : Tree) → IsSoundTree symbols t → (again place : ℕ) (b : Block) (l : BlockLayout) (id : BlockId) → IsMadeOf symbols t again place b l id
    → IsSoundBlock symbols t place b l
source_sound symbols t tree again place b l id made = sound_at symbols t tree place b l made.source.block made.source.layout

pub source_kind : (symbols : List Symbol) (t : Tree) → IsSoundTree symbols t → (again place : ℕ) (b : Block) (l : BlockLayout) (id : BlockId) → IsMadeOf symbols t again place b l id
    → b.kind ≡ id.kind
source_kind symbols t tree again place b l id made =
    kind_there symbols b id (sym (layout_id symbols t place b l (source_sound symbols t tree again place b l id made)) ∙ made.source.known)

pub parameters_again : AreParametersAgain
parameters_again source file symbols t accepted bytes file_bytes others clean again place b l id made name steps index section kind e = record {
  section_again = found.formal.section;
  kind_again = found.formal.kind;
  named = ap (λ n. own_variable (again_at symbols t others again) (upper_case_name n) []) (name_there formals index found.formal found.there)
      ∙ formal_again symbols t others again cb listed function index found.formal found.there;
  wide = found.width ∙ param.width ∙ ap width_of own.2;
  input = input_again index param.param.section own.0.section section found.formal.section found.formal.kind kind own.3 param.parameter param.section found.section;
}
  where
    c : Context
    c = source_context_at symbols t place

    cb : CodeBlock
    cb = compiled_block (code_block c b l id)

    formals : List Formal
    formals = formals_of_block (signatures_in (program_in symbols t)) id

    tree : IsSoundTree symbols t
    tree = right_tree source file symbols t accepted

    sound : IsSoundBlock symbols t place b l
    sound = source_sound symbols t tree again place b l id made

    listed : IsListedCode symbols t others again cb
    listed = listed_code source file symbols t accepted bytes file_bytes others clean again place b l id made

    cells : List Cell
    cells = cells_at (layouts_of t symbols) place false

    function : is_function id.kind ≡ true
    function =
        ap is_function (sym (source_kind symbols t tree again place b l id made))
        ∙ ap is_of_function (sym made.source.block) ∙ own_function c name steps index section kind e

    own : (f : Formal) × (slice_get (in_parameter_order (slice_get t.blocks place) (formals_in cells)) index ≡ Some f) × (f.kind ≡ kind) × (f.section ≡ section)
    own = own_formal c (own_parameters symbols t tree place b l sound) name steps index section kind e

    param : IsParamAt (params_of b l) index own.0
    param = param_at (in_parameter_order (Some b) (formals_in cells)) (params_of b l)
        (source_matched b l cells (components_same symbols t place b l sound ∙ sym (cells_are symbols t place b l sound false))) index own.0
        (ap (λ (o : Option Block). slice_get (in_parameter_order o (formals_in cells)) index) (sym made.source.block) ∙ own.1)

    found : IsFormalAt formals index param.param
    found =
        subst (λ fs. IsFormalAt fs index param.param) (sym listed.known.are)
        (formal_at (chains_of (program_in symbols t).code_blocks) (is_function id.kind) false 0 listed.known.first (params_of b l) listed.known.wide index param.param param.there)
