-- The code blocks of an accepted source are declared again in their listing.
use Rattle.std.proofs.Common.{◌≡◌, ℕ, ◌+◌, ◌-◌, ◌*◌, ◌/◌, ◌%◌, ◌≤◌, Bool, true, false, max, not, List, [], ◌∷◌, ◌++◌, append-nil, append_assoc, length, length-append, map, flat_map, Option, Some, None, is_some, refl, sym, ap, subst, ◌∙◌, arith}
use Rattle.std.specs.Prelude.{◌&&◌, ◌||◌, if◌then◌else◌, nat_eq, nat_lt}
use Rattle.std.specs.List.{AllByRecursion}
use Rattle.std.proofs.lemmas.Bool.{and_from, eq-eqb, ltb-false}
use Rattle.std.proofs.lemmas.Bool.Decides.{nat_tests}
use Rattle.plc_base.proofs.ListLemmas.{all_append}
use Rattle.plc_base.specs.Kinds.{is_code, is_data_block, is_data_type, is_function, is_function_block, is_organization_block, is_same_block, is_same_kind, kind_number}
use Rattle.plc_base.specs.declared.blocks.BlockId.{BlockId}
use Rattle.plc_base.specs.declared.blocks.BlockKind.{BlockKind}
use Rattle.plc_base.specs.declared.blocks.BlockKind.TheVariants as kinds
use Rattle.flat_code.specs.Blocks.{Environment, block_faults}
use Rattle.flat_code.specs.Image.{record_of_block}
use Rattle.flat_code.specs.Loading.{AreVerified, environment_of_block, lens_of}
use Rattle.flat_code.specs.Programs.{CodeBlock, DataBlock}
use Rattle.flat_code.specs.Records.{BlockRecord, section_in, section_in_out, section_out}
use Rattle.flat_code.specs.declared.programs.Param.{Param}
use Rattle.stl_ast.specs.Literals.{AreBytes}
use Rattle.stl_ast.specs.WellFormed.{IsShapeOf, MayReturn}
use Rattle.stl_ast.specs.declared.blocks.Block.{Block}
use Rattle.stl_ast.specs.declared.blocks.PartKind.TheVariants as part
use Rattle.stl_ast.specs.declared.blocks.Tree.{Tree}
use Rattle.stl_ast.specs.declared.declarations.Simple.{Simple}
use Rattle.stl_symbols.specs.Symbol.{Symbol}
use Rattle.block_layout.specs.Around.{Outside, of_sections, of_structure, returned_names, section_declarations}
use Rattle.block_layout.specs.Cells.{cells_of, components_of, is_temp, returned_cells, section_cells, temps_of}
use Rattle.block_layout.specs.Layouts.{block_layout, layouts_of}
use Rattle.block_layout.specs.Lengths.{farthest_operand_end, least_local, length_of_block, local_len, is_structured, shape_bits, shape_of}
use Rattle.block_layout.specs.Measures.{types_of_source}
use Rattle.block_layout.specs.Offsets.{width_of}
use Rattle.block_layout.specs.Sizes.{structure_bits, next_multiple}
use Rattle.block_layout.specs.Rule43.{leads_to}
use Rattle.block_layout.specs.Rule44.{is_number_beyond_limits}
use Rattle.block_layout.specs.Types.{Types}
use Rattle.block_layout.specs.declared.blocks.BlockLayout.{BlockLayout}
use Rattle.block_layout.specs.declared.cells.Cell.{Cell}
use Rattle.stl_codegen.specs.CompiledBlock.{StatedBlock, compiled_block}
use Rattle.stl_codegen.specs.GeneratedProgram.{code_block, generated_data_block, code_blocks_of, instance_len, param_at_bits, param_here, params_of}
use Rattle.stl_codegen.specs.Instruction.{return_last}
use Rattle.stl_codegen.specs.Order.{is_code_before, is_id_before}
use Rattle.stl_list.specs.CodeBlocks.{listed_block}
use Rattle.stl_list.specs.DataBlocks.{listed_data}
use Rattle.stl_list.specs.JoinedParameters.{PassingChains, chains_of, links, total_parameter_count}
use Rattle.stl_list.specs.Lines.{lines_from}
use Rattle.stl_list.specs.Signatures.{Signature, formals_from, formals_of_block, signature, signatures, signatures_from}
use Rattle.sem_kept.specs.AcceptedSource.{IsAccepted, program_in}
use Rattle.sem_kept.specs.SettledStatements.{context_at}
use Rattle.sem_kept.proofs.accepted.Accepted.{IsSoundBlock, all_both, right_tree, sound_code_blocks, sound_data_blocks}
use Rattle.sem_kept.proofs.accepted.RecordBlocks.{code_blocks_rise}
use Rattle.sem_kept.proofs.accepted.RecordData.{id_there}
use Rattle.sem_kept.proofs.accepted.RecordOrder.{Rise, RiseFrom}
use Rattle.sem_kept.proofs.accepted.RecordParams.{AllBefore, Covers, IsNew, declarations_new, params_right, sections_once}
use Rattle.block_layout.proofs.BlockLemmas.{kind_there, same_kind}
use Rattle.sem_kept.proofs.accepted.Verified.{accepted_verifies}
use Rattle.listing_laws.specs.ListedDeclarations.{AreChainsWide, AreDeclaredAgain, AreKindsWide, AreWide, IsDeclaredAgain, signatures_in}
use Rattle.listing_laws.proofs.declared.Chains.{signatures_wide, widths}
use Rattle.listing_laws.proofs.declared.Links.{program_good}
use Rattle.listing_laws.proofs.declared.Groups.{AreListed, AreOf, Ends, HasGroups, Returns, all_listed}
use Rattle.listing_laws.proofs.declared.Kept.{IsInstance, IsPlain, instance_groups, instance_kept, local_kept, plain_params}
use Rattle.listing_laws.proofs.declared.Right.{code_right, data_right}
use Rattle.listing_laws.proofs.declared.Sections.{AreGrouped}
use Rattle.listing_laws.specs.Rules.{AreDeclarationsRight, AreListedDeclarationsRight, AreListedHeadsRight, AreListedInstancesShort, IsHeadRight}
use Rattle.listing_laws.proofs.declared.Locals.{body_near}
use Rattle.listing_laws.proofs.declared.Sources.{HasSections, has_sections, section_params, made_sections, sections_apart}

-- ---- a block of the source that is no function block

abbrev returned_params : Option Simple → List Param
returned_params None = []
returned_params (Some k) = param_at_bits 2 (width_of k) 0 ∷ []

-- what a compiled block that is no function block has
pub record IsOrdinary (b : CodeBlock) : Type 0 where
  pub groups : HasGroups (is_function b.id.kind) b.params
  pub plain : AllByRecursion IsPlain b.params
  pub last : AreOf 2 groups.last

made_of : (all : List Cell) (section : ℕ) (cs : List Cell) → AreOf section (section_params false all section cs)
made_of all section [] = tt
made_of all section (c ∷ cs) = (refl, made_of all section cs)

made_plain : (all : List Cell) (section : ℕ) (cs : List Cell) → AllByRecursion IsPlain (section_params false all section cs)
made_plain all section [] = tt
made_plain all section (c ∷ cs) = ((refl, refl), made_plain all section cs)

returned_plain : (result : Option Simple) → AllByRecursion IsPlain (returned_params result)
returned_plain None = tt
returned_plain (Some k) = ((refl, refl), tt)

-- parameters in their sections, with the return value behind them
record AreGroups (returns : Bool) (params : List Param) : Type 0 where
  groups : HasGroups returns params
  last : AreOf 2 groups.last

groups_from : (returns : Bool) (params ins outs both : List Param) (result : Option Simple) → (is_some result ≡ true → returns ≡ true)
    → params ≡ (ins ++ (outs ++ both)) ++ returned_params result → AreOf 1 ins → AreOf 2 outs → AreOf 3 both → length params ≤ 60 → AreGroups returns params
groups_from returns params ins outs both None is e input output in_out few =
    let size = ap length e in
    let a = length-append (ins ++ (outs ++ both)) [] in
    let b = length-append ins (outs ++ both) in
    let c = length-append outs both in
    record {
      groups = record {
        ins = ins;
        outs = outs;
        both = both;
        last = [];
        are = e ∙ append-nil (ins ++ (outs ++ both)) ∙ ap (λ z. ins ++ (outs ++ z)) (sym (append-nil both));
        input = input;
        output = output;
        in_out = in_out;
        ends = Ends refl;
        short = omega (arith, size, a, b, c, few);
      };
      last = tt;
    }
groups_from returns params ins outs [] (Some k) is e input output in_out few =
    let r = param_at_bits 2 (width_of k) 0 in
    let size = ap length e in
    let a = length-append (ins ++ (outs ++ [])) (r ∷ []) in
    let b = length-append ins (outs ++ []) in
    let c = length-append outs [] in
    let d = length-append outs (r ∷ []) in
    record {
      groups = record {
        ins = ins;
        outs = outs ++ r ∷ [];
        both = [];
        last = [];
        are = e ∙ ap (λ z. (ins ++ z) ++ r ∷ []) (append-nil outs) ∙ append_assoc ins outs (r ∷ []) ∙ ap (λ z. ins ++ z) (sym (append-nil (outs ++ r ∷ [])));
        input = input;
        output = all_append (λ p. p.section ≡ section_out) outs (r ∷ []) output (refl, tt);
        in_out = tt;
        ends = Ends refl;
        short = omega (arith, size, a, b, c, d, few);
      };
      last = tt;
    }
groups_from returns params ins outs (p ∷ ps) (Some k) is e input output in_out few =
    let r = param_at_bits 2 (width_of k) 0 in
    let size = ap length e in
    let a = length-append (ins ++ (outs ++ p ∷ ps)) (r ∷ []) in
    let b = length-append ins (outs ++ p ∷ ps) in
    let c = length-append outs (p ∷ ps) in
    record {
      groups = record {
        ins = ins;
        outs = outs;
        both = p ∷ ps;
        last = r ∷ [];
        are = e ∙ append_assoc ins (outs ++ p ∷ ps) (r ∷ []) ∙ ap (λ z. ins ++ z) (append_assoc outs (p ∷ ps) (r ∷ []));
        input = input;
        output = output;
        in_out = in_out;
        ends = Returns r p ps (is refl) refl refl refl;
        short = omega (arith, size, a, b, c, few);
      };
      last = (refl, tt);
    }

may_return : (k : BlockKind) (result : Option Simple) → MayReturn k result → is_some result ≡ true → is_function k ≡ true
may_return kinds.Fc result h e = refl
may_return kinds.Ob result h e = let none : is_some result ≡ false = ap is_some h in absurd cc
may_return kinds.Fb result h e = let none : is_some result ≡ false = ap is_some h in absurd cc
may_return kinds.Db result h e = let none : is_some result ≡ false = ap is_some h in absurd cc
may_return kinds.Udt result h e = let none : is_some result ≡ false = ap is_some h in absurd cc
may_return kinds.Sfc result h e = let none : is_some result ≡ false = ap is_some h in absurd cc

no_components : (k : BlockKind) (b : Block) → is_code k ≡ true → IsShapeOf k b.shape b.instance_of b.components → (b.shape ≡ None) × (b.instance_of ≡ None) × (b.components ≡ [])
no_components kinds.Ob b e h = h
no_components kinds.Fc b e h = h
no_components kinds.Fb b e h = h
no_components kinds.Db b e h = absurd cc
no_components kinds.Udt b e h = absurd cc
no_components kinds.Sfc b e h = absurd cc

-- the return value stands first among the components
returned_last : (all cells : List Cell) (result : Option Simple)
    → return_last result (flat_map (λ c. param_here false all c) (returned_cells result ++ cells)) ≡ flat_map (λ c. param_here false all c) cells ++ returned_params result
returned_last all cells None = sym (append-nil (flat_map (λ c. param_here false all c) cells))
returned_last all cells (Some k) = refl

-- ---- a block of the source

-- what the compiled block has, whatever it is
pub data HasShape (b : CodeBlock) : Type 0 where
  OfInstance : is_function_block b.id.kind ≡ true → IsInstance b → HasShape b
  Ordinary : is_function_block b.id.kind ≡ false → IsOrdinary b → HasShape b

pub record IsSourced (b : CodeBlock) : Type 0 where
  pub code : is_code b.id.kind ≡ true
  pub few : length b.params ≤ 60
  pub is_even : b.local_len % 2 ≡ 0
  pub short : b.local_len ≤ 1024
  pub number : is_number_beyond_limits (Some b.id) ≡ false
  pub least : least_local b.id.kind ≤ b.local_len
  pub shape : HasShape b

pub fb_kind : (k : BlockKind) → is_function_block k ≡ true → k ≡ kinds.Fb
fb_kind kinds.Ob e = absurd cc
fb_kind kinds.Fc e = absurd cc
fb_kind kinds.Fb e = refl
fb_kind kinds.Db e = absurd cc
fb_kind kinds.Udt e = absurd cc
fb_kind kinds.Sfc e = absurd cc

local_even : (k : BlockKind) (n : ℕ) → (max (least_local k) (next_multiple n 2) % 2 ≡ 0) × (least_local k ≤ max (least_local k) (next_multiple n 2))
unfolding next_multiple
local_even k n = by (is_organization_block k)
  where
    by : (t : Bool) → (max (if t then 20 else 0) ((n + (2 - 1)) / 2 * 2) % 2 ≡ 0) × ((if t then 20 else 0) ≤ max (if t then 20 else 0) ((n + (2 - 1)) / 2 * 2))
    by true = (omega arith, omega arith)
    by false = (omega arith, omega arith)

local_of : (y : Types) (b : Block) → is_code b.kind ≡ true → (local_len y b % 2 ≡ 0) × (least_local b.kind ≤ local_len y b)
unfolding local_len
local_of y b code =
    let n = max (structure_bits (temps_of y b) / 8) (farthest_operand_end b.body) in
    let same : (if is_code b.kind then max (least_local b.kind) (next_multiple n 2) else 0) ≡ max (least_local b.kind) (next_multiple n 2) = ap (λ (t : Bool). if t then max (least_local b.kind) (next_multiple n 2) else 0) code in
    let h = local_even b.kind n in
    (ap (λ m. m % 2) same ∙ h.0, subst (λ m. least_local b.kind ≤ m) (sym same) h.1)

structure_len : (y : Types) (blocks : List Block) (b : Block) → b.kind ≡ kinds.Fb → b.shape ≡ None → b.instance_of ≡ None → length_of_block y blocks b ≡ structure_bits (components_of y b) / 8
unfolding length_of_block
structure_len y blocks b kind shape instance = rw kind (rw shape (rw instance refl))

-- the instance of a compiled function block, by the components of its layout
pub record IsLaidInstance (l : BlockLayout) (b : CodeBlock) : Type 0 where
  pub instance : IsInstance b
  pub are : l.components ≡ instance.cells

pub laid_instance : (symbols : List Symbol) (t : Tree) (k : ℕ) (b : Block) (l : BlockLayout) (id : BlockId) → IsSoundBlock symbols t k b l → l.id ≡ Some id → is_code id.kind ≡ true
    → is_function_block id.kind ≡ true → IsLaidInstance l (compiled_block (code_block (context_at symbols t k) b l id))
unfolding block_layout params_of
laid_instance symbols t k b l id h e code fb = record {
  instance = record {
    cells = cells;
    by_sections = parts;
    apart = sections_apart cells parts (sections_once y o (λ k. not (is_temp k)) [] b.parts [] covers new);
    params = (λ i. return_last (result i) (flat_map (λ x. param_here (own_fb i) (are i) x) (are i))) ∙ made_sections true cells cells parts;
    length = has_length ∙ length_is;
    short = omega (arith, has_length, ap (λ (x : BlockLayout). x.length) h.layout, ltb-false 16384 (length_of_block y t.blocks b) h.head.by_51);
  };
  are = are;
}
  where
    y : Types
    y = types_of_source symbols t.blocks

    o : Outside
    o = of_sections b

    kind : b.kind ≡ id.kind
    kind = kind_there y.symbols b id (sym (id_there symbols t k b l h) ∙ e)

    own_code : is_code b.kind ≡ true
    own_code = ap is_code kind ∙ code

    none : (b.shape ≡ None) × (b.instance_of ≡ None) × (b.components ≡ [])
    none = no_components b.kind b own_code h.well_formed.shaped

    cells : List Cell
    cells = section_cells y o (λ k. not (is_temp k)) [] b.parts

    new : AllBefore (IsNew o) [] (section_declarations b)
    new = declarations_new b h.declarations.by_21 h.declarations.by_41

    parts : HasSections cells
    parts = has_sections b.kind y o b.parts refl h.well_formed.sections.0 h.well_formed.sections.1 new

    layout : l.components ≡ components_of y b
    layout = ap (λ (x : BlockLayout). x.components) h.layout

    own : b.kind ≡ kinds.Fb
    own = kind ∙ fb_kind id.kind fb

    own_fb : is_function_block b.kind ≡ true
    own_fb = ap is_function_block kind ∙ fb

    result : b.result ≡ None
    result = subst (λ (z : BlockKind). MayReturn z b.result) own h.well_formed.returns

    are : l.components ≡ cells
    are =
        layout ∙ ap (λ ds. returned_cells b.result ++ cells ++ cells_of y of_structure part.Static [] ds) none.2 ∙ append-nil (returned_cells b.result ++ cells)
        ∙ ap (λ r. returned_cells r ++ cells) result

    covers : Covers (returned_names b.result) [] []
    covers = λ n out. tt

    length_is : l.length ≡ structure_bits cells / 8
    length_is =
        ap (λ (x : BlockLayout). x.length) h.layout ∙ structure_len y t.blocks b own none.0 none.1
        ∙ ap (λ cs. structure_bits cs / 8) (sym layout ∙ are)

    has_length : instance_len b l ≡ l.length
    has_length = ap (λ (s : Bool). if s then l.length else 0) own_fb

pub sourced : (symbols : List Symbol) (t : Tree) (k : ℕ) (b : Block) (l : BlockLayout) (id : BlockId) → IsSoundBlock symbols t k b l → l.id ≡ Some id → is_code id.kind ≡ true
    → IsSourced (compiled_block (code_block (context_at symbols t k) b l id))
unfolding block_layout params_of
sourced symbols t k b l id h e code = record {
  code = code;
  few = few;
  is_even = ap (λ n. n % 2) long ∙ (local_of y b own_code).0;
  short = omega (arith, long, ltb-false 1024 (local_len y b) h.head.by_50);
  number = ap is_number_beyond_limits (sym e ∙ id_there symbols t k b l h) ∙ h.head.by_44;
  least = subst (λ n. least_local id.kind ≤ n) (sym long) (subst (λ z. least_local z ≤ local_len y b) kind (local_of y b own_code).1);
  shape = shape (is_function_block id.kind) refl;
}
  where
    y : Types
    y = types_of_source symbols t.blocks

    o : Outside
    o = of_sections b

    c : CodeBlock
    c = compiled_block (code_block (context_at symbols t k) b l id)

    kind : b.kind ≡ id.kind
    kind = kind_there y.symbols b id (sym (id_there symbols t k b l h) ∙ e)

    own_code : is_code b.kind ≡ true
    own_code = ap is_code kind ∙ code

    long : l.local_len ≡ local_len y b
    long = ap (λ (x : BlockLayout). x.local_len) h.layout

    few : length (params_of b l) ≤ 60
    few = (params_right symbols t k b l b.kind h refl own_code).few

    none : (b.shape ≡ None) × (b.instance_of ≡ None) × (b.components ≡ [])
    none = no_components b.kind b own_code h.well_formed.shaped

    cells : List Cell
    cells = section_cells y o (λ k. not (is_temp k)) [] b.parts

    new : AllBefore (IsNew o) [] (section_declarations b)
    new = declarations_new b h.declarations.by_21 h.declarations.by_41

    parts : HasSections cells
    parts = has_sections b.kind y o b.parts refl h.well_formed.sections.0 h.well_formed.sections.1 new

    layout : l.components ≡ components_of y b
    layout = ap (λ (x : BlockLayout). x.components) h.layout

    all : l.components ≡ returned_cells b.result ++ cells
    all = layout ∙ ap (λ ds. returned_cells b.result ++ cells ++ cells_of y of_structure part.Static [] ds) none.2 ∙ append-nil (returned_cells b.result ++ cells)

    shape : (f : Bool) → is_function_block id.kind ≡ f → HasShape c
    shape true fb = OfInstance fb (laid_instance symbols t k b l id h e code fb).instance
    shape false fb = Ordinary fb ordinary
      where
        own_fb : is_function_block b.kind ≡ false
        own_fb = ap is_function_block kind ∙ fb

        ins : List Param
        ins = section_params false l.components section_in parts.ins

        outs : List Param
        outs = section_params false l.components section_out parts.outs

        both : List Param
        both = section_params false l.components section_in_out parts.both

        are : params_of b l ≡ (ins ++ (outs ++ both)) ++ returned_params b.result
        are =
            (λ i. return_last b.result (flat_map (λ x. param_here (own_fb i) l.components x) (all i)))
            ∙ returned_last l.components cells b.result
            ∙ ap (λ z. z ++ returned_params b.result) (made_sections false l.components cells parts)

        returns : is_some b.result ≡ true → is_function id.kind ≡ true
        returns some = sym (ap is_function kind) ∙ may_return b.kind b.result h.well_formed.returns some

        groups : AreGroups (is_function id.kind) (params_of b l)
        groups =
            groups_from (is_function id.kind) (params_of b l) ins outs both b.result returns are (made_of l.components 1 parts.ins) (made_of l.components 2 parts.outs)
            (made_of l.components 3 parts.both) few

        ordinary : IsOrdinary c
        ordinary = record {
          groups = groups.groups;
          plain = subst (AllByRecursion IsPlain) (sym are)
              (all_append IsPlain (ins ++ (outs ++ both)) (returned_params b.result)
              (all_append IsPlain ins (outs ++ both) (made_plain l.components 1 parts.ins) (all_append IsPlain outs both (made_plain l.components 2 parts.outs) (made_plain l.components 3 parts.both)))
              (returned_plain b.result));
          last = groups.last;
        }

-- ---- its signature in the listing

abbrev Before : CodeBlock → CodeBlock → Type 0
Before a b = is_id_before a.id b.id ≡ true

ids_later : (a b c : BlockId) → is_id_before a b ≡ true → is_id_before b c ≡ true → is_id_before a c ≡ true
ids_later a b c h k = grind (arith, nat_tests)

all_later : (x y : StatedBlock) (ys : List StatedBlock) → is_code_before x y ≡ true → RiseFrom is_code_before y ys → AllByRecursion (Before (compiled_block x)) (map compiled_block ys)
all_later x y [] h rise = tt
all_later x y (z ∷ zs) h (first, more) =
    let next = ids_later x.id y.id z.id h first in
    (next, all_later x z zs next more)

abbrev pub AreAfter : List CodeBlock → Type 0
AreAfter [] = Unit {0}
AreAfter (b ∷ bs) = AllByRecursion (Before b) bs × AreAfter bs

all_after : (x : StatedBlock) (xs : List StatedBlock) → RiseFrom is_code_before x xs → AreAfter (map compiled_block (x ∷ xs))
all_after x [] rise = (tt, tt)
all_after x (y ∷ ys) (first, more) = ((first, all_later x y ys first more), all_after y ys more)

pub rise_after : (xs : List StatedBlock) → Rise is_code_before xs → AreAfter (map compiled_block xs)
rise_after [] rise = tt
rise_after (x ∷ xs) rise = all_after x xs rise

not_same : (a b : BlockId) → is_id_before a b ≡ true → is_same_block a b ≡ false
not_same a b h = by (is_same_kind a.kind b.kind) refl
  where
    numbers : (m n : ℕ) → (nat_lt m m || nat_eq m m && nat_lt a.number n) ≡ true → nat_eq a.number n ≡ false
    numbers m n e = grind (arith, nat_tests)

    by : (t : Bool) → is_same_kind a.kind b.kind ≡ t → (t && nat_eq a.number b.number) ≡ false
    by true e =
        let same = same_kind a.kind b.kind e in
        numbers (kind_number a.kind) b.number
        (ap (λ z. nat_lt (kind_number a.kind) (kind_number z) || nat_eq (kind_number a.kind) (kind_number z) && nat_lt a.number b.number) same ∙ h)
    by false e = refl

pub same_self : (i : BlockId) → is_same_block i i ≡ true
same_self i = and_from (is_same_kind i.kind i.kind) (nat_eq i.number i.number) (by i.kind) (eq-eqb i.number i.number refl)
  where
    by : (k : BlockKind) → is_same_kind k k ≡ true
    by kinds.Ob = refl
    by kinds.Fc = refl
    by kinds.Fb = refl
    by kinds.Db = refl
    by kinds.Udt = refl
    by kinds.Sfc = refl

-- the formal parameters of a block are those of its own signature, and have its widths
pub record IsKnown (c : PassingChains) (ss : List Signature) (b : CodeBlock) : Type 0 where
  pub first : ℕ
  pub are : formals_of_block ss b.id ≡ formals_from c (is_function b.id.kind) false 0 first b.params
  pub wide : AreWide b.params (formals_from c (is_function b.id.kind) false 0 first b.params)

known_behind : (c : PassingChains) (s : Signature) (ss : List Signature) (bs : List CodeBlock) → AllByRecursion (λ b. is_same_block s.id b.id ≡ false) bs → AllByRecursion (IsKnown c ss) bs
    → AllByRecursion (IsKnown c (s ∷ ss)) bs
known_behind c s ss [] apart h = tt
known_behind c s ss (b ∷ bs) (other, others) (one, more) = (
  record {
    first = one.first;
    are = ap (λ (t : Bool). if t then s.formals else formals_of_block ss b.id) other ∙ one.are;
    wide = one.wide;
  },
  known_behind c s ss bs others more,
)

pub all_not_same : (b : CodeBlock) (bs : List CodeBlock) → AllByRecursion (Before b) bs → AllByRecursion (λ x. is_same_block b.id x.id ≡ false) bs
all_not_same b [] h = tt
all_not_same b (x ∷ xs) (one, more) = (not_same b.id x.id one, all_not_same b xs more)

pub all_known : (c : PassingChains) (first : ℕ) (bs : List CodeBlock) → AreAfter bs → AllByRecursion (λ s. AreWide s.params s.formals) (signatures_from c first bs)
    → AllByRecursion (IsKnown c (signatures_from c first bs)) bs
all_known c first [] after wide = tt
all_known c first (b ∷ bs) (later, after) (one, more) =
    let s = signature c first b in (
      record { first = first; are = ap (λ (t : Bool). if t then s.formals else formals_of_block (signatures_from c (first + length b.params) bs) b.id) (same_self b.id); wide = one },
      known_behind c s (signatures_from c (first + length b.params) bs) bs (all_not_same b bs later) (all_known c (first + length b.params) bs after more),
    )

-- ---- a block is declared again

declared_again : (c : PassingChains) (ss : List Signature) (a : Environment) (b : CodeBlock) → a.local_len ≡ b.local_len → block_faults a 0 b.code ≡ [] → IsSourced b → IsKnown c ss b → IsDeclaredAgain ss b
declared_again c ss a b local_ clean s known = by s.shape
  where
    far : (reached : ℕ) → farthest_operand_end (listed_block ss reached b).body ≤ b.local_len
    far reached = subst (λ n. farthest_operand_end (listed_block ss reached b).body ≤ n) local_ (body_near a ss (lines_from reached b.lines) b clean)

    listed : (g : HasGroups (is_function b.id.kind) b.params) → AreListed (is_function b.id.kind) b.params g (formals_of_block ss b.id)
    listed g = subst (AreListed (is_function b.id.kind) b.params g) (sym known.are) (all_listed c (is_function b.id.kind) known.first b.params g known.wide)

    locals : (g : HasGroups (is_function b.id.kind) b.params) (y : Types) (reached : ℕ) → local_len y (listed_block ss reached b) ≡ b.local_len
    locals g y reached = local_kept y ss reached b (listed g).groups s.code s.is_even (omega (arith, s.short)) s.least (far reached)

    by : HasShape b → IsDeclaredAgain ss b
    by (OfInstance fb i) =
        let g = instance_groups b (is_function b.id.kind) i s.few in
        record {
          params = λ y reached l e. (instance_kept y ss reached b (is_function b.id.kind) i s.few fb (listed g)).params l e;
          local_len = λ y reached. locals g y reached;
          instance_len = λ y blocks reached is. (instance_kept y ss reached b (is_function b.id.kind) i s.few fb (listed g)).length blocks;
        }
    by (Ordinary fb o) = record {
      params = λ y reached l e. plain_params y ss reached b o.groups fb o.plain o.last (listed o.groups) l e;
      local_len = λ y reached. locals o.groups y reached;
      instance_len = λ y blocks reached is. absurd cc;
    }

all_again : (c : PassingChains) (ss : List Signature) (lens : List (ℕ × ℕ)) (all : List BlockRecord) (bs : List CodeBlock) → AreVerified lens all (map record_of_block bs)
    → AllByRecursion IsSourced bs → AllByRecursion (IsKnown c ss) bs → AllByRecursion (IsDeclaredAgain ss) bs
all_again c ss lens all [] clean h k = tt
all_again c ss lens all (b ∷ bs) (clean, cleans) (one, more) (known, knowns) =
    (declared_again c ss (environment_of_block (Some lens) all (record_of_block b)) b refl clean one known, all_again c ss lens all bs cleans more knowns)

pub all_compiled : (P : CodeBlock → Type 0) (xs : List StatedBlock) → AllByRecursion (λ x. P (compiled_block x)) xs → AllByRecursion P (map compiled_block xs)
all_compiled P [] h = tt
all_compiled P (x ∷ xs) (one, more) = (one, all_compiled P xs more)

-- ---- chains

pub all_codes : (bs : List CodeBlock) → AllByRecursion IsSourced bs → AllByRecursion (λ b. is_code b.id.kind ≡ true) bs
all_codes [] h = tt
all_codes (b ∷ bs) (one, more) = (one.code, all_codes bs more)

pub kinds_wide : AreKindsWide
unfolding signatures chains_of
kinds_wide p codes verified =
    signatures_wide (widths p.code_blocks) (links p.code_blocks) (total_parameter_count p.code_blocks) 0 [] p.code_blocks (program_good p codes verified) refl refl

pub are_declared_again : AreDeclaredAgain
unfolding signatures
are_declared_again source file symbols t accepted bytes file_bytes =
    let tree = right_tree source file symbols t accepted in
    let p = program_in symbols t in
    let blocks = code_blocks_of t symbols (layouts_of t symbols) in
    let verified = (accepted_verifies source file symbols t accepted bytes file_bytes).1 in
    let from = all_compiled IsSourced blocks (sound_code_blocks symbols t (λ x. IsSourced (compiled_block x)) tree (sourced symbols t)) in
    all_again (chains_of p.code_blocks) (signatures_in p) (lens_of p.data_blocks) (map record_of_block p.code_blocks) p.code_blocks verified.blocks from
    (all_known (chains_of p.code_blocks) 0 p.code_blocks (rise_after blocks (code_blocks_rise symbols t tree)) (kinds_wide p (all_codes p.code_blocks from) verified))

-- so all code blocks of an accepted source's program are sourced, and known by their signatures
pub codes_known : (source file : List ℕ) (symbols : List Symbol) (t : Tree) → IsAccepted source file symbols t → AreBytes source → AreBytes file
    → AllByRecursion (λ b. IsSourced b × IsKnown (chains_of (program_in symbols t).code_blocks) (signatures_in (program_in symbols t)) b) (program_in symbols t).code_blocks
unfolding signatures
codes_known source file symbols t accepted bytes file_bytes =
    let tree = right_tree source file symbols t accepted in
    let p = program_in symbols t in
    let blocks = code_blocks_of t symbols (layouts_of t symbols) in
    let verified = (accepted_verifies source file symbols t accepted bytes file_bytes).1 in
    let from = all_compiled IsSourced blocks (sound_code_blocks symbols t (λ x. IsSourced (compiled_block x)) tree (sourced symbols t)) in
    all_both IsSourced (IsKnown (chains_of p.code_blocks) (signatures_in p)) p.code_blocks from
    (all_known (chains_of p.code_blocks) 0 p.code_blocks (rise_after blocks (code_blocks_rise symbols t tree)) (kinds_wide p (all_codes p.code_blocks from) verified))

-- and the types that chains of passings give to parameters have their widths
pub codes_wide : (source file : List ℕ) (symbols : List Symbol) (t : Tree) → IsAccepted source file symbols t → AreBytes source → AreBytes file → AreChainsWide (program_in symbols t)
codes_wide source file symbols t accepted bytes file_bytes =
    let tree = right_tree source file symbols t accepted in
    let blocks = code_blocks_of t symbols (layouts_of t symbols) in
    let from = all_compiled IsSourced blocks (sound_code_blocks symbols t (λ x. IsSourced (compiled_block x)) tree (sourced symbols t)) in
    kinds_wide (program_in symbols t) (all_codes (program_in symbols t).code_blocks from) (accepted_verifies source file symbols t accepted bytes file_bytes).1

-- no block has the kind and number of one behind it
pub fronts_apart : (front back : List StatedBlock) (b : StatedBlock) → Rise is_code_before (front ++ b ∷ back)
    → AllByRecursion (λ (a : StatedBlock). is_same_block a.id b.id ≡ false) front
fronts_apart front back b rise = by front (rise_after (front ++ b ∷ back) rise)
  where
    later : (a : StatedBlock) (xs : List StatedBlock) → AllByRecursion (Before (compiled_block a)) (map compiled_block (xs ++ b ∷ back)) → is_same_block a.id b.id ≡ false
    later a [] h = not_same a.id b.id h.0
    later a (x ∷ xs) h = later a xs h.1

    by : (xs : List StatedBlock) → AreAfter (map compiled_block (xs ++ b ∷ back)) → AllByRecursion (λ (a : StatedBlock). is_same_block a.id b.id ≡ false) xs
    by [] h = tt
    by (x ∷ xs) h = (later x xs h.0, by xs h.1)

-- ---- the rules of declarations

pub formals_grouped : (c : PassingChains) (ss : List Signature) (b : CodeBlock) → IsSourced b → IsKnown c ss b → AreGrouped (formals_of_block ss b.id)
formals_grouped c ss b s known = subst AreGrouped (sym known.are) (by s.shape)
  where
    by : HasShape b → AreGrouped (formals_from c (is_function b.id.kind) false 0 known.first b.params)
    by (OfInstance fb i) = (all_listed c (is_function b.id.kind) known.first b.params (instance_groups b (is_function b.id.kind) i s.few) known.wide).groups
    by (Ordinary fb o) = (all_listed c (is_function b.id.kind) known.first b.params o.groups known.wide).groups

codes_right : (c : PassingChains) (ss : List Signature) (y : Types) (line : ℕ) (bs : List CodeBlock) → AllByRecursion IsSourced bs → AllByRecursion (IsKnown c ss) bs
    → AllByRecursion (λ b. AreDeclarationsRight y (listed_block ss line b)) bs
codes_right c ss y line [] h k = tt
codes_right c ss y line (b ∷ bs) (one, more) (known, knowns) = (code_right y ss line b (formals_grouped c ss b one known), codes_right c ss y line bs more knowns)

datas_right : (ss : List Signature) (y : Types) (line : ℕ) (ds : List DataBlock) → AllByRecursion (λ d. AreDeclarationsRight y (listed_data ss line d.number d.bytes d.instance_of)) ds
datas_right ss y line [] = tt
datas_right ss y line (d ∷ ds) = (data_right y ss line d.number d.bytes d.instance_of, datas_right ss y line ds)

pub listed_right : AreListedDeclarationsRight
unfolding signatures
listed_right source file symbols t accepted bytes file_bytes y line =
    let tree = right_tree source file symbols t accepted in
    let p = program_in symbols t in
    let blocks = code_blocks_of t symbols (layouts_of t symbols) in
    let verified = (accepted_verifies source file symbols t accepted bytes file_bytes).1 in
    let from = all_compiled IsSourced blocks (sound_code_blocks symbols t (λ x. IsSourced (compiled_block x)) tree (sourced symbols t)) in (
      codes_right (chains_of p.code_blocks) (signatures_in p) y line p.code_blocks from
          (all_known (chains_of p.code_blocks) 0 p.code_blocks (rise_after blocks (code_blocks_rise symbols t tree)) (kinds_wide p (all_codes p.code_blocks from) verified)),
      datas_right (signatures_in p) y line p.data_blocks,
    )

-- ---- the rules of heads

no_data_type : (k : BlockKind) → is_code k ≡ true → is_data_type k ≡ false
no_data_type kinds.Ob e = refl
no_data_type kinds.Fc e = refl
no_data_type kinds.Fb e = refl
no_data_type kinds.Db e = absurd cc
no_data_type kinds.Udt e = absurd cc
no_data_type kinds.Sfc e = absurd cc

pub own_kind : (k : BlockKind) → is_same_kind k k ≡ true
own_kind kinds.Ob = refl
own_kind kinds.Fc = refl
own_kind kinds.Fb = refl
own_kind kinds.Db = refl
own_kind kinds.Udt = refl
own_kind kinds.Sfc = refl

not_above : (n : ℕ) → n ≤ 1024 → nat_lt 1024 n ≡ false
not_above n h = grind (arith, nat_tests)

heads_right : (ss : List Signature) (y : Types) (line : ℕ) (bs : List CodeBlock) → AllByRecursion IsSourced bs → AllByRecursion (IsDeclaredAgain ss) bs
    → AllByRecursion (λ b. IsHeadRight y (listed_block ss line b)) bs
heads_right ss y line [] h k = tt
heads_right ss y line (b ∷ bs) (one, more) (again, others) = (
  record {
    by_43 = λ blocks before. ap (λ (t : Bool). t && leads_to y blocks (length blocks) (length before) (length before)) (no_data_type b.id.kind one.code);
    by_44 = λ symbols. ap (λ (t : Bool). is_number_beyond_limits (if t then Some b.id else None)) (own_kind b.id.kind) ∙ one.number;
    by_50 = ap (nat_lt 1024) (again.local_len y line) ∙ not_above b.local_len one.short;
  },
  heads_right ss y line bs more others,
)

-- the number of a data block of the source
IsNumbered : DataBlock → Type 0
IsNumbered d = is_number_beyond_limits (Some (record { kind = kinds.Db; number = d.number })) ≡ false

data_kind : (k : BlockKind) (n : ℕ) → is_data_block k ≡ true → is_number_beyond_limits (Some (record { kind = k; number = n })) ≡ false → is_number_beyond_limits (Some (record { kind = kinds.Db; number = n })) ≡ false
data_kind kinds.Db n e h = h
data_kind kinds.Ob n e h = absurd cc
data_kind kinds.Fc n e h = absurd cc
data_kind kinds.Fb n e h = absurd cc
data_kind kinds.Udt n e h = absurd cc
data_kind kinds.Sfc n e h = absurd cc

data_numbered : (symbols : List Symbol) (t : Tree) (k : ℕ) (b : Block) (l : BlockLayout) (id : BlockId) → IsSoundBlock symbols t k b l → l.id ≡ Some id → is_data_block id.kind ≡ true
    → IsNumbered (generated_data_block (context_at symbols t k) l id)
unfolding IsNumbered
data_numbered symbols t k b l id h e db = data_kind id.kind id.number db (ap is_number_beyond_limits (sym e ∙ id_there symbols t k b l h) ∙ h.head.by_44)

data_heads : (ss : List Signature) (y : Types) (line : ℕ) (ds : List DataBlock) → AllByRecursion IsNumbered ds
    → AllByRecursion (λ d. IsHeadRight y (listed_data ss line d.number d.bytes d.instance_of)) ds
unfolding IsNumbered local_len
data_heads ss y line [] h = tt
data_heads ss y line (d ∷ ds) (one, more) = (by d.instance_of, data_heads ss y line ds more)
  where
    by : (of_ : Option ℕ) → IsHeadRight y (listed_data ss line d.number d.bytes of_)
    by None = record { by_43 = λ blocks before. refl; by_44 = λ symbols. one; by_50 = refl }
    by (Some n) = record { by_43 = λ blocks before. refl; by_44 = λ symbols. one; by_50 = refl }

pub listed_heads : AreListedHeadsRight
listed_heads source file symbols t accepted bytes file_bytes y line =
    let tree = right_tree source file symbols t accepted in
    let p = program_in symbols t in
    let blocks = code_blocks_of t symbols (layouts_of t symbols) in
    let from = all_compiled IsSourced blocks (sound_code_blocks symbols t (λ x. IsSourced (compiled_block x)) tree (sourced symbols t)) in (
      heads_right (signatures_in p) y line p.code_blocks from (are_declared_again source file symbols t accepted bytes file_bytes),
      data_heads (signatures_in p) y line p.data_blocks (sound_data_blocks symbols t IsNumbered tree (data_numbered symbols t)),
    )

not_long : (n : ℕ) → n ≤ 16384 → nat_lt 16384 n ≡ false
not_long n h = grind (arith, nat_tests)

code_unstructured : (k : BlockKind) → is_code k ≡ true → is_function_block k ≡ false → is_structured k ≡ false
code_unstructured kinds.Ob e f = refl
code_unstructured kinds.Fc e f = refl
code_unstructured kinds.Fb e f = absurd cc
code_unstructured kinds.Db e f = absurd cc
code_unstructured kinds.Udt e f = absurd cc
code_unstructured kinds.Sfc e f = absurd cc

no_length : (y : Types) (blocks : List Block) (b : Block) → is_structured b.kind ≡ false → length_of_block y blocks b ≡ 0
unfolding length_of_block
no_length y blocks b e = ap (λ (t : Bool). if t then shape_bits y blocks b (shape_of y b) / 8 else 0) e

short_code : (ss : List Signature) (y : Types) (blocks : List Block) (line : ℕ) (b : CodeBlock) → IsSourced b → IsDeclaredAgain ss b → nat_lt 16384 (length_of_block y blocks (listed_block ss line b)) ≡ false
short_code ss y blocks line b s again = by s.shape
  where
    by : HasShape b → nat_lt 16384 (length_of_block y blocks (listed_block ss line b)) ≡ false
    by (OfInstance fb i) = ap (nat_lt 16384) (again.instance_len y blocks line fb) ∙ not_long b.instance_len i.short
    by (Ordinary fb o) = ap (nat_lt 16384) (no_length y blocks (listed_block ss line b) (code_unstructured b.id.kind s.code fb)) ∙ refl

short_codes : (ss : List Signature) (y : Types) (blocks : List Block) (line : ℕ) (bs : List CodeBlock) → AllByRecursion IsSourced bs → AllByRecursion (IsDeclaredAgain ss) bs
    → AllByRecursion (λ b. nat_lt 16384 (length_of_block y blocks (listed_block ss line b)) ≡ false) bs
short_codes ss y blocks line [] h k = tt
short_codes ss y blocks line (b ∷ bs) (one, more) (again, others) = (short_code ss y blocks line b one again, short_codes ss y blocks line bs more others)

pub listed_short : AreListedInstancesShort
listed_short source file symbols t accepted bytes file_bytes y others line =
    let tree = right_tree source file symbols t accepted in
    let p = program_in symbols t in
    let blocks = code_blocks_of t symbols (layouts_of t symbols) in
    let from = all_compiled IsSourced blocks (sound_code_blocks symbols t (λ x. IsSourced (compiled_block x)) tree (sourced symbols t)) in
    short_codes (signatures_in p) y others line p.code_blocks from (are_declared_again source file symbols t accepted bytes file_bytes)
