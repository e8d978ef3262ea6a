-- A block of the listing of an accepted source's program, by what it was made of.
use Rattle.std.proofs.Common.{◌≡◌, ℕ, zero, suc, ◌≤◌, Bool, true, false, ◌&&◌, List, [], ◌∷◌, ◌++◌, bytes_eq, length, map, Some, slice_get, refl, sym, ap, subst, ◌∙◌, arith}
use Rattle.std.specs.Prelude.{◌==◌}
use Rattle.std.specs.List.{AllByRecursion}
use Rattle.std.proofs.lemmas.Bool.{eqb-true}
use Rattle.plc_base.proofs.ListLemmas.{all_back}
use Rattle.plc_base.specs.Folding.{upper_case_name}
use Rattle.plc_base.specs.Kinds.{is_function}
use Rattle.plc_base.specs.declared.blocks.BlockId.{BlockId}
use Rattle.flat_code.specs.Records.{section_in_out, section_out}
use Rattle.flat_code.specs.Programs.{CodeBlock}
use Rattle.flat_code.specs.declared.programs.Param.{Param}
use Rattle.stl_ast.specs.Literals.{AreBytes}
use Rattle.stl_ast.specs.declared.blocks.Block.{Block}
use Rattle.stl_ast.specs.declared.blocks.PartKind.TheVariants as part
use Rattle.stl_ast.specs.declared.blocks.Tree.{Tree}
use Rattle.stl_symbols.specs.Symbol.{Symbol}
use Rattle.block_layout.specs.Cells.{components_of}
use Rattle.block_layout.specs.Layouts.{block_layout, layouts_by, layouts_from, layouts_of}
use Rattle.block_layout.specs.Measures.{types_of_source}
use Rattle.block_layout.specs.Types.{Types}
use Rattle.block_layout.specs.declared.blocks.BlockLayout.{BlockLayout}
use Rattle.stl_types.specs.Parameters.{formals_of as formals_in}
use Rattle.stl_types.specs.declared.parameters.Formal.{Formal}
use Rattle.stl_codegen.specs.CompiledBlock.{compiled_block}
use Rattle.stl_codegen.specs.GeneratedProgram.{code_block}
use Rattle.stl_codegen.specs.Instruction.{in_parameter_order}
use Rattle.stl_list.specs.CodeBlocks.{in_lines, listed_block}
use Rattle.stl_list.specs.JoinedParameters.{PassingChains, chains_of}
use Rattle.stl_list.specs.Lines.{stands_before}
use Rattle.stl_list.specs.Parameters.{name_of, parameter_name, return_name, section_of}
use Rattle.stl_list.specs.Signatures.{Signature, formals_from, formals_of_block, is_behind}
use Rattle.sem_kept.specs.AcceptedSource.{IsAccepted, program_in}
use Rattle.block_layout.proofs.CommonLemmas.{all_there}
use Rattle.listing_laws.specs.ListedSource.{IsMadeOf, IsWholeAgain, listed_tree_again, source_context_at}
use Rattle.listing_laws.specs.ParameterNames.{ReturnsLast}
use Rattle.listing_laws.specs.ListedDeclarations.{signatures_in}
use Rattle.listing_laws.specs.Passings.{AreNamedApart, in_upper_case}
use Rattle.listing_laws.proofs.BlockLemmas.{all_sorted}
use Rattle.listing_laws.proofs.called.Names.{own_names_apart}
use Rattle.listing_laws.proofs.declared.Blocks.{HasShape, IsKnown, IsSourced, OfInstance, Ordinary, codes_known, formals_grouped}
use Rattle.listing_laws.proofs.declared.Groups.{AreOf, Ends, HasEnd, HasGroups, Returns}
use Rattle.listing_laws.proofs.declared.Kept.{instance_groups}
use Rattle.listing_laws.proofs.declared.Sections.{AreGrouped, IsLast, Nothing as NoLast, Returned as LastReturned}
use Rattle.listing_laws.proofs.remade.Cells.{order_again}

-- ---- names and sections of formals

-- what has the name of a return value is an OUT
returned_output : (c : PassingChains) (returns behind : Bool) (index first : ℕ) (ps : List Param)
    → AllByRecursion (λ f. f.name ≡ return_name → f.section ≡ part.Output) (formals_from c returns behind index first ps)
returned_output c returns behind index first [] = tt
returned_output c returns behind index first (p ∷ ps) = (by behind (p.section == section_out) refl, returned_output c returns (is_behind returns behind p) (suc index) (suc first) ps)
  where
    other : parameter_name index ≡ return_name → ⊥
    other e = let no : false ≡ true = ap (λ n. bytes_eq (upper_case_name n) (upper_case_name return_name)) e in absurd cc

    by : (t s : Bool) → (p.section == section_out) ≡ s → name_of (t && s) index ≡ return_name → section_of p.section ≡ part.Output
    by true true is e = ap section_of (eqb-true p.section 2 is)
    by true false is e = absurd (other e)
    by false s is e = absurd (other e)

-- the return value is the last of the parameters, if there is one
none_behind : (returns : Bool) (section : ℕ) (p : Param) → p.section ≡ section → (section == section_in_out) ≡ false → is_behind returns false p ≡ false
none_behind returns section p is apart = ap (λ n. returns && n == 3) is ∙ ap (λ t. returns && t) apart ∙ by returns
  where
    by : (t : Bool) → (t && false) ≡ false
    by true = refl
    by false = refl

lasts_before : (returns : Bool) (section : ℕ) (ps rest : List Param) → (section == section_in_out) ≡ false → AreOf section ps → ReturnsLast returns false rest → ReturnsLast returns false (ps ++ rest)
lasts_before returns section [] rest apart h more = more
lasts_before returns section (p ∷ ps) rest apart (is, others) more = (
  λ e. absurd cc,
  subst (λ t. ReturnsLast returns t (ps ++ rest)) (sym (none_behind returns section p is apart)) (lasts_before returns section ps rest apart others more),
)

lasts_alone : (returns behind : Bool) (last : List Param) → length last ≤ 1 → ReturnsLast returns behind last
lasts_alone returns behind [] h = tt
lasts_alone returns behind (p ∷ []) h = (λ e. refl, tt)
lasts_alone returns behind (p ∷ q ∷ ps) h = absurd (omega (arith, h))

lasts_behind : (returns behind : Bool) (both last : List Param) → AreOf 3 both → length last ≤ 1 → ReturnsLast returns behind (both ++ last)
lasts_behind returns behind [] last h few = lasts_alone returns behind last few
lasts_behind returns behind (p ∷ ps) last (is, more) few = (λ e. absurd (never behind e), lasts_behind returns (is_behind returns behind p) ps last more few)
  where
    apart : (p.section == section_out) ≡ false
    apart = ap (λ n. n == 2) is

    never : (t : Bool) → (t && p.section == section_out) ≡ true → ⊥
    never true e = absurd cc
    never false e = absurd cc

returns_last : (returns : Bool) (ps : List Param) → HasGroups returns ps → ReturnsLast returns false ps
returns_last returns ps g =
    subst (ReturnsLast returns false) (sym g.are)
    (lasts_before returns 1 g.ins (g.outs ++ (g.both ++ g.last)) refl g.input
    (lasts_before returns 2 g.outs (g.both ++ g.last) refl g.output (lasts_behind returns false g.both g.last g.in_out (few g.ends))))
  where
    few : HasEnd returns g.both g.last → length g.last ≤ 1
    few (Ends e) = let none = ap length e in omega (arith, none)
    few (Returns r p ps is some alone section) = let one = ap length alone in omega (arith, one)

groups_of : (b : CodeBlock) → IsSourced b → HasGroups (is_function b.id.kind) b.params
groups_of b s = by s.shape
  where
    by : HasShape b → HasGroups (is_function b.id.kind) b.params
    by (OfInstance fb i) = instance_groups b (is_function b.id.kind) i s.few
    by (Ordinary fb o) = o.groups

-- ---- a listed block

-- a block of the listing, with the parameters that the listing says that it has
pub record IsListedCode (symbols : List Symbol) (t : Tree) (others : List Symbol) (again : ℕ) (b : CodeBlock) : Type 0 where
  pub reached : ℕ
  pub block : slice_get (listed_tree_again symbols t).blocks again ≡ Some (listed_block (signatures_in (program_in symbols t)) reached b)
  pub layout : BlockLayout
  pub there : slice_get (layouts_of (listed_tree_again symbols t) others) again ≡ Some layout
  pub whole : layout.broken ≡ false
  pub components : layout.components
      ≡ components_of (types_of_source others (listed_tree_again symbols t).blocks) (listed_block (signatures_in (program_in symbols t)) reached b)
  pub sourced : IsSourced b
  pub known : IsKnown (chains_of (program_in symbols t).code_blocks) (signatures_in (program_in symbols t)) b
  pub groups : AreGrouped (formals_of_block (signatures_in (program_in symbols t)) b.id)
  pub order : in_parameter_order (Some (listed_block (signatures_in (program_in symbols t)) reached b)) (formals_in layout.components)
      ≡ map in_upper_case (formals_of_block (signatures_in (program_in symbols t)) b.id)
  pub named : AreNamedApart (formals_of_block (signatures_in (program_in symbols t)) b.id)

laid_there : (y : Types) (blocks before bs : List Block) (k : ℕ) (b : Block) → slice_get bs k ≡ Some b
    → (front : List Block) × (slice_get (layouts_from y blocks before bs) k ≡ Some (block_layout y blocks front b))
laid_there y blocks before [] k b e = absurd cc
laid_there y blocks before (x ∷ bs) zero b e = let same : x ≡ b = cc in (before, ap (λ z. Some (block_layout y blocks before z)) same)
laid_there y blocks before (x ∷ bs) (suc k) b e = laid_there y blocks (x ∷ before) bs k b e

laid_again : (symbols : List Symbol) (t : Tree) (k : ℕ) (b : Block) → slice_get t.blocks k ≡ Some b
    → (front : List Block) × (slice_get (layouts_of t symbols) k ≡ Some (block_layout (types_of_source symbols t.blocks) t.blocks front b))
unfolding layouts_of layouts_by
laid_again symbols t k b e = laid_there (types_of_source symbols t.blocks) t.blocks [] t.blocks k b e

laid_components : (y : Types) (blocks front : List Block) (b : Block) → (block_layout y blocks front b).components ≡ components_of y b
unfolding block_layout
laid_components y blocks front b = refl

-- the last of the parameters is an OUT, if it is a return value
abbrev AreOutputs : List Formal → Type 0
AreOutputs fs = AllByRecursion (λ f. f.name ≡ return_name → f.section ≡ part.Output) fs

output_last : (fs : List Formal) (g : AreGrouped fs) → AreOutputs fs → AllByRecursion (λ f. f.section ≡ part.Output) g.last
output_last fs g h = by g.ends
  where
    last : AreOutputs g.last
    last =
        all_back (λ f. f.name ≡ return_name → f.section ≡ part.Output) g.both g.last
        (all_back (λ f. f.name ≡ return_name → f.section ≡ part.Output) g.outs (g.both ++ g.last)
        (all_back (λ f. f.name ≡ return_name → f.section ≡ part.Output) g.ins (g.outs ++ (g.both ++ g.last)) (subst AreOutputs g.are h)))

    by : IsLast g.last → AllByRecursion (λ f. f.section ≡ part.Output) g.last
    by (NoLast e) = subst (AllByRecursion (λ f. f.section ≡ part.Output)) (sym e) tt
    by (LastReturned f name e) = subst (AllByRecursion (λ f. f.section ≡ part.Output)) (sym e) ((subst AreOutputs e last).0 name, tt)

-- what is listed at a place is such a block
pub listed_code : (source file : List ℕ) (symbols : List Symbol) (t : Tree) → IsAccepted source file symbols t → AreBytes source → AreBytes file
    → (others : List Symbol) → IsWholeAgain symbols t others → (again place : ℕ) (b : Block) (l : BlockLayout) (id : BlockId) → IsMadeOf symbols t again place b l id
    → IsListedCode symbols t others again (compiled_block (code_block (source_context_at symbols t place) b l id))
unfolding in_lines
listed_code source file symbols t accepted bytes file_bytes others clean again place b l id made =
    record {
      reached = made.reached;
      block = made.listed;
      layout = laid;
      there = front.1;
      whole = all_there (λ (z : BlockLayout). z.broken ≡ false) (layouts_of (listed_tree_again symbols t) others) again laid clean front.1;
      components = laid_components y blocks front.0 (listed_block ss made.reached cb);
      sourced = both.0;
      known = both.1;
      groups = groups;
      order =
          ap (λ cells. in_parameter_order (Some (listed_block ss made.reached cb)) (formals_in cells)) (laid_components y blocks front.0 (listed_block ss made.reached cb))
          ∙ order_again y ss made.reached cb groups (output_last (formals_of_block ss cb.id) groups outputs);
      named = subst AreNamedApart (sym both.1.are)
          (own_names_apart c (is_function cb.id.kind) both.1.first cb.params (few (length cb.params) both.0.few) (returns_last (is_function cb.id.kind) cb.params (groups_of cb both.0)));
    }
  where
    cb : CodeBlock
    cb = compiled_block (code_block (source_context_at symbols t place) b l id)

    c : PassingChains
    c = chains_of (program_in symbols t).code_blocks

    ss : List Signature
    ss = signatures_in (program_in symbols t)

    blocks : List Block
    blocks = (listed_tree_again symbols t).blocks

    y : Types
    y = types_of_source others blocks

    front : (front : List Block) × (slice_get (layouts_of (listed_tree_again symbols t) others) again ≡ Some (block_layout y blocks front (listed_block ss made.reached cb)))
    front = laid_again others (listed_tree_again symbols t) again (listed_block ss made.reached cb) made.listed

    laid : BlockLayout
    laid = block_layout y blocks front.0 (listed_block ss made.reached cb)

    both : IsSourced cb × IsKnown c ss cb
    both = all_there (λ z. IsSourced z × IsKnown c ss z) (in_lines (program_in symbols t).code_blocks) again cb
        (all_sorted (λ z. IsSourced z × IsKnown c ss z) stands_before (program_in symbols t).code_blocks (codes_known source file symbols t accepted bytes file_bytes))
        made.ordered

    groups : AreGrouped (formals_of_block ss cb.id)
    groups = formals_grouped c ss cb both.0 both.1

    outputs : AllByRecursion (λ f. f.name ≡ return_name → f.section ≡ part.Output) (formals_of_block ss cb.id)
    outputs = subst (AllByRecursion (λ f. f.name ≡ return_name → f.section ≡ part.Output)) (sym both.1.are)
        (returned_output c (is_function cb.id.kind) false 0 both.1.first cb.params)

    few : (n : ℕ) → n ≤ 60 → n ≤ 65536
    few n h = omega (arith, h)
