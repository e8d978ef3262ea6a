-- A parameter that is passed on has the type that is asked for, in the listing too.
use Rattle.std.proofs.Common.{◌≡◌, ℕ, zero, suc, ◌+◌, Bool, true, false, List, [], ◌∷◌, ◌++◌, length, map, Some, slice_get, sym, ap, subst, ◌∙◌, if◌then◌else◌}
use Rattle.std.specs.List.{AllByRecursion}
use Rattle.std.proofs.lemmas.Option.{same_Some}
use Rattle.plc_base.specs.Kinds.{is_function, is_same_block, is_system_function}
use Rattle.plc_base.specs.declared.blocks.BlockId.{BlockId}
use Rattle.flat_code.specs.Programs.{CodeBlock}
use Rattle.flat_code.specs.declared.programs.Param.{Param}
use Rattle.stl_ast.specs.Literals.{AreBytes}
use Rattle.stl_ast.specs.declared.blocks.Tree.{Tree}
use Rattle.stl_symbols.specs.Symbol.{Symbol}
use Rattle.block_layout.specs.Layouts.{layouts_of}
use Rattle.block_layout.specs.Offsets.{width_of}
use Rattle.stl_types.specs.declared.parameters.Formal.{Formal}
use Rattle.stl_codegen.specs.CompiledBlock.{StatedBlock, compiled_block}
use Rattle.stl_codegen.specs.GeneratedProgram.{code_blocks_of}
use Rattle.stl_codegen.specs.Order.{is_code_before}
use Rattle.stl_list.specs.JoinedParameters.{PassingChains, chains_of, first_of, kind_at, links, total_parameter_count, system_parameters}
use Rattle.stl_list.specs.Signatures.{formals_from, formals_of_block, signatures, signatures_from}
use Rattle.sem_kept.specs.AcceptedSource.{IsAccepted, program_in}
use Rattle.sem_kept.proofs.accepted.Accepted.{right_tree}
use Rattle.sem_kept.proofs.accepted.RecordBlocks.{code_blocks_rise}
use Rattle.sem_kept.proofs.accepted.RecordOrder.{Rise}
use Rattle.listing_laws.specs.AcceptedTypes.{declared_kinds}
use Rattle.listing_laws.specs.Chains.{AreTypesAsDeclared, HasStep, LinksHaveType, is_listed_type}
use Rattle.listing_laws.specs.ListedDeclarations.{AreWide, signatures_in}
use Rattle.listing_laws.specs.HandedTypes.{declared_type_in}
use Rattle.listing_laws.specs.ListingParameters.{IsParameterOf, params_of_block}
use Rattle.listing_laws.specs.Steps.{PassesParameterOn}
use Rattle.listing_laws.proofs.called.AcceptedTypes.{accepted_types_kept}
use Rattle.listing_laws.proofs.called.Listed.{ends_alike, parameters_listed}
use Rattle.listing_laws.proofs.called.Steps.{first_found, seeds_found, steps_found}
use Rattle.listing_laws.proofs.declared.Blocks.{codes_wide, fronts_apart}

-- ---- widths

wide_in : (c : PassingChains) (first : ℕ) (bs : List CodeBlock) → AllByRecursion (λ s. AreWide s.params s.formals) (signatures_from c first bs) → (id : BlockId)
    → AreWide (params_of_block bs id) (formals_of_block (signatures_from c first bs) id)
wide_in c first [] h id = tt
wide_in c first (b ∷ bs) h id = by (is_same_block b.id id) h.0 (wide_in c (first + length b.params) bs h.1 id)
  where
    own : List Formal
    own = formals_from c (is_function b.id.kind) false 0 first b.params

    by : (t : Bool) → AreWide b.params own → AreWide (params_of_block bs id) (formals_of_block (signatures_from c (first + length b.params) bs) id)
        → AreWide (if t then b.params else params_of_block bs id) (if t then own else formals_of_block (signatures_from c (first + length b.params) bs) id)
    by true one more = one
    by false one more = more

wide_at : (ps : List Param) (fs : List Formal) → AreWide ps fs → (i : ℕ) (p : Param) (f : Formal) → slice_get ps i ≡ Some p → slice_get fs i ≡ Some f → width_of f.kind ≡ p.width
wide_at [] fs h i p f d e = absurd cc
wide_at (q ∷ ps) [] h i p f d e = absurd h
wide_at (q ∷ ps) (g ∷ fs) h zero p f d e = sym (ap (λ (z : Formal). width_of z.kind) (same_Some g f e)) ∙ h.0 ∙ ap (λ (z : Param). z.width) (same_Some q p d)
wide_at (q ∷ ps) (g ∷ fs) h (suc i) p f d e = wide_at ps fs h.1 i p f d e

-- ---- types

module _ (source file : List ℕ) (symbols : List Symbol) (t : Tree) (accepted : IsAccepted source file symbols t) (bytes : AreBytes source) (file_bytes : AreBytes file) where
  abbrev blocks : List CodeBlock
  blocks = (program_in symbols t).code_blocks

  abbrev chains : PassingChains
  chains = chains_of blocks

  kept : AreTypesAsDeclared blocks (declared_type_in (declared_kinds t symbols) blocks)
  kept = accepted_types_kept source file symbols t accepted

  of_width : (id : BlockId) (i : ℕ) (f : Formal) → slice_get (formals_of_block (signatures chains blocks) id) i ≡ Some f → (h : IsParameterOf chains blocks id i f) → width_of f.kind ≡ h.param.width
  unfolding signatures
  of_width id i f there h =
      wide_at (params_of_block blocks id) (formals_of_block (signatures chains blocks) id) (wide_in chains 0 blocks (codes_wide source file symbols t accepted bytes file_bytes) id) i h.param f h.there there

  pub type_asked : (own other : BlockId) (i j : ℕ) (g f : Formal) → slice_get (formals_of_block (signatures_in (program_in symbols t)) own) i ≡ Some g
      → slice_get (formals_of_block (signatures_in (program_in symbols t)) other) j ≡ Some f → width_of g.kind ≡ width_of f.kind
      → HasStep (links blocks) (first_of blocks own + i) (first_of blocks other + j) → g.kind ≡ f.kind
  type_asked own other i j g f there here wide step =
      let h = parameters_listed chains blocks own i g there in
      let k = parameters_listed chains blocks other j f here in
      ends_alike blocks (declared_type_in (declared_kinds t symbols) blocks) own other i j g f kept h k (sym (of_width own i g there h) ∙ wide ∙ of_width other j f here k) step

  pub type_given : (own : BlockId) (i : ℕ) (g f : Formal) → slice_get (formals_of_block (signatures_in (program_in symbols t)) own) i ≡ Some g → width_of g.kind ≡ width_of f.kind → is_listed_type f.kind ≡ true
      → LinksHaveType (links blocks) (first_of blocks own + i) f.kind → g.kind ≡ f.kind
  type_given own i g f there wide listed typed =
      let h = parameters_listed chains blocks own i g there in
      h.kind ∙ ap (kind_at chains (first_of blocks own + i)) (sym (of_width own i g there h) ∙ wide) ∙ kept.seeds (first_of blocks own + i) f.kind typed listed

  -- ---- by what a statement passes on

  module _ (b : StatedBlock) (front back : List StatedBlock) (is : code_blocks_of t symbols (layouts_of t symbols) ≡ front ++ b ∷ back) where
    all_is : map compiled_block (front ++ b ∷ back) ≡ blocks
    all_is = ap (map compiled_block) (sym is)

    first_is : first_of blocks b.id ≡ total_parameter_count (map compiled_block front)
    first_is =
        ap (λ z. first_of z b.id) (sym all_is)
        ∙ first_found front back b (fronts_apart front back b (subst (Rise is_code_before) is (code_blocks_rise symbols t (right_tree source file symbols t accepted))))

    pub asked : (other : BlockId) (i j : ℕ) (g f : Formal) → PassesParameterOn b other j i → is_system_function other.kind ≡ false
        → slice_get (formals_of_block (signatures_in (program_in symbols t)) b.id) i ≡ Some g → slice_get (formals_of_block (signatures_in (program_in symbols t)) other) j ≡ Some f
        → width_of g.kind ≡ width_of f.kind → g.kind ≡ f.kind
    asked other i j g f on no_system there here wide =
        type_asked b.id other i j g f there here wide
        (subst (λ n. HasStep (links blocks) (n + i) (first_of blocks other + j)) (sym first_is)
        (subst (λ z. HasStep (links z) (total_parameter_count (map compiled_block front) + i) (first_of z other + j)) all_is (steps_found front back b other j i on no_system)))

    pub given : (other : BlockId) (i j : ℕ) (g f : Formal) → PassesParameterOn b other j i → is_system_function other.kind ≡ true
        → slice_get (formals_of_block (signatures_in (program_in symbols t)) b.id) i ≡ Some g → slice_get (system_parameters other.number) j ≡ Some f
        → width_of g.kind ≡ width_of f.kind → is_listed_type f.kind ≡ true → g.kind ≡ f.kind
    given other i j g f on system there here wide listed =
        type_given b.id i g f there wide listed
        (subst (λ n. LinksHaveType (links blocks) (n + i) f.kind) (sym first_is)
        (subst (λ z. LinksHaveType (links z) (total_parameter_count (map compiled_block front) + i) f.kind) all_is (seeds_found front back b other j i f on system here)))
