-- Data types: their components are those of their structure, they take the bits of their cells, and
-- after the rounds of measuring their bits are known.
use Rattle.std.proofs.Common.{◌≡◌, ℕ, ◌+◌, true, false, not, List, [], ◌∷◌, length, get_or, Option, Some, None, refl, sym, ap, ◌∙◌, arith, ◌++◌, subst, ◌<◌, ◌≤◌, ◌/◌, ◌%◌, ltb-false}
use Rattle.std.specs.Prelude.{slice_get}
use Rattle.plc_base.specs.declared.blocks.BlockKind.{BlockKind}
use Rattle.plc_base.specs.Kinds.{is_data_type}
use Rattle.plc_base.specs.declared.blocks.BlockKind.TheVariants as kinds
use Rattle.stl_ast.specs.declared.blocks.Block.{Block}
use Rattle.stl_ast.specs.WellFormed.{IsBlock, AreSections, IsShapeOf, MayReturn}
use Rattle.stl_ast.specs.Blocks.{may_have_section}
use Rattle.stl_ast.specs.declared.blocks.Part.{Part}
use Rattle.stl_ast.specs.declared.declarations.Declaration.{Declaration}
use Rattle.stl_ast.specs.declared.declarations.ElementType.{ElementType}
use Rattle.stl_ast.specs.declared.declarations.Simple.{Simple}
use Rattle.stl_ast.specs.declared.declarations.TypeTree.{TypeTree}
use Rattle.stl_ast.specs.declared.names.BlockName.{BlockName}
use Rattle.stl_ast.specs.declared.blocks.PartKind.TheVariants as part
use Rattle.stl_symbols.specs.Symbol.{Symbol}
use Rattle.block_layout.specs.Measures.{types_of_source, bits_after, depths_after, type_bits, unmeasured_types, with_all_bits, with_all_depths, with_bits, with_depths}
use Rattle.block_layout.specs.Rule51.{is_too_long}
use Rattle.block_layout.specs.Types.{Types}
use Rattle.block_layout.specs.Around.{of_sections, of_structure}
use Rattle.block_layout.specs.Cells.{cells_of, components_of, is_temp, returned_cells, section_cells}
use Rattle.block_layout.specs.Lengths.{length_of_block, named_type, structure_block_name, shape_named, shape_of}
use Rattle.block_layout.specs.Sizes.{structure_bits}
use Rattle.block_layout.specs.declared.blocks.Shape.TheVariants as shape
use Rattle.block_layout.proofs.RoundLemmas.{type_settled}
use Rattle.block_layout.proofs.AlignmentLemmas.{structure_even}

-- the components of a data type are those of its structure
pub record IsType (y : Types) (b : Block) : Type 0 where
  pub components : components_of y b ≡ cells_of y of_structure part.Static [] b.components
  pub own : shape_of y b ≡ shape.Own

no_parts : (ps : List Part) → AreSections kinds.Udt ps → ps ≡ []
unfolding may_have_section
no_parts [] h = refl
no_parts (p ∷ ps) h = let never = h.1.0.0 in absurd cc

own_shape : (y : Types) (t : Option TypeTree) (name : Option BlockName) (components : List Declaration)
    → IsShapeOf kinds.Udt t name components → shape_named y (structure_block_name name t) ≡ shape.Own
own_shape y (Some t) None components h =
    ap (λ (z : TypeTree). shape_named y (named_type (Some z)))
    (ap (λ (e : ElementType). record { arrays = t.arrays; of = e }) h.1)
own_shape y (Some t) (Some name) components h = absurd h
own_shape y None name components h = absurd h

pub type_of_block : (y : Types) (b : Block) → IsBlock b → b.kind ≡ kinds.Udt → IsType y b
type_of_block y b h is = record {
  components = ap (λ (r : Option Simple). returned_cells r ++ section_cells y (of_sections b) (λ k. not (is_temp k)) [] b.parts ++ cells_of y of_structure part.Static [] b.components) returned
      ∙ ap (λ (ps : List Part). [] ++ section_cells y (of_sections b) (λ k. not (is_temp k)) [] ps ++ cells_of y of_structure part.Static [] b.components) parts;
  own = own_shape y b.shape b.instance_of b.components
      (subst (λ (k : BlockKind). IsShapeOf k b.shape b.instance_of b.components) is h.shaped);
}
  where
    returned : b.result ≡ None
    returned = subst (λ (k : BlockKind). MayReturn k b.result) is h.returns

    parts : b.parts ≡ []
    parts = no_parts b.parts (subst (λ (k : BlockKind). AreSections k b.parts) is h.sections)

pub data_type : (k : BlockKind) → is_data_type k ≡ true → k ≡ kinds.Udt
data_type kinds.Udt e = refl
data_type kinds.Ob e = absurd cc
data_type kinds.Fc e = absurd cc
data_type kinds.Fb e = absurd cc
data_type kinds.Db e = absurd cc
data_type kinds.Sfc e = absurd cc

-- its length
type_length : (y : Types) (blocks : List Block) (b : Block) → b.kind ≡ kinds.Udt
    → shape_of y b ≡ shape.Own → length_of_block y blocks b ≡ structure_bits (components_of y b) / 8
unfolding length_of_block
type_length y blocks b is own = rw is (rw own refl)

pub small_type : (y : Types) (blocks : List Block) (b : Block) → b.kind ≡ kinds.Udt → IsType y b
    → is_too_long y blocks b ≡ false → structure_bits (components_of y b) ≤ 131072
small_type y blocks b is h short =
    let few : length_of_block y blocks b ≤ 16384 = ltb-false 16384 (length_of_block y blocks b) short in
    let same = type_length y blocks b is h.own in
    let even = structure_even (components_of y b) in
    least (length_of_block y blocks b) (structure_bits (components_of y b)) few same even
  where
    least : (n bits : ℕ) → n ≤ 16384 → n ≡ bits / 8 → bits % 16 ≡ 0 → bits ≤ 131072
    least n bits few same even = omega (arith, few, same, even)

pub type_bits_are : (y : Types) (b : Block) → b.kind ≡ kinds.Udt
    → type_bits y b ≡ structure_bits (cells_of y of_structure part.Static [] b.components)
unfolding type_bits
type_bits_are y b is = rw is refl

-- what the rounds leave
abbrev pub Measured : Types → List Block → Type 0
Measured y blocks = (u : ℕ) (b : Block) → slice_get blocks u ≡ Some b → get_or y.depths u 0 < 9
    → get_or y.bits u 0 ≡ type_bits y b

rounds_are : (symbols : List Symbol) (blocks : List Block) (n : ℕ) → n ≡ 9
    → types_of_source symbols blocks
    ≡ with_bits (with_depths (unmeasured_types symbols blocks) (depths_after n (unmeasured_types symbols blocks) blocks))
    (bits_after n (with_depths (unmeasured_types symbols blocks) (depths_after n (unmeasured_types symbols blocks) blocks)) blocks)
unfolding types_of_source with_all_bits with_all_depths
rounds_are symbols blocks n e =
    ap (λ (k : ℕ). with_bits (with_depths (unmeasured_types symbols blocks) (depths_after k (unmeasured_types symbols blocks) blocks))
    (bits_after k (with_depths (unmeasured_types symbols blocks) (depths_after k (unmeasured_types symbols blocks) blocks)) blocks))
    (sym e)

measured_by : (symbols : List Symbol) (blocks : List Block) (n : ℕ) → n ≡ 9
    → Measured (types_of_source symbols blocks) blocks
measured_by symbols blocks n e u b there less =
    subst (λ (y : Types). get_or y.depths u 0 < 9 → get_or y.bits u 0 ≡ type_bits y b)
    (sym (rounds_are symbols blocks n e))
    (λ small. type_settled (unmeasured_types symbols blocks) blocks n (omega (arith, e)) u b there
    (omega (arith, e, small))) less

pub types_measured : (symbols : List Symbol) (blocks : List Block) → Measured (types_of_source symbols blocks) blocks
types_measured symbols blocks = measured_by symbols blocks 9 refl
