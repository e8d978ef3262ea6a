-- The length of the structure of a block, by the declarations of all blocks.
use Rattle.std.proofs.Common.{ℕ, zero, suc, ◌≡◌, ◌/◌, List, [], ◌∷◌, Option, Some, None, true, ◌<◌, length, get_or, arith, map, refl, sym, ◌∙◌, ap}
use Rattle.std.proofs.lemmas.List.{length-map}
use Rattle.std.specs.List.{slice_get}
use Rattle.std.specs.Option.{option_map}
use Rattle.stl_ast.specs.declared.blocks.Block.{Block}
use Rattle.block_layout.specs.declared.cells.Cell.{Cell}
use Rattle.block_layout.specs.declared.blocks.Shape.{Shape}
use Rattle.block_layout.specs.declared.blocks.Shape.TheVariants as shape
use Rattle.block_layout.specs.declared.outlines.Outline.{Outline}
use Rattle.block_layout.specs.Cells.{components_of, temps_of}
use Rattle.block_layout.specs.Facts.{outline_of}
use Rattle.block_layout.specs.Lengths.{bits_of_cells, block_bits, is_structured, length_of_block, shape_of}
use Rattle.block_layout.specs.Types.{Types}

got_mapped : {X Z : Type 0} (f : X → Z) (xs : List X) (i : ℕ) → slice_get (map f xs) i ≡ option_map f (slice_get xs i)
got_mapped f [] i = refl
got_mapped f (x ∷ xs) zero = refl
got_mapped f (x ∷ xs) (suc i) = got_mapped f xs i

components_there : (y : Types) (b : Option Block) → option_map (λ o. o.components) (option_map (outline_of y) b) ≡ option_map (components_of y) b
components_there y None = refl
components_there y (Some b) = refl

pub bits_there : (y : Types) (blocks : List Block) (outlines : List Outline) (place r : ℕ) → outlines ≡ map (outline_of y) blocks →
    r ≡ bits_of_cells (option_map (λ o. o.components) (slice_get outlines place)) → r ≡ block_bits y (slice_get blocks place)
bits_there y blocks outlines place r are is_r =
    is_r ∙ ap (λ (l : List Outline). bits_of_cells (option_map (λ o. o.components) (slice_get l place))) are
    ∙ ap (λ (o : Option Outline). bits_of_cells (option_map (λ p. p.components) o)) (got_mapped (outline_of y) blocks place)
    ∙ ap (λ (o : Option (List Cell)). bits_of_cells o) (components_there y (slice_get blocks place))

pub own_length : (y : Types) (blocks : List Block) (b : Block) (outlines : List Outline) (place r : ℕ) (s : Shape) → outlines ≡ map (outline_of y) blocks → slice_get blocks place ≡ Some b →
    s ≡ shape_of y b → s ≡ shape.Own → is_structured b.kind ≡ true → r ≡ bits_of_cells (option_map (λ o. o.components) (slice_get outlines place)) → r / 8 ≡ length_of_block y blocks b
unfolding length_of_block
own_length y blocks b outlines place r s are there is_shape own structured is_r =
    rw structured (rw (sym is_shape ∙ own)
    (ap (λ (n : ℕ). n / 8) (bits_there y blocks outlines place r are is_r ∙ ap (λ (o : Option Block). block_bits y o) there)))

pub other_length : (y : Types) (blocks : List Block) (b : Block) (outlines : List Outline) (other r : ℕ) (s : Shape) → outlines ≡ map (outline_of y) blocks →
    s ≡ shape_of y b → s ≡ shape.Of other → is_structured b.kind ≡ true → r ≡ bits_of_cells (option_map (λ o. o.components) (slice_get outlines other)) → r / 8 ≡ length_of_block y blocks b
unfolding length_of_block
other_length y blocks b outlines other r s are is_shape of_other structured is_r =
    rw structured (rw (sym is_shape ∙ of_other) (ap (λ (n : ℕ). n / 8) (bits_there y blocks outlines other r are is_r)))

pub no_length : (y : Types) (blocks : List Block) (b : Block) (s : Shape) → s ≡ shape_of y b → s ≡ shape.Unknown → is_structured b.kind ≡ true → 0 ≡ length_of_block y blocks b
unfolding length_of_block
no_length y blocks b s is_shape unknown structured = rw structured (rw (sym is_shape ∙ unknown) refl)

got_at : {X : Type 0} (xs : List X) (i : ℕ) (x : X) → i < length xs → x ≡ get_or xs i x → slice_get xs i ≡ Some x
got_at [] i x within is = absurd (let never : ⊥ = omega arith in never)
got_at (z ∷ xs) zero x within is = ap (λ y. Some y) (sym is)
got_at (z ∷ xs) (suc i) x within is = let w : i < length xs = omega arith in got_at xs i x w is

pub block_there : (bs : List Block) (i : ℕ) (b : Block) → i < length bs → b ≡ get_or bs i b → slice_get bs i ≡ Some b
block_there bs i b within is = got_at bs i b within is

mapped_at : {X Z : Type 0} (f : X → Z) (xs : List X) (i : ℕ) (x : X) (d : Z) → i < length xs → get_or (map f xs) i d ≡ f (get_or xs i x)
mapped_at f [] i x d within = absurd (let never : ⊥ = omega arith in never)
mapped_at f (z ∷ xs) zero x d within = refl
mapped_at f (z ∷ xs) (suc i) x d within = let w : i < length xs = omega arith in mapped_at f xs i x d w

-- the declarations at a place are those of the block there
pub outline_there : (y : Types) (bs : List Block) (outlines : List Outline) (i : ℕ) (b : Block) (o : Outline) → outlines ≡ map (outline_of y) bs → i < length bs → b ≡ get_or bs i b →
    o ≡ get_or outlines i o → o ≡ outline_of y b
outline_there y bs outlines i b o are within is_b is_o =
    is_o ∙ ap (λ (l : List Outline). get_or l i o) are ∙ mapped_at (outline_of y) bs i b o within ∙ ap (λ (x : Block). outline_of y x) (sym is_b)

pub outline_is : (y : Types) (b : Block) (components temps : List Cell) → components ≡ components_of y b → temps ≡ temps_of y b → record { components = components; temps = temps } ≡ outline_of y b
outline_is y b components temps are temps_are = rw are (rw temps_are refl)

pub length-outlines : (y : Types) (bs : List Block) (outlines : List Outline) → outlines ≡ map (outline_of y) bs → length outlines ≡ length bs
length-outlines y bs outlines are = ap length are ∙ length-map bs (outline_of y)
