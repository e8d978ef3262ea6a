-- The sizes of elements and the ends of components, found cell by cell, none above the cap.
use Rattle.std.proofs.Common.{ℕ, zero, suc, ◌≡◌, ◌<◌, ◌≤◌, ◌+◌, List, [], ◌∷◌, Bool, true, false, nat_lt, refl, sym, ◌∙◌, ap, subst, arith, length, drop, get_or, if◌then◌else◌, add-one, slice_set}
use Rattle.std.proofs.lemmas.Bool.Decides.{nat_tests}
use Rattle.std.proofs.Math.ListN.{drop_of_length-le}
use Rattle.std.proofs.lemmas.List.{drop_more, drop-set}
use Rattle.stl_ast.specs.declared.declarations.Bounds.{Bounds}
use Rattle.stl_ast.specs.declared.declarations.Simple.TheVariants as simple
use Rattle.block_layout.specs.declared.cells.Cell.{Cell}
use Rattle.block_layout.specs.declared.cells.Element.{Element}
use Rattle.block_layout.specs.declared.cells.Element.TheVariants.{Plain, Structure, DateAndTime, Udt, Unknown}
use Rattle.block_layout.specs.Sizes.{largest_size}
use Rattle.block_layout.specs.Sizes.{end_behind_cell, cell_bits, element_of, components_end, elements_of, capped_size, array_bits, element_bits}

drop_suc : {X : Type 0} (x : X) (xs : List X) (i : ℕ) → drop (i + 1) xs ≡ drop (suc i + 1) (x ∷ xs)
drop_suc x xs i = rw (add-one, add-one) refl

pub elements_at : (cells : List Cell) (i : ℕ) (c : Cell) (d : ℕ) → i < length cells → get_or (elements_of cells) i d ≡ element_of (get_or cells i c) (drop (i + 1) cells)
elements_at [] i c d within = absurd (let never : ⊥ = omega arith in never)
elements_at (x ∷ xs) zero c d within = refl
elements_at (x ∷ xs) (suc i) c d within = let w : i < length xs = omega arith in elements_at xs i c d w ∙ ap (λ (l : List Cell). element_of (get_or xs i c) l) (drop_suc x xs i)

-- the cell at i stands at a lower level
pub end_lower : (level at : ℕ) (cells : List Cell) (i : ℕ) (c : Cell) → i < length cells → c ≡ get_or cells i c → c.level < level → components_end level at (drop i cells) ≡ at
unfolding components_end
end_lower level at cells i c within is_c lower = rw (drop_more cells i c within ∙ ap (λ (d : Cell). d ∷ drop (i + 1) cells) (sym is_c)) (grind arith)

-- it doesn't
pub end_next : (level at : ℕ) (cells : List Cell) (i : ℕ) (c : Cell) (sizes : List ℕ) (d next whole : ℕ) → i < length cells → c ≡ get_or cells i c → level ≤ c.level →
    sizes ≡ elements_of cells → next ≡ end_behind_cell level at c (array_bits c.bounds (get_or sizes i d)) → components_end level at (drop i cells) ≡ whole → components_end level next (drop (i + 1) cells) ≡ whole
unfolding components_end element_of
end_next level at cells i c sizes d next whole within is_c reaches are_sizes is_next so_far =
    let bits : array_bits c.bounds (get_or sizes i d) ≡ cell_bits c (drop (i + 1) cells) = ap (λ (n : ℕ). array_bits c.bounds n) (ap (λ (l : List ℕ). get_or l i d) are_sizes ∙ elements_at cells i c d within ∙ ap (λ (x : Cell). element_of x (drop (i + 1) cells)) (sym is_c)) in
    let split : drop i cells ≡ c ∷ drop (i + 1) cells = drop_more cells i c within ∙ ap (λ (x : Cell). x ∷ drop (i + 1) cells) (sym is_c) in
    let test : nat_lt c.level level ≡ false = grind (arith, nat_tests) in
    let step : components_end level at (c ∷ drop (i + 1) cells) ≡ components_end level (end_behind_cell level at c (cell_bits c (drop (i + 1) cells))) (drop (i + 1) cells) = (rw test refl) in
    ap (λ (n : ℕ). components_end level n (drop (i + 1) cells)) (is_next ∙ ap (λ (n : ℕ). end_behind_cell level at c n) bits) ∙ sym step ∙ ap (λ (l : List Cell). components_end level at l) (sym split) ∙ so_far

pub end_done : (level at : ℕ) (cells : List Cell) (i whole : ℕ) → length cells ≤ i → components_end level at (drop i cells) ≡ whole → at ≡ whole
unfolding components_end
end_done level at cells i whole over so_far = sym (ap (λ (l : List Cell). components_end level at l) (drop_of_length-le cells over)) ∙ so_far

pub length-elements : (cells : List Cell) → length (elements_of cells) ≡ length cells
length-elements [] = refl
length-elements (c ∷ cs) = ap (λ n. suc n) (length-elements cs)

element_small : (of : Element) (n : ℕ) → n ≤ largest_size → element_bits of n ≤ largest_size
element_small (Plain simple.Bool) n h = omega arith
element_small (Plain simple.Byte) n h = omega arith
element_small (Plain simple.Char) n h = omega arith
element_small (Plain simple.Word) n h = omega arith
element_small (Plain simple.Int) n h = omega arith
element_small (Plain simple.S5time) n h = omega arith
element_small (Plain simple.Dword) n h = omega arith
element_small (Plain simple.Dint) n h = omega arith
element_small (Plain simple.Time) n h = omega arith
element_small Structure n h = h
element_small DateAndTime n h = omega arith
element_small (Udt block bits) n h = omega arith
element_small Unknown n h = omega arith

array_small : (bs : List Bounds) (n : ℕ) → n ≤ largest_size → array_bits bs n ≤ largest_size
array_small [] n h = h
array_small (b ∷ bs) n h = omega arith

components_small : (sound : Bool) (n : ℕ) → (if sound then capped_size n else 0) ≤ largest_size
components_small true n = omega arith
components_small false n = omega arith

pub element_near : (c : Cell) (cs : List Cell) → element_of c cs ≤ largest_size
unfolding element_of
element_near c cs = element_small c.of _ (components_small c.sound _)

pub size_small : (cells : List Cell) (i d : ℕ) (c : Cell) → i < length cells → get_or (elements_of cells) i d ≤ largest_size
size_small cells i d c within = subst (λ (n : ℕ). n ≤ largest_size) (sym (elements_at cells i c d within)) (element_near (get_or cells i c) (drop (i + 1) cells))

pub size_within : (cells : List Cell) (i : ℕ) (sizes : List ℕ) → sizes ≡ elements_of cells → i < length cells → i < length sizes
size_within cells i sizes are within = let l = length-elements cells in let e = ap length are in omega arith

-- one cell more in front
pub elements_next : (cells : List Cell) (i : ℕ) (c : Cell) (sizes : List ℕ) (bits : ℕ) → i < length cells → c ≡ get_or cells i c → length sizes ≡ length cells →
    drop (i + 1) sizes ≡ elements_of (drop (i + 1) cells) → bits ≡ element_of c (drop (i + 1) cells) → drop i (slice_set sizes i bits) ≡ elements_of (drop i cells)
elements_next cells i c sizes bits within is_c long so_far is_bits =
    let there : i < length sizes = omega arith in
    drop-set sizes i bits there ∙ ap (λ (n : ℕ). n ∷ drop (i + 1) sizes) is_bits ∙ ap (λ (l : List ℕ). element_of c (drop (i + 1) cells) ∷ l) so_far
    ∙ sym (ap (λ (l : List Cell). elements_of l) (drop_more cells i c within ∙ ap (λ (x : Cell). x ∷ drop (i + 1) cells) (sym is_c)))

pub elements_value : (cells now : List Cell) (elements : List ℕ) (place d r : ℕ) → elements ≡ elements_of cells → now ≡ cells → place < length now → r ≡ get_or elements place d →
    (c : Cell) → r ≡ element_of (get_or now place c) (drop (place + 1) now)
elements_value cells now elements place d r are is_now within is_r c =
    let there : place < length cells = subst (λ (l : List Cell). place < length l) is_now within in
    is_r ∙ ap (λ (l : List ℕ). get_or l place d) are ∙ elements_at cells place c d there ∙ ap (λ (l : List Cell). element_of (get_or l place c) (drop (place + 1) l)) (sym is_now)

all_near : (cells : List Cell) (i d : ℕ) → i < length cells → get_or (elements_of cells) i d ≤ largest_size
all_near [] i d within = absurd (let never : ⊥ = omega arith in never)
all_near (x ∷ xs) zero d within = element_near x xs
all_near (x ∷ xs) (suc i) d within = let w : i < length xs = omega arith in all_near xs i d w

pub elements_near : (cells now : List Cell) (elements : List ℕ) (place d r : ℕ) → elements ≡ elements_of cells → now ≡ cells → place < length now → r ≡ get_or elements place d → r ≤ largest_size
elements_near cells now elements place d r are is_now within is_r =
    subst (λ (n : ℕ). n ≤ largest_size) (sym (is_r ∙ ap (λ (l : List ℕ). get_or l place d) are)) (all_near cells place d (subst (λ (l : List Cell). place < length l) is_now within))

pub elements_within : (cells now : List Cell) (elements : List ℕ) (place : ℕ) → elements ≡ elements_of cells → now ≡ cells → place < length now → place < length elements
elements_within cells now elements place are is_now within =
    size_within cells place elements are (subst (λ (l : List Cell). place < length l) is_now within)
