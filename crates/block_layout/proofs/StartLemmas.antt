-- Where components and elements begin.
use Rattle.std.proofs.Common.{ℕ, ◌≡◌, ◌<◌, ◌≤◌, ◌+◌, ◌*◌, min, List, [], ◌∷◌, ◌++◌, map, refl, sym, ◌∙◌, ap, arith, length, drop, get_or, append_assoc}
use Rattle.std.specs.List.{flat_map, range_with_len}
use Rattle.std.proofs.Math.ListN.{drop_of_length-le}
use Rattle.std.proofs.lemmas.List.{drop_more}
use Rattle.std.proofs.lemmas.List.FromFn.{map-range_with_len_more}
use Rattle.stl_ast.specs.declared.declarations.Bounds.{Bounds}
use Rattle.block_layout.specs.Declarations.{element_count}
use Rattle.block_layout.specs.InitialBytes.{element_starts, in_steps}
use Rattle.block_layout.specs.Sizes.{array_bits, capped_size}
use Rattle.block_layout.specs.Sizes.{largest_size}

-- a sum or a product that is held at a greatest number above the cap
pub capped_held : (n held most : ℕ) → largest_size ≤ most → held ≡ min n most → capped_size held ≡ capped_size n
capped_held n held most far is = omega (arith, far, is)

-- one step more
pub steps_more : (step start k product gone sum most : ℕ) (places before : List ℕ) → largest_size ≤ most → product ≡ min (k * step) most → gone ≡ capped_size product → sum ≡ min (start + gone) most →
    places ≡ before ++ in_steps step k start → places ++ capped_size sum ∷ [] ≡ before ++ in_steps step (k + 1) start
steps_more step start k product gone sum most places before far is_product is_gone is_sum so_far =
    let f : ℕ → ℕ = λ j. capped_size (start + capped_size (j * step)) in
    let place : capped_size sum ≡ f k = capped_held (start + gone) sum most far is_sum ∙ ap (λ (n : ℕ). capped_size (start + n)) (is_gone ∙ capped_held (k * step) product most far is_product) in
    ap (λ (l : List ℕ). l ++ capped_size sum ∷ []) so_far ∙ append_assoc before (in_steps step k start) (capped_size sum ∷ [])
    ∙ ap (λ (n : ℕ). before ++ (in_steps step k start ++ n ∷ [])) place
    ∙ ap (λ (l : List ℕ). before ++ l) (sym (map-range_with_len_more f 0 k k (omega arith)))

-- one array more
pub arrays_next : (bounds : List Bounds) (i : ℕ) (b : Bounds) (element : ℕ) (starts next whole : List ℕ) → i < length bounds → b ≡ get_or bounds i b →
    next ≡ flat_map (in_steps (array_bits (drop (i + 1) bounds) element) (element_count b)) starts → element_starts (drop i bounds) element starts ≡ whole → element_starts (drop (i + 1) bounds) element next ≡ whole
arrays_next bounds i b element starts next whole within is_b is_next so_far =
    let split : drop i bounds ≡ b ∷ drop (i + 1) bounds = drop_more bounds i b within ∙ ap (λ (x : Bounds). x ∷ drop (i + 1) bounds) (sym is_b) in
    ap (λ (l : List ℕ). element_starts (drop (i + 1) bounds) element l) is_next ∙ ap (λ (l : List Bounds). element_starts l element starts) (sym split) ∙ so_far

pub arrays_done : (bounds : List Bounds) (i element : ℕ) (starts whole : List ℕ) → length bounds ≤ i → element_starts (drop i bounds) element starts ≡ whole → starts ≡ whole
arrays_done bounds i element starts whole over so_far = ap (λ (l : List Bounds). element_starts l element starts) (sym (drop_of_length-le bounds over)) ∙ so_far
