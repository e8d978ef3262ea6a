-- The components of a structure and their names, in a walk over the cells, and one by its name.
use Rattle.std.proofs.Common.{ℕ, suc, ◌≡◌, ◌<◌, ◌≤◌, ◌+◌, List, [], ◌∷◌, ◌++◌, append_assoc, Option, Some, None, true, false, nat_eq, nat_lt, ◌&&◌, refl, sym, ◌∙◌, ap, subst, arith, length, drop, get_or, ⊎_elim}
use Rattle.std.specs.Option.{option_map, option_and_then, IfSome}
use Rattle.std.specs.List.{slice_get}
use Rattle.std.specs.Str.{bytes_eq}
use Rattle.std.proofs.lemmas.Bool.{cases_Bool}
use Rattle.std.proofs.lemmas.Bool.Decides.{nat_tests}
use Rattle.std.proofs.Math.ListN.{drop_of_length-le}
use Rattle.std.proofs.lemmas.List.{drop_more, append-nil}
use Rattle.stl_symbols.specs.Names.{name_place}
use Rattle.block_layout.specs.declared.cells.Cell.{Cell}
use Rattle.block_layout.specs.declared.members.Member.{Member}
use Rattle.block_layout.specs.Sizes.{next_multiple, alignment, component_end, end_behind_cell, cell_bits, element_of, array_bits, elements_of}
use Rattle.block_layout.specs.Members.{component_of_name, members_of, component_names, name_here, member_here}
use Rattle.block_layout.proofs.SizeLemmas.{elements_at}

-- the component of a name is the member at the name's first place
pub component_is : (level at place : ℕ) (name : List ℕ) (cells : List Cell) →
    component_of_name level at place name cells ≡ option_and_then (λ k. slice_get (members_of level at place cells) k) (name_place name (component_names level cells))
unfolding component_of_name members_of component_names
component_is level at place name [] = refl
component_is level at place name (c ∷ cs) =
    let later = component_is level (end_behind_cell level at c (cell_bits c cs)) (place + 1) name cs in
    ⊎_elim
    (λ lower. rw lower refl)
    (λ not_lower. rw not_lower (⊎_elim
    (λ here. rw here (⊎_elim
    (λ same. rw same refl)
    (λ other. let l2 = rw here at later in rw other (l2 ∙ shifted (name_place name (component_names level cs)) (record { place = place; offset = next_multiple at (alignment c) }) (members_of level (component_end at c (cell_bits c cs)) (place + 1) cs)))
    (cases_Bool (bytes_eq name c.name))))
    (λ higher. let l2 = rw higher at later in rw higher l2)
    (cases_Bool (nat_eq c.level level))))
    (cases_Bool (nat_lt c.level level))
  where
    shifted : (o : Option ℕ) (m : Member) (ms : List Member) → option_and_then (λ k. slice_get ms k) o ≡ option_and_then (λ k. slice_get (m ∷ ms) k) (option_map (λ k. suc k) o)
    shifted None m ms = refl
    shifted (Some k) m ms = refl

-- in a walk over the cells
pub names_next : (level : ℕ) (cells : List Cell) (i : ℕ) (c : Cell) (before now whole : List (List ℕ)) → i < length cells → c ≡ get_or cells i c → level ≤ c.level →
    now ≡ before ++ name_here level c → before ++ component_names level (drop i cells) ≡ whole → now ++ component_names level (drop (i + 1) cells) ≡ whole
unfolding component_names
names_next level cells i c before now whole within is_c reaches is_now so_far =
    let split : drop i cells ≡ c ∷ drop (i + 1) cells = drop_more cells i c within ∙ ap (λ (x : Cell). x ∷ drop (i + 1) cells) (sym is_c) in
    let test : nat_lt c.level level ≡ false = grind (arith, nat_tests) in
    let step : component_names level (c ∷ drop (i + 1) cells) ≡ name_here level c ++ component_names level (drop (i + 1) cells) = (rw test refl) in
    ap (λ (l : List (List ℕ)). l ++ component_names level (drop (i + 1) cells)) is_now ∙ append_assoc before (name_here level c) (component_names level (drop (i + 1) cells))
    ∙ ap (λ (l : List (List ℕ)). before ++ l) (sym step ∙ ap (λ (l : List Cell). component_names level l) (sym split)) ∙ so_far

pub members_next : (level at place : ℕ) (cells : List Cell) (i : ℕ) (c : Cell) (sizes : List ℕ) (d next : ℕ) (before now whole : List Member) → i < length cells →
    c ≡ get_or cells i c → level ≤ c.level → sizes ≡ elements_of cells → next ≡ end_behind_cell level at c (array_bits c.bounds (get_or sizes i d)) → now ≡ before ++ member_here level at place c →
    before ++ members_of level at place (drop i cells) ≡ whole → now ++ members_of level next (place + 1) (drop (i + 1) cells) ≡ whole
unfolding members_of
members_next level at place cells i c sizes d next before now whole within is_c reaches are_sizes is_next is_now so_far =
    let bits : array_bits c.bounds (get_or sizes i d) ≡ cell_bits c (drop (i + 1) cells) = ap (λ (n : ℕ). array_bits c.bounds n) (ap (λ (l : List ℕ). get_or l i d) are_sizes ∙ elements_at cells i c d within ∙ ap (λ (x : Cell). element_of x (drop (i + 1) cells)) (sym is_c)) in
    let stands : next ≡ end_behind_cell level at c (cell_bits c (drop (i + 1) cells)) = is_next ∙ ap (λ (n : ℕ). end_behind_cell level at c n) bits in
    let split : drop i cells ≡ c ∷ drop (i + 1) cells = drop_more cells i c within ∙ ap (λ (x : Cell). x ∷ drop (i + 1) cells) (sym is_c) in
    let test : nat_lt c.level level ≡ false = grind (arith, nat_tests) in
    let step : members_of level at place (c ∷ drop (i + 1) cells) ≡ member_here level at place c ++ members_of level next (place + 1) (drop (i + 1) cells) = (rw test (rw stands refl)) in
    ap (λ (l : List Member). l ++ members_of level next (place + 1) (drop (i + 1) cells)) is_now ∙ append_assoc before (member_here level at place c) (members_of level next (place + 1) (drop (i + 1) cells))
    ∙ ap (λ (l : List Member). before ++ l) (sym step ∙ ap (λ (l : List Cell). members_of level at place l) (sym split)) ∙ so_far

pub names_lower : (level : ℕ) (cells : List Cell) (i : ℕ) (c : Cell) (before whole : List (List ℕ)) → i < length cells → c ≡ get_or cells i c → c.level < level →
    before ++ component_names level (drop i cells) ≡ whole → before ≡ whole
unfolding component_names
names_lower level cells i c before whole within is_c lower so_far =
    let split : drop i cells ≡ c ∷ drop (i + 1) cells = drop_more cells i c within ∙ ap (λ (x : Cell). x ∷ drop (i + 1) cells) (sym is_c) in
    let test : nat_lt c.level level ≡ true = grind (arith, nat_tests) in
    let none : component_names level (c ∷ drop (i + 1) cells) ≡ [] = (rw test refl) in
    sym (append-nil before) ∙ ap (λ (l : List (List ℕ)). before ++ l) (sym none ∙ ap (λ (l : List Cell). component_names level l) (sym split)) ∙ so_far

pub members_lower : (level at place : ℕ) (cells : List Cell) (i : ℕ) (c : Cell) (before whole : List Member) → i < length cells → c ≡ get_or cells i c → c.level < level →
    before ++ members_of level at place (drop i cells) ≡ whole → before ≡ whole
unfolding members_of
members_lower level at place cells i c before whole within is_c lower so_far =
    let split : drop i cells ≡ c ∷ drop (i + 1) cells = drop_more cells i c within ∙ ap (λ (x : Cell). x ∷ drop (i + 1) cells) (sym is_c) in
    let test : nat_lt c.level level ≡ true = grind (arith, nat_tests) in
    let none : members_of level at place (c ∷ drop (i + 1) cells) ≡ [] = (rw test refl) in
    sym (append-nil before) ∙ ap (λ (l : List Member). before ++ l) (sym none ∙ ap (λ (l : List Cell). members_of level at place l) (sym split)) ∙ so_far

pub names_done : (level : ℕ) (cells : List Cell) (i : ℕ) (before whole : List (List ℕ)) → length cells ≤ i → before ++ component_names level (drop i cells) ≡ whole → before ≡ whole
unfolding component_names
names_done level cells i before whole over so_far =
    sym (append-nil before) ∙ ap (λ (l : List Cell). before ++ component_names level l) (sym (drop_of_length-le cells over)) ∙ so_far

pub members_done : (level at place : ℕ) (cells : List Cell) (i : ℕ) (before whole : List Member) → length cells ≤ i → before ++ members_of level at place (drop i cells) ≡ whole → before ≡ whole
unfolding members_of
members_done level at place cells i before whole over so_far =
    sym (append-nil before) ∙ ap (λ (l : List Cell). before ++ members_of level at place l) (sym (drop_of_length-le cells over)) ∙ so_far

pub found_is : (level : ℕ) (name : List ℕ) (cells : List Cell) (ms : List Member) (names : List (List ℕ)) (o : Option ℕ) (k : ℕ) (r : Option Member) →
    names ≡ component_names level cells → ms ≡ members_of level 0 0 cells → o ≡ name_place name names → o ≡ Some k → r ≡ slice_get ms k → r ≡ component_of_name level 0 0 name cells
found_is level name cells ms names o k r are_names are_ms is_o some_k is_r =
    let at_k : name_place name (component_names level cells) ≡ Some k = ap (λ (l : List (List ℕ)). name_place name l) (sym are_names) ∙ sym is_o ∙ some_k in
    is_r ∙ ap (λ (l : List Member). slice_get l k) are_ms
    ∙ sym (component_is level 0 0 name cells ∙ ap (λ (p : Option ℕ). option_and_then (λ j. slice_get (members_of level 0 0 cells) j) p) at_k)

within_more : (o : Option Member) (m n : ℕ) → IfSome o (λ r. r.place < m) → m ≤ n → IfSome o (λ r. r.place < n)
within_more None m n h e = tt
within_more (Some r) m n h e = omega arith

-- a component is one of the cells
pub component_within : (level at place : ℕ) (name : List ℕ) (cells : List Cell) → IfSome (component_of_name level at place name cells) (λ m. m.place < place + length cells)
unfolding component_of_name
component_within level at place name [] = tt
component_within level at place name (c ∷ cs) =
    let later = within_more _ _ (place + length (c ∷ cs)) (component_within level (end_behind_cell level at c (cell_bits c cs)) (place + 1) name cs) (omega arith) in
    ⊎_elim
    (λ lower. rw lower tt)
    (λ not_lower. rw not_lower (⊎_elim
    (λ here. rw here (omega arith))
    (λ other. rw other later)
    (cases_Bool (nat_eq c.level level && bytes_eq name c.name))))
    (cases_Bool (nat_lt c.level level))

pub within_is : (level : ℕ) (name : List ℕ) (cells : List Cell) (o : Option Member) → o ≡ component_of_name level 0 0 name cells → IfSome o (λ m. m.place < length cells)
within_is level name cells o is = subst (λ (p : Option Member). IfSome p (λ m. m.place < length cells)) (sym is) (within_more _ _ (length cells) (component_within level 0 0 name cells) (omega arith))
