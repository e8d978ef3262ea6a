-- What the rules find of a declaration by the lists that are open is what they find by its past.
use Rattle.std.proofs.Common.{ℕ, ◌≡◌, ◌<◌, ◌≤◌, ◌+◌, List, [], ◌∷◌, ◌++◌, append_assoc, Bool, true, false, nat_eq, nat_lt, ◌||◌, not, refl, sym, ◌∙◌, ap, subst, arith, length, drop, take, get_or, ⊎_elim}
use Rattle.std.proofs.lemmas.Bool.{cases_Bool}
use Rattle.std.proofs.lemmas.Bool.Decides.{nat_tests}
use Rattle.std.proofs.lemmas.List.{drop_more, append-nil, get_or-take, length-take-le, length-append}
use Rattle.std.proofs.Math.ListN.{get_or-append, drop_of_length-le}
use Rattle.stl_ast.specs.declared.declarations.ElementType.{ElementType}
use Rattle.stl_ast.specs.declared.declarations.ElementType.TheVariants.{Plain, Structure, Udt, DateAndTime}
use Rattle.std.proofs.Math.Seq.{get_or-append_seam}
use Rattle.stl_ast.specs.declared.declarations.Declaration.{Declaration}
use Rattle.stl_ast.specs.Outline.{IsOutline, level_behind}
use Rattle.block_layout.specs.declared.declaration_facts.OpenList.{OpenList}
use Rattle.block_layout.specs.declared.declaration_facts.DeclarationFacts.{DeclarationFacts}
use Rattle.block_layout.specs.Around.{Outside, structures_around, declarations_before_next}
use Rattle.block_layout.specs.Cells.{breaks_rule}
use Rattle.block_layout.specs.Declarations.{is_unknown_type, has_upside_down, init_fits}
use Rattle.block_layout.specs.Measures.{capped_depth}
use Rattle.block_layout.specs.Rule21.{is_twice, names_before}
use Rattle.block_layout.specs.Rule56.{own_depth, depth_around, depth_of_holders, is_too_deep}
use Rattle.block_layout.specs.Types.{Types}
use Rattle.block_layout.specs.DeclarationFacts.{AreOpen, AreFactsOnto, breaks_in, open_lists_behind, open_list_of, inner_list, is_deep_in, facts_by_list, facts_of_declaration, facts_of_declarations, with_name}

-- depths beyond 8 may count as 9
pub deep_in_capped : (a own : ℕ) → is_deep_in (capped_depth a) (capped_depth own) ≡ is_deep_in a own
deep_in_capped a own = grind (arith, nat_tests)

pub deep_sum : (a own : ℕ) → capped_depth (capped_depth a + capped_depth own) ≡ capped_depth (a + own)
deep_sum a own = omega arith

or_middle : (twice unknown unfit upside ninth : Bool) →
    ((twice || ((unknown || unfit) || upside)) || ninth) ≡ ((((twice || unknown) || unfit) || upside) || ninth)
or_middle true unknown unfit upside ninth = refl
or_middle false unknown unfit upside ninth = refl

pub breaks_same : (y : Types) (o : Outside) (before : List Declaration) (d : Declaration) → breaks_in y (open_list_of y o before d.level) d ≡ breaks_rule y o before d
breaks_same y o before d =
    ap (λ (ninth : Bool). (is_twice o before d || ((is_unknown_type y d.of.of || not (init_fits d)) || has_upside_down d)) || ninth)
    (deep_in_capped (depth_around y o d.level before) (own_depth y d))
    ∙ or_middle (is_twice o before d) (is_unknown_type y d.of.of) (not (init_fits d)) (has_upside_down d) (is_too_deep y o before d)

-- a declaration by the list that it goes on
pub facts_same : (y : Types) (o : Outside) (before : List Declaration) (d : Declaration) → facts_by_list y (open_list_of y o before d.level) d ≡ facts_of_declaration y o before d
unfolding facts_by_list
facts_same y o before d =
    rw (breaks_same y o before d) (rw (deep_in_capped (depth_around y o d.level before) (own_depth y d)) (rw (deep_sum (depth_around y o d.level before) (own_depth y d)) refl))

-- the lists behind a declaration
list_lower : (y : Types) (o : Outside) (before : List Declaration) (d : Declaration) (level : ℕ) → level < d.level → open_list_of y o before level ≡ open_list_of y o (d ∷ before) level
list_lower y o before d level lower =
    let not_lower : nat_lt d.level level ≡ false = grind (arith, nat_tests) in
    let not_here : nat_eq d.level level ≡ false = grind (arith, nat_tests) in
    rw not_lower (rw not_here (rw (append-nil (names_before o.names level before)) refl))

list_here : (y : Types) (o : Outside) (before : List Declaration) (d : Declaration) → with_name (open_list_of y o before d.level) d ≡ open_list_of y o (d ∷ before) d.level
list_here y o before d =
    let not_lower : nat_lt d.level d.level ≡ false = grind (arith, nat_tests) in
    let here : nat_eq d.level d.level ≡ true = grind (arith, nat_tests) in
    rw not_lower (rw here refl)

list_inside : (y : Types) (o : Outside) (before : List Declaration) (d : Declaration) → inner_list y (open_list_of y o before d.level) d ≡ open_list_of y o (d ∷ before) (d.level + 1)
list_inside y o before d =
    let lower : nat_lt d.level (d.level + 1) ≡ true = grind (arith, nat_tests) in
    let sum : capped_depth (capped_depth (depth_around y o d.level before) + capped_depth (own_depth y d)) ≡ capped_depth (o.depth + (own_depth y d + depth_of_holders y (structures_around d.level before))) = omega arith in
    rw lower (rw (breaks_same y o before d) (rw sum refl))

-- a list of which two elements follow the first n of another
two_behind : (open_ : List OpenList) (n : ℕ) (here inner : OpenList) (level : ℕ) (g : OpenList) → n < length open_ → level < length (take n open_ ++ here ∷ inner ∷ []) →
    (level < n → get_or (take n open_ ++ here ∷ inner ∷ []) level g ≡ get_or open_ level g)
    × ((level ≡ n → get_or (take n open_ ++ here ∷ inner ∷ []) level g ≡ here)
    × ((level ≡ n + 1 → get_or (take n open_ ++ here ∷ inner ∷ []) level g ≡ inner) × (level < n + 2)))
two_behind open_ n here inner level g within below =
    let long : length (take n open_) ≡ n = length-take-le n open_ (omega arith) in
    let longer : length (take n open_ ++ here ∷ []) ≡ n + 1 = length-append (take n open_) (here ∷ []) ∙ ap (λ (k : ℕ). k + 1) long in
    let whole : length (take n open_ ++ here ∷ inner ∷ []) ≡ n + 2 = length-append (take n open_) (here ∷ inner ∷ []) ∙ ap (λ (k : ℕ). k + 2) long in (
      (λ low. get_or-append (take n open_) (here ∷ inner ∷ []) g level (let l = long in omega arith) ∙ get_or-take n open_ level g low),
      (
        (λ at. ap (λ (k : ℕ). get_or (take n open_ ++ here ∷ inner ∷ []) k g) (at ∙ sym long) ∙ get_or-append_seam (take n open_) here (inner ∷ []) g),
        (
          (λ at. ap (λ (k : ℕ). get_or (take n open_ ++ here ∷ inner ∷ []) k g) (at ∙ sym longer)
              ∙ ap (λ (l : List OpenList). get_or l (length (take n open_ ++ here ∷ [])) g) (sym (append_assoc (take n open_) (here ∷ []) (inner ∷ [])))
              ∙ get_or-append_seam (take n open_ ++ here ∷ []) inner [] g),
          (let w = whole in let b = below in omega arith),
        ),
      ),
    )

at_level : (y : Types) (o : Outside) (before : List Declaration) (d : Declaration) (open_ : List OpenList) → AreOpen y o before open_ → d.level < length open_ → (f : OpenList) →
    (level : ℕ) (g : OpenList) → level < length (open_lists_behind y open_ (open_list_of y o before d.level) d) → get_or (open_lists_behind y open_ (open_list_of y o before d.level) d) level g ≡ open_list_of y o (d ∷ before) level
unfolding open_lists_behind
at_level y o before d open_ are within f level g below =
    let two = two_behind open_ d.level (with_name (open_list_of y o before d.level) d) (inner_list y (open_list_of y o before d.level) d) level g within below in
    ⊎_elim
    (λ low.
    let lower : level < d.level = grind (arith, nat_tests) in
    two.0 lower ∙ are.lists level g (omega arith) ∙ list_lower y o before d level lower)
    (λ not_low. ⊎_elim
    (λ same.
    let here : level ≡ d.level = grind (arith, nat_tests) in
    two.1.0 here ∙ list_here y o before d ∙ ap (λ (k : ℕ). open_list_of y o (d ∷ before) k) (sym here))
    (λ other.
    let most = two.1.1.1 in
    let next : level ≡ d.level + 1 = grind (arith, nat_tests) in
    two.1.1.0 next ∙ list_inside y o before d ∙ ap (λ (k : ℕ). open_list_of y o (d ∷ before) k) (sym next))
    (cases_Bool (nat_eq level d.level)))
    (cases_Bool (nat_lt level d.level))

pub open_behind : (y : Types) (o : Outside) (before : List Declaration) (d : Declaration) (open_ now : List OpenList) → AreOpen y o before open_ → d.level < length open_ →
    ((f : OpenList) → now ≡ open_lists_behind y open_ (get_or open_ d.level f) d) → (f : OpenList) → AreOpen y o (d ∷ before) now
open_behind y o before d open_ now are within is_now f =
    let is : now ≡ open_lists_behind y open_ (open_list_of y o before d.level) d =
    is_now f ∙ ap (λ (g : OpenList). open_lists_behind y open_ g d) (are.lists d.level f within) in
    subst (λ (l : List OpenList). AreOpen y o (d ∷ before) l) (sym is) (record { lists = λ level g below. at_level y o before d open_ are within f level g below })

pub open_length : (y : Types) (open_ now : List OpenList) (d : Declaration) (f : OpenList) → d.level < length open_ → now ≡ open_lists_behind y open_ f d → length now ≡ d.level + 2
unfolding open_lists_behind
open_length y open_ now d f within is_now =
    ap length is_now ∙ length-append (take d.level open_) (with_name f d ∷ inner_list y f d ∷ []) ∙ ap (λ (k : ℕ). k + 2) (length-take-le d.level open_ (omega arith))

pub facts_here : (y : Types) (o : Outside) (before : List Declaration) (d : Declaration) (open_ : List OpenList) (v : DeclarationFacts) → AreOpen y o before open_ → d.level < length open_ →
    ((f : OpenList) → v ≡ facts_by_list y (get_or open_ d.level f) d) → (f : OpenList) → v ≡ facts_of_declaration y o before d
facts_here y o before d open_ v are within is_v f =
    is_v f ∙ ap (λ (g : OpenList). facts_by_list y g d) (are.lists d.level f within) ∙ facts_same y o before d

empty_list : OpenList
empty_list = record { names = []; depth = 0; sound = true }

pub fits_open : (ds : List Declaration) (i : ℕ) (d : Declaration) (open_ : List OpenList) → i < length ds → d ≡ get_or ds i d →
    (deepest : ℕ) × (IsOutline deepest (drop i ds) × (deepest < length open_)) → d.level < length open_
fits_open ds i d open_ within is_d (deepest, (outline, room)) =
    let split : drop i ds ≡ d ∷ drop (i + 1) ds = drop_more ds i d within ∙ ap (λ (x : Declaration). x ∷ drop (i + 1) ds) (sym is_d) in
    let here : d.level ≤ deepest = (subst (λ (l : List Declaration). IsOutline deepest l) split outline).0 in
    omega arith

one_deeper : (level : ℕ) (d : Declaration) → level_behind level d.of.of ≤ level + 1
one_deeper level d = inside_type d.of.of
  where
    inside_type : (of : ElementType) → level_behind level of ≤ level + 1
    inside_type (Plain kind) = omega arith
    inside_type Structure = omega arith
    inside_type (Udt name) = omega arith
    inside_type DateAndTime = omega arith

pub outline_next : (y : Types) (ds : List Declaration) (i : ℕ) (d : Declaration) (open_ now : List OpenList) → i < length ds → d ≡ get_or ds i d →
    (deepest : ℕ) × (IsOutline deepest (drop i ds) × (deepest < length open_)) → ((f : OpenList) → now ≡ open_lists_behind y open_ (get_or open_ d.level f) d) →
    (deepest : ℕ) × (IsOutline deepest (drop (i + 1) ds) × (deepest < length now))
outline_next y ds i d open_ now within is_d (deepest, (outline, room)) is_now =
    let split : drop i ds ≡ d ∷ drop (i + 1) ds = drop_more ds i d within ∙ ap (λ (x : Declaration). x ∷ drop (i + 1) ds) (sym is_d) in
    let rest = (subst (λ (l : List Declaration). IsOutline deepest l) split outline).1 in
    let there : d.level < length open_ = fits_open ds i d open_ within is_d (deepest, (outline, room)) in
    let long = open_length y open_ now d (get_or open_ d.level empty_list) there (is_now empty_list) in
    let most = one_deeper d.level d in
    (level_behind d.level d.of.of, (rest, omega arith))

pub facts_next : (y : Types) (o : Outside) (ds : List Declaration) (i : ℕ) (d : Declaration) (open_ opened : List OpenList) (vs ws whole : List DeclarationFacts) (v : DeclarationFacts) (end : List Declaration) →
    i < length ds → d ≡ get_or ds i d → d.level < length open_ → ((f : OpenList) → opened ≡ open_lists_behind y open_ (get_or open_ d.level f) d) →
    ((f : OpenList) → v ≡ facts_by_list y (get_or open_ d.level f) d) → ws ≡ vs ++ v ∷ [] →
    (now : List Declaration) × (AreOpen y o now open_ × (declarations_before_next now (drop i ds) ≡ end) × (vs ++ facts_of_declarations y o now (drop i ds) ≡ whole)) →
    (now : List Declaration) × (AreOpen y o now opened × (declarations_before_next now (drop (i + 1) ds) ≡ end) × (ws ++ facts_of_declarations y o now (drop (i + 1) ds) ≡ whole))
facts_next y o ds i d open_ opened vs ws whole v end within is_d there is_opened is_v are_ws (now, (are, to_end, so_far)) =
    let split : drop i ds ≡ d ∷ drop (i + 1) ds = drop_more ds i d within ∙ ap (λ (x : Declaration). x ∷ drop (i + 1) ds) (sym is_d) in
    let is : v ≡ facts_of_declaration y o now d = facts_here y o now d open_ v are there is_v empty_list in (
      d ∷ now,
      (
        open_behind y o now d open_ opened are there is_opened empty_list,
        sym (ap (λ (l : List Declaration). declarations_before_next now l) split) ∙ to_end,
        (ap (λ (l : List DeclarationFacts). l ++ facts_of_declarations y o (d ∷ now) (drop (i + 1) ds)) (are_ws ∙ ap (λ (x : DeclarationFacts). vs ++ x ∷ []) is)
            ∙ append_assoc vs (facts_of_declaration y o now d ∷ []) (facts_of_declarations y o (d ∷ now) (drop (i + 1) ds))
            ∙ ap (λ (l : List Declaration). vs ++ facts_of_declarations y o now l) (sym split) ∙ so_far),
      ),
    )

pub facts_done : (y : Types) (o : Outside) (before ds : List Declaration) (i : ℕ) (open_ : List OpenList) (vs : List DeclarationFacts) → length ds ≤ i →
    (now : List Declaration) × (AreOpen y o now open_ × (declarations_before_next now (drop i ds) ≡ declarations_before_next before ds) × (vs ++ facts_of_declarations y o now (drop i ds) ≡ facts_of_declarations y o before ds)) →
    AreFactsOnto y o before ds vs open_
facts_done y o before ds i open_ vs over (now, (are, to_end, so_far)) =
    let none : drop i ds ≡ [] = drop_of_length-le ds over in
    record {
      facts = sym (append-nil vs) ∙ ap (λ (l : List Declaration). vs ++ facts_of_declarations y o now l) (sym none) ∙ so_far;
      lists = subst (λ (l : List Declaration). AreOpen y o l open_) (ap (λ (l : List Declaration). declarations_before_next now l) (sym none) ∙ to_end) are;
    }
