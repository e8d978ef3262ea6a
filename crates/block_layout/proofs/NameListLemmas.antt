-- The components that are kept of each cell, made one cell after the other.
use Rattle.std.proofs.Common.{ℕ, zero, suc, ◌≡◌, ◌<◌, ◌≤◌, ◌+◌, List, [], ◌∷◌, ◌++◌, true, refl, sym, ◌∙◌, ap, subst, arith, length, drop, get_or, nat_lt, ⊎_elim}
use Rattle.std.proofs.Math.ListN.{get_or-append}
use Rattle.std.proofs.Math.Seq.{get_or-append_seam}
use Rattle.std.proofs.lemmas.Bool.{cases_Bool}
use Rattle.std.proofs.lemmas.Bool.Decides.{nat_tests}
use Rattle.block_layout.specs.declared.cells.Cell.{Cell}
use Rattle.block_layout.specs.declared.members.NameList.{NameList}
use Rattle.block_layout.specs.Sizes.{elements_of}
use Rattle.block_layout.specs.NameLists.{IsNameList}

drop_elements : (k : ℕ) (cells : List Cell) → drop k (elements_of cells) ≡ elements_of (drop k cells)
drop_elements zero cells = refl
drop_elements (suc k) [] = refl
drop_elements (suc k) (c ∷ cs) = drop_elements k cs

pub behind_elements : (cells behind : List Cell) (elements rest : List ℕ) (k : ℕ) → elements ≡ elements_of cells → rest ≡ drop k elements → behind ≡ drop k cells → rest ≡ elements_of behind
behind_elements cells behind elements rest k are is_rest is_behind =
    is_rest ∙ ap (λ (l : List ℕ). drop k l) are ∙ drop_elements k cells ∙ ap (λ (l : List Cell). elements_of l) (sym is_behind)

-- the name lists of the first n cells
abbrev pub FirstNameLists : List Cell → List NameList → ℕ → Type 0
FirstNameLists cells name_lists n = (k : ℕ) (c : Cell) (s : NameList) → k < n → (get_or cells k c).sound ≡ true → IsNameList (get_or cells k c) (drop (k + 1) cells) (get_or name_lists k s)

any_default : (xs : List Cell) (i : ℕ) (d e : Cell) → i < length xs → get_or xs i d ≡ get_or xs i e
any_default [] i d e within = absurd (let never : ⊥ = omega arith in never)
any_default (x ∷ xs) zero d e within = refl
any_default (x ∷ xs) (suc i) d e within = let w : i < length xs = omega arith in any_default xs i d e w

pub name_lists_next : (cells behind : List Cell) (name_lists now : List NameList) (i : ℕ) (c : Cell) (one : NameList) → FirstNameLists cells name_lists i → length name_lists ≡ i → c ≡ get_or cells i c → i < length cells →
    behind ≡ drop (i + 1) cells → (c.sound ≡ true → IsNameList c behind one) → now ≡ name_lists ++ one ∷ [] → FirstNameLists cells now (i + 1)
name_lists_next cells behind name_lists now i c one first long is_c within is_behind is_one is_now k d s below sound =
    ⊎_elim
    (λ earlier.
    let near : k < i = grind (arith, nat_tests) in
    let inside : k < length name_lists = omega arith in
    let old : get_or now k s ≡ get_or name_lists k s = ap (λ (l : List NameList). get_or l k s) is_now ∙ get_or-append name_lists (one ∷ []) s k inside in
    subst (λ (t : NameList). IsNameList (get_or cells k d) (drop (k + 1) cells) t) (sym old) (first k d s near sound))
    (λ later.
    let far : i ≤ k = grind (arith, nat_tests) in
    let same : i ≡ k = omega arith in
    let is_cell : c ≡ get_or cells i d = is_c ∙ any_default cells i c d within in
    let is_name_list : one ≡ get_or now i s =
    sym (ap (λ (l : List NameList). get_or l i s) is_now ∙ ap (λ (n : ℕ). get_or (name_lists ++ one ∷ []) n s) (sym long) ∙ get_or-append_seam name_lists one [] s) in
    let sound_here : (get_or cells i d).sound ≡ true = subst (λ (n : ℕ). (get_or cells n d).sound ≡ true) (sym same) sound in
    let name_list : IsNameList c behind one = is_one (subst (λ (x : Cell). x.sound ≡ true) (sym is_cell) sound_here) in
    let at_cell : IsNameList (get_or cells i d) behind one = subst (λ (x : Cell). IsNameList x behind one) is_cell name_list in
    let at_behind : IsNameList (get_or cells i d) (drop (i + 1) cells) one = subst (λ (l : List Cell). IsNameList (get_or cells i d) l one) is_behind at_cell in
    let at_name_list : IsNameList (get_or cells i d) (drop (i + 1) cells) (get_or now i s) = subst (λ (t : NameList). IsNameList (get_or cells i d) (drop (i + 1) cells) t) is_name_list at_behind in
    subst (λ (n : ℕ). IsNameList (get_or cells n d) (drop (n + 1) cells) (get_or now n s)) same at_name_list)
    (cases_Bool (nat_lt k i))
