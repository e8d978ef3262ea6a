-- The number of the first statement of a label, by the labels and the numbers of their statements.
use Rattle.std.proofs.Common.{◌≡◌, ℕ, suc, ◌+◌, Bool, true, false, cond, List, [], ◌∷◌, ◌++◌, Option, Some, None, option_map, refl, sym, ap, ◌∙◌, arith}
use Rattle.std.specs.List.{slice_get}
use Rattle.std.specs.Str.{bytes_eq}
use Rattle.stl_ast.specs.declared.statements.Statement.{Statement}
use Rattle.stl_symbols.specs.Names.{name_place}
use Rattle.stl_types.specs.Labels.{label_of, labels_of}
use Rattle.stl_types.specs.Lists.{has_label}
use Rattle.block_layout.specs.Fits.{number_or_zero}
use Rattle.stl_codegen.specs.Bodies.{AreTargets, count_of_statements, number_here, numbers_of_labels}
use Rattle.stl_codegen.specs.Instruction.{count_of_statement, target_in}

-- the number at a place; with no place, how many there are
abbrev pub target_by : (numbers : List ℕ) (count : ℕ) → Option ℕ → ℕ
target_by numbers count None = count
target_by numbers count (Some place) = number_or_zero (slice_get numbers place)

target_behind : (n count : ℕ) (numbers : List ℕ) (place : Option ℕ) → target_by (n ∷ numbers) count (option_map (λ k. suc k) place) ≡ target_by numbers count place
target_behind n count numbers None = refl
target_behind n count numbers (Some place) = refl

target_here : (n here behind : ℕ) (numbers : List ℕ) (count : ℕ) (place : Option ℕ) (same : Bool) → n + (here + behind) ≡ target_by numbers count place →
    n + cond same 0 (here + behind) ≡ target_by (n ∷ numbers) count (cond same (Some 0) (option_map (λ k. suc k) place))
target_here n here behind numbers count place true h = omega arith
target_here n here behind numbers count place false h = h ∙ sym (target_behind n count numbers place)

target_by_name : (name : List ℕ) (n : ℕ) (body : List Statement) → n + target_in name body ≡ target_by (numbers_of_labels n body) (n + count_of_statements body) (name_place name (labels_of body))
unfolding target_in
target_by_name name n [] = refl
target_by_name name n (s ∷ ss) =
    let first : n + (count_of_statement s + target_in name ss) ≡ (n + count_of_statement s) + target_in name ss = omega arith in
    let last : (n + count_of_statement s) + count_of_statements ss ≡ n + (count_of_statement s + count_of_statements ss) = omega arith in
    step s.label (first ∙ target_by_name name (n + count_of_statement s) ss ∙ ap (λ (k : ℕ). target_by (numbers_of_labels (n + count_of_statement s) ss) k (name_place name (labels_of ss))) last)
  where
    step : (label : Option (List ℕ)) →
        n + (count_of_statement s + target_in name ss) ≡ target_by (numbers_of_labels (n + count_of_statement s) ss) (n + (count_of_statement s + count_of_statements ss)) (name_place name (labels_of ss)) →
        n + cond (has_label name label) 0 (count_of_statement s + target_in name ss) ≡ target_by (number_here n label ++ numbers_of_labels (n + count_of_statement s) ss) (n + (count_of_statement s + count_of_statements ss)) (name_place name (label_of label ++ labels_of ss))
    step None h = h
    step (Some label) h = target_here n (count_of_statement s) (target_in name ss) (numbers_of_labels (n + count_of_statement s) ss) (n + (count_of_statement s + count_of_statements ss)) (name_place name (labels_of ss)) (bytes_eq name label) h

pub target_placed : (name : List ℕ) (body : List Statement) (labels : List (List ℕ)) (numbers : List ℕ) (count : ℕ) → AreTargets body labels numbers count →
    target_in name body ≡ target_by numbers count (name_place name labels)
target_placed name body labels numbers count are =
    let first : target_in name body ≡ 0 + target_in name body = omega arith in
    let last : 0 + count_of_statements body ≡ count = omega (arith, are.count) in
    first
    ∙ target_by_name name 0 body
    ∙ ap (λ (k : ℕ). target_by (numbers_of_labels 0 body) k (name_place name (labels_of body))) last
    ∙ ap (λ (l : List ℕ). target_by l count (name_place name (labels_of body))) (sym are.numbers)
    ∙ ap (λ (l : List (List ℕ)). target_by numbers count (name_place name l)) (sym are.labels)
