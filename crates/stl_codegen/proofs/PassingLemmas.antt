-- What a CALL passes, one parameter after the other.
use Rattle.std.proofs.Common.{◌≡◌, ℕ, suc, ◌+◌, ◌<◌, ◌≤◌, Bool, true, false, List, [], ◌∷◌, ◌++◌, length, drop, get_or, refl, sym, ap, ◌∙◌, add-one}
use Rattle.std.proofs.Math.ListN.{drop_of_length-le}
use Rattle.std.proofs.lemmas.List.{drop_more}
use Rattle.std.proofs.lemmas.Map.Text.{is_eq-slice_cmp}
use Rattle.std.proofs.lemmas.Slice.Eq.{bytes_eq-Decides}
use Rattle.std.specs.Bool.{Decides}
use Rattle.std.specs.Cmp.Lexicographic.{slice_cmp}
use Rattle.std.specs.Ordering.{is_eq, nat_cmp}
use Rattle.std.specs.Str.{bytes_eq}
use Rattle.flat_code.specs.Instr.{Passing}
use Rattle.flat_code.specs.Ops.{OpData}
use Rattle.flat_code.specs.declared.operands.Operand.TheVariants as operand
use Rattle.flat_code.specs.declared.operations.Operation.TheVariants as operation
use Rattle.stl_ast.specs.declared.statements.Actual.{Actual}
use Rattle.plc_base.specs.Folding.{upper_case_name}
use Rattle.stl_types.specs.Context.{Context}
use Rattle.stl_types.specs.declared.parameters.Formal.{Formal}
use Rattle.stl_codegen.specs.EmittedOps.{pass_ops, preparing_op}
use Rattle.stl_codegen.specs.PassedParameters.{passed_actual, passings_from, actual_of_formal}

passing_both : (xs ys : List Passing) → pass_ops (xs ++ ys) ≡ pass_ops xs ++ pass_ops ys
passing_both [] ys = refl
passing_both (x ∷ xs) ys = ap (λ (l : List OpData). preparing_op operation.Pass (operand.Pass x.index x.actual) ∷ l) (passing_both xs ys)

pub passings_turn : (c : Context) (actuals : List Actual) (formals : List Formal) (i : ℕ) (f : Formal) → i < length formals → f ≡ get_or formals i f →
    pass_ops (passings_from c actuals i (drop i formals)) ≡ pass_ops (passed_actual c i (actual_of_formal actuals f)) ++ pass_ops (passings_from c actuals (i + 1) (drop (i + 1) formals))
passings_turn c actuals formals i f within is =
    let rest : List Formal = drop (i + 1) formals in
    ap (λ (l : List Formal). pass_ops (passings_from c actuals i l)) (drop_more formals i f within ∙ ap (λ (y : Formal). y ∷ rest) (sym is))
    ∙ passing_both (passed_actual c i (actual_of_formal actuals f)) (passings_from c actuals (suc i) rest)
    ∙ ap (λ (k : ℕ). pass_ops (passed_actual c i (actual_of_formal actuals f)) ++ pass_ops (passings_from c actuals k rest)) (sym (add-one i))

pub passings_end : (c : Context) (actuals : List Actual) (formals : List Formal) (i : ℕ) → length formals ≤ i → pass_ops (passings_from c actuals i (drop i formals)) ≡ []
passings_end c actuals formals i over = ap (λ (l : List Formal). pass_ops (passings_from c actuals i l)) (drop_of_length-le formals over)

-- two names in either order
bytes_eq_swapped : (xs ys : List ℕ) → bytes_eq xs ys ≡ bytes_eq ys xs
bytes_eq_swapped xs ys = by (bytes_eq xs ys) (bytes_eq ys xs) (bytes_eq-Decides xs ys) (bytes_eq-Decides ys xs)
  where
    by : (a b : Bool) → Decides a (xs ≡ ys) → Decides b (ys ≡ xs) → a ≡ b
    by true true h k = refl
    by true false h k = let e : false ≡ true = k.1 (sym (h.0 refl)) in absurd cc
    by false true h k = let e : false ≡ true = h.1 (sym (k.0 refl)) in absurd cc
    by false false h k = refl

pub same_by_order : (name upper : List ℕ) → is_eq (slice_cmp nat_cmp upper (upper_case_name name)) ≡ bytes_eq (upper_case_name name) upper
same_by_order name upper = is_eq-slice_cmp upper (upper_case_name name) ∙ bytes_eq_swapped upper (upper_case_name name)
