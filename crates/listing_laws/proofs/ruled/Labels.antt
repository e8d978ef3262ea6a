-- The labels of a listing differ.
use Rattle.std.proofs.Common.{◌≡◌, ℕ, suc, ◌+◌, ◌<◌, ◌≤◌, Bool, true, false, List, [], ◌∷◌, ◌++◌, append-nil, length, map, Option, Some, None, if◌then◌else◌, is_some, refl, sym, ap, ◌∙◌, arith}
use Rattle.std.specs.Prelude.{bytes_eq, option_map, slice_get, ◌==◌}
use Rattle.std.specs.List.{AllByRecursion}
use Rattle.std.specs.Option.{unwrap_or}
use Rattle.std.proofs.lemmas.Bool.{false_from_ne_true}
use Rattle.std.proofs.lemmas.Slice.Eq.{bytes_eq-Decides}
use Rattle.plc_base.proofs.ListLemmas.{all_append}
use Rattle.plc_base.specs.Least.{broken_if}
use Rattle.plc_base.specs.declared.refusals.Refusal.{Refusal}
use Rattle.stl_ast.specs.declared.statements.Statement.{Statement}
use Rattle.stl_symbols.specs.Names.{name_place}
use Rattle.stl_types.specs.Labels.{is_repeated_label, label_of as label_list, labels_twice}
use Rattle.stl_codegen.specs.CompiledBlock.{compiled_block}
use Rattle.stl_list.specs.Labels.{label_of_number}
use Rattle.stl_list.specs.Lines.{line_of_statement}
use Rattle.stl_list.specs.Runs.{StatementOps}
use Rattle.stl_list.specs.Statements.{ListingContext, body_of, label_alone, label_at, label_of_end, listed_statement, statement_at, statements_from, listing_context}
use Rattle.listing_laws.specs.LabelRules.{AreStatementLabelsOnce}
use Rattle.listing_laws.specs.Statements.{statement_offset, run_of}
use Rattle.listing_laws.proofs.LabelLemmas.{labels_apart}
use Rattle.listing_laws.proofs.RunLemmas.{runs_found}

-- the label of a statement before a number
record IsBefore (k : ℕ) (name : List ℕ) : Type 0 where
  number : ℕ
  before : number < k
  is : name ≡ label_of_number number

abbrev AreBefore : ℕ → List (List ℕ) → Type 0
AreBefore k names = AllByRecursion (IsBefore k) names

still_before : (k : ℕ) (names : List (List ℕ)) → AreBefore k names → AreBefore (suc k) names
still_before k [] h = tt
still_before k (n ∷ ns) h = (record { number = h.0.number; before = let b = h.0.before in omega (arith, b); is = h.0.is }, still_before k ns h.1)

other_name : (k : ℕ) (name : List ℕ) → k < 93312 → IsBefore k name → bytes_eq (label_of_number k) name ≡ false
other_name k name h b =
    false_from_ne_true (bytes_eq (label_of_number k) name) (λ y. absurd (
    let same : k ≡ b.number = labels_apart k b.number h (let p = b.before in omega (arith, p, h)) ((bytes_eq-Decides (label_of_number k) name).0 y ∙ b.is) in
    let p = b.before in
    omega (arith, same, p)
    ))

new_name : (k : ℕ) (names : List (List ℕ)) → k < 93312 → AreBefore k names → is_some (name_place (label_of_number k) names) ≡ false
new_name k [] h b = refl
new_name k (n ∷ ns) h b =
    ap (λ (t : Bool). is_some (if t then Some 0 else option_map (λ j. suc j) (name_place (label_of_number k) ns))) (other_name k n h b.0) ∙ moved (name_place (label_of_number k) ns) (new_name k ns h b.1)
  where
    moved : (o : Option ℕ) → is_some o ≡ false → is_some (option_map (λ (j : ℕ). suc j) o) ≡ false
    moved None e = refl
    moved (Some j) e = absurd cc

-- a label of a number isn't among those before
not_twice : (targets : List Bool) (k : ℕ) (names : List (List ℕ)) → k < 93312 → AreBefore k names → is_repeated_label names (label_at targets k) ≡ false
not_twice targets k names h b = by (unwrap_or (slice_get targets k) false)
  where
    by : (t : Bool) → is_repeated_label names (if t then Some (label_of_number k) else None) ≡ false
    by true = new_name k names h b
    by false = refl

and_here : (targets : List Bool) (k : ℕ) (names : List (List ℕ)) → AreBefore k names → AreBefore (suc k) (names ++ label_list (label_at targets k))
and_here targets k names b = all_append (IsBefore (suc k)) names (label_list (label_at targets k)) (still_before k names b) (by (unwrap_or (slice_get targets k) false))
  where
    by : (t : Bool) → AreBefore (suc k) (label_list (if t then Some (label_of_number k) else None))
    by true = (record { number = k; before = omega arith; is = refl }, tt)
    by false = tt

-- a statement with a label that is none of those before
abbrev walk : List (List ℕ) → List Statement → List Refusal
walk names body = labels_twice names body

one_more : (names : List (List ℕ)) (s : Statement) (label : Option (List ℕ)) (rest : List Statement) → s.label ≡ label → is_repeated_label names label ≡ false → walk names (s ∷ rest) ≡ walk (names ++ label_list label) rest
one_more names s label rest e h =
    ap (λ (t : Bool). broken_if t s.line 27 ++ walk (names ++ label_list s.label) rest) (ap (is_repeated_label names) e ∙ h)
    ∙ ap (λ (l : Option (List ℕ)). walk (names ++ label_list l) rest) e

last_more : (names : List (List ℕ)) (line : ℕ) (label : Option (List ℕ)) (rest : List Statement) → is_repeated_label names label ≡ false → walk names (label_of_end line label ++ rest) ≡ walk (names ++ label_list label) rest
last_more names line None rest h = ap (λ (ns : List (List ℕ)). walk ns rest) (sym (append-nil names))
last_more names line (Some label) rest h = one_more names (label_alone line label) (Some label) rest refl h

statement_more : (sur : ListingContext) (k : ℕ) (r : StatementOps) (names : List (List ℕ)) (rest : List Statement) → is_repeated_label names (label_at sur.targets k) ≡ false
    → walk names (statement_at sur k r ++ rest) ≡ walk (names ++ label_list (label_at sur.targets k)) rest
unfolding statement_at
statement_more sur k r names rest h = by (suc k == length sur.lines)
  where
    by : (b : Bool) → walk names ((if b then label_of_end (line_of_statement sur.lines k) (label_at sur.targets k) else listed_statement sur k r ∷ []) ++ rest) ≡ walk (names ++ label_list (label_at sur.targets k)) rest
    by true = last_more names (line_of_statement sur.lines k) (label_at sur.targets k) rest h
    by false = one_more names (listed_statement sur k r) (label_at sur.targets k) rest refl h

once_from : (sur : ListingContext) (k : ℕ) (rs : List StatementOps) (names : List (List ℕ)) → k + length rs ≤ 93312 → AreBefore k names → walk names (statements_from sur k rs) ≡ []
once_from sur k [] names few b = refl
once_from sur k (r ∷ rs) names few b =
    statement_more sur k r names (statements_from sur (suc k) rs) (not_twice sur.targets k names (omega (arith, few)) b)
    ∙ once_from sur (suc k) rs (names ++ label_list (label_at sur.targets k)) (omega (arith, few)) (and_here sur.targets k names b)

map_length : {A B : Type 0} (f : A → B) (xs : List A) → length (map f xs) ≡ length xs
map_length f [] = refl
map_length f (x ∷ xs) = ap suc (map_length f xs)

pub labels_once : AreStatementLabelsOnce
unfolding body_of
labels_once signatures lines b few =
    let size = map_length (λ s. run_of (statement_offset b.statements) s.instr) b.statements in
    ap (λ (rs : List StatementOps). walk [] (statements_from (listing_context signatures lines (compiled_block b)) 0 rs)) (runs_found b.statements)
    ∙ once_from (listing_context signatures lines (compiled_block b)) 0 (map (λ s. run_of (statement_offset b.statements) s.instr) b.statements) [] (omega (arith, few, size)) tt
