-- The labels of a listed body: none twice.
use Rattle.std.proofs.Common.{◌≡◌, ℕ, suc, ◌+◌, ◌<◌, ◌≤◌, Bool, true, false, List, [], ◌∷◌, ◌++◌, length, Option, Some, None, is_some, slice_get, refl, ap, ◌∙◌, arith}
use Rattle.std.specs.Prelude.{bytes_eq, unwrap_or, ◌==◌, if◌then◌else◌}
use Rattle.std.specs.List.{AllByRecursion}
use Rattle.plc_base.proofs.ListLemmas.{all_append}
use Rattle.plc_base.specs.Least.{broken_if}
use Rattle.stl_ast.specs.declared.statements.Statement.{Statement}
use Rattle.stl_symbols.specs.Names.{name_place}
use Rattle.stl_types.specs.Labels.{is_repeated_label, label_of as label_in, labels_twice}
use Rattle.stl_list.specs.Labels.{label_of_number}
use Rattle.stl_list.specs.Lines.{line_of_statement}
use Rattle.stl_list.specs.Runs.{StatementOps, runs}
use Rattle.stl_list.specs.Statements.{ListingContext, body_of, label_at, label_of_end, listed_statement, statement_at, statements_from, listing_context}
use Rattle.listing_laws.specs.Jumps.{AreLabelsOnce}
use Rattle.listing_laws.proofs.LabelLemmas.{other_label}

-- ---- none twice

-- labels of statements before this one
abbrev pub Others : ℕ → List (List ℕ) → Type 0
Others k before = AllByRecursion (λ l. (n : ℕ) → k ≤ n → n < 93312 → bytes_eq (label_of_number n) l ≡ false) before

pub others_later : (k : ℕ) (before : List (List ℕ)) → Others k before → Others (suc k) before
others_later k [] h = tt
others_later k (l ∷ before) h = ((λ n low few. h.0 n (omega (arith, low)) few), others_later k before h.1)

other_one : (k n : ℕ) → suc k ≤ n → n < 93312 → bytes_eq (label_of_number n) (label_of_number k) ≡ false
other_one k n low few = other_label n k few (omega (arith, low, few)) (λ e. omega (arith, e, low))

pub others_more : (k : ℕ) (before : List (List ℕ)) → Others k before → Others (suc k) (before ++ label_of_number k ∷ [])
others_more k before h = all_append (λ l. (n : ℕ) → suc k ≤ n → n < 93312 → bytes_eq (label_of_number n) l ≡ false) before (label_of_number k ∷ []) (others_later k before h) (other_one k, tt)

no_place : (k : ℕ) (before : List (List ℕ)) → k < 93312 → Others k before → name_place (label_of_number k) before ≡ None
no_place k [] few h = refl
no_place k (l ∷ before) few h = rw (h.0 k (omega arith) few, no_place k before few h.1) refl

abbrev NoneTwice : List (List ℕ) → List Statement → Type 0
NoneTwice before body = labels_twice before body ≡ []

-- one more statement, with its label or none
one_twice : (k : ℕ) (before : List (List ℕ)) (line : ℕ) (b : Bool) (rest : List Statement) → k < 93312 → Others k before
    → ((next : List (List ℕ)) → Others (suc k) next → NoneTwice next rest)
    → broken_if (is_repeated_label before (if b then Some (label_of_number k) else None)) line 27 ++ labels_twice (before ++ label_in (if b then Some (label_of_number k) else None)) rest ≡ []
one_twice k before line true rest few h more =
    ap (λ (o : Option ℕ). broken_if (is_some o) line 27 ++ labels_twice (before ++ label_of_number k ∷ []) rest) (no_place k before few h) ∙ more (before ++ label_of_number k ∷ []) (others_more k before h)
one_twice k before line false rest few h more = more (before ++ []) (all_append (λ l. (n : ℕ) → suc k ≤ n → n < 93312 → bytes_eq (label_of_number n) l ≡ false) before [] (others_later k before h) tt)

end_twice : (k : ℕ) (before : List (List ℕ)) (line : ℕ) (b : Bool) (rest : List Statement) → k < 93312 → Others k before
    → ((next : List (List ℕ)) → Others (suc k) next → NoneTwice next rest)
    → NoneTwice before (label_of_end line (if b then Some (label_of_number k) else None) ++ rest)
end_twice k before line true rest few h more = one_twice k before line true rest few h more
end_twice k before line false rest few h more = more before (others_later k before h)

at_twice : (sur : ListingContext) (k : ℕ) (before : List (List ℕ)) (r : StatementOps) (rest : List Statement) → k < 93312 → Others k before
    → ((next : List (List ℕ)) → Others (suc k) next → NoneTwice next rest) → NoneTwice before (statement_at sur k r ++ rest)
unfolding statement_at
at_twice sur k before r rest few h more = by (suc k == length sur.lines)
  where
    by : (b : Bool) → NoneTwice before ((if b then label_of_end (line_of_statement sur.lines k) (label_at sur.targets k) else listed_statement sur k r ∷ []) ++ rest)
    by true = end_twice k before (line_of_statement sur.lines k) (unwrap_or (slice_get sur.targets k) false) rest few h more
    by false = one_twice k before (line_of_statement sur.lines k) (unwrap_or (slice_get sur.targets k) false) rest few h more

from_twice : (sur : ListingContext) (k : ℕ) (before : List (List ℕ)) (rs : List StatementOps) → k + length rs ≤ 93312 → Others k before → NoneTwice before (statements_from sur k rs)
from_twice sur k before [] few h = refl
from_twice sur k before (r ∷ rs) few h =
    at_twice sur k before r (statements_from sur (suc k) rs) (omega (arith, few)) h (λ next others. from_twice sur (suc k) next rs (omega (arith, few)) others)

pub labels_once : AreLabelsOnce
unfolding body_of
labels_once signatures lines b few = from_twice (listing_context signatures lines b) 0 [] (runs b.code) (omega (arith, few)) tt
