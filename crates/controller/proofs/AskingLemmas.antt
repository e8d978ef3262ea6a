-- The values of a read, one after another.
use Rattle.std.proofs.Common.{◌≡◌, ℕ, ◌+◌, List, [], ◌∷◌, ◌++◌, Option, Some, None, Result, Ok, Err, append_assoc, refl, sym, ap, ◌∙◌}
use Rattle.std.proofs.lemmas.List.{append-nil}
use Rattle.plc_mem.specs.Areas.{Areas}
use Rattle.var_access.specs.declared.Var.{Var}
use Rattle.controller.specs.Asking.{var_value, value_before, values_from}

-- values that were read before others
abbrev pub values_behind : List ℕ → Result (List ℕ) ℕ → Result (List ℕ) ℕ
values_behind front (Ok values) = Ok (front ++ values)
values_behind front (Err index) = Err index

pub no_value_yet : (read : Result (List ℕ) ℕ) → read ≡ values_behind [] read
no_value_yet (Ok values) = refl
no_value_yet (Err index) = refl

behind_more : (front : List ℕ) (value index : ℕ) (read : Result (List ℕ) ℕ)
    → values_behind front (value_before (Some value) index read)
    ≡ values_behind (front ++ value ∷ []) read
behind_more front value index (Ok values) = ap (λ (v : List ℕ). Ok v) (sym (append_assoc front (value ∷ []) values))
behind_more front value index (Err absent) = refl

pub one_more_value : (m : Areas) (front : List ℕ) (index value : ℕ) (var : Var) (rest : List Var)
    (all : Result (List ℕ) ℕ) → all ≡ values_behind front (values_from m index (var ∷ rest))
    → var_value m var ≡ Some value
    → all ≡ values_behind (front ++ value ∷ []) (values_from m (index + 1) rest)
one_more_value m front index value var rest all are is =
    are
    ∙ ap (λ (o : Option ℕ). values_behind front (value_before o index (values_from m (index + 1) rest))) is
    ∙ behind_more front value index (values_from m (index + 1) rest)

pub one_absent : (m : Areas) (front : List ℕ) (index : ℕ) (var : Var) (rest : List Var)
    (all : Result (List ℕ) ℕ) → all ≡ values_behind front (values_from m index (var ∷ rest))
    → var_value m var ≡ None → all ≡ Err index
one_absent m front index var rest all are none =
    are
    ∙ ap (λ (o : Option ℕ). values_behind front (value_before o index (values_from m (index + 1) rest))) none

pub all_values : (m : Areas) (front : List ℕ) (index : ℕ) (all : Result (List ℕ) ℕ)
    → all ≡ values_behind front (values_from m index []) → all ≡ Ok front
all_values m front index all are = are ∙ ap (λ (v : List ℕ). Ok v) (append-nil front)
