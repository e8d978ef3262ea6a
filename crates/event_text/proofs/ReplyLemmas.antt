-- Replies, as they are written.
use Rattle.std.proofs.Common.{◌≡◌, ◌≤◌, ℕ, List, [], ◌∷◌, ◌++◌, length, drop, refl, ap, ◌∙◌, append-nil}
use Rattle.std.proofs.lemmas.List.{at_drop_all}
use Rattle.var_access.specs.declared.requests.Var.{Var}
use Rattle.event_text.specs.Replies.{values_text}

no-values : (vars : List Var) → values_text vars [] ≡ []
no-values [] = refl
no-values (v ∷ vs) = refl

-- no value is left
pub no_values_left : (vars : List Var) (values : List ℕ) (i : ℕ) (out : List ℕ) → length values ≤ i → out ++ values_text vars (drop i values) ≡ out
no_values_left vars values i out end =
    ap (λ t. out ++ t) (at_drop_all (values_text vars) values i end ∙ no-values vars) ∙ append-nil out
