-- The refusals of a walk over a list, on which what is known so far is carried along.
use Rattle.std.specs.Prelude.{Bool, List, [], ◌∷◌, ◌++◌, if◌then◌else◌}
use Rattle.plc_base.specs.declared.refusals.Refusal.{Refusal}

-- `broken` of each element with what is `known` before it; the walk ends before the first element
-- that stops it
abbrev pub refusals_along : {S X : Type 0} → (stops : X → Bool) → (broken : S → X → List Refusal)
    → (known : S → X → S) → S → List X → List Refusal
refusals_along stops broken known s [] = []
refusals_along stops broken known s (x ∷ xs) =
    if stops x then [] else broken s x ++ refusals_along stops broken known (known s x) xs
