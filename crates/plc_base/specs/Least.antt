-- Of the violations of a source, the one that is reported.
use Rattle.std.specs.Prelude.{ℕ, ◌≡◌, Bool, false, ◌||◌, ◌&&◌, nat_eq, nat_lt, List, [], ◌∷◌, Option, Some, None, if◌then◌else◌}
use Rattle.std.specs.List.{Contains, AllByRecursion}
use Rattle.plc_base.specs.declared.refusals.Refusal.{Refusal}

-- one refusal comes before another: by line, then by rule
abbrev pub is_refusal_before : Refusal → Refusal → Bool
is_refusal_before a b = nat_lt a.line b.line || (nat_eq a.line b.line && nat_lt a.rule b.rule)

-- of two refusals, each of which may be absent, the one that comes first
unfoldable pub lesser : Option Refusal → Option Refusal → Option Refusal
lesser None other = other
lesser (Some a) None = Some a
lesser (Some a) (Some b) = if is_refusal_before b a then Some b else Some a

-- the refusal of a list that comes first, by line and then by rule; none of an empty list
abbrev pub least : List Refusal → Option Refusal
least [] = None
least (r ∷ rs) = lesser (Some r) (least rs)

-- a refusal of the list, and none of the list is before it
abbrev pub IsLeastRefusal : List Refusal → Refusal → Type 0
IsLeastRefusal rs r = Contains rs r × AllByRecursion (λ q. is_refusal_before q r ≡ false) rs

-- the refusal by a rule that a line breaks, or none
abbrev pub broken_if : Bool → (line rule : ℕ) → List Refusal
broken_if breaks line rule = if breaks then record { line = line; rule = rule } ∷ [] else []
