-- What a call leaves that is a test and a change at once.
use Rattle.std.specs.Prelude.{◌≡◌, Option, Some, None, Result, MatchResult}

-- the value changes to this one, where there is one and the answer is Ok; else the answer is an
-- error and the value stays
abbrev pub ChangesOrStays :
    {A E : Type 0} → (change : Option A) (old new : A) → Result (Unit {0}) E → Type 0
ChangesOrStays change old new result =
    MatchResult result (λ _. change ≡ Some new) (λ _. (change ≡ None) × (new ≡ old))
