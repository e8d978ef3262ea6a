-- Stages of checking: each makes something of what it is given, or refuses it.
use Rattle.std.specs.Prelude.{◌≡◌, ◌⊎◌, Result, Ok, Err}
use Rattle.plc_base.specs.declared.refusals.Refusal.{Refusal}

-- two stages in turn: the second checks what the first has made; a refusal of the first is that of
-- both
abbrev pub HaveOutcomeInTurn : {A B C E : Type 0} (first : A → Result B E → Type 0)
    (second : B → Result C E → Type 0) → A → Result C E → Type 0
HaveOutcomeInTurn {B = B} first second a (Ok c) = (b : B) × first a (Ok b) × second b (Ok c)
HaveOutcomeInTurn {B = B} first second a (Err refused) =
    first a (Err refused) ⊎ ((b : B) × first a (Ok b) × second b (Err refused))

-- a stage whose refusals are given with what they are of
abbrev pub NamesRefusalOf :
    {A B E : Type 0} (of : Refusal → E) (stage : A → Result B Refusal → Type 0)
    → A → Result B E → Type 0
NamesRefusalOf of stage a (Ok b) = stage a (Ok b)
NamesRefusalOf of stage a (Err refused) =
    (refusal : Refusal) × (refused ≡ of refusal) × stage a (Err refusal)

-- a stage has one outcome at most for whatever it is given
abbrev pub HasOneOutcome : {A B E : Type 0} → (A → Result B E → Type 0) → Type 0
HasOneOutcome {A = A} {B = B} {E = E} stage =
    (a : A) (x y : Result B E) → stage a x → stage a y → x ≡ y

-- a stage has one outcome at least for whatever it is given
abbrev pub HasOutcome : {A B E : Type 0} → (A → Result B E → Type 0) → Type 0
HasOutcome {A = A} {B = B} {E = E} stage = (a : A) → (x : Result B E) × stage a x
