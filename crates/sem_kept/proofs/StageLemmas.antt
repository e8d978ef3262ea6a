-- Stages with one outcome at most have one in turn.
use Rattle.std.proofs.Common.{◌≡◌, ◌∙◌, ap, subst, sym, refl, ℕ, Result, Ok, Err, inl, inr}
use Rattle.plc_base.specs.declared.refusals.Refusal.{Refusal}
use Rattle.sem_kept.specs.Stages.{HaveOutcomeInTurn, NamesRefusalOf, HasOneOutcome, HasOutcome}

-- a refusal is its line and its rule
pub same_refusal : (r s : Refusal) → (r.line ≡ s.line) × (r.rule ≡ s.rule) → r ≡ s
same_refusal r s (line, rule) =
    let with_line : ℕ → Refusal = λ n. record { line = n; rule = r.rule } in
    let with_rule : ℕ → Refusal = λ n. record { line = s.line; rule = n } in
    ap with_line line ∙ ap with_rule rule

pub ok_same : {B E : Type 0} (b c : B) → ◌≡◌ {A = Result B E} (Ok b) (Ok c) → b ≡ c
ok_same b c same = cc

pub err_same : {B E : Type 0} (r s : E) → ◌≡◌ {A = Result B E} (Err r) (Err s) → r ≡ s
err_same r s same = cc

pub ok_no_err : {B E : Type 0} (b : B) (r : E) → ◌≡◌ {A = Result B E} (Ok b) (Err r) → ⊥
ok_no_err b r same = cc

-- a stage has one outcome where it makes one thing, makes nothing of what it refuses, and refuses
-- in one way
pub one_by_parts : {A B E : Type 0} (stage : A → Result B E → Type 0)
    → ((a : A) (b c : B) → stage a (Ok b) → stage a (Ok c) → b ≡ c)
    → ((a : A) (b : B) (r : E) → stage a (Ok b) → stage a (Err r) → ⊥)
    → ((a : A) (r s : E) → stage a (Err r) → stage a (Err s) → r ≡ s)
    → HasOneOutcome stage
one_by_parts stage makes_one excludes refuses_one a (Ok b) (Ok c) at_b at_c = ap Ok (makes_one a b c at_b at_c)
one_by_parts stage makes_one excludes refuses_one a (Ok b) (Err r) at_b at_r = absurd (excludes a b r at_b at_r)
one_by_parts stage makes_one excludes refuses_one a (Err r) (Ok b) at_r at_b = absurd (excludes a b r at_b at_r)
one_by_parts stage makes_one excludes refuses_one a (Err r) (Err s) at_r at_s = ap Err (refuses_one a r s at_r at_s)

-- what the second stage says of what the first one makes, of the one thing that it makes
one_outcome_of_first : {A B C E : Type 0} (first : A → Result B E → Type 0) (second : B → Result C E → Type 0) → HasOneOutcome first
    → (a : A) (b c : B) (x : Result C E) → first a (Ok b) → first a (Ok c) → second b x → second c x
one_outcome_of_first {B = B} {C = C} first second one a b c x at_b at_c after =
    let At : B → Type 0 = λ d. second d x in
    subst At (ok_same b c (one a (Ok b) (Ok c) at_b at_c)) after

-- two stages in turn
pub in_turn_one : {A B C E : Type 0} (first : A → Result B E → Type 0) (second : B → Result C E → Type 0)
    → HasOneOutcome first → HasOneOutcome second → HasOneOutcome (HaveOutcomeInTurn first second)
in_turn_one first second one_first one_second a (Ok x) (Ok y) (b, at_b, x_after) (c, at_c, y_after) =
    one_second c (Ok x) (Ok y) (one_outcome_of_first first second one_first a b c (Ok x) at_b at_c x_after) y_after
in_turn_one first second one_first one_second a (Ok x) (Err r) (b, at_b, x_after) (inl at_r) =
    absurd (ok_no_err b r (one_first a (Ok b) (Err r) at_b at_r))
in_turn_one first second one_first one_second a (Ok x) (Err r) (b, at_b, x_after) (inr (c, at_c, r_after)) =
    one_second c (Ok x) (Err r) (one_outcome_of_first first second one_first a b c (Ok x) at_b at_c x_after) r_after
in_turn_one first second one_first one_second a (Err r) (Ok y) (inl at_r) (c, at_c, y_after) =
    absurd (ok_no_err c r (one_first a (Ok c) (Err r) at_c at_r))
in_turn_one first second one_first one_second a (Err r) (Ok y) (inr (b, at_b, r_after)) (c, at_c, y_after) =
    one_second c (Err r) (Ok y) (one_outcome_of_first first second one_first a b c (Err r) at_b at_c r_after) y_after
in_turn_one first second one_first one_second a (Err r) (Err s) (inl at_r) (inl at_s) = ap Err (err_same r s (one_first a (Err r) (Err s) at_r at_s))
in_turn_one first second one_first one_second a (Err r) (Err s) (inl at_r) (inr (c, at_c, s_after)) =
    absurd (ok_no_err c r (one_first a (Ok c) (Err r) at_c at_r))
in_turn_one first second one_first one_second a (Err r) (Err s) (inr (b, at_b, r_after)) (inl at_s) =
    absurd (ok_no_err b s (one_first a (Ok b) (Err s) at_b at_s))
in_turn_one first second one_first one_second a (Err r) (Err s) (inr (b, at_b, r_after)) (inr (c, at_c, s_after)) =
    one_second c (Err r) (Err s) (one_outcome_of_first first second one_first a b c (Err r) at_b at_c r_after) s_after

-- an outcome of the second stage for the one outcome of the first
after_first : {A B C E : Type 0} (first : A → Result B E → Type 0) (second : B → Result C E → Type 0) (a : A) (b : B)
    → first a (Ok b) → (x : Result C E) × second b x → (x : Result C E) × HaveOutcomeInTurn first second a x
after_first first second a b at_b (Ok c, after) = (Ok c, (b, at_b, after))
after_first first second a b at_b (Err r, after) = (Err r, inr (b, at_b, after))

-- two stages in turn
in_turn_at : {A B C E : Type 0} (first : A → Result B E → Type 0) (second : B → Result C E → Type 0) (a : A)
    → (x : Result B E) × first a x → HasOutcome second → (y : Result C E) × HaveOutcomeInTurn first second a y
in_turn_at first second a (Ok b, at_b) some_second = after_first first second a b at_b (some_second b)
in_turn_at first second a (Err r, at_r) some_second = (Err r, inl at_r)

pub in_turn_some : {A B C E : Type 0} (first : A → Result B E → Type 0) (second : B → Result C E → Type 0)
    → HasOutcome first → HasOutcome second → HasOutcome (HaveOutcomeInTurn first second)
in_turn_some first second some_first some_second a = in_turn_at first second a (some_first a) some_second

-- a stage whose refusals are told with what they are of
pub refusal_one : {A B E : Type 0} (of : Refusal → E) (stage : A → Result B Refusal → Type 0)
    → HasOneOutcome stage → HasOneOutcome (NamesRefusalOf of stage)
refusal_one of stage one a (Ok b) (Ok c) at_b at_c =
    ap Ok (ok_same b c (one a (Ok b) (Ok c) at_b at_c))
refusal_one of stage one a (Ok b) (Err f) at_b (s, is_s, at_s) =
    absurd (ok_no_err b s (one a (Ok b) (Err s) at_b at_s))
refusal_one of stage one a (Err e) (Ok c) (r, is_r, at_r) at_c =
    absurd (ok_no_err c r (one a (Ok c) (Err r) at_c at_r))
refusal_one of stage one a (Err e) (Err f) (r, is_r, at_r) (s, is_s, at_s) =
    ap Err (is_r ∙ ap of (err_same r s (one a (Err r) (Err s) at_r at_s)) ∙ sym is_s)

refusal_at : {A B E : Type 0} (of : Refusal → E) (stage : A → Result B Refusal → Type 0) (a : A)
    → (x : Result B Refusal) × stage a x → (y : Result B E) × NamesRefusalOf of stage a y
refusal_at of stage a (Ok b, at_b) = (Ok b, at_b)
refusal_at of stage a (Err r, at_r) = (Err (of r), (r, refl, at_r))

pub refusal_some : {A B E : Type 0} (of : Refusal → E) (stage : A → Result B Refusal → Type 0)
    → HasOutcome stage → HasOutcome (NamesRefusalOf of stage)
refusal_some of stage some a = refusal_at of stage a (some a)
