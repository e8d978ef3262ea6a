-- What the machine that reads CSV does at the steps of a line's fields.
use Rattle.std.proofs.Common.{ℕ, suc, ◌≡◌, List, [], ◌∷◌, ◌++◌, Option, Some, None, Bool, true, false, not, ◌==◌, if◌then◌else◌, refl, sym, ◌∙◌, ap, subst, arith, is_some, ⊎_elim, length, length-append, drop, ◌<◌, ◌≤◌}
use Rattle.std.specs.List.{list_all, prefix_len}
use Rattle.std.specs.Option.{option_and_then}
use Rattle.std.proofs.lemmas.Bool.{cases_Bool}
use Rattle.std.proofs.lemmas.Bool.Decides.{nat_tests}
use Rattle.csv.specs.Machine.{Read, line_feed, next_record, step as csv_step, is_end, fields_after, field_after}
use Rattle.csv.specs.Reading.{default_config}
use Rattle.csv.specs.declared.parser.State.{State}
use Rattle.csv.specs.declared.parser.State.TheVariants as state
use Rattle.csv.specs.declared.parser.Action.{Action}
use Rattle.csv.specs.declared.parser.Action.TheVariants as action
use Rattle.stl_symbols.specs.Line.{lone_record, columns_of}
use Rattle.stl_symbols.specs.Fields.{is_line_end, machine_step, record_at_start, record_before, record_from, state_of}
use Rattle.stl_symbols.specs.declared.fields.FieldState.{FieldState}
use Rattle.stl_symbols.specs.declared.fields.FieldState.TheVariants as field_state
use Rattle.stl_symbols.specs.declared.fields.Step.{Step}
use Rattle.stl_symbols.specs.declared.fields.Step.TheVariants as step

-- the step of a field in this state that is the step of the machine
abbrev StepOf : FieldState → ℕ → Type 0
StepOf at c = (st : Step) × (csv_step default_config (state_of at) c ≡ machine_step st c)

in_field_step : (c : ℕ) → (c == 44) ≡ false → StepOf field_state.Plain c
in_field_step c n =
    ⊎_elim (λ y. (step.EndsRecord, rw n (rw y refl))) (λ m. (step.Joins field_state.Plain, rw n (rw m refl))) (cases_Bool (is_line_end c))

plain_step : (c : ℕ) → StepOf field_state.Plain c
plain_step c = ⊎_elim (λ y. (step.EndsField, rw y refl)) (λ n. in_field_step c n) (cases_Bool (c == 44))

step_of : (at : FieldState) (c : ℕ) → StepOf at c
step_of field_state.Start c =
    ⊎_elim (λ y. (step.Skips field_state.Quoted, rw y refl)) (λ n. let p = plain_step c in (p.0, rw n p.1)) (cases_Bool (c == 34))
step_of field_state.Plain c = plain_step c
step_of field_state.Quoted c =
    ⊎_elim (λ y. (step.Skips field_state.AfterQuote, rw y refl)) (λ n. (step.Joins field_state.Quoted, rw n refl)) (cases_Bool (c == 34))
step_of field_state.AfterQuote c =
    ⊎_elim (λ y. (step.Joins field_state.Quoted, rw y refl)) (λ n. let p = plain_step c in (p.0, rw n p.1)) (cases_Bool (c == 34))

-- the rest of a record from a step on
abbrev read_after : State × Action → List (List ℕ) → List ℕ → ℕ → List ℕ → Option Read
read_after t fields field c rest =
    if is_end t.1 then Some (fields_after t.1 fields field, t.0, rest)
    else next_record default_config t.0 (fields_after t.1 fields field) (field_after t.1 c field) rest

next_record-step : (s : State) (fields : List (List ℕ)) (field : List ℕ) (c : ℕ) (rest : List ℕ) (t : State × Action) → csv_step default_config s c ≡ t →
    next_record default_config s fields field (c ∷ rest) ≡ read_after t fields field c rest
unfolding next_record
next_record-step s fields field c rest t is = ap (λ (u : State × Action). read_after u fields field c rest) is

-- inside a field a record always comes, of more fields than stand before it
abbrev IsLonger : List (List ℕ) → Option Read → Type 0
IsLonger fields None = ⊥
IsLonger fields (Some read) = length fields < length read.0

weaker : (fields more : List (List ℕ)) (o : Option Read) → length fields ≤ length more → IsLonger more o → IsLonger fields o
weaker fields more None within h = h
weaker fields more (Some read) within h = omega (arith, h)

-- with what holds behind the step
longer_after : (st : Step) (fields : List (List ℕ)) (field : List ℕ) (c : ℕ) (rest : List ℕ) →
    ((a : FieldState) (fs : List (List ℕ)) (f : List ℕ) → IsLonger fs (next_record default_config (state_of a) fs f rest)) →
    IsLonger fields (read_after (machine_step st c) fields field c rest)
unfolding next_record
longer_after (step.Skips next) fields field c rest behind = behind next fields field
longer_after (step.Joins next) fields field c rest behind = behind next fields (field ++ c ∷ [])
longer_after step.EndsField fields field c rest behind =
    weaker fields (fields ++ field ∷ []) (next_record default_config state.StartField (fields ++ field ∷ []) [] rest)
    (omega (arith, length-append fields (field ∷ []))) (behind field_state.Start (fields ++ field ∷ []) [])
longer_after step.EndsRecord fields field c rest behind = omega (arith, length-append fields (field ∷ []))

longer_at_end : (at : FieldState) (fields : List (List ℕ)) (field : List ℕ) → IsLonger fields (next_record default_config (state_of at) fields field [])
unfolding next_record
longer_at_end field_state.Start fields field = omega (arith, length-append fields (field ∷ []))
longer_at_end field_state.Plain fields field = omega (arith, length-append fields (field ∷ []))
longer_at_end field_state.Quoted fields field = omega (arith, length-append fields (field ∷ []))
longer_at_end field_state.AfterQuote fields field = omega (arith, length-append fields (field ∷ []))

record_longer : (at : FieldState) (fields : List (List ℕ)) (field rest : List ℕ) → IsLonger fields (next_record default_config (state_of at) fields field rest)
record_longer at fields field [] = longer_at_end at fields field
record_longer at fields field (c ∷ rest) =
    let st = step_of at c in
    subst (IsLonger fields) (sym (next_record-step (state_of at) fields field c rest (machine_step st.0 c) st.1))
    (longer_after st.0 fields field c rest (λ a fs f. record_longer a fs f rest))

longer-some : (fields : List (List ℕ)) (o : Option Read) → IsLonger fields o → is_some o ≡ true
longer-some fields None h = absurd h
longer-some fields (Some read) h = refl

-- a record begins with its first field
record-starts : (fields : List (List ℕ)) (field : List ℕ) (c : ℕ) (rest : List ℕ) → is_line_end c ≡ false →
    next_record default_config state.StartRecord fields field (c ∷ rest) ≡ next_record default_config state.StartField fields field (c ∷ rest)
record-starts fields field c rest n =
    let t = csv_step default_config state.StartField c in
    next_record-step state.StartRecord fields field c rest t (rw n refl) ∙ sym (next_record-step state.StartField fields field c rest t refl)

-- line ends before it are passed over
line_end-passed : (fields : List (List ℕ)) (field : List ℕ) (c : ℕ) (rest : List ℕ) → is_line_end c ≡ true →
    next_record default_config state.StartRecord fields field (c ∷ rest) ≡ next_record default_config state.StartRecord fields field rest
unfolding next_record
line_end-passed fields field c rest y =
    next_record-step state.StartRecord fields field c rest (state.StartRecord, action.Skip) (rw y refl)

none_behind : (rest : List ℕ) → is_some (next_record default_config state.StartRecord [] [] rest) ≡ not (list_all is_line_end rest)
unfolding next_record
none_behind [] = refl
none_behind (c ∷ rest) =
    ⊎_elim
    (λ y. ap (λ (o : Option Read). is_some o) (line_end-passed [] [] c rest y) ∙ none_behind rest ∙ rw y refl)
    (λ n. ap (λ (o : Option Read). is_some o) (record-starts [] [] c rest n) ∙ longer-some [] _ (record_longer field_state.Start [] [] (c ∷ rest)) ∙ rw n refl)
    (cases_Bool (is_line_end c))

after_return : (c : ℕ) → csv_step default_config state.AfterCr c ≡ csv_step default_config state.StartRecord c
after_return c = ⊎_elim (λ y. let z : is_line_end c ≡ true = grind (arith, nat_tests) in rw z (rw y refl)) (λ n. rw n refl) (cases_Bool (c == line_feed))

none_behind_return : (rest : List ℕ) → is_some (next_record default_config state.AfterCr [] [] rest) ≡ not (list_all is_line_end rest)
unfolding next_record
none_behind_return [] = refl
none_behind_return (c ∷ rest) =
    let t = csv_step default_config state.StartRecord c in
    ap (λ (o : Option Read). is_some o) (next_record-step state.AfterCr [] [] c rest t (after_return c) ∙ sym (next_record-step state.StartRecord [] [] c rest t refl)) ∙ none_behind (c ∷ rest)

either : (b v : Bool) (fields : List (List ℕ)) → v ≡ not b → (if v then None else Some fields) ≡ (if b then Some fields else None)
either true v fields is = rw is refl
either false v fields is = rw is refl

alone-is : (fields : List (List ℕ)) (s : State) (rest : List ℕ) → is_some (next_record default_config s [] [] rest) ≡ not (list_all is_line_end rest) →
    lone_record (Some (fields, s, rest)) ≡ record_before fields rest
alone-is fields s rest is = either (list_all is_line_end rest) (is_some (next_record default_config s [] [] rest)) fields is

-- the end of a record
pub record-ends : (at : FieldState) (fields : List (List ℕ)) (field : List ℕ) (c : ℕ) (rest : List ℕ) → csv_step default_config (state_of at) c ≡ machine_step step.EndsRecord c →
    record_from (state_of at) fields field (c ∷ rest) ≡ record_before (fields ++ field ∷ []) rest
record-ends at fields field c rest is =
    ap lone_record (next_record-step (state_of at) fields field c rest (machine_step step.EndsRecord c) is)
    ∙ ⊎_elim
    (λ y. rw y (alone-is (fields ++ field ∷ []) state.AfterCr rest (none_behind_return rest)))
    (λ n. rw n (alone-is (fields ++ field ∷ []) state.StartRecord rest (none_behind rest)))
    (cases_Bool (c == 13))

-- the end of the line
pub record-at_end : (at : FieldState) (fields : List (List ℕ)) (field : List ℕ) → record_from (state_of at) fields field [] ≡ Some (fields ++ field ∷ [])
unfolding next_record
record-at_end field_state.Start fields field = refl
record-at_end field_state.Plain fields field = refl
record-at_end field_state.Quoted fields field = refl
record-at_end field_state.AfterQuote fields field = refl

-- the record of a line begins behind the line ends at its start
pub record_from_start : (line : List ℕ) → record_from state.StartRecord [] [] line ≡ record_at_start (drop (prefix_len is_line_end line) line)
unfolding next_record
record_from_start [] = refl
record_from_start (c ∷ rest) =
    ⊎_elim
    (λ y.
    let len : prefix_len is_line_end (c ∷ rest) ≡ suc (prefix_len is_line_end rest) = grind (arith, y) in
    ap lone_record (line_end-passed [] [] c rest y) ∙ record_from_start rest ∙ ap (λ (n : ℕ). record_at_start (drop n (c ∷ rest))) (sym len))
    (λ n.
    let len : prefix_len is_line_end (c ∷ rest) ≡ 0 = grind (arith, n) in
    ap lone_record (record-starts [] [] c rest n) ∙ ap (λ (k : ℕ). record_at_start (drop k (c ∷ rest))) (sym len))
    (cases_Bool (is_line_end c))

columns_of-many : (fields : List (List ℕ)) → 4 < length fields → columns_of fields ≡ None
columns_of-many [] many = refl
columns_of-many (a ∷ []) many = refl
columns_of-many (a ∷ b ∷ []) many = refl
columns_of-many (a ∷ b ∷ c ∷ []) many = refl
columns_of-many (a ∷ b ∷ c ∷ d ∷ []) many = absurd (omega (arith, many))
columns_of-many (a ∷ b ∷ c ∷ d ∷ e ∷ more) many = refl

columns_of-alone : (fields : List (List ℕ)) (o : Option Read) → length fields ≡ 4 → IsLonger fields o → option_and_then columns_of (lone_record o) ≡ None
columns_of-alone fields None four longer = refl
columns_of-alone fields (Some read) four longer =
    ⊎_elim
    (λ y. rw y refl)
    (λ n. rw n (columns_of-many read.0 (omega (arith, four, longer))))
    (cases_Bool (is_some (next_record default_config read.1 [] [] read.2)))

-- a record with a fifth field has no columns
pub fifth_field : (a b c d rest : List ℕ) → option_and_then columns_of (record_from state.StartField (a ∷ b ∷ c ∷ d ∷ []) [] rest) ≡ None
fifth_field a b c d rest =
    let fields = a ∷ b ∷ c ∷ d ∷ [] in
    columns_of-alone fields (next_record default_config state.StartField fields [] rest) refl (record_longer field_state.Start fields [] rest)
