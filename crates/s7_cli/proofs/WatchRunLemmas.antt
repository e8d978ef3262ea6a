-- The passes and the lists of a watch.
use Rattle.std.proofs.Common.{◌≡◌, ◌≤◌, ◌<◌, ℕ, zero, suc, ◌+◌, ◌-◌, Bool, true, Result, List, [], ◌∷◌, ◌++◌, length, map, replicate, refl, sym, ◌∙◌, ap, subst, arith, append_assoc, length-append}
use Rattle.std.specs.List.{All}
use mathlib.Core.List.{IsPrefix}
use Rattle.std.proofs.lemmas.List.{length-replicate}
use Rattle.std.proofs.lemmas.List.Elements.{All-from_recursion, All-nil}
use Rattle.image_file.specs.LoadedProgram.{LoadedProgram}
use Rattle.var_access.specs.declared.Entry.{Entry}
use Rattle.var_access.specs.declared.Var.{Var}
use Rattle.controller.specs.Recording.{Recording}
use Rattle.event_text.specs.Regular.{IsRegularOf}
use Rattle.tracked_lock.specs.Passes.{PassView, LockView, missing_number_count, fresh_pass, fresh_passes}
use Rattle.tracked_lock.specs.Views.{AreEntriesByMaker}
use Rattle.station.specs.Closing.{IsGivenBack}
use Rattle.station.specs.Openings.{the_opening}
use Rattle.station.specs.declared.shared.Opening.{Opening}
use Rattle.station.specs.declared.shared.StationFault.{StationFault}
use Rattle.station.specs.declared.shared.TheConstants.{FULL}
use Rattle.watch_board.specs.declared.shown.Shown.{Shown}
use Rattle.s7_cli.specs.Living.{AreRegularBy, IsFullNever, IsLive, opening_on, total_length}
use Rattle.s7_cli.specs.Watching.{AreViews, read_entry_of, watch_lists}
use Rattle.s7_cli.specs.Working.{CanWork, HasWorked, IsFresh, KnowsFault}
use Rattle.s7_cli.proofs.LivingLemmas.{made_live_history, never_full, none_missing}
use Rattle.s7_cli.proofs.NumberLemmas.{can_work, fresh_one}
use Rattle.s7_cli.proofs.RegularLemmas.{each_copy, regular_more, total_more}
use Rattle.s7_cli.proofs.WatchingLemmas.{all_shown_on}

abbrev P : Type 0
P = PassView Opening Entry

-- two lists with one element more are the same where both parts are
last_apart : {A : Type 0} (xs ys : List A) (x y : A) → xs ++ x ∷ [] ≡ ys ++ y ∷ [] → (xs ≡ ys) × (x ≡ y)
last_apart [] [] x y is = (refl, cc is)
last_apart [] (b ∷ ys) x y is = absurd (omega (arith, ap length is, length-append ys (y ∷ [])))
last_apart (a ∷ xs) [] x y is = absurd (omega (arith, ap length is, length-append xs (x ∷ [])))
last_apart (a ∷ xs) (b ∷ ys) x y is = let rest = last_apart xs ys x y (cc is) in (cc (is, rest.0), rest.1)

-- of six passes the last one and the five before it
pub last_of_six : (s : LockView Opening) (all front : List P) (last : P) → all ≡ fresh_passes s 0 6 → all ≡ front ++ last ∷ [] → (front ≡ fresh_passes s 0 5) × (last ≡ fresh_pass s 6)
last_of_six s all front last are is = last_apart front (fresh_passes s 0 5) last (fresh_pass s 6) (sym is ∙ are)

pub last_fresh : (s : LockView Opening) (last : P) → last ≡ fresh_pass s 6 → IsFresh s last
last_fresh s last is = subst (IsFresh s) (sym is) (fresh_one s 6)

pub last_number : (s : LockView Opening) (last : P) → last ≡ fresh_pass s 6 → last.number ≡ 6
last_number s last is = ap (λ (p : P). p.number) is

-- ---- the lists

abbrev pub padded_lists : List (List Entry) → List (List Entry)
padded_lists scripts = scripts ++ replicate (3 - length scripts) []

-- lists that were made up to three
pub padded_so : (scripts padded : List (List Entry)) (many : ℕ) → padded ≡ scripts ++ replicate (3 - many) [] → length scripts ≡ many → padded ≡ padded_lists scripts
padded_so scripts padded many is same = is ∙ ap (λ (n : ℕ). scripts ++ replicate (3 - n) []) (sym same)

pub three_lists : (scripts : List (List Entry)) → length scripts ≤ 3 → length (padded_lists scripts) ≡ 3
three_lists scripts few =
    omega (arith, few, length-append scripts (replicate (3 - length scripts) []), length-replicate {A = List Entry} (3 - length scripts) [])

none_regular : (who k : ℕ) → AreRegularBy who (replicate k [])
none_regular who zero = tt
none_regular who (suc k) = (All-nil (IsRegularOf who), none_regular (suc who) k)

regular_padded : (who k : ℕ) (lists : List (List Entry)) → AreRegularBy who lists → AreRegularBy who (lists ++ replicate k [])
regular_padded who k [] h = none_regular who k
regular_padded who k (x ∷ lists) h = (h.0, regular_padded (suc who) k lists h.1)

pub padded_regular : (stimuli : List Entry) (scripts : List (List Entry)) → AreRegularBy 2 (stimuli ∷ scripts) → AreRegularBy 2 (stimuli ∷ padded_lists scripts)
padded_regular stimuli scripts h = (h.0, regular_padded 3 (3 - length scripts) scripts h.1)

pub can_watch : (s : LockView Opening) (passes : List P) (stimuli : List Entry) (scripts : List (List Entry)) → passes ≡ fresh_passes s 0 5 → length scripts ≤ 3
    → AreRegularBy 2 (stimuli ∷ scripts) → CanWork s passes stimuli (padded_lists scripts)
can_watch s passes stimuli scripts are few h =
    subst (λ (ps : List P). CanWork s ps stimuli (padded_lists scripts)) (sym are)
    (can_work s 5 stimuli (padded_lists scripts) (omega (arith, three_lists scripts few)) (padded_regular stimuli scripts h))

pub lists_many : (reads : ℕ) (scripts : List (List Entry)) (vars : List Var) → length scripts ≤ 3 → 6 ≡ length (watch_lists reads scripts vars) + 2
lists_many reads scripts vars few =
    omega (arith, three_lists scripts few, length-append (padded_lists scripts) (replicate reads (read_entry_of 6 vars) ∷ []))

pub lists_regular : (reads : ℕ) (stimuli : List Entry) (scripts : List (List Entry)) (vars : List Var) → length scripts ≤ 3 → AreRegularBy 2 (stimuli ∷ scripts)
    → IsRegularOf 6 (read_entry_of 6 vars) → AreRegularBy 2 (stimuli ∷ watch_lists reads scripts vars)
lists_regular reads stimuli scripts vars few h one =
    let who : 6 ≡ 2 + length (stimuli ∷ padded_lists scripts) = omega (arith, three_lists scripts few) in
    let copies : All (IsRegularOf 6) (replicate reads (read_entry_of 6 vars)) =
    All-from_recursion (IsRegularOf 6) (replicate reads (read_entry_of 6 vars)) (each_copy (IsRegularOf 6) reads (read_entry_of 6 vars) one) in
    regular_more 2 (stimuli ∷ padded_lists scripts) (replicate reads (read_entry_of 6 vars)) (padded_regular stimuli scripts h)
    (subst (λ (n : ℕ). All (IsRegularOf n) (replicate reads (read_entry_of 6 vars))) who copies)

none_total : (k : ℕ) → total_length (replicate k []) ≡ 0
none_total zero = refl
none_total (suc k) = omega (arith, none_total k)

padded_total : (k : ℕ) (lists : List (List Entry)) → total_length (lists ++ replicate k []) ≡ total_length lists
padded_total k [] = none_total k
padded_total k (x ∷ lists) = ap (λ (n : ℕ). length x + n) (padded_total k lists)

pub lists_total : (reads : ℕ) (scripts : List (List Entry)) (vars : List Var) → total_length (watch_lists reads scripts vars) ≡ total_length scripts + reads
lists_total reads scripts vars =
    omega (arith, total_more (padded_lists scripts) (replicate reads (read_entry_of 6 vars)), padded_total (3 - length scripts) scripts, length-replicate reads (read_entry_of 6 vars))

-- ---- one list more without entries

map_behind : {A B : Type 0} (f : A → B) (xs : List A) (x : A) → map f (xs ++ x ∷ []) ≡ map f xs ++ f x ∷ []
map_behind f [] x = refl
map_behind f (y ∷ xs) x = ap (λ l. f y ∷ l) (map_behind f xs x)

pub padded_next : {A : Type 0} (f : A → List Entry) (xs ys : List A) (x : A) (n : ℕ) → ys ≡ xs ++ x ∷ [] → f x ≡ [] → n < 3
    → map f ys ++ replicate (3 - (n + 1)) [] ≡ map f xs ++ replicate (3 - n) []
padded_next {A} f xs ys x n is none few =
    let left : suc (3 - (n + 1)) ≡ 3 - n = omega (arith, few) in
    let rest : List (List Entry) = replicate (3 - (n + 1)) [] in
    ap (λ (l : List A). map f l ++ rest) is
    ∙ ap (λ (l : List (List Entry)). l ++ rest) (map_behind f xs x)
    ∙ append_assoc (map f xs) (f x ∷ []) rest
    ∙ ap (λ (l : List Entry). map f xs ++ (l ∷ rest)) none
    ∙ ap (λ (k : ℕ). map f xs ++ replicate k []) left

pub padded_many : {A : Type 0} (xs ys : List A) (x : A) (n : ℕ) → ys ≡ xs ++ x ∷ [] → length xs ≡ n → length ys ≡ n + 1
padded_many xs ys x n is many = ap length is ∙ length-append xs (x ∷ []) ∙ ap (λ (k : ℕ). k + 1) many

-- ---- from what all workers made to a live history and what was seen of it

-- views of a story are views of what continues it
views_on : (e f : Entry) (o x : Opening) (xs ys : List Entry) (count : ℕ) (seen : List Shown) → e ≡ f → o ≡ x → IsPrefix xs ys → AreViews e o xs count seen
    → AreViews f x ys count seen
views_on e f o x xs ys count seen same at begins views =
    subst (λ (d : Entry). AreViews d x ys count seen) same (subst (λ (z : Opening). AreViews e z ys count seen) at (record {
      many = views.many;
      each = all_shown_on e o xs ys seen begins views.each;
      never_fall = views.never_fall;
    }))

-- a station with six passes, the lists of three operators, and what the workers and the publisher made with these
module _ (s : LockView Opening) (steps : ℕ) (stimuli : List Entry) (scripts padded : List (List Entry)) (vars : List Var) (r : P) (whole : Bool)
    (all front : List P) (last : P) (are : all ≡ fresh_passes s 0 6) (split : all ≡ front ++ last ∷ []) (pad : padded ≡ padded_lists scripts) (few : length scripts ≤ 3)
    (worked : HasWorked s (front ++ last ∷ []) steps stimuli (padded ++ replicate 100 (read_entry_of last.number vars) ∷ []) r whole) where
  abbrev lists : List (List Entry)
  lists = watch_lists 100 scripts vars

  number : last.number ≡ 6
  number = last_number s last (last_of_six s all front last are split).1

  fresh : front ++ last ∷ [] ≡ fresh_passes s 0 6
  fresh = sym split ∙ are

  worked_so : HasWorked s (front ++ last ∷ []) steps stimuli lists r whole
  worked_so =
      subst (λ (n : ℕ). HasWorked s (front ++ last ∷ []) steps stimuli (padded_lists scripts ++ replicate 100 (read_entry_of n vars) ∷ []) r whole) number
      (subst (λ (l : List (List Entry)). HasWorked s (front ++ last ∷ []) steps stimuli (l ++ replicate 100 (read_entry_of last.number vars) ∷ []) r whole) pad worked)

  pub watch_missing : s.passes ≡ 6 → missing_number_count s.passes r.made ≡ 0
  watch_missing passes =
      none_missing s steps stimuli lists r whole 6 (front ++ last ∷ []) fresh (lists_many 100 scripts vars few) worked_so passes

  module _ (begin c : Recording) (starts : s.origin ≡ record { program = begin.program; profile = begin.profile; first = begin.history } ∷ [])
      (loaded : LoadedProgram) (none_yet : begin ≡ record { program = loaded.program; profile = loaded.profile; history = []; spare = 0 }) (back : IsGivenBack (the_opening s.origin) c r) where
    pub watch_full : (outcome : Result Unit StationFault) → KnowsFault s r.seen outcome → steps + length stimuli + total_length scripts + 100 < FULL → IsFullNever outcome
    watch_full outcome knows room =
        never_full s steps stimuli lists r whole 6 (front ++ last ∷ []) fresh (lists_many 100 scripts vars few) worked_so begin c starts loaded none_yet back
        outcome knows (omega (arith, room, lists_total 100 scripts vars))

    pub watch_lived : AreEntriesByMaker (λ e. e.who) r.seen r.made → whole ≡ true → IsLive loaded steps stimuli lists c.history
    watch_lived agrees ok =
        made_live_history s steps stimuli lists r whole 6 (front ++ last ∷ []) fresh (lists_many 100 scripts vars few) worked_so begin c starts loaded none_yet back agrees ok

    pub watch_views : (seen : List Shown) → AreViews (read_entry_of last.number vars) (the_opening s.origin) r.seen 100 seen
        → AreViews (read_entry_of 6 vars) (opening_on loaded) c.history 100 seen
    watch_views seen views =
        let at : the_opening s.origin ≡ opening_on loaded =
        ap the_opening starts ∙ ap (λ (b : Recording). record { program = b.program; profile = b.profile; first = b.history }) none_yet in
        let history : c.history ≡ back.story = back.history ∙ ap (λ (x : Opening). x.first ++ back.story) at in
        subst (λ (h : List Entry). AreViews (read_entry_of 6 vars) (opening_on loaded) h 100 seen) (sym history)
        (views_on (read_entry_of last.number vars) (read_entry_of 6 vars) (the_opening s.origin) (opening_on loaded) r.seen back.story 100 seen
        (ap (λ (n : ℕ). read_entry_of n vars) number) at back.begins views)
