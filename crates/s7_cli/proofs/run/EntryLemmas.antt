-- The entries of a history, applied one by one, or in a row where they show nothing.
use Rattle.std.proofs.Common.{◌≡◌, ◌<◌, ◌≤◌, refl, sym, ◌∙◌, ap, subst, ℕ, zero, suc, ◌+◌, ◌-◌, List, [], ◌∷◌, ◌++◌, length, drop, replicate, get_or, All, Result, Ok, Err, arith, append-nil, append_assoc, length-append}
use Rattle.std.specs.List.{AllByRecursion}
use Rattle.std.proofs.lemmas.List.{length-replicate, map-append, replicate-append-replicate}
use Rattle.std.proofs.lemmas.List.Elements.{All-head, All-tail}
use Rattle.plc_base.proofs.ListLemmas.{drop_next}
use Rattle.plc_io.specs.Moments.{SinkAt}
use Rattle.plc_io.specs.SinkBytes.{WroteText}
use Rattle.plc_io.specs.declared.faults.IoFault.{IoFault}
use Rattle.image_file.specs.LoadedProgram.{LoadedProgram}
use Rattle.machine.specs.Code.{Code}
use Rattle.machine.specs.Flat.{code_of}
use Rattle.var_access.specs.Entry.{IsValid}
use Rattle.var_access.specs.Runs.{AreRuns, IsHistoryRun, entries_of_runs}
use Rattle.var_access.specs.declared.Entry.{Entry}
use Rattle.var_access.specs.declared.Reply.{Reply}
use Rattle.var_access.specs.declared.Request.{Request}
use Rattle.var_access.specs.declared.Run.{Run}
use Rattle.var_access.specs.declared.What.{What}
use Rattle.var_access.specs.declared.What.TheVariants.{Ask, Step}
use Rattle.controller.specs.Asking.{request_reply}
use Rattle.controller.specs.declared.Observed.{Observed}
use Rattle.controller.specs.SilentSteps.{ShowNothing}
use Rattle.controller.specs.Replay.{ContinuesByMore, entry_result, replay, reply_to, state_after_entries}
use Rattle.event_text.specs.Replies.{reply_text}
use Rattle.controller.specs.ShownEntry.{nothing_shown}
use Rattle.controller.specs.State.{State}
use Rattle.controller.specs.Recording.{Recording}
use Rattle.controller.specs.ReplayResult.{entry_events, next_result, final_state}
use Rattle.s7_cli.specs.run_text.Behind.{closing_of, lines_behind, with_entries}
use Rattle.s7_cli.specs.run_text.RunText.{closing_text, entry_text, entry_lines_from, replied_text, run_text, shown_text}
use Rattle.s7_cli.proofs.run.WritingLemmas.{GoesOn, goes-cut, goes-end, goes-first, goes-next}

-- ---- controllers with further entries

with-none : (r : Recording) → r ≡ with_entries r []
with-none r =
    ap (λ (h : List Entry). record r { history = h }) (sym (append-nil r.history))
    ∙ ap (λ (n : ℕ). record r { history = r.history ++ []; spare = n }) none
  where
    none : r.spare ≡ r.spare - length {A = Entry} []
    none = omega arith

with-both : (r : Recording) (front back : List Entry)
    → with_entries (with_entries r front) back ≡ with_entries r (front ++ back)
with-both r front back =
    ap (λ (h : List Entry). record r { history = h; spare = r.spare - length front - length back })
    (append_assoc r.history front back)
    ∙ ap (λ (n : ℕ). record r { history = r.history ++ (front ++ back); spare = n }) less
  where
    less : r.spare - length front - length back ≡ r.spare - length (front ++ back)
    less = omega (arith, length-append front back)

-- the state is that of the further entries
replayed-on : ContinuesByMore → (r : Recording) (es : List Entry)
    → final_state (with_entries r es) ≡ state_after_entries (code_of r.program) (final_state r) (entry_events es)
replayed-on continues r es =
    ap (λ (ws : List What). replay r.profile (code_of r.program) ws) (map-append (λ (e : Entry). e.what) r.history es)
    ∙ continues r.profile (code_of r.program) (entry_events r.history) (entry_events es)

-- ---- lines of entries in two parts

lines-split : (code : Code) (n : ℕ) (s : State) (front back : List Entry)
    → entry_lines_from code n s (front ++ back)
    ≡ entry_lines_from code n s front ++ entry_lines_from code (n + length front) (state_after_entries code s (entry_events front)) back
lines-split code n s [] back = ap (λ (m : ℕ). entry_lines_from code m s back) none
  where
    none : n ≡ n + length {A = Entry} []
    none = omega arith
lines-split code n s (e ∷ front) back =
    ap (λ (text : List ℕ). first ++ text) (lines-split code (n + 1) t front back)
    ∙ ap (λ (m : ℕ). first ++ (entry_lines_from code (n + 1) t front ++ entry_lines_from code m (state_after_entries code t (entry_events front)) back)) count
    ∙ sym (append_assoc first (entry_lines_from code (n + 1) t front)
    (entry_lines_from code (n + length (e ∷ front)) (state_after_entries code t (entry_events front)) back))
  where
    first : List ℕ
    first = entry_text (n + 1) e (entry_result code s e.what)

    t : State
    t = (entry_result code s e.what).state

    count : n + 1 + length front ≡ n + length (e ∷ front)
    count = omega arith

-- the lines behind the first part are those of a controller that has it
lines-behind : ContinuesByMore → (r : Recording) (front back : List Entry)
    → lines_behind r (front ++ back) ≡ lines_behind r front ++ lines_behind (with_entries r front) back
lines-behind continues r front back =
    lines-split code (length r.history) (final_state r) front back
    ∙ ap (λ (m : ℕ). lines_behind r front ++ entry_lines_from code m (state_after_entries code (final_state r) (entry_events front)) back)
    (sym (length-append r.history front))
    ∙ ap (λ (s : State). lines_behind r front ++ entry_lines_from code (length (r.history ++ front)) s back)
    (sym (replayed-on continues r front))
  where
    code : Code
    code = code_of r.program

-- what a request shows, and then its reply, which is that of the state before it
pub request-lines : (r : Recording) (e : Entry) (request : Request) (n m : ℕ) (shown : Observed) (answer : Reply) (before middle : List ℕ)
    → e.what ≡ Ask request → n ≡ m → shown ≡ (next_result r e).seen
    → answer ≡ request_reply (code_of r.program) request (final_state r) → middle ≡ before ++ shown_text n shown
    → middle ++ reply_text n e.who request answer ≡ before ++ entry_text m e (next_result r e)
unfolding entry_result
request-lines r e request n m shown answer before middle asks count is replies appended =
    ap (λ (t : List ℕ). t ++ reply_text n e.who request answer) appended
    ∙ append_assoc before (shown_text n shown) (reply_text n e.who request answer)
    ∙ ap (λ (k : ℕ). before ++ (shown_text k shown ++ reply_text k e.who request answer)) count
    ∙ ap (λ (o : Observed). before ++ (shown_text m o ++ reply_text m e.who request answer)) is
    ∙ ap (λ (a : Reply). before ++ (shown_text m (next_result r e).seen ++ reply_text m e.who request a)) replies
    ∙ ap (λ (w : What). before ++ (shown_text m (next_result r e).seen ++ replied_text m e.who w (reply_to (code_of r.program) (final_state r) w)))
    (sym asks)

-- entries that show nothing have no line
no-text : (n : ℕ) → shown_text n nothing_shown ≡ []
unfolding shown_text
no-text n = refl

-- nor has a step that shows nothing
quiet-step : (code : Code) (n : ℕ) (s : State) (e : Entry) → e.what ≡ Step → (entry_result code s Step).seen ≡ nothing_shown
    → entry_text n e (entry_result code s e.what) ≡ []
quiet-step code n s e is nothing =
    ap (λ (w : What). shown_text n (entry_result code s w).seen ++ replied_text n e.who w (entry_result code s w).reply) is
    ∙ ap (λ (o : Observed). shown_text n o ++ []) nothing
    ∙ ap (λ (t : List ℕ). t ++ []) (no-text n)

quiet-steps : (code : Code) (n : ℕ) (s : State) (e : Entry) (k : ℕ) → e.what ≡ Step → ShowNothing code s (replicate k Step)
    → entry_lines_from code n s (replicate k e) ≡ []
quiet-steps code n s e zero is nothing = refl
quiet-steps code n s e (suc k) is nothing =
    ap (λ (t : List ℕ). t ++ entry_lines_from code (n + 1) (entry_result code s e.what).state (replicate k e))
    (quiet-step code (n + 1) s e is nothing.0)
    ∙ ap (λ (w : What). entry_lines_from code (n + 1) (entry_result code s w).state (replicate k e)) is
    ∙ quiet-steps code (n + 1) (entry_result code s Step).state e k is nothing.1

-- ---- what was applied and written

-- the first entries of these were applied, and what they did was written; the rest is to follow
pub record Follows (start : Recording) (es rest : List Entry) (now : Recording) (before at : SinkAt) : Type 0 where
  pub front : List Entry
  pub all : front ++ rest ≡ es
  pub applied : now ≡ with_entries start front
  pub goes_on : GoesOn (lines_behind start es) (lines_behind now rest) before at

pub follows-none : (start : Recording) (es : List Entry) (at : SinkAt) → Follows start es es start at at
follows-none start es at = record {
  front = [];
  all = refl;
  applied = with-none start;
  goes_on = goes-first (lines_behind start es) at;
}

-- the lines of the rest, when a part of it comes first
rest-lines : ContinuesByMore → (s1 s2 : Recording) (rest piece more : List Entry) → rest ≡ piece ++ more
    → s2 ≡ with_entries s1 piece → lines_behind s1 rest ≡ lines_behind s1 piece ++ lines_behind s2 more
rest-lines continues s1 s2 rest piece more splits on =
    ap (lines_behind s1) splits ∙ lines-behind continues s1 piece more
    ∙ ap (λ (r : Recording). lines_behind s1 piece ++ lines_behind r more) (sym on)

-- a part of the rest was applied, and its lines were written
pub follows-written : ContinuesByMore → (s0 s1 s2 : Recording) (es rest piece more : List Entry) (a b c : SinkAt) (u : Unit)
    → Follows s0 es rest s1 a b → rest ≡ piece ++ more → s2 ≡ with_entries s1 piece
    → WroteText {X = Unit {0}} b c (lines_behind s1 piece) (Ok u) → Follows s0 es more s2 a c
follows-written continues s0 s1 s2 es rest piece more a b c u so_far splits on wrote = record {
  front = so_far.front ++ piece;
  all = append_assoc so_far.front piece more ∙ ap (λ (l : List Entry). so_far.front ++ l) (sym splits) ∙ so_far.all;
  applied = on ∙ ap (λ (r : Recording). with_entries r piece) so_far.applied ∙ with-both s0 so_far.front piece;
  goes_on = goes-next (lines_behind s0 es) (lines_behind s1 rest) (lines_behind s1 piece) (lines_behind s2 more)
      (lines_behind s1 piece) a b c u so_far.goes_on (rest-lines continues s1 s2 rest piece more splits on) refl wrote;
}

-- steps that show nothing were applied
pub follows-quiet : ContinuesByMore → (s0 s1 s2 : Recording) (es : List Entry) (e : Entry) (k left more : ℕ) (a b : SinkAt)
    → Follows s0 es (replicate left e) s1 a b → e.what ≡ Step → k ≤ left → more ≡ left - k
    → s2 ≡ record s1 { history = s1.history ++ replicate k e; spare = s1.spare - k }
    → ShowNothing (code_of s1.program) (final_state s1) (replicate k Step)
    → Follows s0 es (replicate more e) s2 a b
follows-quiet continues s0 s1 s2 es e k left more a b so_far is few fewer on nothing = record {
  front = so_far.front ++ replicate k e;
  all = append_assoc so_far.front (replicate k e) (replicate more e) ∙ ap (λ (l : List Entry). so_far.front ++ l) (sym splits) ∙ so_far.all;
  applied = entered ∙ ap (λ (r : Recording). with_entries r (replicate k e)) so_far.applied ∙ with-both s0 so_far.front (replicate k e);
  goes_on = subst (λ (text : List ℕ). GoesOn (lines_behind s0 es) text a b) lines so_far.goes_on;
}
  where
    splits : replicate left e ≡ replicate k e ++ replicate more e
    splits = ap (λ (n : ℕ). replicate n e) (omega arith) ∙ sym (replicate-append-replicate k more e)

    entered : s2 ≡ with_entries s1 (replicate k e)
    entered = on ∙ ap (λ (n : ℕ). record s1 { history = s1.history ++ replicate k e; spare = s1.spare - n }) (sym (length-replicate k e))

    lines : lines_behind s1 (replicate left e) ≡ lines_behind s2 (replicate more e)
    lines =
        rest-lines continues s1 s2 (replicate left e) (replicate k e) (replicate more e) splits entered
        ∙ ap (λ (t : List ℕ). t ++ lines_behind s2 (replicate more e))
        (quiet-steps (code_of s1.program) (length s1.history) (final_state s1) e k is nothing)

-- the part of the rest whose lines are being written ends so
pub follows-cut : ContinuesByMore → (s0 s1 : Recording) (es rest piece more : List Entry) (a b c : SinkAt) (fault : IoFault)
    (r : Result Unit IoFault) → Follows s0 es rest s1 a b → rest ≡ piece ++ more
    → WroteText {X = Unit {0}} b c (lines_behind s1 piece) (Err fault) → r ≡ Err fault → WroteText a c (lines_behind s0 es) r
follows-cut continues s0 s1 es rest piece more a b c fault r so_far splits wrote ends =
    goes-cut (lines_behind s0 es) (lines_behind s1 rest) (lines_behind s1 piece) (lines_behind (with_entries s1 piece) more)
    (lines_behind s1 piece) a b c fault r so_far.goes_on
    (rest-lines continues s1 (with_entries s1 piece) rest piece more splits refl) refl wrote ends

-- all were applied and written
pub follows-end : (s0 s1 : Recording) (es rest : List Entry) (a b : SinkAt) (u : Unit) → Follows s0 es rest s1 a b
    → rest ≡ [] → WroteText {X = Unit {0}} a b (lines_behind s0 es) (Ok u)
follows-end s0 s1 es rest a b u so_far none =
    goes-end (lines_behind s0 es) (lines_behind s1 rest) a b u so_far.goes_on (ap (lines_behind s1) none)

-- there is room for the rest
pub follows-room : (s0 s1 : Recording) (es rest : List Entry) (a b : SinkAt) → Follows s0 es rest s1 a b
    → length es ≤ s0.spare → length rest ≤ s1.spare
follows-room s0 s1 es rest a b so_far room =
    let spare : s1.spare ≡ s0.spare - length so_far.front = ap (λ (r : Recording). r.spare) so_far.applied in
    let len : length es ≡ length so_far.front + length rest =
    ap (λ (l : List Entry). length l) (sym so_far.all) ∙ length-append so_far.front rest in
    omega (arith, spare, len, room)

-- ---- steps

-- the first of some steps
one-step : (n m : ℕ) (e : Entry) → 1 ≤ n → m ≡ n - 1 → replicate n e ≡ (e ∷ []) ++ replicate m e
one-step zero m e some less = absurd (omega (arith, some))
one-step (suc n) m e some less = ap (λ (k : ℕ). e ∷ replicate k e) (omega (arith, less))

pub steps-next : ContinuesByMore → (s0 s1 s2 : Recording) (e : Entry) (count left : ℕ) (a b c : SinkAt) (u : Unit)
    → Follows s0 (replicate count e) (replicate left e) s1 a b → 1 ≤ left → s2 ≡ with_entries s1 (e ∷ [])
    → WroteText {X = Unit {0}} b c (lines_behind s1 (e ∷ [])) (Ok u)
    → Follows s0 (replicate count e) (replicate (left - 1) e) s2 a c
steps-next continues s0 s1 s2 e count left a b c u so_far some on wrote =
    follows-written continues s0 s1 s2 (replicate count e) (replicate left e) (e ∷ []) (replicate (left - 1) e) a b c u
    so_far (one-step left (left - 1) e some refl) on wrote

pub steps-cut : ContinuesByMore → (s0 s1 : Recording) (e : Entry) (count left : ℕ) (a b c : SinkAt) (fault : IoFault)
    (r : Result Unit IoFault) → Follows s0 (replicate count e) (replicate left e) s1 a b → 1 ≤ left
    → WroteText {X = Unit {0}} b c (lines_behind s1 (e ∷ [])) (Err fault) → r ≡ Err fault
    → WroteText a c (lines_behind s0 (replicate count e)) r
steps-cut continues s0 s1 e count left a b c fault r so_far some wrote ends =
    follows-cut continues s0 s1 (replicate count e) (replicate left e) (e ∷ []) (replicate (left - 1) e) a b c fault r
    so_far (one-step left (left - 1) e some refl) wrote ends

pub steps-room : (s0 s1 : Recording) (e : Entry) (count left : ℕ) (a b : SinkAt)
    → Follows s0 (replicate count e) (replicate left e) s1 a b → count ≤ s0.spare → left ≤ s1.spare
steps-room s0 s1 e count left a b so_far room =
    let rest : length (replicate left e) ≤ s1.spare =
    follows-room s0 s1 (replicate count e) (replicate left e) a b so_far (omega (arith, length-replicate count e, room)) in
    omega (arith, length-replicate left e, rest)

-- ---- runs

-- the entries of the runs from a place on
runs-next : (runs : List Run) (i : ℕ) (r : Run) → i < length runs → r ≡ get_or runs i r
    → entries_of_runs (drop i runs) ≡ replicate r.count r.entry ++ entries_of_runs (drop (i + 1) runs)
runs-next runs i r within at = ap entries_of_runs (drop_next runs i r within at)

run-is : (runs : List Run) (i : ℕ) (r : Run) → AreRuns runs → i < length runs → r ≡ get_or runs i r → IsHistoryRun r
run-is runs i r are within at = subst IsHistoryRun (sym at) (by runs i are.each within)
  where
    by : (runs : List Run) (i : ℕ) → AllByRecursion IsHistoryRun runs → i < length runs → IsHistoryRun (get_or runs i r)
    by [] i each within = absurd (omega (arith, within))
    by (run ∷ runs) zero each within = each.0
    by (run ∷ runs) (suc i) each within = by runs i each.1 (omega (arith, within))

-- the entry of a run is one of theirs
pub run-valid : (runs : List Run) (i : ℕ) (r : Run) → AreRuns runs → All IsValid (entries_of_runs runs) → i < length runs
    → r ≡ get_or runs i r → IsValid r.entry
run-valid runs i r are valid within at =
    first r.count (entries_of_runs (drop (i + 1) runs)) (run-is runs i r are within at).some
    (subst (All IsValid) (runs-next runs i r within at) (rest runs i valid))
  where
    behind : (xs ys : List Entry) → All IsValid (xs ++ ys) → All IsValid ys
    behind [] ys valid = valid
    behind (x ∷ xs) ys valid = behind xs ys (All-tail IsValid x (xs ++ ys) valid)

    rest : (runs : List Run) (i : ℕ) → All IsValid (entries_of_runs runs) → All IsValid (entries_of_runs (drop i runs))
    rest runs zero valid = valid
    rest [] (suc i) valid = valid
    rest (run ∷ runs) (suc i) valid = rest runs i (behind (replicate run.count run.entry) (entries_of_runs runs) valid)

    first : (count : ℕ) (more : List Entry) → 1 ≤ count → All IsValid (replicate count r.entry ++ more) → IsValid r.entry
    first zero more some valid = absurd (omega (arith, some))
    first (suc count) more some valid = All-head IsValid r.entry (replicate count r.entry ++ more) valid

pub runs-more : ContinuesByMore → (s0 s1 s2 : Recording) (runs : List Run) (i : ℕ) (r : Run) (a b c : SinkAt) (u : Unit)
    → Follows s0 (entries_of_runs runs) (entries_of_runs (drop i runs)) s1 a b → i < length runs → r ≡ get_or runs i r
    → s2 ≡ with_entries s1 (replicate r.count r.entry)
    → WroteText {X = Unit {0}} b c (lines_behind s1 (replicate r.count r.entry)) (Ok u)
    → Follows s0 (entries_of_runs runs) (entries_of_runs (drop (i + 1) runs)) s2 a c
runs-more continues s0 s1 s2 runs i r a b c u so_far within at on wrote =
    follows-written continues s0 s1 s2 (entries_of_runs runs) (entries_of_runs (drop i runs)) (replicate r.count r.entry)
    (entries_of_runs (drop (i + 1) runs)) a b c u so_far (runs-next runs i r within at) on wrote

pub runs-cut : ContinuesByMore → (s0 s1 : Recording) (runs : List Run) (i : ℕ) (r : Run) (a b c : SinkAt) (fault : IoFault)
    (came : Result Unit IoFault) → Follows s0 (entries_of_runs runs) (entries_of_runs (drop i runs)) s1 a b → i < length runs
    → r ≡ get_or runs i r → WroteText {X = Unit {0}} b c (lines_behind s1 (replicate r.count r.entry)) (Err fault)
    → came ≡ Err fault → WroteText a c (lines_behind s0 (entries_of_runs runs)) came
runs-cut continues s0 s1 runs i r a b c fault came so_far within at wrote ends =
    follows-cut continues s0 s1 (entries_of_runs runs) (entries_of_runs (drop i runs)) (replicate r.count r.entry)
    (entries_of_runs (drop (i + 1) runs)) a b c fault came so_far (runs-next runs i r within at) wrote ends

-- ---- a whole run

-- a controller as it begins, with room for all entries
abbrev pub Begins : LoadedProgram → List Entry → Recording → Type 0
Begins l es s = s ≡ record { program = l.program; profile = l.profile; history = []; spare = length es }

pub begins : (l : LoadedProgram) (s : Recording) (es : List Entry) (count : ℕ)
    → s ≡ record { program = l.program; profile = l.profile; history = []; spare = count } → count ≡ length es → Begins l es s
begins l s es count is all = is ∙ ap (λ (n : ℕ). record { program = l.program; profile = l.profile; history = []; spare = n }) all

pub run-splits : (l : LoadedProgram) (s s' : Recording) (es : List Entry) → Begins l es s → s' ≡ with_entries s es
    → run_text l.profile (code_of l.program) es ≡ lines_behind s es ++ closing_of s'
unfolding run_text replay
run-splits l s s' es begins has_run =
    ap (λ (r : Recording). lines_behind r es ++ closing_text (length es) (replay l.profile (code_of l.program) (entry_events es))) (sym begins)
    ∙ ap (λ (r : Recording). lines_behind s es ++ closing_of r) (sym ended)
  where
    ended : s' ≡ record { program = l.program; profile = l.profile; history = es; spare = length es - length es }
    ended = has_run ∙ ap (λ (r : Recording). with_entries r es) begins

-- its lines stand before something, whatever is left
pub cut-run : (l : LoadedProgram) (s : Recording) (es : List Entry) → Begins l es s
    → run_text l.profile (code_of l.program) es ≡ lines_behind s es ++ closing_text (length es) (replay l.profile (code_of l.program) (entry_events es))
unfolding run_text replay
cut-run l s es begins =
    ap (λ (r : Recording). lines_behind r es ++ closing_text (length es) (replay l.profile (code_of l.program) (entry_events es))) (sym begins)
