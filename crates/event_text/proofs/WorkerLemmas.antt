-- Who makes the entries of stimuli and scripts.
use Rattle.std.proofs.Common.{◌≡◌, ◌≤◌, ◌+◌, ℕ, cond, Bool, true, false, List, [], ◌∷◌, Option, Some, None, Ok, Err, Result, IfOk, refl, sym, subst, arith, bytes_eq, codes}
use Rattle.std.specs.List.{All, AllByRecursion}
use Rattle.std.specs.Str.Lines.{lines}
use Rattle.std.proofs.lemmas.List.Elements.{All-from_recursion}
use Rattle.plc_base.specs.AreaBytes.{is_peripheral_byte}
use Rattle.plc_base.specs.declared.refusals.Refusal.{Refusal}
use Rattle.plc_base.proofs.ListLemmas.{all_append}
use Rattle.var_access.specs.Entry.{IsValid, is_arrivable}
use Rattle.var_access.specs.Readings.{Reading, address_number, both_readings, first_word, hex_of, number_reading, reading_map, words_of}
use Rattle.var_access.specs.Requests.{request_of}
use Rattle.var_access.specs.Variables.{Names}
use Rattle.var_access.specs.declared.entries.Entry.{Entry}
use Rattle.event_text.specs.LineEntries.{HasWorker}
use Rattle.event_text.specs.Lines.{arrival_line, input_line, is_history, is_entry_line_skipped, line_read, line_with, number_among, one_entry, operator_line, script_line, step_entries, step_line, tick_line, where_allowed}
use Rattle.event_text.specs.Regular.{HasMaker, IsRegularOf, IsWorkerOf, WhatFits, maker_of}
use Rattle.event_text.specs.Texts.{entries_in_front, entries_of_line_first, entries_of_read_lines, steps_in, text_read}
use Rattle.event_text.specs.Workers.{request_entry}
use Rattle.event_text.specs.declared.kinds.TextKind.{TextKind}
use Rattle.event_text.specs.declared.kinds.TextKind.TheVariants.{History, Stimuli, Script}

-- an entry of this worker, who makes such entries
abbrev IsMadeBy : ℕ → Entry → Type 0
IsMadeBy who e = (e.who ≡ who) × IsWorkerOf e.what who

ok_of_map : {A B : Type 0} (P : B → Type 0) (f : A → B) (r : Reading A) → ((a : A) → P (f a)) → IfOk (reading_map f r) P
ok_of_map P f (Ok a) h = h a
ok_of_map P f (Err rule) h = tt

either : {A : Type 0} (P : A → Type 0) (test : Bool) (x y : Reading A) → IfOk x P → IfOk y P → IfOk (cond test x y) P
either P true x y h k = h
either P false x y h k = k

-- a line with one entry, where it may stand
one : (P : Entry → Type 0) (stands : Bool) (r : Reading Entry) → IfOk r P → IfOk (reading_map one_entry (where_allowed stands r)) (AllByRecursion P)
one P true (Ok e) h = (h, tt)
one P true (Err rule) h = tt
one P false (Ok e) h = tt
one P false (Err rule) h = tt

-- a line that may not stand there
nowhere : {A B : Type 0} (P : B → Type 0) (f : A → B) (r : Reading A) → IfOk (reading_map f (where_allowed false r)) P
nowhere P f (Ok a) = tt
nowhere P f (Err rule) = tt

input_made : (words : List (List ℕ)) → IfOk (input_line words) (IsMadeBy 2)
unfolding input_line
input_made [] = tt
input_made (byte ∷ []) = tt
input_made (byte ∷ value ∷ []) = ok_of_map (IsMadeBy 2) _ (both_readings (number_among is_peripheral_byte (address_number byte)) (hex_of 2 value)) (λ p. (refl, refl))
input_made (byte ∷ value ∷ word ∷ words) = tt

arrival_made : (words : List (List ℕ)) → IfOk (arrival_line words) (IsMadeBy 2)
unfolding arrival_line
arrival_made [] = tt
arrival_made (ob ∷ []) = ok_of_map (IsMadeBy 2) _ (number_among is_arrivable (address_number ob)) (λ n. (refl, refl))
arrival_made (ob ∷ value ∷ []) = ok_of_map (IsMadeBy 2) _ (both_readings (number_among is_arrivable (address_number ob)) (hex_of 8 value)) (λ p. (refl, refl))
arrival_made (ob ∷ value ∷ word ∷ words) = tt

tick_made : (words : List (List ℕ)) → IfOk (tick_line words) (IsMadeBy 2)
unfolding tick_line
tick_made [] = tt
tick_made (number ∷ []) = ok_of_map (IsMadeBy 2) _ (number_reading 1 60000 2 number) (λ n. (refl, refl))
tick_made (number ∷ word ∷ words) = tt

script_made : (names : Names) (who : ℕ) (word rest : List ℕ) → (3 ≤ who) × (who ≤ 6) → IfOk (script_line names who word rest) (IsMadeBy who)
unfolding script_line
script_made names who word rest operator = ok_of_map (IsMadeBy who) (request_entry who) (request_of names word rest) (λ r. (refl, operator))

with_made : (kind : TextKind) (names : Names) (before : ℕ) (w : List ℕ × List ℕ) → is_history kind ≡ false → HasMaker kind
    → IfOk (line_with kind names before (Some w)) (AllByRecursion (IsMadeBy (maker_of kind)))
with_made History names before w other maker = absurd (no other) where
  no : true ≡ false → ⊥
  no e = cc
with_made Stimuli names before w other maker =
    let P : List Entry → Type 0 = AllByRecursion (IsMadeBy 2) in
    either P (bytes_eq w.0 (codes "step")) _ _ (nowhere P step_entries (step_line before (words_of w.1)))
    (either P (bytes_eq w.0 (codes "in")) _ _ (one (IsMadeBy 2) true (input_line (words_of w.1)) (input_made (words_of w.1)))
    (either P (bytes_eq w.0 (codes "arrive")) _ _ (one (IsMadeBy 2) true (arrival_line (words_of w.1)) (arrival_made (words_of w.1)))
    (either P (bytes_eq w.0 (codes "tick")) _ _ (one (IsMadeBy 2) true (tick_line (words_of w.1)) (tick_made (words_of w.1)))
    (either P (bytes_eq w.0 (codes "op")) _ _ (nowhere P one_entry (operator_line names w.1))
    (nowhere P one_entry (script_line names 1 w.0 w.1))))))
with_made (Script who) names before w other maker =
    let P : List Entry → Type 0 = AllByRecursion (IsMadeBy who) in
    either P (bytes_eq w.0 (codes "step")) _ _ (nowhere P step_entries (step_line before (words_of w.1)))
    (either P (bytes_eq w.0 (codes "in")) _ _ (nowhere P one_entry (input_line (words_of w.1)))
    (either P (bytes_eq w.0 (codes "arrive")) _ _ (nowhere P one_entry (arrival_line (words_of w.1)))
    (either P (bytes_eq w.0 (codes "tick")) _ _ (nowhere P one_entry (tick_line (words_of w.1)))
    (either P (bytes_eq w.0 (codes "op")) _ _ (nowhere P one_entry (operator_line names w.1))
    (one (IsMadeBy who) true (script_line names who w.0 w.1) (script_made names who w.0 w.1 maker))))))

line_made : (kind : TextKind) (names : Names) (before : ℕ) (line : List ℕ) → is_history kind ≡ false → HasMaker kind
    → IfOk (line_read kind names before line) (AllByRecursion (IsMadeBy (maker_of kind)))
unfolding line_read
line_made kind names before line other maker =
    either (AllByRecursion (IsMadeBy (maker_of kind))) (is_entry_line_skipped line) _ _ tt (by (first_word line))
  where
    by : (w : Option (List ℕ × List ℕ)) → IfOk (line_with kind names before w) (AllByRecursion (IsMadeBy (maker_of kind)))
    by None = tt
    by (Some w) = with_made kind names before w other maker

-- a line in front of others
first_made : (P : Entry → Type 0) (line : ℕ) (r : Reading (List Entry)) (more : List Entry → Result (List Entry) Refusal)
    → IfOk r (AllByRecursion P) → ((es : List Entry) → IfOk (more es) (AllByRecursion P)) → IfOk (entries_of_line_first line r more) (AllByRecursion P)
first_made P line (Err rule) more h k = tt
first_made P line (Ok es) more h k = by (more es) (k es) where
  by : (r : Result (List Entry) Refusal) → IfOk r (AllByRecursion P) → IfOk (entries_in_front es r) (AllByRecursion P)
  by (Ok rest) all = all_append P es rest h all
  by (Err refusal) all = tt

lines_made : (kind : TextKind) (names : Names) (line before : ℕ) (ls : List (List ℕ)) → is_history kind ≡ false → HasMaker kind
    → IfOk (entries_of_read_lines kind names line before ls) (AllByRecursion (IsMadeBy (maker_of kind)))
unfolding entries_of_read_lines
lines_made kind names line before [] other maker = tt
lines_made kind names line before (text ∷ more) other maker =
    first_made (IsMadeBy (maker_of kind)) line (line_read kind names before text) (λ es. entries_of_read_lines kind names (line + 1) (before + steps_in es) more)
    (line_made kind names before text other maker) (λ es. lines_made kind names (line + 1) (before + steps_in es) more other maker)

text_made : (kind : TextKind) (names : Names) (text : List ℕ) (es : List Entry) → is_history kind ≡ false → HasMaker kind
    → text_read kind names text ≡ Ok es → AllByRecursion (IsMadeBy (maker_of kind)) es
unfolding text_read
text_made kind names text es other maker is =
    subst (λ (r : Result (List Entry) Refusal). IfOk r (AllByRecursion (IsMadeBy (maker_of kind)))) is (lines_made kind names 1 0 (lines text) other maker)

-- the entries of stimuli, and of the script of an operator, are regular ones of their worker
pub text_regular : (kind : TextKind) (names : Names) (text : List ℕ) (es : List Entry) → is_history kind ≡ false → HasMaker kind
    → text_read kind names text ≡ Ok es → All IsValid es → All (λ e. WhatFits e.what) es → All (IsRegularOf (maker_of kind)) es
text_regular kind names text es other maker is valid fits k d within =
    let made = All-from_recursion (IsMadeBy (maker_of kind)) es (text_made kind names text es other maker is) k d within in
    (made.0, record { worker = subst (IsWorkerOf _) (sym made.0) made.1; range = (valid k d within).1; fields = fits k d within })

pub worker_of_maker : (kind : TextKind) → HasMaker kind → HasWorker kind
worker_of_maker History h = tt
worker_of_maker Stimuli h = tt
worker_of_maker (Script who) h = omega (arith, h.0)
