-- Histories as they are written, and read again.
use Rattle.std.proofs.Common.{◌≡◌, ◌≤◌, ◌<◌, ◌+◌, ◌-◌, ◌^◌, ℕ, zero, suc, Bool, true, false, ◌&&◌, not, cond, eqb, List, [], ◌∷◌, ◌++◌, length, replicate, Ok, refl, ap, sym, ◌∙◌, arith, subst, decimal, get_or, codes, append_assoc, append-nil}
use Rattle.std.specs.Char.{is_ascii_digit, is_ascii_hexdigit}
use Rattle.std.specs.List.{All, AllByRecursion, slice_split, onto_first, list_all}
use Rattle.std.specs.Str.Lines.{lines, lines_of_parts, strip_carriage_return}
use Rattle.std.proofs.lemmas.Bool.Decides.{nat_tests}
use Rattle.std.proofs.lemmas.List.Elements.{recursion_from_All}
use Rattle.std.proofs.lemmas.List.Folds.{sum_by-replicate}
use Rattle.std.proofs.lemmas.List.Sums.{sum_by-append}
use Rattle.plc_base.proofs.TruthLemmas.{and_first, and_second}
use Rattle.plc_base.specs.Widths.{bit_count}
use Rattle.plc_base.specs.declared.blocks.BlockKind.{BlockKind}
use Rattle.plc_base.specs.declared.blocks.BlockKind.TheVariants.{Ob, Fc, Fb, Db as DbKind, Sfc, Udt}
use Rattle.plc_base.specs.declared.places.Width.{Width}
use Rattle.plc_base.specs.declared.places.Width.TheVariants.{Bit, Byte, Word, Dword}
use Rattle.flat_code.specs.Names.{find}
use Rattle.flat_code.specs.Programs.{NameEntry}
use Rattle.monitor.specs.LineText.{hex_text, kind_text}
use Rattle.var_access.specs.Runs.{is_step}
use Rattle.var_access.specs.Variables.{Names}
use Rattle.var_access.specs.declared.entries.Entry.{Entry}
use Rattle.var_access.specs.declared.entries.What.{What}
use Rattle.var_access.specs.declared.entries.What.TheVariants.{Step, Input, Arrive, Tick, Ask}
use Rattle.var_access.specs.declared.requests.Request.{Request}
use Rattle.var_access.specs.declared.requests.Request.TheVariants.{ReadVars, WriteVar, Stop, Restart, MonitorOn, MonitorOff, Diag}
use Rattle.var_access.specs.declared.requests.Var.{Var}
use Rattle.event_text.specs.declared.kinds.TextKind.TheVariants.{History}
use Rattle.event_text.specs.Lines.{most_steps, line_read}
use Rattle.event_text.specs.Regular.{IsRegular}
use Rattle.event_text.specs.Texts.{steps_in, entries_in_front, entries_of_line_first, entries_of_read_lines, text_read, history_of_text}
use Rattle.event_text.specs.Workers.{one_step, operator_of}
use Rattle.event_text.specs.HistoryText.{var_text, more_vars_text, vars_text, value_text, arrival_text, request_text, what_text, entry_line, steps_text, history_text_behind, history_text}
use Rattle.event_text.proofs.AddressLemmas.{IsAddress, AreAddresses, IsWritable, writable}
use Rattle.event_text.proofs.ByteLemmas.{split-at, Each, each-append, each-weaker, Implies, Excludes}
use Rattle.event_text.proofs.EntryLineLemmas.{byte-small, ob-small, operator-is, steps-line, entry-read}
use Rattle.event_text.proofs.NumberLemmas.{numeral, hex-text}
use Rattle.event_text.proofs.RequestLemmas.{is_shown, var-shown}

-- ---- lines

-- bytes that end no line
abbrev is_inner : ℕ → Bool
is_inner b = not (eqb b 10) && not (eqb b 13)

abbrev is_feed : ℕ → Bool
is_feed b = eqb b 10

inner-feed : Excludes is_inner is_feed
inner-feed b h = grind (arith, nat_tests)

inner-at : (t : List ℕ) (i : ℕ) → Each is_inner t → eqb (get_or t i 0) 13 ≡ false
inner-at [] i h = refl
inner-at (b ∷ t) zero h = grind (arith, nat_tests, h.0)
inner-at (b ∷ t) (suc i) h = inner-at t i h.1

-- its last byte is no carriage return
strip-none : (t : List ℕ) → Each is_inner t → strip_carriage_return t ≡ t
strip-none t h = rw (inner-at t (length t - 1) h) refl

onto_first-more : (line : List ℕ) (b : ℕ) (parts : List (List ℕ)) → lines_of_parts (line ∷ onto_first b parts) ≡ strip_carriage_return line ∷ lines_of_parts (onto_first b parts)
onto_first-more line b [] = refl
onto_first-more line b (part ∷ parts) = refl

-- another part always follows a line feed
parts-more : (line text : List ℕ) → lines_of_parts (line ∷ slice_split is_feed text) ≡ strip_carriage_return line ∷ lines_of_parts (slice_split is_feed text)
parts-more line [] = refl
parts-more line (b ∷ text) =
    elim (is_feed b) as (λ v. lines_of_parts (line ∷ cond v ([] ∷ slice_split is_feed text) (onto_first b (slice_split is_feed text))) ≡ strip_carriage_return line ∷ lines_of_parts (cond v ([] ∷ slice_split is_feed text) (onto_first b (slice_split is_feed text))))
    [ true ↦ refl | false ↦ onto_first-more line b (slice_split is_feed text) ]

-- a line in front of others
line-first : (t rest : List ℕ) → Each is_inner t → lines (t ++ 10 ∷ rest) ≡ t ∷ lines rest
line-first t rest h =
    ap lines_of_parts (split-at is_inner is_feed inner-feed t 10 rest h refl) ∙ parts-more t rest
    ∙ ap (λ u. u ∷ lines rest) (strip-none t h)

no-line : lines [] ≡ []
no-line = refl

-- ---- the bytes of an entry's line

shown-inner : Implies is_shown is_inner
shown-inner b h = grind (arith, nat_tests)

digit-inner : Implies is_ascii_digit is_inner
digit-inner b h = grind (arith, nat_tests)

hex-inner : Implies is_ascii_hexdigit is_inner
hex-inner b h = grind (arith, nat_tests)

number-inner : (n : ℕ) → n < 2 ^ 64 → Each is_inner (decimal n)
number-inner n h = each-weaker is_ascii_digit is_inner digit-inner _ (numeral n h).digits

hex-text-inner : (digits n : ℕ) → n < 16 ^ digits → Each is_inner (hex_text digits n)
hex-text-inner digits n h = each-weaker is_ascii_hexdigit is_inner hex-inner _ (hex-text digits n h).each

-- a text that computes to its bytes
abbrev all-inner : List ℕ → Type 0
all-inner t = list_all is_inner t ≡ true

inner-by : (t : List ℕ) → all-inner t → Each is_inner t
inner-by [] h = tt
inner-by (b ∷ t) h = (and_first (is_inner b) (list_all is_inner t) h, inner-by t (and_second (is_inner b) (list_all is_inner t) h))

var-inner : (v : Var) → IsAddress v → Each is_inner (var_text v)
var-inner v h = each-weaker is_shown is_inner shown-inner _ (var-shown v h)

more-inner : (vs : List Var) → AreAddresses vs → Each is_inner (more_vars_text vs)
more-inner [] h = tt
more-inner (v ∷ vs) h = (refl, (refl, each-append is_inner (var_text v) (more_vars_text vs) (var-inner v h.0) (more-inner vs h.1)))

vars-inner : (vs : List Var) → AreAddresses vs → Each is_inner (vars_text vs)
vars-inner [] h = tt
vars-inner (v ∷ vs) h = each-append is_inner (var_text v) (more_vars_text vs) (var-inner v h.0) (more-inner vs h.1)

value-inner : (w : Width) (n : ℕ) → n < 2 ^ bit_count w → Each is_inner (value_text w n)
unfolding value_text
value-inner Bit n h = number-inner n (omega arith)
value-inner Byte n h = hex-text-inner 2 n (omega arith)
value-inner Word n h = hex-text-inner 4 n (omega arith)
value-inner Dword n h = hex-text-inner 8 n (omega arith)

kind-inner : (k : BlockKind) → Each is_inner (kind_text k)
unfolding kind_text
kind-inner Ob = (refl, (refl, tt))
kind-inner Fc = (refl, (refl, tt))
kind-inner Fb = (refl, (refl, tt))
kind-inner DbKind = (refl, (refl, tt))
kind-inner Sfc = (refl, (refl, (refl, tt)))
kind-inner Udt = (refl, (refl, (refl, tt)))

behind : (s t : List ℕ) → all-inner s → Each is_inner t → Each is_inner (s ++ t)
behind s t h k = each-append is_inner s t (inner-by s h) k

request-inner : (r : Request) → IsWritable r → Each is_inner (request_text r)
unfolding request_text
request-inner (ReadVars vs) h = behind (codes "read ") (vars_text vs) refl (vars-inner vs h.2)
request-inner (WriteVar v n) h =
    behind (codes "write ") _ refl (each-append is_inner (var_text v) _ (var-inner v h.0) (behind (codes " ") _ refl (value-inner v.width n h.1)))
request-inner Stop h = inner-by (codes "stop") refl
request-inner Restart h = inner-by (codes "restart") refl
request-inner (MonitorOn block) h =
    behind (codes "monitor on ") _ refl (each-append is_inner (kind_text block.kind) _ (kind-inner block.kind) (behind (codes " ") _ refl (number-inner block.number (omega (arith, h.1)))))
request-inner MonitorOff h = inner-by (codes "monitor off") refl
request-inner Diag h = inner-by (codes "diag") refl

arrival-inner : (value : ℕ) → value < 2 ^ 32 → Each is_inner (arrival_text value)
arrival-inner zero h = tt
arrival-inner (suc n) h =
    let e : eqb (suc n) 0 ≡ false = grind (arith, nat_tests) in
    rw e (behind (codes " ") (hex_text 8 (suc n)) refl (hex-text-inner 8 (suc n) (omega arith)))

what-inner : (who : ℕ) (what : What) → IsRegular (record { who = who; what = what }) → Each is_inner (what_text who what)
unfolding what_text
what-inner who Step h = inner-by (codes "step 1") refl
what-inner who (Input byte value) h =
    behind (codes "in ") (decimal byte ++ (codes " " ++ hex_text 2 value)) refl
    (each-append is_inner (decimal byte) (codes " " ++ hex_text 2 value) (number-inner byte (omega (arith, byte-small byte h.range)))
    (behind (codes " ") (hex_text 2 value) refl (hex-text-inner 2 value (omega (arith, h.fields)))))
what-inner who (Arrive ob value) h =
    behind (codes "arrive ") (decimal ob ++ arrival_text value) refl
    (each-append is_inner (decimal ob) (arrival_text value) (number-inner ob (omega (arith, ob-small ob h.range))) (arrival-inner value h.fields))
what-inner who (Tick ms) h = behind (codes "tick ") (decimal ms) refl (number-inner ms (omega (arith, h.range)))
what-inner who (Ask r) h =
    behind (codes "op ") (decimal (operator_of who) ++ (codes " " ++ request_text r)) refl
    (each-append is_inner (decimal (operator_of who)) (codes " " ++ request_text r) (number-inner (operator_of who) (omega (arith, operator-is who h.worker.0 h.worker.1)))
    (behind (codes " ") (request_text r) refl (request-inner r (writable r h.range h.fields))))

entry-inner : (e : Entry) → IsRegular e → Each is_inner (what_text e.who e.what)
entry-inner e h = what-inner e.who e.what h

-- ---- a whole history

replicate-more : (n : ℕ) (es : List Entry) → replicate n one_step ++ (one_step ∷ es) ≡ replicate (n + 1) one_step ++ es
replicate-more zero es = refl
replicate-more (suc n) es = ap (λ u. one_step ∷ u) (replicate-more n es) ∙ ap (λ k. replicate k one_step ++ es) (more n) where
  more : (n : ℕ) → suc (n + 1) ≡ suc n + 1
  more n = omega arith

abbrev one-if : Bool → ℕ
one-if v = cond v 1 0

abbrev step-count : Entry → ℕ
step-count e = one-if (is_step e)

steps-replicate : (n : ℕ) → steps_in (replicate n one_step) ≡ n
steps-replicate n = omega (arith, sum_by-replicate step-count n one_step)

pub steps-first : (e : Entry) (es : List Entry) → steps_in (e ∷ es) ≡ step-count e + steps_in es
steps-first e es = omega (arith, sum_by-append step-count (e ∷ []) es)

-- the reading of a line that is right, with those behind it
reads-on : (names : Names) (line before : ℕ) (text : List ℕ) (more : List (List ℕ)) (es rest : List Entry)
    → line_read History names before text ≡ Ok es
    → entries_of_read_lines History names (line + 1) (before + steps_in es) more ≡ Ok rest
    → entries_of_read_lines History names line before (text ∷ more) ≡ Ok (es ++ rest)
unfolding entries_of_read_lines
reads-on names line before text more es rest right behind =
    ap (λ r. entries_of_line_first line r (λ xs. entries_of_read_lines History names (line + 1) (before + steps_in xs) more)) right
    ∙ ap (entries_in_front es) behind

-- what a text behind so many steps is read as
abbrev Reads : Names → (line before : ℕ) → List ℕ → List Entry → Type 0
Reads names line before text es = entries_of_read_lines History names line before (lines text) ≡ Ok es

nothing-read : (names : Names) (line before : ℕ) → Reads names line before [] []
unfolding entries_of_read_lines
nothing-read names line before = refl

step-text-inner : (n : ℕ) → n ≤ most_steps → Each is_inner (codes "step " ++ decimal n)
step-text-inner n most = behind (codes "step ") (decimal n) refl (number-inner n (omega arith))

behind-steps : (names : Names) (line before k : ℕ) (tail : List ℕ) (es : List Entry) → before + k ≤ most_steps
    → ((line' : ℕ) → Reads names line' (before + k) tail es)
    → Reads names line before (steps_text k ++ tail) (replicate k one_step ++ es)
behind-steps names line before zero tail es few more =
    subst (λ (n : ℕ). Reads names line n tail es) zero-right (more line) where
      zero-right : before + 0 ≡ before
      zero-right = omega arith
behind-steps names line before (suc n) tail es few more =
    let text : List ℕ = codes "step " ++ decimal (suc n) in
    let cut : lines (steps_text (suc n) ++ tail) ≡ text ∷ lines tail =
    ap (λ t. lines (codes "step " ++ t)) (append_assoc (decimal (suc n)) (10 ∷ []) tail)
    ∙ ap lines (sym (append_assoc (codes "step ") (decimal (suc n)) (10 ∷ tail)))
    ∙ line-first text tail (step-text-inner (suc n) (omega arith)) in
    let count : steps_in (replicate (suc n) one_step) ≡ suc n = steps-replicate (suc n) in
    ap (entries_of_read_lines History names line before) cut
    ∙ reads-on names line before text (lines tail) (replicate (suc n) one_step) es
    (steps-line names before (suc n) (omega arith) (omega arith))
    (subst (λ (m : ℕ). entries_of_read_lines History names (line + 1) (before + m) (lines tail) ≡ Ok es) (sym count) (more (line + 1)))

differ : {A : Type 0} → false ≡ true → A
differ p = absurd (no p) where
  no : false ≡ true → ⊥
  no e = cc

-- a step of a regular history is made by worker 1
step-is : (e : Entry) → IsRegular e → is_step e ≡ true → one_step ≡ e
step-is e h is = by e.who e.what h is where
  by : (who : ℕ) (what : What) → IsRegular (record { who = who; what = what }) → is_step (record { who = who; what = what }) ≡ true → one_step ≡ record { who = who; what = what }
  by who Step h is = ap (λ w. record { who = w; what = Step }) (sym h.worker)
  by who (Input byte value) h is = differ is
  by who (Arrive ob value) h is = differ is
  by who (Tick ms) h is = differ is
  by who (Ask r) h is = differ is

steps-end : (k : ℕ) → steps_text k ≡ steps_text k ++ []
steps-end k = sym (append-nil (steps_text k))

entry-lines : (e : Entry) (rest : List ℕ) → IsRegular e → lines (entry_line e ++ rest) ≡ what_text e.who e.what ∷ lines rest
entry-lines e rest h =
    ap lines (append_assoc (what_text e.who e.what) (10 ∷ []) rest) ∙ line-first (what_text e.who e.what) rest (entry-inner e h)

from-read : (names : Names) (line before k : ℕ) (es : List Entry) → AllByRecursion IsRegular es → before + (k + steps_in es) ≤ most_steps
    → Reads names line before (history_text_behind k es) (replicate k one_step ++ es)
unfolding history_text_behind
from-read names line before k [] h few =
    ap (λ t. entries_of_read_lines History names line before (lines t)) (steps-end k)
    ∙ behind-steps names line before k [] [] (omega arith) (λ line'. nothing-read names line' (before + k))
from-read names line before k (e ∷ es) h few = by (is_step e) refl
    (λ is. from-read names line before (k + 1) es h.1 (omega (arith, steps-first e es, ap one-if is)))
    (λ is line'. from-read names (line' + 1) (before + k + steps_in (e ∷ [])) 0 es h.1 (omega (arith, steps-first e es, steps-first e [])))
  where
    by : (v : Bool) → is_step e ≡ v
        → (v ≡ true → Reads names line before (history_text_behind (k + 1) es) (replicate (k + 1) one_step ++ es))
        → (v ≡ false → (line' : ℕ) → Reads names (line' + 1) (before + k + steps_in (e ∷ [])) (history_text_behind 0 es) es)
        → Reads names line before (history_text_behind k (e ∷ es)) (replicate k one_step ++ e ∷ es)
    by true is steps-more more =
        rw is (steps-more refl ∙ ap Ok (sym (replicate-more k es)) ∙ ap (λ x. Ok (replicate k one_step ++ (x ∷ es))) (step-is e h.0 is))
    by false is steps-more more =
        rw is (behind-steps names line before k (entry_line e ++ history_text_behind 0 es) (e ∷ es) (omega arith)
        (λ line'. ap (entries_of_read_lines History names line' (before + k)) (entry-lines e (history_text_behind 0 es) h.0)
        ∙ reads-on names line' (before + k) (what_text e.who e.what) (lines (history_text_behind 0 es)) (e ∷ []) es (entry-read names (before + k) e h.0 is)
        (more refl line')))

pub written_is_read : (names : List NameEntry) (es : List Entry)
    → All IsRegular es → steps_in es ≤ most_steps → history_of_text names (history_text es) ≡ Ok es
unfolding history_text text_read
written_is_read names es h few = from-read (find names) 1 0 0 es (recursion_from_All IsRegular es h) (omega arith)
