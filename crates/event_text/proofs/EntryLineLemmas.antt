-- The line of an entry, as it is written, is read as that entry.
use Rattle.std.proofs.Common.{◌≡◌, ◌≤◌, ◌<◌, ◌+◌, ◌-◌, ◌^◌, ℕ, zero, suc, Bool, true, false, eqb, List, [], ◌∷◌, ◌++◌, length, replicate, Some, Ok, refl, ap, sym, ◌∙◌, arith, decimal, nat_le, nat_eq, codes, append-nil}
use Rattle.std.specs.List.{starts_with}
use Rattle.std.proofs.lemmas.Bool.Decides.{nat_tests}
use Rattle.std.proofs.lemmas.Grind.{common_steps}
use Rattle.plc_base.specs.AreaBytes.{is_peripheral_byte}
use Rattle.monitor.specs.LineText.{hex_text}
use Rattle.var_access.specs.Entry.{is_arrivable}
use Rattle.var_access.specs.Readings.{Reading, reading_map, number_reading, address_number, hex_of}
use Rattle.var_access.specs.Requests.{request_line}
use Rattle.var_access.specs.Runs.{is_step}
use Rattle.var_access.specs.Variables.{Names}
use Rattle.var_access.specs.declared.entries.Entry.{Entry}
use Rattle.var_access.specs.declared.entries.What.{What}
use Rattle.var_access.specs.declared.entries.What.TheVariants.{Step, Input, Arrive, Tick, Ask}
use Rattle.var_access.specs.declared.requests.Request.{Request}
use Rattle.event_text.specs.declared.kinds.TextKind.TheVariants.{History}
use Rattle.event_text.specs.Lines.{one_entry, step_entries, most_steps, step_count, step_count_behind, step_line, number_among, input_line, arrival_line, tick_line, operator_with, operator_line, line_with, is_entry_line_skipped, line_read}
use Rattle.event_text.specs.Regular.{IsRegular}
use Rattle.event_text.specs.Workers.{request_entry, feeder_entry, one_step, operator_of, worker_of}
use Rattle.event_text.specs.HistoryText.{arrival_text, request_text, what_text}
use Rattle.event_text.proofs.AddressLemmas.{IsWritable, writable}
use Rattle.event_text.proofs.ByteLemmas.{Each, Stops}
use Rattle.event_text.proofs.NumberLemmas.{number-of, number_read, hex_read}
use Rattle.event_text.proofs.RequestLemmas.{request-read, number-word, hex-word}
use Rattle.event_text.proofs.VarLemmas.{both-read}
use Rattle.event_text.proofs.WordLemmas.{is_solid, IsWord, first-word, first-word-behind, words-one, words-two}

-- a line that begins with another byte than `/` isn't skipped
entry-line-taken : (b : ℕ) (t : List ℕ) → starts_with nat_eq (b ∷ t) (codes "//") ≡ false → is_entry_line_skipped (b ∷ t) ≡ false
entry-line-taken b t e =
    let l : eqb (length (b ∷ t)) 0 ≡ false = grind (arith, common_steps) in
    rw l e

-- what a line is read as, by its first word
by-word : (names : Names) (before : ℕ) (w t : List ℕ) → IsWord w → Stops is_solid t → is_entry_line_skipped (w ++ t) ≡ false
    → line_read History names before (w ++ t) ≡ line_with History names before (Some (w, t))
unfolding line_read
by-word names before w t h k s = rw s (ap (line_with History names before) (first-word w t h k))

word-of : (w : List ℕ) → 0 < length w → Each is_solid w → IsWord w
word-of w some solid = record { some = some; solid = solid }

among : (test : ℕ → Bool) (r : Reading ℕ) (n : ℕ) → r ≡ Ok n → test n ≡ true → number_among test r ≡ Ok n
among test r n is passes = ap (number_among test) is ∙ (rw passes refl)

pub byte-small : (n : ℕ) → is_peripheral_byte n ≡ true → n < 65536
byte-small n h = grind (arith, nat_tests)

pub ob-small : (n : ℕ) → is_arrivable n ≡ true → n < 65536
ob-small n h = grind (arith, nat_tests)

byte-ok : (n : ℕ) → is_peripheral_byte n ≡ true → number_among is_peripheral_byte (address_number (decimal n)) ≡ Ok n
byte-ok n h = among is_peripheral_byte (address_number (decimal n)) n (number-of n (byte-small n h)) h

ob-ok : (n : ℕ) → is_arrivable n ≡ true → number_among is_arrivable (address_number (decimal n)) ≡ Ok n
ob-ok n h = among is_arrivable (address_number (decimal n)) n (number-of n (ob-small n h)) h

in-line : (names : Names) (before byte value : ℕ) → is_peripheral_byte byte ≡ true → value < 256
    → line_read History names before (codes "in " ++ (decimal byte ++ (codes " " ++ hex_text 2 value))) ≡ Ok (one_entry (feeder_entry (Input byte value)))
unfolding input_line
in-line names before byte value h small =
    let d : IsWord (decimal byte) = number-word byte (omega (arith, byte-small byte h)) in
    let x : IsWord (hex_text 2 value) = hex-word 2 value (omega arith) (omega arith) in
    by-word names before (codes "in") (32 ∷ (decimal byte ++ 32 ∷ hex_text 2 value)) (word-of (codes "in") (omega arith) (refl, (refl, tt))) refl (entry-line-taken 105 (codes "n" ++ (32 ∷ (decimal byte ++ 32 ∷ hex_text 2 value))) refl)
    ∙ ap (λ ws. reading_map one_entry (input_line ws)) (words-two (decimal byte) (hex_text 2 value) d x)
    ∙ ap (λ r. reading_map one_entry (reading_map (λ p. feeder_entry (Input p.0 p.1)) r))
    (both-read (number_among is_peripheral_byte (address_number (decimal byte))) (hex_of 2 (hex_text 2 value)) byte value (byte-ok byte h) (hex_read 2 value (omega arith) (omega arith)))

arrive-plain : (names : Names) (before ob : ℕ) → is_arrivable ob ≡ true
    → line_read History names before (codes "arrive " ++ (decimal ob ++ [])) ≡ Ok (one_entry (feeder_entry (Arrive ob 0)))
unfolding arrival_line
arrive-plain names before ob h =
    let d : IsWord (decimal ob) = number-word ob (omega (arith, ob-small ob h)) in
    ap (λ t. line_read History names before (codes "arrive " ++ t)) (append-nil (decimal ob))
    ∙ by-word names before (codes "arrive") (32 ∷ decimal ob) (word-of (codes "arrive") (omega arith) (refl, (refl, (refl, (refl, (refl, (refl, tt))))))) refl (entry-line-taken 97 (codes "rrive" ++ (32 ∷ decimal ob)) refl)
    ∙ ap (λ ws. reading_map one_entry (arrival_line ws)) (words-one (decimal ob) d)
    ∙ ap (λ r. reading_map one_entry (reading_map (λ n. feeder_entry (Arrive n 0)) r)) (ob-ok ob h)

arrive-value : (names : Names) (before ob value : ℕ) → is_arrivable ob ≡ true → value < 2 ^ 32
    → line_read History names before (codes "arrive " ++ (decimal ob ++ (codes " " ++ hex_text 8 value))) ≡ Ok (one_entry (feeder_entry (Arrive ob value)))
unfolding arrival_line
arrive-value names before ob value h small =
    let d : IsWord (decimal ob) = number-word ob (omega (arith, ob-small ob h)) in
    let x : IsWord (hex_text 8 value) = hex-word 8 value (omega arith) (omega arith) in
    by-word names before (codes "arrive") (32 ∷ (decimal ob ++ 32 ∷ hex_text 8 value)) (word-of (codes "arrive") (omega arith) (refl, (refl, (refl, (refl, (refl, (refl, tt))))))) refl (entry-line-taken 97 (codes "rrive" ++ (32 ∷ (decimal ob ++ 32 ∷ hex_text 8 value))) refl)
    ∙ ap (λ ws. reading_map one_entry (arrival_line ws)) (words-two (decimal ob) (hex_text 8 value) d x)
    ∙ ap (λ r. reading_map one_entry (reading_map (λ p. feeder_entry (Arrive p.0 p.1)) r))
    (both-read (number_among is_arrivable (address_number (decimal ob))) (hex_of 8 (hex_text 8 value)) ob value (ob-ok ob h) (hex_read 8 value (omega arith) (omega arith)))

arrive-line : (names : Names) (before ob value : ℕ) → is_arrivable ob ≡ true → value < 2 ^ 32
    → line_read History names before (codes "arrive " ++ (decimal ob ++ arrival_text value)) ≡ Ok (one_entry (feeder_entry (Arrive ob value)))
arrive-line names before ob zero h small = arrive-plain names before ob h
arrive-line names before ob (suc n) h small =
    let e : eqb (suc n) 0 ≡ false = grind (arith, nat_tests) in
    rw e (arrive-value names before ob (suc n) h small)

tick-line : (names : Names) (before ms : ℕ) → 1 ≤ ms → ms ≤ 60000
    → line_read History names before (codes "tick " ++ decimal ms) ≡ Ok (one_entry (feeder_entry (Tick ms)))
unfolding tick_line
tick-line names before ms least most =
    by-word names before (codes "tick") (32 ∷ decimal ms) (word-of (codes "tick") (omega arith) (refl, (refl, (refl, (refl, tt))))) refl (entry-line-taken 116 (codes "ick" ++ (32 ∷ decimal ms)) refl)
    ∙ ap (λ ws. reading_map one_entry (tick_line ws)) (words-one (decimal ms) (number-word ms (omega arith)))
    ∙ ap (λ r. reading_map one_entry (reading_map (λ n. feeder_entry (Tick n)) r)) (number_read 1 60000 2 ms (omega arith) least most)

pub operator-is : (who : ℕ) → 3 ≤ who → who ≤ 6 → operator_of who ≡ who - 2
operator-is who least most =
    let a : nat_le 3 who ≡ true = grind (arith, nat_tests) in
    let b : nat_le who 6 ≡ true = grind (arith, nat_tests) in
    rw (a, b) refl

op-line : (names : Names) (before who : ℕ) (r : Request) → 3 ≤ who → who ≤ 6 → IsWritable r
    → line_read History names before (codes "op " ++ (decimal (operator_of who) ++ (codes " " ++ request_text r))) ≡ Ok (one_entry (request_entry who r))
unfolding operator_line
op-line names before who r least most h =
    let k : ℕ = who - 2 in
    let d : IsWord (decimal k) = number-word k (omega arith) in
    let back : k + 2 ≡ who = omega arith in
    ap (λ n. line_read History names before (codes "op " ++ (decimal n ++ (codes " " ++ request_text r)))) (operator-is who least most)
    ∙ by-word names before (codes "op") (32 ∷ (decimal k ++ (32 ∷ request_text r))) (word-of (codes "op") (omega arith) (refl, (refl, tt))) refl (entry-line-taken 111 (codes "p" ++ (32 ∷ (decimal k ++ (32 ∷ request_text r)))) refl)
    ∙ ap (λ w. reading_map one_entry (operator_with names w)) (first-word-behind (decimal k) (32 ∷ request_text r) d refl)
    ∙ ap (λ x. reading_map one_entry (reading_map (λ p. request_entry (worker_of p.0) p.1) x))
    (both-read (number_reading 1 4 5 (decimal k)) (request_line names (32 ∷ request_text r)) k r (number_read 1 4 5 k (omega arith) (omega arith) (omega arith)) (request-read names r h))
    ∙ ap (λ w. Ok (one_entry (request_entry w r))) back

-- the line `step n`
pub steps-line : (names : Names) (before n : ℕ) → 1 ≤ n → before + n ≤ most_steps
    → line_read History names before (codes "step " ++ decimal n) ≡ Ok (replicate n one_step)
unfolding step_line
steps-line names before n least most =
    let le : nat_le (before + n) most_steps ≡ true = grind (arith, nat_tests) in
    by-word names before (codes "step") (32 ∷ decimal n) (word-of (codes "step") (omega arith) (refl, (refl, (refl, (refl, tt))))) refl (entry-line-taken 115 (codes "tep" ++ (32 ∷ decimal n)) refl)
    ∙ ap (λ ws. reading_map step_entries (step_count_behind before (step_count ws))) (words-one (decimal n) (number-word n (omega arith)))
    ∙ ap (λ r. reading_map step_entries (step_count_behind before r)) (number_read 1 1000000 2 n (omega arith) least (omega arith))
    ∙ (rw le refl)

-- the line of another entry
pub entry-read : (names : Names) (before : ℕ) (e : Entry) → IsRegular e → is_step e ≡ false
    → line_read History names before (what_text e.who e.what) ≡ Ok (one_entry e)
unfolding what_text
entry-read names before e h not-step = by e.who e.what h not-step where
  by : (who : ℕ) (what : What) → IsRegular (record { who = who; what = what }) → is_step (record { who = who; what = what }) ≡ false
      → line_read History names before (what_text who what) ≡ Ok (one_entry (record { who = who; what = what }))
  by who Step h e = absurd (differ e) where
    differ : true ≡ false → ⊥
    differ p = cc
  by who (Input byte value) h e = in-line names before byte value h.range (omega (arith, h.fields)) ∙ ap (λ w. Ok (one_entry (record { who = w; what = Input byte value }))) (sym h.worker)
  by who (Arrive ob value) h e = arrive-line names before ob value h.range h.fields ∙ ap (λ w. Ok (one_entry (record { who = w; what = Arrive ob value }))) (sym h.worker)
  by who (Tick ms) h e = tick-line names before ms h.range.0 h.range.1 ∙ ap (λ w. Ok (one_entry (record { who = w; what = Tick ms }))) (sym h.worker)
  by who (Ask r) h e = op-line names before who r h.worker.0 h.worker.1 (writable r h.range h.fields)
