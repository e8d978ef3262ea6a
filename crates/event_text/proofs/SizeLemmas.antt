-- Stimuli and scripts have four bytes at least for each entry.
use Rattle.std.proofs.Common.{◌≡◌, ◌+◌, ◌*◌, ◌≤◌, ℕ, suc, Bool, true, false, cond, List, [], ◌∷◌, ◌++◌, length, take, drop, filter, eqb, Option, Some, None, Ok, Err, Result, refl, ap, sym, arith, bytes_eq, codes}
use Rattle.std.specs.List.{slice_split, onto_first, prefix_len, position_or_len}
use Rattle.std.specs.Str.Lines.{lines, lines_of_parts, strip_carriage_return}
use Rattle.std.proofs.lemmas.Grind.{common_steps}
use Rattle.std.proofs.lemmas.List.{length-append, take-append-drop}
use Rattle.std.proofs.lemmas.Slice.Eq.{bytes_eq-Decides}
use Rattle.std.proofs.lemmas.Bool.{eqb-true}
use Rattle.plc_base.specs.AreaBytes.{is_peripheral_byte}
use Rattle.plc_base.specs.Texts.{is_blank}
use Rattle.plc_base.specs.declared.refusals.Refusal.{Refusal}
use Rattle.var_access.specs.Readings.{Reading, address_number, both_readings, reading_map, hex_of, is_hex, behind_blanks, leading_word, first_word, is_nonempty_part, words_of}
use Rattle.var_access.specs.Requests.{request_of}
use Rattle.var_access.specs.Variables.{Names}
use Rattle.var_access.specs.declared.entries.Entry.{Entry}
use Rattle.var_access.specs.declared.requests.Request.{Request}
use Rattle.event_text.specs.Lines.{one_entry, step_entries, number_among, input_line, arrival_line, tick_line, step_line, operator_line, script_line, is_history, has_feeder_lines, is_script, script_worker, where_allowed, line_with, is_entry_line_skipped, line_read}
use Rattle.event_text.specs.Texts.{entries_in_front, entries_of_line_first, entries_of_read_lines, steps_in, text_read}
use Rattle.event_text.specs.Workers.{request_entry}
use Rattle.event_text.specs.declared.kinds.TextKind.{TextKind}

-- how many bytes texts have together
abbrev bytes_in : List (List ℕ) → ℕ
bytes_in [] = 0
bytes_in (t ∷ ts) = length t + bytes_in ts

onto-first : (b : ℕ) (parts : List (List ℕ)) → bytes_in (onto_first b parts) ≤ suc (bytes_in parts)
onto-first b [] = omega arith
onto-first b (part ∷ parts) = omega arith

split-bytes : (p : ℕ → Bool) (t : List ℕ) → bytes_in (slice_split p t) ≤ length t
split-bytes p [] = omega arith
split-bytes p (b ∷ t) = by (p b) (split-bytes p t) where
  by : (v : Bool) → bytes_in (slice_split p t) ≤ length t → bytes_in (cond v ([] ∷ slice_split p t) (onto_first b (slice_split p t))) ≤ length (b ∷ t)
  by true rest = omega (arith, rest)
  by false rest = omega (arith, rest, onto-first b (slice_split p t))

strip-shorter : (t : List ℕ) → length (strip_carriage_return t) ≤ length t
strip-shorter t = grind (arith, common_steps)

parts-bytes : (parts : List (List ℕ)) → bytes_in (lines_of_parts parts) ≤ bytes_in parts
parts-bytes [] = omega arith
parts-bytes (x ∷ []) = by (eqb (length x) 0) where
  by : (v : Bool) → bytes_in (cond v [] (x ∷ [])) ≤ length x + 0
  by true = omega arith
  by false = omega arith
parts-bytes (x ∷ y ∷ more) = omega (arith, strip-shorter x, parts-bytes (y ∷ more))

-- the lines of a text have no more bytes than the text
lines-bytes : (t : List ℕ) → bytes_in (lines t) ≤ length t
lines-bytes t = omega (arith, parts-bytes (slice_split (λ b. eqb b 10) t), split-bytes (λ b. eqb b 10) t)

filter-bytes : (parts : List (List ℕ)) → bytes_in (filter is_nonempty_part parts) ≤ bytes_in parts
filter-bytes [] = omega arith
filter-bytes ([] ∷ parts) = omega (arith, filter-bytes parts)
filter-bytes ((b ∷ t) ∷ parts) = omega (arith, filter-bytes parts)

words-bytes : (t : List ℕ) → bytes_in (words_of t) ≤ length t
unfolding words_of
words-bytes t = omega (arith, filter-bytes (slice_split is_blank t), split-bytes is_blank t)

take-drop-length : (n : ℕ) (t : List ℕ) → length (take n t) + length (drop n t) ≡ length t
take-drop-length n t = omega (arith, sym (length-append (take n t) (drop n t)), ap length (take-append-drop n t))

behind-shorter : (t : List ℕ) → length (behind_blanks t) ≤ length t
unfolding behind_blanks
behind-shorter t = omega (arith, take-drop-length (prefix_len is_blank t) t)

-- a line's first word and what follows it are no longer than the line
first-follows : (line : List ℕ) (w : List ℕ × List ℕ) → first_word line ≡ Some w → length w.0 + length w.1 ≤ length line
unfolding first_word
first-follows line w is = by (behind_blanks line) is (behind-shorter line) where
  by : (t : List ℕ) → leading_word t ≡ Some w → length t ≤ length line → length w.0 + length w.1 ≤ length line
  by [] none shorter = absurd (differ none) where
    differ : {A : Type 0} {a : A} → None ≡ Some a → ⊥
    differ e = cc
  by (b ∷ t) some shorter =
      let n : ℕ = position_or_len is_blank (b ∷ t) in
      let same : (take n (b ∷ t), drop n (b ∷ t)) ≡ w = inside some in
      omega (arith, take-drop-length n (b ∷ t), ap (λ (x : List ℕ × List ℕ). length x.0) same, ap (λ (x : List ℕ × List ℕ). length x.1) same, shorter) where
        inside : {A : Type 0} {x y : A} → Some x ≡ Some y → x ≡ y
        inside e = cc

-- ---- one line

differ : {A : Type 0} {a : A} {rule : ℕ} → Err rule ≡ Ok a → ⊥
differ e = cc

same : {A : Type 0} {a b : A} → ◌≡◌ {A = Reading A} (Ok a) (Ok b) → a ≡ b
same {A} {a} {b} is = ap value is where
  value : Reading A → A
  value (Ok x) = x
  value (Err rule) = a

pick : {A P : Type 0} (test : Bool) (x y : Reading A) (a : A) → cond test x y ≡ Ok a → (test ≡ true → x ≡ Ok a → P) → (test ≡ false → y ≡ Ok a → P) → P
pick true x y a is passed failed = passed refl is
pick false x y a is passed failed = failed refl is

word-length : (w t : List ℕ) → bytes_eq w t ≡ true → length w ≡ length t
word-length w t is = ap length ((bytes_eq-Decides w t).0 is)

-- an entry that is read on its line
record IsOne (r : Reading Entry) (es : List Entry) : Type 0 where
  count : length es ≡ 1
  entry : Entry
  read : r ≡ Ok entry

one-read : (stands : Bool) (r : Reading Entry) (es : List Entry) → reading_map one_entry (where_allowed stands r) ≡ Ok es → IsOne r es
one-read true (Ok e) es is = record { count = ap length (sym (same is)); entry = e; read = refl }
one-read true (Err rule) es is = absurd (differ is)
one-read false (Ok e) es is = absurd (differ is)
one-read false (Err rule) es is = absurd (differ is)

elsewhere : {A B : Type 0} (f : A → B) (stands : Bool) (r : Reading A) (b : B) → stands ≡ false → reading_map f (where_allowed stands r) ≡ Ok b → ⊥
elsewhere f true r b stands is = absurd (no stands) where
  no : true ≡ false → ⊥
  no e = cc
elsewhere f false (Ok a) b stands is = differ is
elsewhere f false (Err rule) b stands is = differ is

hex-length : (digits : ℕ) (word : List ℕ) (n : ℕ) → hex_of digits word ≡ Ok n → length word ≡ digits
unfolding hex_of
hex-length digits word n is =
    pick (is_hex word) _ _ n is
    (λ hex as_long. pick (eqb (length word) digits) _ _ n as_long (λ long read. eqb-true (length word) digits long) (λ long read. absurd (differ read)))
    (λ other wrong. absurd (differ wrong))

second-read : {A B C : Type 0} (f : A × B → C) (a : Reading A) (b : Reading B) (c : C) → reading_map f (both_readings a b) ≡ Ok c → (x : B) × (b ≡ Ok x)
second-read f (Ok a) (Ok b) c is = (b, refl)
second-read f (Ok a) (Err rule) c is = absurd (differ is)
second-read f (Err rule) (Ok b) c is = absurd (differ is)
second-read f (Err rule) (Err other) c is = absurd (differ is)

input-long : (words : List (List ℕ)) (e : Entry) → input_line words ≡ Ok e → 2 ≤ bytes_in words
unfolding input_line
input-long [] e is = absurd (differ is)
input-long (byte ∷ []) e is = absurd (differ is)
input-long (byte ∷ value ∷ []) e is =
    let v = second-read _ (number_among is_peripheral_byte (address_number byte)) (hex_of 2 value) e is in
    omega (arith, hex-length 2 value v.0 v.1)
input-long (byte ∷ value ∷ word ∷ words) e is = absurd (differ is)

request-long : (names : Names) (word rest : List ℕ) (r : Request) → request_of names word rest ≡ Ok r → 4 ≤ length word
unfolding request_of
request-long names word rest r is =
    pick (bytes_eq word (codes "read")) _ _ r is (λ w x. omega (arith, word-length word (codes "read") w))
    (λ w is. pick (bytes_eq word (codes "write")) _ _ r is (λ w x. omega (arith, word-length word (codes "write") w))
    (λ w is. pick (bytes_eq word (codes "stop")) _ _ r is (λ w x. omega (arith, word-length word (codes "stop") w))
    (λ w is. pick (bytes_eq word (codes "restart")) _ _ r is (λ w x. omega (arith, word-length word (codes "restart") w))
    (λ w is. pick (bytes_eq word (codes "monitor")) _ _ r is (λ w x. omega (arith, word-length word (codes "monitor") w))
    (λ w is. pick (bytes_eq word (codes "diag")) _ _ r is (λ w x. omega (arith, word-length word (codes "diag") w))
    (λ w is. absurd (differ is)))))))

script-long : (names : Names) (who : ℕ) (word rest : List ℕ) (e : Entry) → script_line names who word rest ≡ Ok e → 4 ≤ length word
unfolding script_line
script-long names who word rest e is = by (request_of names word rest) refl is where
  by : (r : Reading Request) → request_of names word rest ≡ r → reading_map (request_entry who) r ≡ Ok e → 4 ≤ length word
  by (Ok request) at x = request-long names word rest request at
  by (Err rule) at x = absurd (differ x)

with-size : (kind : TextKind) (names : Names) (before : ℕ) (w : List ℕ × List ℕ) (es : List Entry) → is_history kind ≡ false
    → line_with kind names before (Some w) ≡ Ok es → 4 * length es ≤ length w.0 + length w.1
with-size kind names before w es other is =
    pick (bytes_eq w.0 (codes "step")) _ _ es is (λ t x. absurd (elsewhere step_entries (is_history kind) (step_line before (words_of w.1)) es other x))
    (λ t is. pick (bytes_eq w.0 (codes "in")) _ _ es is
    (λ t x. let o = one-read (has_feeder_lines kind) (input_line (words_of w.1)) es x in
    omega (arith, o.count, word-length w.0 (codes "in") t, input-long (words_of w.1) o.entry o.read, words-bytes w.1))
    (λ t is. pick (bytes_eq w.0 (codes "arrive")) _ _ es is
    (λ t x. let o = one-read (has_feeder_lines kind) (arrival_line (words_of w.1)) es x in omega (arith, o.count, word-length w.0 (codes "arrive") t))
    (λ t is. pick (bytes_eq w.0 (codes "tick")) _ _ es is
    (λ t x. let o = one-read (has_feeder_lines kind) (tick_line (words_of w.1)) es x in omega (arith, o.count, word-length w.0 (codes "tick") t))
    (λ t is. pick (bytes_eq w.0 (codes "op")) _ _ es is
    (λ t x. absurd (elsewhere one_entry (is_history kind) (operator_line names w.1) es other x))
    (λ t is. let o = one-read (is_script kind) (script_line names (script_worker kind) w.0 w.1) es is in
    omega (arith, o.count, script-long names (script_worker kind) w.0 w.1 o.entry o.read))))))

line-size : (kind : TextKind) (names : Names) (before : ℕ) (line : List ℕ) (es : List Entry) → is_history kind ≡ false
    → line_read kind names before line ≡ Ok es → 4 * length es ≤ length line
unfolding line_read
line-size kind names before line es other is =
    pick (is_entry_line_skipped line) _ _ es is (λ t x. omega (arith, ap (λ (xs : List Entry). length xs) (same x)))
    (λ t x. by (first_word line) refl x)
  where
    by : (w : Option (List ℕ × List ℕ)) → first_word line ≡ w → line_with kind names before w ≡ Ok es → 4 * length es ≤ length line
    by None at x = absurd (differ x)
    by (Some w) at x = omega (arith, with-size kind names before w es other x, first-follows line w at)

-- ---- a text

differ-refusal : {A : Type 0} {a : A} {refusal : Refusal} → Err refusal ≡ Ok a → ⊥
differ-refusal e = cc

same-entries : {a b : List Entry} → ◌≡◌ {A = Result (List Entry) Refusal} (Ok a) (Ok b) → a ≡ b
same-entries {a} {b} is = ap value is where
  value : Result (List Entry) Refusal → List Entry
  value (Ok es) = es
  value (Err refusal) = a

lines-size : (kind : TextKind) (names : Names) (line before : ℕ) (ls : List (List ℕ)) (es : List Entry) → is_history kind ≡ false
    → entries_of_read_lines kind names line before ls ≡ Ok es → 4 * length es ≤ bytes_in ls
unfolding entries_of_read_lines
lines-size kind names line before [] es other is = omega (arith, ap (λ (xs : List Entry). length xs) (same-entries is))
lines-size kind names line before (text ∷ more) es other is =
    by (line_read kind names before text) refl is (λ xs ys at. lines-size kind names (line + 1) (before + steps_in xs) more ys other at)
  where
    behind : (xs : List Entry) (r : Result (List Entry) Refusal) → entries_in_front xs r ≡ Ok es → (ys : List Entry) × (r ≡ Ok ys) × (es ≡ xs ++ ys)
    behind xs (Ok ys) at = (ys, refl, sym (same-entries at))
    behind xs (Err refusal) at = absurd (differ-refusal at)

    by : (r : Reading (List Entry)) → line_read kind names before text ≡ r
        → entries_of_line_first line r (λ xs. entries_of_read_lines kind names (line + 1) (before + steps_in xs) more) ≡ Ok es
        → ((xs ys : List Entry) → entries_of_read_lines kind names (line + 1) (before + steps_in xs) more ≡ Ok ys → 4 * length ys ≤ bytes_in more)
        → 4 * length es ≤ length text + bytes_in more
    by (Ok xs) at x rest =
        let b = behind xs (entries_of_read_lines kind names (line + 1) (before + steps_in xs) more) x in
        omega (arith, line-size kind names before text xs other at, rest xs b.0 b.1, ap (λ (zs : List Entry). length zs) b.2, length-append xs b.0)
    by (Err rule) at x rest = absurd (differ-refusal x)

-- four bytes at least for each entry
pub text_size : (kind : TextKind) (names : Names) (text : List ℕ) (es : List Entry) → is_history kind ≡ false
    → text_read kind names text ≡ Ok es → 4 * length es ≤ length text
unfolding text_read
text_size kind names text es other is = omega (arith, lines-size kind names 1 0 (lines text) es other is, lines-bytes text)
