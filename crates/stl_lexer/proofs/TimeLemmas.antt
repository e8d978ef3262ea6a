-- Time literals are parts whose units fall.
use Rattle.std.proofs.Common.{◌≡◌, ℕ, ◌+◌, ◌*◌, ◌<◌, ◌≤◌, ◌⊎◌, Bool, true, false, ◌&&◌, List, [], ◌∷◌, ◌++◌, length, take, drop, map, Option, None, Some, inl, inr, refl, sym, ◌∙◌, ap, subst, arith, lit<}
use Rattle.std.specs.Prelude.{◌==◌, nat_lt, nat_le, option_map, if◌then◌else◌, fold}
use Rattle.std.specs.List.{list_all, prefix_len}
use Rattle.std.specs.Char.{is_ascii_digit, is_ascii_alphabetic, to_ascii_lowercase}
use Rattle.std.specs.Str.{str_eq_ignore_ascii_case, str_to_ascii_lowercase}
use Rattle.std.proofs.lemmas.Bool.{and_parts, and_from, cases_Bool, eqb-true, eq-eqb, ne_eqb, ltb-true, lt-ltb, false≢true, false_from_ne_true}
use Rattle.std.proofs.lemmas.Bool.Decides.{nat_tests}
use Rattle.std.proofs.lemmas.List.{append_assoc, append-nil, take_at, drop_at, take-append-drop, nil_from_length}
use Rattle.std.proofs.lemmas.List.Folds.{prefix_len-append}
use Rattle.std.proofs.lemmas.Slice.Eq.{bytes_eq-Decides}
use Rattle.stl_lexer.specs.declared.times.TimeUnit.{TimeUnit}
use Rattle.stl_lexer.specs.declared.times.TimeUnit.TheVariants.{Day, Hour, Minute, Second, Millisecond}
use Rattle.stl_lexer.specs.Bytes.{underscore}
use Rattle.stl_lexer.specs.TimeLiteral.{time_units, letters_of_unit, milliseconds_of_unit, part_digits, behind_digits, part_letters, behind_part, is_part, behind_underscore, part_value, milliseconds, TimePart, IsTimePart, SpellsTime, UnitsFallBelow, total_milliseconds, IsTime, ReadsTimes}
use Rattle.stl_lexer.proofs.RuleLemmas.{all_run}
use Rattle.stl_lexer.proofs.RunLemmas.{run_passes}

-- ---- letters

same_lower : (u : TimeUnit) (l : List ℕ) → str_eq_ignore_ascii_case (letters_of_unit u) l ≡ true → str_to_ascii_lowercase (letters_of_unit u) ≡ str_to_ascii_lowercase l
same_lower u l e = (bytes_eq-Decides (str_to_ascii_lowercase (letters_of_unit u)) (str_to_ascii_lowercase l)).0 e

is_lower : ℕ → Bool
is_lower c = nat_le 97 c && nat_le c 122

letter_from_lower : (c : ℕ) → is_lower (to_ascii_lowercase c) ≡ true → is_ascii_alphabetic c ≡ true
unfolding is_lower
letter_from_lower c e = grind (arith, nat_tests)

letters_from_lower : (l ks : List ℕ) → ks ≡ map to_ascii_lowercase l → list_all is_lower ks ≡ true → list_all is_ascii_alphabetic l ≡ true
letters_from_lower [] ks e h = refl
letters_from_lower (c ∷ l) ks e h =
    let parts = and_parts (is_lower (to_ascii_lowercase c)) (list_all is_lower (map to_ascii_lowercase l)) (ap (list_all is_lower) (sym e) ∙ h) in
    and_from (is_ascii_alphabetic c) (list_all is_ascii_alphabetic l) (letter_from_lower c parts.0) (letters_from_lower l (map to_ascii_lowercase l) refl parts.1)

lower_letters : (u : TimeUnit) → list_all is_lower (str_to_ascii_lowercase (letters_of_unit u)) ≡ true
unfolding letters_of_unit is_lower
lower_letters Day = refl
lower_letters Hour = refl
lower_letters Minute = refl
lower_letters Second = refl
lower_letters Millisecond = refl

-- the letters of a unit are letters, in either case
unit_letters : (u : TimeUnit) (l : List ℕ) → str_eq_ignore_ascii_case (letters_of_unit u) l ≡ true → list_all is_ascii_alphabetic l ≡ true
unit_letters u l e = letters_from_lower l (str_to_ascii_lowercase (letters_of_unit u)) (same_lower u l e) (lower_letters u)

abbrev letters_number : List ℕ → ℕ
letters_number l = fold (λ n c. 256 * n + c) 0 l

unit_of : ℕ → TimeUnit
unit_of n = if n == 100 then Day else (if n == 104 then Hour else (if n == 109 then Minute else (if n == 115 then Second else Millisecond)))

unit_of_letters : (u : TimeUnit) → unit_of (letters_number (str_to_ascii_lowercase (letters_of_unit u))) ≡ u
unfolding letters_of_unit unit_of
unit_of_letters Day = refl
unit_of_letters Hour = refl
unit_of_letters Minute = refl
unit_of_letters Second = refl
unit_of_letters Millisecond = refl

-- letters are those of one unit
same_unit : (u v : TimeUnit) (l : List ℕ) → str_eq_ignore_ascii_case (letters_of_unit u) l ≡ true → str_eq_ignore_ascii_case (letters_of_unit v) l ≡ true → u ≡ v
same_unit u v l e h = sym (unit_of_letters u) ∙ ap (λ k. unit_of (letters_number k)) (same_lower u l e ∙ sym (same_lower v l h)) ∙ unit_of_letters v

some_letters : (u : TimeUnit) → str_eq_ignore_ascii_case (letters_of_unit u) [] ≡ true → ⊥
unfolding letters_of_unit
some_letters Day e = false≢true e
some_letters Hour e = false≢true e
some_letters Minute e = false≢true e
some_letters Second e = false≢true e
some_letters Millisecond e = false≢true e

-- ---- the first part of a text

-- a run that passes goes up to what doesn't
run_through : (p : ℕ → Bool) (xs ys : List ℕ) → list_all p xs ≡ true → prefix_len p ys ≡ 0 → prefix_len p (xs ++ ys) ≡ length xs
run_through p xs ys h stops =
    let whole : prefix_len p xs ≡ length xs = eqb-true (prefix_len p xs) (length xs) (sym (all_run p xs) ∙ h) in
    prefix_len-append p xs ys ∙ rw (eq-eqb (prefix_len p xs) (length xs) whole, stops) (omega arith)

letter_no_digit : (c : ℕ) → is_ascii_alphabetic c ≡ true → is_ascii_digit c ≡ false
letter_no_digit c e = grind (arith, nat_tests)

digit_no_letter : (c : ℕ) → is_ascii_digit c ≡ true → is_ascii_alphabetic c ≡ false
digit_no_letter c e = grind (arith, nat_tests)

-- no digits stand where letters of a unit do
digits_stop : (u : TimeUnit) (l rest : List ℕ) → str_eq_ignore_ascii_case (letters_of_unit u) l ≡ true → prefix_len is_ascii_digit (l ++ rest) ≡ 0
digits_stop u [] rest e = absurd (some_letters u e)
digits_stop u (c ∷ l) rest e =
    let letter = (and_parts (is_ascii_alphabetic c) (list_all is_ascii_alphabetic l) (unit_letters u (c ∷ l) e)).0 in
    rw (letter_no_digit c letter) refl

-- a text that begins with a part, behind which no letter stands
pub record Begins (p : TimePart) (rest text : List ℕ) : Type 0 where
  pub digits : part_digits text ≡ p.digits
  pub letters : part_letters text ≡ p.letters
  pub behind : behind_part text ≡ rest

begins : (p : TimePart) (rest text : List ℕ) → IsTimePart p → text ≡ p.digits ++ (p.letters ++ rest) → prefix_len is_ascii_alphabetic rest ≡ 0 → Begins p rest text
begins p rest text is e stops =
    let digits : prefix_len is_ascii_digit text ≡ length p.digits = ap (prefix_len is_ascii_digit) e ∙ run_through is_ascii_digit p.digits (p.letters ++ rest) is.digits (digits_stop p.unit p.letters rest is.letters) in
    let behind : behind_digits text ≡ p.letters ++ rest = (λ i. drop (digits i) (e i)) ∙ drop_at p.digits (p.letters ++ rest) (length p.digits) refl in
    let letters : prefix_len is_ascii_alphabetic (behind_digits text) ≡ length p.letters = ap (prefix_len is_ascii_alphabetic) behind ∙ run_through is_ascii_alphabetic p.letters rest (unit_letters p.unit p.letters is.letters) stops in
    record {
      digits = (λ i. take (digits i) (e i)) ∙ take_at p.digits (p.letters ++ rest) (length p.digits) refl;
      letters = (λ i. take (letters i) (behind i)) ∙ take_at p.letters rest (length p.letters) refl;
      behind = (λ i. drop (letters i) (behind i)) ∙ drop_at p.letters rest (length p.letters) refl;
    }

is_part_of : (p : TimePart) (rest text : List ℕ) (u : TimeUnit) → IsTimePart p → Begins p rest text → u ≡ p.unit → is_part u text ≡ true
unfolding is_part
is_part_of p rest text u is b e =
    and_from (nat_lt 0 (length (part_digits text))) (str_eq_ignore_ascii_case (letters_of_unit u) (part_letters text))
    (lt-ltb 0 (length (part_digits text)) (omega (arith, is.some, ap length b.digits)))
    ((λ i. str_eq_ignore_ascii_case (letters_of_unit (e i)) (b.letters i)) ∙ is.letters)

is_no_part : (p : TimePart) (rest text : List ℕ) (u : TimeUnit) → IsTimePart p → Begins p rest text → (u ≡ p.unit → ⊥) → is_part u text ≡ false
unfolding is_part
is_no_part p rest text u is b differs = false_from_ne_true (is_part u text) (λ e.
    let there = (and_parts (nat_lt 0 (length (part_digits text))) (str_eq_ignore_ascii_case (letters_of_unit u) (part_letters text)) e).1 in
    differs (same_unit u p.unit p.letters (ap (str_eq_ignore_ascii_case (letters_of_unit u)) (sym b.letters) ∙ there) is.letters))

-- a text with a part at its front, read
read_part : (u : TimeUnit) (text : List ℕ) → is_part u text ≡ true → IsTimePart (record { digits = part_digits text; letters = part_letters text; unit = u })
unfolding is_part
read_part u text e =
    let parts = and_parts (nat_lt 0 (length (part_digits text))) (str_eq_ignore_ascii_case (letters_of_unit u) (part_letters text)) e in
    record { some = ltb-true 0 (length (part_digits text)) parts.0; digits = run_passes is_ascii_digit text; letters = parts.1 }

cut_part : (text : List ℕ) → text ≡ part_digits text ++ part_letters text ++ behind_part text
cut_part text =
    sym (take-append-drop (prefix_len is_ascii_digit text) text)
    ∙ ap (λ r. part_digits text ++ r) (sym (take-append-drop (prefix_len is_ascii_alphabetic (behind_digits text)) (behind_digits text)))
    ∙ sym (append_assoc (part_digits text) (part_letters text) (behind_part text))

-- ---- whole texts

-- a time whose units are below a length
pub record TimeBelow (bound : ℕ) (text : List ℕ) (n : ℕ) : Type 0 where
  pub parts : List TimePart
  pub spelled : SpellsTime parts text
  pub falling : UnitsFallBelow bound parts
  pub sum : n ≡ total_milliseconds parts

fall_weaker : (a b : ℕ) (parts : List TimePart) → a ≤ b → UnitsFallBelow a parts → UnitsFallBelow b parts
fall_weaker a b [] h f = f
fall_weaker a b (p ∷ parts) h (first, others) = (omega arith, others)

-- a text of parts begins with a digit
pub record StartsWithDigit (text : List ℕ) : Type 0 where
  pub first : ℕ
  pub others : List ℕ
  pub is : text ≡ first ∷ others
  pub digit : is_ascii_digit first ≡ true

digits_start : (digits more : List ℕ) → 0 < length digits → list_all is_ascii_digit digits ≡ true → StartsWithDigit (digits ++ more)
digits_start [] more h e = absurd (omega arith)
digits_start (d ∷ digits) more h e = record { first = d; others = digits ++ more; is = refl; digit = (and_parts (is_ascii_digit d) (list_all is_ascii_digit digits) e).0 }

start_at : (a b : List ℕ) → a ≡ b → StartsWithDigit b → StartsWithDigit a
start_at a b e h = subst StartsWithDigit (sym e) h

starts : (q : TimePart) (parts : List TimePart) (text : List ℕ) → SpellsTime (q ∷ parts) text → StartsWithDigit text
starts q [] text (is, e) = start_at text (q.digits ++ q.letters) e (digits_start q.digits q.letters is.some is.digits)
starts q (r ∷ parts) text (is, (rest, inl e, others)) =
    start_at text (q.digits ++ (q.letters ++ rest)) (e ∙ append_assoc q.digits q.letters rest) (digits_start q.digits (q.letters ++ rest) is.some is.digits)
starts q (r ∷ parts) text (is, (rest, inr e, others)) =
    start_at text (q.digits ++ (q.letters ++ underscore ∷ rest)) (e ∙ append_assoc q.digits q.letters (underscore ∷ rest)) (digits_start q.digits (q.letters ++ underscore ∷ rest) is.some is.digits)

letters_stop : (text : List ℕ) → StartsWithDigit text → prefix_len is_ascii_alphabetic text ≡ 0
letters_stop text s = rw (s.is, digit_no_letter s.first s.digit) refl

digit_no_underscore : (d : ℕ) → is_ascii_digit d ≡ true → (d == underscore) ≡ false
digit_no_underscore d e = grind (arith, nat_tests)

no_underscore : (text : List ℕ) → StartsWithDigit text → behind_underscore text ≡ text
unfolding behind_underscore
no_underscore text s = rw (s.is, digit_no_underscore s.first s.digit) refl

one_underscore : (text : List ℕ) → behind_underscore (underscore ∷ text) ≡ text
unfolding behind_underscore
one_underscore text = refl

-- what stands between two parts
between : (text : List ℕ) → (text ≡ behind_underscore text) ⊎ (text ≡ underscore ∷ behind_underscore text)
unfolding behind_underscore
between [] = inl refl
between (b ∷ text) = elim (cases_Bool (b == underscore)) as (λ _. (b ∷ text ≡ behind_underscore (b ∷ text)) ⊎ (b ∷ text ≡ underscore ∷ behind_underscore (b ∷ text))) [
  | inl yes_ ↦ rw yes_ (inr (ap (λ c. c ∷ text) (eqb-true b underscore yes_)))
  | inr no_ ↦ rw no_ (inl refl)
]

some_is : (m n : ℕ) → Some m ≡ Some n → n ≡ m
some_is m n e = cc

none_is_not : (n : ℕ) → None ≡ Some n → ⊥
none_is_not n e = cc

-- a part before a time
cons_time : (bound : ℕ) (p : TimePart) (text rest : List ℕ) (n : ℕ) → IsTimePart p → milliseconds_of_unit p.unit < bound → (text ≡ p.digits ++ p.letters ++ rest) ⊎ (text ≡ p.digits ++ p.letters ++ underscore ∷ rest) → TimeBelow (milliseconds_of_unit p.unit) rest n → TimeBelow bound text (part_value p.unit p.digits + n)
cons_time bound p text rest n is below joined time = go time.parts time.spelled time.falling time.sum where
  go : (parts : List TimePart) → SpellsTime parts rest → UnitsFallBelow (milliseconds_of_unit p.unit) parts → n ≡ total_milliseconds parts → TimeBelow bound text (part_value p.unit p.digits + n)
  go [] spelled falling sum = absurd spelled
  go (q ∷ parts) spelled falling sum = record {
    parts = p ∷ q ∷ parts;
    spelled = (is, (rest, joined, spelled));
    falling = (below, falling);
    sum = ap (λ k. part_value p.unit p.digits + k) sum;
  }

abbrev SoundBelow : ℕ → List TimeUnit → Type 0
SoundBelow bound us = (text : List ℕ) (n : ℕ) → milliseconds us text ≡ Some n → TimeBelow bound text n

-- what is read with one unit more is spelled with one unit more
sound_step : (u : TimeUnit) (us : List TimeUnit) (bound : ℕ) → milliseconds_of_unit u < bound → SoundBelow (milliseconds_of_unit u) us → SoundBelow bound (u ∷ us)
unfolding milliseconds
sound_step u us bound below others text n e = elim (cases_Bool (is_part u text)) [
  | inr no_ ↦ let there = others text n (rw no_ at e) in record { parts = there.parts; spelled = there.spelled; falling = fall_weaker (milliseconds_of_unit u) bound there.parts (omega arith) there.falling; sum = there.sum }
  | inl yes_ ↦ elim (cases_Bool (length (behind_part text) == 0)) [
    | inl empty ↦ last yes_ empty (rw (yes_, empty) at e)
    | inr some ↦ more yes_ (milliseconds us (behind_underscore (behind_part text))) refl (rw (yes_, some) at e)
  ]
] where
  p : TimePart
  p = record { digits = part_digits text; letters = part_letters text; unit = u }

  last : is_part u text ≡ true → (length (behind_part text) == 0) ≡ true → Some (part_value u (part_digits text)) ≡ Some n → TimeBelow bound text n
  last yes_ empty h =
      let none : behind_part text ≡ [] = nil_from_length (behind_part text) (eqb-true (length (behind_part text)) 0 empty) in
      record {
        parts = p ∷ [];
        spelled = (read_part u text yes_, cut_part text ∙ ap (λ r. part_digits text ++ part_letters text ++ r) none ∙ append-nil (part_digits text ++ part_letters text));
        falling = (below, tt);
        sum = omega (arith, some_is (part_value u (part_digits text)) n h);
      }

  joined : (behind_part text ≡ behind_underscore (behind_part text)) ⊎ (behind_part text ≡ underscore ∷ behind_underscore (behind_part text)) → (text ≡ part_digits text ++ part_letters text ++ behind_underscore (behind_part text)) ⊎ (text ≡ part_digits text ++ part_letters text ++ underscore ∷ behind_underscore (behind_part text))
  joined (inl h) = inl (cut_part text ∙ ap (λ r. part_digits text ++ part_letters text ++ r) h)
  joined (inr h) = inr (cut_part text ∙ ap (λ r. part_digits text ++ part_letters text ++ r) h)

  more : is_part u text ≡ true → (m : Option ℕ) → milliseconds us (behind_underscore (behind_part text)) ≡ m → option_map (λ rest. part_value u (part_digits text) + rest) m ≡ Some n → TimeBelow bound text n
  more yes_ None m h = absurd (none_is_not n h)
  more yes_ (Some r) m h =
      let time = cons_time bound p text (behind_underscore (behind_part text)) r (read_part u text yes_) below (joined (between (behind_part text))) (others (behind_underscore (behind_part text)) r m) in
      subst (TimeBelow bound text) (sym (some_is (part_value u (part_digits text) + r) n h)) time

abbrev CompleteBelow : ℕ → List TimeUnit → Type 0
CompleteBelow bound us = (text : List ℕ) (n : ℕ) → TimeBelow bound text n → milliseconds us text ≡ Some n

-- with a part at the front of the unit that is tried, and nothing behind it
read_last : (u : TimeUnit) (us : List TimeUnit) (p : TimePart) (text : List ℕ) → IsTimePart p → Begins p [] text → u ≡ p.unit → milliseconds (u ∷ us) text ≡ Some (part_value p.unit p.digits)
unfolding milliseconds
read_last u us p text is b e =
    rw (is_part_of p [] text u is b e, eq-eqb (length (behind_part text)) 0 (ap length b.behind)) (λ i. Some (part_value (e i) (b.digits i)))

-- and with more behind it
read_more : (u : TimeUnit) (us : List TimeUnit) (p : TimePart) (text behind rest : List ℕ) (n : ℕ) → IsTimePart p → Begins p behind text → u ≡ p.unit → 0 < length behind → behind_underscore behind ≡ rest → milliseconds us rest ≡ Some n → milliseconds (u ∷ us) text ≡ Some (part_value p.unit p.digits + n)
unfolding milliseconds
read_more u us p text behind rest n is b e some under others =
    let there : milliseconds us (behind_underscore (behind_part text)) ≡ Some n = ap (λ t. milliseconds us (behind_underscore t)) b.behind ∙ ap (milliseconds us) under ∙ others in
    rw (is_part_of p behind text u is b e, ne_eqb (length (behind_part text)) 0 (λ none. omega (arith, ap length b.behind)), there) (λ i. Some (part_value (e i) (b.digits i) + n))

-- with a part of another unit
read_other : (u : TimeUnit) (us : List TimeUnit) (p : TimePart) (behind text : List ℕ) → IsTimePart p → Begins p behind text → (u ≡ p.unit → ⊥) → milliseconds (u ∷ us) text ≡ milliseconds us text
unfolding milliseconds
read_other u us p behind text is b differs = rw (is_no_part p behind text u is b differs) refl

-- the first part of a text of parts
pub record FirstPart (p : TimePart) (parts : List TimePart) (text : List ℕ) : Type 0 where
  pub is : IsTimePart p
  pub behind : List ℕ
  pub begins_ : Begins p behind text

first_part : (p : TimePart) (parts : List TimePart) (text : List ℕ) → SpellsTime (p ∷ parts) text → FirstPart p parts text
first_part p [] text (is, e) = record {
  is = is;
  behind = [];
  begins_ = begins p [] text is (e ∙ ap (λ l. p.digits ++ l) (sym (append-nil p.letters))) refl;
}
first_part p (q ∷ parts) text (is, (rest, inl e, others)) = record {
  is = is;
  behind = rest;
  begins_ = begins p rest text is (e ∙ append_assoc p.digits p.letters rest) (letters_stop rest (starts q parts rest others));
}
first_part p (q ∷ parts) text (is, (rest, inr e, others)) = record {
  is = is;
  behind = underscore ∷ rest;
  begins_ = begins p (underscore ∷ rest) text is (e ∙ append_assoc p.digits p.letters (underscore ∷ rest)) refl;
}

-- parts of units below a length, the first of which is of the unit that is tried
read_same : (u : TimeUnit) (us : List TimeUnit) (p : TimePart) (parts : List TimePart) (text : List ℕ) → CompleteBelow (milliseconds_of_unit u) us → SpellsTime (p ∷ parts) text → UnitsFallBelow (milliseconds_of_unit p.unit) parts → u ≡ p.unit → milliseconds (u ∷ us) text ≡ Some (total_milliseconds (p ∷ parts))
read_same u us p [] text others (is, e) falling same =
    let b = begins p [] text is (e ∙ ap (λ l. p.digits ++ l) (sym (append-nil p.letters))) refl in
    let value : part_value p.unit p.digits ≡ part_value p.unit p.digits + 0 = omega arith in
    read_last u us p text is b same ∙ ap Some value
read_same u us p (q ∷ parts) text others (is, (rest, inl e, spelled)) falling same =
    let digit = starts q parts rest spelled in
    let b = begins p rest text is (e ∙ append_assoc p.digits p.letters rest) (letters_stop rest digit) in
    let time : TimeBelow (milliseconds_of_unit u) rest (total_milliseconds (q ∷ parts)) = record { parts = q ∷ parts; spelled = spelled; falling = fall_weaker (milliseconds_of_unit p.unit) (milliseconds_of_unit u) (q ∷ parts) (omega (arith, ap milliseconds_of_unit same)) falling; sum = refl } in
    read_more u us p text rest rest (total_milliseconds (q ∷ parts)) is b same (omega (arith, ap length digit.is)) (no_underscore rest digit) (others rest (total_milliseconds (q ∷ parts)) time)
read_same u us p (q ∷ parts) text others (is, (rest, inr e, spelled)) falling same =
    let b = begins p (underscore ∷ rest) text is (e ∙ append_assoc p.digits p.letters (underscore ∷ rest)) refl in
    let time : TimeBelow (milliseconds_of_unit u) rest (total_milliseconds (q ∷ parts)) = record { parts = q ∷ parts; spelled = spelled; falling = fall_weaker (milliseconds_of_unit p.unit) (milliseconds_of_unit u) (q ∷ parts) (omega (arith, ap milliseconds_of_unit same)) falling; sum = refl } in
    read_more u us p text (underscore ∷ rest) rest (total_milliseconds (q ∷ parts)) is b same (omega arith) (one_underscore rest) (others rest (total_milliseconds (q ∷ parts)) time)

-- no unit lies between a length and the unit below it
abbrev IsNextBelow : ℕ → TimeUnit → Type 0
IsNextBelow bound u = (v : TimeUnit) → milliseconds_of_unit v < bound → (v ≡ u) ⊎ (milliseconds_of_unit v < milliseconds_of_unit u)

complete_step : (u : TimeUnit) (us : List TimeUnit) (bound : ℕ) → IsNextBelow bound u → CompleteBelow (milliseconds_of_unit u) us → CompleteBelow bound (u ∷ us)
complete_step u us bound next others text n time = go time.parts time.spelled time.falling time.sum where
  go : (parts : List TimePart) → SpellsTime parts text → UnitsFallBelow bound parts → n ≡ total_milliseconds parts → milliseconds (u ∷ us) text ≡ Some n
  go [] spelled falling sum = absurd spelled
  go (p ∷ parts) spelled (below, falling) sum = elim (next p.unit below) [
    | inl same ↦ read_same u us p parts text others spelled falling (sym same) ∙ ap Some (sym sum)
    | inr shorter ↦
        let first = first_part p parts text spelled in
        read_other u us p first.behind text first.is first.begins_ (λ same. omega (arith, ap milliseconds_of_unit same))
        ∙ others text n (record { parts = p ∷ parts; spelled = spelled; falling = (shorter, falling); sum = sum })
  ]

-- ---- the units

some_length : (v : TimeUnit) → 0 < milliseconds_of_unit v
unfolding milliseconds_of_unit
some_length Day = lit< tt
some_length Hour = lit< tt
some_length Minute = lit< tt
some_length Second = lit< tt
some_length Millisecond = lit< tt

complete_none : CompleteBelow (milliseconds_of_unit Millisecond) []
unfolding milliseconds_of_unit
complete_none text n time = go time.parts time.spelled time.falling where
  go : (parts : List TimePart) → SpellsTime parts text → UnitsFallBelow 1 parts → milliseconds [] text ≡ Some n
  go [] spelled falling = absurd spelled
  go (p ∷ parts) spelled (below, falling) = absurd (omega (arith, some_length p.unit, below))

below_day : IsNextBelow (milliseconds_of_unit Day + 1) Day
unfolding milliseconds_of_unit
below_day Day h = inl refl
below_day Hour h = inr (lit< tt)
below_day Minute h = inr (lit< tt)
below_day Second h = inr (lit< tt)
below_day Millisecond h = inr (lit< tt)

below_hour : IsNextBelow (milliseconds_of_unit Day) Hour
unfolding milliseconds_of_unit
below_hour Day h = absurd (omega arith)
below_hour Hour h = inl refl
below_hour Minute h = inr (lit< tt)
below_hour Second h = inr (lit< tt)
below_hour Millisecond h = inr (lit< tt)

below_minute : IsNextBelow (milliseconds_of_unit Hour) Minute
unfolding milliseconds_of_unit
below_minute Day h = absurd (omega arith)
below_minute Hour h = absurd (omega arith)
below_minute Minute h = inl refl
below_minute Second h = inr (lit< tt)
below_minute Millisecond h = inr (lit< tt)

below_second : IsNextBelow (milliseconds_of_unit Minute) Second
unfolding milliseconds_of_unit
below_second Day h = absurd (omega arith)
below_second Hour h = absurd (omega arith)
below_second Minute h = absurd (omega arith)
below_second Second h = inl refl
below_second Millisecond h = inr (lit< tt)

below_millisecond : IsNextBelow (milliseconds_of_unit Second) Millisecond
unfolding milliseconds_of_unit
below_millisecond Day h = absurd (omega arith)
below_millisecond Hour h = absurd (omega arith)
below_millisecond Minute h = absurd (omega arith)
below_millisecond Second h = absurd (omega arith)
below_millisecond Millisecond h = inl refl

lengths_fall : (milliseconds_of_unit Millisecond < milliseconds_of_unit Second) × (milliseconds_of_unit Second < milliseconds_of_unit Minute) × (milliseconds_of_unit Minute < milliseconds_of_unit Hour) × (milliseconds_of_unit Hour < milliseconds_of_unit Day)
unfolding milliseconds_of_unit
lengths_fall = (lit< tt, lit< tt, lit< tt, lit< tt)

sound_empty : (bound : ℕ) → SoundBelow bound []
unfolding milliseconds
sound_empty bound text n e = absurd (none_is_not n e)

pub reads_times : ReadsTimes
unfolding time_units
reads_times text n = (sound, complete) where
  sound : milliseconds time_units text ≡ Some n → IsTime text n
  sound e =
      let day = sound_step Day (Hour ∷ Minute ∷ Second ∷ Millisecond ∷ []) (milliseconds_of_unit Day + 1) (omega arith)
      (sound_step Hour (Minute ∷ Second ∷ Millisecond ∷ []) (milliseconds_of_unit Day) lengths_fall.3
      (sound_step Minute (Second ∷ Millisecond ∷ []) (milliseconds_of_unit Hour) lengths_fall.2
      (sound_step Second (Millisecond ∷ []) (milliseconds_of_unit Minute) lengths_fall.1
      (sound_step Millisecond [] (milliseconds_of_unit Second) lengths_fall.0 (sound_empty (milliseconds_of_unit Millisecond)))))) in
      let time = day text n e in
      record { parts = time.parts; spelled = time.spelled; falling = time.falling; sum = time.sum }

  complete : IsTime text n → milliseconds time_units text ≡ Some n
  complete time =
      complete_step Day (Hour ∷ Minute ∷ Second ∷ Millisecond ∷ []) (milliseconds_of_unit Day + 1) below_day
      (complete_step Hour (Minute ∷ Second ∷ Millisecond ∷ []) (milliseconds_of_unit Day) below_hour
      (complete_step Minute (Second ∷ Millisecond ∷ []) (milliseconds_of_unit Hour) below_minute
      (complete_step Second (Millisecond ∷ []) (milliseconds_of_unit Minute) below_second
      (complete_step Millisecond [] (milliseconds_of_unit Second) below_millisecond complete_none))))
      text n (record { parts = time.parts; spelled = time.spelled; falling = time.falling; sum = time.sum })
