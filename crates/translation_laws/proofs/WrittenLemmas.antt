-- A word that is translated to German is a word that joins no token beside it.
use Rattle.std.proofs.Common.{◌≡◌, ℕ, Bool, true, false, not, ◌&&◌, List, [], ◌∷◌, ◌++◌, length, drop, find, cond, Option, Some, None, refl, sym, ◌∙◌, subst, arith, inl, inr}
use Rattle.std.specs.Prelude.{◌==◌, is_some}
use Rattle.std.specs.Option.{option_map, option_or}
use Rattle.std.specs.List.{list_all, list_any}
use Rattle.std.specs.Char.{is_ascii_digit, to_ascii_lowercase}
use Rattle.std.specs.Str.{str_eq_ignore_ascii_case}
use Rattle.std.proofs.lemmas.Bool.{and_parts, and_from, cases_Bool, false≢true, false_from_ne_true, not-true, not_from_false, or_cases, or_right}
use Rattle.std.proofs.lemmas.Option.{same_Some}
use Rattle.stl_lexer.specs.Bytes.{is_word_byte, is_word_start}
use Rattle.stl_lexer.specs.Forms.{is_word}
use Rattle.stl_symbols.specs.declared.languages.Language.TheVariants.{English, German}
use Rattle.de_mnemonics.specs.Places.{is_word_in_list}
use Rattle.de_mnemonics.specs.Tables.{WordPairs, instruction_pairs, jump_pairs, operand_pairs, result_pairs}
use Rattle.de_mnemonics.specs.Words.{digits_of_word, exchanged_word, instruction_partner, letters_of_word, numbered_partner, operand_partner, partner_in_table}
use Rattle.translation_laws.specs.RewrittenText.{IsOtherWord, is_non_joining_word, joining_words}
use Rattle.translation_laws.proofs.TextLemmas.{alike_fronts, alike_self, first_same, fronts, fronts_alike, same_digit}

none≢some : {A : Type 0} (a : A) → None ≡ Some a → ⊥
none≢some a e = cc

-- the German word that is found passes a test that all of its table pass
found_passes : (test : List ℕ → Bool) (table : WordPairs) (word found : List ℕ) → list_all (λ pair. test pair.1) table ≡ true → partner_in_table German table word ≡ Some found → test found ≡ true
unfolding partner_in_table
found_passes test [] word found all is = absurd (none≢some found is)
found_passes test (p ∷ ps) word found all is =
    let parts = and_parts (test p.1) (list_all (λ pair. test pair.1) ps) all in
    by_test p (find (λ pair. str_eq_ignore_ascii_case word pair.0) ps) parts.0 (str_eq_ignore_ascii_case word p.0) (λ e. found_passes test ps word found parts.1 e) is
  where
    by_test : (p : List ℕ × List ℕ) (more : Option (List ℕ × List ℕ)) → test p.1 ≡ true → (b : Bool)
        → (option_map (λ pair. pair.1) more ≡ Some found → test found ≡ true)
        → option_map (λ pair. pair.1) (cond b (Some p) more) ≡ Some found → test found ≡ true
    by_test p more passes true rest is = subst (λ s. test s ≡ true) (same_Some p.1 found is) passes
    by_test p more passes false rest is = rest is

-- ---- words that stand alone

-- a word that joins none beside it
is_safe : List ℕ → Bool
is_safe word = is_word word && is_non_joining_word word

safe_tables : (list_all (λ pair. is_safe pair.1) instruction_pairs ≡ true) × (list_all (λ pair. is_safe pair.1) jump_pairs ≡ true) × (list_all (λ pair. is_safe pair.1) result_pairs ≡ true)
unfolding is_safe is_non_joining_word is_word_in_list joining_words is_word_byte is_word_start instruction_pairs jump_pairs result_pairs
safe_tables = (refl, refl, refl)

safe_other : (old new : List ℕ) → is_safe new ≡ true → IsOtherWord old new
unfolding is_safe
safe_other old new e =
    let parts = and_parts (is_word new) (is_non_joining_word new) e in
    (parts.0, inr parts.1)

-- ---- words with digits

-- no joining word is this one with digits behind it
no_digits : List ℕ → Bool
no_digits word = is_word word && list_all (λ entry. not (fronts word entry && list_all is_ascii_digit (drop (length word) entry))) joining_words

digits_table : list_all (λ pair. no_digits pair.1) operand_pairs ≡ true
unfolding no_digits joining_words is_word_byte is_word_start operand_pairs
digits_table = refl

digit_word : (b : ℕ) → is_ascii_digit b ≡ true → is_word_byte b ≡ true
unfolding is_word_byte
digit_word b e = or_right (is_word_start b) (is_ascii_digit b) e

word_digits : (f ds : List ℕ) → is_word f ≡ true → list_all is_ascii_digit ds ≡ true → is_word (f ++ ds) ≡ true
word_digits [] ds e d = absurd (false≢true e)
word_digits (b ∷ f) ds e d =
    let parts = and_parts (is_word_start b) (list_all is_word_byte f) e in
    and_from (is_word_start b) (list_all is_word_byte (f ++ ds)) parts.0 (all_bytes f parts.1)
  where
    digits_all : (ds : List ℕ) → list_all is_ascii_digit ds ≡ true → list_all is_word_byte ds ≡ true
    digits_all [] d = refl
    digits_all (c ∷ ds) d =
        let parts = and_parts (is_ascii_digit c) (list_all is_ascii_digit ds) d in
        and_from (is_word_byte c) (list_all is_word_byte ds) (digit_word c parts.0) (digits_all ds parts.1)

    all_bytes : (f : List ℕ) → list_all is_word_byte f ≡ true → list_all is_word_byte (f ++ ds) ≡ true
    all_bytes [] e = digits_all ds d
    all_bytes (c ∷ f) e =
        let parts = and_parts (is_word_byte c) (list_all is_word_byte f) e in
        and_from (is_word_byte c) (list_all is_word_byte (f ++ ds)) parts.0 (all_bytes f parts.1)

-- what is alike to a word with digits is the word with digits
digits_alike : (f ds entry : List ℕ) → list_all is_ascii_digit ds ≡ true → fronts (f ++ ds) entry ≡ true → length (f ++ ds) ≡ length entry → (fronts f entry ≡ true) × (list_all is_ascii_digit (drop (length f) entry) ≡ true)
digits_alike [] [] [] d h e = (refl, refl)
digits_alike [] [] (c ∷ entry) d h e = absurd (omega (arith, e))
digits_alike [] (b ∷ ds) [] d h e = absurd (false≢true h)
digits_alike [] (b ∷ ds) (c ∷ entry) d h e =
    let parts = and_parts (is_ascii_digit b) (list_all is_ascii_digit ds) d in
    let one = first_same b ds c entry h in
    let digit : is_ascii_digit c ≡ true = sym (same_digit b c one.0) ∙ parts.0 in
    (refl, and_from (is_ascii_digit c) (list_all is_ascii_digit entry) digit (digits_alike [] ds entry parts.1 one.1 (omega (arith, e))).1)
digits_alike (a ∷ f) ds [] d h e = absurd (false≢true h)
digits_alike (a ∷ f) ds (c ∷ entry) d h e =
    let parts = and_parts (to_ascii_lowercase a == to_ascii_lowercase c) (fronts (f ++ ds) entry) h in
    let rest = digits_alike f ds entry d parts.1 (omega (arith, e)) in
    (and_from (to_ascii_lowercase a == to_ascii_lowercase c) (fronts f entry) parts.0 rest.0, rest.1)

none_among : (table : List (List ℕ)) (f ds : List ℕ) → list_all is_ascii_digit ds ≡ true → list_all (λ entry. not (fronts f entry && list_all is_ascii_digit (drop (length f) entry))) table ≡ true → is_word_in_list table (f ++ ds) ≡ false
unfolding is_word_in_list
none_among table f ds d all = false_from_ne_true (list_any (λ entry. str_eq_ignore_ascii_case (f ++ ds) entry) table) (λ e. absurd (none_there table all e))
  where
    none_there : (table : List (List ℕ)) → list_all (λ entry. not (fronts f entry && list_all is_ascii_digit (drop (length f) entry))) table ≡ true → list_any (λ entry. str_eq_ignore_ascii_case (f ++ ds) entry) table ≡ true → ⊥
    none_there [] all e = false≢true e
    none_there (entry ∷ table) all e =
        let parts = and_parts (not (fronts f entry && list_all is_ascii_digit (drop (length f) entry))) (list_all (λ entry. not (fronts f entry && list_all is_ascii_digit (drop (length f) entry))) table) all in
        elim (or_cases (str_eq_ignore_ascii_case (f ++ ds) entry) (list_any (λ entry. str_eq_ignore_ascii_case (f ++ ds) entry) table) e) [
          | inl here ↦
              let same = alike_fronts (f ++ ds) entry here in
              let there = digits_alike f ds entry d same.0 same.1 in
              false≢true (sym (not-true (fronts f entry && list_all is_ascii_digit (drop (length f) entry)) parts.0) ∙ and_from (fronts f entry) (list_all is_ascii_digit (drop (length f) entry)) there.0 there.1)
          | inr later ↦ none_there table parts.1 later
        ]

digits_other : (old f ds : List ℕ) → list_all is_ascii_digit ds ≡ true → no_digits f ≡ true → IsOtherWord old (f ++ ds)
unfolding no_digits is_non_joining_word
digits_other old f ds d e =
    let parts = and_parts (is_word f) (list_all (λ entry. not (fronts f entry && list_all is_ascii_digit (drop (length f) entry))) joining_words) e in
    (word_digits f ds parts.0 d, inr (not_from_false (is_word_in_list joining_words (f ++ ds)) (none_among joining_words f ds d parts.1)))

-- ---- what is written

-- a word that stays
kept_other : (old : List ℕ) → is_word old ≡ true → IsOtherWord old old
kept_other old word = (word, inl (fronts_alike old old (alike_self old) refl))

instruction_other : (old found : List ℕ) → instruction_partner German old ≡ Some found → IsOtherWord old found
unfolding instruction_partner
instruction_other old found is = by_first (partner_in_table German instruction_pairs old) (partner_in_table German jump_pairs old) refl refl is
  where
    by_first : (a b : Option (List ℕ)) → partner_in_table German instruction_pairs old ≡ a → partner_in_table German jump_pairs old ≡ b → option_or a b ≡ Some found → IsOtherWord old found
    by_first (Some x) b a_is b_is e = safe_other old found (found_passes is_safe instruction_pairs old found safe_tables.0 (a_is ∙ e))
    by_first None b a_is b_is e = safe_other old found (found_passes is_safe jump_pairs old found safe_tables.1 (b_is ∙ e))

numbered_other : (old found : List ℕ) → numbered_partner German old ≡ Some found → IsOtherWord old found
unfolding numbered_partner
numbered_other old found is = elim (cases_Bool (list_all is_ascii_digit (digits_of_word old))) [
  | inl yes_ ↦ by_letters (partner_in_table German operand_pairs (letters_of_word old)) refl yes_ (rw yes_ at is)
  | inr no_ ↦ absurd (none≢some found (rw no_ at is))
] where
  by_letters : (a : Option (List ℕ)) → partner_in_table German operand_pairs (letters_of_word old) ≡ a → list_all is_ascii_digit (digits_of_word old) ≡ true → option_map (λ found. found ++ digits_of_word old) a ≡ Some found → IsOtherWord old found
  by_letters None a_is d e = absurd (none≢some found e)
  by_letters (Some f) a_is d e =
      subst (λ s. IsOtherWord old s) (same_Some (f ++ digits_of_word old) found e) (digits_other old f (digits_of_word old) d (found_passes no_digits operand_pairs (letters_of_word old) f digits_table a_is))

operand_other : (old found : List ℕ) → operand_partner German old ≡ Some found → IsOtherWord old found
unfolding operand_partner
operand_other old found is = by_first (numbered_partner German old) (partner_in_table German result_pairs old) refl refl is
  where
    by_first : (a b : Option (List ℕ)) → numbered_partner German old ≡ a → partner_in_table German result_pairs old ≡ b → option_or a b ≡ Some found → IsOtherWord old found
    by_first (Some x) b a_is b_is e = numbered_other old found (a_is ∙ e)
    by_first None b a_is b_is e = safe_other old found (found_passes is_safe result_pairs old found safe_tables.2 (b_is ∙ e))

exchanged_other : (o : Option (List ℕ)) (foreign : Bool) (old new : List ℕ) → is_word old ≡ true → ((found : List ℕ) → o ≡ Some found → IsOtherWord old found) → exchanged_word o foreign old ≡ Some new → IsOtherWord old new
exchanged_other (Some found) foreign old new word other e = subst (λ s. IsOtherWord old s) (same_Some found new e) (other found refl)
exchanged_other None true old new word other e = absurd (none≢some new e)
exchanged_other None false old new word other e = subst (λ s. IsOtherWord old s) (same_Some old new e) (kept_other old word)

-- an instruction word
pub instruction_quiet : (old new : List ℕ) → is_word old ≡ true → exchanged_word (instruction_partner German old) (is_some (instruction_partner English old)) old ≡ Some new → IsOtherWord old new
instruction_quiet old new word e = exchanged_other (instruction_partner German old) (is_some (instruction_partner English old)) old new word (instruction_other old) e

-- a word in an operand place
pub operand_quiet : (old new : List ℕ) → is_word old ≡ true → exchanged_word (operand_partner German old) (is_some (operand_partner English old)) old ≡ Some new → IsOtherWord old new
operand_quiet old new word e = exchanged_other (operand_partner German old) (is_some (operand_partner English old)) old new word (operand_other old) e
