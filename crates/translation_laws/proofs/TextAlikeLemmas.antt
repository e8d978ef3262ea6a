-- Words that are the same but for case, and operand words of either language.
use Rattle.std.proofs.Common.{arith, ℕ, ◌+◌, zero, suc, ◌≡◌, Bool, true, false, not, List, [], ◌∷◌, ◌++◌, take, drop, find, cond, Option, Some, None, refl, sym, ◌∙◌, ap}
use Rattle.std.specs.Prelude.{◌||◌, is_some, nat_lt, if◌then◌else◌}
use Rattle.std.specs.Option.{option_map, option_or}
use Rattle.std.specs.List.{list_all}
use Rattle.std.specs.Char.{is_ascii_digit, to_ascii_lowercase}
use Rattle.std.specs.Str.{str_eq_ignore_ascii_case, str_to_ascii_lowercase}
use Rattle.std.proofs.lemmas.Bool.{and_parts, false≢true}
use Rattle.std.proofs.lemmas.Bool.Decides.{nat_tests}
use Rattle.plc_base.specs.Decimal.{decimal_up_to}
use Rattle.stl_symbols.specs.declared.languages.Language.{Language}
use Rattle.stl_symbols.specs.declared.languages.Language.TheVariants.{English, German}
use Rattle.stl_parser.specs.Tables.{look_up, addresses, block_kinds, flags, registers, simple_types}
use Rattle.stl_parser.specs.Addresses.{is_address_word, letter_count}
use Rattle.de_mnemonics.specs.Tables.{WordPairs, operand_pairs, result_pairs}
use Rattle.de_mnemonics.specs.Words.{digits_of_word, letters_of_word, numbered_partner, operand_partner, partner_in_table}
use Rattle.de_mnemonics.proofs.CaseLemmas.{same_text, same_to}
use Rattle.translation_laws.proofs.LookUpLemmas.{same_looked_up}
use Rattle.translation_laws.proofs.LetterLemmas.{count_lower, digit_lower, same_letters}

-- the same but for case
abbrev pub Same : List ℕ → List ℕ → Type 0
Same a b = str_eq_ignore_ascii_case a b ≡ true

-- ---- digits have no case

pub digit_same : (b : ℕ) → is_ascii_digit b ≡ true → to_ascii_lowercase b ≡ b
digit_same b e = by (nat_lt b 65) refl
  where
    by : (t : Bool) → nat_lt b 65 ≡ t → cond t b (cond (nat_lt b 91) (b + 32) b) ≡ b
    by true h = refl
    by false h = absurd (grind (arith, nat_tests))

digits_low : (a : List ℕ) → list_all is_ascii_digit (str_to_ascii_lowercase a) ≡ list_all is_ascii_digit a
digits_low [] = refl
digits_low (b ∷ a) = rw (digit_lower b, digits_low a) refl

all_digits_low : (a : List ℕ) → list_all is_ascii_digit a ≡ true → str_to_ascii_lowercase a ≡ a
all_digits_low [] e = refl
all_digits_low (b ∷ a) e =
    let parts = and_parts (is_ascii_digit b) (list_all is_ascii_digit a) e in
    rw (digit_same b parts.0, all_digits_low a parts.1) refl

decimal_low : (most : ℕ) (a : List ℕ) → decimal_up_to most (str_to_ascii_lowercase a) ≡ decimal_up_to most a
unfolding decimal_up_to
decimal_low most [] = refl
decimal_low most (b ∷ a) = by (list_all is_ascii_digit (b ∷ a)) refl
  where
    by : (t : Bool) → list_all is_ascii_digit (b ∷ a) ≡ t → decimal_up_to most (str_to_ascii_lowercase (b ∷ a)) ≡ decimal_up_to most (b ∷ a)
    by true e = ap (decimal_up_to most) (all_digits_low (b ∷ a) e)
    by false e = rw (digits_low (b ∷ a), e) refl

drop_low : (n : ℕ) (a : List ℕ) → str_to_ascii_lowercase (drop n a) ≡ drop n (str_to_ascii_lowercase a)
drop_low zero a = refl
drop_low (suc n) [] = refl
drop_low (suc n) (b ∷ a) = drop_low n a

pub count_same : (a b : List ℕ) → Same a b → letter_count a ≡ letter_count b
count_same a b e = sym (count_lower a) ∙ ap letter_count (same_to a b e) ∙ count_lower b

rest_same : (a b : List ℕ) → Same a b → str_to_ascii_lowercase (drop (letter_count a) a) ≡ str_to_ascii_lowercase (drop (letter_count b) b)
rest_same a b e = rw (count_same a b e)
    (drop_low (letter_count b) a ∙ ap (drop (letter_count b)) (same_to a b e) ∙ sym (drop_low (letter_count b) b))

pub decimal_same : (most : ℕ) (a b : List ℕ) → Same a b
    → decimal_up_to most (drop (letter_count a) a) ≡ decimal_up_to most (drop (letter_count b) b)
decimal_same most a b e =
    sym (decimal_low most (drop (letter_count a) a)) ∙ ap (decimal_up_to most) (rest_same a b e) ∙ decimal_low most (drop (letter_count b) b)

pub all_digits_same : (a b : List ℕ) → Same a b
    → list_all is_ascii_digit (drop (letter_count a) a) ≡ list_all is_ascii_digit (drop (letter_count b) b)
all_digits_same a b e =
    sym (digits_low (drop (letter_count a) a)) ∙ ap (list_all is_ascii_digit) (rest_same a b e) ∙ digits_low (drop (letter_count b) b)

pub address_word_same : (a b : List ℕ) → Same a b → is_address_word a ≡ is_address_word b
unfolding is_address_word
address_word_same a b e =
    rw (same_looked_up addresses (take (letter_count a) a) (take (letter_count b) b) (same_letters a b e), all_digits_same a b e) refl

-- ---- operand words

-- a test that sees no case
abbrev pub SeesNoCase : (List ℕ → Bool) → Type 0
SeesNoCase test = (a b : List ℕ) → Same a b → test a ≡ test b

pub partner_same : (language : Language) (table : WordPairs) (a b : List ℕ) → Same a b → partner_in_table language table a ≡ partner_in_table language table b
unfolding partner_in_table
partner_same German [] a b e = refl
partner_same English [] a b e = refl
partner_same German (x ∷ xs) a b e = rw (same_text a b x.0 e) (by x (find (λ f. str_eq_ignore_ascii_case a f.0) xs) (find (λ f. str_eq_ignore_ascii_case b f.0) xs) (str_eq_ignore_ascii_case b x.0) (partner_same German xs a b e))
  where
    by : (x : List ℕ × List ℕ) (o o' : Option (List ℕ × List ℕ)) (t : Bool) → option_map (λ f. f.1) o ≡ option_map (λ f. f.1) o'
        → option_map (λ f. f.1) (cond t (Some x) o) ≡ option_map (λ f. f.1) (cond t (Some x) o')
    by x o o' true h = refl
    by x o o' false h = h
partner_same English (x ∷ xs) a b e = rw (same_text a b x.1 e) (by x (find (λ f. str_eq_ignore_ascii_case a f.1) xs) (find (λ f. str_eq_ignore_ascii_case b f.1) xs) (str_eq_ignore_ascii_case b x.1) (partner_same English xs a b e))
  where
    by : (x : List ℕ × List ℕ) (o o' : Option (List ℕ × List ℕ)) (t : Bool) → option_map (λ f. f.0) o ≡ option_map (λ f. f.0) o'
        → option_map (λ f. f.0) (cond t (Some x) o) ≡ option_map (λ f. f.0) (cond t (Some x) o')
    by x o o' true h = refl
    by x o o' false h = h

-- a word is an operand word with its number, or one that stands alone
abbrev pub is_operand : Language → List ℕ → Bool
is_operand language word = is_some (operand_partner language word)

-- the letters of one
abbrev pub is_letters : Language → List ℕ → Bool
is_letters language word = is_some (partner_in_table language operand_pairs word) || is_some (partner_in_table language result_pairs word)

by_parts : (t : Bool) (o p : Option (List ℕ)) (a b : List ℕ)
    → is_some (option_or (if t then option_map (λ found. found ++ a) o else None) p)
    ≡ is_some (option_or (if t then option_map (λ found. found ++ b) o else None) p)
by_parts true (Some x) p a b = refl
by_parts true None p a b = refl
by_parts false o p a b = refl

pub operand_same : (language : Language) → SeesNoCase (is_operand language)
unfolding operand_partner numbered_partner
operand_same language a b e =
    rw (all_digits_same a b e, partner_same language operand_pairs (letters_of_word a) (letters_of_word b) (same_letters a b e), partner_same language result_pairs a b e)
    (by_parts (list_all is_ascii_digit (digits_of_word b)) (partner_in_table language operand_pairs (letters_of_word b)) (partner_in_table language result_pairs b) (digits_of_word a) (digits_of_word b))

pub letters_sees_no_case : (language : Language) → SeesNoCase (is_letters language)
letters_sees_no_case language a b e = rw (partner_same language operand_pairs a b e, partner_same language result_pairs a b e) refl

-- a word of a table that no word of which passes the test passes it not
pub no_entry : {X : Type 0} (test : List ℕ → Bool) → SeesNoCase test → (table : List (List ℕ × X)) → list_all (λ x. not (test x.0)) table ≡ true
    → (word : List ℕ) → test word ≡ true → look_up table word ≡ None
unfolding look_up
no_entry test blind [] none word is = refl
no_entry {X = X} test blind (x ∷ xs) none word is =
    let parts = and_parts (not (test x.0)) (list_all (λ x. not (test x.0)) xs) none in
    by x (find (λ f. str_eq_ignore_ascii_case word f.0) xs) (str_eq_ignore_ascii_case word x.0) refl parts.0 (no_entry test blind xs parts.1 word is)
  where
    by : (x : List ℕ × X) (o : Option (List ℕ × X)) (t : Bool) → str_eq_ignore_ascii_case word x.0 ≡ t → not (test x.0) ≡ true
        → option_map (λ f. f.1) o ≡ None → option_map (λ f. f.1) (cond t (Some x) o) ≡ None
    by x o true e h k = absurd (false≢true (sym (ap not (sym (blind word x.0 e) ∙ is)) ∙ h))
    by x o false e h k = k

-- the word of a pair in the language that is translated from
abbrev pub own : Language → List ℕ × List ℕ → List ℕ
own German pair = pair.0
own English pair = pair.1

-- a word with a partner passes a test that all such words of the table pass
pub partner_passes : (language : Language) (test : List ℕ → Bool) → SeesNoCase test → (table : WordPairs)
    → list_all (λ x. test (own language x)) table ≡ true → (word : List ℕ) → is_some (partner_in_table language table word) ≡ true → test word ≡ true
unfolding partner_in_table
partner_passes German test blind [] all word is = absurd (false≢true is)
partner_passes English test blind [] all word is = absurd (false≢true is)
partner_passes German test blind (x ∷ xs) all word is =
    let parts = and_parts (test x.0) (list_all (λ x. test x.0) xs) all in
    by x (find (λ f. str_eq_ignore_ascii_case word f.0) xs) (str_eq_ignore_ascii_case word x.0) refl parts.0 (partner_passes German test blind xs parts.1 word) is
  where
    by : (x : List ℕ × List ℕ) (o : Option (List ℕ × List ℕ)) (t : Bool) → str_eq_ignore_ascii_case word x.0 ≡ t → test x.0 ≡ true
        → (is_some (option_map (λ f. f.1) o) ≡ true → test word ≡ true) → is_some (option_map (λ f. f.1) (cond t (Some x) o)) ≡ true → test word ≡ true
    by x o true e h k is = blind word x.0 e ∙ h
    by x o false e h k is = k is
partner_passes English test blind (x ∷ xs) all word is =
    let parts = and_parts (test x.1) (list_all (λ x. test x.1) xs) all in
    by x (find (λ f. str_eq_ignore_ascii_case word f.1) xs) (str_eq_ignore_ascii_case word x.1) refl parts.0 (partner_passes English test blind xs parts.1 word) is
  where
    by : (x : List ℕ × List ℕ) (o : Option (List ℕ × List ℕ)) (t : Bool) → str_eq_ignore_ascii_case word x.1 ≡ t → test x.1 ≡ true
        → (is_some (option_map (λ f. f.0) o) ≡ true → test word ≡ true) → is_some (option_map (λ f. f.0) (cond t (Some x) o)) ≡ true → test word ≡ true
    by x o true e h k is = blind word x.1 e ∙ h
    by x o false e h k is = k is

results_are_letters : (language : Language) → list_all (λ x. is_letters language (letters_of_word (own language x))) result_pairs ≡ true
unfolding partner_in_table operand_pairs result_pairs
results_are_letters German = refl
results_are_letters English = refl

-- an operand word has the letters of one
pub letters_there : (language : Language) (a : List ℕ) → is_operand language a ≡ true → is_letters language (letters_of_word a) ≡ true
unfolding operand_partner numbered_partner
letters_there language a is =
    by (list_all is_ascii_digit (digits_of_word a)) (partner_in_table language operand_pairs (letters_of_word a)) (partner_in_table language result_pairs a) refl refl is
  where
    by_result : is_some (partner_in_table language result_pairs a) ≡ true → is_letters language (letters_of_word a) ≡ true
    by_result there = partner_passes language (λ w. is_letters language (letters_of_word w))
        (λ x y same. letters_sees_no_case language (letters_of_word x) (letters_of_word y) (same_letters x y same)) result_pairs (results_are_letters language) a there

    by : (t : Bool) (o p : Option (List ℕ)) → partner_in_table language operand_pairs (letters_of_word a) ≡ o → partner_in_table language result_pairs a ≡ p
        → is_some (option_or (if t then option_map (λ found. found ++ digits_of_word a) o else None) p) ≡ true → is_letters language (letters_of_word a) ≡ true
    by true (Some x) p e h there = rw e refl
    by true None p e h there = by_result (ap is_some h ∙ there)
    by false o p e h there = by_result (ap is_some h ∙ there)

-- ---- tables

blocks_apart : (language : Language) → list_all (λ x. not (is_operand language x.0)) block_kinds ≡ true
unfolding operand_partner numbered_partner partner_in_table operand_pairs result_pairs block_kinds
blocks_apart German = refl
blocks_apart English = refl

block_letters_apart : (language : Language) → list_all (λ x. not (is_letters language x.0)) block_kinds ≡ true
unfolding partner_in_table operand_pairs result_pairs block_kinds
block_letters_apart German = refl
block_letters_apart English = refl

types_apart : (language : Language) → list_all (λ x. not (is_operand language x.0)) simple_types ≡ true
unfolding operand_partner numbered_partner partner_in_table operand_pairs result_pairs simple_types
types_apart German = refl
types_apart English = refl

addresses_apart : list_all (λ x. not (is_operand English x.0)) addresses ≡ true
unfolding operand_partner numbered_partner partner_in_table operand_pairs result_pairs addresses
addresses_apart = refl

address_letters_apart : list_all (λ x. not (is_letters English x.0)) addresses ≡ true
unfolding partner_in_table operand_pairs result_pairs addresses
address_letters_apart = refl

flags_apart : list_all (λ x. not (is_operand English x.0)) flags ≡ true
unfolding operand_partner numbered_partner partner_in_table operand_pairs result_pairs flags
flags_apart = refl

registers_apart : (language : Language) → list_all (λ x. not (is_operand language x.0)) registers ≡ true
unfolding operand_partner numbered_partner partner_in_table operand_pairs result_pairs registers
registers_apart German = refl
registers_apart English = refl

-- an operand word of a language is none of these
pub no_block : (language : Language) (a : List ℕ) → is_operand language a ≡ true → look_up block_kinds a ≡ None
no_block language a is = no_entry (is_operand language) (operand_same language) block_kinds (blocks_apart language) a is

pub no_block_letters : (language : Language) (a : List ℕ) → is_operand language a ≡ true → look_up block_kinds (letters_of_word a) ≡ None
no_block_letters language a is =
    no_entry (is_letters language) (letters_sees_no_case language) block_kinds (block_letters_apart language) (letters_of_word a) (letters_there language a is)

pub no_type : (language : Language) (a : List ℕ) → is_operand language a ≡ true → look_up simple_types a ≡ None
no_type language a is = no_entry (is_operand language) (operand_same language) simple_types (types_apart language) a is

pub no_address : (a : List ℕ) → is_operand English a ≡ true → look_up addresses a ≡ None
no_address a is = no_entry (is_operand English) (operand_same English) addresses addresses_apart a is

pub no_address_letters : (a : List ℕ) → is_operand English a ≡ true → look_up addresses (letters_of_word a) ≡ None
no_address_letters a is =
    no_entry (is_letters English) (letters_sees_no_case English) addresses address_letters_apart (letters_of_word a) (letters_there English a is)

pub no_flag : (a : List ℕ) → is_operand English a ≡ true → look_up flags a ≡ None
no_flag a is = no_entry (is_operand English) (operand_same English) flags flags_apart a is

pub no_register : (language : Language) (a : List ℕ) → is_operand language a ≡ true → look_up registers a ≡ None
no_register language a is = no_entry (is_operand language) (operand_same language) registers (registers_apart language) a is

-- ---- English operand words

addresses_there : list_all (λ x. is_some (look_up addresses (own German x))) operand_pairs ≡ true
unfolding look_up addresses operand_pairs
addresses_there = refl

flags_there : list_all (λ x. is_some (look_up flags (own German x))) result_pairs ≡ true
unfolding look_up flags result_pairs
flags_there = refl

pub address_letters : (a : List ℕ) → is_some (partner_in_table German operand_pairs a) ≡ true → is_some (look_up addresses a) ≡ true
address_letters a is = partner_passes German (λ w. is_some (look_up addresses w)) (λ x y same. ap is_some (same_looked_up addresses x y same)) operand_pairs addresses_there a is

-- such a word is an address with its number, or a condition
pub english_word : (a : List ℕ) → is_operand German a ≡ true → (is_address_word a || is_some (look_up flags a)) ≡ true
unfolding operand_partner numbered_partner is_address_word
english_word a is =
    by (list_all is_ascii_digit (digits_of_word a)) (partner_in_table German operand_pairs (letters_of_word a)) (partner_in_table German result_pairs a) refl refl refl is
  where
    at_end : (t : Bool) → (t || true) ≡ true
    at_end true = refl
    at_end false = refl

    by_result : is_some (partner_in_table German result_pairs a) ≡ true → (is_address_word a || is_some (look_up flags a)) ≡ true
    by_result there = rw (partner_passes German (λ w. is_some (look_up flags w)) (λ x y same. ap is_some (same_looked_up flags x y same)) result_pairs flags_there a there)
        (at_end (is_address_word a))

    by : (t : Bool) (o p : Option (List ℕ)) → list_all is_ascii_digit (digits_of_word a) ≡ t → partner_in_table German operand_pairs (letters_of_word a) ≡ o → partner_in_table German result_pairs a ≡ p
        → is_some (option_or (if t then option_map (λ found. found ++ digits_of_word a) o else None) p) ≡ true → (is_address_word a || is_some (look_up flags a)) ≡ true
    by true (Some x) p d e h there = rw (address_letters (letters_of_word a) (ap is_some e), d) refl
    by true None p d e h there = by_result (ap is_some h ∙ there)
    by false o p d e h there = by_result (ap is_some h ∙ there)
