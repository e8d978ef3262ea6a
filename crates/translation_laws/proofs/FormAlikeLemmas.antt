-- The tokens of a statement, from its start on.
use Rattle.std.proofs.Common.{arith, ℕ, zero, suc, ◌-◌, ◌≡◌, Bool, true, false, not, ◌&&◌, List, [], ◌∷◌, length, take, drop, find, cond, Option, Some, refl, sym, ◌∙◌, ap, subst, inl, inr}
use Rattle.std.specs.Prelude.{◌⊎◌, ◌||◌, ◌==◌, codes, nat_eq, nat_lt, if◌then◌else◌}
use Rattle.std.specs.Option.{option_map}
use Rattle.std.specs.List.{list_all, list_any}
use Rattle.std.specs.Char.{is_ascii_digit, to_ascii_lowercase}
use Rattle.std.specs.Int.{is_in_range}
use Rattle.std.specs.Str.{bytes_eq, str_eq_ignore_ascii_case, str_to_ascii_lowercase}
use Rattle.std.proofs.lemmas.Bool.{and_parts, false≢true}
use Rattle.std.proofs.lemmas.Bool.Decides.{nat_tests}
use Rattle.std.proofs.lemmas.Option.{same_Some}
use Rattle.stl_lexer.specs.declared.kinds.Token.{Token}
use Rattle.stl_lexer.specs.declared.kinds.TokenKind.{TokenKind}
use Rattle.stl_lexer.specs.declared.kinds.TokenKind.TheVariants as kind
use Rattle.stl_lexer.specs.declared.marks.Mark.TheVariants as mark
use Rattle.stl_lexer.specs.Bytes.{close_brace, double_quote, hash, open_brace, single_quote}
use Rattle.stl_lexer.specs.Forms.{based_prefixes, begins_with, count_prefixes, has_form, is_closed_run, is_enclosed, is_entry, is_inner, is_listed, long_prefixes, s5time_prefixes, sign_words, time_prefixes, title_words}
use Rattle.stl_lexer.specs.Marks.{mark_text, marks}
use Rattle.stl_lexer.specs.Tokens.{AreTokens, TokensFollow, IsEndOfTokens, is_minus, text_of}
use Rattle.stl_ast.specs.declared.mnemonics.Mnemonic.{Mnemonic}
use Rattle.stl_symbols.specs.declared.languages.Language.TheVariants.{English, German}
use Rattle.stl_parser.specs.declared.tables.OperandSyntax.{OperandSyntax}
use Rattle.stl_parser.specs.declared.tables.OperandSyntax.TheVariants as operand_syntax
use Rattle.stl_parser.specs.Tables.{look_up, mnemonics}
use Rattle.stl_parser.specs.Terminals.{has_kind, is_mark, kind_rank}
use Rattle.de_mnemonics.specs.declared.classes.TokenClass.{TokenClass}
use Rattle.de_mnemonics.specs.declared.classes.TokenClass.TheVariants as class
use Rattle.de_mnemonics.specs.declared.places.TokenPlace.{TokenPlace}
use Rattle.de_mnemonics.specs.declared.places.TokenPlace.TheVariants as place
use Rattle.de_mnemonics.specs.declared.roles.Role.{Role}
use Rattle.de_mnemonics.specs.declared.roles.Role.TheVariants as role
use Rattle.translation_laws.specs.Alike.{ComesBackInRole, IsSameWordButForCase, IsSameToken}
use Rattle.de_mnemonics.specs.Places.{token_place_behind, place_behind_first, place_behind_front, place_behind_instruction, place_behind_open, place_behind_sign, place_behind_start, place_behind_word, token_class, class_of_mark, is_word_in_list, is_word_in_pairs, is_jump_word, is_mark_text, role_at_start, role_first, role_of, role_of_word}
use Rattle.de_mnemonics.specs.Tables.{common_jumps, block_end_words, jump_pairs, network_words}
use Rattle.de_mnemonics.specs.Translation.{token_class_in, next_class}
use Rattle.de_mnemonics.specs.Words.{partner_in_table}
use Rattle.translation_laws.proofs.AgreeAlikeLemmas.{IsSamePair, Pair, lefts}
use Rattle.translation_laws.proofs.LikeAlikeLemmas.{itself, of_kind, same_kind}
use Rattle.translation_laws.proofs.OperandAlikeLemmas.{HeadSame}
use Rattle.translation_laws.proofs.StatementAlikeLemmas.{AreInstruction, AreStatement, IsFirst, Labels}
use Rattle.translation_laws.proofs.TextAlikeLemmas.{Same, SeesNoCase, digit_same, partner_same}
use Rattle.translation_laws.proofs.WalkAlikeLemmas.{NoEnd, Walk, class_mark, colon_class, fits_until, in_statement, is_end, no_end, semicolon_class, walked}
use Rattle.de_mnemonics.proofs.CaseLemmas.{same_among, same_to}
use Rattle.translation_laws.proofs.LetterLemmas.{take_lower}

-- ---- a jump's word is a word

-- all bytes are letters
abbrev are_letters : List ℕ → Bool
are_letters w = list_all (λ b. is_in_range 97 122 b) (str_to_ascii_lowercase w)

letters_blind : SeesNoCase are_letters
letters_blind a b same = ap (λ (l : List ℕ). list_all (λ c. is_in_range 97 122 c) l) (same_to a b same)

-- the word TITLE stands in front
abbrev is_title : List ℕ → Bool
is_title w = str_eq_ignore_ascii_case (codes "TITLE") (take 5 w)

title_blind : SeesNoCase is_title
title_blind a b same = ap (λ (l : List ℕ). bytes_eq (str_to_ascii_lowercase (codes "TITLE")) l)
    (take_lower 5 a ∙ ap (take 5) (same_to a b same) ∙ sym (take_lower 5 b))

letters_taken : (n : ℕ) (w : List ℕ) → are_letters w ≡ true → are_letters (take n w) ≡ true
letters_taken zero w is = refl
letters_taken (suc n) [] is = refl
letters_taken (suc n) (b ∷ w) is =
    let parts = and_parts (is_in_range 97 122 (to_ascii_lowercase b)) (are_letters w) is in
    rw (parts.0) (letters_taken n w parts.1)

same_number : (b c : ℕ) → (b == c) ≡ true → b ≡ c
same_number b c is = grind (arith, nat_tests)

-- no such word begins with this byte
not_first : (c b : ℕ) (w : List ℕ) → is_in_range 97 122 (to_ascii_lowercase c) ≡ false → (b == c) ≡ true → are_letters (b ∷ w) ≡ true → ⊥
not_first c b w apart is all =
    false≢true (sym apart ∙ ap (λ (x : ℕ). is_in_range 97 122 (to_ascii_lowercase x)) (sym (same_number b c is))
    ∙ (and_parts (is_in_range 97 122 (to_ascii_lowercase b)) (are_letters w) all).0)

not_digit : (b : ℕ) → is_ascii_digit b ≡ true → is_in_range 97 122 (to_ascii_lowercase b) ≡ true → ⊥
not_digit b digit is = by (ap (λ (x : ℕ). is_in_range 97 122 x) (sym (digit_same b digit)) ∙ is)
  where
    by : is_in_range 97 122 b ≡ true → ⊥
    by h = grind (arith, nat_tests)

not_enclosed : (opening close : ℕ) (one_line : Bool) (w : List ℕ) → is_in_range 97 122 (to_ascii_lowercase opening) ≡ false
    → is_enclosed opening close one_line w ≡ true → are_letters w ≡ true → ⊥
not_enclosed opening close one_line [] apart is all = false≢true is
not_enclosed opening close one_line (b ∷ w) apart is all =
    not_first opening b w apart (and_parts (b == opening) (is_closed_run (is_inner close one_line) close w) is).0 all

not_listed : (table : List (List ℕ)) (w : List ℕ) (behind : List ℕ → Bool) → list_all (λ x. not (are_letters x)) table ≡ true
    → list_any (λ entry. begins_with entry w && behind entry) table ≡ true → are_letters w ≡ true → ⊥
unfolding begins_with
not_listed [] w behind none is all = false≢true is
not_listed (x ∷ xs) w behind none is all =
    let parts = and_parts (not (are_letters x)) (list_all (λ x. not (are_letters x)) xs) none in
    by (str_eq_ignore_ascii_case x (take (length x) w)) refl (behind x) (list_any (λ entry. begins_with entry w && behind entry) xs) parts.0 (λ h. not_listed xs w behind parts.1 h all) is
  where
    by : (b : Bool) → str_eq_ignore_ascii_case x (take (length x) w) ≡ b → (c d : Bool) → not (are_letters x) ≡ true
        → (d ≡ true → ⊥) → ((b && c) || d) ≡ true → ⊥
    by true e c d apart more h = false≢true (sym (ap not (letters_blind x (take (length x) w) e ∙ letters_taken (length x) w all)) ∙ apart)
    by false e c d apart more h = more h

not_in_two : (one two : List (List ℕ)) (w : List ℕ) (behind also : List ℕ → Bool)
    → list_all (λ x. not (are_letters x)) one ≡ true → list_all (λ x. not (are_letters x)) two ≡ true
    → (list_any (λ entry. begins_with entry w && behind entry) one || list_any (λ entry. begins_with entry w && also entry) two) ≡ true
    → are_letters w ≡ true → ⊥
not_in_two one two w behind also h k is all =
    by (list_any (λ entry. begins_with entry w && behind entry) one) refl is
  where
    by : (b : Bool) → list_any (λ entry. begins_with entry w && behind entry) one ≡ b
        → (b || list_any (λ entry. begins_with entry w && also entry) two) ≡ true → ⊥
    by true e is = not_listed one w behind h e all
    by false e is = not_listed two w also k is all

based_apart : list_all (λ x. not (are_letters x)) based_prefixes ≡ true
unfolding based_prefixes
based_apart = refl

long_apart : list_all (λ x. not (are_letters x)) long_prefixes ≡ true
unfolding long_prefixes
long_apart = refl

count_apart : list_all (λ x. not (are_letters x)) count_prefixes ≡ true
unfolding count_prefixes
count_apart = refl

time_apart : list_all (λ x. not (are_letters x)) time_prefixes ≡ true
unfolding time_prefixes
time_apart = refl

s5time_apart : list_all (λ x. not (are_letters x)) s5time_prefixes ≡ true
unfolding s5time_prefixes
s5time_apart = refl

marks_apart : list_all (λ x. not (are_letters x)) marks ≡ true
unfolding marks mark_text
marks_apart = refl

signs_apart : list_all (λ x. not (are_letters x)) sign_words ≡ true
unfolding sign_words
signs_apart = refl

not_title : (w : List ℕ) (behind : List ℕ → Bool) → list_any (λ entry. begins_with entry w && behind entry) title_words ≡ true → is_title w ≡ true
unfolding begins_with title_words
not_title w behind is = by (is_title w) (behind (codes "TITLE")) is
  where
    by : (b c : Bool) → ((b && c) || false) ≡ true → b ≡ true
    by true c h = refl
    by false c h = h

-- a token whose text is all letters, and no title, is a word
word_alone : (k : TokenKind) (w after : List ℕ) → has_form k w after ≡ true → are_letters w ≡ true → is_title w ≡ false → k ≡ kind.Word
unfolding has_form is_listed is_entry
word_alone kind.Word w after is all plain = refl
word_alone kind.Number [] after is all plain = absurd (false≢true is)
word_alone kind.Number (b ∷ w) after is all plain =
    absurd (not_digit b (and_parts (is_ascii_digit b) (list_all is_ascii_digit w) is).0 (and_parts (is_in_range 97 122 (to_ascii_lowercase b)) (are_letters w) all).0)
word_alone kind.Quoted w after is all plain =
    absurd (not_enclosed double_quote double_quote true w refl (and_parts (is_enclosed double_quote double_quote true w) (nat_lt 2 (length w)) is).0 all)
word_alone kind.Local [] after is all plain = absurd (false≢true is)
word_alone kind.Local (b ∷ w) after is all plain = absurd (not_first hash b w refl (and_parts (b == hash) _ is).0 all)
word_alone kind.Characters w after is all plain = absurd (not_enclosed single_quote single_quote true w refl is all)
word_alone kind.Based w after is all plain = absurd (not_listed based_prefixes w _ based_apart is all)
word_alone kind.NumberLiteral w after is all plain = absurd (not_in_two long_prefixes count_prefixes w _ _ long_apart count_apart is all)
word_alone kind.TimeLiteral w after is all plain = absurd (not_in_two time_prefixes s5time_prefixes w _ _ time_apart s5time_apart is all)
word_alone kind.Mark w after is all plain = absurd (not_listed marks w _ marks_apart is all)
word_alone kind.SignWord w after is all plain = absurd (not_listed sign_words w _ signs_apart is all)
word_alone kind.Attribute w after is all plain = absurd (not_enclosed open_brace close_brace false w refl is all)
word_alone kind.Title w after is all plain = absurd (false≢true (sym plain ∙ not_title w _ is))

-- what is found in a table, where all such entries pass a test
found_passes : {X : Type 0} (test : List ℕ → Bool) → SeesNoCase test → (such : X → Bool) (table : List (List ℕ × X))
    → list_all (λ x. not (such x.1) || test x.0) table ≡ true → (w : List ℕ) (x : X) → look_up table w ≡ Some x → such x ≡ true → test w ≡ true
unfolding look_up
found_passes test blind such [] all w x is that = absurd cc
found_passes {X = X} test blind such (y ∷ ys) all w x is that =
    let parts = and_parts (not (such y.1) || test y.0) (list_all (λ x. not (such x.1) || test x.0) ys) all in
    by y (find (λ f. str_eq_ignore_ascii_case w f.0) ys) (str_eq_ignore_ascii_case w y.0) refl parts.0 (λ h. found_passes test blind such ys parts.1 w x h that) is
  where
    passes : (a b : Bool) → (not a || b) ≡ true → a ≡ true → b ≡ true
    passes true b h is = h
    passes false b h is = absurd (false≢true is)

    by : (y : List ℕ × X) (o : Option (List ℕ × X)) (t : Bool) → str_eq_ignore_ascii_case w y.0 ≡ t → (not (such y.1) || test y.0) ≡ true
        → (option_map (λ f. f.1) o ≡ Some x → test w ≡ true) → option_map (λ f. f.1) (cond t (Some y) o) ≡ Some x → test w ≡ true
    by y o true e h more found = blind w y.0 e ∙ passes (such y.1) (test y.0) h (ap such (same_Some y.1 x found) ∙ that)
    by y o false e h more found = more found

abbrev is_jump_syntax : OperandSyntax → Bool
is_jump_syntax operand_syntax.Jump = true
is_jump_syntax _ = false

abbrev is_jump_form : Mnemonic × OperandSyntax → Bool
is_jump_form m = is_jump_syntax m.1

jump_blind : SeesNoCase is_jump_word
unfolding is_jump_word is_word_in_pairs
jump_blind a b same = rw (partner_same German jump_pairs a b same, partner_same English jump_pairs a b same, same_among common_jumps a b same) refl

jumps_are_letters : list_all (λ x. not (is_jump_form x.1) || are_letters x.0) mnemonics ≡ true
unfolding mnemonics
jumps_are_letters = refl

jumps_no_titles : list_all (λ x. not (is_jump_form x.1) || not (is_title x.0)) mnemonics ≡ true
unfolding mnemonics
jumps_no_titles = refl

jumps_are_jumps : list_all (λ x. not (is_jump_form x.1) || is_jump_word x.0) mnemonics ≡ true
unfolding mnemonics is_jump_word is_word_in_pairs is_word_in_list partner_in_table jump_pairs common_jumps
jumps_are_jumps = refl

-- every token has the form of its kind
abbrev pub IsFormed : List ℕ → Token → Type 0
IsFormed s t = (after : List ℕ) × (has_form t.kind (text_of s t) after ≡ true)

abbrev pub AreFormed : List ℕ → List Token → Type 0
AreFormed s [] = Unit {0}
AreFormed s (t ∷ ts) = IsFormed s t × AreFormed s ts

tokens_formed_from : (s : List ℕ) (from : ℕ) (minus : Bool) (ts : List Token) → TokensFollow s (λ from minus. IsEndOfTokens s from) from minus ts → AreFormed s ts
tokens_formed_from s from minus [] h = tt
tokens_formed_from s from minus (t ∷ ts) h =
    ((drop (t.end - t.start) (drop t.start s), h.0.longest.fits.fits), tokens_formed_from s t.end (is_minus t.kind (text_of s t)) ts h.1)

pub tokens_formed : (s : List ℕ) (ts : List Token) → AreTokens s ts → AreFormed s ts
unfolding AreTokens
tokens_formed s ts are = tokens_formed_from s 0 false ts are

-- the word of a jump is a word, and one for the walk
jump_word : (s : List ℕ) (t : Token) (m : Mnemonic × OperandSyntax) → IsFormed s t → look_up mnemonics (text_of s t) ≡ Some m → is_jump_form m ≡ true
    → (t.kind ≡ kind.Word) × (is_jump_word (text_of s t) ≡ true)
jump_word s t m h found is = (
  word_alone t.kind (text_of s t) h.0 h.1 (found_passes are_letters letters_blind is_jump_form mnemonics jumps_are_letters (text_of s t) m found is)
      (turn (is_title (text_of s t)) (found_passes (λ w. not (is_title w)) (λ a b same. ap not (title_blind a b same)) is_jump_form mnemonics jumps_no_titles (text_of s t) m found is)),
  found_passes is_jump_word jump_blind is_jump_form mnemonics jumps_are_jumps (text_of s t) m found is,
)
  where
    turn : (b : Bool) → not b ≡ true → b ≡ false
    turn true e = sym e
    turn false e = refl

-- ---- the first token

module _ (s e : List ℕ) where
  -- what may be the first token of an instruction
  abbrev pub IsFront : Pair s e → Type 0
  IsFront q = IsSameToken s e q.left q.right ⊎ IsSameWordButForCase s e q.left q.right

  pub front_kinds : (q : Pair s e) → IsFront q → has_kind q.left kind.Word ≡ has_kind q.right kind.Word
  front_kinds q (inl h) = same_kind s e q.left q.right kind.Word h
  front_kinds q (inr h) = of_kind q.left kind.Word kind.Word h.word ∙ sym (of_kind q.right kind.Word kind.Word h.other)

  pub front_text : (q : Pair s e) → IsFront q → Same (text_of s q.left) (text_of e q.right)
  front_text q (inl h) = itself (text_of s q.left) (text_of e q.right) h.text
  front_text q (inr h) = h.text

  abbrev IsFrontRole : Role → Type 0
  IsFrontRole role.Instruction = Unit {0}
  IsFrontRole role.Stays = Unit {0}
  IsFrontRole _ = ⊥

  front_first : (b : Bool) (next : TokenClass) → IsFrontRole (if b then role.Stays else role_first next)
  front_first true next = tt
  front_first false class.Colon = tt
  front_first false _ = tt

  start_role : (before c : TokenClass) (text : List ℕ) (next : TokenClass) → IsFrontRole (role_of place.Start before c text next)
  unfolding role_of role_of_word role_at_start
  start_role before class.Word text next = front_first (is_word_in_list block_end_words text || is_word_in_list network_words text) next
  start_role before _ text next = tt

  labelled_role : (before c : TokenClass) (text : List ℕ) (next : TokenClass) → IsFrontRole (role_of place.Labelled before c text next)
  unfolding role_of role_of_word
  labelled_role before class.Word text next = tt
  labelled_role before _ text next = tt

  front_of : (r : Role) (q : Pair s e) → IsFrontRole r → ComesBackInRole s e r q.left q.right → IsFront q
  front_of role.Instruction q is h = h
  front_of role.Stays q is h = inl h
  front_of role.Operand q is h = absurd is
  front_of role.Path q is h = absurd is

  pub start_front : (before next : TokenClass) (q : Pair s e) → ComesBackInRole s e (role_of place.Start before (token_class_in s q.left) (text_of s q.left) next) q.left q.right → IsFront q
  start_front before next q h = front_of _ q (start_role before (token_class_in s q.left) (text_of s q.left) next) h

  labelled_front : (before next : TokenClass) (q : Pair s e) → ComesBackInRole s e (role_of place.Labelled before (token_class_in s q.left) (text_of s q.left) next) q.left q.right → IsFront q
  labelled_front before next q h = front_of _ q (labelled_role before (token_class_in s q.left) (text_of s q.left) next) h

  -- ---- the place behind it

  abbrev is_note : TokenClass → Bool
  is_note class.Note = true
  is_note _ = false

  abbrev is_colon : TokenClass → Bool
  is_colon class.Colon = true
  is_colon _ = false

  instruction_in : (text : List ℕ) → in_statement s e (place_behind_instruction text) ≡ true
  unfolding place_behind_instruction
  instruction_in text = by (is_jump_word text)
    where
      by : (b : Bool) → in_statement s e (if b then place.Jump else place.Instruction) ≡ true
      by true = refl
      by false = refl

  jump_in : (text : List ℕ) → is_jump_word text ≡ true → place_behind_instruction text ≡ place.Jump
  unfolding place_behind_instruction
  jump_in text is = rw is refl

  first_in : (next : TokenClass) (text : List ℕ) → is_colon next ≡ false → place_behind_first next text ≡ place_behind_instruction text
  first_in class.Colon text isnt = absurd (false≢true (sym isnt))
  first_in class.Word text isnt = refl
  first_in class.Number text isnt = refl
  first_in class.Note text isnt = refl
  first_in class.Semicolon text isnt = refl
  first_in class.Dot text isnt = refl
  first_in class.Assign text isnt = refl
  first_in class.OpenBracket text isnt = refl
  first_in class.OpenParen text isnt = refl
  first_in class.CloseParen text isnt = refl
  first_in class.Pointer text isnt = refl
  first_in class.Other text isnt = refl

  -- a word that is neither an end nor a network
  abbrev IsFree : List ℕ → Type 0
  IsFree text = (is_word_in_list block_end_words text ≡ false) × (is_word_in_list network_words text ≡ false)

  start_word : (before : TokenClass) (text : List ℕ) (next : TokenClass) → IsFree text → place_behind_word place.Start before text next ≡ place_behind_first next text
  unfolding place_behind_word place_behind_start
  start_word before text next free = rw (free.0, free.1) refl

  front_in : (c : TokenClass) → is_end s e c ≡ false → in_statement s e (place_behind_front c) ≡ true
  front_in class.Semicolon isnt = absurd (false≢true (sym isnt))
  front_in class.CloseParen isnt = refl
  front_in class.Number isnt = refl
  front_in _ isnt = refl

  open_in : (c : TokenClass) → is_end s e c ≡ false → is_note c ≡ false → in_statement s e (place_behind_open c) ≡ true
  open_in class.Note isnt note = absurd (false≢true (sym note))
  open_in class.Semicolon isnt note = absurd (false≢true (sym isnt))
  open_in class.CloseParen isnt note = refl
  open_in class.Number isnt note = refl
  open_in _ isnt note = refl

  -- behind the first token of an instruction the statement goes on, behind a jump with its label
  pub record GoesOn (p : TokenPlace) (text : List ℕ) (c : TokenClass) : Type 0 where
    pub inside : in_statement s e p ≡ true
    pub jumps : c ≡ class.Word → is_jump_word text ≡ true → p ≡ place.Jump

  abbrev is_word_class : TokenClass → Bool
  is_word_class class.Word = true
  is_word_class _ = false

  no_word : (c : TokenClass) → is_word_class c ≡ false → c ≡ class.Word → ⊥
  no_word c isnt e = false≢true (sym isnt ∙ ap is_word_class e)

  start_on : (before c : TokenClass) (text : List ℕ) (next : TokenClass) → is_end s e c ≡ false → is_note c ≡ false
      → (c ≡ class.Word → IsFree text × (is_colon next ≡ false)) → GoesOn (token_place_behind place.Start before c text next) text c
  unfolding token_place_behind place_behind_sign
  start_on before class.Word text next isnt note free =
      let there = free refl in
      let at = start_word before text next there.0 ∙ first_in next text there.1 in
      record {
        inside = ap (in_statement s e) at ∙ instruction_in text;
        jumps = λ is jump. at ∙ jump_in text jump;
      }
  start_on before class.Note text next isnt note free = absurd (false≢true (sym note))
  start_on before class.Number text next isnt note free = record { inside = open_in class.Number isnt note; jumps = λ is jump. absurd (no_word class.Number refl is) }
  start_on before class.Semicolon text next isnt note free = absurd (false≢true (sym isnt))
  start_on before class.Dot text next isnt note free = record { inside = open_in class.Dot isnt note; jumps = λ is jump. absurd (no_word class.Dot refl is) }
  start_on before class.Assign text next isnt note free = record { inside = open_in class.Assign isnt note; jumps = λ is jump. absurd (no_word class.Assign refl is) }
  start_on before class.Colon text next isnt note free = record { inside = open_in class.Colon isnt note; jumps = λ is jump. absurd (no_word class.Colon refl is) }
  start_on before class.OpenBracket text next isnt note free = record { inside = open_in class.OpenBracket isnt note; jumps = λ is jump. absurd (no_word class.OpenBracket refl is) }
  start_on before class.OpenParen text next isnt note free = record { inside = open_in class.OpenParen isnt note; jumps = λ is jump. absurd (no_word class.OpenParen refl is) }
  start_on before class.CloseParen text next isnt note free = record { inside = open_in class.CloseParen isnt note; jumps = λ is jump. absurd (no_word class.CloseParen refl is) }
  start_on before class.Pointer text next isnt note free = record { inside = open_in class.Pointer isnt note; jumps = λ is jump. absurd (no_word class.Pointer refl is) }
  start_on before class.Other text next isnt note free = record { inside = open_in class.Other isnt note; jumps = λ is jump. absurd (no_word class.Other refl is) }

  labelled_on : (before c : TokenClass) (text : List ℕ) (next : TokenClass) → is_end s e c ≡ false → GoesOn (token_place_behind place.Labelled before c text next) text c
  unfolding token_place_behind place_behind_sign place_behind_word
  labelled_on before class.Word text next isnt = record { inside = instruction_in text; jumps = λ is jump. jump_in text jump }
  labelled_on before class.Note text next isnt = record { inside = front_in class.Note isnt; jumps = λ is jump. absurd (no_word class.Note refl is) }
  labelled_on before class.Number text next isnt = record { inside = front_in class.Number isnt; jumps = λ is jump. absurd (no_word class.Number refl is) }
  labelled_on before class.Semicolon text next isnt = absurd (false≢true (sym isnt))
  labelled_on before class.Dot text next isnt = record { inside = front_in class.Dot isnt; jumps = λ is jump. absurd (no_word class.Dot refl is) }
  labelled_on before class.Assign text next isnt = record { inside = front_in class.Assign isnt; jumps = λ is jump. absurd (no_word class.Assign refl is) }
  labelled_on before class.Colon text next isnt = record { inside = front_in class.Colon isnt; jumps = λ is jump. absurd (no_word class.Colon refl is) }
  labelled_on before class.OpenBracket text next isnt = record { inside = front_in class.OpenBracket isnt; jumps = λ is jump. absurd (no_word class.OpenBracket refl is) }
  labelled_on before class.OpenParen text next isnt = record { inside = front_in class.OpenParen isnt; jumps = λ is jump. absurd (no_word class.OpenParen refl is) }
  labelled_on before class.CloseParen text next isnt = record { inside = front_in class.CloseParen isnt; jumps = λ is jump. absurd (no_word class.CloseParen refl is) }
  labelled_on before class.Pointer text next isnt = record { inside = front_in class.Pointer isnt; jumps = λ is jump. absurd (no_word class.Pointer refl is) }
  labelled_on before class.Other text next isnt = record { inside = front_in class.Other isnt; jumps = λ is jump. absurd (no_word class.Other refl is) }

  -- ---- instructions

  jump_stays : (before c : TokenClass) (text : List ℕ) (next : TokenClass) → role_of place.Jump before c text next ≡ role.Stays
  unfolding role_of role_of_word
  jump_stays before class.Word text next = refl
  jump_stays before _ text next = refl

  word_class : (t : Token) → t.kind ≡ kind.Word → token_class_in s t ≡ class.Word
  unfolding token_class
  word_class t is = ap (λ (k : TokenKind). token_class k (text_of s t)) is

  head_label : (n : ℕ) (before : TokenClass) (qs : List (Pair s e)) → Walk s e place.Jump before qs → HeadSame s e (take n qs)
  head_label zero before qs h = tt
  head_label (suc n) before [] h = tt
  head_label (suc n) before (r ∷ rs) h =
      subst (λ (x : Role). ComesBackInRole s e x r.left r.right) (jump_stays before (token_class_in s r.left) (text_of s r.left) (next_class s (lefts rs))) h.0

  labels_from : (n : ℕ) (p : TokenPlace) (q : Pair s e) (qs : List (Pair s e)) → IsFormed s q.left → GoesOn p (text_of s q.left) (token_class_in s q.left) → Walk s e p (token_class_in s q.left) qs
      → (m : Mnemonic × OperandSyntax) → look_up mnemonics (text_of s q.left) ≡ Some m → (f : OperandSyntax) → m.1 ≡ f → Labels s e f (take n qs)
  labels_from n p q qs shape on h m found operand_syntax.Operand is = tt
  labels_from n p q qs shape on h m found operand_syntax.Open is = tt
  labels_from n p q qs shape on h m found operand_syntax.BlockCall is = tt
  labels_from n p q qs shape on h m found operand_syntax.Call is = tt
  labels_from n p q qs shape on h m found operand_syntax.Jump is =
      let word = jump_word s q.left m shape found (ap is_jump_syntax is) in
      head_label n (token_class_in s q.left) qs (subst (λ (x : TokenPlace). Walk s e x (token_class_in s q.left) qs) (on.jumps (word_class q.left word.0) word.1) h)

  pub first_from : (n : ℕ) (p : TokenPlace) (q : Pair s e) (qs : List (Pair s e)) → IsFront q → IsFormed s q.left → GoesOn p (text_of s q.left) (token_class_in s q.left)
      → NoEnd s e n qs → Walk s e p (token_class_in s q.left) qs → IsFirst s e q (take n qs)
  first_from n p q qs front shape on none h = record {
    text = front_text q front;
    labels = λ m found. labels_from n p q qs shape on h m found m.1 refl;
    fits = fits_until s e n p (token_class_in s q.left) qs on.inside none h;
  }

  -- ---- statements

  kind_of_word : (k : TokenKind) → nat_eq (kind_rank k) 0 ≡ true → k ≡ kind.Word
  kind_of_word kind.Word is = refl
  kind_of_word kind.Mark is = absurd (false≢true is)
  kind_of_word kind.Number is = absurd (false≢true is)
  kind_of_word kind.Quoted is = absurd (false≢true is)
  kind_of_word kind.Local is = absurd (false≢true is)
  kind_of_word kind.Characters is = absurd (false≢true is)
  kind_of_word kind.Based is = absurd (false≢true is)
  kind_of_word kind.NumberLiteral is = absurd (false≢true is)
  kind_of_word kind.TimeLiteral is = absurd (false≢true is)
  kind_of_word kind.SignWord is = absurd (false≢true is)
  kind_of_word kind.Attribute is = absurd (false≢true is)
  kind_of_word kind.Title is = absurd (false≢true is)

  pub class_of_word : (t : Token) → has_kind t kind.Word ≡ true → token_class_in s t ≡ class.Word
  unfolding has_kind
  class_of_word t is = word_class t (kind_of_word t.kind is)

  words : (a b c d f g h i : Bool) → is_word_class (if a then class.Semicolon else (if b then class.Dot else (if c then class.Assign else (if d then class.Colon
      else (if f then class.OpenBracket else (if g then class.OpenParen else (if h then class.CloseParen else (if i then class.Pointer else class.Other)))))))) ≡ false
  words true b c d f g h i = refl
  words false true c d f g h i = refl
  words false false true d f g h i = refl
  words false false false true f g h i = refl
  words false false false false true g h i = refl
  words false false false false false true h i = refl
  words false false false false false false true i = refl
  words false false false false false false false true = refl
  words false false false false false false false false = refl

  colons : (a b c f g h i : Bool) → is_colon (if a then class.Semicolon else (if b then class.Dot else (if c then class.Assign
      else (if f then class.OpenBracket else (if g then class.OpenParen else (if h then class.CloseParen else (if i then class.Pointer else class.Other))))))) ≡ false
  colons true b c f g h i = refl
  colons false true c f g h i = refl
  colons false false true f g h i = refl
  colons false false false true g h i = refl
  colons false false false false true h i = refl
  colons false false false false false true i = refl
  colons false false false false false false true = refl
  colons false false false false false false false = refl

  mark_no_word : (a : List ℕ) → is_word_class (class_of_mark a) ≡ false
  unfolding class_of_mark
  mark_no_word a = words (is_mark_text a mark.Semicolon) (is_mark_text a mark.Dot) (is_mark_text a mark.Assign) (is_mark_text a mark.Colon) (is_mark_text a mark.OpenBracket)
      (is_mark_text a mark.OpenParen) (is_mark_text a mark.CloseParen) (is_mark_text a mark.Pointer)

  mark_no_colon : (a : List ℕ) → is_mark_text a mark.Colon ≡ false → is_colon (class_of_mark a) ≡ false
  unfolding class_of_mark
  mark_no_colon a isnt = rw isnt (colons (is_mark_text a mark.Semicolon) (is_mark_text a mark.Dot) (is_mark_text a mark.Assign) (is_mark_text a mark.OpenBracket)
      (is_mark_text a mark.OpenParen) (is_mark_text a mark.CloseParen) (is_mark_text a mark.Pointer))

  kind_of_class : (t : Token) (k : TokenKind) → t.kind ≡ k → is_word_class (token_class k (text_of s t)) ≡ true → has_kind t kind.Word ≡ true
  unfolding token_class
  kind_of_class t kind.Word is word = of_kind t kind.Word kind.Word is
  kind_of_class t kind.Mark is word = absurd (false≢true (sym (mark_no_word (text_of s t)) ∙ word))
  kind_of_class t _ is word = absurd (false≢true word)

  pub word_of_class : (t : Token) → token_class_in s t ≡ class.Word → has_kind t kind.Word ≡ true
  word_of_class t is = kind_of_class t t.kind refl (ap is_word_class is)

  no_colon_kind : (t : Token) (k : TokenKind) → t.kind ≡ k → is_mark s t mark.Colon ≡ false → is_colon (token_class k (text_of s t)) ≡ false
  unfolding token_class is_mark
  no_colon_kind t kind.Mark is isnt = mark_no_colon (text_of s t) (by (has_kind t kind.Mark) (of_kind t kind.Mark kind.Mark is) isnt)
    where
      by : (b : Bool) → b ≡ true → (b && str_eq_ignore_ascii_case (text_of s t) (mark_text mark.Colon)) ≡ false → is_mark_text (text_of s t) mark.Colon ≡ false
      by true is isnt = isnt
      by false is isnt = absurd (false≢true is)
  no_colon_kind t _ is isnt = refl

  no_colon : (t : Token) → is_mark s t mark.Colon ≡ false → is_colon (token_class_in s t) ≡ false
  no_colon t isnt = no_colon_kind t t.kind refl isnt

  labels_end : (f : OperandSyntax) → Labels s e f []
  labels_end operand_syntax.Jump = tt
  labels_end operand_syntax.Operand = tt
  labels_end operand_syntax.Open = tt
  labels_end operand_syntax.BlockCall = tt
  labels_end operand_syntax.Call = tt

  alone_first : (q : Pair s e) → IsFront q → IsFirst s e q []
  alone_first q front = record { text = front_text q front; labels = λ m found. labels_end m.1; fits = tt }

  labelled_first : (n : ℕ) (before : TokenClass) (ps : List (Pair s e)) → AreFormed s (lefts ps) → NoEnd s e n ps → Walk s e place.Labelled before ps → AreInstruction s e (take n ps)
  labelled_first zero before ps shape none h = tt
  labelled_first (suc n) before [] shape none h = tt
  labelled_first (suc n) before (q ∷ qs) shape none h =
      first_from n (token_place_behind place.Labelled before (token_class_in s q.left) (text_of s q.left) (next_class s (lefts qs))) q qs
      (labelled_front before (next_class s (lefts qs)) q h.0) shape.0
      (labelled_on before (token_class_in s q.left) (text_of s q.left) (next_class s (lefts qs)) (no_end s e q.left none.0)) none.1 h.1

  -- the first token of a statement is no note, and neither the end of the block nor a network
  abbrev pub StartsFree : List (Pair s e) → Type 0
  StartsFree [] = Unit {0}
  StartsFree (q ∷ qs) = (is_note (token_class_in s q.left) ≡ false) × (has_kind q.left kind.Word ≡ true → IsFree (text_of s q.left))

  start_label : (before : TokenClass) (text : List ℕ) → role_of place.Start before class.Word text class.Colon ≡ role.Stays
  unfolding role_of role_of_word role_at_start
  start_label before text = by (is_word_in_list block_end_words text || is_word_in_list network_words text)
    where
      by : (b : Bool) → (if b then role.Stays else role_first class.Colon) ≡ role.Stays
      by true = refl
      by false = refl

  label_place : (before : TokenClass) (text : List ℕ) → IsFree text → token_place_behind place.Start before class.Word text class.Colon ≡ place.Label
  unfolding token_place_behind
  label_place before text free = start_word before text class.Colon free

  colon_place : (before : TokenClass) (text : List ℕ) (next : TokenClass) → token_place_behind place.Label before class.Colon text next ≡ place.Labelled
  unfolding token_place_behind place_behind_sign
  colon_place before text next = refl

  -- the place behind a label and its `:`
  label_then : (before : TokenClass) (q r : Pair s e) (rs : List (Pair s e)) → IsFree (text_of s q.left) → token_class_in s q.left ≡ class.Word → token_class_in s r.left ≡ class.Colon
      → token_place_behind (token_place_behind place.Start before (token_class_in s q.left) (text_of s q.left) (token_class_in s r.left)) (token_class_in s q.left) (token_class_in s r.left) (text_of s r.left) (next_class s (lefts rs))
      ≡ place.Labelled
  label_then before q r rs free word colon =
      let first_is = ap (λ (c : TokenClass). token_place_behind place.Start before c (text_of s q.left) (token_class_in s r.left)) word
      ∙ ap (λ (c : TokenClass). token_place_behind place.Start before class.Word (text_of s q.left) c) colon ∙ label_place before (text_of s q.left) free in
      ap (λ (p : TokenPlace). token_place_behind p (token_class_in s q.left) (token_class_in s r.left) (text_of s r.left) (next_class s (lefts rs))) first_is
      ∙ ap (λ (c : TokenClass). token_place_behind place.Label (token_class_in s q.left) c (text_of s r.left) (next_class s (lefts rs))) colon
      ∙ colon_place (token_class_in s q.left) (text_of s r.left) (next_class s (lefts rs))

  -- a label, and the instruction behind its `:`
  labelled_from : (n : ℕ) (before : TokenClass) (q r : Pair s e) (rs : List (Pair s e)) → AreFormed s (lefts rs) → NoEnd s e n rs → Walk s e place.Start before (q ∷ r ∷ rs)
      → IsFree (text_of s q.left) → token_class_in s q.left ≡ class.Word → token_class_in s r.left ≡ class.Colon → IsSamePair q × AreInstruction s e (take n rs)
  labelled_from n before q r rs shape none h free word colon =
      let role_is = ap (λ (c : TokenClass). role_of place.Start before c (text_of s q.left) (token_class_in s r.left)) word
      ∙ ap (λ (c : TokenClass). role_of place.Start before class.Word (text_of s q.left) c) colon ∙ start_label before (text_of s q.left) in (
        subst (λ (x : Role). ComesBackInRole s e x q.left q.right) role_is h.0,
        labelled_first n (token_class_in s r.left) rs shape none (subst (λ (p : TokenPlace). Walk s e p (token_class_in s r.left) rs) (label_then before q r rs free word colon) h.1.1),
      )

  bare_colon : (a b : Bool) → (a && b) ≡ false → a ≡ true → b ≡ false
  bare_colon true b none is = none
  bare_colon false b none is = absurd (false≢true is)

  pub statement_from : (n : ℕ) (before : TokenClass) (ps : List (Pair s e)) → AreFormed s (lefts ps) → NoEnd s e n ps → Walk s e place.Start before ps → StartsFree ps
      → AreStatement s e (take n ps)
  statement_from zero before ps shape none h free = tt
  statement_from (suc n) before [] shape none h free = tt
  statement_from (suc zero) before (q ∷ qs) shape none h free = alone_first q (start_front before (next_class s (lefts qs)) q h.0)
  statement_from (suc (suc n)) before (q ∷ []) shape none h free = alone_first q (start_front before class.Other q h.0)
  statement_from (suc (suc n)) before (q ∷ r ∷ rs) shape none h free = record {
    kinds = front_kinds q front;
    label = λ colon word. labelled_from n before q r rs shape.1.1 none.1.1 h (free.1 word) (class_of_word q.left word) (class_mark s e r.left mark.Colon colon ∙ colon_class);
    bare = λ isnt. first_from (suc n) (token_place_behind place.Start before (token_class_in s q.left) (text_of s q.left) (token_class_in s r.left)) q (r ∷ rs) front shape.0
        (start_on before (token_class_in s q.left) (text_of s q.left) (token_class_in s r.left) (no_end s e q.left none.0) free.0
        (λ word. let is = word_of_class q.left word in
        (free.1 is, no_colon r.left (bare_colon (has_kind q.left kind.Word) (is_mark s r.left mark.Colon) isnt is)))) none.1 h.1;
  }
    where
      front : IsFront q
      front = start_front before (token_class_in s r.left) q h.0

  colon_is : (c : TokenClass) → is_colon c ≡ true → c ≡ class.Colon
  colon_is class.Colon is = refl
  colon_is class.Word is = absurd (false≢true is)
  colon_is class.Number is = absurd (false≢true is)
  colon_is class.Note is = absurd (false≢true is)
  colon_is class.Semicolon is = absurd (false≢true is)
  colon_is class.Dot is = absurd (false≢true is)
  colon_is class.Assign is = absurd (false≢true is)
  colon_is class.OpenBracket is = absurd (false≢true is)
  colon_is class.OpenParen is = absurd (false≢true is)
  colon_is class.CloseParen is = absurd (false≢true is)
  colon_is class.Pointer is = absurd (false≢true is)
  colon_is class.Other is = absurd (false≢true is)

  end_class : (t : Token) → is_mark s t mark.Semicolon ≡ true → token_class_in s t ≡ class.Semicolon
  end_class t is = class_mark s e t mark.Semicolon is ∙ semicolon_class

  abbrev first_or : Pair s e → List (Pair s e) → Pair s e
  first_or d [] = d
  first_or d (x ∷ xs) = x

  start_end : (before : TokenClass) (text : List ℕ) (next : TokenClass) → token_place_behind place.Start before class.Semicolon text next ≡ place.Start
  unfolding token_place_behind place_behind_sign
  start_end before text next = refl

  labelled_end : (before : TokenClass) (text : List ℕ) (next : TokenClass) → token_place_behind place.Labelled before class.Semicolon text next ≡ place.Start
  unfolding token_place_behind place_behind_sign
  labelled_end before text next = refl

  ended : (p : TokenPlace) (before : TokenClass) (q : Pair s e) (qs : List (Pair s e)) → is_mark s q.left mark.Semicolon ≡ true
      → token_place_behind p before class.Semicolon (text_of s q.left) (next_class s (lefts qs)) ≡ place.Start → Walk s e p before (q ∷ qs) → Walk s e place.Start class.Semicolon qs
  ended p before q qs is starts h =
      subst (λ (c : TokenClass). Walk s e place.Start c qs) (end_class q.left is)
      (subst (λ (x : TokenPlace). Walk s e x (token_class_in s q.left) qs)
      (ap (λ (c : TokenClass). token_place_behind p before c (text_of s q.left) (next_class s (lefts qs))) (end_class q.left is) ∙ starts) h.1)

  labelled_walked : (n : ℕ) (before : TokenClass) (ps : List (Pair s e)) (q : Pair s e) (qs : List (Pair s e)) → NoEnd s e n ps → Walk s e place.Labelled before ps
      → drop n ps ≡ q ∷ qs → is_mark s q.left mark.Semicolon ≡ true → Walk s e place.Start class.Semicolon qs
  labelled_walked zero before [] q qs none h there is = absurd cc
  labelled_walked zero before (r ∷ rs) q qs none h there is =
      ended place.Labelled before q qs is (labelled_end before (text_of s q.left) (next_class s (lefts qs))) (subst (λ (l : List (Pair s e)). Walk s e place.Labelled before l) there h)
  labelled_walked (suc n) before [] q qs none h there is = absurd cc
  labelled_walked (suc n) before (r ∷ rs) q qs none h there is =
      walked s e n (token_place_behind place.Labelled before (token_class_in s r.left) (text_of s r.left) (next_class s (lefts rs))) (token_class_in s r.left) rs q qs
      (labelled_on before (token_class_in s r.left) (text_of s r.left) (next_class s (lefts rs)) (no_end s e r.left none.0)).inside none.1 h.1 there is

  label_walked : (n : ℕ) (before : TokenClass) (r : Pair s e) (rs : List (Pair s e)) (q : Pair s e) (qs : List (Pair s e)) → NoEnd s e n rs → Walk s e place.Start before (r ∷ rs)
      → IsFree (text_of s r.left) → token_class_in s r.left ≡ class.Word → is_colon (next_class s (lefts rs)) ≡ true
      → drop n rs ≡ q ∷ qs → is_mark s q.left mark.Semicolon ≡ true → Walk s e place.Start class.Semicolon qs
  label_walked zero before r [] q qs none h free word colon there is = absurd cc
  label_walked zero before r (u ∷ us) q qs none h free word colon there is =
      absurd (false≢true (sym (ap is_colon (end_class u.left (ap (λ (x : Pair s e). is_mark s x.left mark.Semicolon) (ap (first_or q) there) ∙ is))) ∙ colon))
  label_walked (suc n) before r [] q qs none h free word colon there is = absurd cc
  label_walked (suc n) before r (u ∷ us) q qs none h free word colon there is =
      labelled_walked n (token_class_in s u.left) us q qs none.1 (subst (λ (p : TokenPlace). Walk s e p (token_class_in s u.left) us) (label_then before r u us free word (colon_is (token_class_in s u.left) colon)) h.1.1) there is

  -- behind the `;` of a statement the next one begins
  pub statement_walked : (n : ℕ) (before : TokenClass) (ps : List (Pair s e)) (q : Pair s e) (qs : List (Pair s e)) → NoEnd s e n ps → Walk s e place.Start before ps → StartsFree ps
      → drop n ps ≡ q ∷ qs → is_mark s q.left mark.Semicolon ≡ true → Walk s e place.Start class.Semicolon qs
  statement_walked zero before [] q qs none h free there is = absurd cc
  statement_walked zero before (r ∷ rs) q qs none h free there is =
      ended place.Start before q qs is (start_end before (text_of s q.left) (next_class s (lefts qs))) (subst (λ (l : List (Pair s e)). Walk s e place.Start before l) there h)
  statement_walked (suc n) before [] q qs none h free there is = absurd cc
  statement_walked (suc n) before (r ∷ rs) q qs none h free there is =
      by (has_kind r.left kind.Word) refl (is_colon (next_class s (lefts rs))) refl
    where
      on : (token_class_in s r.left ≡ class.Word → IsFree (text_of s r.left) × (is_colon (next_class s (lefts rs)) ≡ false)) → Walk s e place.Start class.Semicolon qs
      on such = walked s e n (token_place_behind place.Start before (token_class_in s r.left) (text_of s r.left) (next_class s (lefts rs))) (token_class_in s r.left) rs q qs
          (start_on before (token_class_in s r.left) (text_of s r.left) (next_class s (lefts rs)) (no_end s e r.left none.0) free.0 such).inside none.1 h.1 there is

      by : (a : Bool) → has_kind r.left kind.Word ≡ a → (b : Bool) → is_colon (next_class s (lefts rs)) ≡ b → Walk s e place.Start class.Semicolon qs
      by true word true colon = label_walked n before r rs q qs none.1 h (free.1 word) (class_of_word r.left word) colon there is
      by true word false isnt = on (λ w. (free.1 word, isnt))
      by false other b colon = on (λ w. absurd (false≢true (sym other ∙ word_of_class r.left w)))
