-- The roles of words in a translation are those of the words that they stand for.
use Rattle.std.proofs.Common.{ℕ, ◌≡◌, Bool, true, false, not, ◌&&◌, ◌||◌, List, [], ◌∷◌, ◌++◌, length, take, drop, find, cond, Option, Some, None, if◌then◌else◌, refl, sym, ◌∙◌, ap, subst, inl, inr}
use Rattle.std.specs.Prelude.{◌⊎◌, codes, is_some}
use Rattle.std.specs.Option.{option_map, option_or}
use Rattle.std.specs.List.{list_all}
use Rattle.std.specs.Char.{is_ascii_digit}
use Rattle.std.specs.Str.{str_eq_ignore_ascii_case}
use Rattle.std.proofs.lemmas.Bool.{and_parts, false≢true, true≢false, not-true, or_cases, or_parts, false_from_ne_true}
use Rattle.std.proofs.lemmas.Option.{none-some, same_Some}
use Rattle.std.proofs.Math.Seq.{drop-append_seam, take-append_seam}
use Rattle.stl_lexer.specs.declared.kinds.TokenKind.{TokenKind}
use Rattle.stl_lexer.specs.declared.kinds.TokenKind.TheVariants as kind
use Rattle.stl_lexer.specs.declared.marks.Mark.TheVariants as mark
use Rattle.stl_symbols.specs.declared.languages.Language.{Language}
use Rattle.stl_symbols.specs.declared.languages.Language.TheVariants.{English, German}
use Rattle.de_mnemonics.specs.declared.classes.TokenClass.{TokenClass}
use Rattle.de_mnemonics.specs.declared.classes.TokenClass.TheVariants as class
use Rattle.de_mnemonics.specs.declared.places.TokenPlace.{TokenPlace}
use Rattle.de_mnemonics.specs.declared.places.TokenPlace.TheVariants as place
use Rattle.de_mnemonics.specs.declared.roles.Role.{Role}
use Rattle.de_mnemonics.specs.declared.roles.Role.TheVariants as role
use Rattle.de_mnemonics.specs.Places.{token_place_behind, place_behind_closing, place_behind_first, place_behind_head, place_behind_instruction, place_behind_outside, place_behind_sign, place_behind_start, place_behind_word, token_class, class_of_mark, is_word_in_list, is_behind_instruction, is_component_word, is_word_in_pairs, is_jump_word, is_numbered_operand, is_operand_place, is_pointer_mark, is_mark_text, opens_path, role_at_start, role_first, role_in, role_of, role_of_word}
use Rattle.de_mnemonics.specs.Tables.{WordPairs, common_jumps, block_end_words, instruction_pairs, jump_pairs, network_words, operand_pairs, result_pairs, zone_words}
use Rattle.de_mnemonics.specs.Words.{digits_of_word, exchanged_word, instruction_partner, letter_count, letters_of_word, numbered_partner, operand_partner, partner_in_table, translated_word}
use Rattle.de_mnemonics.proofs.CaseLemmas.{same_among, same_text}
use Rattle.de_mnemonics.proofs.WordLemmas.{letters_end}
use Rattle.translation_laws.specs.Statements.{is_number_class}
use Rattle.translation_laws.proofs.LetterLemmas.{same_letters}

-- ---- neighbours

-- what a neighbour is in a source, and in its translation: a name with its `#` is no word any more
abbrev pub IsNear : TokenClass → TokenClass → Type 0
IsNear c d = (c ≡ d) ⊎ ((c ≡ class.Word) × (d ≡ class.Other))

near_by : {X : Type 0} (f : TokenClass → X) → f class.Word ≡ f class.Other → (c d : TokenClass) → IsNear c d → f c ≡ f d
near_by f e c d (inl same) = ap f same
near_by f e c d (inr (word, other)) = ap f word ∙ e ∙ sym (ap f other)

word_before : (p : TokenPlace) (x : List ℕ) (n : TokenClass) → place_behind_word p class.Word x n ≡ place_behind_word p class.Other x n
unfolding place_behind_word place_behind_outside place_behind_head
word_before place.Outside x n = refl
word_before place.Head x n = refl
word_before place.Start x n = refl
word_before place.Label x n = refl
word_before place.Labelled x n = refl
word_before place.Jump x n = refl
word_before place.Instruction x n = refl
word_before place.Closing x n = refl
word_before place.Path x n = refl
word_before place.Inside x n = refl

word_next : (p : TokenPlace) (b : TokenClass) (x : List ℕ) → place_behind_word p b x class.Word ≡ place_behind_word p b x class.Other
unfolding place_behind_word place_behind_start
word_next place.Outside b x = refl
word_next place.Head b x = refl
word_next place.Start b x = refl
word_next place.Label b x = refl
word_next place.Labelled b x = refl
word_next place.Jump b x = refl
word_next place.Instruction b x = refl
word_next place.Closing b x = refl
word_next place.Path b x = refl
word_next place.Inside b x = refl

role_before : (p : TokenPlace) (x : List ℕ) (n : TokenClass) → role_of_word p class.Word x n ≡ role_of_word p class.Other x n
unfolding role_of_word role_in is_operand_place
role_before place.Outside x n = refl
role_before place.Head x n = refl
role_before place.Start x n = refl
role_before place.Label x n = refl
role_before place.Labelled x n = refl
role_before place.Jump x n = refl
role_before place.Instruction x n = refl
role_before place.Closing x n = refl
role_before place.Path x n = refl
role_before place.Inside x n = refl

role_next : (p : TokenPlace) (b : TokenClass) (x : List ℕ) → role_of_word p b x class.Word ≡ role_of_word p b x class.Other
unfolding role_of_word role_at_start role_in is_operand_place is_numbered_operand
role_next place.Outside b x = refl
role_next place.Head b x = refl
role_next place.Start b x = refl
role_next place.Label b x = refl
role_next place.Labelled b x = refl
role_next place.Jump b x = refl
role_next place.Instruction b x = refl
role_next place.Closing b x = refl
role_next place.Path b x = refl
role_next place.Inside b x = refl

-- the place behind a word, and its role, between neighbours of a translation
pub same_behind_word : (p : TokenPlace) (b b' : TokenClass) (x : List ℕ) (n n' : TokenClass) → IsNear b b' → IsNear n n'
    → place_behind_word p b' x n' ≡ place_behind_word p b x n
same_behind_word p b b' x n n' h k =
    sym (near_by (λ c. place_behind_word p c x n) (word_before p x n) b b' h ∙ near_by (λ c. place_behind_word p b' x c) (word_next p b' x) n n' k)

pub same_role_word : (p : TokenPlace) (b b' : TokenClass) (x : List ℕ) (n n' : TokenClass) → IsNear b b' → IsNear n n'
    → role_of_word p b' x n' ≡ role_of_word p b x n
same_role_word p b b' x n n' h k =
    sym (near_by (λ c. role_of_word p c x n) (role_before p x n) b b' h ∙ near_by (λ c. role_of_word p b' x c) (role_next p b' x) n n' k)

-- ---- tokens that are no words

abbrev pub is_plain_class : TokenClass → Bool
is_plain_class class.Word = false
is_plain_class _ = true

pub role_plain : (p : TokenPlace) (b c : TokenClass) (x : List ℕ) (n : TokenClass) → is_plain_class c ≡ true → role_of p b c x n ≡ role.Stays
unfolding role_of
role_plain p b class.Word x n e = absurd (false≢true e)
role_plain p b class.Number x n e = refl
role_plain p b class.Note x n e = refl
role_plain p b class.Semicolon x n e = refl
role_plain p b class.Dot x n e = refl
role_plain p b class.Assign x n e = refl
role_plain p b class.Colon x n e = refl
role_plain p b class.OpenBracket x n e = refl
role_plain p b class.OpenParen x n e = refl
role_plain p b class.CloseParen x n e = refl
role_plain p b class.Pointer x n e = refl
role_plain p b class.Other x n e = refl

pub behind_plain : (p : TokenPlace) (b c : TokenClass) (x : List ℕ) (n : TokenClass) → is_plain_class c ≡ true → token_place_behind p b c x n ≡ place_behind_sign p c
unfolding token_place_behind
behind_plain p b class.Word x n e = absurd (false≢true e)
behind_plain p b class.Number x n e = refl
behind_plain p b class.Note x n e = refl
behind_plain p b class.Semicolon x n e = refl
behind_plain p b class.Dot x n e = refl
behind_plain p b class.Assign x n e = refl
behind_plain p b class.Colon x n e = refl
behind_plain p b class.OpenBracket x n e = refl
behind_plain p b class.OpenParen x n e = refl
behind_plain p b class.CloseParen x n e = refl
behind_plain p b class.Pointer x n e = refl
behind_plain p b class.Other x n e = refl

-- the class of a mark by the tests of its text, one behind the other
mark_class : (a b c d e f g h : Bool) → TokenClass
mark_class a b c d e f g h =
    if a then class.Semicolon
    else (if b then class.Dot
    else (if c then class.Assign
    else (if d then class.Colon
    else (if e then class.OpenBracket
    else (if f then class.OpenParen
    else (if g then class.CloseParen
    else (if h then class.Pointer
    else class.Other)))))))

mark_class_plain : (a b c d e f g h : Bool) → is_plain_class (mark_class a b c d e f g h) ≡ true
unfolding mark_class
mark_class_plain true b c d e f g h = refl
mark_class_plain false true c d e f g h = refl
mark_class_plain false false true d e f g h = refl
mark_class_plain false false false true e f g h = refl
mark_class_plain false false false false true f g h = refl
mark_class_plain false false false false false true g h = refl
mark_class_plain false false false false false false true h = refl
mark_class_plain false false false false false false false true = refl
mark_class_plain false false false false false false false false = refl

mark_plain : (x : List ℕ) → is_plain_class (class_of_mark x) ≡ true
unfolding class_of_mark mark_class
mark_plain x =
    mark_class_plain (is_mark_text x mark.Semicolon) (is_mark_text x mark.Dot) (is_mark_text x mark.Assign) (is_mark_text x mark.Colon) (is_mark_text x mark.OpenBracket)
    (is_mark_text x mark.OpenParen) (is_mark_text x mark.CloseParen) (is_mark_text x mark.Pointer)

-- the kinds of tokens other than words
abbrev pub is_word_kind : TokenKind → Bool
is_word_kind kind.Word = true
is_word_kind _ = false

pub kind_plain : (k : TokenKind) (x : List ℕ) → is_word_kind k ≡ false → is_plain_class (token_class k x) ≡ true
unfolding token_class
kind_plain kind.Word x e = absurd (true≢false e)
kind_plain kind.Number x e = refl
kind_plain kind.Quoted x e = refl
kind_plain kind.Local x e = refl
kind_plain kind.Characters x e = refl
kind_plain kind.Based x e = refl
kind_plain kind.NumberLiteral x e = refl
kind_plain kind.TimeLiteral x e = refl
kind_plain kind.Mark x e = mark_plain x
kind_plain kind.SignWord x e = refl
kind_plain kind.Attribute x e = refl
kind_plain kind.Title x e = refl

-- ---- words of tables

-- the pair that a word was found in
record IsEntry (test : List ℕ × List ℕ → Bool) (word found : List ℕ) : Type 0 where
  pair : List ℕ × List ℕ
  same : str_eq_ignore_ascii_case word pair.0 ≡ true
  beside : pair.1 ≡ found
  passes : test pair ≡ true

entry : (test : List ℕ × List ℕ → Bool) (table : WordPairs) (word found : List ℕ) → list_all test table ≡ true → partner_in_table German table word ≡ Some found
    → IsEntry test word found
unfolding partner_in_table
entry test [] word found all is = absurd (none-some found is)
entry test (p ∷ ps) word found all is =
    let parts = and_parts (test p) (list_all test ps) all in
    by_test p (find (λ pair. str_eq_ignore_ascii_case word pair.0) ps) parts.0 (str_eq_ignore_ascii_case word p.0) refl (λ e. entry test ps word found parts.1 e) is
  where
    by_test : (p : List ℕ × List ℕ) (more : Option (List ℕ × List ℕ)) → test p ≡ true → (b : Bool) → str_eq_ignore_ascii_case word p.0 ≡ b
        → (option_map (λ pair. pair.1) more ≡ Some found → IsEntry test word found)
        → option_map (λ pair. pair.1) (cond b (Some p) more) ≡ Some found → IsEntry test word found
    by_test p more passes true e rest is = record { pair = p; same = e; beside = same_Some p.1 found is; passes = passes }
    by_test p more passes false e rest is = rest is

same_first : (table : WordPairs) (a b : List ℕ) → str_eq_ignore_ascii_case a b ≡ true
    → find (λ pair. str_eq_ignore_ascii_case a pair.0) table ≡ find (λ pair. str_eq_ignore_ascii_case b pair.0) table
same_first [] a b e = refl
same_first (x ∷ xs) a b e = rw (same_text a b x.0 e, same_first xs a b e) refl

same_second : (table : WordPairs) (a b : List ℕ) → str_eq_ignore_ascii_case a b ≡ true
    → find (λ pair. str_eq_ignore_ascii_case a pair.1) table ≡ find (λ pair. str_eq_ignore_ascii_case b pair.1) table
same_second [] a b e = refl
same_second (x ∷ xs) a b e = rw (same_text a b x.1 e, same_second xs a b e) refl

-- what stands beside a word goes by no case
same_partner : (language : Language) (table : WordPairs) (a b : List ℕ) → str_eq_ignore_ascii_case a b ≡ true
    → partner_in_table language table a ≡ partner_in_table language table b
unfolding partner_in_table
same_partner German table a b e = ap (λ (o : Option (List ℕ × List ℕ)). option_map (λ pair. pair.1) o) (same_first table a b e)
same_partner English table a b e = ap (λ (o : Option (List ℕ × List ℕ)). option_map (λ pair. pair.0) o) (same_second table a b e)

same_in : (table : WordPairs) (a b : List ℕ) → str_eq_ignore_ascii_case a b ≡ true → is_word_in_pairs table a ≡ is_word_in_pairs table b
unfolding is_word_in_pairs
same_in table a b e = rw (same_partner German table a b e, same_partner English table a b e) refl

same_jump : (a b : List ℕ) → str_eq_ignore_ascii_case a b ≡ true → is_jump_word a ≡ is_jump_word b
unfolding is_jump_word
same_jump a b e = rw (same_in jump_pairs a b e, same_among common_jumps a b e) refl

-- ---- instruction words

-- a keyword at the start of a statement
abbrev is_keyword : List ℕ → Bool
is_keyword word = is_word_in_list block_end_words word || is_word_in_list network_words word

same_keyword : (a b : List ℕ) → str_eq_ignore_ascii_case a b ≡ true → is_keyword a ≡ is_keyword b
same_keyword a b e = rw (same_among block_end_words a b e, same_among network_words a b e) refl

-- a word and the one that it is exchanged for are no keywords, and jumps both or neither
pub record Exchanges (x w : List ℕ) : Type 0 where
  pub keyword_before : is_keyword x ≡ false
  pub keyword_behind : is_keyword w ≡ false
  pub jump : is_jump_word w ≡ is_jump_word x

abbrev common_pair : List ℕ × List ℕ → Bool
common_pair pair = not (is_keyword pair.0) && (not (is_keyword pair.1) && (not (is_jump_word pair.0) && not (is_jump_word pair.1)))

abbrev jump_pair : List ℕ × List ℕ → Bool
jump_pair pair = not (is_keyword pair.0) && (not (is_keyword pair.1) && (is_jump_word pair.0 && is_jump_word pair.1))

instructions_common : list_all common_pair instruction_pairs ≡ true
unfolding instruction_pairs is_jump_word is_word_in_pairs is_word_in_list partner_in_table jump_pairs common_jumps block_end_words network_words
instructions_common = refl

jumps_jump : list_all jump_pair jump_pairs ≡ true
unfolding is_jump_word is_word_in_pairs is_word_in_list partner_in_table jump_pairs common_jumps block_end_words network_words
jumps_jump = refl

by_common : (x w : List ℕ) → IsEntry common_pair x w → Exchanges x w
by_common x w h =
    let first = and_parts (not (is_keyword h.pair.0)) (not (is_keyword h.pair.1) && (not (is_jump_word h.pair.0) && not (is_jump_word h.pair.1))) h.passes in
    let second = and_parts (not (is_keyword h.pair.1)) (not (is_jump_word h.pair.0) && not (is_jump_word h.pair.1)) first.1 in
    let third = and_parts (not (is_jump_word h.pair.0)) (not (is_jump_word h.pair.1)) second.1 in
    record {
      keyword_before = same_keyword x h.pair.0 h.same ∙ not-true (is_keyword h.pair.0) first.0;
      keyword_behind = ap is_keyword (sym h.beside) ∙ not-true (is_keyword h.pair.1) second.0;
      jump = ap is_jump_word (sym h.beside) ∙ not-true (is_jump_word h.pair.1) third.1 ∙ sym (same_jump x h.pair.0 h.same ∙ not-true (is_jump_word h.pair.0) third.0);
    }

by_jump : (x w : List ℕ) → IsEntry jump_pair x w → Exchanges x w
by_jump x w h =
    let first = and_parts (not (is_keyword h.pair.0)) (not (is_keyword h.pair.1) && (is_jump_word h.pair.0 && is_jump_word h.pair.1)) h.passes in
    let second = and_parts (not (is_keyword h.pair.1)) (is_jump_word h.pair.0 && is_jump_word h.pair.1) first.1 in
    let third = and_parts (is_jump_word h.pair.0) (is_jump_word h.pair.1) second.1 in
    record {
      keyword_before = same_keyword x h.pair.0 h.same ∙ not-true (is_keyword h.pair.0) first.0;
      keyword_behind = ap is_keyword (sym h.beside) ∙ not-true (is_keyword h.pair.1) second.0;
      jump = ap is_jump_word (sym h.beside) ∙ third.1 ∙ sym (same_jump x h.pair.0 h.same ∙ third.0);
    }

by_tables : (x w : List ℕ) (o : Option (List ℕ)) → partner_in_table German instruction_pairs x ≡ o → option_or o (partner_in_table German jump_pairs x) ≡ Some w → Exchanges x w
by_tables x w (Some found) e is = by_common x w (entry common_pair instruction_pairs x w instructions_common (e ∙ is))
by_tables x w None e is = by_jump x w (entry jump_pair jump_pairs x w jumps_jump is)

partner_exchanges : (x w : List ℕ) → instruction_partner German x ≡ Some w → Exchanges x w
unfolding instruction_partner
partner_exchanges x w is = by_tables x w (partner_in_table German instruction_pairs x) refl is

-- a word that was looked up is exchanged, or it is the same
pub exchanged_or : (o : Option (List ℕ)) (foreign : Bool) (x w : List ℕ) → exchanged_word o foreign x ≡ Some w → (o ≡ Some w) ⊎ ((o ≡ None) × (w ≡ x))
exchanged_or (Some found) foreign x w is = inl is
exchanged_or None true x w is = absurd (none-some w is)
exchanged_or None false x w is = inr (refl, sym (same_Some x w is))

pub instruction_exchanges : (x w : List ℕ) → translated_word German role.Instruction x ≡ Some w → (w ≡ x) ⊎ Exchanges x w
unfolding translated_word
instruction_exchanges x w is =
    elim (exchanged_or (instruction_partner German x) (is_some (instruction_partner English x)) x w is) [
      | inl found ↦ inr (partner_exchanges x w found)
      | inr same ↦ inl same.1
    ]

-- what holds of a word in a role behind it, in its place
pub record Keeps (p : TokenPlace) (b : TokenClass) (x w : List ℕ) (n : TokenClass) : Type 0 where
  pub role : role_of_word p b w n ≡ role_of_word p b x n
  pub behind : place_behind_word p b w n ≡ place_behind_word p b x n

pub keeps_same : (p : TokenPlace) (b : TokenClass) (x w : List ℕ) (n : TokenClass) → w ≡ x → Keeps p b x w n
keeps_same p b x w n e = record { role = ap (λ (y : List ℕ). role_of_word p b y n) e; behind = ap (λ (y : List ℕ). place_behind_word p b y n) e }

in_no_instruction : (c o q : Bool) → (if c then role.Stays else (if o then role.Operand else (if q then role.Path else role.Stays))) ≡ role.Instruction → ⊥
in_no_instruction true o q e = cc
in_no_instruction false true q e = cc
in_no_instruction false false true e = cc
in_no_instruction false false false e = cc

role_in_none : (p : TokenPlace) (b : TokenClass) (x : List ℕ) (n : TokenClass) → role_in p b x n ≡ role.Instruction → ⊥
unfolding role_in
role_in_none p b x n e = in_no_instruction (is_component_word b n) (is_operand_place b x n) (opens_path p b) e

instruction_same : (x w : List ℕ) → Exchanges x w → place_behind_instruction w ≡ place_behind_instruction x
unfolding place_behind_instruction
instruction_same x w h = rw h.jump refl

first_same : (n : TokenClass) (x w : List ℕ) → Exchanges x w → place_behind_first n w ≡ place_behind_first n x
first_same class.Colon x w h = refl
first_same class.Word x w h = instruction_same x w h
first_same class.Number x w h = instruction_same x w h
first_same class.Note x w h = instruction_same x w h
first_same class.Semicolon x w h = instruction_same x w h
first_same class.Dot x w h = instruction_same x w h
first_same class.Assign x w h = instruction_same x w h
first_same class.OpenBracket x w h = instruction_same x w h
first_same class.OpenParen x w h = instruction_same x w h
first_same class.CloseParen x w h = instruction_same x w h
first_same class.Pointer x w h = instruction_same x w h
first_same class.Other x w h = instruction_same x w h

start_same : (x w : List ℕ) (n : TokenClass) → Exchanges x w → place_behind_start w n ≡ place_behind_start x n
unfolding place_behind_start
start_same x w n h =
    let before = or_parts (is_word_in_list block_end_words x) (is_word_in_list network_words x) h.keyword_before in
    let later = or_parts (is_word_in_list block_end_words w) (is_word_in_list network_words w) h.keyword_behind in
    rw (before.0, before.1, later.0, later.1) (first_same n x w h)

start_role_same : (x w : List ℕ) (n : TokenClass) → Exchanges x w → role_at_start w n ≡ role_at_start x n
unfolding role_at_start
start_role_same x w n h = rw (h.keyword_before, h.keyword_behind) refl

-- an instruction word's place and role are those of the word that it was exchanged for
pub instruction_keeps : (p : TokenPlace) (b : TokenClass) (x w : List ℕ) (n : TokenClass) → role_of_word p b x n ≡ role.Instruction → Exchanges x w
    → Keeps p b x w n
unfolding role_of_word place_behind_word
instruction_keeps place.Outside b x w n e h = absurd cc
instruction_keeps place.Head b x w n e h = absurd cc
instruction_keeps place.Start b x w n e h = record { role = start_role_same x w n h; behind = start_same x w n h }
instruction_keeps place.Label b x w n e h = record { role = refl; behind = instruction_same x w h }
instruction_keeps place.Labelled b x w n e h = record { role = refl; behind = instruction_same x w h }
instruction_keeps place.Jump b x w n e h = absurd cc
instruction_keeps place.Instruction b x w n e h = absurd (role_in_none place.Instruction b x n e)
instruction_keeps place.Closing b x w n e h = absurd (role_in_none place.Closing b x n e)
instruction_keeps place.Path b x w n e h = absurd (role_in_none place.Path b x n e)
instruction_keeps place.Inside b x w n e h = absurd (role_in_none place.Inside b x n e)

-- ---- operand words

-- letters that are those of another word stand in no table where the other's don't
letters_none : (language : Language) (x y : List ℕ) → str_eq_ignore_ascii_case x y ≡ true → partner_in_table language operand_pairs (letters_of_word y) ≡ None
    → partner_in_table language operand_pairs (letters_of_word x) ≡ None
letters_none language x y e none = same_partner language operand_pairs (letters_of_word x) (letters_of_word y) (same_letters x y e) ∙ none

numbered_none : (language : Language) (x : List ℕ) → partner_in_table language operand_pairs (letters_of_word x) ≡ None → numbered_partner language x ≡ None
unfolding numbered_partner
numbered_none language x none = rw none (by (list_all is_ascii_digit (digits_of_word x)))
  where
    by : (b : Bool) → (if b then option_map (λ (found : List ℕ). found ++ digits_of_word x) None else None) ≡ None
    by true = refl
    by false = refl

-- the word of `)MCR` is no operand word
zone_none : (language : Language) → (partner_in_table language operand_pairs (letters_of_word (codes "MCR")) ≡ None) × (partner_in_table language result_pairs (codes "MCR") ≡ None)
unfolding partner_in_table operand_pairs result_pairs
zone_none English = (refl, refl)
zone_none German = (refl, refl)

in_zone : (x : List ℕ) → is_word_in_list zone_words x ≡ true → str_eq_ignore_ascii_case x (codes "MCR") ≡ true
unfolding is_word_in_list zone_words
in_zone x e = elim (or_cases (str_eq_ignore_ascii_case x (codes "MCR")) false e) [ inl is ↦ is | inr no_ ↦ absurd (false≢true no_) ]

zone_is_none : (language : Language) (x : List ℕ) → is_word_in_list zone_words x ≡ true → operand_partner language x ≡ None
unfolding operand_partner
zone_is_none language x e =
    let is = in_zone x e in
    rw (numbered_none language x (letters_none language x (codes "MCR") is (zone_none language).0))
    (same_partner language result_pairs x (codes "MCR") is ∙ (zone_none language).1)

pub operand_no_zone : (language : Language) (x : List ℕ) → is_some (operand_partner language x) ≡ true → is_word_in_list zone_words x ≡ false
operand_no_zone language x e =
    false_from_ne_true (is_word_in_list zone_words x) (λ zone. false≢true (sym (ap is_some (zone_is_none language x zone)) ∙ e))

-- the pair of letters that take a number: both columns have them, the German ones have no digit and lead back
abbrev letters_pair : List ℕ × List ℕ → Bool
letters_pair pair =
    is_word_in_pairs operand_pairs pair.0 && (is_word_in_pairs operand_pairs pair.1 && (list_all (λ b. not (is_ascii_digit b)) pair.1 && is_some (partner_in_table English operand_pairs pair.1)))

operands_letters : list_all letters_pair operand_pairs ≡ true
unfolding operand_pairs is_word_in_pairs partner_in_table
operands_letters = refl

-- a word with its number, and the one that it is exchanged for
pub record Renumbers (x w : List ℕ) : Type 0 where
  before : is_word_in_pairs operand_pairs (letters_of_word x) ≡ true
  behind : is_word_in_pairs operand_pairs (letters_of_word w) ≡ true
  same : digits_of_word w ≡ digits_of_word x
  all : list_all is_ascii_digit (digits_of_word x) ≡ true
  there : is_some (partner_in_table German operand_pairs (letters_of_word x)) ≡ true
  back : is_some (partner_in_table English operand_pairs (letters_of_word w)) ≡ true

operand_renumbered : (x w f : List ℕ) → list_all is_ascii_digit (digits_of_word x) ≡ true → partner_in_table German operand_pairs (letters_of_word x) ≡ Some f
    → IsEntry letters_pair (letters_of_word x) f → f ++ digits_of_word x ≡ w → Renumbers x w
operand_renumbered x w f all there h is =
    let first = and_parts (is_word_in_pairs operand_pairs h.pair.0) (is_word_in_pairs operand_pairs h.pair.1 && (list_all (λ b. not (is_ascii_digit b)) h.pair.1 && is_some (partner_in_table English operand_pairs h.pair.1))) h.passes in
    let second = and_parts (is_word_in_pairs operand_pairs h.pair.1) (list_all (λ b. not (is_ascii_digit b)) h.pair.1 && is_some (partner_in_table English operand_pairs h.pair.1)) first.1 in
    let third = and_parts (list_all (λ b. not (is_ascii_digit b)) h.pair.1) (is_some (partner_in_table English operand_pairs h.pair.1)) second.1 in
    let plain : list_all (λ b. not (is_ascii_digit b)) f ≡ true = subst (λ (l : List ℕ). list_all (λ b. not (is_ascii_digit b)) l ≡ true) h.beside third.0 in
    let end : letter_count (f ++ digits_of_word x) ≡ length f = letters_end f (digits_of_word x) plain all in
    let front : letters_of_word (f ++ digits_of_word x) ≡ f = ap (λ k. take k (f ++ digits_of_word x)) end ∙ take-append_seam f (digits_of_word x) in
    let rest : digits_of_word (f ++ digits_of_word x) ≡ digits_of_word x = ap (λ k. drop k (f ++ digits_of_word x)) end ∙ drop-append_seam f (digits_of_word x) in
    let word : letters_of_word w ≡ h.pair.1 = ap (λ (l : List ℕ). letters_of_word l) (sym is) ∙ front ∙ sym h.beside in
    record {
      before = same_in operand_pairs (letters_of_word x) h.pair.0 h.same ∙ first.0;
      behind = ap (is_word_in_pairs operand_pairs) word ∙ second.0;
      same = ap (λ (l : List ℕ). digits_of_word l) (sym is) ∙ rest;
      all = all;
      there = ap is_some there;
      back = ap (λ (l : List ℕ). is_some (partner_in_table English operand_pairs l)) word ∙ third.1;
    }

numbered_renumbers : (x w : List ℕ) → numbered_partner German x ≡ Some w → Renumbers x w
unfolding numbered_partner
numbered_renumbers x w is = by_digits (list_all is_ascii_digit (digits_of_word x)) refl is
  where
    by_letters : list_all is_ascii_digit (digits_of_word x) ≡ true → (o : Option (List ℕ)) → partner_in_table German operand_pairs (letters_of_word x) ≡ o
        → option_map (λ (found : List ℕ). found ++ digits_of_word x) o ≡ Some w → Renumbers x w
    by_letters all None e found = absurd (none-some w found)
    by_letters all (Some f) e found = operand_renumbered x w f all e (entry letters_pair operand_pairs (letters_of_word x) f operands_letters e) (same_Some (f ++ digits_of_word x) w found)

    by_digits : (b : Bool) → list_all is_ascii_digit (digits_of_word x) ≡ b
        → (if b then option_map (λ (found : List ℕ). found ++ digits_of_word x) (partner_in_table German operand_pairs (letters_of_word x)) else None) ≡ Some w → Renumbers x w
    by_digits true all found = by_letters all (partner_in_table German operand_pairs (letters_of_word x)) refl found
    by_digits false all found = absurd (none-some w found)

-- the German word of the binary result is one, and leads back
abbrev result_pair : List ℕ × List ℕ → Bool
result_pair pair = is_word_in_pairs result_pairs pair.1 && is_some (operand_partner English pair.1)

results_result : list_all result_pair result_pairs ≡ true
unfolding result_pairs is_word_in_pairs partner_in_table operand_partner numbered_partner operand_pairs
results_result = refl

-- what an operand word is exchanged for
abbrev pub Reoperands : List ℕ → List ℕ → Type 0
Reoperands x w = Renumbers x w ⊎ ((is_word_in_pairs result_pairs w ≡ true) × (is_some (operand_partner English w) ≡ true))

by_number : (x w : List ℕ) (o : Option (List ℕ)) → numbered_partner German x ≡ o → option_or o (partner_in_table German result_pairs x) ≡ Some w → Reoperands x w
by_number x w (Some found) e is = inl (numbered_renumbers x w (e ∙ is))
by_number x w None e is =
    let h = entry result_pair result_pairs x w results_result is in
    let parts = and_parts (is_word_in_pairs result_pairs h.pair.1) (is_some (operand_partner English h.pair.1)) h.passes in
    inr (ap (is_word_in_pairs result_pairs) (sym h.beside) ∙ parts.0, ap (λ (l : List ℕ). is_some (operand_partner English l)) (sym h.beside) ∙ parts.1)

pub partner_reoperands : (x w : List ℕ) → operand_partner German x ≡ Some w → Reoperands x w
unfolding operand_partner
partner_reoperands x w is = by_number x w (numbered_partner German x) refl is

leads_back : (w : List ℕ) → list_all is_ascii_digit (digits_of_word w) ≡ true → is_some (partner_in_table English operand_pairs (letters_of_word w)) ≡ true
    → is_some (operand_partner English w) ≡ true
unfolding operand_partner numbered_partner
leads_back w all e = by (partner_in_table English operand_pairs (letters_of_word w)) e all
  where
    by : (o : Option (List ℕ)) → is_some o ≡ true → list_all is_ascii_digit (digits_of_word w) ≡ true
        → is_some (option_or (if list_all is_ascii_digit (digits_of_word w) then option_map (λ (found : List ℕ). found ++ digits_of_word w) o else None) (partner_in_table English result_pairs w)) ≡ true
    by None h k = absurd (false≢true h)
    by (Some f) h k = rw k refl

reoperands_back : (x w : List ℕ) → Reoperands x w → is_some (operand_partner English w) ≡ true
reoperands_back x w (inl h) = leads_back w (ap (λ (l : List ℕ). list_all is_ascii_digit l) h.same ∙ h.all) h.back
reoperands_back x w (inr h) = h.1

-- a test that goes by no case holds of each word that is in one of the columns of a table, where it holds of all words there
first_passes : (test : List ℕ → Bool) → ((a b : List ℕ) → str_eq_ignore_ascii_case a b ≡ true → test a ≡ test b) → (table : WordPairs) (x : List ℕ)
    → list_all (λ pair. test pair.0 && test pair.1) table ≡ true → is_some (partner_in_table German table x) ≡ true → test x ≡ true
unfolding partner_in_table
first_passes test same [] x all e = absurd (false≢true e)
first_passes test same (p ∷ ps) x all e =
    let parts = and_parts (test p.0 && test p.1) (list_all (λ pair. test pair.0 && test pair.1) ps) all in
    by_test (str_eq_ignore_ascii_case x p.0) refl (and_parts (test p.0) (test p.1) parts.0).0 (λ more. first_passes test same ps x parts.1 more) e
  where
    by_test : (b : Bool) → str_eq_ignore_ascii_case x p.0 ≡ b → test p.0 ≡ true
        → (is_some (option_map (λ pair. pair.1) (find (λ pair. str_eq_ignore_ascii_case x pair.0) ps)) ≡ true → test x ≡ true)
        → is_some (option_map (λ pair. pair.1) (cond b (Some p) (find (λ pair. str_eq_ignore_ascii_case x pair.0) ps))) ≡ true → test x ≡ true
    by_test true is here rest more = same x p.0 is ∙ here
    by_test false is here rest more = rest more

second_passes : (test : List ℕ → Bool) → ((a b : List ℕ) → str_eq_ignore_ascii_case a b ≡ true → test a ≡ test b) → (table : WordPairs) (x : List ℕ)
    → list_all (λ pair. test pair.0 && test pair.1) table ≡ true → is_some (partner_in_table English table x) ≡ true → test x ≡ true
unfolding partner_in_table
second_passes test same [] x all e = absurd (false≢true e)
second_passes test same (p ∷ ps) x all e =
    let parts = and_parts (test p.0 && test p.1) (list_all (λ pair. test pair.0 && test pair.1) ps) all in
    by_test (str_eq_ignore_ascii_case x p.1) refl (and_parts (test p.0) (test p.1) parts.0).1 (λ more. second_passes test same ps x parts.1 more) e
  where
    by_test : (b : Bool) → str_eq_ignore_ascii_case x p.1 ≡ b → test p.1 ≡ true
        → (is_some (option_map (λ pair. pair.0) (find (λ pair. str_eq_ignore_ascii_case x pair.1) ps)) ≡ true → test x ≡ true)
        → is_some (option_map (λ pair. pair.0) (cond b (Some p) (find (λ pair. str_eq_ignore_ascii_case x pair.1) ps))) ≡ true → test x ≡ true
    by_test true is here rest more = same x p.1 is ∙ here
    by_test false is here rest more = rest more

-- the letters of a word take no number in English
abbrev is_unnumbered : List ℕ → Bool
is_unnumbered word = not (is_some (partner_in_table German operand_pairs (letters_of_word word)))

same_unnumbered : (a b : List ℕ) → str_eq_ignore_ascii_case a b ≡ true → is_unnumbered a ≡ is_unnumbered b
same_unnumbered a b e = ap (λ (o : Option (List ℕ)). not (is_some o)) (same_partner German operand_pairs (letters_of_word a) (letters_of_word b) (same_letters a b e))

results_unnumbered : list_all (λ pair. is_unnumbered pair.0 && is_unnumbered pair.1) result_pairs ≡ true
unfolding result_pairs partner_in_table operand_pairs
results_unnumbered = refl

result_unnumbered : (x : List ℕ) → is_word_in_pairs result_pairs x ≡ true → is_unnumbered x ≡ true
unfolding is_word_in_pairs
result_unnumbered x e =
    elim (or_cases (is_some (partner_in_table German result_pairs x)) (is_some (partner_in_table English result_pairs x)) e) [
      | inl first ↦ first_passes is_unnumbered same_unnumbered result_pairs x results_unnumbered first
      | inr second ↦ second_passes is_unnumbered same_unnumbered result_pairs x results_unnumbered second
    ]

-- a word whose letters take a number is none of the binary result
numbered_no_result : (x : List ℕ) → is_some (partner_in_table German operand_pairs (letters_of_word x)) ≡ true → is_word_in_pairs result_pairs x ≡ false
numbered_no_result x e =
    false_from_ne_true (is_word_in_pairs result_pairs x)
    (λ is. true≢false (sym e ∙ not-true (is_some (partner_in_table German operand_pairs (letters_of_word x))) (result_unnumbered x is)))

same_numbered : (x w : List ℕ) (n : TokenClass) → Renumbers x w → is_numbered_operand w n ≡ is_numbered_operand x n
unfolding is_numbered_operand
same_numbered x w n h = rw (h.before, h.behind, h.same) refl

-- ---- the place of an operand word

keep_or : (a c d : Bool) → (a || c || false) ≡ true → (a || c || d) ≡ true
keep_or true true true e = refl
keep_or true true false e = refl
keep_or true false true e = refl
keep_or true false false e = refl
keep_or false true true e = refl
keep_or false true false e = refl
keep_or false false d e = absurd (false≢true e)

or_last : (a c : Bool) → (a || c || true) ≡ true
or_last true true = refl
or_last true false = refl
or_last false true = refl
or_last false false = refl

place_kept : (b : TokenClass) (x w : List ℕ) (n : TokenClass) → is_operand_place b x n ≡ true → Reoperands x w → is_operand_place b w n ≡ true
unfolding is_operand_place
place_kept b x w n e (inl h) =
    let alone : is_word_in_pairs result_pairs x ≡ false = numbered_no_result x h.there in
    subst (λ c. (is_pointer_mark b || c || is_word_in_pairs result_pairs w) ≡ true) (sym (same_numbered x w n h))
    (keep_or (is_pointer_mark b) (is_numbered_operand x n) (is_word_in_pairs result_pairs w) (subst (λ d. (is_pointer_mark b || is_numbered_operand x n || d) ≡ true) alone e))
place_kept b x w n e (inr h) = subst (λ d. (is_pointer_mark b || is_numbered_operand w n || d) ≡ true) (sym h.0) (or_last (is_pointer_mark b) (is_numbered_operand w n))

abbrev is_front_role : Role → Bool
is_front_role role.Stays = true
is_front_role role.Instruction = true
is_front_role role.Operand = false
is_front_role role.Path = false

first_front : (n : TokenClass) → is_front_role (role_first n) ≡ true
first_front class.Colon = refl
first_front class.Word = refl
first_front class.Number = refl
first_front class.Note = refl
first_front class.Semicolon = refl
first_front class.Dot = refl
first_front class.Assign = refl
first_front class.OpenBracket = refl
first_front class.OpenParen = refl
first_front class.CloseParen = refl
first_front class.Pointer = refl
first_front class.Other = refl

start_front : (x : List ℕ) (n : TokenClass) → is_front_role (role_at_start x n) ≡ true
unfolding role_at_start
start_front x n = by (is_word_in_list block_end_words x || is_word_in_list network_words x)
  where
    by : (b : Bool) → is_front_role (if b then role.Stays else role_first n) ≡ true
    by true = refl
    by false = first_front n

not_front : (x : List ℕ) (n : TokenClass) (r : Role) → role_at_start x n ≡ r → is_front_role r ≡ false → ⊥
not_front x n r e no_ = true≢false (sym (start_front x n) ∙ ap is_front_role e ∙ no_)

in_operand : (c o q : Bool) → (if c then role.Stays else (if o then role.Operand else (if q then role.Path else role.Stays))) ≡ role.Operand
    → (c ≡ false) × (o ≡ true)
in_operand true o q e = absurd cc
in_operand false true q e = (refl, refl)
in_operand false false true e = absurd cc
in_operand false false false e = absurd cc

in_path : (c o q : Bool) → (if c then role.Stays else (if o then role.Operand else (if q then role.Path else role.Stays))) ≡ role.Path → q ≡ true
in_path true o q e = absurd cc
in_path false true q e = absurd cc
in_path false false true e = refl
in_path false false false e = absurd cc

in_kept : (p : TokenPlace) (b : TokenClass) (x w : List ℕ) (n : TokenClass) → role_in p b x n ≡ role.Operand → Reoperands x w
    → role_in p b w n ≡ role_in p b x n
unfolding role_in
in_kept p b x w n e h =
    let parts = in_operand (is_component_word b n) (is_operand_place b x n) (opens_path p b) e in
    rw (parts.0, parts.1, place_kept b x w n parts.1 h) refl

closing_kept : (x w : List ℕ) → is_word_in_list zone_words x ≡ false → is_word_in_list zone_words w ≡ false → place_behind_closing w ≡ place_behind_closing x
unfolding place_behind_closing
closing_kept x w before later = rw (before, later) refl

-- an operand word's place and role are those of the word that it was exchanged for
pub operand_keeps : (p : TokenPlace) (b : TokenClass) (x w : List ℕ) (n : TokenClass) → role_of_word p b x n ≡ role.Operand → operand_partner German x ≡ Some w
    → Keeps p b x w n
unfolding role_of_word place_behind_word
operand_keeps place.Outside b x w n e is = absurd cc
operand_keeps place.Head b x w n e is = absurd cc
operand_keeps place.Start b x w n e is = absurd (not_front x n role.Operand e refl)
operand_keeps place.Label b x w n e is = absurd cc
operand_keeps place.Labelled b x w n e is = absurd cc
operand_keeps place.Jump b x w n e is = absurd cc
operand_keeps place.Instruction b x w n e is = record { role = in_kept place.Instruction b x w n e (partner_reoperands x w is); behind = refl }
operand_keeps place.Closing b x w n e is =
    record {
      role = in_kept place.Closing b x w n e (partner_reoperands x w is);
      behind = closing_kept x w (operand_no_zone German x (ap is_some is)) (operand_no_zone English w (reoperands_back x w (partner_reoperands x w is)));
    }
operand_keeps place.Path b x w n e is = record { role = in_kept place.Path b x w n e (partner_reoperands x w is); behind = refl }
operand_keeps place.Inside b x w n e is = record { role = in_kept place.Inside b x w n e (partner_reoperands x w is); behind = refl }

-- ---- the place of a name

closing_named : (x : List ℕ) → is_word_in_list zone_words x ≡ false → place.Inside ≡ place_behind_closing x
unfolding place_behind_closing
closing_named x e = rw e refl

-- a name with its `#` leads to the same place
pub name_keeps : (p : TokenPlace) (b : TokenClass) (x : List ℕ) (n : TokenClass) → role_of_word p b x n ≡ role.Path
    → is_some (operand_partner English x) ≡ true → place_behind_sign p class.Other ≡ place_behind_word p b x n
unfolding role_of_word place_behind_word place_behind_sign
name_keeps place.Outside b x n e is = absurd cc
name_keeps place.Head b x n e is = absurd cc
name_keeps place.Start b x n e is = absurd (not_front x n role.Path e refl)
name_keeps place.Label b x n e is = absurd cc
name_keeps place.Labelled b x n e is = absurd cc
name_keeps place.Jump b x n e is = absurd cc
name_keeps place.Instruction b x n e is = refl
name_keeps place.Closing b x n e is = closing_named x (operand_no_zone English x is)
name_keeps place.Path b x n e is = refl
name_keeps place.Inside b x n e is = refl

path_opens : (p : TokenPlace) (b : TokenClass) (x : List ℕ) (n : TokenClass) → role_of_word p b x n ≡ role.Path → opens_path p b ≡ true
unfolding role_of_word role_in
path_opens place.Outside b x n e = absurd cc
path_opens place.Head b x n e = absurd cc
path_opens place.Start b x n e = absurd (not_front x n role.Path e refl)
path_opens place.Label b x n e = absurd cc
path_opens place.Labelled b x n e = absurd cc
path_opens place.Jump b x n e = absurd cc
path_opens place.Instruction b x n e = in_path (is_component_word b n) (is_operand_place b x n) (opens_path place.Instruction b) e
path_opens place.Closing b x n e = in_path (is_component_word b n) (is_operand_place b x n) (opens_path place.Closing b) e
path_opens place.Path b x n e = in_path (is_component_word b n) (is_operand_place b x n) (opens_path place.Path b) e
path_opens place.Inside b x n e = in_path (is_component_word b n) (is_operand_place b x n) (opens_path place.Inside b) e

-- ---- no name stands behind a number

-- behind a number no path begins
abbrev pub IsFit : TokenPlace → TokenClass → Type 0
IsFit p b = is_behind_instruction p ≡ true → is_number_class b ≡ false

number_inside : (p : TokenPlace) → is_behind_instruction (place_behind_sign p class.Number) ≡ false
unfolding place_behind_sign
number_inside place.Outside = refl
number_inside place.Head = refl
number_inside place.Start = refl
number_inside place.Label = refl
number_inside place.Labelled = refl
number_inside place.Jump = refl
number_inside place.Instruction = refl
number_inside place.Closing = refl
number_inside place.Path = refl
number_inside place.Inside = refl

pub fits_next : (p : TokenPlace) (b c : TokenClass) (x : List ℕ) (n : TokenClass) → IsFit (token_place_behind p b c x n) c
unfolding token_place_behind
fits_next p b class.Number x n e = absurd (false≢true (sym (number_inside p) ∙ e))
fits_next p b class.Word x n e = refl
fits_next p b class.Note x n e = refl
fits_next p b class.Semicolon x n e = refl
fits_next p b class.Dot x n e = refl
fits_next p b class.Assign x n e = refl
fits_next p b class.Colon x n e = refl
fits_next p b class.OpenBracket x n e = refl
fits_next p b class.OpenParen x n e = refl
fits_next p b class.CloseParen x n e = refl
fits_next p b class.Pointer x n e = refl
fits_next p b class.Other x n e = refl

no_number : (p : TokenPlace) (b : TokenClass) → IsFit p b → opens_path p b ≡ true → is_number_class b ≡ false
no_number p class.Number fit e = elim (or_cases (is_behind_instruction p) false e) [ inl is ↦ fit is | inr no_ ↦ absurd (false≢true no_) ]
no_number p class.Word fit e = refl
no_number p class.Note fit e = refl
no_number p class.Semicolon fit e = refl
no_number p class.Dot fit e = refl
no_number p class.Assign fit e = refl
no_number p class.Colon fit e = refl
no_number p class.OpenBracket fit e = refl
no_number p class.OpenParen fit e = refl
no_number p class.CloseParen fit e = refl
no_number p class.Pointer fit e = refl
no_number p class.Other fit e = refl

pub path_no_number : (p : TokenPlace) (b : TokenClass) (x : List ℕ) (n : TokenClass) → IsFit p b → role_of_word p b x n ≡ role.Path → is_number_class b ≡ false
path_no_number p b x n fit e = no_number p b fit (path_opens p b x n e)
