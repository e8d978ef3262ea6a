-- A word that was exchanged comes back.
use Rattle.std.proofs.Common.{◌≡◌, ℕ, ◌+◌, suc, Bool, true, false, not, ◌&&◌, List, [], ◌∷◌, ◌++◌, length, take, drop, map, find, cond, Option, Some, None, refl, sym, ◌∙◌, ap, subst, arith}
use Rattle.std.specs.Prelude.{is_some, if◌then◌else◌}
use Rattle.std.specs.Option.{option_map, option_or}
use Rattle.std.specs.List.{list_all, prefix_len}
use Rattle.std.specs.Char.{is_ascii_digit, to_ascii_lowercase}
use Rattle.std.specs.Str.{bytes_eq, str_eq_ignore_ascii_case, str_to_ascii_lowercase}
use Rattle.std.proofs.lemmas.Bool.{and_parts, false≢true}
use Rattle.std.proofs.lemmas.List.{map-append, take-append-drop}
use Rattle.std.proofs.lemmas.Option.{same_Some}
use Rattle.std.proofs.lemmas.Slice.Eq.{bytes_eq-Decides}
use Rattle.std.proofs.Math.Seq.{drop-append_seam, take-append_seam}
use Rattle.stl_symbols.specs.declared.languages.Language.{Language}
use Rattle.stl_symbols.specs.declared.languages.Language.TheVariants.{English, German}
use Rattle.de_mnemonics.specs.declared.roles.Role.TheVariants as role
use Rattle.de_mnemonics.specs.Back.{WordsComeBack}
use Rattle.de_mnemonics.specs.Tables.{WordPairs, instruction_pairs, jump_pairs, operand_pairs, result_pairs}
use Rattle.de_mnemonics.proofs.CaseLemmas.{itself, same_behind}
use Rattle.de_mnemonics.specs.Words.{digits_of_word, exchanged_word, instruction_partner, letter_count, letters_of_word, numbered_partner, operand_partner, opposite_language, partner_in_table, translated_word}

none≢some : {A : Type 0} (a : A) → None ≡ Some a → ⊥
none≢some a e = cc

-- ---- tables

-- the word of a pair in the language that is translated from, and in the other
abbrev own : Language → List ℕ × List ℕ → List ℕ
own German pair = pair.0
own English pair = pair.1

abbrev other : Language → List ℕ × List ℕ → List ℕ
other German pair = pair.1
other English pair = pair.0

-- the pair that a word was found in
record IsPair (language : Language) (test : List ℕ × List ℕ → Bool) (word found : List ℕ) : Type 0 where
  pair : List ℕ × List ℕ
  same : str_eq_ignore_ascii_case word (own language pair) ≡ true
  beside : other language pair ≡ found
  passes : test pair ≡ true

pair_there : (language : Language) (test : List ℕ × List ℕ → Bool) (table : WordPairs) (word found : List ℕ)
    → list_all test table ≡ true → partner_in_table language table word ≡ Some found → IsPair language test word found
unfolding partner_in_table
pair_there German test [] word found all is = absurd (none≢some found is)
pair_there English test [] word found all is = absurd (none≢some found is)
pair_there German test (p ∷ ps) word found all is =
    let parts = and_parts (test p) (list_all test ps) all in
    by_test p (find (λ pair. str_eq_ignore_ascii_case word pair.0) ps) parts.0 (str_eq_ignore_ascii_case word p.0) refl (λ e. pair_there German test ps word found parts.1 e) is
  where
    by_test : (p : List ℕ × List ℕ) (more : Option (List ℕ × List ℕ)) → test p ≡ true → (b : Bool) → str_eq_ignore_ascii_case word p.0 ≡ b
        → (option_map (λ pair. pair.1) more ≡ Some found → IsPair German test word found)
        → option_map (λ pair. pair.1) (cond b (Some p) more) ≡ Some found → IsPair German test word found
    by_test p more passes true e rest is = record { pair = p; same = e; beside = same_Some p.1 found is; passes = passes }
    by_test p more passes false e rest is = rest is
pair_there English test (p ∷ ps) word found all is =
    let parts = and_parts (test p) (list_all test ps) all in
    by_test p (find (λ pair. str_eq_ignore_ascii_case word pair.1) ps) parts.0 (str_eq_ignore_ascii_case word p.1) refl (λ e. pair_there English test ps word found parts.1 e) is
  where
    by_test : (p : List ℕ × List ℕ) (more : Option (List ℕ × List ℕ)) → test p ≡ true → (b : Bool) → str_eq_ignore_ascii_case word p.1 ≡ b
        → (option_map (λ pair. pair.0) more ≡ Some found → IsPair English test word found)
        → option_map (λ pair. pair.0) (cond b (Some p) more) ≡ Some found → IsPair English test word found
    by_test p more passes true e rest is = record { pair = p; same = e; beside = same_Some p.0 found is; passes = passes }
    by_test p more passes false e rest is = rest is

-- a look-up gives just this text
abbrev gives : Option (List ℕ) → List ℕ → Bool
gives None text = false
gives (Some found) text = bytes_eq found text

some_given : (o : Option (List ℕ)) (text : List ℕ) → gives o text ≡ true → o ≡ Some text
some_given None text e = absurd (false≢true e)
some_given (Some found) text e = ap Some ((bytes_eq-Decides found text).0 e)

-- a word has a partner, whose own partner is the word, without case
record IsBack (look_up : List ℕ → Option (List ℕ)) (word found : List ℕ) : Type 0 where
  again : List ℕ
  back : look_up found ≡ Some again
  same : str_eq_ignore_ascii_case word again ≡ true

back_from : (language : Language) (look_up : List ℕ → Option (List ℕ)) (word found : List ℕ)
    → IsPair language (λ pair. gives (look_up (other language pair)) (own language pair)) word found → IsBack look_up word found
back_from language look_up word found p = record {
  again = own language p.pair;
  back = ap look_up (sym p.beside) ∙ some_given (look_up (other language p.pair)) (own language p.pair) p.passes;
  same = p.same;
}

-- ---- instruction words

instructions_back : (language : Language)
    → list_all (λ pair. gives (instruction_partner (opposite_language language) (other language pair)) (own language pair)) instruction_pairs ≡ true
unfolding instruction_partner partner_in_table instruction_pairs jump_pairs
instructions_back German = refl
instructions_back English = refl

jumps_back : (language : Language)
    → list_all (λ pair. gives (instruction_partner (opposite_language language) (other language pair)) (own language pair)) jump_pairs ≡ true
unfolding instruction_partner partner_in_table instruction_pairs jump_pairs
jumps_back German = refl
jumps_back English = refl

instruction_back : (language : Language) (word found : List ℕ) → instruction_partner language word ≡ Some found
    → IsBack (instruction_partner (opposite_language language)) word found
unfolding instruction_partner
instruction_back language word found is = by_first (partner_in_table language instruction_pairs word) refl is
  where
    by_first : (o : Option (List ℕ)) → partner_in_table language instruction_pairs word ≡ o → option_or o (partner_in_table language jump_pairs word) ≡ Some found
        → IsBack (instruction_partner (opposite_language language)) word found
    by_first (Some x) e is = back_from language (instruction_partner (opposite_language language)) word found
        (pair_there language _ instruction_pairs word found (instructions_back language) (e ∙ is))
    by_first None e is = back_from language (instruction_partner (opposite_language language)) word found
        (pair_there language _ jump_pairs word found (jumps_back language) is)

-- ---- operand words

no_digits : (s : List ℕ) → list_all is_ascii_digit s ≡ true → prefix_len (λ b. not (is_ascii_digit b)) s ≡ 0
no_digits [] e = refl
no_digits (b ∷ s) e = rw ((and_parts (is_ascii_digit b) (list_all is_ascii_digit s) e).0) refl

one_add : (n : ℕ) → 1 + n ≡ suc n
one_add n = omega arith

pub letters_end : (w s : List ℕ) → list_all (λ b. not (is_ascii_digit b)) w ≡ true → list_all is_ascii_digit s ≡ true → letter_count (w ++ s) ≡ length w
letters_end [] s e h = no_digits s h
letters_end (b ∷ w) s e h =
    let parts = and_parts (not (is_ascii_digit b)) (list_all (λ b. not (is_ascii_digit b)) w) e in
    rw (parts.0, one_add) (ap suc (letters_end w s parts.1 h))

numbered_there : (language : Language) (w s again : List ℕ) → list_all (λ b. not (is_ascii_digit b)) w ≡ true → list_all is_ascii_digit s ≡ true
    → partner_in_table language operand_pairs w ≡ Some again → numbered_partner language (w ++ s) ≡ Some (again ++ s)
unfolding numbered_partner
numbered_there language w s again e h found =
    let end : letter_count (w ++ s) ≡ length w = letters_end w s e h in
    rw (end, drop-append_seam w s, take-append_seam w s, h, found) refl

operands_back : (language : Language)
    → list_all (λ pair. gives (partner_in_table (opposite_language language) operand_pairs (other language pair)) (own language pair)
    && list_all (λ b. not (is_ascii_digit b)) (other language pair)) operand_pairs ≡ true
unfolding partner_in_table operand_pairs
operands_back German = refl
operands_back English = refl

results_back : (language : Language)
    → list_all (λ pair. gives (operand_partner (opposite_language language) (other language pair)) (own language pair)) result_pairs ≡ true
unfolding operand_partner numbered_partner partner_in_table operand_pairs result_pairs
results_back German = refl
results_back English = refl

numbered_back : (language : Language) (word found : List ℕ) → numbered_partner language word ≡ Some found
    → IsBack (operand_partner (opposite_language language)) word found
unfolding numbered_partner operand_partner
numbered_back language word found is = by_digits (list_all is_ascii_digit (digits_of_word word)) refl is
  where
    by_pair : list_all is_ascii_digit (digits_of_word word) ≡ true → (x : List ℕ)
        → IsPair language (λ pair. gives (partner_in_table (opposite_language language) operand_pairs (other language pair)) (own language pair)
        && list_all (λ b. not (is_ascii_digit b)) (other language pair)) (letters_of_word word) x
        → x ++ digits_of_word word ≡ found → IsBack (operand_partner (opposite_language language)) word found
    by_pair h x p e =
        let at = other language p.pair in
        let parts = and_parts (gives (partner_in_table (opposite_language language) operand_pairs at) (own language p.pair)) (list_all (λ b. not (is_ascii_digit b)) at) p.passes in
        let there : numbered_partner (opposite_language language) (at ++ digits_of_word word) ≡ Some (own language p.pair ++ digits_of_word word) =
        numbered_there (opposite_language language) at (digits_of_word word) (own language p.pair) parts.1 h
        (some_given (partner_in_table (opposite_language language) operand_pairs at) (own language p.pair) parts.0) in
        let found_is : at ++ digits_of_word word ≡ found = ap (λ (front : List ℕ). front ++ digits_of_word word) p.beside ∙ e in
        record {
          again = own language p.pair ++ digits_of_word word;
          back = ap (λ o. option_or o (partner_in_table (opposite_language language) result_pairs found)) (ap (numbered_partner (opposite_language language)) (sym found_is) ∙ there);
          same = subst (λ (w : List ℕ). str_eq_ignore_ascii_case w (own language p.pair ++ digits_of_word word) ≡ true) (take-append-drop (letter_count word) word)
              (same_behind (letters_of_word word) (own language p.pair) (digits_of_word word) p.same);
        }

    by_letters : list_all is_ascii_digit (digits_of_word word) ≡ true → (o : Option (List ℕ)) → partner_in_table language operand_pairs (letters_of_word word) ≡ o
        → option_map (λ found. found ++ digits_of_word word) o ≡ Some found → IsBack (operand_partner (opposite_language language)) word found
    by_letters h None e is = absurd (none≢some found is)
    by_letters h (Some x) e is = by_pair h x (pair_there language _ operand_pairs (letters_of_word word) x (operands_back language) e) (same_Some (x ++ digits_of_word word) found is)

    by_digits : (b : Bool) → list_all is_ascii_digit (digits_of_word word) ≡ b
        → (if b then option_map (λ found. found ++ digits_of_word word) (partner_in_table language operand_pairs (letters_of_word word)) else None) ≡ Some found
        → IsBack (operand_partner (opposite_language language)) word found
    by_digits true h is = by_letters h (partner_in_table language operand_pairs (letters_of_word word)) refl is
    by_digits false h is = absurd (none≢some found is)

operand_back : (language : Language) (word found : List ℕ) → operand_partner language word ≡ Some found
    → IsBack (operand_partner (opposite_language language)) word found
unfolding operand_partner
operand_back language word found is = by_first (numbered_partner language word) refl is
  where
    by_first : (o : Option (List ℕ)) → numbered_partner language word ≡ o → option_or o (partner_in_table language result_pairs word) ≡ Some found
        → IsBack (operand_partner (opposite_language language)) word found
    by_first (Some x) e is = numbered_back language word found (e ∙ is)
    by_first None e is = back_from language (operand_partner (opposite_language language)) word found
        (pair_there language _ result_pairs word found (results_back language) is)

-- ---- what is written

opposite_twice : (language : Language) → opposite_language (opposite_language language) ≡ language
opposite_twice German = refl
opposite_twice English = refl

-- the word that a look-up in both directions makes of what it made of a word
record IsExchangedBack (look_up : Language → List ℕ → Option (List ℕ)) (language : Language) (word there : List ℕ) : Type 0 where
  again : List ℕ
  back : exchanged_word (look_up (opposite_language language) there) (is_some (look_up (opposite_language (opposite_language language)) there)) there ≡ Some again
  same : str_eq_ignore_ascii_case word again ≡ true

-- a word with a partner
back_by_partner : (look_up : Language → List ℕ → Option (List ℕ)) (language : Language) (word there : List ℕ)
    → IsBack (look_up (opposite_language language)) word there → IsExchangedBack look_up language word there
back_by_partner look_up language word there b = record {
  again = b.again;
  back = ap (λ o. exchanged_word o (is_some (look_up (opposite_language (opposite_language language)) there)) there) b.back;
  same = b.same;
}

-- a word with none, in either language
back_by_word : (look_up : Language → List ℕ → Option (List ℕ)) (language : Language) (word : List ℕ)
    → look_up language word ≡ None → look_up (opposite_language language) word ≡ None → IsExchangedBack look_up language word word
back_by_word look_up language word e f = record {
  again = word;
  back = rw (f, opposite_twice language, e) refl;
  same = itself word;
}

back_by_other : (look_up : Language → List ℕ → Option (List ℕ)) (language : Language) (word there : List ℕ) (o : Option (List ℕ))
    → look_up language word ≡ None → look_up (opposite_language language) word ≡ o → exchanged_word None (is_some o) word ≡ Some there
    → IsExchangedBack look_up language word there
back_by_other look_up language word there (Some found) e f is = absurd (none≢some there is)
back_by_other look_up language word there None e f is =
    subst (λ (w : List ℕ). IsExchangedBack look_up language word w) (same_Some word there is) (back_by_word look_up language word e f)

exchanged_back : (look_up : Language → List ℕ → Option (List ℕ)) (language : Language) (word there : List ℕ) (o : Option (List ℕ))
    → ((found : List ℕ) → look_up language word ≡ Some found → IsBack (look_up (opposite_language language)) word found)
    → look_up language word ≡ o → exchanged_word o (is_some (look_up (opposite_language language) word)) word ≡ Some there
    → IsExchangedBack look_up language word there
exchanged_back look_up language word there (Some found) back e is =
    back_by_partner look_up language word there (back there (e ∙ is))
exchanged_back look_up language word there None back e is =
    back_by_other look_up language word there (look_up (opposite_language language) word) e refl is

pub instructions_come_back : WordsComeBack role.Instruction
unfolding translated_word
instructions_come_back language word there is =
    let b = exchanged_back instruction_partner language word there (instruction_partner language word) (λ found e. instruction_back language word found e) refl is in
    (b.again, b.back, b.same)

pub operands_come_back : WordsComeBack role.Operand
unfolding translated_word
operands_come_back language word there is =
    let b = exchanged_back operand_partner language word there (operand_partner language word) (λ found e. operand_back language word found e) refl is in
    (b.again, b.back, b.same)
