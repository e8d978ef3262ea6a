-- What a word of a translation comes back as.
use Rattle.std.proofs.Common.{ℕ, ◌≡◌, Bool, true, false, List, [], ◌∷◌, Option, Some, None, if◌then◌else◌, refl, sym, ◌∙◌, ap, subst, inl, inr, arith}
use Rattle.std.specs.Prelude.{◌⊎◌, ◌==◌, is_some}
use Rattle.std.specs.List.{list_all}
use Rattle.std.specs.Char.{to_ascii_lowercase}
use Rattle.std.specs.Str.{str_eq_ignore_ascii_case, str_to_ascii_lowercase}
use Rattle.std.proofs.lemmas.Bool.{and_parts, eqb-true, false≢true, false_from_ne_true}
use Rattle.std.proofs.lemmas.Bool.Decides.{nat_tests}
use Rattle.std.proofs.lemmas.Option.{none-some, same_Some}
use Rattle.stl_lexer.specs.Bytes.{hash, is_word_byte, is_word_start}
use Rattle.stl_lexer.specs.Forms.{is_word}
use Rattle.stl_lexer.specs.declared.kinds.TokenKind.{TokenKind}
use Rattle.stl_lexer.specs.declared.kinds.TokenKind.TheVariants as kind
use Rattle.stl_symbols.specs.declared.languages.Language.TheVariants.{English, German}
use Rattle.de_mnemonics.specs.declared.classes.TokenClass.{TokenClass}
use Rattle.de_mnemonics.specs.declared.places.TokenPlace.{TokenPlace}
use Rattle.de_mnemonics.specs.declared.roles.Role.{Role}
use Rattle.de_mnemonics.specs.declared.roles.Role.TheVariants as role
use Rattle.de_mnemonics.specs.Back.{ComesBack}
use Rattle.de_mnemonics.specs.Places.{token_place_behind, place_behind_sign, place_behind_word, token_class, role_of, role_of_word}
use Rattle.de_mnemonics.specs.Words.{exchanged_word, marked_name, operand_partner, translated_word}
use Rattle.de_mnemonics.proofs.CaseLemmas.{same_to}
use Rattle.de_mnemonics.proofs.WordLemmas.{instructions_come_back, operands_come_back}
use Rattle.translation_laws.specs.RewrittenText.{IsOtherWord, kind_of_rewritten}
use Rattle.translation_laws.proofs.RoleLemmas.{IsNear, Keeps, behind_plain, exchanged_or, instruction_exchanges, instruction_keeps, is_plain_class, is_word_kind, keeps_same, kind_plain, name_keeps, operand_keeps, role_plain, same_behind_word, same_role_word}

-- a word of one of the languages stands in an operand place
abbrev pub IsOperandWord : List ℕ → Type 0
IsOperandWord x = (is_some (operand_partner English x) ≡ true) ⊎ (is_some (operand_partner German x) ≡ true)

-- what the text of a token in this role comes back as
abbrev pub TextBack : Role → List ℕ → List ℕ → Type 0
TextBack role.Stays x v = v ≡ x
TextBack role.Instruction x v = str_eq_ignore_ascii_case x v ≡ true
TextBack role.Operand x v = (v ≡ x) ⊎ ((str_eq_ignore_ascii_case x v ≡ true) × (is_some (operand_partner German x) ≡ true))
TextBack role.Path x v = (v ≡ x) ⊎ ((v ≡ hash ∷ x) × IsOperandWord x)

-- a token with the text w for x, between the neighbours b' and n' for b and n
pub record StepBack (p : TokenPlace) (b b' : TokenClass) (k : TokenKind) (x w : List ℕ) (n n' : TokenClass) : Type 0 where
  pub text : List ℕ
  pub back : translated_word English (role_of p b' (token_class (kind_of_rewritten k w) w) w n') w ≡ Some text
  pub kept : TextBack (role_of p b (token_class k x) x n) x text
  pub place : token_place_behind p b' (token_class (kind_of_rewritten k w) w) w n' ≡ token_place_behind p b (token_class k x) x n

-- words for words
pub record Spellings : Type 0 where
  pub instruction : (x w : List ℕ) → is_word x ≡ true → translated_word German role.Instruction x ≡ Some w → IsOtherWord x w
  pub operand : (x w : List ℕ) → is_word x ≡ true → translated_word German role.Operand x ≡ Some w → IsOtherWord x w

-- ---- words and `#`

start_no_hash : (b : ℕ) → is_word_start b ≡ true → (b == hash) ≡ false
unfolding is_word_start
start_no_hash b e = false_from_ne_true (b == hash) (λ same. false≢true (sym (ap is_word_start (eqb-true b hash same)) ∙ e))

pub word_kind : (w : List ℕ) → is_word w ≡ true → kind_of_rewritten kind.Word w ≡ kind.Word
word_kind [] e = refl
word_kind (b ∷ w) e = rw (start_no_hash b (and_parts (is_word_start b) (list_all is_word_byte w) e).0) refl

pub other_kind : (k : TokenKind) (w : List ℕ) → is_word_kind k ≡ false → kind_of_rewritten k w ≡ k
other_kind kind.Word w e = absurd cc
other_kind kind.Number w e = refl
other_kind kind.Quoted w e = refl
other_kind kind.Local w e = refl
other_kind kind.Characters w e = refl
other_kind kind.Based w e = refl
other_kind kind.NumberLiteral w e = refl
other_kind kind.TimeLiteral w e = refl
other_kind kind.Mark w e = refl
other_kind kind.SignWord w e = refl
other_kind kind.Attribute w e = refl
other_kind kind.Title w e = refl

-- ---- a token that is no word

written_stays : (x w : List ℕ) → translated_word German role.Stays x ≡ Some w → w ≡ x
unfolding translated_word
written_stays x w e = sym (same_Some x w e)

stays_written : (r : Role) (w : List ℕ) → r ≡ role.Stays → translated_word English r w ≡ Some w
unfolding translated_word
stays_written r w e = rw e refl

plain_text : (r : Role) (x w : List ℕ) → r ≡ role.Stays → translated_word German r x ≡ Some w → w ≡ x
plain_text r x w e is = written_stays x w (ap (λ q. translated_word German q x) (sym e) ∙ is)

text_stays : (r : Role) (x v : List ℕ) → r ≡ role.Stays → v ≡ x → TextBack r x v
text_stays r x v e same = subst (λ q. TextBack q x v) (sym e) same

step_other : (p : TokenPlace) (b b' : TokenClass) (k : TokenKind) (x w : List ℕ) (n n' : TokenClass) → is_word_kind k ≡ false
    → translated_word German (role_of p b (token_class k x) x n) x ≡ Some w → StepBack p b b' k x w n n'
step_other p b b' k x w n n' other is =
    let plain : is_plain_class (token_class k x) ≡ true = kind_plain k x other in
    let same : w ≡ x = plain_text (role_of p b (token_class k x) x n) x w (role_plain p b (token_class k x) x n plain) is in
    let class_same : token_class (kind_of_rewritten k w) w ≡ token_class k x = ap (λ j. token_class j w) (other_kind k w other) ∙ ap (token_class k) same in
    let plain' : is_plain_class (token_class (kind_of_rewritten k w) w) ≡ true = ap is_plain_class class_same ∙ plain in
    record {
      text = w;
      back = stays_written (role_of p b' (token_class (kind_of_rewritten k w) w) w n') w (role_plain p b' (token_class (kind_of_rewritten k w) w) w n' plain');
      kept = text_stays (role_of p b (token_class k x) x n) x w (role_plain p b (token_class k x) x n plain) same;
      place = behind_plain p b' (token_class (kind_of_rewritten k w) w) w n' plain' ∙ ap (place_behind_sign p) class_same ∙ sym (behind_plain p b (token_class k x) x n plain);
    }

-- ---- a word

-- the same of a word that stays one
record WordBack (p : TokenPlace) (b b' : TokenClass) (x w : List ℕ) (n n' : TokenClass) (r : Role) : Type 0 where
  text : List ℕ
  back : translated_word English (role_of_word p b' w n') w ≡ Some text
  kept : TextBack r x text
  place : place_behind_word p b' w n' ≡ place_behind_word p b x n
  kind_ : kind_of_rewritten kind.Word w ≡ kind.Word

word_back : (p : TokenPlace) (b b' : TokenClass) (x w : List ℕ) (n n' : TokenClass) (r : Role) (text : List ℕ) → IsNear b b' → IsNear n n'
    → Keeps p b x w n → role_of_word p b x n ≡ r → translated_word English r w ≡ Some text → TextBack r x text → kind_of_rewritten kind.Word w ≡ kind.Word
    → WordBack p b b' x w n n' r
word_back p b b' x w n n' r text h k keeps e is kept kind_ = record {
  text = text;
  back = ap (λ q. translated_word English q w) (same_role_word p b b' w n n' h k ∙ keeps.role ∙ e) ∙ is;
  kept = kept;
  place = same_behind_word p b b' w n n' h k ∙ keeps.behind;
  kind_ = kind_;
}

step_back : (p : TokenPlace) (b b' : TokenClass) (x w : List ℕ) (n n' : TokenClass) (r : Role) → role_of_word p b x n ≡ r → WordBack p b b' x w n n' r
    → StepBack p b b' kind.Word x w n n'
unfolding role_of token_place_behind token_class
step_back p b b' x w n n' r e h = record {
  text = h.text;
  back = ap (λ k. translated_word English (role_of p b' (token_class k w) w n') w) h.kind_ ∙ h.back;
  kept = subst (λ q. TextBack q x h.text) (sym e) h.kept;
  place = ap (λ k. token_place_behind p b' (token_class k w) w n') h.kind_ ∙ h.place;
}

-- a name that got its `#`
step_named : (p : TokenPlace) (b b' : TokenClass) (x : List ℕ) (n n' : TokenClass) → role_of_word p b x n ≡ role.Path
    → is_some (operand_partner English x) ≡ true → StepBack p b b' kind.Word x (hash ∷ x) n n'
unfolding role_of token_place_behind token_class translated_word
step_named p b b' x n n' e is = record {
  text = hash ∷ x;
  back = refl;
  kept = subst (λ q. TextBack q x (hash ∷ x)) (sym e) (inr (refl, inl is));
  place = name_keeps p b x n e is;
}

-- an operand word that has no partner
operand_stays : (x w : List ℕ) (o : Option (List ℕ)) → operand_partner German x ≡ None → operand_partner English x ≡ o → exchanged_word None (is_some o) x ≡ Some w
    → translated_word English role.Operand x ≡ Some x
unfolding translated_word
operand_stays x w (Some f) none e is = absurd (none-some w is)
operand_stays x w None none e is = rw (e, none) refl

by_stays : (p : TokenPlace) (b b' : TokenClass) (x w : List ℕ) (n n' : TokenClass) → IsNear b b' → IsNear n n' → is_word x ≡ true
    → role_of_word p b x n ≡ role.Stays → translated_word German role.Stays x ≡ Some w → StepBack p b b' kind.Word x w n n'
by_stays p b b' x w n n' h k word e is =
    let same : w ≡ x = written_stays x w is in
    step_back p b b' x w n n' role.Stays e
    (word_back p b b' x w n n' role.Stays w h k (keeps_same p b x w n same) e (stays_written role.Stays w refl) same
    (word_kind w (ap is_word same ∙ word)))

by_instruction : Spellings → (p : TokenPlace) (b b' : TokenClass) (x w : List ℕ) (n n' : TokenClass) → IsNear b b' → IsNear n n' → is_word x ≡ true
    → role_of_word p b x n ≡ role.Instruction → translated_word German role.Instruction x ≡ Some w → StepBack p b b' kind.Word x w n n'
by_instruction spelled p b b' x w n n' h k word e is =
    let again : ComesBack German role.Instruction x w = instructions_come_back German x w is in
    let keeps : Keeps p b x w n = elim (instruction_exchanges x w is) [
      | inl same ↦ keeps_same p b x w n same
      | inr exchanges ↦ instruction_keeps p b x w n e exchanges
    ] in
    step_back p b b' x w n n' role.Instruction e
    (word_back p b b' x w n n' role.Instruction again.0 h k keeps e again.1 again.2 (word_kind w (spelled.instruction x w word is).0))

operand_by : Spellings → (p : TokenPlace) (b b' : TokenClass) (x w : List ℕ) (n n' : TokenClass) → IsNear b b' → IsNear n n' → is_word x ≡ true
    → role_of_word p b x n ≡ role.Operand → translated_word German role.Operand x ≡ Some w
    → (operand_partner German x ≡ Some w) ⊎ ((operand_partner German x ≡ None) × (w ≡ x)) → StepBack p b b' kind.Word x w n n'
unfolding translated_word
operand_by spelled p b b' x w n n' h k word e is (inl found) =
    let again : ComesBack German role.Operand x w = operands_come_back German x w is in
    step_back p b b' x w n n' role.Operand e
    (word_back p b b' x w n n' role.Operand again.0 h k (operand_keeps p b x w n e found) e again.1 (inr (again.2, ap is_some found))
    (word_kind w (spelled.operand x w word is).0))
operand_by spelled p b b' x w n n' h k word e is (inr (none, same)) =
    let stays : translated_word English role.Operand x ≡ Some x =
    operand_stays x w (operand_partner English x) none refl (ap (λ (o : Option (List ℕ)). exchanged_word o (is_some (operand_partner English x)) x) (sym none) ∙ is) in
    step_back p b b' x w n n' role.Operand e
    (word_back p b b' x w n n' role.Operand x h k (keeps_same p b x w n same) e (ap (translated_word English role.Operand) same ∙ stays) (inl refl)
    (word_kind w (ap is_word same ∙ word)))

operand_cases : (x w : List ℕ) → translated_word German role.Operand x ≡ Some w → (operand_partner German x ≡ Some w) ⊎ ((operand_partner German x ≡ None) × (w ≡ x))
unfolding translated_word
operand_cases x w is = exchanged_or (operand_partner German x) (is_some (operand_partner English x)) x w is

path_back : (x w : List ℕ) (c : Bool) → w ≡ x → is_some (operand_partner German x) ≡ c
    → (translated_word English role.Path w ≡ Some (marked_name c x)) × TextBack role.Path x (marked_name c x)
unfolding translated_word
path_back x w true same e = (rw (same, e) refl, inr (refl, inr e))
path_back x w false same e = (rw (same, e) refl, inl refl)

by_path : (p : TokenPlace) (b b' : TokenClass) (x w : List ℕ) (n n' : TokenClass) → IsNear b b' → IsNear n n' → is_word x ≡ true
    → role_of_word p b x n ≡ role.Path → (c : Bool) → is_some (operand_partner English x) ≡ c → marked_name c x ≡ w → StepBack p b b' kind.Word x w n n'
by_path p b b' x w n n' h k word e true is same = subst (λ (y : List ℕ). StepBack p b b' kind.Word x y n n') same (step_named p b b' x n n' e is)
by_path p b b' x w n n' h k word e false is same =
    let back = path_back x w (is_some (operand_partner German x)) (sym same) refl in
    step_back p b b' x w n n' role.Path e
    (word_back p b b' x w n n' role.Path (marked_name (is_some (operand_partner German x)) x) h k (keeps_same p b x w n (sym same)) e back.0 back.1
    (word_kind w (ap is_word (sym same) ∙ word)))

path_text : (x w : List ℕ) → translated_word German role.Path x ≡ Some w → marked_name (is_some (operand_partner English x)) x ≡ w
unfolding translated_word
path_text x w is = same_Some (marked_name (is_some (operand_partner English x)) x) w is

by_role : Spellings → (p : TokenPlace) (b b' : TokenClass) (x w : List ℕ) (n n' : TokenClass) → IsNear b b' → IsNear n n' → is_word x ≡ true
    → (r : Role) → role_of_word p b x n ≡ r → translated_word German r x ≡ Some w → StepBack p b b' kind.Word x w n n'
by_role spelled p b b' x w n n' h k word role.Stays e is = by_stays p b b' x w n n' h k word e is
by_role spelled p b b' x w n n' h k word role.Instruction e is = by_instruction spelled p b b' x w n n' h k word e is
by_role spelled p b b' x w n n' h k word role.Operand e is = operand_by spelled p b b' x w n n' h k word e is (operand_cases x w is)
by_role spelled p b b' x w n n' h k word role.Path e is = by_path p b b' x w n n' h k word e (is_some (operand_partner English x)) refl (path_text x w is)

-- each token of a translation comes back
pub token_back : Spellings → (p : TokenPlace) (b b' : TokenClass) (k : TokenKind) (x w : List ℕ) (n n' : TokenClass) → IsNear b b' → IsNear n n'
    → (k ≡ kind.Word → is_word x ≡ true) → translated_word German (role_of p b (token_class k x) x n) x ≡ Some w → StepBack p b b' k x w n n'
unfolding role_of token_class
token_back spelled p b b' kind.Word x w n n' h k word is = by_role spelled p b b' x w n n' h k (word refl) (role_of_word p b x n) refl is
token_back spelled p b b' kind.Number x w n n' h k word is = step_other p b b' kind.Number x w n n' refl is
token_back spelled p b b' kind.Quoted x w n n' h k word is = step_other p b b' kind.Quoted x w n n' refl is
token_back spelled p b b' kind.Local x w n n' h k word is = step_other p b b' kind.Local x w n n' refl is
token_back spelled p b b' kind.Characters x w n n' h k word is = step_other p b b' kind.Characters x w n n' refl is
token_back spelled p b b' kind.Based x w n n' h k word is = step_other p b b' kind.Based x w n n' refl is
token_back spelled p b b' kind.NumberLiteral x w n n' h k word is = step_other p b b' kind.NumberLiteral x w n n' refl is
token_back spelled p b b' kind.TimeLiteral x w n n' h k word is = step_other p b b' kind.TimeLiteral x w n n' refl is
token_back spelled p b b' kind.Mark x w n n' h k word is = step_other p b b' kind.Mark x w n n' refl is
token_back spelled p b b' kind.SignWord x w n n' h k word is = step_other p b b' kind.SignWord x w n n' refl is
token_back spelled p b b' kind.Attribute x w n n' h k word is = step_other p b b' kind.Attribute x w n n' refl is
token_back spelled p b b' kind.Title x w n n' h k word is = step_other p b b' kind.Title x w n n' refl is

-- and is to its neighbours what it was
anew_near : (b : ℕ) (w x : List ℕ) → (c : Bool) → (b == hash) ≡ c → IsNear (token_class kind.Word x) (token_class (if c then kind.Local else kind.Word) (b ∷ w))
unfolding token_class
anew_near b w x true e = inr (refl, refl)
anew_near b w x false e = inl refl

word_near : (x w : List ℕ) → IsNear (token_class kind.Word x) (token_class (kind_of_rewritten kind.Word w) w)
unfolding token_class
word_near x [] = inl refl
word_near x (b ∷ w) = anew_near b w x (b == hash) refl

other_near : (p : TokenPlace) (b : TokenClass) (k : TokenKind) (x w : List ℕ) (n : TokenClass) → is_word_kind k ≡ false
    → translated_word German (role_of p b (token_class k x) x n) x ≡ Some w → IsNear (token_class k x) (token_class (kind_of_rewritten k w) w)
other_near p b k x w n other is =
    let same : w ≡ x = plain_text (role_of p b (token_class k x) x n) x w (role_plain p b (token_class k x) x n (kind_plain k x other)) is in
    inl (sym (ap (λ j. token_class j w) (other_kind k w other) ∙ ap (token_class k) same))

pub token_near : (p : TokenPlace) (b : TokenClass) (k : TokenKind) (x w : List ℕ) (n : TokenClass)
    → translated_word German (role_of p b (token_class k x) x n) x ≡ Some w → IsNear (token_class k x) (token_class (kind_of_rewritten k w) w)
token_near p b kind.Word x w n is = word_near x w
token_near p b kind.Number x w n is = other_near p b kind.Number x w n refl is
token_near p b kind.Quoted x w n is = other_near p b kind.Quoted x w n refl is
token_near p b kind.Local x w n is = other_near p b kind.Local x w n refl is
token_near p b kind.Characters x w n is = other_near p b kind.Characters x w n refl is
token_near p b kind.Based x w n is = other_near p b kind.Based x w n refl is
token_near p b kind.NumberLiteral x w n is = other_near p b kind.NumberLiteral x w n refl is
token_near p b kind.TimeLiteral x w n is = other_near p b kind.TimeLiteral x w n refl is
token_near p b kind.Mark x w n is = other_near p b kind.Mark x w n refl is
token_near p b kind.SignWord x w n is = other_near p b kind.SignWord x w n refl is
token_near p b kind.Attribute x w n is = other_near p b kind.Attribute x w n refl is
token_near p b kind.Title x w n is = other_near p b kind.Title x w n refl is

-- ---- a word that is the same but for case is a word

start_lower : (b : ℕ) → is_word_start (to_ascii_lowercase b) ≡ is_word_start b
unfolding is_word_start
start_lower b = grind (arith, nat_tests)

byte_lower : (b : ℕ) → is_word_byte (to_ascii_lowercase b) ≡ is_word_byte b
unfolding is_word_byte is_word_start
byte_lower b = grind (arith, nat_tests)

bytes_lower : (w : List ℕ) → list_all is_word_byte (str_to_ascii_lowercase w) ≡ list_all is_word_byte w
bytes_lower [] = refl
bytes_lower (b ∷ w) = rw (byte_lower b, bytes_lower w) refl

word_lower : (w : List ℕ) → is_word (str_to_ascii_lowercase w) ≡ is_word w
word_lower [] = refl
word_lower (b ∷ w) = rw (start_lower b, bytes_lower w) refl

pub same_is_word : (a b : List ℕ) → str_eq_ignore_ascii_case a b ≡ true → is_word a ≡ true → is_word b ≡ true
same_is_word a b e word = sym (word_lower b) ∙ ap is_word (sym (same_to a b e)) ∙ word_lower a ∙ word
