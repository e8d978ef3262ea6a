-- A right source that was translated to German and back has the same tree.
use Rattle.std.proofs.Common.{ℕ, suc, ◌-◌, ◌≡◌, Bool, true, false, List, [], ◌∷◌, ◌++◌, length, take, drop, Option, Some, None, Result, Ok, Err, refl, sym, ◌∙◌, ap, subst, inl, inr}
use Rattle.std.specs.Prelude.{◌⊎◌, is_some, slice_range}
use Rattle.std.specs.Str.{str_eq_ignore_ascii_case}
use Rattle.std.proofs.lemmas.Bool.{false≢true, true≢false}
use Rattle.std.proofs.lemmas.Option.{same_Some}
use Rattle.stl_lexer.specs.Bytes.{hash}
use Rattle.stl_lexer.specs.Forms.{has_form, is_word}
use Rattle.stl_lexer.specs.Tokens.{AreTokens, AreTokensUnique, TokensFollow, IsEndOfTokens, IsNextToken, is_minus, text_of}
use Rattle.stl_lexer.specs.declared.kinds.Token.{Token}
use Rattle.stl_lexer.specs.declared.kinds.TokenKind.{TokenKind}
use Rattle.stl_lexer.specs.declared.kinds.TokenKind.TheVariants as kind
use Rattle.stl_ast.specs.declared.blocks.Tree.{Tree}
use Rattle.stl_parser.specs.Source.{IsTree}
use Rattle.stl_symbols.specs.declared.languages.Language.{Language}
use Rattle.stl_symbols.specs.declared.languages.Language.TheVariants.{English, German}
use Rattle.de_mnemonics.specs.declared.classes.TokenClass.{TokenClass}
use Rattle.de_mnemonics.specs.declared.classes.TokenClass.TheVariants as class
use Rattle.de_mnemonics.specs.declared.places.TokenPlace.{TokenPlace}
use Rattle.de_mnemonics.specs.declared.places.TokenPlace.TheVariants as place
use Rattle.de_mnemonics.specs.declared.roles.Role.{Role}
use Rattle.de_mnemonics.specs.declared.roles.Role.TheVariants as role
use Rattle.de_mnemonics.specs.declared.translation.TranslationPosition.{TranslationPosition}
use Rattle.de_mnemonics.specs.Places.{token_place_behind, token_class, role_of, role_of_word}
use Rattle.de_mnemonics.specs.Translation.{token_class_in, front_position, next_class, with_bytes_before, with_word_before, role_at, position_behind, translation_of, translation_from}
use Rattle.de_mnemonics.specs.Words.{marked_name, operand_partner, translated_word}
use Rattle.translation_laws.specs.Alike.{AreTokensAlike, ComesBackInRole, IsSameWordButForCase, IsOperandWordAsLocal as IsNamedToken, IsSameToken, TreesAlike}
use Rattle.translation_laws.specs.RewrittenText.{AreRewrittenTexts, IsRewrittenText, RewritingKeepsTokens, RewritesSource, ShowRewrittenTexts, kind_of_rewritten, rewritten_source}
use Rattle.translation_laws.specs.RoundTrip.{ComesBackWithTree, RoundTrips}
use Rattle.translation_laws.specs.Statements.{is_number_class}
use Rattle.translation_laws.proofs.RoleLemmas.{IsFit, IsNear, fits_next, is_word_kind, kind_plain, path_no_number, role_plain}
use Rattle.translation_laws.proofs.BackLemmas.{IsOperandWord, Spellings, StepBack, TextBack, same_is_word, token_back, token_near, word_kind}

-- ---- the texts that a translation writes

-- these texts are written for the tokens from a position on
abbrev AreWritten : Language → List ℕ → TranslationPosition → List Token → List (List ℕ) → Type 0
AreWritten language s position [] [] = Unit {0}
AreWritten language s position [] (w ∷ ws) = ⊥
AreWritten language s position (t ∷ ts) [] = ⊥
AreWritten language s position (t ∷ ts) (w ∷ ws) =
    (translated_word language (role_at s position t ts) (text_of s t) ≡ Some w) × AreWritten language s (position_behind s position t ts) ts ws

-- texts that make up a translation
record Writes (language : Language) (s : List ℕ) (position : TranslationPosition) (ts : List Token) (text : List ℕ) : Type 0 where
  words : List (List ℕ)
  are : AreWritten language s position ts words
  make : text ≡ rewritten_source s position.from ts words

abbrev ok_text : Result (List ℕ) ℕ → List ℕ
ok_text (Ok text) = text
ok_text (Err line) = []

writes_put : (language : Language) (s : List ℕ) (position : TranslationPosition) (t : Token) (ts : List Token) (text : List ℕ) (o : Option (List ℕ)) (r : Result (List ℕ) ℕ)
    → translated_word language (role_at s position t ts) (text_of s t) ≡ o
    → ((rest : List ℕ) → r ≡ Ok rest → Writes language s (position_behind s position t ts) ts rest)
    → with_bytes_before (slice_range s position.from t.start) (with_word_before o t.line r) ≡ Ok text → Writes language s position (t ∷ ts) text
writes_put language s position t ts text None r is more e = absurd cc
writes_put language s position t ts text (Some w) (Err line) is more e = absurd cc
writes_put language s position t ts text (Some w) (Ok rest) is more e =
    let behind : Writes language s (position_behind s position t ts) ts rest = more rest refl in
    record {
      words = w ∷ behind.words;
      are = (is, behind.are);
      make = sym (ap ok_text e) ∙ ap (λ (l : List ℕ). slice_range s position.from t.start ++ (w ++ l)) behind.make;
    }

writes : (language : Language) (s : List ℕ) (position : TranslationPosition) (ts : List Token) (text : List ℕ) → translation_from language s position ts ≡ Ok text
    → Writes language s position ts text
unfolding translation_from
writes language s position [] text e = record { words = []; are = tt; make = sym (ap ok_text e) }
writes language s position (t ∷ ts) text e =
    writes_put language s position t ts text (translated_word language (role_at s position t ts) (text_of s t)) (translation_from language s (position_behind s position t ts) ts) refl
    (λ rest is. writes language s (position_behind s position t ts) ts rest is) e

-- and the other way round
makes : (language : Language) (s : List ℕ) (position : TranslationPosition) (ts : List Token) (words : List (List ℕ)) → AreWritten language s position ts words
    → translation_from language s position ts ≡ Ok (rewritten_source s position.from ts words)
unfolding translation_from
makes language s position [] [] are = refl
makes language s position [] (w ∷ ws) are = absurd are
makes language s position (t ∷ ts) [] are = absurd are
makes language s position (t ∷ ts) (w ∷ ws) are =
    ap (λ o. with_bytes_before (slice_range s position.from t.start) (with_word_before o t.line (translation_from language s (position_behind s position t ts) ts))) are.0
    ∙ ap (λ r. with_bytes_before (slice_range s position.from t.start) (with_word_before (Some w) t.line r)) (makes language s (position_behind s position t ts) ts ws are.1)

-- ---- words are words

abbrev AreWordTokens : List ℕ → List Token → Type 0
AreWordTokens s [] = Unit {0}
AreWordTokens s (t ∷ ts) = (t.kind ≡ kind.Word → is_word (text_of s t) ≡ true) × AreWordTokens s ts

next_is_word : (s : List ℕ) (from : ℕ) (minus : Bool) (t : Token) → IsNextToken s from minus t → t.kind ≡ kind.Word → is_word (text_of s t) ≡ true
unfolding has_form
next_is_word s from minus t next is =
    subst (λ k. has_form k (take (t.end - t.start) (drop t.start s)) (drop (t.end - t.start) (drop t.start s)) ≡ true) is next.longest.fits.fits

words_follow : (s : List ℕ) (from : ℕ) (minus : Bool) (ts : List Token) → TokensFollow s (λ from minus. IsEndOfTokens s from) from minus ts → AreWordTokens s ts
words_follow s from minus [] are = tt
words_follow s from minus (t ∷ ts) are =
    (λ is. next_is_word s from minus t are.0 is, words_follow s t.end (is_minus t.kind (text_of s t)) ts are.1)

words_of : (s : List ℕ) (ts : List Token) → AreTokens s ts → AreWordTokens s ts
unfolding AreTokens
words_of s ts are = words_follow s 0 false ts are

-- ---- the German text has the tokens of the source

-- the class of a token of this kind stands before
abbrev IsBefore : TokenKind → TokenClass → Type 0
IsBefore k b = k ≡ kind.Number → is_number_class b ≡ true

number_class : (k : TokenKind) (x : List ℕ) → k ≡ kind.Number → is_number_class (token_class k x) ≡ true
unfolding token_class
number_class k x e = ap (λ j. is_number_class (token_class j x)) e

-- a word in a role is rewritten as the translation writes it
word_rewritten : Spellings → (p : TokenPlace) (b : TokenClass) (before : TokenKind) (x w : List ℕ) (n : TokenClass) → IsFit p b → IsBefore before b
    → is_word x ≡ true → (r : Role) → role_of_word p b x n ≡ r → translated_word German r x ≡ Some w → IsRewrittenText before kind.Word x w
unfolding translated_word
word_rewritten spelled p b before x w n fit stands word role.Stays e is = inl (same_Some x w is)
word_rewritten spelled p b before x w n fit stands word role.Instruction e is = inr (refl, inl (spelled.instruction x w word is))
word_rewritten spelled p b before x w n fit stands word role.Operand e is = inr (refl, inl (spelled.operand x w word is))
word_rewritten spelled p b before x w n fit stands word role.Path e is =
    path_rewritten before x w (λ number. true≢false (sym (stands number) ∙ path_no_number p b x n fit e)) (is_some (operand_partner English x)) is
  where
    path_rewritten : (before : TokenKind) (x w : List ℕ) → (before ≡ kind.Number → ⊥) → (c : Bool) → Some (marked_name c x) ≡ Some w → IsRewrittenText before kind.Word x w
    path_rewritten before x w free true same = inr (refl, inr (free, sym (same_Some (hash ∷ x) w same)))
    path_rewritten before x w free false same = inl (same_Some x w same)

stays_same : (r : Role) (x w : List ℕ) → r ≡ role.Stays → translated_word German r x ≡ Some w → x ≡ w
unfolding translated_word
stays_same r x w e is = same_Some x w (ap (λ q. translated_word German q x) (sym e) ∙ is)

word_role : Spellings → (p : TokenPlace) (b : TokenClass) (before : TokenKind) (x w : List ℕ) (n : TokenClass) → IsFit p b → IsBefore before b → is_word x ≡ true
    → translated_word German (role_of p b (token_class kind.Word x) x n) x ≡ Some w → IsRewrittenText before kind.Word x w
unfolding role_of token_class
word_role spelled p b before x w n fit stands word is = word_rewritten spelled p b before x w n fit stands word (role_of_word p b x n) refl is

other_rewritten : (p : TokenPlace) (b : TokenClass) (before k : TokenKind) (x w : List ℕ) (n : TokenClass) → is_word_kind k ≡ false
    → translated_word German (role_of p b (token_class k x) x n) x ≡ Some w → IsRewrittenText before k x w
other_rewritten p b before k x w n other is =
    inl (stays_same (role_of p b (token_class k x) x n) x w (role_plain p b (token_class k x) x n (kind_plain k x other)) is)

token_rewritten : Spellings → (p : TokenPlace) (b : TokenClass) (before k : TokenKind) (x w : List ℕ) (n : TokenClass) → IsFit p b → IsBefore before b
    → (k ≡ kind.Word → is_word x ≡ true) → translated_word German (role_of p b (token_class k x) x n) x ≡ Some w → IsRewrittenText before k x w
token_rewritten spelled p b before kind.Word x w n fit stands word is = word_role spelled p b before x w n fit stands (word refl) is
token_rewritten spelled p b before kind.Number x w n fit stands word is = other_rewritten p b before kind.Number x w n refl is
token_rewritten spelled p b before kind.Quoted x w n fit stands word is = other_rewritten p b before kind.Quoted x w n refl is
token_rewritten spelled p b before kind.Local x w n fit stands word is = other_rewritten p b before kind.Local x w n refl is
token_rewritten spelled p b before kind.Characters x w n fit stands word is = other_rewritten p b before kind.Characters x w n refl is
token_rewritten spelled p b before kind.Based x w n fit stands word is = other_rewritten p b before kind.Based x w n refl is
token_rewritten spelled p b before kind.NumberLiteral x w n fit stands word is = other_rewritten p b before kind.NumberLiteral x w n refl is
token_rewritten spelled p b before kind.TimeLiteral x w n fit stands word is = other_rewritten p b before kind.TimeLiteral x w n refl is
token_rewritten spelled p b before kind.Mark x w n fit stands word is = other_rewritten p b before kind.Mark x w n refl is
token_rewritten spelled p b before kind.SignWord x w n fit stands word is = other_rewritten p b before kind.SignWord x w n refl is
token_rewritten spelled p b before kind.Attribute x w n fit stands word is = other_rewritten p b before kind.Attribute x w n refl is
token_rewritten spelled p b before kind.Title x w n fit stands word is = other_rewritten p b before kind.Title x w n refl is

there_rewritten : Spellings → (s : List ℕ) (position : TranslationPosition) (before : TokenKind) (ts : List Token) (ws : List (List ℕ)) → IsFit position.place position.before
    → IsBefore before position.before → AreWordTokens s ts → AreWritten German s position ts ws → AreRewrittenTexts s before ts ws
there_rewritten spelled s position before [] [] fit stands words are = tt
there_rewritten spelled s position before [] (w ∷ ws) fit stands words are = are
there_rewritten spelled s position before (t ∷ ts) [] fit stands words are = are
there_rewritten spelled s position before (t ∷ ts) (w ∷ ws) fit stands words are = (
  token_rewritten spelled position.place position.before before t.kind (text_of s t) w (next_class s ts) fit stands words.0 are.0,
  there_rewritten spelled s (position_behind s position t ts) t.kind ts ws
      (fits_next position.place position.before (token_class_in s t) (text_of s t) (next_class s ts)) (λ number. number_class t.kind (text_of s t) number) words.1 are.1,
)

-- ---- and is translated back

-- the texts that tokens come back as, from a place on
abbrev AreBack : List ℕ → TokenPlace → TokenClass → List Token → List (List ℕ) → Type 0
AreBack s p b [] [] = Unit {0}
AreBack s p b [] (v ∷ vs) = ⊥
AreBack s p b (t ∷ ts) [] = ⊥
AreBack s p b (t ∷ ts) (v ∷ vs) =
    TextBack (role_of p b (token_class_in s t) (text_of s t) (next_class s ts)) (text_of s t) v
    × AreBack s (token_place_behind p b (token_class_in s t) (text_of s t) (next_class s ts)) (token_class_in s t) ts vs

record Returns (s g : List ℕ) (position position' : TranslationPosition) (ts us : List Token) : Type 0 where
  texts : List (List ℕ)
  are : AreWritten English g position' us texts
  kept : AreBack s position.place position.before ts texts

-- the class of a token in the German text
class_anew : (g : List ℕ) (t u : Token) (w : List ℕ) → u.kind ≡ kind_of_rewritten t.kind w → text_of g u ≡ w → token_class_in g u ≡ token_class (kind_of_rewritten t.kind w) w
class_anew g t u w is text = ap (λ k. token_class k (text_of g u)) is ∙ ap (token_class (kind_of_rewritten t.kind w)) text

next_near : (s g : List ℕ) (position : TranslationPosition) (ts : List Token) (ws : List (List ℕ)) (us : List Token) → AreWritten German s position ts ws → ShowRewrittenTexts g ts ws us
    → IsNear (next_class s ts) (next_class g us)
next_near s g position [] [] [] are shows = inl refl
next_near s g position [] [] (u ∷ us) are shows = absurd shows
next_near s g position [] (w ∷ ws) us are shows = absurd are
next_near s g position (t ∷ ts) [] us are shows = absurd are
next_near s g position (t ∷ ts) (w ∷ ws) [] are shows = absurd shows
next_near s g position (t ∷ ts) (w ∷ ws) (u ∷ us) are shows =
    subst (λ c. IsNear (token_class_in s t) c) (sym (class_anew g t u w shows.0 shows.1))
    (token_near position.place position.before t.kind (text_of s t) w (next_class s ts) are.0)

-- what is written for a token of the German text, and the place behind it
role_anew : (g : List ℕ) (position' : TranslationPosition) (p : TokenPlace) (t u : Token) (us : List Token) (w v : List ℕ) → position'.place ≡ p → u.kind ≡ kind_of_rewritten t.kind w → text_of g u ≡ w
    → translated_word English (role_of p position'.before (token_class (kind_of_rewritten t.kind w) w) w (next_class g us)) w ≡ Some v
    → translated_word English (role_at g position' u us) (text_of g u) ≡ Some v
role_anew g position' p t u us w v at is text e =
    ap (λ (x : List ℕ). translated_word English (role_of position'.place position'.before (token_class_in g u) x (next_class g us)) x) text
    ∙ ap (λ c. translated_word English (role_of position'.place position'.before c w (next_class g us)) w) (class_anew g t u w is text)
    ∙ ap (λ q. translated_word English (role_of q position'.before (token_class (kind_of_rewritten t.kind w) w) w (next_class g us)) w) at ∙ e

place_anew : (g : List ℕ) (position' : TranslationPosition) (p q : TokenPlace) (t u : Token) (us : List Token) (w : List ℕ) → position'.place ≡ p → u.kind ≡ kind_of_rewritten t.kind w → text_of g u ≡ w
    → token_place_behind p position'.before (token_class (kind_of_rewritten t.kind w) w) w (next_class g us) ≡ q
    → token_place_behind position'.place position'.before (token_class_in g u) (text_of g u) (next_class g us) ≡ q
place_anew g position' p q t u us w at is text e =
    ap (λ (x : List ℕ). token_place_behind position'.place position'.before (token_class_in g u) x (next_class g us)) text
    ∙ ap (λ c. token_place_behind position'.place position'.before c w (next_class g us)) (class_anew g t u w is text)
    ∙ ap (λ r. token_place_behind r position'.before (token_class (kind_of_rewritten t.kind w) w) w (next_class g us)) at ∙ e

-- the positions in both texts are the same but for what differs by a name
record IsPositionNear (position position' : TranslationPosition) : Type 0 where
  place : position'.place ≡ position.place
  before : IsNear position.before position'.before

returns : Spellings → (s g : List ℕ) (position position' : TranslationPosition) (ts : List Token) (ws : List (List ℕ)) (us : List Token) → IsPositionNear position position' → AreWordTokens s ts
    → AreWritten German s position ts ws → ShowRewrittenTexts g ts ws us → Returns s g position position' ts us
returns spelled s g position position' [] [] [] near words are shows = record { texts = []; are = tt; kept = tt }
returns spelled s g position position' [] [] (u ∷ us) near words are shows = absurd shows
returns spelled s g position position' [] (w ∷ ws) us near words are shows = absurd are
returns spelled s g position position' (t ∷ ts) [] us near words are shows = absurd are
returns spelled s g position position' (t ∷ ts) (w ∷ ws) [] near words are shows = absurd shows
returns spelled s g position position' (t ∷ ts) (w ∷ ws) (u ∷ us) near words are shows =
    let step : StepBack position.place position.before position'.before t.kind (text_of s t) w (next_class s ts) (next_class g us) =
    token_back spelled position.place position.before position'.before t.kind (text_of s t) w (next_class s ts) (next_class g us) near.before
    (next_near s g (position_behind s position t ts) ts ws us are.1 shows.3) words.0 are.0 in
    let behind_near : IsPositionNear (position_behind s position t ts) (position_behind g position' u us) =
    record {
      place = place_anew g position' position.place (token_place_behind position.place position.before (token_class_in s t) (text_of s t) (next_class s ts)) t u us w near.place shows.0 shows.1 step.place;
      before = subst (λ c. IsNear (token_class_in s t) c) (sym (class_anew g t u w shows.0 shows.1))
          (token_near position.place position.before t.kind (text_of s t) w (next_class s ts) are.0);
    } in
    let rest : Returns s g (position_behind s position t ts) (position_behind g position' u us) ts us =
    returns spelled s g (position_behind s position t ts) (position_behind g position' u us) ts ws us behind_near words.1 are.1 shows.3 in
    record {
      texts = step.text ∷ rest.texts;
      are = (role_anew g position' position.place t u us w step.text near.place shows.0 shows.1 step.back, rest.are);
      kept = (step.kept, rest.kept);
    }

-- ---- the English text has the tokens of the source

-- a token in a role is a word, or stays
role_word : (p : TokenPlace) (b : TokenClass) (k : TokenKind) (x : List ℕ) (n : TokenClass) (c : Bool) → is_word_kind k ≡ c
    → (k ≡ kind.Word) ⊎ (role_of p b (token_class k x) x n ≡ role.Stays)
role_word p b k x n false other = inr (role_plain p b (token_class k x) x n (kind_plain k x other))
role_word p b kind.Word x n true other = inl refl
role_word p b kind.Number x n true other = absurd (false≢true other)
role_word p b kind.Quoted x n true other = absurd (false≢true other)
role_word p b kind.Local x n true other = absurd (false≢true other)
role_word p b kind.Characters x n true other = absurd (false≢true other)
role_word p b kind.Based x n true other = absurd (false≢true other)
role_word p b kind.NumberLiteral x n true other = absurd (false≢true other)
role_word p b kind.TimeLiteral x n true other = absurd (false≢true other)
role_word p b kind.Mark x n true other = absurd (false≢true other)
role_word p b kind.SignWord x n true other = absurd (false≢true other)
role_word p b kind.Attribute x n true other = absurd (false≢true other)
role_word p b kind.Title x n true other = absurd (false≢true other)

back_stays : (r : Role) (x v : List ℕ) → r ≡ role.Stays → TextBack r x v → v ≡ x
back_stays r x v e back = subst (λ q. TextBack q x v) e back

word_again : (before k : TokenKind) (x v : List ℕ) → k ≡ kind.Word → str_eq_ignore_ascii_case x v ≡ true → is_word x ≡ true
    → IsRewrittenText before k x v
word_again before k x v is same word = inr (is, inl (same_is_word x v same word, inl same))

back_rewritten : (p : TokenPlace) (b : TokenClass) (before k : TokenKind) (x v : List ℕ) (n : TokenClass) → IsFit p b → IsBefore before b → k ≡ kind.Word → is_word x ≡ true
    → (r : Role) → role_of_word p b x n ≡ r → TextBack r x v → IsRewrittenText before k x v
back_rewritten p b before k x v n fit stands is word role.Stays e back = inl (sym back)
back_rewritten p b before k x v n fit stands is word role.Instruction e back = word_again before k x v is back word
back_rewritten p b before k x v n fit stands is word role.Operand e (inl same) = inl (sym same)
back_rewritten p b before k x v n fit stands is word role.Operand e (inr cased) = word_again before k x v is cased.0 word
back_rewritten p b before k x v n fit stands is word role.Path e (inl same) = inl (sym same)
back_rewritten p b before k x v n fit stands is word role.Path e (inr named_) =
    inr (is, inr ((λ number. true≢false (sym (stands number) ∙ path_no_number p b x n fit e)), named_.0))

word_role_of : (p : TokenPlace) (b : TokenClass) (k : TokenKind) (x : List ℕ) (n : TokenClass) → k ≡ kind.Word
    → role_of p b (token_class k x) x n ≡ role_of_word p b x n
unfolding role_of token_class
word_role_of p b k x n is = ap (λ j. role_of p b (token_class j x) x n) is

token_again : (p : TokenPlace) (b : TokenClass) (before k : TokenKind) (x v : List ℕ) (n : TokenClass) → IsFit p b → IsBefore before b
    → (k ≡ kind.Word → is_word x ≡ true) → TextBack (role_of p b (token_class k x) x n) x v → IsRewrittenText before k x v
token_again p b before k x v n fit stands word back =
    elim (role_word p b k x n (is_word_kind k) refl) [
      | inl is ↦ back_rewritten p b before k x v n fit stands is (word is) (role_of_word p b x n) refl (subst (λ r. TextBack r x v) (word_role_of p b k x n is) back)
      | inr stays ↦ inl (sym (back_stays (role_of p b (token_class k x) x n) x v stays back))
    ]

back_again : (s : List ℕ) (p : TokenPlace) (b : TokenClass) (before : TokenKind) (ts : List Token) (vs : List (List ℕ)) → IsFit p b → IsBefore before b → AreWordTokens s ts
    → AreBack s p b ts vs → AreRewrittenTexts s before ts vs
back_again s p b before [] [] fit stands words back = tt
back_again s p b before [] (v ∷ vs) fit stands words back = back
back_again s p b before (t ∷ ts) [] fit stands words back = back
back_again s p b before (t ∷ ts) (v ∷ vs) fit stands words back = (
  token_again p b before t.kind (text_of s t) v (next_class s ts) fit stands words.0 back.0,
  back_again s (token_place_behind p b (token_class_in s t) (text_of s t) (next_class s ts)) (token_class_in s t) t.kind ts vs
      (fits_next p b (token_class_in s t) (text_of s t) (next_class s ts)) (λ number. number_class t.kind (text_of s t) number) words.1 back.1,
)

as_many : (s : List ℕ) (p : TokenPlace) (b : TokenClass) (ts : List Token) (vs : List (List ℕ)) → AreBack s p b ts vs → length vs ≡ length ts
as_many s p b [] [] back = refl
as_many s p b [] (v ∷ vs) back = absurd back
as_many s p b (t ∷ ts) [] back = absurd back
as_many s p b (t ∷ ts) (v ∷ vs) back = ap suc (as_many s (token_place_behind p b (token_class_in s t) (text_of s t) (next_class s ts)) (token_class_in s t) ts vs back.1)

-- ---- tokens that come back

kind_kept : (k : TokenKind) (x : List ℕ) → (k ≡ kind.Word → is_word x ≡ true) → kind_of_rewritten k x ≡ k
kind_kept kind.Word x word = word_kind x (word refl)
kind_kept kind.Number x word = refl
kind_kept kind.Quoted x word = refl
kind_kept kind.Local x word = refl
kind_kept kind.Characters x word = refl
kind_kept kind.Based x word = refl
kind_kept kind.NumberLiteral x word = refl
kind_kept kind.TimeLiteral x word = refl
kind_kept kind.Mark x word = refl
kind_kept kind.SignWord x word = refl
kind_kept kind.Attribute x word = refl
kind_kept kind.Title x word = refl

-- a token of the English text and the one that it came from
record Shows (e : List ℕ) (t u : Token) (v : List ℕ) : Type 0 where
  kind_ : u.kind ≡ kind_of_rewritten t.kind v
  text : text_of e u ≡ v
  line : u.line ≡ t.line

same_token : (s e : List ℕ) (t u : Token) (v : List ℕ) → (t.kind ≡ kind.Word → is_word (text_of s t) ≡ true) → Shows e t u v → v ≡ text_of s t → IsSameToken s e t u
same_token s e t u v word shows same = record {
  kind = sym (shows.kind_ ∙ ap (kind_of_rewritten t.kind) same ∙ kind_kept t.kind (text_of s t) word);
  line = sym shows.line;
  text = sym (shows.text ∙ same);
}

cased_token : (s e : List ℕ) (t u : Token) (v : List ℕ) → t.kind ≡ kind.Word → is_word (text_of s t) ≡ true → Shows e t u v
    → str_eq_ignore_ascii_case (text_of s t) v ≡ true → IsSameWordButForCase s e t u
cased_token s e t u v is word shows same = record {
  word = is;
  other = shows.kind_ ∙ ap (λ k. kind_of_rewritten k v) is ∙ word_kind v (same_is_word (text_of s t) v same word);
  line = sym shows.line;
  text = subst (λ (x : List ℕ). str_eq_ignore_ascii_case (text_of s t) x ≡ true) (sym shows.text) same;
}

named_kind : (k : TokenKind) (x v : List ℕ) → k ≡ kind.Word → v ≡ hash ∷ x → kind_of_rewritten k v ≡ kind.Local
named_kind k x v is same = ap (λ j. kind_of_rewritten j v) is ∙ ap (kind_of_rewritten kind.Word) same

named_token : (s e : List ℕ) (t u : Token) (v : List ℕ) → t.kind ≡ kind.Word → Shows e t u v → v ≡ hash ∷ text_of s t → IsOperandWord (text_of s t) → IsNamedToken s e t u
named_token s e t u v is shows same operand = record {
  word = is;
  other = shows.kind_ ∙ named_kind t.kind (text_of s t) v is same;
  line = sym shows.line;
  text = shows.text ∙ same;
  operand = operand;
}

comes : (s e : List ℕ) (t u : Token) (v : List ℕ) (r : Role) → (t.kind ≡ kind.Word) ⊎ (r ≡ role.Stays) → (t.kind ≡ kind.Word → is_word (text_of s t) ≡ true) → Shows e t u v
    → TextBack r (text_of s t) v → ComesBackInRole s e r t u
comes s e t u v role.Stays is word shows back = same_token s e t u v word shows back
comes s e t u v role.Instruction (inl is) word shows back = inr (cased_token s e t u v is (word is) shows back)
comes s e t u v role.Instruction (inr other) word shows back = absurd cc
comes s e t u v role.Operand (inl is) word shows (inl same) = inl (same_token s e t u v word shows same)
comes s e t u v role.Operand (inl is) word shows (inr cased) = inr (cased_token s e t u v is (word is) shows cased.0, cased.1)
comes s e t u v role.Operand (inr other) word shows back = absurd cc
comes s e t u v role.Path (inl is) word shows (inl same) = inl (same_token s e t u v word shows same)
comes s e t u v role.Path (inl is) word shows (inr named_) = inr (named_token s e t u v is shows named_.0 named_.1)
comes s e t u v role.Path (inr other) word shows back = absurd cc

alike : (s e : List ℕ) (p : TokenPlace) (b : TokenClass) (ts : List Token) (vs : List (List ℕ)) (us : List Token) → AreWordTokens s ts → AreBack s p b ts vs → ShowRewrittenTexts e ts vs us
    → AreTokensAlike s e p b ts us
alike s e p b [] [] [] words back shows = tt
alike s e p b [] [] (u ∷ us) words back shows = absurd shows
alike s e p b [] (v ∷ vs) us words back shows = absurd back
alike s e p b (t ∷ ts) [] us words back shows = absurd back
alike s e p b (t ∷ ts) (v ∷ vs) [] words back shows = absurd shows
alike s e p b (t ∷ ts) (v ∷ vs) (u ∷ us) words back shows = (
  comes s e t u v (role_of p b (token_class_in s t) (text_of s t) (next_class s ts)) (role_word p b t.kind (text_of s t) (next_class s ts) (is_word_kind t.kind) refl) words.0
      (record { kind_ = shows.0; text = shows.1; line = shows.2 }) back.0,
  alike s e (token_place_behind p b (token_class_in s t) (text_of s t) (next_class s ts)) (token_class_in s t) ts vs us words.1 back.1 shows.3,
)

-- ---- the whole

-- what is known of tokens that are written anew, and of trees
pub record Laws : Type 0 where
  pub one_list : AreTokensUnique
  pub keeps : RewritingKeepsTokens
  pub trees : TreesAlike
  pub spelled : Spellings

front_fits : IsFit place.Outside class.Other
front_fits = λ e. refl

front_stands : IsBefore kind.Mark class.Other
front_stands = λ e. absurd cc

-- from the German text, its tokens and what is written for each of them
comes_back : Laws → (s : List ℕ) (ts : List Token) (tree : Tree) (ws : List (List ℕ)) → AreTokens s ts → IsTree s ts tree → AreWritten German s front_position ts ws
    → ComesBackWithTree (rewritten_source s 0 ts ws) tree
unfolding translation_of
comes_back laws s ts tree ws are is there =
    let words : AreWordTokens s ts = words_of s ts are in
    let german : RewritesSource s ts ws = laws.keeps s ts ws are (there_rewritten laws.spelled s front_position kind.Mark ts ws front_fits front_stands words there) in
    let back : Returns s (rewritten_source s 0 ts ws) front_position front_position ts german.us =
    returns laws.spelled s (rewritten_source s 0 ts ws) front_position front_position ts ws german.us (record { place = refl; before = inl refl }) words there german.shows in
    let again : rewritten_source (rewritten_source s 0 ts ws) 0 german.us back.texts ≡ rewritten_source s 0 ts back.texts =
    german.again back.texts (as_many s place.Outside class.Other ts back.texts back.kept) in
    let english : RewritesSource s ts back.texts =
    laws.keeps s ts back.texts are (back_again s place.Outside class.Other kind.Mark ts back.texts front_fits front_stands words back.kept) in
    record {
      english = rewritten_source s 0 ts back.texts;
      translation = (german.us, german.tokens, makes English (rewritten_source s 0 ts ws) front_position german.us back.texts back.are ∙ ap Ok again);
      same = record {
        tokens = english.us;
        are = english.tokens;
        is = laws.trees s (rewritten_source s 0 ts back.texts) ts english.us tree are
            (alike s (rewritten_source s 0 ts back.texts) place.Outside class.Other ts back.texts english.us words back.kept english.shows) is;
      };
    }

pub round_trips : Laws → RoundTrips
unfolding translation_of
round_trips laws s german tree has (ts, are, is) =
    let same : ts ≡ has.tokens = laws.one_list s ts has.tokens are has.are in
    let wrote : Writes German s front_position ts german = writes German s front_position ts german is in
    subst (λ (g : List ℕ). ComesBackWithTree g tree) (sym wrote.make)
    (comes_back laws s ts tree wrote.words are (subst (λ (l : List Token). IsTree s l tree) (sym same) has.is) wrote.are)
