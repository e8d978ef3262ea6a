-- A source whose tokens are written anew, with what stands between them kept.
use Rattle.std.specs.Prelude.{◌≡◌, ◌⊎◌, ℕ, Bool, true, not, ◌==◌, if◌then◌else◌, List, [], ◌∷◌, ◌++◌, length, drop, codes, slice_range}
use Rattle.std.specs.Str.{str_eq_ignore_ascii_case}
use Rattle.stl_lexer.specs.declared.kinds.TokenKind.{TokenKind}
use Rattle.stl_lexer.specs.declared.kinds.TokenKind.TheVariants.{Word, Number, Local, Mark}
use Rattle.stl_lexer.specs.declared.kinds.Token.{Token}
use Rattle.stl_lexer.specs.Bytes.{hash}
use Rattle.stl_lexer.specs.Forms.{is_word}
use Rattle.stl_lexer.specs.Tokens.{text_of, AreTokens}
use Rattle.de_mnemonics.specs.Places.{is_word_in_list}

-- a source from a place on, with new texts in place of its tokens and the bytes between them
abbrev pub rewritten_source : List ℕ → ℕ → List Token → List (List ℕ) → List ℕ
rewritten_source source from [] words = drop from source
rewritten_source source from (t ∷ ts) [] = drop from source
rewritten_source source from (t ∷ ts) (word ∷ words) =
    slice_range source from t.start ++ (word ++ rewritten_source source t.end ts words)

-- words that make a longer token with a sign before them, or with a `#` behind them, or that begin
-- a title
unfoldable pub joining_words : List (List ℕ)
joining_words =
    codes "I" ∷ codes "D" ∷ codes "AR1" ∷ codes "AR2" ∷ codes "L" ∷ codes "C" ∷ codes "T"
    ∷ codes "TIME" ∷ codes "S5T" ∷ codes "S5TIME"
    ∷ codes "P" ∷ codes "TITLE" ∷ []

-- a word is a token of its own beside any other
unfoldable pub is_non_joining_word : List ℕ → Bool
is_non_joining_word word = not (is_word_in_list joining_words word)

-- a word in place of another: the same but for the case of its letters, or one that is a token of
-- its own beside any other
abbrev pub IsOtherWord : List ℕ → List ℕ → Type 0
IsOtherWord old new =
    (is_word new ≡ true)
    × ((str_eq_ignore_ascii_case old new ≡ true) ⊎ (is_non_joining_word new ≡ true))

-- a word with `#` before it, where no number stands before: the word behind a number would begin a
-- literal, as in `2#Z`
abbrev pub IsWordAsLocal : TokenKind → List ℕ → List ℕ → Type 0
IsWordAsLocal before old new = (before ≡ Number → ⊥) × (new ≡ hash ∷ old)

-- a token's text is written anew as another: it stays, or it is a word that becomes another word or
-- a local name
abbrev pub IsRewrittenText : TokenKind → TokenKind → List ℕ → List ℕ → Type 0
IsRewrittenText before kind old new =
    (old ≡ new) ⊎ ((kind ≡ Word) × (IsOtherWord old new ⊎ IsWordAsLocal before old new))

-- each token is written anew as the text in its place; `before` is the kind of the token before
-- them
abbrev pub AreRewrittenTexts : List ℕ → TokenKind → List Token → List (List ℕ) → Type 0
AreRewrittenTexts source before [] [] = Unit {0}
AreRewrittenTexts source before [] (word ∷ words) = ⊥
AreRewrittenTexts source before (t ∷ ts) [] = ⊥
AreRewrittenTexts source before (t ∷ ts) (word ∷ words) =
    IsRewrittenText before t.kind (text_of source t) word × AreRewrittenTexts source t.kind ts words

-- the kind of a token with another text: a word may become a local name
abbrev pub kind_of_rewritten : TokenKind → List ℕ → TokenKind
kind_of_rewritten Word (b ∷ s) = if b == hash then Local else Word
kind_of_rewritten kind text = kind

-- the tokens of the new text are those of the source, with their lines, and have the new texts
abbrev pub ShowRewrittenTexts : List ℕ → List Token → List (List ℕ) → List Token → Type 0
ShowRewrittenTexts text [] [] [] = Unit {0}
ShowRewrittenTexts text (t ∷ ts) (word ∷ words) (u ∷ us) =
    (u.kind ≡ kind_of_rewritten t.kind word) × (text_of text u ≡ word) × (u.line ≡ t.line)
    × ShowRewrittenTexts text ts words us
ShowRewrittenTexts text _ _ _ = ⊥

-- the tokens of a source that was written anew; a text that is written anew from it is written anew
-- from the source
pub record RewritesSource (source : List ℕ) (ts : List Token) (words : List (List ℕ)) : Type 0 where
  -- the tokens of the source that was written anew
  pub us : List Token
  -- the source that was written anew has these tokens
  pub tokens : AreTokens (rewritten_source source 0 ts words) us
  -- the tokens of the new source have the new texts, and the lines of the old tokens
  pub shows : ShowRewrittenTexts (rewritten_source source 0 ts words) ts words us
  -- the new source, written anew with other texts, is the old source written anew with them
  pub again : (others : List (List ℕ)) → length others ≡ length ts
      → rewritten_source (rewritten_source source 0 ts words) 0 us others
      ≡ rewritten_source source 0 ts others

-- a source is written anew with the tokens that its texts say
abbrev pub RewritingKeepsTokens : Type 0
RewritingKeepsTokens =
    (source : List ℕ) (ts : List Token) (words : List (List ℕ)) → AreTokens source ts
    → AreRewrittenTexts source Mark ts words
    → RewritesSource source ts words
