-- Tokens of two sources that differ as a source does from its translation there and back.
use Rattle.std.specs.Prelude.{◌≡◌, ◌⊎◌, ℕ, true, is_some, List, [], ◌∷◌}
use Rattle.std.specs.Str.{str_eq_ignore_ascii_case}
use Rattle.stl_lexer.specs.Bytes.{hash}
use Rattle.stl_lexer.specs.declared.kinds.Token.{Token}
use Rattle.stl_lexer.specs.declared.kinds.TokenKind.TheVariants as kind
use Rattle.stl_lexer.specs.Tokens.{AreTokens, text_of}
use Rattle.stl_ast.specs.declared.blocks.Tree.{Tree}
use Rattle.stl_parser.specs.Source.{IsTree}
use Rattle.stl_symbols.specs.declared.languages.Language.TheVariants.{English, German}
use Rattle.de_mnemonics.specs.declared.classes.TokenClass.{TokenClass}
use Rattle.de_mnemonics.specs.declared.classes.TokenClass.TheVariants as class
use Rattle.de_mnemonics.specs.declared.places.TokenPlace.{TokenPlace}
use Rattle.de_mnemonics.specs.declared.places.TokenPlace.TheVariants as place
use Rattle.de_mnemonics.specs.declared.roles.Role.{Role}
use Rattle.de_mnemonics.specs.declared.roles.Role.TheVariants as role
use Rattle.de_mnemonics.specs.Places.{token_place_behind, role_of}
use Rattle.de_mnemonics.specs.Translation.{token_class_in, next_class}
use Rattle.de_mnemonics.specs.Words.{operand_partner}

-- two tokens, each of its source, of the same kind and text on the same line
pub record IsSameToken (s e : List ℕ) (t u : Token) : Type 0 where
  -- both tokens are of one kind
  pub kind : t.kind ≡ u.kind
  -- both tokens stand on one line
  pub line : t.line ≡ u.line
  -- the bytes of both tokens are the same, each in its source
  pub text : text_of s t ≡ text_of e u

-- two words that are the same but for the case of their letters
pub record IsSameWordButForCase (s e : List ℕ) (t u : Token) : Type 0 where
  -- the first token is a word
  pub word : t.kind ≡ kind.Word
  -- the second token is a word
  pub other : u.kind ≡ kind.Word
  -- both words stand on one line
  pub line : t.line ≡ u.line
  -- both words are the same but for the case of their letters
  pub text : str_eq_ignore_ascii_case (text_of s t) (text_of e u) ≡ true

-- a word that is an operand word of one of the languages, and the same with `#` in front, a local
-- name
pub record IsOperandWordAsLocal (s e : List ℕ) (t u : Token) : Type 0 where
  -- the first token is a word
  pub word : t.kind ≡ kind.Word
  -- the second token is a local name
  pub other : u.kind ≡ kind.Local
  -- both tokens stand on one line
  pub line : t.line ≡ u.line
  -- the local name is the word with `#` in front
  pub text : text_of e u ≡ hash ∷ text_of s t
  -- the word is an operand word of English or of German
  pub operand :
      (is_some (operand_partner English (text_of s t)) ≡ true)
      ⊎ (is_some (operand_partner German (text_of s t)) ≡ true)

-- a token t in this role comes back as the token u of the other source: as the same token, as the
-- same word in other case, or as an operand word with `#` before it
abbrev pub ComesBackInRole : (s e : List ℕ) → Role → Token → Token → Type 0
ComesBackInRole s e role.Instruction t u = IsSameToken s e t u ⊎ IsSameWordButForCase s e t u
ComesBackInRole s e role.Operand t u =
    IsSameToken s e t u
    ⊎ (IsSameWordButForCase s e t u × (is_some (operand_partner German (text_of s t)) ≡ true))
ComesBackInRole s e role.Path t u = IsSameToken s e t u ⊎ IsOperandWordAsLocal s e t u
ComesBackInRole s e role.Stays t u = IsSameToken s e t u

-- tokens come back one by one, from a place on; `before` is the class of the token in front of it
abbrev pub AreTokensAlike :
    (s e : List ℕ) → TokenPlace → TokenClass → List Token → List Token → Type 0
AreTokensAlike s e p before [] [] = Unit {0}
AreTokensAlike s e p before (t ∷ ts) (u ∷ us) =
    ComesBackInRole s e (role_of p before (token_class_in s t) (text_of s t) (next_class s ts)) t u
    × AreTokensAlike s e (token_place_behind p before (token_class_in s t) (text_of s t) (next_class s ts))
    (token_class_in s t) ts us
AreTokensAlike s e p before _ _ = ⊥

-- tokens that come back one by one, from the front of the source on, have the same tree as before
abbrev pub TreesAlike : Type 0
TreesAlike =
    (s e : List ℕ) (ts us : List Token) (t : Tree)
    → AreTokens s ts → AreTokensAlike s e place.Outside class.Other ts us → IsTree s ts t
    → IsTree e us t
