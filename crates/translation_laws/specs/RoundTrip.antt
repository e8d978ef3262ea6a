-- A source that is translated to German mnemonics and back.
use Rattle.std.specs.Prelude.{ℕ, List}
use Rattle.stl_lexer.specs.declared.kinds.Token.{Token}
use Rattle.stl_lexer.specs.Tokens.{AreTokens}
use Rattle.stl_ast.specs.declared.blocks.Tree.{Tree}
use Rattle.stl_parser.specs.Source.{IsTree}
use Rattle.stl_symbols.specs.declared.languages.Language.TheVariants.{English, German}
use Rattle.de_mnemonics.specs.Translation.{IsTranslation}

-- a text has this tree, with its lines
pub record HasTree (text : List ℕ) (tree : Tree) : Type 0 where
  -- the tokens of the text
  pub tokens : List Token
  -- the text has these tokens
  pub are : AreTokens text tokens
  -- the tokens are read as the tree
  pub is : IsTree text tokens tree

-- a German text has a translation to English with this tree
pub record ComesBackWithTree (german : List ℕ) (tree : Tree) : Type 0 where
  -- the English text
  pub english : List ℕ
  -- the English text is the translation of the German one
  pub translation : IsTranslation English german english
  -- the English text has the tree
  pub same : HasTree english tree

-- of each source with a tree, whose clauses so break no rule, each translation to German comes back
abbrev pub RoundTrips : Type 0
RoundTrips =
    (source german : List ℕ) (tree : Tree) → HasTree source tree
    → IsTranslation German source german → ComesBackWithTree german tree
