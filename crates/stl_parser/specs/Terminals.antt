-- The tokens that a clause is made of.
use Rattle.std.specs.Prelude.{ℕ, Bool, ◌&&◌, nat_eq, List, codes}
use Rattle.std.specs.Str.{str_eq_ignore_ascii_case}
use Rattle.stl_lexer.specs.declared.kinds.Token.{Token}
use Rattle.stl_lexer.specs.declared.kinds.TokenKind.{TokenKind}
use Rattle.stl_lexer.specs.declared.kinds.TokenKind.TheVariants as kind
pub use Rattle.stl_lexer.specs.Longest.{kind_rank}
use Rattle.stl_lexer.specs.Marks.{mark_text}
use Rattle.stl_lexer.specs.Tokens.{text_of}
use Rattle.stl_lexer.specs.declared.marks.Mark.{Mark}
use Rattle.stl_parser.specs.declared.keywords.ClauseWord.{ClauseWord}
use Rattle.stl_parser.specs.declared.keywords.ClauseWord.TheVariants as key

-- how a word of the language is written
unfoldable pub key_text : ClauseWord → List ℕ
key_text key.True = codes "TRUE"
key_text key.False = codes "FALSE"
key_text key.Array = codes "ARRAY"
key_text key.Of = codes "OF"
key_text key.Struct = codes "STRUCT"
key_text key.Void = codes "VOID"
key_text key.DateAndTime = codes "DATE_AND_TIME"
key_text key.Ar1 = codes "AR1"
key_text key.Ar2 = codes "AR2"
key_text key.B = codes "B"
key_text key.W = codes "W"
key_text key.D = codes "D"
key_text key.Mcr = codes "MCR"

-- a token is of this kind
unfoldable pub has_kind : Token → TokenKind → Bool
has_kind t k = nat_eq (kind_rank t.kind) (kind_rank k)

-- a token is this mark
unfoldable pub is_mark : List ℕ → Token → Mark → Bool
is_mark source t m =
    has_kind t kind.Mark && str_eq_ignore_ascii_case (text_of source t) (mark_text m)

-- a token is this word of the language, without case
unfoldable pub is_key : List ℕ → Token → ClauseWord → Bool
is_key source t k = has_kind t kind.Word && str_eq_ignore_ascii_case (text_of source t) (key_text k)
