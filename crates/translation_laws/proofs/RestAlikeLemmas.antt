-- What follows a statement stands behind the first `;`.
use Rattle.std.proofs.Common.{ℕ, ◌+◌, ◌≡◌, Bool, true, false, List, ◌∷◌, take, drop, Option, Some, None, refl, sym, ◌∙◌}
use Rattle.std.specs.Option.{IfSome, option_map}
use Rattle.std.proofs.lemmas.Bool.{false≢true}
use Rattle.plc_base.specs.declared.blocks.BlockKind.{BlockKind}
use Rattle.stl_lexer.specs.declared.kinds.Token.{Token}
use Rattle.stl_lexer.specs.declared.kinds.TokenKind.{TokenKind}
use Rattle.stl_lexer.specs.declared.kinds.TokenKind.TheVariants as kind
use Rattle.stl_lexer.specs.Tokens.{text_of}
use Rattle.stl_ast.specs.declared.declarations.Declaration.{Declaration}
use Rattle.stl_ast.specs.declared.statements.Statement.{Statement}
use Rattle.stl_parser.specs.declared.clauses.Clause.{Clause}
use Rattle.stl_parser.specs.declared.clauses.Clause.TheVariants as clause
use Rattle.stl_parser.specs.declared.places.ClausePlace.TheVariants as at
use Rattle.stl_parser.specs.declared.tables.HeadWord.{HeadWord}
use Rattle.stl_parser.specs.declared.tables.Keyword.{Keyword}
use Rattle.stl_parser.specs.Clauses.{clause_at, clause_by_kind, free_word_clause, inside_clause, keyword_clause, other_clause, plain_clause, semicolon_clause, semicolon_place, structure_clause, until_semicolon, word_clause}
use Rattle.stl_parser.specs.Declarations.{structure_at}
use Rattle.stl_parser.specs.Tables.{head_words, keywords, look_up}
use Rattle.stl_parser.proofs.OptionLemmas.{chain_holds, either, search_holds, map_holds, none_holds, some_holds, weaker_holds}
use Rattle.translation_laws.proofs.CalmLemmas.{is_statement}
use Rattle.translation_laws.proofs.FrameAlikeLemmas.{key_no_statement}

-- the first `;` is there, and what follows stands behind it
abbrev pub IsRest : List ℕ → List Token → List Token → Type 0
IsRest s ts rest = (n : ℕ) × (semicolon_place s ts ≡ Some n) × (rest ≡ drop (n + 1) ts)

module _ (s : List ℕ) (k : BlockKind) where
  -- so it is where the clause is a statement
  abbrev EndsAt : List Token → Clause × List Token × Bool → Type 0
  EndsAt ts r = is_statement r.0 ≡ true → IsRest s ts r.1

  semicolon_ends : (line : ℕ) (ts : List Token) → IfSome (semicolon_clause s (at.Body k) line ts) (EndsAt ts)
  unfolding semicolon_clause until_semicolon
  semicolon_ends line ts =
      chain_holds (option_map (λ n. (take n ts, drop (n + 1) ts)) (semicolon_place s ts)) (λ cut. option_map (λ c. (c.0, cut.1, c.1)) (inside_clause s (at.Body k) line cut.0))
      (λ cut. IsRest s ts cut.1) (EndsAt ts)
      (map_holds (semicolon_place s ts) (λ n. (take n ts, drop (n + 1) ts)) (λ n. semicolon_place s ts ≡ Some n) (λ cut. IsRest s ts cut.1)
      (search_holds (semicolon_place s ts) (λ n. semicolon_place s ts ≡ Some n) (λ n is. is)) (λ n is. (n, is, refl)))
      (λ cut there. map_holds (inside_clause s (at.Body k) line cut.0) (λ c. (c.0, cut.1, c.1)) (λ c. Unit {0}) (EndsAt ts) (none_holds (inside_clause s (at.Body k) line cut.0))
      (λ c h is. there))

  plain_ends : (line : ℕ) (ts : List Token) → IfSome (plain_clause s (at.Body k) line ts) (EndsAt ts)
  unfolding plain_clause structure_clause
  plain_ends line ts =
      either (option_map opened (structure_at s 0 ts)) (semicolon_clause s (at.Body k) line ts) (EndsAt ts)
      (map_holds (structure_at s 0 ts) opened (λ d. Unit {0}) (EndsAt ts) (none_holds (structure_at s 0 ts)) (λ d h is. absurd (false≢true is)))
      (semicolon_ends line ts)
    where
      opened : Declaration × List Token → Clause × List Token × Bool
      opened d = (clause.Declares d.0, d.1, false)

  other_ends : (line : ℕ) (ts : List Token) → IfSome (other_clause s (at.Body k) line ts) (EndsAt ts)
  unfolding other_clause
  other_ends line ts = plain_ends line ts

  free_ends : (t : Token) (ts : List Token) (o : Option HeadWord) → IfSome (free_word_clause s (at.Body k) t ts (t ∷ ts) o) (EndsAt (t ∷ ts))
  unfolding free_word_clause
  free_ends t ts None = other_ends t.line (t ∷ ts)
  free_ends t ts (Some w) = other_ends t.line (t ∷ ts)

  word_ends : (t : Token) (ts : List Token) (o : Option Keyword) → IfSome (word_clause s (at.Body k) t ts (t ∷ ts) o) (EndsAt (t ∷ ts))
  unfolding word_clause
  word_ends t ts (Some j) =
      weaker_holds (keyword_clause s (at.Body k) t.line j ts) (λ r. is_statement r.0 ≡ false) (EndsAt (t ∷ ts)) (key_no_statement s (at.Body k) t.line j ts)
      (λ r none is. absurd (false≢true (sym none ∙ is)))
  word_ends t ts None = free_ends t ts (look_up head_words (text_of s t))

  kind_ends : (t : Token) (ts : List Token) (j : TokenKind) → IfSome (clause_by_kind s (at.Body k) t ts (t ∷ ts) j) (EndsAt (t ∷ ts))
  unfolding clause_by_kind
  kind_ends t ts kind.Word = word_ends t ts (look_up keywords (text_of s t))
  kind_ends t ts kind.Attribute = λ is. absurd (false≢true is)
  kind_ends t ts kind.Title = λ is. absurd (false≢true is)
  kind_ends t ts _ = other_ends t.line (t ∷ ts)

  clause_ends : (t : Token) (ts : List Token) → IfSome (clause_at s (at.Body k) (t ∷ ts)) (EndsAt (t ∷ ts))
  unfolding clause_at
  clause_ends t ts = kind_ends t ts t.kind

pub body_rest : (s : List ℕ) (k : BlockKind) (t : Token) (ts : List Token) (y : Statement) (rest : List Token) (long : Bool)
    → clause_at s (at.Body k) (t ∷ ts) ≡ Some (clause.Runs y, rest, long)
    → (n : ℕ) × (semicolon_place s (t ∷ ts) ≡ Some n) × (rest ≡ drop (n + 1) (t ∷ ts))
body_rest s k t ts y rest long e =
    some_holds (clause_at s (at.Body k) (t ∷ ts)) (clause.Runs y, rest, long) (EndsAt s k (t ∷ ts)) e (clause_ends s k t ts) refl
