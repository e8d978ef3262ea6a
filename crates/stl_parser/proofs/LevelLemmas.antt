-- A declaration is read at the level of its place.
use Rattle.std.proofs.Common.{arith, ℕ, ◌≡◌, Bool, List, Option, Some}
use Rattle.stl_lexer.specs.declared.kinds.Token.{Token}
use Rattle.stl_lexer.specs.declared.kinds.TokenKind.{TokenKind}
use Rattle.stl_ast.specs.declared.declarations.Declaration.{Declaration}
use Rattle.stl_parser.specs.declared.clauses.Clause.{Clause}
use Rattle.stl_parser.specs.declared.clauses.Clause.TheVariants as clause
use Rattle.stl_parser.specs.declared.places.ClausePlace.{ClausePlace}
use Rattle.stl_parser.specs.declared.tables.HeadWord.{HeadWord}
use Rattle.stl_parser.specs.declared.tables.Keyword.{Keyword}
use Rattle.stl_parser.specs.Declarations.{structure_at, declaration_of}
use Rattle.stl_parser.specs.Clauses.{level_at, head_clause, inner_end, structure_end, keyword_clause, head_word_clause, base_block_at, structure_clause, declaration_clause, statement_clause, setting_clause, inside_clause, semicolon_clause, plain_clause, other_clause, free_word_clause, word_clause, clause_by_kind, clause_at}

-- a declaration stands at this level
abbrev pub IsAt : ℕ → Clause → Type 0
IsAt level (clause.Declares d) = d.level ≡ level
IsAt level _ = Unit {0}

structure_level : (source : List ℕ) (level : ℕ) (tokens : List Token) (r : Declaration × List Token) →
    structure_at source level tokens ≡ Some r → r.0.level ≡ level
unfolding structure_at
structure_level source level tokens r h = grind arith

declaration_level : (source : List ℕ) (level : ℕ) (tokens : List Token) (d : Declaration) →
    declaration_of source level tokens ≡ Some d → d.level ≡ level
unfolding declaration_of
declaration_level source level tokens d h = grind arith

structure_clause_level : (source : List ℕ) (p : ClausePlace) (tokens : List Token) (d : Declaration) (rest : List Token) (long : Bool) →
    structure_clause source p tokens ≡ Some (clause.Declares d, rest, long) → d.level ≡ level_at p
unfolding structure_clause
structure_clause_level source p tokens d rest long h = grind (arith, structure_level)

declaration_clause_level : (source : List ℕ) (p : ClausePlace) (tokens : List Token) (r : Clause × Bool) (d : Declaration) →
    declaration_clause source p tokens ≡ Some r → r.0 ≡ clause.Declares d → d.level ≡ level_at p
unfolding declaration_clause
declaration_clause_level source p tokens r d h e = grind (arith, declaration_level)

inside_level : (source : List ℕ) (p : ClausePlace) (line : ℕ) (tokens : List Token) (r : Clause × Bool) (d : Declaration) →
    inside_clause source p line tokens ≡ Some r → r.0 ≡ clause.Declares d → d.level ≡ level_at p
unfolding inside_clause statement_clause setting_clause
inside_level source p line tokens r d h e = grind (arith, declaration_clause_level)

semicolon_level : (source : List ℕ) (p : ClausePlace) (line : ℕ) (tokens : List Token) (d : Declaration) (rest : List Token) (long : Bool) →
    semicolon_clause source p line tokens ≡ Some (clause.Declares d, rest, long) → d.level ≡ level_at p
unfolding semicolon_clause
semicolon_level source p line tokens d rest long h = grind (arith, inside_level)

plain_level : (source : List ℕ) (p : ClausePlace) (line : ℕ) (tokens : List Token) (d : Declaration) (rest : List Token) (long : Bool) →
    plain_clause source p line tokens ≡ Some (clause.Declares d, rest, long) → d.level ≡ level_at p
unfolding plain_clause
plain_level source p line tokens d rest long h = grind (arith, structure_clause_level, semicolon_level)

other_level : (source : List ℕ) (p : ClausePlace) (line : ℕ) (tokens : List Token) (d : Declaration) (rest : List Token) (long : Bool) →
    other_clause source p line tokens ≡ Some (clause.Declares d, rest, long) → d.level ≡ level_at p
unfolding other_clause base_block_at
other_level source p line tokens d rest long h = grind (arith, plain_level)

keyword_is_other : (source : List ℕ) (p : ClausePlace) (line : ℕ) (k : Keyword) (tokens : List Token) (d : Declaration) (rest : List Token) (long : Bool) →
    keyword_clause source p line k tokens ≡ Some (clause.Declares d, rest, long) → ⊥
unfolding keyword_clause head_clause structure_end inner_end
keyword_is_other source p line k tokens d rest long h = grind arith

free_word_level : (source : List ℕ) (p : ClausePlace) (t : Token) (more tokens : List Token) (w : Option HeadWord) (d : Declaration)
    (rest : List Token) (long : Bool) → free_word_clause source p t more tokens w ≡ Some (clause.Declares d, rest, long) → d.level ≡ level_at p
unfolding free_word_clause head_word_clause
free_word_level source p t more tokens w d rest long h = grind (arith, other_level)

word_level : (source : List ℕ) (p : ClausePlace) (t : Token) (more tokens : List Token) (k : Option Keyword) (d : Declaration)
    (rest : List Token) (long : Bool) → word_clause source p t more tokens k ≡ Some (clause.Declares d, rest, long) → d.level ≡ level_at p
unfolding word_clause
word_level source p t more tokens k d rest long h = grind (arith, free_word_level, keyword_is_other)

kind_level : (source : List ℕ) (p : ClausePlace) (t : Token) (more tokens : List Token) (k : TokenKind) (d : Declaration)
    (rest : List Token) (long : Bool) → clause_by_kind source p t more tokens k ≡ Some (clause.Declares d, rest, long) → d.level ≡ level_at p
unfolding clause_by_kind
kind_level source p t more tokens k d rest long h = grind (arith, word_level, other_level)

-- a declaration is read at the level of its place
pub read_level : (source : List ℕ) (p : ClausePlace) (tokens : List Token) (d : Declaration) (rest : List Token) (long : Bool) →
    clause_at source p tokens ≡ Some (clause.Declares d, rest, long) → d.level ≡ level_at p
unfolding clause_at
read_level source p tokens d rest long h = grind (arith, kind_level)
