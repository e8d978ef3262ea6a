-- A declaration of an elementary variable takes two tokens at least.
use Rattle.std.proofs.Common.{arith, ℕ, ◌+◌, ◌≡◌, ◌≤◌, ◌<◌, Bool, List, [], ◌∷◌, length, Option, Some, None, refl}
use Rattle.std.specs.Prelude.{◌&&◌, not, nat_lt, take, drop}
use Rattle.std.specs.Option.{IfSome}
use Rattle.std.specs.List.{position_or_len}
use Rattle.std.proofs.lemmas.List.{length-drop, length-take}
use Rattle.std.proofs.lemmas.Bool.{ltb-true}
use Rattle.plc_base.specs.declared.blocks.BlockKind.{BlockKind}
use Rattle.stl_lexer.specs.Tokens.{text_of}
use Rattle.stl_lexer.specs.declared.kinds.Token.{Token}
use Rattle.stl_lexer.specs.declared.kinds.TokenKind.{TokenKind}
use Rattle.stl_lexer.specs.declared.kinds.TokenKind.TheVariants as kind
use Rattle.stl_lexer.specs.declared.marks.Mark.TheVariants as mark
use Rattle.stl_ast.specs.Declarations.{is_elementary}
use Rattle.stl_ast.specs.declared.declarations.ElementType.{ElementType}
use Rattle.stl_ast.specs.declared.declarations.ElementType.TheVariants as element
use Rattle.stl_parser.specs.declared.clauses.Clause.{Clause}
use Rattle.stl_parser.specs.declared.places.ClausePlace.{ClausePlace}
use Rattle.stl_parser.specs.declared.tables.HeadWord.{HeadWord}
use Rattle.stl_parser.specs.declared.tables.Keyword.{Keyword}
use Rattle.stl_parser.specs.Addresses.{block_at}
use Rattle.stl_parser.specs.Declarations.{after_struct, declaration_of, declared_name_at, structure_at}
use Rattle.stl_parser.specs.Statements.{statement_of}
use Rattle.stl_parser.specs.Tables.{head_words, keywords, look_up}
use Rattle.stl_parser.specs.Terminals.{is_mark}
use Rattle.stl_parser.specs.Types.{arrays_at}
use Rattle.stl_parser.specs.declared.clauses.Clause.TheVariants as clause
use Rattle.stl_parser.specs.declared.places.ClausePlace.TheVariants as place
use Rattle.stl_parser.specs.declared.tables.Keyword.TheVariants as keyword
use Rattle.stl_parser.specs.Clauses as spec
use Rattle.stl_parser.proofs.OptionLemmas.{both, chain_holds, either, else_holds, map_holds, none_holds, then_holds}

-- what a declaration of such a type owes
abbrev pub Owes : ElementType → Type 0 → Type 0
Owes (element.Plain kind) P = P
Owes _ P = Unit {0}

owes_any : (e : ElementType) (P : Type 0) → P → Owes e P
owes_any (element.Plain kind) P h = h
owes_any _ P h = tt

-- of n tokens `left` are behind the clause
abbrev pub Takes : ℕ → Clause → ℕ → Type 0
Takes n (clause.Declares d) left = Owes d.of.of (left + 2 ≤ n)
Takes n _ left = Unit {0}

abbrev pub IsTaken : ℕ → Clause × List Token × Bool → Type 0
IsTaken n r = Takes n r.0 (length r.1)

head_takes : (source : List ℕ) (line : ℕ) (k : BlockKind) (tokens : List Token) (n : ℕ)
    → IfSome (spec.head_clause source line k tokens) (IsTaken n)
unfolding spec.head_clause
head_takes source line k tokens n =
    chain_holds (spec.block_of_kind_at source k tokens) _ (λ b. Unit {0}) (IsTaken n)
    (none_holds (spec.block_of_kind_at source k tokens))
    (λ b h. map_holds (spec.result_at source k b.1) _ (λ r. Unit {0}) (IsTaken n)
    (none_holds (spec.result_at source k b.1)) (λ r l. tt))

inner_end_takes : (source : List ℕ) (tokens : List Token) (n : ℕ)
    → IfSome (spec.inner_end source tokens) (IsTaken n)
unfolding spec.inner_end
inner_end_takes source [] n = tt
inner_end_takes source (t ∷ rest) n =
    then_holds (is_mark source t mark.Semicolon) _ (IsTaken n) (λ test. tt)

structure_end_takes : (source : List ℕ) (p : ClausePlace) (tokens : List Token) (n : ℕ)
    → IfSome (spec.structure_end source p tokens) (IsTaken n)
unfolding spec.structure_end
structure_end_takes source p tokens n =
    both (nat_lt 0 (spec.level_at p)) _ _ (IsTaken n) (inner_end_takes source tokens n) tt

keyword_takes : (source : List ℕ) (p : ClausePlace) (line : ℕ) (k : Keyword) (rest : List Token)
    (n : ℕ) → IfSome (spec.keyword_clause source p line k rest) (IsTaken n)
unfolding spec.keyword_clause
keyword_takes source p line (keyword.Opens k) rest n = head_takes source line k rest n
keyword_takes source p line keyword.EndStructure rest n = structure_end_takes source p rest n
keyword_takes source p line _ rest n = tt

head_word_takes : (source : List ℕ) (p : ClausePlace) (w : HeadWord) (rest : List Token) (n : ℕ)
    → IfSome (spec.head_word_clause source p w rest) (IsTaken n)
unfolding spec.head_word_clause
head_word_takes source p w rest n =
    map_holds (spec.head_word_at source w rest) _ (λ r. Unit {0}) (IsTaken n)
    (none_holds (spec.head_word_at source w rest)) (λ r h. tt)

based_takes : (source : List ℕ) (tokens : List Token) (n : ℕ)
    → IfSome (spec.base_block_at source tokens) (IsTaken n)
unfolding spec.base_block_at
based_takes source tokens n =
    chain_holds (block_at source tokens) _ (λ r. Unit {0}) (IsTaken n)
    (none_holds (block_at source tokens))
    (λ r h. then_holds (spec.is_base_block r.0) _ (IsTaken n) (λ test. tt))

-- a declaration that is all of these tokens
abbrev Insides : ℕ → Clause → Type 0
Insides n (clause.Declares d) = 1 ≤ n
Insides n _ = Unit {0}

abbrev IsTakenInside : ℕ → Clause × Bool → Type 0
IsTakenInside n c = Insides n c.0

no_declaration : (source : List ℕ) (level : ℕ) → declaration_of source level [] ≡ None
unfolding declaration_of declared_name_at
no_declaration source level = refl

declaration_takes : (source : List ℕ) (p : ClausePlace) (tokens : List Token)
    → IfSome (spec.declaration_clause source p tokens) (IsTakenInside (length tokens))
unfolding spec.declaration_clause
declaration_takes source p [] = rw (no_declaration source (spec.level_at p)) tt
declaration_takes source p (t ∷ tokens) =
    chain_holds (declaration_of source (spec.level_at p) (t ∷ tokens)) _ (λ d. Unit {0})
    (IsTakenInside (length (t ∷ tokens)))
    (none_holds (declaration_of source (spec.level_at p) (t ∷ tokens)))
    (λ d h. else_holds (spec.takes_parameters p && not (is_elementary d)) _
    (IsTakenInside (length (t ∷ tokens))) (λ test. omega arith))

statement_takes : (source : List ℕ) (line : ℕ) (tokens : List Token) (n : ℕ)
    → IfSome (spec.statement_clause source line tokens) (IsTakenInside n)
unfolding spec.statement_clause
statement_takes source line tokens n =
    map_holds (statement_of source line tokens) _ (λ r. Unit {0}) (IsTakenInside n)
    (none_holds (statement_of source line tokens)) (λ r h. tt)

setting_takes : (source : List ℕ) (line : ℕ) (tokens : List Token) (n : ℕ)
    → IfSome (spec.setting_clause source line tokens) (IsTakenInside n)
unfolding spec.setting_clause
setting_takes source line tokens n =
    map_holds (spec.setting_of source line tokens) _ (λ r. Unit {0}) (IsTakenInside n)
    (none_holds (spec.setting_of source line tokens)) (λ r h. tt)

inside_takes : (source : List ℕ) (p : ClausePlace) (line : ℕ) (tokens : List Token)
    → IfSome (spec.inside_clause source p line tokens) (IsTakenInside (length tokens))
unfolding spec.inside_clause
inside_takes source p line tokens =
    either (spec.declaration_clause source p tokens) _ (IsTakenInside (length tokens))
    (declaration_takes source p tokens)
    (either (spec.statement_clause source line tokens) _ (IsTakenInside (length tokens))
    (statement_takes source line tokens (length tokens))
    (setting_takes source line tokens (length tokens)))

place_takes : (source : List ℕ) (tokens : List Token)
    → IfSome (spec.semicolon_place source tokens) (λ n. n < length tokens)
unfolding spec.semicolon_place
place_takes source tokens =
    let place = position_or_len (λ t. is_mark source t mark.Semicolon) tokens in
    then_holds (nat_lt place (length tokens)) _ (λ n. n < length tokens)
    (λ test. ltb-true place (length tokens) test)

cut_lengths : (n : ℕ) (tokens : List Token) → n < length tokens
    → length (take n tokens) + 1 + length (drop (n + 1) tokens) ≤ length tokens
cut_lengths n tokens within =
    omega (arith, within, length-take n tokens, length-drop (n + 1) tokens)

cut_takes : (source : List ℕ) (tokens : List Token)
    → IfSome (spec.until_semicolon source tokens)
    (λ cut. length cut.0 + 1 + length cut.1 ≤ length tokens)
unfolding spec.until_semicolon
cut_takes source tokens =
    map_holds (spec.semicolon_place source tokens) _ (λ n. n < length tokens)
    (λ cut. length cut.0 + 1 + length cut.1 ≤ length tokens)
    (place_takes source tokens) (λ n within. cut_lengths n tokens within)

takes_with : (n inside left : ℕ) (c : Clause) → inside + 1 + left ≤ n → Insides inside c
    → Takes n c left
takes_with n inside left (clause.Declares d) all h = owes_any d.of.of _ (omega (arith, all, h))
takes_with n inside left _ all h = tt

semicolon_takes : (source : List ℕ) (p : ClausePlace) (line : ℕ) (tokens : List Token)
    → IfSome (spec.semicolon_clause source p line tokens) (IsTaken (length tokens))
unfolding spec.semicolon_clause
semicolon_takes source p line tokens =
    chain_holds (spec.until_semicolon source tokens) _
    (λ cut. length cut.0 + 1 + length cut.1 ≤ length tokens) (IsTaken (length tokens))
    (cut_takes source tokens)
    (λ cut all. map_holds (spec.inside_clause source p line cut.0) _ (IsTakenInside (length cut.0))
    (IsTaken (length tokens)) (inside_takes source p line cut.0)
    (λ c h. takes_with (length tokens) (length cut.0) (length cut.1) c.0 all h))

-- a structure opens
structure_takes : (source : List ℕ) (p : ClausePlace) (tokens : List Token) (n : ℕ)
    → IfSome (spec.structure_clause source p tokens) (IsTaken n)
unfolding spec.structure_clause structure_at
structure_takes source p tokens n =
    let level = spec.level_at p in
    else_holds (spec.takes_parameters p) _ (IsTaken n)
    (λ test. map_holds (structure_at source level tokens) _
    (λ r. Owes r.0.of.of (length r.1 + 2 ≤ n)) (IsTaken n)
    (chain_holds (declared_name_at source tokens) _ (λ d. Unit {0})
    (λ r. Owes r.0.of.of (length r.1 + 2 ≤ n)) (none_holds (declared_name_at source tokens))
    (λ d h. chain_holds (arrays_at source d.1) _ (λ a. Unit {0})
    (λ r. Owes r.0.of.of (length r.1 + 2 ≤ n)) (none_holds (arrays_at source d.1))
    (λ a k. map_holds (after_struct source a.1) _ (λ rest. Unit {0})
    (λ r. Owes r.0.of.of (length r.1 + 2 ≤ n)) (none_holds (after_struct source a.1))
    (λ rest l. tt))))
    (λ r h. h))

plain_takes : (source : List ℕ) (p : ClausePlace) (line : ℕ) (tokens : List Token)
    → IfSome (spec.plain_clause source p line tokens) (IsTaken (length tokens))
unfolding spec.plain_clause
plain_takes source p line tokens =
    either (spec.structure_clause source p tokens) _ (IsTaken (length tokens))
    (structure_takes source p tokens (length tokens)) (semicolon_takes source p line tokens)

other_takes : (source : List ℕ) (p : ClausePlace) (line : ℕ) (tokens : List Token)
    → IfSome (spec.other_clause source p line tokens) (IsTaken (length tokens))
unfolding spec.other_clause
other_takes source p line tokens =
    both (spec.in_data_head p) _ _ (IsTaken (length tokens))
    (either (spec.base_block_at source tokens) _ (IsTaken (length tokens))
    (based_takes source tokens (length tokens)) (plain_takes source p line tokens))
    (plain_takes source p line tokens)

free_word_takes : (source : List ℕ) (p : ClausePlace) (t : Token) (rest tokens : List Token)
    (w : Option HeadWord)
    → IfSome (spec.free_word_clause source p t rest tokens w) (IsTaken (length tokens))
unfolding spec.free_word_clause
free_word_takes source p t rest tokens (Some w) =
    both (spec.is_outer p) _ _ (IsTaken (length tokens))
    (head_word_takes source p w rest (length tokens)) (other_takes source p t.line tokens)
free_word_takes source p t rest tokens None = other_takes source p t.line tokens

word_takes : (source : List ℕ) (p : ClausePlace) (t : Token) (rest : List Token)
    (k : Option Keyword)
    → IfSome (spec.word_clause source p t rest (t ∷ rest) k) (IsTaken (length (t ∷ rest)))
unfolding spec.word_clause
word_takes source p t rest (Some k) = keyword_takes source p t.line k rest (length (t ∷ rest))
word_takes source p t rest None =
    free_word_takes source p t rest (t ∷ rest) (look_up head_words (text_of source t))

kind_takes : (source : List ℕ) (p : ClausePlace) (t : Token) (rest : List Token) (k : TokenKind)
    → IfSome (spec.clause_by_kind source p t rest (t ∷ rest) k) (IsTaken (length (t ∷ rest)))
unfolding spec.clause_by_kind
kind_takes source p t rest kind.Word =
    word_takes source p t rest (look_up keywords (text_of source t))
kind_takes source p t rest kind.Attribute = tt
kind_takes source p t rest kind.Title = tt
kind_takes source p t rest _ = other_takes source p t.line (t ∷ rest)

pub clause_takes : (source : List ℕ) (p : ClausePlace) (tokens : List Token)
    → IfSome (spec.clause_at source p tokens) (IsTaken (length tokens))
unfolding spec.clause_at
clause_takes source p [] = tt
clause_takes source p (t ∷ rest) = kind_takes source p t rest t.kind
