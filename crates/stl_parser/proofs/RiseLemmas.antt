-- The lines of statements rise as those of tokens do: a clause has the line of its first token, and what
-- follows it is the end of the tokens.
use Rattle.std.proofs.Common.{arith, ℕ, ◌≡◌, ◌≤◌, ◌+◌, zero, suc, Bool, true, false, cond, List, [], ◌∷◌, ◌++◌, length, map, take, drop, filter, flat_map, Option, Some, None, ℤ, if◌then◌else◌, refl, sym, ap, subst, ◌∙◌, append_assoc}
use Rattle.std.specs.Prelude.{◌&&◌, not, nat_lt}
use Rattle.std.specs.Option.{option_map, option_or, IfSome}
use Rattle.std.specs.List.{AllByRecursion}
use Rattle.plc_base.specs.Decimal.{decimal_up_to}
use Rattle.plc_base.specs.declared.blocks.BlockKind.{BlockKind}
use Rattle.plc_base.specs.declared.blocks.BlockKind.TheVariants as kinds
use Rattle.stl_lexer.specs.Gap.{line_at}
use Rattle.stl_lexer.specs.Limits.{greatest_number}
use Rattle.stl_lexer.specs.Tokens.{TokensFollow, IsEndOfTokens, AreTokens, is_minus, text_of}
use Rattle.stl_lexer.specs.declared.kinds.Token.{Token}
use Rattle.stl_lexer.specs.declared.kinds.TokenKind.{TokenKind}
use Rattle.stl_lexer.specs.declared.kinds.TokenKind.TheVariants as kind
use Rattle.stl_lexer.specs.declared.marks.Mark.TheVariants as mark
use Rattle.stl_lexer.proofs.LineLemmas.{line_at_end, line_at_limit}
use Rattle.stl_ast.specs.Declarations.{is_elementary}
use Rattle.stl_ast.specs.declared.blocks.Block.{Block}
use Rattle.stl_ast.specs.declared.blocks.Part.{Part}
use Rattle.stl_ast.specs.declared.blocks.Setting.{Setting}
use Rattle.stl_ast.specs.declared.blocks.Tree.{Tree}
use Rattle.stl_ast.specs.declared.declarations.Bounds.{Bounds}
use Rattle.stl_ast.specs.declared.declarations.Declaration.{Declaration}
use Rattle.stl_ast.specs.declared.declarations.ElementType.{ElementType}
use Rattle.stl_ast.specs.declared.declarations.ElementType.TheVariants as element
use Rattle.stl_ast.specs.declared.declarations.TypeTree.{TypeTree}
use Rattle.stl_ast.specs.declared.names.BlockName.{BlockName}
use Rattle.stl_ast.specs.declared.statements.Statement.{Statement}
use Rattle.stl_parser.specs.declared.clauses.Clause.{Clause}
use Rattle.stl_parser.specs.declared.clauses.Clause.TheVariants as clause
use Rattle.stl_parser.specs.declared.keywords.ClauseWord.TheVariants as key
use Rattle.stl_parser.specs.declared.places.ClausePlace.{ClausePlace}
use Rattle.stl_parser.specs.declared.places.ClausePlace.TheVariants as place
use Rattle.stl_parser.specs.declared.tables.HeadWord.{HeadWord}
use Rattle.stl_parser.specs.declared.tables.HeadWord.TheVariants as head_word
use Rattle.stl_parser.specs.declared.tables.Keyword.{Keyword}
use Rattle.stl_parser.specs.declared.tables.Keyword.TheVariants as keyword
use Rattle.stl_parser.specs.Addresses.{glued_letters_and_number, separate_letters_and_number, letters_and_number_at, block_number_at, quoted_block_at, block_at, letter_count}
use Rattle.stl_parser.specs.Clauses.{skip_semicolon, until_semicolon, behind_note, block_of_kind_at, result_type, result_at, head_clause, inner_end, structure_end, keyword_clause, version_at, colon_and_word_at, head_word_at, head_word_clause, base_block_at, structure_clause, declaration_clause, statement_clause, setting_clause, inside_clause, semicolon_clause, plain_clause, other_clause, free_word_clause, word_clause, clause_by_kind, clause_at, takes_parameters, level_at, is_base_block, setting_of}
use Rattle.stl_parser.specs.Declarations.{after_attribute, after_colon, declared_name_at, after_struct, structure_at}
use Rattle.stl_parser.specs.Lines.{AreRisingLines, statement_lines_of, LinesRise, LinesRiseAcross}
use Rattle.stl_parser.specs.Numbers.{signed_number_at, int_at, number_of_token}
use Rattle.stl_parser.specs.Tables.{look_up}
use Rattle.stl_parser.specs.Parts.{parts_from}
use Rattle.stl_parser.specs.Source.{IsTree, ReadsClauses}
use Rattle.stl_parser.specs.Spelling.{is_kept_by_tree, is_udt, unspelled_clauses, spelled_part, spelled_type, spelled_shape, spelled_block}
use Rattle.stl_parser.specs.Statements.{labelled_statement, unlabelled_statement, statement_of}
use Rattle.stl_parser.specs.Terminals.{has_kind, is_mark, is_key}
use Rattle.stl_parser.specs.Types.{array_end, array_high, array_at, arrays_end, arrays_at, no_array}
use Rattle.stl_parser.proofs.FrameLemmas.{right_clause}
use Rattle.stl_parser.proofs.OptionLemmas.{map_holds, chain_holds, either, both, then_holds, none_holds, some_holds, else_holds}

-- a clause that has a line has this one
abbrev ClauseIsOnLine : ℕ → Clause → Type 0
ClauseIsOnLine n (clause.Ends line k) = line ≡ n
ClauseIsOnLine n (clause.Runs s) = s.line ≡ n
ClauseIsOnLine n _ = Unit {0}

abbrev FirstIsOnLine : ℕ → Clause × Bool → Type 0
FirstIsOnLine n r = ClauseIsOnLine n r.0

statement_line : (source : List ℕ) (line : ℕ) (tokens : List Token) → IfSome (statement_of source line tokens) (λ r. r.0.line ≡ line)
unfolding statement_of labelled_statement unlabelled_statement
statement_line source line [] = refl
statement_line source line (w ∷ []) = map_holds _ _ (λ i. Unit {0}) (λ r. r.0.line ≡ line) (none_holds _) (λ i h. refl)
statement_line source line (w ∷ colon ∷ rest) =
    both (has_kind w kind.Word && is_mark source colon mark.Colon) (labelled_statement source line w rest) (unlabelled_statement source line (w ∷ colon ∷ rest)) (λ r. r.0.line ≡ line)
    (map_holds _ _ (λ i. Unit {0}) (λ r. r.0.line ≡ line) (none_holds _) (λ i h. refl))
    (map_holds _ _ (λ i. Unit {0}) (λ r. r.0.line ≡ line) (none_holds _) (λ i h. refl))

inside_line : (source : List ℕ) (p : ClausePlace) (line : ℕ) (inside : List Token) → IfSome (inside_clause source p line inside) (FirstIsOnLine line)
unfolding inside_clause declaration_clause statement_clause setting_clause
inside_line source p line inside =
    either (declaration_clause source p inside) (option_or (statement_clause source line inside) (setting_clause source line inside)) (FirstIsOnLine line)
    (chain_holds _ _ (λ d. Unit {0}) (FirstIsOnLine line) (none_holds _) (λ d h. else_holds (takes_parameters p && not (is_elementary d)) (Some (clause.Declares d, false)) (FirstIsOnLine line) (λ t. tt)))
    (either (statement_clause source line inside) (setting_clause source line inside) (FirstIsOnLine line)
    (map_holds (statement_of source line inside) _ (λ r. r.0.line ≡ line) (FirstIsOnLine line) (statement_line source line inside) (λ r h. h))
    (map_holds (setting_of source line inside) (λ s. (clause.Sets s, false)) (λ s. Unit {0}) (FirstIsOnLine line) (none_holds (setting_of source line inside)) (λ s h. tt)))

-- what holds of tokens and of the end of any such holds of what follows a clause
module _ (P : List Token → Type 0) (closed : (t : Token) (ts : List Token) → P (t ∷ ts) → P ts) where
  dropped : (n : ℕ) (ts : List Token) → P ts → P (drop n ts)
  dropped zero ts h = h
  dropped (suc n) [] h = h
  dropped (suc n) (t ∷ ts) h = dropped n ts (closed t ts h)

  -- of what follows
  abbrev Behind : {X : Type 0} → X × List Token → Type 0
  Behind r = P r.1

  abbrev Third : {X : Type 0} → X × ℕ × List Token → Type 0
  Third r = P r.2

  glued : {X : Type 0} (table : List (List ℕ × X)) (text : List ℕ) (rest : List Token) → P rest → IfSome (glued_letters_and_number table text rest) Third
  unfolding glued_letters_and_number
  glued {X = X} table text rest h =
      let letters = look_up table (take (letter_count text) text) in
      let digits = decimal_up_to (greatest_number false) (drop (letter_count text) text) in
      chain_holds letters _ (λ x. Unit {0}) (Third {X = X}) (none_holds letters)
      (λ x k. map_holds digits (λ n. (x, n, rest)) (λ n. Unit {0}) (Third {X = X}) (none_holds digits) (λ n l. h))

  separate : {X : Type 0} (table : List (List ℕ × X)) (source text : List ℕ) (rest : List Token) → P rest → IfSome (separate_letters_and_number table source text rest) Third
  unfolding separate_letters_and_number
  separate table source text [] h = tt
  separate {X = X} table source text (n ∷ rest) h =
      let letters = look_up table text in
      chain_holds letters _ (λ x. Unit {0}) (Third {X = X}) (none_holds letters)
      (λ x k. map_holds (number_of_token source n) (λ m. (x, m, rest)) (λ m. Unit {0}) (Third {X = X}) (none_holds (number_of_token source n)) (λ m l. closed n rest h))

  numbered : {X : Type 0} (table : List (List ℕ × X)) (source : List ℕ) (tokens : List Token) → P tokens → IfSome (letters_and_number_at table source tokens) Third
  unfolding letters_and_number_at
  numbered table source [] h = tt
  numbered table source (w ∷ rest) h =
      then_holds (has_kind w kind.Word) _ Third
      (λ is. either (glued_letters_and_number table (text_of source w) rest) (separate_letters_and_number table source (text_of source w) rest) Third
      (glued table (text_of source w) rest (closed w rest h)) (separate table source (text_of source w) rest (closed w rest h)))

  quoted : (source : List ℕ) (tokens : List Token) → P tokens → IfSome (quoted_block_at source tokens) Behind
  unfolding quoted_block_at
  quoted source [] h = tt
  quoted source (t ∷ rest) h = then_holds (has_kind t kind.Quoted) _ Behind (λ is. closed t rest h)

  block : (source : List ℕ) (tokens : List Token) → P tokens → IfSome (block_at source tokens) Behind
  unfolding block_at block_number_at
  block source tokens h =
      either _ (quoted_block_at source tokens) Behind
      (map_holds (block_number_at source tokens) _ Third Behind (numbered _ source tokens h) (λ r k. k)) (quoted source tokens h)

  named : (source : List ℕ) (k : BlockKind) (tokens : List Token) → P tokens → IfSome (block_of_kind_at source k tokens) Behind
  unfolding block_of_kind_at
  named source k tokens h =
      chain_holds (block_at source tokens) _ Behind Behind (block source tokens h) (λ r i. then_holds _ (Some r) Behind (λ is. i))

  colon : (source : List ℕ) (tokens : List Token) → P tokens → IfSome (after_colon source tokens) P
  unfolding after_colon
  colon source [] h = tt
  colon source (t ∷ rest) h = then_holds (is_mark source t mark.Colon) (Some rest) P (λ is. closed t rest h)

  type_behind : (source : List ℕ) (tokens : List Token) → P tokens → IfSome (result_type source tokens) Behind
  unfolding result_type
  type_behind source [] h = tt
  type_behind source (t ∷ rest) h =
      both (is_key source t key.Void) (Some (None, rest)) _ Behind (closed t rest h)
      (map_holds _ _ (λ k. Unit {0}) Behind (none_holds _) (λ k i. closed t rest h))

  result : (source : List ℕ) (k : BlockKind) (tokens : List Token) → P tokens → IfSome (result_at source k tokens) Behind
  unfolding result_at
  result source kinds.Fc tokens h =
      chain_holds (after_colon source tokens) _ P Behind (colon source tokens h) (λ rest k. type_behind source rest k)
  result source _ tokens h = h

  semicolon_skipped : (source : List ℕ) (tokens : List Token) → P tokens → P (skip_semicolon source tokens)
  unfolding skip_semicolon
  semicolon_skipped source [] h = h
  semicolon_skipped source (t ∷ rest) h = by (is_mark source t mark.Semicolon)
    where
      by : (b : Bool) → P (cond b rest (t ∷ rest))
      by true = closed t rest h
      by false = h

  note : (source : List ℕ) (p : ClausePlace) (rest : List Token) → P rest → P (behind_note source p rest)
  unfolding behind_note
  note source p rest h = by _
    where
      by : (b : Bool) → P (cond b (skip_semicolon source rest) rest)
      by true = semicolon_skipped source rest h
      by false = h

  signed : (source : List ℕ) (sign : Token) (tokens : List Token) → P tokens → IfSome (signed_number_at source sign tokens) Behind
  unfolding signed_number_at
  signed source sign [] h = tt
  signed source sign (t ∷ rest) h =
      both (is_mark source sign mark.Minus) _ _ Behind (map_holds _ _ (λ n. Unit {0}) Behind (none_holds _) (λ n k. closed t rest h))
      (then_holds (is_mark source sign mark.Plus) _ Behind (λ is. map_holds _ _ (λ n. Unit {0}) Behind (none_holds _) (λ n k. closed t rest h)))

  int_behind : (source : List ℕ) (tokens : List Token) → P tokens → IfSome (int_at source tokens) Behind
  unfolding int_at
  int_behind source [] h = tt
  int_behind source (t ∷ rest) h =
      either _ (signed_number_at source t rest) Behind (map_holds _ _ (λ n. Unit {0}) Behind (none_holds _) (λ n k. closed t rest h))
      (signed source t rest (closed t rest h))

  array_ended : (source : List ℕ) (low high : ℤ) (tokens : List Token) → P tokens → IfSome (array_end source low high tokens) Behind
  unfolding array_end
  array_ended source low high [] h = tt
  array_ended source low high (a ∷ []) h = tt
  array_ended source low high (a ∷ b ∷ rest) h = then_holds (is_mark source a mark.CloseBracket && is_key source b key.Of) _ Behind (λ is. closed b rest (closed a (b ∷ rest) h))

  array_upper : (source : List ℕ) (low : ℤ) (tokens : List Token) → P tokens → IfSome (array_high source low tokens) Behind
  unfolding array_high
  array_upper source low [] h = tt
  array_upper source low (t ∷ rest) h =
      then_holds (is_mark source t mark.DotDot) _ Behind
      (λ is. chain_holds (int_at source rest) _ Behind Behind (int_behind source rest (closed t rest h)) (λ r k. array_ended source low r.0 r.1 k))

  array : (source : List ℕ) (tokens : List Token) → P tokens → IfSome (array_at source tokens) Behind
  unfolding array_at
  array source [] h = tt
  array source (a ∷ []) h = tt
  array source (a ∷ b ∷ rest) h =
      then_holds _ _ Behind
      (λ is. chain_holds (int_at source rest) _ Behind Behind (int_behind source rest (closed b rest (closed a (b ∷ rest) h)))
      (λ r k. array_upper source r.0 r.1 k))

  parts : {X : Type 0} (end : List Token → Option (List Token)) (part : List Token → Option (X × List Token)) (read : List X) (n : ℕ) (tokens : List Token)
      → ((ts : List Token) → P ts → IfSome (end ts) P) → ((ts : List Token) → P ts → IfSome (part ts) Behind) → P tokens
      → IfSome (parts_from end part read n tokens) Behind
  unfolding parts_from
  parts end part read zero tokens j k h = map_holds (end tokens) (λ y. (read, y)) P Behind (j tokens h) (λ y i. i)
  parts end part read (suc n) tokens j k h =
      either (option_map (λ y. (read, y)) (end tokens)) _ Behind (map_holds (end tokens) (λ y. (read, y)) P Behind (j tokens h) (λ y i. i))
      (chain_holds (part tokens) _ Behind Behind (k tokens h) (λ r i. parts end part (read ++ r.0 ∷ []) n r.1 j k i))

  arrays : (source : List ℕ) (tokens : List Token) → P tokens → IfSome (arrays_at source tokens) Behind
  unfolding arrays_at arrays_end
  arrays source tokens h = parts (arrays_end source) (array_at source) [] (length tokens) tokens ended (array source) h
    where
      none_more : (found : Option (Bounds × List Token)) (ts : List Token) → P ts → IfSome (no_array found ts) P
      none_more None ts h = h
      none_more (Some r) ts h = tt

      ended : (ts : List Token) → P ts → IfSome (arrays_end source ts) P
      ended ts h = none_more (array_at source ts) ts h

  attribute : (tokens : List Token) → P tokens → P (after_attribute tokens)
  unfolding after_attribute
  attribute [] h = h
  attribute (t ∷ rest) h = by (has_kind t kind.Attribute)
    where
      by : (b : Bool) → P (cond b rest (t ∷ rest))
      by true = closed t rest h
      by false = h

  declared : (source : List ℕ) (tokens : List Token) → P tokens → IfSome (declared_name_at source tokens) Behind
  unfolding declared_name_at
  declared source [] h = tt
  declared source (w ∷ rest) h =
      then_holds (has_kind w kind.Word) _ Behind
      (λ is. map_holds (after_colon source (after_attribute rest)) _ P Behind (colon source (after_attribute rest) (attribute rest (closed w rest h))) (λ y k. k))

  struct : (source : List ℕ) (tokens : List Token) → P tokens → IfSome (after_struct source tokens) P
  unfolding after_struct
  struct source [] h = tt
  struct source (t ∷ rest) h = then_holds (is_key source t key.Struct) (Some rest) P (λ is. closed t rest h)

  structure : (source : List ℕ) (level : ℕ) (tokens : List Token) → P tokens → IfSome (structure_at source level tokens) Behind
  unfolding structure_at
  structure source level tokens h =
      chain_holds (declared_name_at source tokens) _ Behind Behind (declared source tokens h)
      (λ d i. chain_holds (arrays_at source d.1) _ Behind Behind (arrays source d.1 i)
      (λ a j. map_holds (after_struct source a.1) _ P Behind (struct source a.1 j) (λ rest k. k)))

  until : (source : List ℕ) (tokens : List Token) → P tokens → IfSome (until_semicolon source tokens) Behind
  unfolding until_semicolon
  until source tokens h = map_holds _ _ (λ n. Unit {0}) Behind (none_holds _) (λ n k. dropped (n + 1) tokens h)

  head_word_behind : (source : List ℕ) (w : HeadWord) (tokens : List Token) → P tokens → IfSome (head_word_at source w tokens) P
  unfolding head_word_at version_at colon_and_word_at
  head_word_behind source head_word.Alone tokens h = h
  head_word_behind source head_word.Version [] h = tt
  head_word_behind source head_word.Version (a ∷ []) h = tt
  head_word_behind source head_word.Version (a ∷ b ∷ []) h = tt
  head_word_behind source head_word.Version (a ∷ b ∷ c ∷ []) h = tt
  head_word_behind source head_word.Version (a ∷ b ∷ c ∷ d ∷ rest) h =
      then_holds _ (Some rest) P (λ is. closed d rest (closed c (d ∷ rest) (closed b (c ∷ d ∷ rest) (closed a (b ∷ c ∷ d ∷ rest) h))))
  head_word_behind source head_word.Named [] h = tt
  head_word_behind source head_word.Named (a ∷ []) h = tt
  head_word_behind source head_word.Named (a ∷ b ∷ rest) h = then_holds _ (Some rest) P (λ is. closed b rest (closed a (b ∷ rest) h))

  -- a clause with this line, and what follows it
  abbrev IsRead : ℕ → Clause × List Token × Bool → Type 0
  IsRead n r = ClauseIsOnLine n r.0 × P r.1

  head : (n : ℕ) (source : List ℕ) (line : ℕ) (k : BlockKind) (tokens : List Token) → P tokens → IfSome (head_clause source line k tokens) (IsRead n)
  unfolding head_clause
  head n source line k tokens h =
      chain_holds (block_of_kind_at source k tokens) _ Behind (IsRead n) (named source k tokens h)
      (λ b i. map_holds (result_at source k b.1) _ Behind (IsRead n) (result source k b.1 i) (λ r j. (tt, j)))

  inner : (n : ℕ) (source : List ℕ) (tokens : List Token) → P tokens → IfSome (inner_end source tokens) (IsRead n)
  unfolding inner_end
  inner n source [] h = tt
  inner n source (t ∷ rest) h = then_holds (is_mark source t mark.Semicolon) (Some (clause.EndStructure, rest, false)) (IsRead n) (λ is. (tt, closed t rest h))

  structure_ended : (n : ℕ) (source : List ℕ) (p : ClausePlace) (tokens : List Token) → P tokens → IfSome (structure_end source p tokens) (IsRead n)
  unfolding structure_end
  structure_ended n source p tokens h = both (nat_lt 0 (level_at p)) (inner_end source tokens) (Some (clause.EndStructure, skip_semicolon source tokens, false)) (IsRead n) (inner n source tokens h) (tt, semicolon_skipped source tokens h)

  keyword_read : (source : List ℕ) (p : ClausePlace) (line : ℕ) (k : Keyword) (rest : List Token) → P rest → IfSome (keyword_clause source p line k rest) (IsRead line)
  unfolding keyword_clause
  keyword_read source p line (keyword.Opens k) rest h = head line source line k rest h
  keyword_read source p line (keyword.Ends k) rest h = (refl, h)
  keyword_read source p line (keyword.Section k) rest h = (tt, h)
  keyword_read source p line keyword.EndSection rest h = (tt, h)
  keyword_read source p line keyword.Begin rest h = (tt, h)
  keyword_read source p line keyword.Network rest h = (tt, h)
  keyword_read source p line keyword.Structure rest h = (tt, h)
  keyword_read source p line keyword.EndStructure rest h = structure_ended line source p rest h

  head_word_read : (n : ℕ) (source : List ℕ) (p : ClausePlace) (w : HeadWord) (rest : List Token) → P rest → IfSome (head_word_clause source p w rest) (IsRead n)
  unfolding head_word_clause
  head_word_read n source p w rest h =
      map_holds (head_word_at source w rest) _ P (IsRead n) (head_word_behind source w rest h) (λ behind k. (tt, note source p behind k))

  based : (n : ℕ) (source : List ℕ) (tokens : List Token) → P tokens → IfSome (base_block_at source tokens) (IsRead n)
  unfolding base_block_at
  based n source tokens h =
      chain_holds (block_at source tokens) _ Behind (IsRead n) (block source tokens h) (λ r k. then_holds (is_base_block r.0) (Some (clause.Based r.0, r.1, false)) (IsRead n) (λ is. (tt, k)))

  plain : (source : List ℕ) (p : ClausePlace) (line : ℕ) (tokens : List Token) → P tokens → IfSome (plain_clause source p line tokens) (IsRead line)
  unfolding plain_clause structure_clause semicolon_clause
  plain source p line tokens h =
      either (structure_clause source p tokens) (semicolon_clause source p line tokens) (IsRead line)
      (else_holds (takes_parameters p) (option_map to_clause (structure_at source (level_at p) tokens)) (IsRead line)
      (λ is. map_holds (structure_at source (level_at p) tokens) to_clause Behind (IsRead line) (structure source (level_at p) tokens h) (λ r k. (tt, k))))
      (chain_holds (until_semicolon source tokens) _ Behind (IsRead line) (until source tokens h)
      (λ cut k. map_holds (inside_clause source p line cut.0) _ (FirstIsOnLine line) (IsRead line) (inside_line source p line cut.0) (λ c i. (i, k))))
    where
      to_clause : Declaration × List Token → Clause × List Token × Bool
      to_clause r = (clause.Declares r.0, r.1, false)

  other : (source : List ℕ) (p : ClausePlace) (line : ℕ) (tokens : List Token) → P tokens → IfSome (other_clause source p line tokens) (IsRead line)
  unfolding other_clause
  other source p line tokens h =
      both _ _ _ (IsRead line)
      (either (base_block_at source tokens) (plain_clause source p line tokens) (IsRead line) (based line source tokens h) (plain source p line tokens h))
      (plain source p line tokens h)

  free_word : (source : List ℕ) (p : ClausePlace) (t : Token) (rest : List Token) (w : Option HeadWord) → P (t ∷ rest)
      → IfSome (free_word_clause source p t rest (t ∷ rest) w) (IsRead t.line)
  unfolding free_word_clause
  free_word source p t rest (Some w) h =
      both _ _ _ (IsRead t.line) (head_word_read t.line source p w rest (closed t rest h)) (other source p t.line (t ∷ rest) h)
  free_word source p t rest None h = other source p t.line (t ∷ rest) h

  word : (source : List ℕ) (p : ClausePlace) (t : Token) (rest : List Token) (k : Option Keyword) → P (t ∷ rest)
      → IfSome (word_clause source p t rest (t ∷ rest) k) (IsRead t.line)
  unfolding word_clause
  word source p t rest (Some k) h = keyword_read source p t.line k rest (closed t rest h)
  word source p t rest None h = free_word source p t rest _ h

  by_kind : (source : List ℕ) (p : ClausePlace) (t : Token) (rest : List Token) (k : TokenKind) → P (t ∷ rest)
      → IfSome (clause_by_kind source p t rest (t ∷ rest) k) (IsRead t.line)
  unfolding clause_by_kind
  by_kind source p t rest kind.Word h = word source p t rest _ h
  by_kind source p t rest kind.Attribute h = (tt, note source p rest (closed t rest h))
  by_kind source p t rest kind.Title h = (tt, note source p rest (closed t rest h))
  by_kind source p t rest _ h = other source p t.line (t ∷ rest) h

  read : (source : List ℕ) (p : ClausePlace) (t : Token) (rest : List Token) → P (t ∷ rest) → IfSome (clause_at source p (t ∷ rest)) (IsRead t.line)
  unfolding clause_at
  read source p t rest h = by_kind source p t rest t.kind h

-- ---- the lines of tokens rise

abbrev TokensRise : (last before : ℕ) → List Token → Type 0
TokensRise last before [] = Unit {0}
TokensRise last before (t ∷ ts) = (before ≤ t.line) × (t.line ≤ last) × TokensRise last t.line ts

tokens_lower : (last low before : ℕ) (ts : List Token) → low ≤ before → TokensRise last before ts → TokensRise last low ts
tokens_lower last low before [] le h = tt
tokens_lower last low before (t ∷ ts) le h = (omega (arith, le, h.0), h.1, h.2)

tokens_closed : (last before : ℕ) (t : Token) (ts : List Token) → TokensRise last before (t ∷ ts) → TokensRise last before ts
tokens_closed last before t ts h = tokens_lower last before t.line ts h.0 h.2

tokens_rise : (source : List ℕ) (from : ℕ) (minus : Bool) (ts : List Token) → TokensFollow source (λ from minus. IsEndOfTokens source from) from minus ts
    → TokensRise (1 + length source) (line_at source from) ts
tokens_rise source from minus [] h = tt
tokens_rise source from minus (t ∷ ts) h =
    let start = line_at_end source from t.start h.0.start.forward in
    let end = line_at_end source t.start t.end (omega (arith, h.0.forward)) in
    let line = h.0.line in (
      omega (arith, start, line),
      omega (arith, line, line_at_limit source t.start),
      tokens_lower (1 + length source) t.line (line_at source t.end) ts (omega (arith, end, line))
          (tokens_rise source t.end (is_minus t.kind (text_of source t)) ts h.1),
    )

-- ---- and those of clauses

abbrev clause_lines : List Clause → List ℕ
clause_lines [] = []
clause_lines (clause.Ends line k ∷ cs) = line ∷ clause_lines cs
clause_lines (clause.Runs s ∷ cs) = s.line ∷ clause_lines cs
clause_lines (c ∷ cs) = clause_lines cs

rises_lower : (last low before : ℕ) (xs : List ℕ) → low ≤ before → AreRisingLines last before xs → AreRisingLines last low xs
rises_lower last low before [] le h = tt
rises_lower last low before (x ∷ xs) le h = (omega (arith, le, h.0), h.1, h.2)

one_more : (last before line : ℕ) (c : Clause) (cs : List Clause) → before ≤ line → line ≤ last → ClauseIsOnLine line c → AreRisingLines last line (clause_lines cs)
    → AreRisingLines last before (clause_lines (c ∷ cs))
one_more last before line (clause.Ends n k) cs low high is more =
    (omega (arith, low, is), omega (arith, high, is), subst (λ (m : ℕ). AreRisingLines last m (clause_lines cs)) (sym is) more)
one_more last before line (clause.Runs s) cs low high is more =
    (omega (arith, low, is), omega (arith, high, is), subst (λ (m : ℕ). AreRisingLines last m (clause_lines cs)) (sym is) more)
one_more last before line (clause.Head n k name r) cs low high is more = rises_lower last before line (clause_lines cs) low more
one_more last before line (clause.Section n k) cs low high is more = rises_lower last before line (clause_lines cs) low more
one_more last before line clause.EndSection cs low high is more = rises_lower last before line (clause_lines cs) low more
one_more last before line clause.Begins cs low high is more = rises_lower last before line (clause_lines cs) low more
one_more last before line clause.Network cs low high is more = rises_lower last before line (clause_lines cs) low more
one_more last before line clause.Structure cs low high is more = rises_lower last before line (clause_lines cs) low more
one_more last before line clause.EndStructure cs low high is more = rises_lower last before line (clause_lines cs) low more
one_more last before line (clause.Based name) cs low high is more = rises_lower last before line (clause_lines cs) low more
one_more last before line clause.Note cs low high is more = rises_lower last before line (clause_lines cs) low more
one_more last before line clause.Title cs low high is more = rises_lower last before line (clause_lines cs) low more
one_more last before line (clause.Declares d) cs low high is more = rises_lower last before line (clause_lines cs) low more
one_more last before line (clause.Sets s) cs low high is more = rises_lower last before line (clause_lines cs) low more

nothing : (source : List ℕ) (p : ClausePlace) (c : Clause) (behind : List Token) → clause_at source p [] ≡ Some (c, behind, false) → ⊥
unfolding clause_at
nothing source p c behind e = cc

clauses_rise : (source : List ℕ) (last before : ℕ) (p : ClausePlace) (ts : List Token) (cs : List Clause) (q : ClausePlace) (rest : List Token)
    → ReadsClauses source p ts cs q rest → TokensRise last before ts → AreRisingLines last before (clause_lines cs)
clauses_rise source last before p ts [] q rest reads h = tt
clauses_rise source last before p [] (c ∷ cs) q rest reads h =
    absurd (nothing source p c reads.0 (right_clause source p [] c reads.0 reads.1 reads.2).0)
clauses_rise source last before p (t ∷ ts) (c ∷ cs) q rest reads h =
    let right = (right_clause source p (t ∷ ts) c reads.0 reads.1 reads.2).0 in
    let held = some_holds (clause_at source p (t ∷ ts)) (c, reads.0, false) (IsRead (TokensRise last t.line) (tokens_closed last t.line) t.line) right
    (read (TokensRise last t.line) (tokens_closed last t.line) source p t ts (omega arith, h.1, h.2)) in
    one_more last before t.line c cs h.0 h.1 held.0 (clauses_rise source last t.line reads.1 reads.0 cs q rest reads.3 held.1)

-- ---- and those of the clauses that a tree keeps

kept_lines : (cs : List Clause) → clause_lines (filter is_kept_by_tree cs) ≡ clause_lines cs
kept_lines [] = refl
kept_lines (clause.Ends n k ∷ cs) = ap (λ (ls : List ℕ). n ∷ ls) (kept_lines cs)
kept_lines (clause.Runs s ∷ cs) = ap (λ (ls : List ℕ). s.line ∷ ls) (kept_lines cs)
kept_lines (clause.Head n k name r ∷ cs) = kept_lines cs
kept_lines (clause.Section n k ∷ cs) = kept_lines cs
kept_lines (clause.EndSection ∷ cs) = kept_lines cs
kept_lines (clause.Begins ∷ cs) = kept_lines cs
kept_lines (clause.Network ∷ cs) = kept_lines cs
kept_lines (clause.Structure ∷ cs) = kept_lines cs
kept_lines (clause.EndStructure ∷ cs) = kept_lines cs
kept_lines (clause.Based name ∷ cs) = kept_lines cs
kept_lines (clause.Note ∷ cs) = kept_lines cs
kept_lines (clause.Title ∷ cs) = kept_lines cs
kept_lines (clause.Declares d ∷ cs) = kept_lines cs
kept_lines (clause.Sets s ∷ cs) = kept_lines cs

-- clauses without lines
abbrev AreSilent : List Clause → Type 0
AreSilent xs = (ys : List Clause) → clause_lines (xs ++ ys) ≡ clause_lines ys

declarations_silent : (ds : List Declaration) → AreSilent (map clause.Declares ds)
declarations_silent [] ys = refl
declarations_silent (d ∷ ds) ys = declarations_silent ds ys

settings_silent : (ss : List Setting) → AreSilent (map clause.Sets ss)
settings_silent [] ys = refl
settings_silent (s ∷ ss) ys = settings_silent ss ys

parts_silent : (ps : List Part) → AreSilent (flat_map spelled_part ps)
parts_silent [] ys = refl
parts_silent (p ∷ ps) ys =
    ap clause_lines (append_assoc (map clause.Declares p.items) (flat_map spelled_part ps) ys)
    ∙ declarations_silent p.items (flat_map spelled_part ps ++ ys) ∙ parts_silent ps ys

type_silent : (arrays : List Bounds) (of_ : ElementType) (ds : List Declaration) → AreSilent (spelled_type arrays of_ ds)
type_silent [] element.Structure ds ys = declarations_silent ds ys
type_silent [] (element.Udt name) [] ys = by (is_udt name)
  where
    by : (b : Bool) → clause_lines ((if b then clause.Based name ∷ [] else unspelled_clauses) ++ ys) ≡ clause_lines ys
    by true = refl
    by false = refl
type_silent [] (element.Udt name) (d ∷ ds) ys = refl
type_silent [] (element.Plain k) ds ys = refl
type_silent [] element.DateAndTime ds ys = refl
type_silent (b ∷ bs) of_ ds ys = refl

shape_silent : (of_ : Option TypeTree) (name : Option BlockName) (ds : List Declaration) → AreSilent (spelled_shape of_ name ds)
shape_silent None None [] ys = refl
shape_silent None None (d ∷ ds) ys = refl
shape_silent None (Some name) [] ys = by (is_udt name)
  where
    by : (b : Bool) → clause_lines ((if b then unspelled_clauses else clause.Based name ∷ []) ++ ys) ≡ clause_lines ys
    by true = refl
    by false = refl
shape_silent None (Some name) (d ∷ ds) ys = refl
shape_silent (Some t) None ds ys = type_silent t.arrays t.of ds ys
shape_silent (Some t) (Some name) ds ys = refl

body_lines : (body : List Statement) (ys : List Clause) → clause_lines (map clause.Runs body ++ ys) ≡ map (λ s. s.line) body ++ clause_lines ys
body_lines [] ys = refl
body_lines (s ∷ body) ys = ap (λ (ls : List ℕ). s.line ∷ ls) (body_lines body ys)

block_lines : (b : Block) (ys : List Clause) → clause_lines (spelled_block b ++ ys) ≡ statement_lines_of b ++ clause_lines ys
block_lines b ys =
    ap clause_lines (append_assoc parts (shape ++ (sets ++ (runs ++ ends))) ys) ∙ parts_silent b.parts ((shape ++ (sets ++ (runs ++ ends))) ++ ys)
    ∙ ap clause_lines (append_assoc shape (sets ++ (runs ++ ends)) ys) ∙ shape_silent b.shape b.instance_of b.components ((sets ++ (runs ++ ends)) ++ ys)
    ∙ ap clause_lines (append_assoc sets (runs ++ ends) ys) ∙ settings_silent b.settings ((runs ++ ends) ++ ys)
    ∙ ap clause_lines (append_assoc runs ends ys) ∙ body_lines b.body (ends ++ ys)
    ∙ sym (append_assoc (map (λ s. s.line) b.body) (b.end_line ∷ []) (clause_lines ys))
  where
    parts : List Clause
    parts = flat_map spelled_part b.parts

    shape : List Clause
    shape = spelled_shape b.shape b.instance_of b.components

    sets : List Clause
    sets = map clause.Sets b.settings

    runs : List Clause
    runs = map clause.Runs b.body

    ends : List Clause
    ends = clause.Ends b.end_line b.kind ∷ []

rises_front : (last before : ℕ) (xs ys : List ℕ) → AreRisingLines last before (xs ++ ys) → AreRisingLines last before xs
rises_front last before [] ys h = tt
rises_front last before (x ∷ xs) ys h = (h.0, h.1, rises_front last x xs ys h.2)

rises_behind : (last before : ℕ) (xs ys : List ℕ) → AreRisingLines last before (xs ++ ys) → AreRisingLines last before ys
rises_behind last before [] ys h = h
rises_behind last before (x ∷ xs) ys h = rises_lower last before x ys h.0 (rises_behind last x xs ys h.2)

blocks_rise : (last before : ℕ) (bs : List Block) → AreRisingLines last before (clause_lines (flat_map spelled_block bs))
    → AllByRecursion (λ b. AreRisingLines last before (statement_lines_of b)) bs
blocks_rise last before [] h = tt
blocks_rise last before (b ∷ bs) h =
    let split = subst (AreRisingLines last before) (block_lines b (flat_map spelled_block bs)) h in (
      rises_front last before (statement_lines_of b) (clause_lines (flat_map spelled_block bs)) split,
      blocks_rise last before bs (rises_behind last before (statement_lines_of b) (clause_lines (flat_map spelled_block bs)) split),
    )

from_first : (source : List ℕ) → 1 ≤ line_at source 0
unfolding line_at
from_first source = omega arith

-- all lines of a tree rise from clause to clause
tree_rises : (source : List ℕ) (tokens : List Token) (t : Tree) → AreTokens source tokens → IsTree source tokens t
    → AreRisingLines (1 + length source) 1 (clause_lines (flat_map spelled_block t.blocks))
unfolding AreTokens
tree_rises source tokens t are is =
    let risen = tokens_lower (1 + length source) 1 (line_at source 0) tokens (from_first source) (tokens_rise source 0 false tokens are) in
    let all = clauses_rise source (1 + length source) 1 place.Outside tokens is.clauses place.Outside [] is.reads risen in
    subst (AreRisingLines (1 + length source) 1) (sym (kept_lines is.clauses) ∙ ap clause_lines (sym is.those)) all

pub lines_rise : LinesRise
lines_rise source tokens t are is =
    blocks_rise (1 + length source) 1 t.blocks (tree_rises source tokens t are is)

blocks_lines : (bs : List Block) → clause_lines (flat_map spelled_block bs) ≡ flat_map statement_lines_of bs
blocks_lines [] = refl
blocks_lines (b ∷ bs) =
    block_lines b (flat_map spelled_block bs) ∙ ap (λ (ls : List ℕ). statement_lines_of b ++ ls) (blocks_lines bs)

pub lines_rise_across : LinesRiseAcross
lines_rise_across source tokens t are is =
    subst (AreRisingLines (1 + length source) 1) (blocks_lines t.blocks) (tree_rises source tokens t are is)
