-- What a clause keeps, and how many bytes the code of a statement takes at most for its tokens.
use Rattle.std.proofs.Common.{arith, inl, inr, ℕ, suc, ◌+◌, ◌*◌, ◌≡◌, ◌≤◌, ◌<◌, ◌⊎◌, Bool, true, false, List, [], ◌∷◌, length, Option, Some, None, refl}
use Rattle.std.specs.Prelude.{◌&&◌, not, nat_lt, nat_eq, take, drop}
use Rattle.std.specs.Option.{option_and_then, IfSome}
use Rattle.std.specs.List.{position_or_len}
use Rattle.std.proofs.lemmas.List.{length-drop, length-take}
use Rattle.std.proofs.lemmas.Bool.{ltb-true}
use Rattle.plc_base.specs.Kinds.{kind_order}
use Rattle.plc_base.specs.declared.blocks.BlockKind.{BlockKind}
use Rattle.plc_base.specs.declared.blocks.BlockKind.TheVariants as kinds
use Rattle.stl_lexer.specs.declared.kinds.Token.{Token}
use Rattle.stl_lexer.specs.declared.kinds.TokenKind.{TokenKind}
use Rattle.stl_lexer.specs.declared.kinds.TokenKind.TheVariants as kind
use Rattle.stl_lexer.specs.Tokens.{text_of}
use Rattle.stl_ast.specs.declared.blocks.PathStep.{PathStep}
use Rattle.stl_ast.specs.declared.names.BlockName.{BlockName}
use Rattle.stl_ast.specs.declared.names.BlockName.TheVariants as block
use Rattle.stl_ast.specs.Declarations.{IsDeclaration, is_elementary}
use Rattle.stl_ast.specs.Literals.{IsLiteral}
use Rattle.stl_ast.specs.Operands.{IsNameOf, IsAnyName}
use Rattle.stl_ast.specs.Sizes.{statement_size, return_size}
use Rattle.stl_ast.specs.Statements.{IsStatement}
use Rattle.stl_ast.specs.WellFormed.{IsHeadName, MayReturn, IsSetting}
use Rattle.stl_parser.specs.declared.clauses.Clause.{Clause}
use Rattle.stl_parser.specs.declared.clauses.Clause.TheVariants as clause
use Rattle.stl_lexer.specs.declared.marks.Mark.TheVariants as mark
use Rattle.stl_parser.specs.declared.places.ClausePlace.{ClausePlace}
use Rattle.stl_parser.specs.declared.tables.HeadWord.{HeadWord}
use Rattle.stl_parser.specs.declared.tables.Keyword.{Keyword}
use Rattle.stl_parser.specs.declared.tables.Keyword.TheVariants as keyword
use Rattle.stl_parser.specs.Terminals.{is_mark}
use Rattle.stl_parser.specs.Tables.{look_up, keywords, head_words}
use Rattle.stl_parser.specs.Literals.{literal_of}
use Rattle.stl_parser.specs.Addresses.{block_at}
use Rattle.stl_parser.specs.Operands.{steps_from}
use Rattle.stl_parser.specs.Declarations.{after_colon, structure_at, declaration_of}
use Rattle.stl_parser.specs.Statements.{statement_of}
use Rattle.stl_parser.specs.Clauses as spec
use Rattle.stl_parser.proofs.OptionLemmas.{map_holds, chain_holds, either, both, then_holds, else_holds, also, none_holds, weaker_holds}
use Rattle.stl_parser.proofs.AddressLemmas.{block_holds}
use Rattle.stl_parser.proofs.OperandLemmas.{IsNamedPath, named_steps_hold}
use Rattle.stl_parser.proofs.LiteralLemmas.{literal_holds}
use Rattle.stl_parser.proofs.TypeLemmas.{structure_holds, declaration_holds}
use Rattle.stl_parser.proofs.StatementLemmas.{IsReadStatement, statement_holds}
use Rattle.stl_parser.proofs.LengthLemmas.{block_rest, result_rest}

-- a data block is based on a function block or on a user-defined data type
abbrev pub IsBaseName : BlockName → Type 0
IsBaseName name = IsNameOf (λ k. (k ≡ kinds.Fb) ⊎ (k ≡ kinds.Udt)) name

-- what a right clause keeps at a place
abbrev pub IsRightClause : ClausePlace → Clause → Type 0
IsRightClause p (clause.Head line k name result) = IsHeadName k name × MayReturn k result
IsRightClause p (clause.Based name) = IsBaseName name
IsRightClause p (clause.Declares d) = IsDeclaration d × (spec.takes_parameters p ≡ true → is_elementary d ≡ true)
IsRightClause p (clause.Sets s) = IsSetting s
IsRightClause p (clause.Runs s) = IsStatement s
IsRightClause p _ = Unit {0}

-- the code of a clause fits into the tokens that it takes: of n tokens `left` are behind it
abbrev pub Fits : ℕ → Clause → ℕ → Type 0
Fits n (clause.Head line k name result) left = return_size k + 4 * left ≤ 4 * n
Fits n (clause.Runs s) left = statement_size s + 4 * left ≤ 4 * n
Fits n _ left = Unit {0}

-- a clause that is read of n tokens; it is right where no label in it is too long
abbrev pub IsReadAt : ClausePlace → ℕ → Clause × List Token × Bool → Type 0
IsReadAt p n r = (r.2 ≡ false → IsRightClause p r.0) × Fits n r.0 (length r.1)

-- a clause of n tokens before its `;`
abbrev FitsInside : ℕ → Clause → Type 0
FitsInside n (clause.Head line k name result) = ⊥
FitsInside n (clause.Runs s) = statement_size s ≤ 4 + 4 * n
FitsInside n _ = Unit {0}

abbrev IsReadInside : ClausePlace → ℕ → Clause × Bool → Type 0
IsReadInside p n r = (r.1 ≡ false → IsRightClause p r.0) × FitsInside n r.0

same_rank : (e k : BlockKind) → nat_eq (kind_order e) (kind_order k) ≡ true → e ≡ k
same_rank kinds.Ob kinds.Ob h = refl
same_rank kinds.Fc kinds.Fc h = refl
same_rank kinds.Fb kinds.Fb h = refl
same_rank kinds.Db kinds.Db h = refl
same_rank kinds.Sfc kinds.Sfc h = refl
same_rank kinds.Udt kinds.Udt h = refl
same_rank _ _ h = cc

head_name : (k : BlockKind) (name : BlockName) → IsAnyName name → spec.is_of_kind k name ≡ true → IsHeadName k name
unfolding spec.is_of_kind
head_name k (block.Number id) h test = (same_rank id.kind k test, h.1)
head_name k (block.Quoted name) h test = tt

abbrev IsHeadRest : BlockKind → ℕ → BlockName × List Token → Type 0
IsHeadRest k n r = IsHeadName k r.0 × (length r.1 < n)

named_holds : (source : List ℕ) (k : BlockKind) (tokens : List Token) →
    IfSome (spec.block_of_kind_at source k tokens) (IsHeadRest k (length tokens))
unfolding spec.block_of_kind_at
named_holds source k tokens =
    chain_holds (block_at source tokens) _ (λ r. IsAnyName r.0 × (length r.1 < length tokens)) (IsHeadRest k (length tokens))
    (also (block_at source tokens) (λ r. IsAnyName r.0) (λ r. length r.1 < length tokens) (block_holds source tokens) (block_rest source tokens))
    (λ r h. then_holds (spec.is_of_kind k r.0) _ (IsHeadRest k (length tokens)) (λ test. (head_name k r.0 h.0 test, h.1)))

result_holds : (source : List ℕ) (k : BlockKind) (tokens : List Token) → IfSome (spec.result_at source k tokens) (λ r. MayReturn k r.0)
unfolding spec.result_at
result_holds source kinds.Fc tokens =
    weaker_holds _ (λ r. Unit {0}) (λ r. MayReturn kinds.Fc r.0) (none_holds (option_and_then (λ rest. spec.result_type source rest) (after_colon source tokens)))
    (λ r h. tt)
result_holds source _ tokens = refl

return_fits : (k : BlockKind) (left n : ℕ) → left + 2 ≤ n → return_size k + 4 * left ≤ 4 * n
return_fits kinds.Ob left n h = omega (arith, h)
return_fits kinds.Fc left n h = omega (arith, h)
return_fits kinds.Fb left n h = omega (arith, h)
return_fits _ left n h = omega (arith, h)

head_holds : (source : List ℕ) (p : ClausePlace) (line : ℕ) (k : BlockKind) (tokens : List Token) →
    IfSome (spec.head_clause source line k tokens) (IsReadAt p (suc (length tokens)))
unfolding spec.head_clause
head_holds source p line k tokens =
    chain_holds (spec.block_of_kind_at source k tokens) _ (IsHeadRest k (length tokens)) (IsReadAt p (suc (length tokens))) (named_holds source k tokens)
    (λ b h. map_holds (spec.result_at source k b.1) _ (λ r. MayReturn k r.0 × (length r.1 ≤ length b.1)) (IsReadAt p (suc (length tokens)))
    (also (spec.result_at source k b.1) (λ r. MayReturn k r.0) (λ r. length r.1 ≤ length b.1) (result_holds source k b.1)
    (result_rest source k b.1))
    (λ r l. (λ test. (h.0, l.0), return_fits k (length r.1) (suc (length tokens)) (omega (arith, h.1, l.1)))))

inner_end_holds : (source : List ℕ) (p : ClausePlace) (n : ℕ) (tokens : List Token) → IfSome (spec.inner_end source tokens) (IsReadAt p n)
unfolding spec.inner_end
inner_end_holds source p n [] = tt
inner_end_holds source p n (t ∷ rest) = then_holds (is_mark source t mark.Semicolon) _ (IsReadAt p n) (λ test. (λ short. tt, tt))

structure_end_holds : (source : List ℕ) (p : ClausePlace) (n : ℕ) (tokens : List Token) → IfSome (spec.structure_end source p tokens) (IsReadAt p n)
unfolding spec.structure_end
structure_end_holds source p n tokens =
    both (nat_lt 0 (spec.level_at p)) _ _ (IsReadAt p n) (inner_end_holds source p n tokens) (λ short. tt, tt)

keyword_holds : (source : List ℕ) (p : ClausePlace) (line : ℕ) (k : Keyword) (rest : List Token) →
    IfSome (spec.keyword_clause source p line k rest) (IsReadAt p (suc (length rest)))
unfolding spec.keyword_clause
keyword_holds source p line (keyword.Opens k) rest = head_holds source p line k rest
keyword_holds source p line keyword.EndStructure rest = structure_end_holds source p (suc (length rest)) rest
keyword_holds source p line _ rest = (λ short. tt, tt)

head_word_holds : (source : List ℕ) (p : ClausePlace) (w : HeadWord) (n : ℕ) (rest : List Token) →
    IfSome (spec.head_word_clause source p w rest) (IsReadAt p n)
unfolding spec.head_word_clause
head_word_holds source p w n rest =
    map_holds (spec.head_word_at source w rest) _ (λ r. Unit {0}) (IsReadAt p n) (none_holds (spec.head_word_at source w rest))
    (λ r h. (λ short. tt, tt))

base_kind : (k : BlockKind) → spec.is_base_kind k ≡ true → (k ≡ kinds.Fb) ⊎ (k ≡ kinds.Udt)
base_kind kinds.Fb test = inl refl
base_kind kinds.Udt test = inr refl
base_kind _ test = cc

base_name : (name : BlockName) → IsAnyName name → spec.is_base_block name ≡ true → IsBaseName name
base_name (block.Number id) h test = (base_kind id.kind test, h.1)
base_name (block.Quoted name) h test = tt

based_holds : (source : List ℕ) (p : ClausePlace) (n : ℕ) (tokens : List Token) → IfSome (spec.base_block_at source tokens) (IsReadAt p n)
unfolding spec.base_block_at
based_holds source p n tokens =
    chain_holds (block_at source tokens) _ (λ r. IsAnyName r.0) (IsReadAt p n) (block_holds source tokens)
    (λ r h. then_holds (spec.is_base_block r.0) _ (IsReadAt p n) (λ test. (λ short. base_name r.0 h test, tt)))

true_is_no_false : {A : Type 0} (b : Bool) → b ≡ false → b ≡ true → A
true_is_no_false true h k = cc
true_is_no_false false h k = cc

structure_clause_holds : (source : List ℕ) (p : ClausePlace) (n : ℕ) (tokens : List Token) →
    IfSome (spec.structure_clause source p tokens) (IsReadAt p n)
unfolding spec.structure_clause
structure_clause_holds source p n tokens =
    else_holds (spec.takes_parameters p) _ (IsReadAt p n)
    (λ test. map_holds (structure_at source (spec.level_at p) tokens) _ (λ r. IsDeclaration r.0) (IsReadAt p n)
    (structure_holds source (spec.level_at p) tokens)
    (λ r h. (λ short. (h, λ takes. true_is_no_false (spec.takes_parameters p) test takes), tt)))

elementary : (takes plain : Bool) → takes && not plain ≡ false → takes ≡ true → plain ≡ true
elementary true true h k = refl
elementary true false h k = cc
elementary false plain h k = cc

declaration_clause_holds : (source : List ℕ) (p : ClausePlace) (n : ℕ) (tokens : List Token) →
    IfSome (spec.declaration_clause source p tokens) (IsReadInside p n)
unfolding spec.declaration_clause
declaration_clause_holds source p n tokens =
    chain_holds (declaration_of source (spec.level_at p) tokens) _ IsDeclaration (IsReadInside p n) (declaration_holds source (spec.level_at p) tokens)
    (λ d h. else_holds (spec.takes_parameters p && not (is_elementary d)) _ (IsReadInside p n)
    (λ test. (λ short. (h, elementary (spec.takes_parameters p) (is_elementary d) test), tt)))

statement_clause_holds : (source : List ℕ) (p : ClausePlace) (line : ℕ) (tokens : List Token) →
    IfSome (spec.statement_clause source line tokens) (IsReadInside p (length tokens))
unfolding spec.statement_clause
statement_clause_holds source p line tokens =
    map_holds (statement_of source line tokens) _ (IsReadStatement (length tokens)) (IsReadInside p (length tokens)) (statement_holds source line tokens)
    (λ r h. h)

abbrev IsNamedStep : PathStep → Type 0
IsNamedStep s = IsNamedPath (s ∷ [])

first_step_holds : (source : List ℕ) (t : Token) (k : TokenKind) → IfSome (spec.first_step source t k) IsNamedStep
unfolding spec.first_step
first_step_holds source t kind.Word = (tt, (tt, tt))
first_step_holds source t kind.Local = (tt, (tt, tt))
first_step_holds source t _ = tt

value_behind_holds : (source : List ℕ) (line : ℕ) (path : List PathStep) (tokens : List Token) → IsNamedPath path →
    IfSome (spec.value_behind source line path tokens) IsSetting
unfolding spec.value_behind
value_behind_holds source line path [] h = tt
value_behind_holds source line path (assign ∷ value) h =
    then_holds (is_mark source assign mark.Assign) _ IsSetting
    (λ test. map_holds (literal_of source value) _ IsLiteral IsSetting (literal_holds source value) (λ v k. (h.0, h.1, k)))

setting_holds : (source : List ℕ) (line : ℕ) (tokens : List Token) → IfSome (spec.setting_of source line tokens) IsSetting
unfolding spec.setting_of
setting_holds source line [] = tt
setting_holds source line (t ∷ rest) =
    chain_holds (spec.first_step source t t.kind) _ IsNamedStep IsSetting (first_step_holds source t t.kind)
    (λ first h. chain_holds (steps_from source (first ∷ []) rest) _ (λ r. IsNamedPath r.0) IsSetting (named_steps_hold source (first ∷ []) rest h)
    (λ r k. value_behind_holds source line r.0 r.1 k))

setting_clause_holds : (source : List ℕ) (p : ClausePlace) (line n : ℕ) (tokens : List Token) →
    IfSome (spec.setting_clause source line tokens) (IsReadInside p n)
unfolding spec.setting_clause
setting_clause_holds source p line n tokens =
    map_holds (spec.setting_of source line tokens) _ IsSetting (IsReadInside p n) (setting_holds source line tokens) (λ s h. (λ short. h, tt))

inside_holds : (source : List ℕ) (p : ClausePlace) (line : ℕ) (tokens : List Token) →
    IfSome (spec.inside_clause source p line tokens) (IsReadInside p (length tokens))
unfolding spec.inside_clause
inside_holds source p line tokens =
    either (spec.declaration_clause source p tokens) _ (IsReadInside p (length tokens)) (declaration_clause_holds source p (length tokens) tokens)
    (either (spec.statement_clause source line tokens) _ (IsReadInside p (length tokens)) (statement_clause_holds source p line tokens)
    (setting_clause_holds source p line (length tokens) tokens))

place_holds : (source : List ℕ) (tokens : List Token) → IfSome (spec.semicolon_place source tokens) (λ n. n < length tokens)
unfolding spec.semicolon_place
place_holds source tokens =
    let place = position_or_len (λ t. is_mark source t mark.Semicolon) tokens in
    then_holds (nat_lt place (length tokens)) _ (λ n. n < length tokens) (λ test. ltb-true place (length tokens) test)

cut_lengths : (n : ℕ) (tokens : List Token) → n < length tokens → length (take n tokens) + 1 + length (drop (n + 1) tokens) ≤ length tokens
cut_lengths n tokens within = omega (arith, within, length-take n tokens, length-drop (n + 1) tokens)

cut_holds : (source : List ℕ) (tokens : List Token) →
    IfSome (spec.until_semicolon source tokens) (λ cut. length cut.0 + 1 + length cut.1 ≤ length tokens)
unfolding spec.until_semicolon
cut_holds source tokens =
    map_holds (spec.semicolon_place source tokens) _ (λ n. n < length tokens) (λ cut. length cut.0 + 1 + length cut.1 ≤ length tokens)
    (place_holds source tokens) (λ n within. cut_lengths n tokens within)

fits_with : (n inside left : ℕ) (c : Clause) → inside + 1 + left ≤ n → FitsInside inside c → Fits n c left
fits_with n inside left (clause.Head line k name result) all h = absurd h
fits_with n inside left (clause.Runs s) all h = omega (arith, all, h)
fits_with n inside left _ all h = tt

semicolon_holds : (source : List ℕ) (p : ClausePlace) (line : ℕ) (tokens : List Token) →
    IfSome (spec.semicolon_clause source p line tokens) (IsReadAt p (length tokens))
unfolding spec.semicolon_clause
semicolon_holds source p line tokens =
    chain_holds (spec.until_semicolon source tokens) _ (λ cut. length cut.0 + 1 + length cut.1 ≤ length tokens) (IsReadAt p (length tokens))
    (cut_holds source tokens)
    (λ cut all. map_holds (spec.inside_clause source p line cut.0) _ (IsReadInside p (length cut.0)) (IsReadAt p (length tokens))
    (inside_holds source p line cut.0) (λ c h. (h.0, fits_with (length tokens) (length cut.0) (length cut.1) c.0 all h.1)))

plain_holds : (source : List ℕ) (p : ClausePlace) (line : ℕ) (tokens : List Token) →
    IfSome (spec.plain_clause source p line tokens) (IsReadAt p (length tokens))
unfolding spec.plain_clause
plain_holds source p line tokens =
    either (spec.structure_clause source p tokens) _ (IsReadAt p (length tokens)) (structure_clause_holds source p (length tokens) tokens)
    (semicolon_holds source p line tokens)

other_holds : (source : List ℕ) (p : ClausePlace) (line : ℕ) (tokens : List Token) →
    IfSome (spec.other_clause source p line tokens) (IsReadAt p (length tokens))
unfolding spec.other_clause
other_holds source p line tokens =
    both (spec.in_data_head p) _ _ (IsReadAt p (length tokens))
    (either (spec.base_block_at source tokens) _ (IsReadAt p (length tokens)) (based_holds source p (length tokens) tokens)
    (plain_holds source p line tokens))
    (plain_holds source p line tokens)

free_word_holds : (source : List ℕ) (p : ClausePlace) (t : Token) (rest tokens : List Token) (w : Option HeadWord) →
    IfSome (spec.free_word_clause source p t rest tokens w) (IsReadAt p (length tokens))
unfolding spec.free_word_clause
free_word_holds source p t rest tokens (Some w) =
    both (spec.is_outer p) _ _ (IsReadAt p (length tokens)) (head_word_holds source p w (length tokens) rest)
    (other_holds source p t.line tokens)
free_word_holds source p t rest tokens None = other_holds source p t.line tokens

word_holds : (source : List ℕ) (p : ClausePlace) (t : Token) (rest : List Token) (k : Option Keyword) →
    IfSome (spec.word_clause source p t rest (t ∷ rest) k) (IsReadAt p (suc (length rest)))
unfolding spec.word_clause
word_holds source p t rest (Some k) = keyword_holds source p t.line k rest
word_holds source p t rest None = free_word_holds source p t rest (t ∷ rest) (look_up head_words (text_of source t))

kind_holds : (source : List ℕ) (p : ClausePlace) (t : Token) (rest : List Token) (k : TokenKind) →
    IfSome (spec.clause_by_kind source p t rest (t ∷ rest) k) (IsReadAt p (suc (length rest)))
unfolding spec.clause_by_kind
kind_holds source p t rest kind.Word = word_holds source p t rest (look_up keywords (text_of source t))
kind_holds source p t rest kind.Attribute = (λ short. tt, tt)
kind_holds source p t rest kind.Title = (λ short. tt, tt)
kind_holds source p t rest _ = other_holds source p t.line (t ∷ rest)

-- the clause at the front
pub clause_holds : (source : List ℕ) (p : ClausePlace) (tokens : List Token) →
    IfSome (spec.clause_at source p tokens) (IsReadAt p (length tokens))
unfolding spec.clause_at
clause_holds source p [] = tt
clause_holds source p (t ∷ rest) = kind_holds source p t rest t.kind
