-- What types, initial values and declarations keep.
use Rattle.std.proofs.Common.{ℕ, ◌≡◌, Bool, true, false, List, [], ◌∷◌, ◌++◌, length, ℤ, refl}
use Rattle.std.specs.Prelude.{◌&&◌}
use Rattle.std.specs.Option.{IfSome}
use Rattle.std.specs.List.{AllByRecursion}
use Rattle.plc_base.specs.declared.blocks.BlockId.{BlockId}
use Rattle.plc_base.specs.declared.blocks.BlockKind.{BlockKind}
use Rattle.plc_base.specs.declared.blocks.BlockKind.TheVariants as kinds
use Rattle.stl_lexer.specs.declared.kinds.Token.{Token}
use Rattle.stl_lexer.specs.declared.kinds.TokenKind.TheVariants as kind
use Rattle.stl_lexer.specs.Tokens.{text_of}
use Rattle.stl_ast.specs.declared.declarations.Bounds.{Bounds}
use Rattle.stl_ast.specs.declared.declarations.ElementType.{ElementType}
use Rattle.stl_ast.specs.declared.declarations.ElementType.TheVariants as element
use Rattle.stl_ast.specs.declared.declarations.Init.{Init}
use Rattle.stl_ast.specs.declared.literals.Literal.{Literal}
use Rattle.stl_ast.specs.declared.names.BlockName.{BlockName}
use Rattle.stl_ast.specs.declared.names.BlockName.TheVariants as block
use Rattle.stl_ast.specs.Literals.{IsDecimal, IsLiteral}
use Rattle.stl_ast.specs.Operands.{IsNumber, IsNameOf, IsAnyName}
use Rattle.stl_ast.specs.Declarations.{AreBounds, IsElement, IsInit, IsSingleInit, FitsType, IsDeclaration}
use Rattle.stl_parser.specs.declared.keywords.ClauseWord.TheVariants as key
use Rattle.stl_lexer.specs.declared.marks.Mark.TheVariants as mark
use Rattle.stl_parser.specs.Terminals.{has_kind, is_mark, is_key}
use Rattle.stl_parser.specs.Tables.{look_up, simple_types}
use Rattle.stl_parser.specs.Numbers.{number_of_token, int_at}
use Rattle.stl_parser.specs.Parts.{parts_from}
use Rattle.stl_parser.specs.Literals.{literal_at, literal_of}
use Rattle.stl_parser.specs.Addresses.{block_at}
use Rattle.stl_parser.specs.Types as spec
use Rattle.stl_parser.specs.Declarations as read
use Rattle.stl_parser.proofs.OptionLemmas.{map_holds, chain_holds, either, both, then_holds, none_holds, weaker_holds, whole_holds, parts_hold, all_push}
use Rattle.stl_parser.proofs.RangeLemmas.{number_holds, FirstIsDecimal, int_holds}
use Rattle.stl_parser.proofs.LiteralLemmas.{FirstIsLiteral, literal_at_holds, literal_holds}
use Rattle.stl_parser.proofs.AddressLemmas.{block_holds}

abbrev FirstAreBounds : Bounds × List Token → Type 0
FirstAreBounds r = AreBounds r.0

array_end_holds : (source : List ℕ) (low high : ℤ) (tokens : List Token) → IsDecimal low → IsDecimal high →
    IfSome (spec.array_end source low high tokens) FirstAreBounds
unfolding spec.array_end
array_end_holds source low high (close ∷ of_ ∷ rest) h k =
    then_holds (is_mark source close mark.CloseBracket && is_key source of_ key.Of) _ FirstAreBounds (λ test. (h, k))
array_end_holds source low high _ h k = tt

array_high_holds : (source : List ℕ) (low : ℤ) (tokens : List Token) → IsDecimal low →
    IfSome (spec.array_high source low tokens) FirstAreBounds
unfolding spec.array_high
array_high_holds source low [] h = tt
array_high_holds source low (dots ∷ rest) h =
    then_holds (is_mark source dots mark.DotDot) _ FirstAreBounds
    (λ test. chain_holds (int_at source rest) _ FirstIsDecimal FirstAreBounds (int_holds source rest)
    (λ r k. array_end_holds source low r.0 r.1 h k))

array_holds : (source : List ℕ) (tokens : List Token) → IfSome (spec.array_at source tokens) FirstAreBounds
unfolding spec.array_at
array_holds source (array ∷ open_ ∷ rest) =
    then_holds (is_key source array key.Array && is_mark source open_ mark.OpenBracket) _ FirstAreBounds
    (λ test. chain_holds (int_at source rest) _ FirstIsDecimal FirstAreBounds (int_holds source rest) (λ r k. array_high_holds source r.0 r.1 k))
array_holds source _ = tt

abbrev AreArrays : List Bounds → Type 0
AreArrays arrays = AllByRecursion AreBounds arrays

arrays_hold : (source : List ℕ) (tokens : List Token) → IfSome (spec.arrays_at source tokens) (λ r. AreArrays r.0)
unfolding spec.arrays_at
arrays_hold source tokens =
    parts_hold (spec.arrays_end source) (spec.array_at source) [] (length tokens) tokens (λ xs ts. AreArrays xs) AreArrays tt
    (λ xs ts k. weaker_holds (spec.array_at source ts) FirstAreBounds (λ r. AreArrays (xs ++ r.0 ∷ [])) (array_holds source ts)
    (λ r one. all_push AreBounds xs r.0 k one)) (λ xs ts k. k)

abbrev is_structure : ElementType → Bool
is_structure element.Structure = true
is_structure _ = false

-- an element type other than a structure
abbrev IsValueType : ElementType → Type 0
IsValueType e = IsElement e × (is_structure e ≡ false)

simple_holds : (source : List ℕ) (t : Token) (rest : List Token) → IfSome (spec.simple_at source t rest) (λ r. IsValueType r.0)
unfolding spec.simple_at
simple_holds source t rest =
    then_holds (has_kind t kind.Word) _ (λ r. IsValueType r.0)
    (λ test. both (is_key source t key.DateAndTime) _ _ (λ r. IsValueType r.0) (tt, refl)
    (map_holds (look_up simple_types (text_of source t)) _ (λ k. Unit {0}) (λ r. IsValueType r.0)
    (none_holds (look_up simple_types (text_of source t))) (λ k h. (tt, refl))))

numbered_udt : (id : BlockId) (k : BlockKind) → id.kind ≡ k → IsNumber id.number →
    IfSome (spec.udt_name_of_id id k) (λ name. IsNameOf (λ j. j ≡ kinds.Udt) name)
numbered_udt id kinds.Udt same h = (same, h)
numbered_udt id _ same h = tt

udt_of_holds : (name : BlockName) → IsAnyName name → IfSome (spec.udt_of name) (λ name. IsNameOf (λ j. j ≡ kinds.Udt) name)
unfolding spec.udt_of
udt_of_holds (block.Number id) h = numbered_udt id id.kind refl h.1
udt_of_holds (block.Quoted name) h = tt

udt_holds : (source : List ℕ) (tokens : List Token) → IfSome (spec.udt_at source tokens) (λ r. IsValueType r.0)
unfolding spec.udt_at
udt_holds source tokens =
    chain_holds (block_at source tokens) _ (λ r. IsAnyName r.0) (λ r. IsValueType r.0) (block_holds source tokens)
    (λ r h. map_holds (spec.udt_of r.0) _ (λ name. IsNameOf (λ j. j ≡ kinds.Udt) name) (λ s. IsValueType s.0) (udt_of_holds r.0 h)
    (λ name k. (k, refl)))

element_holds : (source : List ℕ) (tokens : List Token) → IfSome (spec.element_at source tokens) (λ r. IsValueType r.0)
unfolding spec.element_at
element_holds source [] = tt
element_holds source (t ∷ rest) =
    either (spec.simple_at source t rest) _ (λ r. IsValueType r.0) (simple_holds source t rest) (udt_holds source (t ∷ rest))

abbrev FirstIsInit : Init × List Token → Type 0
FirstIsInit r = IsInit r.0

counted_end_holds : (source : List ℕ) (count : ℕ) (value : Literal) (tokens : List Token) → IsNumber count → IsLiteral value →
    IfSome (spec.counted_init_end source count value tokens) FirstIsInit
unfolding spec.counted_init_end
counted_end_holds source count value [] h k = tt
counted_end_holds source count value (t ∷ rest) h k = then_holds (is_mark source t mark.CloseParen) _ FirstIsInit (λ test. (h, k))

counted_holds : (source : List ℕ) (tokens : List Token) → IfSome (spec.counted_init_at source tokens) FirstIsInit
unfolding spec.counted_init_at
counted_holds source (n ∷ open_ ∷ rest) =
    then_holds (is_mark source open_ mark.OpenParen) _ FirstIsInit
    (λ test. chain_holds (number_of_token source n) _ IsNumber FirstIsInit (number_holds source n)
    (λ count h. chain_holds (literal_at source rest) _ FirstIsLiteral FirstIsInit (literal_at_holds source rest)
    (λ r k. counted_end_holds source count r.0 r.1 h k)))
counted_holds source _ = tt

init_holds : (source : List ℕ) (tokens : List Token) → IfSome (spec.init_at source tokens) FirstIsInit
unfolding spec.init_at
init_holds source tokens =
    either (spec.counted_init_at source tokens) _ FirstIsInit (counted_holds source tokens)
    (map_holds (literal_at source tokens) _ FirstIsLiteral FirstIsInit (literal_at_holds source tokens) (λ r h. (tt, h)))

next_init_holds : (source : List ℕ) (tokens : List Token) → IfSome (spec.next_init source tokens) FirstIsInit
unfolding spec.next_init
next_init_holds source [] = tt
next_init_holds source (t ∷ rest) = then_holds (is_mark source t mark.Comma) _ FirstIsInit (λ test. init_holds source rest)

abbrev AreInits : List Init → Type 0
AreInits init = AllByRecursion IsInit init

further_inits : (source : List ℕ) (first : Init) (n : ℕ) (tokens : List Token) → IsInit first →
    IfSome (parts_from spec.end_of_tokens (spec.next_init source) (first ∷ []) n tokens) (λ r. AreInits r.0)
further_inits source first n tokens h =
    parts_hold spec.end_of_tokens (spec.next_init source) (first ∷ []) n tokens (λ xs ts. AreInits xs) AreInits (h, tt)
    (λ xs ts k. weaker_holds (spec.next_init source ts) FirstIsInit (λ r. AreInits (xs ++ r.0 ∷ [])) (next_init_holds source ts)
    (λ r one. all_push IsInit xs r.0 k one)) (λ xs ts k. k)

init_list_holds : (source : List ℕ) (tokens : List Token) → IfSome (spec.init_list source tokens) AreInits
unfolding spec.init_list
init_list_holds source tokens =
    chain_holds (spec.init_at source tokens) _ FirstIsInit AreInits (init_holds source tokens)
    (λ r h. whole_holds (parts_from spec.end_of_tokens (spec.next_init source) (r.0 ∷ []) (length r.1) r.1) AreInits
    (further_inits source r.0 (length r.1) r.1 h))

single_init_holds : (source : List ℕ) (tokens : List Token) → IfSome (spec.single_init source tokens) (λ init. AreInits init × IsSingleInit init)
unfolding spec.single_init
single_init_holds source tokens =
    map_holds (literal_of source tokens) _ IsLiteral (λ init. AreInits init × IsSingleInit init) (literal_holds source tokens)
    (λ l h. (((tt, h), tt), refl))

abbrev FitInits : List Bounds → ElementType → List Init → Type 0
FitInits arrays e init = AreInits init × FitsType arrays e init

single_fits : (arrays : List Bounds) (e : ElementType) (init : List Init) → is_structure e ≡ false → IsSingleInit init → FitsType arrays e init
single_fits arrays element.Structure init other h = cc
single_fits [] (element.Plain k) init other h = h
single_fits (b ∷ []) (element.Plain k) init other h = tt
single_fits (b ∷ c ∷ bs) (element.Plain k) init other h = h
single_fits [] _ init other h = h
single_fits (b ∷ []) _ init other h = h
single_fits (b ∷ c ∷ bs) _ init other h = h

none_fits : (arrays : List Bounds) (e : ElementType) → FitsType arrays e []
none_fits [] element.Structure = refl
none_fits (b ∷ []) element.Structure = refl
none_fits (b ∷ c ∷ bs) element.Structure = refl
none_fits [] _ = tt
none_fits (b ∷ []) _ = tt
none_fits (b ∷ c ∷ bs) _ = tt

single_of : (source : List ℕ) (arrays : List Bounds) (e : ElementType) (tokens : List Token) → is_structure e ≡ false →
    IfSome (spec.single_init source tokens) (FitInits arrays e)
single_of source arrays e tokens other =
    weaker_holds (spec.single_init source tokens) (λ init. AreInits init × IsSingleInit init) (FitInits arrays e) (single_init_holds source tokens)
    (λ init h. (h.0, single_fits arrays e init other h.1))

init_of_holds : (source : List ℕ) (arrays : List Bounds) (e : ElementType) (tokens : List Token) → is_structure e ≡ false →
    IfSome (spec.init_of source arrays e tokens) (FitInits arrays e)
unfolding spec.init_of
init_of_holds source (b ∷ []) (element.Plain k) tokens other =
    weaker_holds (spec.init_list source tokens) AreInits (FitInits (b ∷ []) (element.Plain k)) (init_list_holds source tokens) (λ init h. (h, tt))
init_of_holds source [] e tokens other = single_of source [] e tokens other
init_of_holds source (b ∷ []) element.Structure tokens other = single_of source (b ∷ []) element.Structure tokens other
init_of_holds source (b ∷ []) (element.Udt name) tokens other = single_of source (b ∷ []) (element.Udt name) tokens other
init_of_holds source (b ∷ []) element.DateAndTime tokens other = single_of source (b ∷ []) element.DateAndTime tokens other
init_of_holds source (b ∷ c ∷ bs) e tokens other = single_of source (b ∷ c ∷ bs) e tokens other

init_behind_holds : (source : List ℕ) (arrays : List Bounds) (e : ElementType) (tokens : List Token) → is_structure e ≡ false →
    IfSome (read.init_behind source arrays e tokens) (FitInits arrays e)
unfolding read.init_behind
init_behind_holds source arrays e [] other = (tt, none_fits arrays e)
init_behind_holds source arrays e (t ∷ rest) other =
    then_holds (is_mark source t mark.Assign) _ (FitInits arrays e) (λ test. init_of_holds source arrays e rest other)

-- a declaration that opens a structure
pub structure_holds : (source : List ℕ) (level : ℕ) (tokens : List Token) →
    IfSome (read.structure_at source level tokens) (λ r. IsDeclaration r.0)
unfolding read.structure_at
structure_holds source level tokens =
    chain_holds (read.declared_name_at source tokens) _ (λ d. Unit {0}) (λ r. IsDeclaration r.0) (none_holds (read.declared_name_at source tokens))
    (λ d h. chain_holds (spec.arrays_at source d.1) _ (λ a. AreArrays a.0) (λ r. IsDeclaration r.0) (arrays_hold source d.1)
    (λ a k. map_holds (read.after_struct source a.1) _ (λ rest. Unit {0}) (λ r. IsDeclaration r.0) (none_holds (read.after_struct source a.1))
    (λ rest u. record { arrays = k; element = tt; init = tt; fits = none_fits a.0 element.Structure })))

-- a declaration up to its `;`
pub declaration_holds : (source : List ℕ) (level : ℕ) (tokens : List Token) →
    IfSome (read.declaration_of source level tokens) IsDeclaration
unfolding read.declaration_of
declaration_holds source level tokens =
    chain_holds (read.declared_name_at source tokens) _ (λ d. Unit {0}) IsDeclaration (none_holds (read.declared_name_at source tokens))
    (λ d h. chain_holds (spec.arrays_at source d.1) _ (λ a. AreArrays a.0) IsDeclaration (arrays_hold source d.1)
    (λ a k. chain_holds (spec.element_at source a.1) _ (λ e. IsValueType e.0) IsDeclaration (element_holds source a.1)
    (λ e v. map_holds (read.init_behind source a.0 e.0 e.1) _ (FitInits a.0 e.0) IsDeclaration (init_behind_holds source a.0 e.0 e.1 v.1)
    (λ init i. record { arrays = k; element = v.0; init = i.0; fits = i.1 }))))
