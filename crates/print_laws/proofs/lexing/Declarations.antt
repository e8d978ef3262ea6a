-- Declarations and settings stand before what is printed behind them.
use Rattle.std.proofs.Common.{ℕ, true, false, List, [], ◌∷◌, ◌++◌, Option, Some, None, refl, sym, subst, append_assoc}
use Rattle.std.specs.Prelude.{codes}
use Rattle.std.specs.List.{AllByRecursion, flat_map}
use Rattle.stl_ast.specs.Declarations.{AreBounds, IsCount}
use Rattle.stl_ast.specs.declared.blocks.Setting.{Setting}
use Rattle.stl_ast.specs.declared.declarations.Bounds.{Bounds}
use Rattle.stl_ast.specs.declared.declarations.Declaration.{Declaration}
use Rattle.stl_ast.specs.declared.declarations.ElementType.{ElementType}
use Rattle.stl_ast.specs.declared.declarations.ElementType.TheVariants as element
use Rattle.stl_ast.specs.declared.declarations.Init.{Init}
use Rattle.stl_ast.specs.declared.declarations.Simple.{Simple}
use Rattle.stl_ast.specs.declared.declarations.Simple.TheVariants as simple
use Rattle.stl_ast.specs.declared.literals.Literal.{Literal}
use Rattle.stl_lexer.specs.declared.marks.Mark.TheVariants as mark_of
use Rattle.stl_lexer.specs.Bytes.{is_word_byte, is_word_start}
use Rattle.stl_lexer.specs.Pieces.{Piece}
use Rattle.stl_print.specs.Declarations.{array_pieces, behind_type, declaration_pieces, element_pieces, further_inits, init_pieces, inits_pieces, setting_pieces, value_pieces}
use Rattle.stl_print.specs.Literals.{literal_pieces}
use Rattle.stl_print.specs.Names.{path_pieces}
use Rattle.stl_print.specs.Pieces.{mark_piece, signed_number_pieces, word_piece}
use Rattle.stl_print.specs.Words.{type_word}
use Rattle.stl_print.specs.declared.gaps.Gap.{Gap}
use Rattle.stl_print.specs.declared.gaps.Gap.TheVariants as gap
use Rattle.print_laws.specs.Standing.{IsNonTitleName, IsPrintableDeclaration, IsPrintableElement, IsPrintableInit, IsPrintableLiteral, IsPrintableSetting}
use Rattle.print_laws.proofs.lexing.Operands.{block_rest, closing_rest, colon_rest, free_rest, rest_joined, literal_rest, path_rest}
use Rattle.print_laws.proofs.lexing.Pieces.{Rest, number_rest, opens, signed_rest, word_rest}

-- ---- types

-- the bounds of an array behind its `[`
bounds_rest : (b : Bounds) (ps : List Piece) (end : List ℕ) → AreBounds b → Rest true ps end
    → Rest false (signed_number_pieces gap.Nothing b.low ++ (mark_piece gap.Nothing mark_of.DotDot ∷ (signed_number_pieces gap.Nothing b.high ++ (mark_piece gap.Nothing mark_of.CloseBracket ∷ ps)))) end
bounds_rest b ps end (low, high) r =
    let close = closing_rest true gap.Nothing mark_of.CloseBracket ps end refl refl r in
    let upper = signed_rest gap.Nothing b.high (mark_piece gap.Nothing mark_of.CloseBracket ∷ ps) end high close in
    let dots = closing_rest false gap.Nothing mark_of.DotDot (signed_number_pieces gap.Nothing b.high ++ (mark_piece gap.Nothing mark_of.CloseBracket ∷ ps)) end refl refl upper in
    signed_rest gap.Nothing b.low (mark_piece gap.Nothing mark_of.DotDot ∷ (signed_number_pieces gap.Nothing b.high ++ (mark_piece gap.Nothing mark_of.CloseBracket ∷ ps))) end low dots

array_rest : (b : Bounds) (ps : List Piece) (end : List ℕ) → AreBounds b → Rest true ps end → Rest true (array_pieces b ++ ps) end
unfolding array_pieces is_word_byte is_word_start
array_rest b ps end h r =
    let of_ = word_piece gap.Blank (codes "OF") ∷ [] in
    let upper = mark_piece gap.Nothing mark_of.CloseBracket ∷ of_ in
    let inside = bounds_rest b (of_ ++ ps) end h (word_rest gap.Blank (codes "OF") ps end (refl, refl) r) in
    word_rest gap.Blank (codes "ARRAY") (mark_piece gap.Blank mark_of.OpenBracket ∷ ((signed_number_pieces gap.Nothing b.low ++ (mark_piece gap.Nothing mark_of.DotDot ∷ (signed_number_pieces gap.Nothing b.high ++ upper))) ++ ps)) end (refl, refl)
    (free_rest false gap.Blank mark_of.OpenBracket ((signed_number_pieces gap.Nothing b.low ++ (mark_piece gap.Nothing mark_of.DotDot ∷ (signed_number_pieces gap.Nothing b.high ++ upper))) ++ ps) end refl
    (rest_joined false (signed_number_pieces gap.Nothing b.low) (mark_piece gap.Nothing mark_of.DotDot ∷ (signed_number_pieces gap.Nothing b.high ++ upper)) ps end (moved upper inside)))
  where
    moved : (upper : List Piece) → Rest false (signed_number_pieces gap.Nothing b.low ++ (mark_piece gap.Nothing mark_of.DotDot ∷ (signed_number_pieces gap.Nothing b.high ++ (upper ++ ps)))) end
        → Rest false (signed_number_pieces gap.Nothing b.low ++ (mark_piece gap.Nothing mark_of.DotDot ∷ ((signed_number_pieces gap.Nothing b.high ++ upper) ++ ps))) end
    moved upper x = subst (λ (l : List Piece). Rest false (signed_number_pieces gap.Nothing b.low ++ (mark_piece gap.Nothing mark_of.DotDot ∷ l)) end) (sym (append_assoc (signed_number_pieces gap.Nothing b.high) upper ps)) x

arrays_rest : (arrays : List Bounds) (ps : List Piece) (end : List ℕ) → AllByRecursion AreBounds arrays → Rest true ps end → Rest true (flat_map array_pieces arrays ++ ps) end
arrays_rest [] ps end h r = r
arrays_rest (b ∷ arrays) ps end (one, more) r =
    rest_joined true (array_pieces b) (flat_map array_pieces arrays) ps end (array_rest b (flat_map array_pieces arrays ++ ps) end one (arrays_rest arrays ps end more r))

pub type_name : (k : Simple) → IsNonTitleName (type_word k)
unfolding type_word is_word_byte is_word_start
type_name simple.Bool = (refl, refl)
type_name _ = (refl, refl)

element_rest : (g : Gap) (e : ElementType) (ps : List Piece) (end : List ℕ) → IsPrintableElement e → Rest true ps end → Rest (opens g) (element_pieces g e ++ ps) end
unfolding element_pieces is_word_byte is_word_start
element_rest g (element.Plain k) ps end h r = word_rest g (type_word k) ps end (type_name k) r
element_rest g element.Structure ps end h r = word_rest g (codes "STRUCT") ps end (refl, refl) r
element_rest g (element.Udt name) ps end h r = block_rest g name ps end h r
element_rest g element.DateAndTime ps end h r = word_rest g (codes "DATE_AND_TIME") ps end (refl, refl) r

-- ---- initial values

value_rest : (g : Gap) (count : Option ℕ) (v : Literal) (ps : List Piece) (end : List ℕ) → IsCount count → IsPrintableLiteral v → Rest true ps end → Rest (opens g) (value_pieces g count v ++ ps) end
value_rest g None v ps end h k r = literal_rest g v ps end k r
value_rest g (Some count) v ps end h k r =
    number_rest g count (mark_piece gap.Blank mark_of.OpenParen ∷ ((literal_pieces gap.Nothing v ++ mark_piece gap.Nothing mark_of.CloseParen ∷ []) ++ ps)) end h
    (free_rest false gap.Blank mark_of.OpenParen ((literal_pieces gap.Nothing v ++ mark_piece gap.Nothing mark_of.CloseParen ∷ []) ++ ps) end refl
    (rest_joined false (literal_pieces gap.Nothing v) (mark_piece gap.Nothing mark_of.CloseParen ∷ []) ps end
    (literal_rest gap.Nothing v (mark_piece gap.Nothing mark_of.CloseParen ∷ ps) end k (closing_rest true gap.Nothing mark_of.CloseParen ps end refl refl r))))

init_rest : (g : Gap) (i : Init) (ps : List Piece) (end : List ℕ) → IsPrintableInit i → Rest true ps end → Rest (opens g) (init_pieces g i ++ ps) end
unfolding init_pieces
init_rest g i ps end (count, value) r = value_rest g i.count i.value ps end count value r

further_rest : (is : List Init) (ps : List Piece) (end : List ℕ) → AllByRecursion IsPrintableInit is → Rest true ps end → Rest true (further_inits is ++ ps) end
further_rest [] ps end h r = r
further_rest (i ∷ is) ps end (one, more) r =
    closing_rest true gap.Nothing mark_of.Comma ((init_pieces gap.Blank i ++ further_inits is) ++ ps) end refl refl
    (rest_joined true (init_pieces gap.Blank i) (further_inits is) ps end (init_rest gap.Blank i (further_inits is ++ ps) end one (further_rest is ps end more r)))

inits_rest : (is : List Init) (ps : List Piece) (end : List ℕ) → AllByRecursion IsPrintableInit is → Rest true ps end → Rest true (inits_pieces is ++ ps) end
inits_rest [] ps end h r = r
inits_rest (i ∷ is) ps end (one, more) r =
    free_rest true gap.Blank mark_of.Assign ((init_pieces gap.Blank i ++ further_inits is) ++ ps) end refl
    (rest_joined true (init_pieces gap.Blank i) (further_inits is) ps end (init_rest gap.Blank i (further_inits is ++ ps) end one (further_rest is ps end more r)))

-- ---- declarations and settings

ended_rest : (is : List Init) (ps : List Piece) (end : List ℕ) → AllByRecursion IsPrintableInit is → Rest true ps end → Rest true ((inits_pieces is ++ mark_piece gap.Nothing mark_of.Semicolon ∷ []) ++ ps) end
ended_rest is ps end h r =
    rest_joined true (inits_pieces is) (mark_piece gap.Nothing mark_of.Semicolon ∷ []) ps end
    (inits_rest is (mark_piece gap.Nothing mark_of.Semicolon ∷ ps) end h (closing_rest true gap.Nothing mark_of.Semicolon ps end refl refl r))

behind_rest : (e : ElementType) (is : List Init) (ps : List Piece) (end : List ℕ) → AllByRecursion IsPrintableInit is → Rest true ps end → Rest true (behind_type e is ++ ps) end
unfolding behind_type
behind_rest (element.Plain k) is ps end h r = ended_rest is ps end h r
behind_rest element.Structure is ps end h r = r
behind_rest (element.Udt name) is ps end h r = ended_rest is ps end h r
behind_rest element.DateAndTime is ps end h r = ended_rest is ps end h r

pub declaration_rest : (g : Gap) (d : Declaration) (ps : List Piece) (end : List ℕ) → IsPrintableDeclaration d → Rest true ps end → Rest (opens g) (declaration_pieces g d ++ ps) end
unfolding declaration_pieces
declaration_rest g d ps end (name, arrays, element, init) r =
    let behind = behind_rest d.of.of d.init ps end init r in
    let of_ = rest_joined true (element_pieces gap.Blank d.of.of) (behind_type d.of.of d.init) ps end (element_rest gap.Blank d.of.of (behind_type d.of.of d.init ++ ps) end element behind) in
    let whole = rest_joined true (flat_map array_pieces d.of.arrays) (element_pieces gap.Blank d.of.of ++ behind_type d.of.of d.init) ps end
    (arrays_rest d.of.arrays ((element_pieces gap.Blank d.of.of ++ behind_type d.of.of d.init) ++ ps) end arrays of_) in
    word_rest g d.name (mark_piece gap.Blank mark_of.Colon ∷ ((flat_map array_pieces d.of.arrays ++ (element_pieces gap.Blank d.of.of ++ behind_type d.of.of d.init)) ++ ps)) end name
    (colon_rest gap.Blank ((flat_map array_pieces d.of.arrays ++ (element_pieces gap.Blank d.of.of ++ behind_type d.of.of d.init)) ++ ps) end whole)

pub setting_rest : (g : Gap) (s : Setting) (ps : List Piece) (end : List ℕ) → IsPrintableSetting s → Rest true ps end → Rest (opens g) (setting_pieces g s ++ ps) end
unfolding setting_pieces
setting_rest g s ps end (path, value) r =
    let close = mark_piece gap.Nothing mark_of.Semicolon ∷ [] in
    rest_joined (opens g) (path_pieces g s.path) (mark_piece gap.Blank mark_of.Assign ∷ (literal_pieces gap.Blank s.value ++ close)) ps end
    (path_rest g s.path (mark_piece gap.Blank mark_of.Assign ∷ ((literal_pieces gap.Blank s.value ++ close) ++ ps)) end path
    (free_rest true gap.Blank mark_of.Assign ((literal_pieces gap.Blank s.value ++ close) ++ ps) end refl
    (rest_joined true (literal_pieces gap.Blank s.value) close ps end
    (literal_rest gap.Blank s.value (close ++ ps) end value (closing_rest true gap.Nothing mark_of.Semicolon ps end refl refl r)))))
