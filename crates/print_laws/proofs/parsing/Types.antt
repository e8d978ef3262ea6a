-- Declarations that are printed are read.
use Rattle.std.proofs.Common.{◌≡◌, ◌≤◌, refl, sym, ◌∙◌, ap, ℕ, zero, suc, Bool, true, false, List, [], ◌∷◌, ◌++◌, length, Option, Some, None, ℤ, pos, negsuc, arith, append_assoc}
use Rattle.std.specs.Prelude.{if◌then◌else◌, codes}
use Rattle.std.specs.List.{AllByRecursion}
use Rattle.std.specs.Str.{str_eq_ignore_ascii_case}
use Rattle.std.proofs.lemmas.List.{append-nil}
use Rattle.stl_lexer.specs.Marks.{mark_text}
use Rattle.stl_lexer.specs.Pieces.{Piece, tokens_of}
use Rattle.stl_lexer.specs.declared.kinds.Token.{Token}
use Rattle.stl_lexer.specs.declared.marks.Mark.TheVariants as mark
use Rattle.stl_ast.specs.Literals.{IsDecimal}
use Rattle.stl_ast.specs.declared.declarations.Bounds.{Bounds}
use Rattle.stl_ast.specs.declared.declarations.Init.{Init}
use Rattle.stl_ast.specs.declared.declarations.Simple.{Simple}
use Rattle.stl_ast.specs.declared.declarations.Simple.TheVariants as simple
use Rattle.stl_ast.specs.declared.literals.Literal.{Literal}
use Rattle.stl_ast.specs.declared.literals.Literal.TheVariants as literal
use Rattle.stl_ast.specs.Declarations.{IsCount}
use Rattle.stl_parser.specs.Literals.{literal_at, literal_token}
use Rattle.stl_parser.specs.Numbers.{int_at, number_of_token, number_up_to, signed_number_at}
use Rattle.stl_parser.specs.Parts.{parts_from, complete_reading}
use Rattle.stl_parser.specs.Statements.{after_paren}
use Rattle.stl_parser.specs.Tables.{look_up, simple_types}
use Rattle.stl_parser.specs.Terminals.{has_kind, is_key, is_mark, key_text}
use Rattle.stl_parser.specs.Types.{array_at, array_end, array_high, arrays_at, arrays_end, end_of_tokens, counted_init_at, counted_init_end, init_at, init_list, next_init}
use Rattle.stl_print.specs.Declarations.{array_pieces, further_inits, init_pieces, value_pieces}
use Rattle.stl_print.specs.Literals.{literal_pieces}
use Rattle.stl_print.specs.Pieces.{mark_piece}
use Rattle.stl_print.specs.Words.{type_word}
use Rattle.stl_print.specs.declared.gaps.Gap.{Gap}
use Rattle.stl_print.specs.declared.gaps.Gap.TheVariants as gap
use Rattle.print_laws.specs.Reading.{IsByteLiteral, IsPrintedInit}
use Rattle.print_laws.proofs.parsing.Constants.{byte_value}
use Rattle.print_laws.proofs.parsing.Numbers.{minus, number_read}
use Rattle.print_laws.proofs.parsing.Operands.{Texts, read_number}
use Rattle.print_laws.proofs.parsing.Shown.{behind, line_past, shown_behind, shown_front, tokens_joined}
use Rattle.print_laws.proofs.parsing.Tame.{flat}

-- ---- types

-- the word of an elementary type
pub record IsTypeWord (k : Simple) : Type 0 where
  pub found : look_up simple_types (type_word k) ≡ Some k
  pub no_array : str_eq_ignore_ascii_case (type_word k) (codes "ARRAY") ≡ false
  pub no_struct : str_eq_ignore_ascii_case (type_word k) (codes "STRUCT") ≡ false
  pub no_date : str_eq_ignore_ascii_case (type_word k) (codes "DATE_AND_TIME") ≡ false
  pub flat_text : flat (type_word k) ≡ true

pub type_found : (k : Simple) → IsTypeWord k
unfolding look_up simple_types type_word
type_found simple.Bool = record { found = refl; no_array = refl; no_struct = refl; no_date = refl; flat_text = refl }
type_found simple.Byte = record { found = refl; no_array = refl; no_struct = refl; no_date = refl; flat_text = refl }
type_found simple.Char = record { found = refl; no_array = refl; no_struct = refl; no_date = refl; flat_text = refl }
type_found simple.Word = record { found = refl; no_array = refl; no_struct = refl; no_date = refl; flat_text = refl }
type_found simple.Int = record { found = refl; no_array = refl; no_struct = refl; no_date = refl; flat_text = refl }
type_found simple.S5time = record { found = refl; no_array = refl; no_struct = refl; no_date = refl; flat_text = refl }
type_found simple.Dword = record { found = refl; no_array = refl; no_struct = refl; no_date = refl; flat_text = refl }
type_found simple.Dint = record { found = refl; no_array = refl; no_struct = refl; no_date = refl; flat_text = refl }
type_found simple.Time = record { found = refl; no_array = refl; no_struct = refl; no_date = refl; flat_text = refl }

bounds_read : (source : List ℕ) (from line : ℕ) (low high : ℤ) (rest : List Token) → IsDecimal low → IsDecimal high
    → Texts source from line (array_pieces (record { low = low; high = high }))
    → array_at source (tokens_of from line (array_pieces (record { low = low; high = high })) ++ rest) ≡ Some (record { low = low; high = high }, rest)
unfolding array_pieces array_at array_high array_end int_at signed_number_at number_of_token number_up_to is_key key_text is_mark has_kind mark_text
bounds_read source from line (pos m) (pos n) rest l h (_, x1, (_, x2, (_, x3, (_, x4, (_, x5, (_, x6, (_, x7, _))))))) =
    rw (x1, x2, x3, read_number m l, x4, x5, read_number n h, x6, x7) refl
bounds_read source from line (pos m) (negsuc n) rest l h (_, x1, (_, x2, (_, x3, (_, x4, (_, x5, (_, x6, (_, x7, (_, x8, _)))))))) =
    rw (x1, x2, x3, read_number m l, x4, x5, x6, number_read 32768 (suc n) h (omega arith), minus n, x7, x8) refl
bounds_read source from line (negsuc m) (pos n) rest l h (_, x1, (_, x2, (_, x3, (_, x4, (_, x5, (_, x6, (_, x7, (_, x8, _)))))))) =
    rw (x1, x2, x3, x4, number_read 32768 (suc m) l (omega arith), minus m, x5, x6, read_number n h, x7, x8) refl
bounds_read source from line (negsuc m) (negsuc n) rest l h (_, x1, (_, x2, (_, x3, (_, x4, (_, x5, (_, x6, (_, x7, (_, x8, (_, x9, _))))))))) =
    rw (x1, x2, x3, x4, number_read 32768 (suc m) l (omega arith), minus m, x5, x6, x7, number_read 32768 (suc n) h (omega arith), minus n, x8, x9) refl

pub array_read : (source : List ℕ) (from line : ℕ) (b : Bounds) (rest : List Token) → IsDecimal b.low → IsDecimal b.high → Texts source from line (array_pieces b)
    → array_at source (tokens_of from line (array_pieces b) ++ rest) ≡ Some (b, rest)
array_read source from line b rest l h t = bounds_read source from line b.low b.high rest l h t

pub parts_end : {X Y : Type 0} (end : List Token → Option Y) (part : List Token → Option (X × List Token)) (read : List X) (n : ℕ) (ts : List Token) (y : Y)
    → end ts ≡ Some y → parts_from end part read n ts ≡ Some (read, y)
unfolding parts_from
parts_end end part read zero ts y e = rw e refl
parts_end end part read (suc n) ts y e = rw e refl

pub array_found : (source : List ℕ) (u t : Token) (us ts : List Token) (b : Bounds) → array_at source (u ∷ us) ≡ Some (b, t ∷ ts) → array_at source (t ∷ ts) ≡ None
    → arrays_at source (u ∷ us) ≡ Some (b ∷ [], t ∷ ts)
unfolding arrays_at arrays_end parts_from
array_found source u t us ts b one none =
    rw one (parts_end (arrays_end source) (array_at source) (b ∷ []) (length us) (t ∷ ts) (t ∷ ts) (rw none refl))

-- ---- initial values

byte_at : (source : List ℕ) (from line : ℕ) (g : Gap) (v : ℕ) (rest : List Token) → v ≤ 255 → Texts source from line (literal_pieces g (literal.Byte v))
    → literal_at source (tokens_of from line (literal_pieces g (literal.Byte v)) ++ rest) ≡ Some (literal.Byte v, rest)
unfolding literal_pieces literal_at literal_token
byte_at source from line g v rest h (_, x1, _) = rw (x1, byte_value v h) refl

no_count_read : (source : List ℕ) (t : Token) (rest : List Token) → after_paren source rest ≡ None → counted_init_at source (t ∷ rest) ≡ None
unfolding counted_init_at after_paren
no_count_read source t [] h = refl
no_count_read source t (u ∷ us) h = by (is_mark source u mark.OpenParen) us _ h
  where
    by : (b : Bool) (us : List Token) (other : Option (Init × List Token)) → (if b then Some us else None) ≡ None → (if b then other else None) ≡ None
    by false us other e = refl
    by true us other e = absurd cc

count_read : (source : List ℕ) (from line : ℕ) (g : Gap) (n v : ℕ) (rest : List Token) → n ≤ 65535 → v ≤ 255
    → Texts source from line (value_pieces g (Some n) (literal.Byte v))
    → init_at source (tokens_of from line (value_pieces g (Some n) (literal.Byte v)) ++ rest) ≡ Some (record { count = Some n; value = literal.Byte v }, rest)
unfolding init_at counted_init_at counted_init_end number_of_token number_up_to literal_pieces literal_at literal_token is_mark has_kind mark_text
count_read source from line g n v rest c h (_, x1, (_, x2, (_, x3, (_, x4, _)))) = rw (x2, x1, read_number n c, x3, byte_value v h, x4) refl

value_read : (source : List ℕ) (from line : ℕ) (g : Gap) (count : Option ℕ) (value : Literal) (rest : List Token) → IsCount count → IsByteLiteral value
    → after_paren source rest ≡ None → Texts source from line (value_pieces g count value)
    → init_at source (tokens_of from line (value_pieces g count value) ++ rest) ≡ Some (record { count = count; value = value }, rest)
unfolding init_at literal_pieces
value_read source from line g None (literal.Byte v) rest c h none t =
    rw (no_count_read source _ rest none, byte_at source from line g v rest h t) refl
value_read source from line g (Some n) (literal.Byte v) rest c h none t = count_read source from line g n v rest c h t
value_read source from line g count (literal.Truth v) rest c h none t = absurd h
value_read source from line g count (literal.Number v) rest c h none t = absurd h
value_read source from line g count (literal.Word v) rest c h none t = absurd h
value_read source from line g count (literal.Dword v) rest c h none t = absurd h
value_read source from line g count (literal.Long v) rest c h none t = absurd h
value_read source from line g count (literal.Time v) rest c h none t = absurd h
value_read source from line g count (literal.Binary v) rest c h none t = absurd h
value_read source from line g count (literal.Count v) rest c h none t = absurd h
value_read source from line g count (literal.S5time v) rest c h none t = absurd h
value_read source from line g count (literal.Characters v) rest c h none t = absurd h
value_read source from line g count (literal.Bytes v) rest c h none t = absurd h

init_read : (source : List ℕ) (from line : ℕ) (g : Gap) (i : Init) (rest : List Token) → IsPrintedInit i → after_paren source rest ≡ None
    → Texts source from line (init_pieces g i) → init_at source (tokens_of from line (init_pieces g i) ++ rest) ≡ Some (i, rest)
unfolding init_pieces
init_read source from line g i rest h none t = value_read source from line g i.count i.value rest h.0 h.1 none t

further_apart : (source : List ℕ) (from line : ℕ) (is : List Init) → Texts source from line (further_inits is) → after_paren source (tokens_of from line (further_inits is)) ≡ None
unfolding after_paren is_mark has_kind mark_text
further_apart source from line [] t = refl
further_apart source from line (i ∷ is) (_, x1, t) = rw x1 refl

next_read : (source : List ℕ) (from line : ℕ) (g : Gap) (i : Init) (is : List Init) → IsPrintedInit i → Texts source from line (init_pieces g i ++ further_inits is)
    → init_at source (tokens_of from line (init_pieces g i ++ further_inits is))
    ≡ Some (i, tokens_of (behind from (init_pieces g i)) (line_past line (init_pieces g i)) (further_inits is))
next_read source from line g i is h t =
    ap (init_at source) (tokens_joined from line (init_pieces g i) (further_inits is))
    ∙ init_read source from line g i _ h (further_apart source _ _ is (shown_behind source from line (init_pieces g i) (further_inits is) t))
    (shown_front source from line (init_pieces g i) (further_inits is) t)

further_read : (source : List ℕ) (is read : List Init) (n from line : ℕ) → AllByRecursion IsPrintedInit is
    → Texts source from line (further_inits is) → length is ≤ n
    → parts_from end_of_tokens (next_init source) read n (tokens_of from line (further_inits is)) ≡ Some (read ++ is, [])
unfolding parts_from end_of_tokens next_init is_mark has_kind mark_text
further_read source [] read zero from line all t fits = ap (λ (l : List Init). Some (l, [])) (sym (append-nil read))
further_read source [] read (suc n) from line all t fits = ap (λ (l : List Init). Some (l, [])) (sym (append-nil read))
further_read source (i ∷ is) read zero from line all t fits = absurd (omega (arith, fits))
further_read source (i ∷ is) read (suc n) from line all (_, x1, t) fits =
    rw (x1, next_read source _ _ gap.Blank i is all.0 t)
    (further_read source is (read ++ i ∷ []) n _ _ all.1 (shown_behind source _ _ (init_pieces gap.Blank i) (further_inits is) t) (omega (arith, fits))
    ∙ ap (λ (l : List Init). Some (l, [])) (append_assoc read (i ∷ []) is))

counted_tokens : (ps : List Piece) (from line : ℕ) → length (tokens_of from line ps) ≡ length ps
counted_tokens [] from line = refl
counted_tokens (p ∷ ps) from line = ap suc (counted_tokens ps _ _)

long_joined : (ps qs : List Piece) → length qs ≤ length (ps ++ qs)
long_joined [] qs = omega arith
long_joined (p ∷ ps) qs = omega (arith, long_joined ps qs)

longer : (p : Piece) (ps qs : List Piece) → suc (length qs) ≤ length (p ∷ (ps ++ qs))
longer p ps qs = omega (arith, long_joined ps qs)

one_more : (i : Init) (is : List Init) → suc (length (further_inits is)) ≤ length (further_inits (i ∷ is))
one_more i is = longer (mark_piece gap.Nothing mark.Comma) (init_pieces gap.Blank i) (further_inits is)

fewer : (is : List Init) → length is ≤ length (further_inits is)
fewer [] = omega arith
fewer (i ∷ is) = omega (arith, fewer is, one_more i is)

enough : (from line : ℕ) (is : List Init) → length is ≤ length (tokens_of from line (further_inits is))
enough from line is = omega (arith, fewer is, counted_tokens (further_inits is) from line)

pub inits_read : (source : List ℕ) (from line : ℕ) (i : Init) (is : List Init) → AllByRecursion IsPrintedInit (i ∷ is)
    → Texts source from line (init_pieces gap.Blank i ++ further_inits is)
    → init_list source (tokens_of from line (init_pieces gap.Blank i ++ further_inits is)) ≡ Some (i ∷ is)
unfolding init_list
inits_read source from line i is all t =
    rw (next_read source from line gap.Blank i is all.0 t)
    (ap complete_reading (further_read source is (i ∷ []) _ _ _ all.1 (shown_behind source from line (init_pieces gap.Blank i) (further_inits is) t) (enough _ _ is)))
