-- A clause takes a token at least: what follows it is shorter.
use Rattle.std.proofs.Common.{arith, ℕ, ◌≡◌, ◌≤◌, ◌<◌, ◌-◌, zero, suc, Bool, true, false, List, [], ◌∷◌, ◌++◌, length, Option, Some, None, ℤ, if◌then◌else◌, refl, ap}
use Rattle.std.specs.Option.{option_map, option_or, option_and_then}
use Rattle.std.proofs.lemmas.List.{length-drop}
use Rattle.plc_base.specs.declared.blocks.BlockKind.{BlockKind}
use Rattle.stl_lexer.specs.declared.kinds.Token.{Token}
use Rattle.stl_lexer.specs.declared.kinds.TokenKind.{TokenKind}
use Rattle.stl_ast.specs.declared.names.BlockName.{BlockName}
use Rattle.stl_ast.specs.declared.declarations.Bounds.{Bounds}
use Rattle.stl_ast.specs.declared.declarations.Declaration.{Declaration}
use Rattle.stl_ast.specs.declared.declarations.Simple.{Simple}
use Rattle.stl_parser.specs.declared.clauses.Clause.{Clause}
use Rattle.stl_parser.specs.declared.clauses.Clause.TheVariants as clause
use Rattle.stl_lexer.specs.declared.marks.Mark.TheVariants as mark
use Rattle.stl_parser.specs.Terminals.{has_kind, is_mark, is_key}
use Rattle.stl_parser.specs.declared.keywords.ClauseWord.TheVariants as key
use Rattle.stl_lexer.specs.declared.kinds.TokenKind.TheVariants as kind
use Rattle.std.specs.Prelude.{◌&&◌}
use Rattle.stl_parser.specs.declared.places.ClausePlace.{ClausePlace}
use Rattle.stl_parser.specs.declared.tables.HeadWord.{HeadWord}
use Rattle.stl_parser.specs.declared.tables.Keyword.{Keyword}
use Rattle.stl_parser.specs.Numbers.{signed_number_at, int_at}
use Rattle.stl_parser.specs.Parts.{parts_from}
use Rattle.stl_parser.specs.Addresses.{glued_letters_and_number, separate_letters_and_number, letters_and_number_at, block_number_at, quoted_block_at, block_at}
use Rattle.stl_parser.specs.Types.{array_end, array_high, array_at, arrays_end, arrays_at}
use Rattle.stl_parser.specs.Declarations.{after_attribute, after_colon, declared_name_at, after_struct, structure_at}
use Rattle.stl_parser.specs.Clauses.{skip_semicolon, until_semicolon, behind_note, block_of_kind_at, result_type, result_at, head_clause, inner_end, structure_end, keyword_clause, version_at, colon_and_word_at, head_word_at, head_word_clause, base_block_at, structure_clause, semicolon_clause, plain_clause, other_clause, free_word_clause, word_clause, clause_by_kind, clause_at}

chain : {A B : Type 0} (o : Option A) (f : A → Option B) (m : A → ℕ) (l : B → ℕ) (n : ℕ) (r : B) → option_and_then f o ≡ Some r →
    ((x : A) → o ≡ Some x → m x ≤ n) → ((x : A) (y : B) → f x ≡ Some y → l y ≤ m x) → l r ≤ n
chain None f m l n r h j k = cc
chain (Some x) f m l n r h j k = omega (arith, j x refl, k x r h)

mapped : {A B : Type 0} (o : Option A) (f : A → B) (l : B → ℕ) (n : ℕ) (r : B) → option_map f o ≡ Some r →
    ((x : A) → o ≡ Some x → l (f x) ≤ n) → l r ≤ n
mapped None f l n r h k = cc
mapped {B = B} (Some x) f l n r h k =
    let size : Option B → ℕ = λ o. elim o [ None ↦ 0 | Some y ↦ l y ] in omega (arith, k x refl, ap size h)

either : {B : Type 0} (a b : Option B) (l : B → ℕ) (n : ℕ) (r : B) → option_or a b ≡ Some r → ((y : B) → a ≡ Some y → l y ≤ n) →
    ((y : B) → b ≡ Some y → l y ≤ n) → l r ≤ n
either None b l n r h j k = k r h
either (Some x) b l n r h j k = j r h

branch_taken : {B : Type 0} (b : Bool) (o : Option B) (r : B) → (if b then o else None) ≡ Some r → o ≡ Some r
branch_taken true o r h = h
branch_taken false o r h = cc

glued_rest : {X : Type 0} (table : List (List ℕ × X)) (text : List ℕ) (rest : List Token) (r : X × ℕ × List Token) →
    glued_letters_and_number table text rest ≡ Some r → length r.2 ≤ length rest
unfolding glued_letters_and_number
glued_rest table text rest r h = grind arith

separate_rest : {X : Type 0} (table : List (List ℕ × X)) (source text : List ℕ) (rest : List Token) (r : X × ℕ × List Token) →
    separate_letters_and_number table source text rest ≡ Some r → length r.2 ≤ length rest
unfolding separate_letters_and_number
separate_rest table source text rest r h = grind arith

pub numbered_rest : {X : Type 0} (table : List (List ℕ × X)) (source : List ℕ) (tokens : List Token) (r : X × ℕ × List Token) →
    letters_and_number_at table source tokens ≡ Some r → length r.2 < length tokens
unfolding letters_and_number_at
numbered_rest table source tokens r h = grind (arith, glued_rest, separate_rest)

block_number_rest : (source : List ℕ) (tokens : List Token) (r : BlockKind × ℕ × List Token) →
    block_number_at source tokens ≡ Some r → length r.2 < length tokens
unfolding block_number_at
block_number_rest source tokens r h = grind (arith, numbered_rest)

quoted_rest : (source : List ℕ) (tokens : List Token) (r : BlockName × List Token) → quoted_block_at source tokens ≡ Some r →
    length r.1 < length tokens
unfolding quoted_block_at
quoted_rest source tokens r h = grind arith

pub block_rest : (source : List ℕ) (tokens : List Token) (r : BlockName × List Token) → block_at source tokens ≡ Some r →
    length r.1 < length tokens
unfolding block_at
block_rest source tokens r h = grind (arith, block_number_rest, quoted_rest)

named_rest : (source : List ℕ) (k : BlockKind) (tokens : List Token) (r : BlockName × List Token) → block_of_kind_at source k tokens ≡ Some r →
    length r.1 ≤ length tokens
unfolding block_of_kind_at
named_rest source k tokens r h = grind (arith, block_rest)

colon_rest : (source : List ℕ) (tokens rest : List Token) → after_colon source tokens ≡ Some rest → length rest ≤ length tokens
unfolding after_colon
colon_rest source tokens rest h = grind arith

type_rest : (source : List ℕ) (tokens : List Token) (r : Option Simple × List Token) → result_type source tokens ≡ Some r →
    length r.1 ≤ length tokens
unfolding result_type
type_rest source tokens r h = grind arith

function_result_rest : (source : List ℕ) (tokens : List Token) (r : Option Simple × List Token) →
    option_and_then (λ rest. result_type source rest) (after_colon source tokens) ≡ Some r → length r.1 ≤ length tokens
function_result_rest source tokens r h =
    chain (after_colon source tokens) (λ rest. result_type source rest) length (λ y. length y.1) (length tokens) r h
    (colon_rest source tokens) (type_rest source)

pub result_rest : (source : List ℕ) (k : BlockKind) (tokens : List Token) (r : Option Simple × List Token) → result_at source k tokens ≡ Some r →
    length r.1 ≤ length tokens
unfolding result_at
result_rest source k tokens r h = grind (arith, function_result_rest)

result_of_head : (source : List ℕ) (line : ℕ) (k : BlockKind) (b : BlockName × List Token) (r : Clause × List Token × Bool) →
    option_map (λ y. (clause.Head line k b.0 y.0, y.1, false)) (result_at source k b.1) ≡ Some r → length r.1 ≤ length b.1
result_of_head source line k b r h = grind (arith, result_rest)

head_rest : (source : List ℕ) (line : ℕ) (k : BlockKind) (tokens : List Token) (r : Clause × List Token × Bool) →
    head_clause source line k tokens ≡ Some r → length r.1 ≤ length tokens
unfolding head_clause
head_rest source line k tokens r h =
    chain (block_of_kind_at source k tokens) (λ b. option_map (λ y. (clause.Head line k b.0 y.0, y.1, false)) (result_at source k b.1))
    (λ b. length b.1) (λ y. length y.1) (length tokens) r h (named_rest source k tokens) (result_of_head source line k)

semicolon_skipped : (source : List ℕ) (tokens : List Token) → length (skip_semicolon source tokens) ≤ length tokens
unfolding skip_semicolon
semicolon_skipped source tokens = grind arith

structure_end_rest : (source : List ℕ) (p : ClausePlace) (tokens : List Token) (r : Clause × List Token × Bool) →
    structure_end source p tokens ≡ Some r → length r.1 ≤ length tokens
unfolding structure_end inner_end
structure_end_rest source p tokens r h = grind (arith, semicolon_skipped)

keyword_rest : (source : List ℕ) (p : ClausePlace) (line : ℕ) (k : Keyword) (tokens : List Token) (r : Clause × List Token × Bool) →
    keyword_clause source p line k tokens ≡ Some r → length r.1 ≤ length tokens
unfolding keyword_clause
keyword_rest source p line k tokens r h = grind (arith, head_rest, structure_end_rest)

note_rest : (source : List ℕ) (p : ClausePlace) (rest : List Token) → length (behind_note source p rest) ≤ length rest
unfolding behind_note
note_rest source p rest = grind (arith, semicolon_skipped)

head_word_rest : (source : List ℕ) (w : HeadWord) (tokens rest : List Token) → head_word_at source w tokens ≡ Some rest →
    length rest ≤ length tokens
unfolding head_word_at version_at colon_and_word_at
head_word_rest source w tokens rest h = grind arith

head_word_clause_rest : (source : List ℕ) (p : ClausePlace) (w : HeadWord) (tokens : List Token) (r : Clause × List Token × Bool) →
    head_word_clause source p w tokens ≡ Some r → length r.1 ≤ length tokens
unfolding head_word_clause
head_word_clause_rest source p w tokens r h = grind (arith, head_word_rest, note_rest)

based_rest : (source : List ℕ) (tokens : List Token) (r : Clause × List Token × Bool) → base_block_at source tokens ≡ Some r →
    length r.1 < length tokens
unfolding base_block_at
based_rest source tokens r h = grind (arith, block_rest)

int_rest : (source : List ℕ) (tokens : List Token) (r : ℤ × List Token) → int_at source tokens ≡ Some r → length r.1 ≤ length tokens
unfolding int_at signed_number_at
int_rest source tokens r h = grind arith

array_end_rest : (source : List ℕ) (low high : ℤ) (tokens : List Token) (r : Bounds × List Token) →
    array_end source low high tokens ≡ Some r → length r.1 ≤ length tokens
unfolding array_end
array_end_rest source low high tokens r h = grind arith

array_high_rest : (source : List ℕ) (low : ℤ) (tokens : List Token) (r : Bounds × List Token) → array_high source low tokens ≡ Some r →
    length r.1 ≤ length tokens
unfolding array_high
array_high_rest source low [] r h = cc
array_high_rest source low (t ∷ rest) r h =
    let within : length r.1 ≤ length rest = chain (int_at source rest) (λ i. array_end source low i.0 i.1) (λ i. length i.1) (λ y. length y.1) (length rest) r
    (branch_taken (is_mark source t mark.DotDot) _ r h) (int_rest source rest) (λ i y e. array_end_rest source low i.0 i.1 y e) in
    omega (arith, within)

array_rest : (source : List ℕ) (tokens : List Token) (r : Bounds × List Token) → array_at source tokens ≡ Some r →
    length r.1 ≤ length tokens
unfolding array_at
array_rest source [] r h = cc
array_rest source (a ∷ []) r h = cc
array_rest source (a ∷ b ∷ rest) r h =
    let found = branch_taken (is_key source a key.Array && is_mark source b mark.OpenBracket)
    (option_and_then (λ i. array_high source i.0 i.1) (int_at source rest)) r h in
    let within = chain (int_at source rest) (λ i. array_high source i.0 i.1) (λ i. length i.1) (λ y. length y.1) (length rest) r found
    (int_rest source rest) (λ i y e. array_high_rest source i.0 i.1 y e) in
    omega (arith, within)

arrays_end_rest : (source : List ℕ) (tokens rest : List Token) → arrays_end source tokens ≡ Some rest → length rest ≤ length tokens
unfolding arrays_end
arrays_end_rest source tokens rest h = grind arith

parts_rest : {X : Type 0} (end : List Token → Option (List Token)) (part : List Token → Option (X × List Token)) (read : List X) (n : ℕ)
    (tokens : List Token) (r : List X × List Token) → ((ts y : List Token) → end ts ≡ Some y → length y ≤ length ts) →
    ((ts : List Token) (y : X × List Token) → part ts ≡ Some y → length y.1 ≤ length ts) → parts_from end part read n tokens ≡ Some r →
    length r.1 ≤ length tokens
unfolding parts_from
parts_rest end part read zero tokens r j k h =
    mapped (end tokens) (λ y. (read, y)) (λ y. length y.1) (length tokens) r h (j tokens)
parts_rest end part read (suc n) tokens r j k h =
    either (option_map (λ y. (read, y)) (end tokens)) (option_and_then (λ p. parts_from end part (read ++ p.0 ∷ []) n p.1) (part tokens))
    (λ y. length y.1) (length tokens) r h (λ y e. mapped (end tokens) (λ z. (read, z)) (λ z. length z.1) (length tokens) y e (j tokens))
    (λ y e. chain (part tokens) (λ p. parts_from end part (read ++ p.0 ∷ []) n p.1) (λ p. length p.1) (λ z. length z.1) (length tokens) y e
    (k tokens) (λ p z f. parts_rest end part (read ++ p.0 ∷ []) n p.1 z j k f))

arrays_rest : (source : List ℕ) (tokens : List Token) (r : List Bounds × List Token) → arrays_at source tokens ≡ Some r →
    length r.1 ≤ length tokens
unfolding arrays_at
arrays_rest source tokens r h =
    parts_rest (arrays_end source) (array_at source) [] (length tokens) tokens r (arrays_end_rest source) (array_rest source) h

attribute_rest : (tokens : List Token) → length (after_attribute tokens) ≤ length tokens
unfolding after_attribute
attribute_rest tokens = grind arith

declared_rest : (source : List ℕ) (tokens : List Token) (r : Token × List Token) → declared_name_at source tokens ≡ Some r →
    length r.1 < length tokens
unfolding declared_name_at
declared_rest source [] r h = cc
declared_rest source (w ∷ rest) r h =
    let name : List Token → Token × List Token = λ y. (w, y) in
    let found = branch_taken (has_kind w kind.Word) (option_map name (after_colon source (after_attribute rest))) r h in
    let within = mapped (after_colon source (after_attribute rest)) name (λ y. length y.1) (length (after_attribute rest)) r found
    (colon_rest source (after_attribute rest)) in
    omega (arith, within, attribute_rest rest)

struct_rest : (source : List ℕ) (tokens rest : List Token) → after_struct source tokens ≡ Some rest → length rest ≤ length tokens
unfolding after_struct
struct_rest source tokens rest h = grind arith

structure_rest : (source : List ℕ) (level : ℕ) (tokens : List Token) (r : Declaration × List Token) →
    structure_at source level tokens ≡ Some r → length r.1 < length tokens
unfolding structure_at
structure_rest source level tokens r h =
    chain (declared_name_at source tokens) _ (λ d. suc (length d.1)) (λ y. suc (length y.1)) (length tokens) r h (declared_rest source tokens)
    (λ d y e. let within : length y.1 ≤ length d.1 = chain (arrays_at source d.1) _ (λ a. length a.1) (λ z. length z.1) (length d.1) y e (arrays_rest source d.1)
    (λ a z f. mapped (after_struct source a.1) _ (λ x. length x.1) (length a.1) z f (struct_rest source a.1)) in omega (arith, within))

structure_clause_rest : (source : List ℕ) (p : ClausePlace) (tokens : List Token) (r : Clause × List Token × Bool) →
    structure_clause source p tokens ≡ Some r → length r.1 < length tokens
unfolding structure_clause
structure_clause_rest source p tokens r h = grind (arith, structure_rest)

until_rest : (source : List ℕ) (tokens : List Token) (r : List Token × List Token) → until_semicolon source tokens ≡ Some r →
    length r.1 ≤ length tokens - 1
unfolding until_semicolon
until_rest source tokens r h = grind (arith, length-drop)

semicolon_rest : (source : List ℕ) (p : ClausePlace) (line : ℕ) (tokens : List Token) (r : Clause × List Token × Bool) →
    semicolon_clause source p line tokens ≡ Some r → length r.1 ≤ length tokens - 1
unfolding semicolon_clause
semicolon_rest source p line tokens r h = grind (arith, until_rest)

plain_rest : (source : List ℕ) (p : ClausePlace) (line : ℕ) (tokens : List Token) (r : Clause × List Token × Bool) →
    plain_clause source p line tokens ≡ Some r → length r.1 ≤ length tokens - 1
unfolding plain_clause
plain_rest source p line tokens r h = grind (arith, structure_clause_rest, semicolon_rest)

other_rest : (source : List ℕ) (p : ClausePlace) (line : ℕ) (tokens : List Token) (r : Clause × List Token × Bool) →
    other_clause source p line tokens ≡ Some r → length r.1 ≤ length tokens - 1
unfolding other_clause
other_rest source p line tokens r h = grind (arith, based_rest, plain_rest)

other_behind : (source : List ℕ) (p : ClausePlace) (line : ℕ) (t : Token) (more : List Token) (r : Clause × List Token × Bool) →
    other_clause source p line (t ∷ more) ≡ Some r → length r.1 ≤ length more
other_behind source p line t more r h = omega (arith, other_rest source p line (t ∷ more) r h)

free_word_rest : (source : List ℕ) (p : ClausePlace) (t : Token) (more : List Token) (w : Option HeadWord) (r : Clause × List Token × Bool) →
    free_word_clause source p t more (t ∷ more) w ≡ Some r → length r.1 ≤ length more
unfolding free_word_clause
free_word_rest source p t more w r h = grind (arith, head_word_clause_rest, other_behind)

word_rest : (source : List ℕ) (p : ClausePlace) (t : Token) (more : List Token) (k : Option Keyword) (r : Clause × List Token × Bool) →
    word_clause source p t more (t ∷ more) k ≡ Some r → length r.1 ≤ length more
unfolding word_clause
word_rest source p t more k r h = grind (arith, keyword_rest, free_word_rest)

kind_rest : (source : List ℕ) (p : ClausePlace) (t : Token) (more : List Token) (k : TokenKind) (r : Clause × List Token × Bool) →
    clause_by_kind source p t more (t ∷ more) k ≡ Some r → length r.1 ≤ length more
unfolding clause_by_kind
kind_rest source p t more k r h = grind (arith, word_rest, note_rest, other_behind)

-- what follows a clause is shorter
pub read_rest : (source : List ℕ) (p : ClausePlace) (t : Token) (more : List Token) (r : Clause × List Token × Bool) →
    clause_at source p (t ∷ more) ≡ Some r → length r.1 ≤ length more
unfolding clause_at
read_rest source p t more r h = kind_rest source p t more t.kind r h
