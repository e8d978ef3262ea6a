-- Where the walk of a translation stands at the clauses of a right source.
use Rattle.std.proofs.Common.{ℕ, zero, suc, ◌≡◌, Bool, true, false, not, ◌&&◌, ◌||◌, List, [], ◌∷◌, find, cond, Option, Some, None, if◌then◌else◌, refl, sym, ◌∙◌, ap, subst, inl, inr}
use Rattle.std.specs.Prelude.{nat_eq, nat_lt, is_some}
use Rattle.std.specs.Option.{IfSome, option_map, option_or}
use Rattle.std.specs.List.{list_all}
use Rattle.std.specs.Str.{str_eq_ignore_ascii_case}
use Rattle.std.proofs.lemmas.Bool.{and_parts, false≢true, true≢false, false_from_ne_true, or_cases}
use Rattle.std.proofs.lemmas.Option.{none-some, same_Some}
use Rattle.plc_base.specs.Kinds.{is_code, kind_order}
use Rattle.plc_base.specs.declared.blocks.BlockKind.{BlockKind}
use Rattle.plc_base.specs.declared.blocks.BlockKind.TheVariants as kinds
use Rattle.stl_lexer.specs.Tokens.{text_of}
use Rattle.stl_lexer.specs.declared.kinds.Token.{Token}
use Rattle.stl_lexer.specs.declared.kinds.TokenKind.{TokenKind}
use Rattle.stl_lexer.specs.declared.kinds.TokenKind.TheVariants as kind
use Rattle.stl_ast.specs.Blocks.{has_shape, is_date_and_time, may_declare, may_have_section, part_rank}
use Rattle.stl_ast.specs.declared.blocks.PartKind.{PartKind}
use Rattle.stl_ast.specs.declared.statements.Statement.{Statement}
use Rattle.stl_ast.specs.Declarations.{is_elementary}
use Rattle.stl_ast.specs.Outline.{level_behind}
use Rattle.stl_ast.specs.declared.declarations.Declaration.{Declaration}
use Rattle.stl_parser.specs.declared.clauses.Clause.{Clause}
use Rattle.stl_parser.specs.declared.clauses.Clause.TheVariants as clause
use Rattle.stl_parser.specs.declared.places.ClausePlace.{ClausePlace}
use Rattle.stl_parser.specs.declared.places.ClausePlace.TheVariants as at
use Rattle.stl_parser.specs.declared.tables.HeadWord.{HeadWord}
use Rattle.stl_parser.specs.declared.tables.Keyword.{Keyword}
use Rattle.stl_parser.specs.declared.tables.Keyword.TheVariants as keyword
use Rattle.stl_parser.specs.Clauses.{base_block_at, behind_note, clause_at, clause_by_kind, declaration_clause, free_word_clause, head_clause, head_word_at, head_word_clause, in_data_head, inner_end, inside_clause, is_base_block, is_outer, keyword_clause, level_at, block_of_kind_at, other_clause, plain_clause, result_at, semicolon_clause, setting_clause, setting_of, skip_semicolon, statement_clause, structure_clause, structure_end, takes_parameters, until_semicolon, word_clause}
use Rattle.stl_parser.specs.Addresses.{block_at}
use Rattle.stl_parser.specs.Declarations.{declaration_of, structure_at}
use Rattle.stl_parser.specs.Statements.{statement_of}
use Rattle.stl_parser.specs.Frame.{next_place, next_place_between, next_place_in_body, next_place_in_head, next_place_outside, next_place_in_section, next_place_in_settings, next_place_in_shape, next_place_behind_shape, section_behind, shape_behind}
use Rattle.stl_parser.specs.Tables.{head_words, keywords, look_up}
use Rattle.stl_parser.specs.Terminals.{has_kind, is_mark, kind_rank}
use Rattle.stl_lexer.specs.declared.marks.Mark.TheVariants as mark
use Rattle.stl_parser.proofs.OptionLemmas.{both, chain_holds, either, else_holds, map_holds, none_holds, then_holds, some_holds, weaker_holds}
use Rattle.de_mnemonics.specs.declared.classes.TokenClass.{TokenClass}
use Rattle.de_mnemonics.specs.declared.classes.TokenClass.TheVariants as class
use Rattle.de_mnemonics.specs.declared.places.TokenPlace.{TokenPlace}
use Rattle.de_mnemonics.specs.declared.places.TokenPlace.TheVariants as place
use Rattle.de_mnemonics.specs.declared.roles.Role.TheVariants as role
use Rattle.de_mnemonics.specs.Places.{token_place_behind, place_behind_head, place_behind_outside, place_behind_sign, place_behind_start, place_behind_word, token_class, class_of_mark, is_word_in_list, is_mark_text, may_be_keyword, role_of, role_of_word}
use Rattle.de_mnemonics.specs.Tables.{begin_words, code_openings, data_openings, block_end_words, network_words}
use Rattle.de_mnemonics.specs.Translation.{token_class_in}
use Rattle.de_mnemonics.proofs.CaseLemmas.{same_among}
use Rattle.translation_laws.proofs.CalmLemmas.{calm_of, is_block_word, is_statement}
use Rattle.translation_laws.proofs.LookUpLemmas.{same_looked_up}
use Rattle.translation_laws.proofs.RoleLemmas.{behind_plain, is_plain_class, is_word_kind, kind_plain}

-- the walk stands outside of statements
abbrev pub is_quiet : TokenPlace → Bool
is_quiet place.Outside = true
is_quiet place.Head = true
is_quiet _ = false

-- where it stands in the head of a block of this kind
abbrev pub quiet_place : BlockKind → TokenPlace
quiet_place k = if is_code k then place.Head else place.Outside

-- and at a clause at this place
abbrev pub Stands : ClausePlace → TokenPlace → TokenClass → Type 0
Stands at.Outside pl b = (pl ≡ place.Outside) × (may_be_keyword b ≡ true)
Stands (at.Head k) pl b = (pl ≡ quiet_place k) × (may_be_keyword b ≡ true)
Stands (at.Section k p level) pl b = (pl ≡ place.Head) × (may_be_keyword b ≡ true) × (is_code k ≡ true)
Stands (at.Between k p) pl b = (pl ≡ place.Head) × (may_be_keyword b ≡ true) × (is_code k ≡ true)
Stands (at.Shape k level) pl b = (pl ≡ place.Outside) × (may_be_keyword b ≡ true)
Stands (at.Shaped k) pl b = (pl ≡ place.Outside) × (may_be_keyword b ≡ true)
Stands at.Settings pl b = (pl ≡ place.Outside) × (may_be_keyword b ≡ true)
Stands (at.Body k) pl b = (pl ≡ place.Start) × (is_code k ≡ true)

-- the place behind the first token of a clause
abbrev pub place_after : Clause → TokenPlace → TokenPlace
place_after (clause.Head line k name result) pl = quiet_place k
place_after clause.Begins place.Head = place.Start
place_after _ pl = pl

-- the place is in a body
abbrev pub is_body : ClausePlace → Bool
is_body (at.Body k) = true
is_body _ = false

-- a class is that of titles and attributes
abbrev pub is_note : TokenClass → Bool
is_note class.Note = true
is_note _ = false

-- ---- places of clauses

quiet_is : (k : BlockKind) → is_quiet (quiet_place k) ≡ true
quiet_is kinds.Ob = refl
quiet_is kinds.Fc = refl
quiet_is kinds.Fb = refl
quiet_is kinds.Db = refl
quiet_is kinds.Sfc = refl
quiet_is kinds.Udt = refl

quiet_code : (k : BlockKind) → is_code k ≡ true → quiet_place k ≡ place.Head
quiet_code kinds.Ob e = refl
quiet_code kinds.Fc e = refl
quiet_code kinds.Fb e = refl
quiet_code kinds.Db e = absurd (false≢true e)
quiet_code kinds.Sfc e = absurd (false≢true e)
quiet_code kinds.Udt e = absurd (false≢true e)

quiet_shape : (k : BlockKind) → has_shape k ≡ true → quiet_place k ≡ place.Outside
quiet_shape kinds.Ob e = absurd (false≢true e)
quiet_shape kinds.Fc e = absurd (false≢true e)
quiet_shape kinds.Fb e = absurd (false≢true e)
quiet_shape kinds.Db e = refl
quiet_shape kinds.Sfc e = absurd (false≢true e)
quiet_shape kinds.Udt e = refl

quiet_data : (k : BlockKind) → nat_eq (kind_order k) 3 ≡ true → quiet_place k ≡ place.Outside
quiet_data kinds.Ob e = absurd (false≢true e)
quiet_data kinds.Fc e = absurd (false≢true e)
quiet_data kinds.Fb e = absurd (false≢true e)
quiet_data kinds.Db e = refl
quiet_data kinds.Sfc e = absurd (false≢true e)
quiet_data kinds.Udt e = absurd (false≢true e)

code_parts : (k : BlockKind) (p : PartKind) → may_have_section k p ≡ true → is_code k ≡ true
unfolding may_have_section
code_parts kinds.Ob p e = refl
code_parts kinds.Fc p e = refl
code_parts kinds.Fb p e = refl
code_parts kinds.Db p e = absurd (false≢true e)
code_parts kinds.Sfc p e = absurd (false≢true e)
code_parts kinds.Udt p e = absurd (false≢true e)

pub stands_quiet : (cp : ClausePlace) (pl : TokenPlace) (b : TokenClass) → is_body cp ≡ false → Stands cp pl b
    → (is_quiet pl ≡ true) × (may_be_keyword b ≡ true)
stands_quiet at.Outside pl b no_ h = (ap is_quiet h.0, h.1)
stands_quiet (at.Head k) pl b no_ h = (ap is_quiet h.0 ∙ quiet_is k, h.1)
stands_quiet (at.Section k p level) pl b no_ h = (ap is_quiet h.0, h.1)
stands_quiet (at.Between k p) pl b no_ h = (ap is_quiet h.0, h.1)
stands_quiet (at.Shape k level) pl b no_ h = (ap is_quiet h.0, h.1)
stands_quiet (at.Shaped k) pl b no_ h = (ap is_quiet h.0, h.1)
stands_quiet at.Settings pl b no_ h = (ap is_quiet h.0, h.1)
stands_quiet (at.Body k) pl b no_ h = absurd (true≢false no_)

stands_at : (x next : ClausePlace) (pl : TokenPlace) (b : TokenClass) → Some x ≡ Some next → Stands x pl b → Stands next pl b
stands_at x next pl b e h = subst (λ n. Stands n pl b) (same_Some x next e) h

if_some : {A : Type 0} (b : Bool) (x y : A) → (if b then Some x else None) ≡ Some y → (b ≡ true) × (Some x ≡ Some y)
if_some true x y e = (refl, e)
if_some false x y e = absurd (none-some y e)

if_none : {A : Type 0} (b : Bool) (x y : A) → (if b then None else Some x) ≡ Some y → Some x ≡ Some y
if_none true x y e = absurd (none-some y e)
if_none false x y e = e

outside_after : (c : Clause) (next : ClausePlace) (pl : TokenPlace) (b : TokenClass) → pl ≡ place.Outside → next_place at.Outside c ≡ Some next → may_be_keyword b ≡ true
    → Stands next (place_after c pl) b
unfolding next_place next_place_outside next_place_in_head next_place_in_section next_place_between next_place_in_shape next_place_behind_shape next_place_in_settings
outside_after (clause.Head line e name result) next pl b is h ok = stands_at (at.Head e) next (quiet_place e) b h (refl, ok)
outside_after (clause.Ends line e) next pl b is h ok = absurd (none-some next h)
outside_after (clause.Section line q) next pl b is h ok = absurd (none-some next h)
outside_after clause.EndSection next pl b is h ok = absurd (none-some next h)
outside_after clause.Begins next pl b is h ok = absurd (none-some next h)
outside_after clause.Network next pl b is h ok = absurd (none-some next h)
outside_after clause.Structure next pl b is h ok = absurd (none-some next h)
outside_after clause.EndStructure next pl b is h ok = absurd (none-some next h)
outside_after (clause.Based name) next pl b is h ok = absurd (none-some next h)
outside_after clause.Note next pl b is h ok = absurd (none-some next h)
outside_after clause.Title next pl b is h ok = absurd (none-some next h)
outside_after (clause.Declares d) next pl b is h ok = absurd (none-some next h)
outside_after (clause.Sets v) next pl b is h ok = absurd (none-some next h)
outside_after (clause.Runs y) next pl b is h ok = absurd (none-some next h)

head_after : (k : BlockKind) (c : Clause) (next : ClausePlace) (pl : TokenPlace) (b : TokenClass) → pl ≡ quiet_place k → next_place (at.Head k) c ≡ Some next → may_be_keyword b ≡ true
    → Stands next (place_after c pl) b
unfolding next_place next_place_outside next_place_in_head next_place_in_section next_place_between next_place_in_shape next_place_behind_shape next_place_in_settings
head_after k (clause.Head line e name result) next pl b is h ok = absurd (none-some next h)
head_after k (clause.Ends line e) next pl b is h ok = absurd (none-some next h)
head_after k (clause.Section line q) next pl b is h ok =
    let parts = if_some (may_have_section k q) (at.Section k q 0) next h in
    let code : is_code k ≡ true = code_parts k q parts.0 in
    stands_at (at.Section k q 0) next pl b parts.1 (is ∙ quiet_code k code, ok, code)
head_after k clause.EndSection next pl b is h ok = absurd (none-some next h)
head_after k clause.Begins next pl b is h ok =
    let parts = if_some (is_code k) (at.Body k) next h in
    stands_at (at.Body k) next (place_after clause.Begins pl) b parts.1 (ap (place_after clause.Begins) (is ∙ quiet_code k parts.0), parts.0)
head_after k clause.Network next pl b is h ok = absurd (none-some next h)
head_after k clause.Structure next pl b is h ok =
    let parts = if_some (has_shape k) (at.Shape k 0) next h in
    stands_at (at.Shape k 0) next pl b parts.1 (is ∙ quiet_shape k parts.0, ok)
head_after k clause.EndStructure next pl b is h ok = absurd (none-some next h)
head_after k (clause.Based name) next pl b is h ok =
    let parts = if_some (nat_eq (kind_order k) 3) (at.Shaped k) next h in
    stands_at (at.Shaped k) next pl b parts.1 (is ∙ quiet_data k parts.0, ok)
head_after k clause.Note next pl b is h ok = stands_at (at.Head k) next pl b h (is, ok)
head_after k clause.Title next pl b is h ok = stands_at (at.Head k) next pl b h (is, ok)
head_after k (clause.Declares d) next pl b is h ok = absurd (none-some next h)
head_after k (clause.Sets v) next pl b is h ok = absurd (none-some next h)
head_after k (clause.Runs y) next pl b is h ok = absurd (none-some next h)

section_end : (k : BlockKind) (p : PartKind) (level : ℕ) (next : ClausePlace) (pl : TokenPlace) (b : TokenClass) → pl ≡ place.Head → is_code k ≡ true
    → section_behind k p level ≡ Some next → may_be_keyword b ≡ true → Stands next pl b
section_end k p zero next pl b is code h ok = absurd (none-some next h)
section_end k p (suc level) next pl b is code h ok = stands_at (at.Section k p level) next pl b h (is, ok, code)

section_after : (k : BlockKind) (p : PartKind) (level : ℕ) (c : Clause) (next : ClausePlace) (pl : TokenPlace) (b : TokenClass) → pl ≡ place.Head → is_code k ≡ true → next_place (at.Section k p level) c ≡ Some next → may_be_keyword b ≡ true
    → Stands next (place_after c pl) b
unfolding next_place next_place_outside next_place_in_head next_place_in_section next_place_between next_place_in_shape next_place_behind_shape next_place_in_settings
section_after k p level (clause.Head line e name result) next pl b is code h ok = absurd (none-some next h)
section_after k p level (clause.Ends line e) next pl b is code h ok = absurd (none-some next h)
section_after k p level (clause.Section line q) next pl b is code h ok = absurd (none-some next h)
section_after k p level clause.EndSection next pl b is code h ok = stands_at (at.Between k p) next pl b (if_some (nat_eq level 0) (at.Between k p) next h).1 (is, ok, code)
section_after k p level clause.Begins next pl b is code h ok = absurd (none-some next h)
section_after k p level clause.Network next pl b is code h ok = absurd (none-some next h)
section_after k p level clause.Structure next pl b is code h ok = absurd (none-some next h)
section_after k p level clause.EndStructure next pl b is code h ok = section_end k p level next pl b is code h ok
section_after k p level (clause.Based name) next pl b is code h ok = absurd (none-some next h)
section_after k p level clause.Note next pl b is code h ok = absurd (none-some next h)
section_after k p level clause.Title next pl b is code h ok = absurd (none-some next h)
section_after k p level (clause.Declares d) next pl b is code h ok =
    stands_at (at.Section k p (level_behind level d.of.of)) next pl b
    (if_some (may_declare k p level d) (at.Section k p (level_behind level d.of.of)) next h).1 (is, ok, code)
section_after k p level (clause.Sets v) next pl b is code h ok = absurd (none-some next h)
section_after k p level (clause.Runs y) next pl b is code h ok = absurd (none-some next h)

between_after : (k : BlockKind) (p : PartKind) (c : Clause) (next : ClausePlace) (pl : TokenPlace) (b : TokenClass) → pl ≡ place.Head → is_code k ≡ true → next_place (at.Between k p) c ≡ Some next → may_be_keyword b ≡ true
    → Stands next (place_after c pl) b
unfolding next_place next_place_outside next_place_in_head next_place_in_section next_place_between next_place_in_shape next_place_behind_shape next_place_in_settings
between_after k p (clause.Head line e name result) next pl b is code h ok = absurd (none-some next h)
between_after k p (clause.Ends line e) next pl b is code h ok = absurd (none-some next h)
between_after k p (clause.Section line q) next pl b is code h ok =
    stands_at (at.Section k q 0) next pl b (if_some (may_have_section k q && nat_lt (part_rank p) (part_rank q)) (at.Section k q 0) next h).1 (is, ok, code)
between_after k p clause.EndSection next pl b is code h ok = absurd (none-some next h)
between_after k p clause.Begins next pl b is code h ok = stands_at (at.Body k) next (place_after clause.Begins pl) b h (ap (place_after clause.Begins) is, code)
between_after k p clause.Network next pl b is code h ok = absurd (none-some next h)
between_after k p clause.Structure next pl b is code h ok = absurd (none-some next h)
between_after k p clause.EndStructure next pl b is code h ok = absurd (none-some next h)
between_after k p (clause.Based name) next pl b is code h ok = absurd (none-some next h)
between_after k p clause.Note next pl b is code h ok = absurd (none-some next h)
between_after k p clause.Title next pl b is code h ok = absurd (none-some next h)
between_after k p (clause.Declares d) next pl b is code h ok = absurd (none-some next h)
between_after k p (clause.Sets v) next pl b is code h ok = absurd (none-some next h)
between_after k p (clause.Runs y) next pl b is code h ok = absurd (none-some next h)

shape_end : (k : BlockKind) (level : ℕ) (next : ClausePlace) (pl : TokenPlace) (b : TokenClass) → pl ≡ place.Outside → shape_behind k level ≡ Some next
    → may_be_keyword b ≡ true → Stands next pl b
shape_end k zero next pl b is h ok = stands_at (at.Shaped k) next pl b h (is, ok)
shape_end k (suc level) next pl b is h ok = stands_at (at.Shape k level) next pl b h (is, ok)

shape_after : (k : BlockKind) (level : ℕ) (c : Clause) (next : ClausePlace) (pl : TokenPlace) (b : TokenClass) → pl ≡ place.Outside → next_place (at.Shape k level) c ≡ Some next → may_be_keyword b ≡ true
    → Stands next (place_after c pl) b
unfolding next_place next_place_outside next_place_in_head next_place_in_section next_place_between next_place_in_shape next_place_behind_shape next_place_in_settings
shape_after k level (clause.Head line e name result) next pl b is h ok = absurd (none-some next h)
shape_after k level (clause.Ends line e) next pl b is h ok = absurd (none-some next h)
shape_after k level (clause.Section line q) next pl b is h ok = absurd (none-some next h)
shape_after k level clause.EndSection next pl b is h ok = absurd (none-some next h)
shape_after k level clause.Begins next pl b is h ok = absurd (none-some next h)
shape_after k level clause.Network next pl b is h ok = absurd (none-some next h)
shape_after k level clause.Structure next pl b is h ok = absurd (none-some next h)
shape_after k level clause.EndStructure next pl b is h ok = shape_end k level next pl b is h ok
shape_after k level (clause.Based name) next pl b is h ok = absurd (none-some next h)
shape_after k level clause.Note next pl b is h ok = absurd (none-some next h)
shape_after k level clause.Title next pl b is h ok = absurd (none-some next h)
shape_after k level (clause.Declares d) next pl b is h ok =
    stands_at (at.Shape k (level_behind level d.of.of)) next pl b
    (if_none (is_date_and_time d.of.of) (at.Shape k (level_behind level d.of.of)) next h) (is, ok)
shape_after k level (clause.Sets v) next pl b is h ok = absurd (none-some next h)
shape_after k level (clause.Runs y) next pl b is h ok = absurd (none-some next h)

shaped_after : (k : BlockKind) (c : Clause) (next : ClausePlace) (pl : TokenPlace) (b : TokenClass) → pl ≡ place.Outside → next_place (at.Shaped k) c ≡ Some next
    → may_be_keyword b ≡ true → Stands next (place_after c pl) b
unfolding next_place next_place_outside next_place_in_head next_place_in_section next_place_between next_place_in_shape next_place_behind_shape next_place_in_settings
shaped_after kinds.Ob (clause.Head line e name result) next pl b is h ok = absurd (none-some next h)
shaped_after kinds.Ob (clause.Ends line e) next pl b is h ok = absurd (none-some next h)
shaped_after kinds.Ob (clause.Section line q) next pl b is h ok = absurd (none-some next h)
shaped_after kinds.Ob clause.EndSection next pl b is h ok = absurd (none-some next h)
shaped_after kinds.Ob clause.Begins next pl b is h ok = absurd (none-some next h)
shaped_after kinds.Ob clause.Network next pl b is h ok = absurd (none-some next h)
shaped_after kinds.Ob clause.Structure next pl b is h ok = absurd (none-some next h)
shaped_after kinds.Ob clause.EndStructure next pl b is h ok = absurd (none-some next h)
shaped_after kinds.Ob (clause.Based name) next pl b is h ok = absurd (none-some next h)
shaped_after kinds.Ob clause.Note next pl b is h ok = absurd (none-some next h)
shaped_after kinds.Ob clause.Title next pl b is h ok = absurd (none-some next h)
shaped_after kinds.Ob (clause.Declares d) next pl b is h ok = absurd (none-some next h)
shaped_after kinds.Ob (clause.Sets v) next pl b is h ok = absurd (none-some next h)
shaped_after kinds.Ob (clause.Runs y) next pl b is h ok = absurd (none-some next h)
shaped_after kinds.Fc (clause.Head line e name result) next pl b is h ok = absurd (none-some next h)
shaped_after kinds.Fc (clause.Ends line e) next pl b is h ok = absurd (none-some next h)
shaped_after kinds.Fc (clause.Section line q) next pl b is h ok = absurd (none-some next h)
shaped_after kinds.Fc clause.EndSection next pl b is h ok = absurd (none-some next h)
shaped_after kinds.Fc clause.Begins next pl b is h ok = absurd (none-some next h)
shaped_after kinds.Fc clause.Network next pl b is h ok = absurd (none-some next h)
shaped_after kinds.Fc clause.Structure next pl b is h ok = absurd (none-some next h)
shaped_after kinds.Fc clause.EndStructure next pl b is h ok = absurd (none-some next h)
shaped_after kinds.Fc (clause.Based name) next pl b is h ok = absurd (none-some next h)
shaped_after kinds.Fc clause.Note next pl b is h ok = absurd (none-some next h)
shaped_after kinds.Fc clause.Title next pl b is h ok = absurd (none-some next h)
shaped_after kinds.Fc (clause.Declares d) next pl b is h ok = absurd (none-some next h)
shaped_after kinds.Fc (clause.Sets v) next pl b is h ok = absurd (none-some next h)
shaped_after kinds.Fc (clause.Runs y) next pl b is h ok = absurd (none-some next h)
shaped_after kinds.Fb (clause.Head line e name result) next pl b is h ok = absurd (none-some next h)
shaped_after kinds.Fb (clause.Ends line e) next pl b is h ok = absurd (none-some next h)
shaped_after kinds.Fb (clause.Section line q) next pl b is h ok = absurd (none-some next h)
shaped_after kinds.Fb clause.EndSection next pl b is h ok = absurd (none-some next h)
shaped_after kinds.Fb clause.Begins next pl b is h ok = absurd (none-some next h)
shaped_after kinds.Fb clause.Network next pl b is h ok = absurd (none-some next h)
shaped_after kinds.Fb clause.Structure next pl b is h ok = absurd (none-some next h)
shaped_after kinds.Fb clause.EndStructure next pl b is h ok = absurd (none-some next h)
shaped_after kinds.Fb (clause.Based name) next pl b is h ok = absurd (none-some next h)
shaped_after kinds.Fb clause.Note next pl b is h ok = absurd (none-some next h)
shaped_after kinds.Fb clause.Title next pl b is h ok = absurd (none-some next h)
shaped_after kinds.Fb (clause.Declares d) next pl b is h ok = absurd (none-some next h)
shaped_after kinds.Fb (clause.Sets v) next pl b is h ok = absurd (none-some next h)
shaped_after kinds.Fb (clause.Runs y) next pl b is h ok = absurd (none-some next h)
shaped_after kinds.Db (clause.Head line e name result) next pl b is h ok = absurd (none-some next h)
shaped_after kinds.Db (clause.Ends line e) next pl b is h ok = absurd (none-some next h)
shaped_after kinds.Db (clause.Section line q) next pl b is h ok = absurd (none-some next h)
shaped_after kinds.Db clause.EndSection next pl b is h ok = absurd (none-some next h)
shaped_after kinds.Db clause.Begins next pl b is h ok = stands_at at.Settings next (place_after clause.Begins pl) b h (ap (place_after clause.Begins) is, ok)
shaped_after kinds.Db clause.Network next pl b is h ok = absurd (none-some next h)
shaped_after kinds.Db clause.Structure next pl b is h ok = absurd (none-some next h)
shaped_after kinds.Db clause.EndStructure next pl b is h ok = absurd (none-some next h)
shaped_after kinds.Db (clause.Based name) next pl b is h ok = absurd (none-some next h)
shaped_after kinds.Db clause.Note next pl b is h ok = absurd (none-some next h)
shaped_after kinds.Db clause.Title next pl b is h ok = absurd (none-some next h)
shaped_after kinds.Db (clause.Declares d) next pl b is h ok = absurd (none-some next h)
shaped_after kinds.Db (clause.Sets v) next pl b is h ok = absurd (none-some next h)
shaped_after kinds.Db (clause.Runs y) next pl b is h ok = absurd (none-some next h)
shaped_after kinds.Sfc (clause.Head line e name result) next pl b is h ok = absurd (none-some next h)
shaped_after kinds.Sfc (clause.Ends line e) next pl b is h ok = absurd (none-some next h)
shaped_after kinds.Sfc (clause.Section line q) next pl b is h ok = absurd (none-some next h)
shaped_after kinds.Sfc clause.EndSection next pl b is h ok = absurd (none-some next h)
shaped_after kinds.Sfc clause.Begins next pl b is h ok = absurd (none-some next h)
shaped_after kinds.Sfc clause.Network next pl b is h ok = absurd (none-some next h)
shaped_after kinds.Sfc clause.Structure next pl b is h ok = absurd (none-some next h)
shaped_after kinds.Sfc clause.EndStructure next pl b is h ok = absurd (none-some next h)
shaped_after kinds.Sfc (clause.Based name) next pl b is h ok = absurd (none-some next h)
shaped_after kinds.Sfc clause.Note next pl b is h ok = absurd (none-some next h)
shaped_after kinds.Sfc clause.Title next pl b is h ok = absurd (none-some next h)
shaped_after kinds.Sfc (clause.Declares d) next pl b is h ok = absurd (none-some next h)
shaped_after kinds.Sfc (clause.Sets v) next pl b is h ok = absurd (none-some next h)
shaped_after kinds.Sfc (clause.Runs y) next pl b is h ok = absurd (none-some next h)
shaped_after kinds.Udt (clause.Head line e name result) next pl b is h ok = absurd (none-some next h)
shaped_after kinds.Udt (clause.Ends line kinds.Ob) next pl b is h ok = absurd (none-some next h)
shaped_after kinds.Udt (clause.Ends line kinds.Fc) next pl b is h ok = absurd (none-some next h)
shaped_after kinds.Udt (clause.Ends line kinds.Fb) next pl b is h ok = absurd (none-some next h)
shaped_after kinds.Udt (clause.Ends line kinds.Db) next pl b is h ok = absurd (none-some next h)
shaped_after kinds.Udt (clause.Ends line kinds.Sfc) next pl b is h ok = absurd (none-some next h)
shaped_after kinds.Udt (clause.Ends line kinds.Udt) next pl b is h ok = stands_at at.Outside next pl b h (is, ok)
shaped_after kinds.Udt (clause.Section line q) next pl b is h ok = absurd (none-some next h)
shaped_after kinds.Udt clause.EndSection next pl b is h ok = absurd (none-some next h)
shaped_after kinds.Udt clause.Begins next pl b is h ok = absurd (none-some next h)
shaped_after kinds.Udt clause.Network next pl b is h ok = absurd (none-some next h)
shaped_after kinds.Udt clause.Structure next pl b is h ok = absurd (none-some next h)
shaped_after kinds.Udt clause.EndStructure next pl b is h ok = absurd (none-some next h)
shaped_after kinds.Udt (clause.Based name) next pl b is h ok = absurd (none-some next h)
shaped_after kinds.Udt clause.Note next pl b is h ok = absurd (none-some next h)
shaped_after kinds.Udt clause.Title next pl b is h ok = absurd (none-some next h)
shaped_after kinds.Udt (clause.Declares d) next pl b is h ok = absurd (none-some next h)
shaped_after kinds.Udt (clause.Sets v) next pl b is h ok = absurd (none-some next h)
shaped_after kinds.Udt (clause.Runs y) next pl b is h ok = absurd (none-some next h)

settings_after : (c : Clause) (next : ClausePlace) (pl : TokenPlace) (b : TokenClass) → pl ≡ place.Outside → next_place at.Settings c ≡ Some next
    → may_be_keyword b ≡ true → Stands next (place_after c pl) b
unfolding next_place next_place_outside next_place_in_head next_place_in_section next_place_between next_place_in_shape next_place_behind_shape next_place_in_settings
settings_after (clause.Head line e name result) next pl b is h ok = absurd (none-some next h)
settings_after (clause.Ends line kinds.Ob) next pl b is h ok = absurd (none-some next h)
settings_after (clause.Ends line kinds.Fc) next pl b is h ok = absurd (none-some next h)
settings_after (clause.Ends line kinds.Fb) next pl b is h ok = absurd (none-some next h)
settings_after (clause.Ends line kinds.Db) next pl b is h ok = stands_at at.Outside next pl b h (is, ok)
settings_after (clause.Ends line kinds.Sfc) next pl b is h ok = absurd (none-some next h)
settings_after (clause.Ends line kinds.Udt) next pl b is h ok = absurd (none-some next h)
settings_after (clause.Section line q) next pl b is h ok = absurd (none-some next h)
settings_after clause.EndSection next pl b is h ok = absurd (none-some next h)
settings_after clause.Begins next pl b is h ok = absurd (none-some next h)
settings_after clause.Network next pl b is h ok = absurd (none-some next h)
settings_after clause.Structure next pl b is h ok = absurd (none-some next h)
settings_after clause.EndStructure next pl b is h ok = absurd (none-some next h)
settings_after (clause.Based name) next pl b is h ok = absurd (none-some next h)
settings_after clause.Note next pl b is h ok = absurd (none-some next h)
settings_after clause.Title next pl b is h ok = absurd (none-some next h)
settings_after (clause.Declares d) next pl b is h ok = absurd (none-some next h)
settings_after (clause.Sets v) next pl b is h ok = stands_at at.Settings next pl b h (is, ok)
settings_after (clause.Runs y) next pl b is h ok = absurd (none-some next h)

pub stands_after : (cp : ClausePlace) (c : Clause) (next : ClausePlace) (pl : TokenPlace) (before behind : TokenClass) → is_body cp ≡ false → Stands cp pl before
    → next_place cp c ≡ Some next → may_be_keyword behind ≡ true → Stands next (place_after c pl) behind
stands_after at.Outside c next pl before behind no_ h e ok = outside_after c next pl behind h.0 e ok
stands_after (at.Head k) c next pl before behind no_ h e ok = head_after k c next pl behind h.0 e ok
stands_after (at.Section k p level) c next pl before behind no_ h e ok = section_after k p level c next pl behind h.0 h.2 e ok
stands_after (at.Between k p) c next pl before behind no_ h e ok = between_after k p c next pl behind h.0 h.2 e ok
stands_after (at.Shape k level) c next pl before behind no_ h e ok = shape_after k level c next pl behind h.0 e ok
stands_after (at.Shaped k) c next pl before behind no_ h e ok = shaped_after k c next pl behind h.0 e ok
stands_after at.Settings c next pl before behind no_ h e ok = settings_after c next pl behind h.0 e ok
stands_after (at.Body k) c next pl before behind no_ h e ok = absurd (true≢false no_)

-- a statement stands in a body alone
runs_nowhere : (cp : ClausePlace) (y : Statement) (next : ClausePlace) → is_body cp ≡ false → next_place cp (clause.Runs y) ≡ Some next → ⊥
unfolding next_place next_place_outside next_place_in_head next_place_in_section next_place_between next_place_in_shape next_place_behind_shape next_place_in_settings
runs_nowhere at.Outside y next no_ e = none-some next e
runs_nowhere (at.Head k) y next no_ e = none-some next e
runs_nowhere (at.Section k p level) y next no_ e = none-some next e
runs_nowhere (at.Between k p) y next no_ e = none-some next e
runs_nowhere (at.Shape k level) y next no_ e = none-some next e
runs_nowhere (at.Shaped kinds.Ob) y next no_ e = none-some next e
runs_nowhere (at.Shaped kinds.Fc) y next no_ e = none-some next e
runs_nowhere (at.Shaped kinds.Fb) y next no_ e = none-some next e
runs_nowhere (at.Shaped kinds.Db) y next no_ e = none-some next e
runs_nowhere (at.Shaped kinds.Sfc) y next no_ e = none-some next e
runs_nowhere (at.Shaped kinds.Udt) y next no_ e = none-some next e
runs_nowhere at.Settings y next no_ e = none-some next e
runs_nowhere (at.Body k) y next no_ e = true≢false no_

pub no_statement : (cp : ClausePlace) (c : Clause) (next : ClausePlace) → is_body cp ≡ false → next_place cp c ≡ Some next → is_statement c ≡ false
no_statement cp (clause.Head line e name result) next no_ h = refl
no_statement cp (clause.Ends line e) next no_ h = refl
no_statement cp (clause.Section line q) next no_ h = refl
no_statement cp clause.EndSection next no_ h = refl
no_statement cp clause.Begins next no_ h = refl
no_statement cp clause.Network next no_ h = refl
no_statement cp clause.Structure next no_ h = refl
no_statement cp clause.EndStructure next no_ h = refl
no_statement cp (clause.Based name) next no_ h = refl
no_statement cp clause.Note next no_ h = refl
no_statement cp clause.Title next no_ h = refl
no_statement cp (clause.Declares d) next no_ h = refl
no_statement cp (clause.Sets v) next no_ h = refl
no_statement cp (clause.Runs y) next no_ h = absurd (runs_nowhere cp y next no_ h)

-- ---- keywords

-- two tests agree
abbrev agree : Bool → Bool → Bool
agree true true = true
agree false false = true
agree _ _ = false

same_if_agreed : (a b : Bool) → agree a b ≡ true → a ≡ b
same_if_agreed true true e = refl
same_if_agreed false false e = refl
same_if_agreed true false e = absurd (false≢true e)
same_if_agreed false true e = absurd (false≢true e)

-- which of the walk's words a keyword is
abbrev code_key : Keyword → Bool
code_key (keyword.Opens k) = is_code k
code_key _ = false

abbrev data_key : Keyword → Bool
data_key (keyword.Opens k) = not (is_code k)
data_key _ = false

abbrev begin_key : Keyword → Bool
begin_key keyword.Begin = true
begin_key _ = false

abbrev end_key : Keyword → Bool
end_key (keyword.Ends k) = is_code k
end_key _ = false

abbrev network_key : Keyword → Bool
network_key keyword.Network = true
network_key _ = false

abbrev fits : List ℕ → Keyword → Bool
fits word k =
    agree (is_word_in_list code_openings word) (code_key k) && (agree (is_word_in_list data_openings word) (data_key k)
    && (agree (is_word_in_list begin_words word) (begin_key k) && (agree (is_word_in_list block_end_words word) (end_key k)
    && agree (is_word_in_list network_words word) (network_key k))))

same_fits : (a b : List ℕ) (k : Keyword) → str_eq_ignore_ascii_case a b ≡ true → fits a k ≡ fits b k
same_fits a b k e =
    rw (same_among code_openings a b e, same_among data_openings a b e, same_among begin_words a b e, same_among block_end_words a b e, same_among network_words a b e) refl

-- a test of a word and what stands beside it
entry_fits : {X : Type 0} (table : List (List ℕ × X)) (word : List ℕ) (test : List ℕ → X → Bool)
    → ((a b : List ℕ) (x : X) → str_eq_ignore_ascii_case a b ≡ true → test a x ≡ test b x) → list_all (λ e. test e.0 e.1) table ≡ true
    → IfSome (look_up table word) (λ x. test word x ≡ true)
unfolding look_up
entry_fits [] word test same all = tt
entry_fits {X} (p ∷ ps) word test same all =
    let parts = and_parts (test p.0 p.1) (list_all (λ e. test e.0 e.1) ps) all in
    by_test (str_eq_ignore_ascii_case word p.0) refl parts.0 (entry_fits ps word test same parts.1)
  where
    by_test : (b : Bool) → str_eq_ignore_ascii_case word p.0 ≡ b → test p.0 p.1 ≡ true
        → IfSome (option_map (λ q. q.1) (find (λ q. str_eq_ignore_ascii_case word q.0) ps)) (λ x. test word x ≡ true)
        → IfSome (option_map (λ q. q.1) (cond b (Some p) (find (λ q. str_eq_ignore_ascii_case word q.0) ps))) (λ x. test word x ≡ true)
    by_test true is here more = same word p.0 p.1 is ∙ here
    by_test false is here more = more

keywords_fit : list_all (λ e. fits e.0 e.1) keywords ≡ true
unfolding keywords is_word_in_list code_openings data_openings begin_words block_end_words network_words
keywords_fit = refl

-- what the walk makes of a keyword
record KeyFits (word : List ℕ) (k : Keyword) : Type 0 where
  code : is_word_in_list code_openings word ≡ code_key k
  data_ : is_word_in_list data_openings word ≡ data_key k
  begin : is_word_in_list begin_words word ≡ begin_key k
  ends : is_word_in_list block_end_words word ≡ end_key k
  network : is_word_in_list network_words word ≡ network_key k

key_fits : (word : List ℕ) (k : Keyword) → look_up keywords word ≡ Some k → KeyFits word k
key_fits word k e =
    let all : fits word k ≡ true = some_holds (look_up keywords word) k (λ x. fits word x ≡ true) e (entry_fits keywords word fits same_fits keywords_fit) in
    let first = and_parts (agree (is_word_in_list code_openings word) (code_key k)) (agree (is_word_in_list data_openings word) (data_key k) && (agree (is_word_in_list begin_words word) (begin_key k) && (agree (is_word_in_list block_end_words word) (end_key k) && agree (is_word_in_list network_words word) (network_key k)))) all in
    let second = and_parts (agree (is_word_in_list data_openings word) (data_key k)) (agree (is_word_in_list begin_words word) (begin_key k) && (agree (is_word_in_list block_end_words word) (end_key k) && agree (is_word_in_list network_words word) (network_key k))) first.1 in
    let third = and_parts (agree (is_word_in_list begin_words word) (begin_key k)) (agree (is_word_in_list block_end_words word) (end_key k) && agree (is_word_in_list network_words word) (network_key k)) second.1 in
    let fourth = and_parts (agree (is_word_in_list block_end_words word) (end_key k)) (agree (is_word_in_list network_words word) (network_key k)) third.1 in
    record {
      code = same_if_agreed (is_word_in_list code_openings word) (code_key k) first.0;
      data_ = same_if_agreed (is_word_in_list data_openings word) (data_key k) second.0;
      begin = same_if_agreed (is_word_in_list begin_words word) (begin_key k) third.0;
      ends = same_if_agreed (is_word_in_list block_end_words word) (end_key k) fourth.0;
      network = same_if_agreed (is_word_in_list network_words word) (network_key k) fourth.1;
    }

-- each of the walk's words is a keyword
abbrev is_key_word : List ℕ → Bool
is_key_word word = is_some (look_up keywords word)

same_key_word : (a b : List ℕ) → str_eq_ignore_ascii_case a b ≡ true → is_key_word a ≡ is_key_word b
same_key_word a b e = ap is_some (same_looked_up keywords a b e)

among_keys : (table : List (List ℕ)) (word : List ℕ) → list_all is_key_word table ≡ true → is_word_in_list table word ≡ true → is_key_word word ≡ true
unfolding is_word_in_list
among_keys [] word all e = absurd (false≢true e)
among_keys (x ∷ xs) word all e =
    let parts = and_parts (is_key_word x) (list_all is_key_word xs) all in
    elim (or_cases (str_eq_ignore_ascii_case word x) (is_word_in_list xs word) e) [
      | inl same ↦ same_key_word word x same ∙ parts.0
      | inr more ↦ among_keys xs word parts.1 more
    ]

none_among : (table : List (List ℕ)) (word : List ℕ) → list_all is_key_word table ≡ true → look_up keywords word ≡ None → is_word_in_list table word ≡ false
none_among table word all none =
    false_from_ne_true (is_word_in_list table word) (λ is. false≢true (sym (ap is_some none) ∙ among_keys table word all is))

code_keys : list_all is_key_word code_openings ≡ true
unfolding look_up keywords code_openings
code_keys = refl

data_keys : list_all is_key_word data_openings ≡ true
unfolding look_up keywords data_openings
data_keys = refl

begin_keys : list_all is_key_word begin_words ≡ true
unfolding look_up keywords begin_words
begin_keys = refl

end_keys : list_all is_key_word block_end_words ≡ true
unfolding look_up keywords block_end_words
end_keys = refl

network_keys : list_all is_key_word network_words ≡ true
unfolding look_up keywords network_words
network_keys = refl

-- ---- the walk at a word

walk_to : TokenPlace → (code data_ begin : Bool) → TokenPlace
walk_to place.Outside code data_ begin = if code then place.Head else place.Outside
walk_to place.Head code data_ begin = if begin then place.Start else (if data_ then place.Outside else place.Head)
walk_to pl code data_ begin = pl

word_walk : (pl : TokenPlace) (b : TokenClass) (x : List ℕ) (n : TokenClass) → is_quiet pl ≡ true → may_be_keyword b ≡ true
    → token_place_behind pl b class.Word x n ≡ walk_to pl (is_word_in_list code_openings x) (is_word_in_list data_openings x) (is_word_in_list begin_words x)
unfolding token_place_behind place_behind_word place_behind_outside place_behind_head walk_to
word_walk place.Outside b x n quiet may = rw may refl
word_walk place.Head b x n quiet may = rw may (by (is_word_in_list begin_words x) (is_word_in_list data_openings x))
  where
    by : (c d : Bool) → (if c then place.Start else (if d then place.Outside else place.Head)) ≡ (if c then place.Start else (if d then place.Outside else place.Head))
    by c d = refl
word_walk place.Start b x n quiet may = absurd (false≢true quiet)
word_walk place.Label b x n quiet may = absurd (false≢true quiet)
word_walk place.Labelled b x n quiet may = absurd (false≢true quiet)
word_walk place.Jump b x n quiet may = absurd (false≢true quiet)
word_walk place.Instruction b x n quiet may = absurd (false≢true quiet)
word_walk place.Closing b x n quiet may = absurd (false≢true quiet)
word_walk place.Path b x n quiet may = absurd (false≢true quiet)
word_walk place.Inside b x n quiet may = absurd (false≢true quiet)

stays_put : (pl : TokenPlace) → is_quiet pl ≡ true → walk_to pl false false false ≡ pl
unfolding walk_to
stays_put place.Outside e = refl
stays_put place.Head e = refl
stays_put place.Start e = absurd (false≢true e)
stays_put place.Label e = absurd (false≢true e)
stays_put place.Labelled e = absurd (false≢true e)
stays_put place.Jump e = absurd (false≢true e)
stays_put place.Instruction e = absurd (false≢true e)
stays_put place.Closing e = absurd (false≢true e)
stays_put place.Path e = absurd (false≢true e)
stays_put place.Inside e = absurd (false≢true e)

plain_walk : (pl : TokenPlace) (b c : TokenClass) (x : List ℕ) (n : TokenClass) → is_quiet pl ≡ true → is_plain_class c ≡ true → token_place_behind pl b c x n ≡ pl
unfolding place_behind_sign
plain_walk place.Outside b c x n e plain = behind_plain place.Outside b c x n plain
plain_walk place.Head b c x n e plain = behind_plain place.Head b c x n plain
plain_walk place.Start b c x n e plain = absurd (false≢true e)
plain_walk place.Label b c x n e plain = absurd (false≢true e)
plain_walk place.Labelled b c x n e plain = absurd (false≢true e)
plain_walk place.Jump b c x n e plain = absurd (false≢true e)
plain_walk place.Instruction b c x n e plain = absurd (false≢true e)
plain_walk place.Closing b c x n e plain = absurd (false≢true e)
plain_walk place.Path b c x n e plain = absurd (false≢true e)
plain_walk place.Inside b c x n e plain = absurd (false≢true e)

free_walk : (pl : TokenPlace) (b : TokenClass) (x : List ℕ) (n : TokenClass) → is_quiet pl ≡ true → may_be_keyword b ≡ true → look_up keywords x ≡ None
    → token_place_behind pl b class.Word x n ≡ pl
free_walk pl b x n quiet may none =
    word_walk pl b x n quiet may
    ∙ ap (λ c. walk_to pl c (is_word_in_list data_openings x) (is_word_in_list begin_words x)) (none_among code_openings x code_keys none)
    ∙ ap (λ c. walk_to pl false c (is_word_in_list begin_words x)) (none_among data_openings x data_keys none)
    ∙ ap (λ c. walk_to pl false false c) (none_among begin_words x begin_keys none)
    ∙ stays_put pl quiet

key_walk : (pl : TokenPlace) (b : TokenClass) (x : List ℕ) (n : TokenClass) (k : Keyword) → is_quiet pl ≡ true → may_be_keyword b ≡ true → KeyFits x k
    → token_place_behind pl b class.Word x n ≡ walk_to pl (code_key k) (data_key k) (begin_key k)
key_walk pl b x n k quiet may h =
    word_walk pl b x n quiet may
    ∙ ap (λ c. walk_to pl c (is_word_in_list data_openings x) (is_word_in_list begin_words x)) h.code
    ∙ ap (λ c. walk_to pl (code_key k) c (is_word_in_list begin_words x)) h.data_
    ∙ ap (λ c. walk_to pl (code_key k) (data_key k) c) h.begin

-- ---- clauses that begin with no keyword

-- a clause that is a declaration, a setting, a statement, or names what a block is based on
abbrev is_plain : Clause → Bool
is_plain (clause.Based name) = true
is_plain (clause.Declares d) = true
is_plain (clause.Sets v) = true
is_plain (clause.Runs y) = true
is_plain _ = false

abbrev IsPlain : {X : Type 0} → Clause × X → Type 0
IsPlain r = is_plain r.0 ≡ true

abbrev IsPlainRead : Clause × List Token × Bool → Type 0
IsPlainRead r = is_plain r.0 ≡ true

inside_plain : (s : List ℕ) (cp : ClausePlace) (line : ℕ) (inside : List Token) → IfSome (inside_clause s cp line inside) (IsPlain {X = Bool})
unfolding inside_clause declaration_clause statement_clause setting_clause
inside_plain s cp line inside =
    either (declaration_clause s cp inside) _ (IsPlain {X = Bool})
    (chain_holds (declaration_of s (level_at cp) inside) _ (λ d. Unit {0}) (IsPlain {X = Bool}) (none_holds (declaration_of s (level_at cp) inside))
    (λ d k. else_holds (takes_parameters cp && not (is_elementary d)) (Some (clause.Declares d, false)) (IsPlain {X = Bool}) (λ is. refl)))
    (either (statement_clause s line inside) (setting_clause s line inside) (IsPlain {X = Bool})
    (map_holds (statement_of s line inside) (λ r. (clause.Runs r.0, r.1)) (λ r. Unit {0}) (IsPlain {X = Bool}) (none_holds (statement_of s line inside)) (λ r k. refl))
    (map_holds (setting_of s line inside) (λ v. (clause.Sets v, false)) (λ v. Unit {0}) (IsPlain {X = Bool}) (none_holds (setting_of s line inside)) (λ v k. refl)))

other_plain : (s : List ℕ) (cp : ClausePlace) (line : ℕ) (tokens : List Token) → IfSome (other_clause s cp line tokens) IsPlainRead
unfolding other_clause plain_clause structure_clause semicolon_clause base_block_at
other_plain s cp line tokens =
    both (in_data_head cp) (option_or (base_block_at s tokens) (plain_clause s cp line tokens)) (plain_clause s cp line tokens) IsPlainRead
    (either (base_block_at s tokens) (plain_clause s cp line tokens) IsPlainRead based plain) plain
  where
    to_clause : Declaration × List Token → Clause × List Token × Bool
    to_clause r = (clause.Declares r.0, r.1, false)

    plain : IfSome (plain_clause s cp line tokens) IsPlainRead
    plain =
        either (structure_clause s cp tokens) (semicolon_clause s cp line tokens) IsPlainRead
        (else_holds (takes_parameters cp) (option_map to_clause (structure_at s (level_at cp) tokens)) IsPlainRead
        (λ is. map_holds (structure_at s (level_at cp) tokens) to_clause (λ r. Unit {0}) IsPlainRead (none_holds (structure_at s (level_at cp) tokens)) (λ r k. refl)))
        (chain_holds (until_semicolon s tokens) (λ cut. option_map (λ c. (c.0, cut.1, c.1)) (inside_clause s cp line cut.0)) (λ cut. Unit {0}) IsPlainRead
        (none_holds (until_semicolon s tokens))
        (λ cut k. map_holds (inside_clause s cp line cut.0) (λ c. (c.0, cut.1, c.1)) (IsPlain {X = Bool}) IsPlainRead (inside_plain s cp line cut.0) (λ c i. i)))

    based : IfSome (base_block_at s tokens) IsPlainRead
    based =
        chain_holds (block_at s tokens) _ (λ r. Unit {0}) IsPlainRead (none_holds (block_at s tokens))
        (λ r k. then_holds (is_base_block r.0) (Some (clause.Based r.0, r.1, false)) IsPlainRead (λ is. refl))

plain_after : (c : Clause) (pl : TokenPlace) → is_plain c ≡ true → place_after c pl ≡ pl
plain_after (clause.Head line e name result) pl h = absurd (false≢true h)
plain_after (clause.Ends line e) pl h = absurd (false≢true h)
plain_after (clause.Section line q) pl h = absurd (false≢true h)
plain_after clause.EndSection pl h = absurd (false≢true h)
plain_after clause.Begins pl h = absurd (false≢true h)
plain_after clause.Network pl h = absurd (false≢true h)
plain_after clause.Structure pl h = absurd (false≢true h)
plain_after clause.EndStructure pl h = absurd (false≢true h)
plain_after (clause.Based name) pl h = refl
plain_after clause.Note pl h = absurd (false≢true h)
plain_after clause.Title pl h = absurd (false≢true h)
plain_after (clause.Declares d) pl h = refl
plain_after (clause.Sets v) pl h = refl
plain_after (clause.Runs y) pl h = refl

inner_ends : (s : List ℕ) (ts : List Token) → IfSome (inner_end s ts) (λ r. r.0 ≡ clause.EndStructure)
unfolding inner_end
inner_ends s [] = tt
inner_ends s (t ∷ ts) = then_holds (is_mark s t mark.Semicolon) (Some (clause.EndStructure, ts, false)) (λ r. r.0 ≡ clause.EndStructure) (λ is. refl)

note_none : (a b c d e f g h : Bool)
    → is_note (if a then class.Semicolon else (if b then class.Dot else (if c then class.Assign else (if d then class.Colon
    else (if e then class.OpenBracket else (if f then class.OpenParen else (if g then class.CloseParen else (if h then class.Pointer else class.Other)))))))) ≡ false
note_none true b c d e f g h = refl
note_none false true c d e f g h = refl
note_none false false true d e f g h = refl
note_none false false false true e f g h = refl
note_none false false false false true f g h = refl
note_none false false false false false true g h = refl
note_none false false false false false false true h = refl
note_none false false false false false false false true = refl
note_none false false false false false false false false = refl

-- END_STRUCT
structure_ends : (s : List ℕ) (cp : ClausePlace) (ts : List Token) → IfSome (structure_end s cp ts) (λ r. r.0 ≡ clause.EndStructure)
unfolding structure_end
structure_ends s cp ts =
    both (nat_lt 0 (level_at cp)) (inner_end s ts) (Some (clause.EndStructure, skip_semicolon s ts, false)) (λ r. r.0 ≡ clause.EndStructure) (inner_ends s ts) refl

-- the class of a mark is none of titles and attributes
mark_no_note : (x : List ℕ) → is_note (class_of_mark x) ≡ false
unfolding class_of_mark
mark_no_note x =
    note_none (is_mark_text x mark.Semicolon) (is_mark_text x mark.Dot) (is_mark_text x mark.Assign) (is_mark_text x mark.Colon) (is_mark_text x mark.OpenBracket)
    (is_mark_text x mark.OpenParen) (is_mark_text x mark.CloseParen) (is_mark_text x mark.Pointer)

-- ---- the first token of a clause outside of bodies

-- a clause of a head's word
note_read : (s : List ℕ) (cp : ClausePlace) (w : HeadWord) (rest : List Token) → IfSome (head_word_clause s cp w rest) (λ r. r.0 ≡ clause.Note)
unfolding head_word_clause
note_read s cp w rest =
    map_holds (head_word_at s w rest) (λ behind. (clause.Note, behind_note s cp behind, false)) (λ r. Unit {0}) (λ r. r.0 ≡ clause.Note) (none_holds (head_word_at s w rest)) (λ r k. refl)

module _ (s : List ℕ) (cp : ClausePlace) (pl : TokenPlace) (b : TokenClass) (nc : TokenClass) (quiet : is_quiet pl ≡ true) (may : may_be_keyword b ≡ true)
    (t : Token) (ts : List Token) where
  -- the place behind the first token is that of the clause
  abbrev Leads : Clause × List Token × Bool → Type 0
  Leads r = is_statement r.0 ≡ false → token_place_behind pl b (token_class_in s t) (text_of s t) nc ≡ place_after r.0 pl

  -- where the token leads to the same place, a clause that leads nowhere else is right
  plain_leads : token_place_behind pl b (token_class_in s t) (text_of s t) nc ≡ pl → (r : Clause × List Token × Bool) → is_plain r.0 ≡ true → Leads r
  plain_leads stays r plain = λ isnt. stays ∙ sym (plain_after r.0 pl plain)

  other_leads : token_place_behind pl b (token_class_in s t) (text_of s t) nc ≡ pl → IfSome (other_clause s cp t.line (t ∷ ts)) Leads
  other_leads stays = weaker_holds (other_clause s cp t.line (t ∷ ts)) IsPlainRead Leads (other_plain s cp t.line (t ∷ ts)) (λ r plain. plain_leads stays r plain)

  note_leads : token_place_behind pl b (token_class_in s t) (text_of s t) nc ≡ pl → (w : HeadWord) → IfSome (head_word_clause s cp w ts) Leads
  note_leads stays w =
      weaker_holds (head_word_clause s cp w ts) (λ r. r.0 ≡ clause.Note) Leads (note_read s cp w ts) (λ r is isnt. stays ∙ sym (ap (λ c. place_after c pl) is))

  free_leads : token_place_behind pl b (token_class_in s t) (text_of s t) nc ≡ pl → (w : Option HeadWord) → IfSome (free_word_clause s cp t ts (t ∷ ts) w) Leads
  unfolding free_word_clause
  free_leads stays (Some w) = both (is_outer cp) (head_word_clause s cp w ts) (other_clause s cp t.line (t ∷ ts)) Leads (note_leads stays w) (other_leads stays)
  free_leads stays None = other_leads stays

  opens_walk : (k : BlockKind) (p : TokenPlace) → is_quiet p ≡ true → walk_to p (is_code k) (not (is_code k)) false ≡ quiet_place k
  unfolding walk_to
  opens_walk k place.Outside e = refl
  opens_walk k place.Head e = by (is_code k)
    where
      by : (c : Bool) → (if not c then place.Outside else place.Head) ≡ (if c then place.Head else place.Outside)
      by true = refl
      by false = refl
  opens_walk k place.Start e = absurd (false≢true e)
  opens_walk k place.Label e = absurd (false≢true e)
  opens_walk k place.Labelled e = absurd (false≢true e)
  opens_walk k place.Jump e = absurd (false≢true e)
  opens_walk k place.Instruction e = absurd (false≢true e)
  opens_walk k place.Closing e = absurd (false≢true e)
  opens_walk k place.Path e = absurd (false≢true e)
  opens_walk k place.Inside e = absurd (false≢true e)

  begin_walk : (p : TokenPlace) → is_quiet p ≡ true → walk_to p false false true ≡ place_after clause.Begins p
  unfolding walk_to
  begin_walk place.Outside e = refl
  begin_walk place.Head e = refl
  begin_walk place.Start e = absurd (false≢true e)
  begin_walk place.Label e = absurd (false≢true e)
  begin_walk place.Labelled e = absurd (false≢true e)
  begin_walk place.Jump e = absurd (false≢true e)
  begin_walk place.Instruction e = absurd (false≢true e)
  begin_walk place.Closing e = absurd (false≢true e)
  begin_walk place.Path e = absurd (false≢true e)
  begin_walk place.Inside e = absurd (false≢true e)

  -- the head of a block
  opens_leads : (k : BlockKind) → token_place_behind pl b (token_class_in s t) (text_of s t) nc ≡ quiet_place k → IfSome (head_clause s t.line k ts) Leads
  unfolding head_clause
  opens_leads k leads =
      chain_holds (block_of_kind_at s k ts) (λ n. option_map (λ r. (clause.Head t.line k n.0 r.0, r.1, false)) (result_at s k n.1)) (λ n. Unit {0}) Leads (none_holds (block_of_kind_at s k ts))
      (λ n i. map_holds (result_at s k n.1) (λ r. (clause.Head t.line k n.0 r.0, r.1, false)) (λ r. Unit {0}) Leads (none_holds (result_at s k n.1)) (λ r j isnt. leads))

  -- the end of a structure
  ends_leads : token_place_behind pl b (token_class_in s t) (text_of s t) nc ≡ pl → IfSome (structure_end s cp ts) Leads
  ends_leads stays =
      weaker_holds (structure_end s cp ts) (λ r. r.0 ≡ clause.EndStructure) Leads (structure_ends s cp ts) (λ r e isnt. stays ∙ sym (ap (λ c. place_after c pl) e))

  key_leads : (k : Keyword) → token_place_behind pl b (token_class_in s t) (text_of s t) nc ≡ walk_to pl (code_key k) (data_key k) (begin_key k)
      → IfSome (keyword_clause s cp t.line k ts) Leads
  unfolding keyword_clause
  key_leads (keyword.Opens k) leads = opens_leads k (leads ∙ opens_walk k pl quiet)
  key_leads (keyword.Ends k) leads = λ isnt. leads ∙ stays_put pl quiet
  key_leads (keyword.Section k) leads = λ isnt. leads ∙ stays_put pl quiet
  key_leads keyword.EndSection leads = λ isnt. leads ∙ stays_put pl quiet
  key_leads keyword.Begin leads = λ isnt. leads ∙ begin_walk pl quiet
  key_leads keyword.Network leads = λ isnt. leads ∙ stays_put pl quiet
  key_leads keyword.Structure leads = λ isnt. leads ∙ stays_put pl quiet
  key_leads keyword.EndStructure leads = ends_leads (leads ∙ stays_put pl quiet)

  word_leads : token_class_in s t ≡ class.Word → (o : Option Keyword) → look_up keywords (text_of s t) ≡ o → IfSome (word_clause s cp t ts (t ∷ ts) o) Leads
  unfolding word_clause
  word_leads is (Some k) e =
      key_leads k (ap (λ c. token_place_behind pl b c (text_of s t) nc) is ∙ key_walk pl b (text_of s t) nc k quiet may (key_fits (text_of s t) k e))
  word_leads is None e =
      free_leads (ap (λ c. token_place_behind pl b c (text_of s t) nc) is ∙ free_walk pl b (text_of s t) nc quiet may e) (look_up head_words (text_of s t))

  kind_stays : (k : TokenKind) → t.kind ≡ k → is_word_kind k ≡ false → token_place_behind pl b (token_class_in s t) (text_of s t) nc ≡ pl
  kind_stays k is other =
      ap (λ j. token_place_behind pl b (token_class j (text_of s t)) (text_of s t) nc) is
      ∙ plain_walk pl b (token_class k (text_of s t)) (text_of s t) nc quiet (kind_plain k (text_of s t) other)

  kind_leads : (k : TokenKind) → t.kind ≡ k → IfSome (clause_by_kind s cp t ts (t ∷ ts) k) Leads
  unfolding clause_by_kind token_class
  kind_leads kind.Word is = word_leads (ap (λ k. token_class k (text_of s t)) is) (look_up keywords (text_of s t)) refl
  kind_leads kind.Attribute is = λ isnt. kind_stays kind.Attribute is refl
  kind_leads kind.Title is = λ isnt. kind_stays kind.Title is refl
  kind_leads kind.Number is = other_leads (kind_stays kind.Number is refl)
  kind_leads kind.Quoted is = other_leads (kind_stays kind.Quoted is refl)
  kind_leads kind.Local is = other_leads (kind_stays kind.Local is refl)
  kind_leads kind.Characters is = other_leads (kind_stays kind.Characters is refl)
  kind_leads kind.Based is = other_leads (kind_stays kind.Based is refl)
  kind_leads kind.NumberLiteral is = other_leads (kind_stays kind.NumberLiteral is refl)
  kind_leads kind.TimeLiteral is = other_leads (kind_stays kind.TimeLiteral is refl)
  kind_leads kind.Mark is = other_leads (kind_stays kind.Mark is refl)
  kind_leads kind.SignWord is = other_leads (kind_stays kind.SignWord is refl)

  clause_leads : IfSome (clause_at s cp (t ∷ ts)) Leads
  unfolding clause_at
  clause_leads = kind_leads t.kind refl

pub first_place : (s : List ℕ) (cp : ClausePlace) (t : Token) (ts : List Token) (c : Clause) (rest : List Token) (long : Bool) (pl : TokenPlace) (before nc : TokenClass)
    → is_quiet pl ≡ true → may_be_keyword before ≡ true → is_statement c ≡ false → clause_at s cp (t ∷ ts) ≡ Some (c, rest, long)
    → token_place_behind pl before (token_class_in s t) (text_of s t) nc ≡ place_after c pl
first_place s cp t ts c rest long pl before nc quiet may isnt e =
    some_holds (clause_at s cp (t ∷ ts)) (c, rest, long) (λ r. is_statement r.0 ≡ false → token_place_behind pl before (token_class_in s t) (text_of s t) nc ≡ place_after r.0 pl) e
    (clause_leads s cp pl before nc quiet may t ts) isnt

-- ---- BEGIN

abbrev is_begins : Clause → Bool
is_begins clause.Begins = true
is_begins _ = false

plain_no_begins : (c : Clause) → is_plain c ≡ true → is_begins c ≡ false
plain_no_begins (clause.Head line e name result) h = absurd (false≢true h)
plain_no_begins (clause.Ends line e) h = absurd (false≢true h)
plain_no_begins (clause.Section line q) h = absurd (false≢true h)
plain_no_begins clause.EndSection h = absurd (false≢true h)
plain_no_begins clause.Begins h = absurd (false≢true h)
plain_no_begins clause.Network h = absurd (false≢true h)
plain_no_begins clause.Structure h = absurd (false≢true h)
plain_no_begins clause.EndStructure h = absurd (false≢true h)
plain_no_begins (clause.Based name) h = refl
plain_no_begins clause.Note h = absurd (false≢true h)
plain_no_begins clause.Title h = absurd (false≢true h)
plain_no_begins (clause.Declares d) h = refl
plain_no_begins (clause.Sets v) h = refl
plain_no_begins (clause.Runs y) h = refl

module _ (s : List ℕ) (cp : ClausePlace) (t : Token) (ts : List Token) where
  -- what follows BEGIN
  abbrev Begun : Clause × List Token × Bool → Type 0
  Begun r = is_begins r.0 ≡ true → r.1 ≡ ts

  no_begin : (r : Clause × List Token × Bool) → is_begins r.0 ≡ false → Begun r
  no_begin r no_ = λ is. absurd (true≢false (sym is ∙ no_))

  other_begun : IfSome (other_clause s cp t.line (t ∷ ts)) Begun
  other_begun =
      weaker_holds (other_clause s cp t.line (t ∷ ts)) IsPlainRead Begun (other_plain s cp t.line (t ∷ ts)) (λ r plain. no_begin r (plain_no_begins r.0 plain))

  key_begun : (k : Keyword) → IfSome (keyword_clause s cp t.line k ts) Begun
  unfolding keyword_clause head_clause structure_end
  key_begun (keyword.Opens k) =
      chain_holds (block_of_kind_at s k ts) (λ n. option_map (λ r. (clause.Head t.line k n.0 r.0, r.1, false)) (result_at s k n.1)) (λ n. Unit {0}) Begun (none_holds (block_of_kind_at s k ts))
      (λ n i. map_holds (result_at s k n.1) (λ r. (clause.Head t.line k n.0 r.0, r.1, false)) (λ r. Unit {0}) Begun (none_holds (result_at s k n.1)) (λ r j is. absurd (false≢true is)))
  key_begun (keyword.Ends k) = λ is. absurd (false≢true is)
  key_begun (keyword.Section k) = λ is. absurd (false≢true is)
  key_begun keyword.EndSection = λ is. absurd (false≢true is)
  key_begun keyword.Begin = λ is. refl
  key_begun keyword.Network = λ is. absurd (false≢true is)
  key_begun keyword.Structure = λ is. absurd (false≢true is)
  key_begun keyword.EndStructure =
      weaker_holds (structure_end s cp ts) (λ r. r.0 ≡ clause.EndStructure) Begun (structure_ends s cp ts) (λ r e is. absurd (true≢false (sym is ∙ ap is_begins e)))

  free_begun : (w : Option HeadWord) → IfSome (free_word_clause s cp t ts (t ∷ ts) w) Begun
  unfolding free_word_clause
  free_begun (Some w) =
      both (is_outer cp) (head_word_clause s cp w ts) (other_clause s cp t.line (t ∷ ts)) Begun
      (weaker_holds (head_word_clause s cp w ts) (λ r. r.0 ≡ clause.Note) Begun (note_read s cp w ts) (λ r e is. absurd (true≢false (sym is ∙ ap is_begins e)))) other_begun
  free_begun None = other_begun

  word_begun : (o : Option Keyword) → IfSome (word_clause s cp t ts (t ∷ ts) o) Begun
  unfolding word_clause
  word_begun (Some k) = key_begun k
  word_begun None = free_begun (look_up head_words (text_of s t))

  kind_begun : (k : TokenKind) → IfSome (clause_by_kind s cp t ts (t ∷ ts) k) Begun
  unfolding clause_by_kind
  kind_begun kind.Word = word_begun (look_up keywords (text_of s t))
  kind_begun kind.Attribute = λ is. absurd (false≢true is)
  kind_begun kind.Title = λ is. absurd (false≢true is)
  kind_begun kind.Number = other_begun
  kind_begun kind.Quoted = other_begun
  kind_begun kind.Local = other_begun
  kind_begun kind.Characters = other_begun
  kind_begun kind.Based = other_begun
  kind_begun kind.NumberLiteral = other_begun
  kind_begun kind.TimeLiteral = other_begun
  kind_begun kind.Mark = other_begun
  kind_begun kind.SignWord = other_begun

  clause_begun : IfSome (clause_at s cp (t ∷ ts)) Begun
  unfolding clause_at
  clause_begun = kind_begun t.kind

pub begins_rest : (s : List ℕ) (cp : ClausePlace) (t : Token) (ts rest : List Token) (long : Bool) → clause_at s cp (t ∷ ts) ≡ Some (clause.Begins, rest, long) → rest ≡ ts
begins_rest s cp t ts rest long e =
    some_holds (clause_at s cp (t ∷ ts)) (clause.Begins, rest, long) (λ r. is_begins r.0 ≡ true → r.1 ≡ ts) e (clause_begun s cp t ts) refl

-- ---- tokens inside a clause

calm_place_word : (pl : TokenPlace) (b : TokenClass) (x : List ℕ) (n : TokenClass) → is_quiet pl ≡ true → (may_be_keyword b && is_block_word x) ≡ false
    → token_place_behind pl b class.Word x n ≡ pl
unfolding token_place_behind place_behind_word place_behind_outside place_behind_head
calm_place_word place.Outside b x n quiet e = by (may_be_keyword b) (is_word_in_list code_openings x) (is_word_in_list data_openings x || is_word_in_list begin_words x) e
  where
    by : (a c d : Bool) → (a && (c || d)) ≡ false → (if a && c then place.Head else place.Outside) ≡ place.Outside
    by true true d h = absurd (true≢false h)
    by true false d h = refl
    by false c d h = refl
calm_place_word place.Head b x n quiet e = by (may_be_keyword b) (is_word_in_list code_openings x) (is_word_in_list data_openings x) (is_word_in_list begin_words x) e
  where
    by : (a c d f : Bool) → (a && (c || (d || f))) ≡ false → (if a then (if f then place.Start else (if d then place.Outside else place.Head)) else place.Head) ≡ place.Head
    by true true d f h = absurd (true≢false h)
    by true false true f h = absurd (true≢false h)
    by true false false true h = absurd (true≢false h)
    by true false false false h = refl
    by false c d f h = refl
calm_place_word place.Start b x n quiet e = absurd (false≢true quiet)
calm_place_word place.Label b x n quiet e = absurd (false≢true quiet)
calm_place_word place.Labelled b x n quiet e = absurd (false≢true quiet)
calm_place_word place.Jump b x n quiet e = absurd (false≢true quiet)
calm_place_word place.Instruction b x n quiet e = absurd (false≢true quiet)
calm_place_word place.Closing b x n quiet e = absurd (false≢true quiet)
calm_place_word place.Path b x n quiet e = absurd (false≢true quiet)
calm_place_word place.Inside b x n quiet e = absurd (false≢true quiet)

calm_test : (a c : Bool) → (not a || not c) ≡ true → (a && c) ≡ false
calm_test true true e = absurd (false≢true e)
calm_test true false e = refl
calm_test false c e = refl

pub calm_place : (pl : TokenPlace) (b c : TokenClass) (text : List ℕ) (nc : TokenClass) → is_quiet pl ≡ true → calm_of b c text ≡ true → token_place_behind pl b c text nc ≡ pl
calm_place pl b class.Word text nc quiet calm = calm_place_word pl b text nc quiet (calm_test (may_be_keyword b) (is_block_word text) calm)
calm_place pl b class.Number text nc quiet calm = plain_walk pl b class.Number text nc quiet refl
calm_place pl b class.Note text nc quiet calm = plain_walk pl b class.Note text nc quiet refl
calm_place pl b class.Semicolon text nc quiet calm = plain_walk pl b class.Semicolon text nc quiet refl
calm_place pl b class.Dot text nc quiet calm = plain_walk pl b class.Dot text nc quiet refl
calm_place pl b class.Assign text nc quiet calm = plain_walk pl b class.Assign text nc quiet refl
calm_place pl b class.Colon text nc quiet calm = plain_walk pl b class.Colon text nc quiet refl
calm_place pl b class.OpenBracket text nc quiet calm = plain_walk pl b class.OpenBracket text nc quiet refl
calm_place pl b class.OpenParen text nc quiet calm = plain_walk pl b class.OpenParen text nc quiet refl
calm_place pl b class.CloseParen text nc quiet calm = plain_walk pl b class.CloseParen text nc quiet refl
calm_place pl b class.Pointer text nc quiet calm = plain_walk pl b class.Pointer text nc quiet refl
calm_place pl b class.Other text nc quiet calm = plain_walk pl b class.Other text nc quiet refl

quiet_word_role : (pl : TokenPlace) (b : TokenClass) (text : List ℕ) (nc : TokenClass) → is_quiet pl ≡ true → role_of_word pl b text nc ≡ role.Stays
unfolding role_of_word
quiet_word_role place.Outside b text nc e = refl
quiet_word_role place.Head b text nc e = refl
quiet_word_role place.Start b text nc e = absurd (false≢true e)
quiet_word_role place.Label b text nc e = absurd (false≢true e)
quiet_word_role place.Labelled b text nc e = absurd (false≢true e)
quiet_word_role place.Jump b text nc e = absurd (false≢true e)
quiet_word_role place.Instruction b text nc e = absurd (false≢true e)
quiet_word_role place.Closing b text nc e = absurd (false≢true e)
quiet_word_role place.Path b text nc e = absurd (false≢true e)
quiet_word_role place.Inside b text nc e = absurd (false≢true e)

pub quiet_role : (pl : TokenPlace) (b c : TokenClass) (text : List ℕ) (nc : TokenClass) → is_quiet pl ≡ true → role_of pl b c text nc ≡ role.Stays
unfolding role_of
quiet_role pl b class.Word text nc e = quiet_word_role pl b text nc e
quiet_role pl b class.Number text nc e = refl
quiet_role pl b class.Note text nc e = refl
quiet_role pl b class.Semicolon text nc e = refl
quiet_role pl b class.Dot text nc e = refl
quiet_role pl b class.Assign text nc e = refl
quiet_role pl b class.Colon text nc e = refl
quiet_role pl b class.OpenBracket text nc e = refl
quiet_role pl b class.OpenParen text nc e = refl
quiet_role pl b class.CloseParen text nc e = refl
quiet_role pl b class.Pointer text nc e = refl
quiet_role pl b class.Other text nc e = refl

-- ---- bodies

same_kind_code : (e k : BlockKind) → nat_eq (kind_order e) (kind_order k) ≡ true → is_code k ≡ true → is_code e ≡ true
same_kind_code kinds.Ob kinds.Ob h code = refl
same_kind_code kinds.Ob kinds.Fc h code = refl
same_kind_code kinds.Ob kinds.Fb h code = refl
same_kind_code kinds.Ob kinds.Db h code = refl
same_kind_code kinds.Ob kinds.Sfc h code = refl
same_kind_code kinds.Ob kinds.Udt h code = refl
same_kind_code kinds.Fc kinds.Ob h code = refl
same_kind_code kinds.Fc kinds.Fc h code = refl
same_kind_code kinds.Fc kinds.Fb h code = refl
same_kind_code kinds.Fc kinds.Db h code = refl
same_kind_code kinds.Fc kinds.Sfc h code = refl
same_kind_code kinds.Fc kinds.Udt h code = refl
same_kind_code kinds.Fb kinds.Ob h code = refl
same_kind_code kinds.Fb kinds.Fc h code = refl
same_kind_code kinds.Fb kinds.Fb h code = refl
same_kind_code kinds.Fb kinds.Db h code = refl
same_kind_code kinds.Fb kinds.Sfc h code = refl
same_kind_code kinds.Fb kinds.Udt h code = refl
same_kind_code kinds.Db kinds.Ob h code = absurd (false≢true h)
same_kind_code kinds.Db kinds.Fc h code = absurd (false≢true h)
same_kind_code kinds.Db kinds.Fb h code = absurd (false≢true h)
same_kind_code kinds.Db kinds.Db h code = absurd (false≢true code)
same_kind_code kinds.Db kinds.Sfc h code = absurd (false≢true h)
same_kind_code kinds.Db kinds.Udt h code = absurd (false≢true h)
same_kind_code kinds.Sfc kinds.Ob h code = absurd (false≢true h)
same_kind_code kinds.Sfc kinds.Fc h code = absurd (false≢true h)
same_kind_code kinds.Sfc kinds.Fb h code = absurd (false≢true h)
same_kind_code kinds.Sfc kinds.Db h code = absurd (false≢true h)
same_kind_code kinds.Sfc kinds.Sfc h code = absurd (false≢true code)
same_kind_code kinds.Sfc kinds.Udt h code = absurd (false≢true h)
same_kind_code kinds.Udt kinds.Ob h code = absurd (false≢true h)
same_kind_code kinds.Udt kinds.Fc h code = absurd (false≢true h)
same_kind_code kinds.Udt kinds.Fb h code = absurd (false≢true h)
same_kind_code kinds.Udt kinds.Db h code = absurd (false≢true h)
same_kind_code kinds.Udt kinds.Sfc h code = absurd (false≢true h)
same_kind_code kinds.Udt kinds.Udt h code = absurd (false≢true code)

ends_place : (b : TokenClass) (x : List ℕ) (n : TokenClass) → is_word_in_list block_end_words x ≡ true → token_place_behind place.Start b class.Word x n ≡ place.Outside
unfolding token_place_behind place_behind_word place_behind_start
ends_place b x n e = rw e refl

network_place : (b : TokenClass) (x : List ℕ) (n : TokenClass) → is_word_in_list block_end_words x ≡ false → is_word_in_list network_words x ≡ true
    → token_place_behind place.Start b class.Word x n ≡ place.Start
unfolding token_place_behind place_behind_word place_behind_start
network_place b x n e f = rw (e, f) refl

note_place : (b : TokenClass) (x : List ℕ) (n : TokenClass) → token_place_behind place.Start b class.Note x n ≡ place.Start
unfolding token_place_behind place_behind_sign
note_place b x n = refl

plain_no_step : (k : BlockKind) (c : Clause) (next : ClausePlace) → is_plain c ≡ true → is_statement c ≡ false → next_place (at.Body k) c ≡ Some next → ⊥
unfolding next_place next_place_in_body
plain_no_step k (clause.Head line e name result) next h isnt f = false≢true h
plain_no_step k (clause.Ends line e) next h isnt f = false≢true h
plain_no_step k (clause.Section line q) next h isnt f = false≢true h
plain_no_step k clause.EndSection next h isnt f = false≢true h
plain_no_step k clause.Begins next h isnt f = false≢true h
plain_no_step k clause.Network next h isnt f = false≢true h
plain_no_step k clause.Structure next h isnt f = false≢true h
plain_no_step k clause.EndStructure next h isnt f = false≢true h
plain_no_step k (clause.Based name) next h isnt f = none-some next f
plain_no_step k clause.Note next h isnt f = false≢true h
plain_no_step k clause.Title next h isnt f = false≢true h
plain_no_step k (clause.Declares d) next h isnt f = none-some next f
plain_no_step k (clause.Sets v) next h isnt f = none-some next f
plain_no_step k (clause.Runs y) next h isnt f = true≢false isnt

no_structure_step : (k : BlockKind) (c : Clause) (next : ClausePlace) → c ≡ clause.EndStructure → next_place (at.Body k) c ≡ Some next → ⊥
unfolding next_place next_place_in_body
no_structure_step k c next e f = none-some next (sym (ap (λ d. next_place (at.Body k) d) e) ∙ f)

no_note_step : (k : BlockKind) (c : Clause) (next : ClausePlace) → c ≡ clause.Note → next_place (at.Body k) c ≡ Some next → ⊥
unfolding next_place next_place_in_body
no_note_step k c next e f = none-some next (sym (ap (λ d. next_place (at.Body k) d) e) ∙ f)

module _ (s : List ℕ) (k : BlockKind) (code : is_code k ≡ true) (t : Token) (ts : List Token) (b nc : TokenClass) where
  -- a clause of a body that is no statement is one token, and the walk stands where the next clause does
  abbrev Steps : Clause × List Token × Bool → Type 0
  Steps r =
      is_statement r.0 ≡ false → (next : ClausePlace) → next_place (at.Body k) r.0 ≡ Some next
      → (r.1 ≡ ts) × Stands next (token_place_behind place.Start b (token_class_in s t) (text_of s t) nc) (token_class_in s t)

  other_steps : IfSome (other_clause s (at.Body k) t.line (t ∷ ts)) Steps
  other_steps =
      weaker_holds (other_clause s (at.Body k) t.line (t ∷ ts)) IsPlainRead Steps (other_plain s (at.Body k) t.line (t ∷ ts))
      (λ r plain isnt next f. absurd (plain_no_step k r.0 next plain isnt f))

  ends_steps : (e : BlockKind) (rest : List Token) → rest ≡ ts → token_class_in s t ≡ class.Word → is_word_in_list block_end_words (text_of s t) ≡ is_code e
      → Steps (clause.Ends t.line e, rest, false)
  unfolding next_place next_place_in_body
  ends_steps e rest same word among isnt next f =
      let parts = if_some (nat_eq (kind_order e) (kind_order k)) at.Outside next f in (
        same,
        stands_at at.Outside next (token_place_behind place.Start b (token_class_in s t) (text_of s t) nc) (token_class_in s t) parts.1 (
          ap (λ c. token_place_behind place.Start b c (text_of s t) nc) word ∙ ends_place b (text_of s t) nc (among ∙ same_kind_code e k parts.0 code),
          ap may_be_keyword word,
        ),
      )

  network_steps : token_class_in s t ≡ class.Word → is_word_in_list block_end_words (text_of s t) ≡ false → is_word_in_list network_words (text_of s t) ≡ true
      → Steps (clause.Network, ts, false)
  unfolding next_place next_place_in_body
  network_steps word ends network isnt next f = (
    refl,
    stands_at (at.Body k) next (token_place_behind place.Start b (token_class_in s t) (text_of s t) nc) (token_class_in s t) f
        (ap (λ c. token_place_behind place.Start b c (text_of s t) nc) word ∙ network_place b (text_of s t) nc ends network, code),
  )

  title_steps : token_class_in s t ≡ class.Note → Steps (clause.Title, behind_note s (at.Body k) ts, false)
  unfolding next_place next_place_in_body behind_note
  title_steps note isnt next f = (
    refl,
    stands_at (at.Body k) next (token_place_behind place.Start b (token_class_in s t) (text_of s t) nc) (token_class_in s t) f
        (ap (λ c. token_place_behind place.Start b c (text_of s t) nc) note ∙ note_place b (text_of s t) nc, code),
  )

  key_steps : token_class_in s t ≡ class.Word → (j : Keyword) → KeyFits (text_of s t) j → IfSome (keyword_clause s (at.Body k) t.line j ts) Steps
  unfolding keyword_clause head_clause next_place next_place_in_body
  key_steps word (keyword.Opens e) h =
      chain_holds (block_of_kind_at s e ts) (λ n. option_map (λ r. (clause.Head t.line e n.0 r.0, r.1, false)) (result_at s e n.1)) (λ n. Unit {0}) Steps (none_holds (block_of_kind_at s e ts))
      (λ n i. map_holds (result_at s e n.1) (λ r. (clause.Head t.line e n.0 r.0, r.1, false)) (λ r. Unit {0}) Steps (none_holds (result_at s e n.1))
      (λ r j isnt next f. absurd (none-some next f)))
  key_steps word (keyword.Ends e) h = ends_steps e ts refl word h.ends
  key_steps word (keyword.Section q) h = λ isnt next f. absurd (none-some next f)
  key_steps word keyword.EndSection h = λ isnt next f. absurd (none-some next f)
  key_steps word keyword.Begin h = λ isnt next f. absurd (none-some next f)
  key_steps word keyword.Network h = network_steps word h.ends h.network
  key_steps word keyword.Structure h = λ isnt next f. absurd (none-some next f)
  key_steps word keyword.EndStructure h =
      weaker_holds (structure_end s (at.Body k) ts) (λ r. r.0 ≡ clause.EndStructure) Steps (structure_ends s (at.Body k) ts)
      (λ r e isnt next f. absurd (no_structure_step k r.0 next e f))

  free_steps : (w : Option HeadWord) → IfSome (free_word_clause s (at.Body k) t ts (t ∷ ts) w) Steps
  unfolding free_word_clause
  free_steps (Some w) = other_steps
  free_steps None = other_steps

  word_steps : token_class_in s t ≡ class.Word → (o : Option Keyword) → look_up keywords (text_of s t) ≡ o → IfSome (word_clause s (at.Body k) t ts (t ∷ ts) o) Steps
  unfolding word_clause
  word_steps word (Some j) e = key_steps word j (key_fits (text_of s t) j e)
  word_steps word None e = free_steps (look_up head_words (text_of s t))

  kind_steps : (j : TokenKind) → t.kind ≡ j → IfSome (clause_by_kind s (at.Body k) t ts (t ∷ ts) j) Steps
  unfolding clause_by_kind token_class
  kind_steps kind.Word is = word_steps (ap (λ j. token_class j (text_of s t)) is) (look_up keywords (text_of s t)) refl
  kind_steps kind.Attribute is = λ isnt next f. absurd (no_note_step k clause.Note next refl f)
  kind_steps kind.Title is = title_steps (ap (λ j. token_class j (text_of s t)) is)
  kind_steps kind.Number is = other_steps
  kind_steps kind.Quoted is = other_steps
  kind_steps kind.Local is = other_steps
  kind_steps kind.Characters is = other_steps
  kind_steps kind.Based is = other_steps
  kind_steps kind.NumberLiteral is = other_steps
  kind_steps kind.TimeLiteral is = other_steps
  kind_steps kind.Mark is = other_steps
  kind_steps kind.SignWord is = other_steps

  clause_steps : IfSome (clause_at s (at.Body k) (t ∷ ts)) Steps
  unfolding clause_at
  clause_steps = kind_steps t.kind refl

pub body_step : (s : List ℕ) (k : BlockKind) (t : Token) (ts : List Token) (c : Clause) (rest : List Token) (long : Bool) (next : ClausePlace) (before nc : TokenClass)
    → is_code k ≡ true → is_statement c ≡ false → clause_at s (at.Body k) (t ∷ ts) ≡ Some (c, rest, long) → next_place (at.Body k) c ≡ Some next
    → (rest ≡ ts) × Stands next (token_place_behind place.Start before (token_class_in s t) (text_of s t) nc) (token_class_in s t)
body_step s k t ts c rest long next before nc code isnt e f =
    some_holds (clause_at s (at.Body k) (t ∷ ts)) (c, rest, long)
    (λ r. is_statement r.0 ≡ false → (n : ClausePlace) → next_place (at.Body k) r.0 ≡ Some n
    → (r.1 ≡ ts) × Stands n (token_place_behind place.Start before (token_class_in s t) (text_of s t) nc) (token_class_in s t)) e (clause_steps s k code t ts before nc) isnt next f

-- ---- the first token of a statement

-- keywords begin no statement
pub key_no_statement : (s : List ℕ) (cp : ClausePlace) (line : ℕ) (j : Keyword) (ts : List Token) → IfSome (keyword_clause s cp line j ts) (λ r. is_statement r.0 ≡ false)
unfolding keyword_clause head_clause
key_no_statement s cp line (keyword.Opens e) ts =
    chain_holds (block_of_kind_at s e ts) (λ n. option_map (λ r. (clause.Head line e n.0 r.0, r.1, false)) (result_at s e n.1)) (λ n. Unit {0}) (λ r. is_statement r.0 ≡ false) (none_holds (block_of_kind_at s e ts))
    (λ n i. map_holds (result_at s e n.1) (λ r. (clause.Head line e n.0 r.0, r.1, false)) (λ r. Unit {0}) (λ r. is_statement r.0 ≡ false) (none_holds (result_at s e n.1)) (λ r j. refl))
key_no_statement s cp line (keyword.Ends e) ts = refl
key_no_statement s cp line (keyword.Section q) ts = refl
key_no_statement s cp line keyword.EndSection ts = refl
key_no_statement s cp line keyword.Begin ts = refl
key_no_statement s cp line keyword.Network ts = refl
key_no_statement s cp line keyword.Structure ts = refl
key_no_statement s cp line keyword.EndStructure ts =
    weaker_holds (structure_end s cp ts) (λ r. r.0 ≡ clause.EndStructure) (λ r. is_statement r.0 ≡ false) (structure_ends s cp ts) (λ r e. ap is_statement e)

-- what is known of it
abbrev IsFree : List ℕ → Token → Type 0
IsFree s t =
    (is_note (token_class_in s t) ≡ false)
    × (has_kind t kind.Word ≡ true → (is_word_in_list block_end_words (text_of s t) ≡ false) × (is_word_in_list network_words (text_of s t) ≡ false))

free_word : (s : List ℕ) (t : Token) → token_class_in s t ≡ class.Word → look_up keywords (text_of s t) ≡ None → IsFree s t
free_word s t word none =
    (ap is_note word, λ is. (none_among block_end_words (text_of s t) end_keys none, none_among network_words (text_of s t) network_keys none))

-- no word
free_kind : (s : List ℕ) (t : Token) (j : TokenKind) → t.kind ≡ j → is_note (token_class j (text_of s t)) ≡ false → nat_eq (kind_rank j) 0 ≡ false → IsFree s t
unfolding has_kind
free_kind s t j is note other = (
  ap (λ i. is_note (token_class i (text_of s t))) is ∙ note,
  λ word. absurd (true≢false (sym word ∙ ap (λ i. nat_eq (kind_rank i) 0) is ∙ other)),
)

module _ (s : List ℕ) (k : BlockKind) (t : Token) (ts : List Token) where
  abbrev Frees : Clause × List Token × Bool → Type 0
  Frees r = is_statement r.0 ≡ true → IsFree s t

  always : (o : Option (Clause × List Token × Bool)) → IsFree s t → IfSome o Frees
  always None h = tt
  always (Some r) h = λ is. h

  word_frees : token_class_in s t ≡ class.Word → (o : Option Keyword) → look_up keywords (text_of s t) ≡ o → IfSome (word_clause s (at.Body k) t ts (t ∷ ts) o) Frees
  unfolding word_clause
  word_frees word (Some j) e =
      weaker_holds (keyword_clause s (at.Body k) t.line j ts) (λ r. is_statement r.0 ≡ false) Frees (key_no_statement s (at.Body k) t.line j ts)
      (λ r no_ is. absurd (true≢false (sym is ∙ no_)))
  word_frees word None e = always (free_word_clause s (at.Body k) t ts (t ∷ ts) (look_up head_words (text_of s t))) (free_word s t word e)

  kind_frees : (j : TokenKind) → t.kind ≡ j → IfSome (clause_by_kind s (at.Body k) t ts (t ∷ ts) j) Frees
  unfolding clause_by_kind token_class
  kind_frees kind.Word is = word_frees (ap (λ j. token_class j (text_of s t)) is) (look_up keywords (text_of s t)) refl
  kind_frees kind.Attribute is = λ statement. absurd (false≢true statement)
  kind_frees kind.Title is = λ statement. absurd (false≢true statement)
  kind_frees kind.Number is = always (other_clause s (at.Body k) t.line (t ∷ ts)) (free_kind s t kind.Number is refl refl)
  kind_frees kind.Quoted is = always (other_clause s (at.Body k) t.line (t ∷ ts)) (free_kind s t kind.Quoted is refl refl)
  kind_frees kind.Local is = always (other_clause s (at.Body k) t.line (t ∷ ts)) (free_kind s t kind.Local is refl refl)
  kind_frees kind.Characters is = always (other_clause s (at.Body k) t.line (t ∷ ts)) (free_kind s t kind.Characters is refl refl)
  kind_frees kind.Based is = always (other_clause s (at.Body k) t.line (t ∷ ts)) (free_kind s t kind.Based is refl refl)
  kind_frees kind.NumberLiteral is = always (other_clause s (at.Body k) t.line (t ∷ ts)) (free_kind s t kind.NumberLiteral is refl refl)
  kind_frees kind.TimeLiteral is = always (other_clause s (at.Body k) t.line (t ∷ ts)) (free_kind s t kind.TimeLiteral is refl refl)
  kind_frees kind.Mark is = always (other_clause s (at.Body k) t.line (t ∷ ts)) (free_kind s t kind.Mark is (mark_no_note (text_of s t)) refl)
  kind_frees kind.SignWord is = always (other_clause s (at.Body k) t.line (t ∷ ts)) (free_kind s t kind.SignWord is refl refl)

  clause_frees : IfSome (clause_at s (at.Body k) (t ∷ ts)) Frees
  unfolding clause_at
  clause_frees = kind_frees t.kind refl

pub body_free : (s : List ℕ) (k : BlockKind) (t : Token) (ts : List Token) (y : Statement) (rest : List Token) (long : Bool)
    → clause_at s (at.Body k) (t ∷ ts) ≡ Some (clause.Runs y, rest, long)
    → (is_note (token_class_in s t) ≡ false)
    × (has_kind t kind.Word ≡ true → (is_word_in_list block_end_words (text_of s t) ≡ false) × (is_word_in_list network_words (text_of s t) ≡ false))
body_free s k t ts y rest long e =
    some_holds (clause_at s (at.Body k) (t ∷ ts)) (clause.Runs y, rest, long) (λ r. is_statement r.0 ≡ true → IsFree s t) e (clause_frees s k t ts) refl
