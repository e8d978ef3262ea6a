-- Printed trees are read.
use Rattle.std.proofs.Common.{◌≡◌, ◌≤◌, ◌+◌, ◌-◌, refl, sym, ◌∙◌, ap, subst, ℕ, Bool, true, false, List, [], ◌∷◌, ◌++◌, map, Option, Some, None, arith}
use Rattle.std.specs.Prelude.{not, ◌&&◌, if◌then◌else◌, nat_eq, nat_lt, codes}
use Rattle.std.specs.List.{AllByRecursion, flat_map}
use Rattle.std.proofs.lemmas.Bool.{false≢true}
use Rattle.std.proofs.lemmas.Bool.Decides.{nat_tests}
use Rattle.plc_base.specs.Kinds.{is_code, is_data_type, kind_order}
use Rattle.plc_base.specs.declared.blocks.BlockKind.{BlockKind}
use Rattle.plc_base.specs.declared.blocks.BlockKind.TheVariants as kinds
use Rattle.stl_lexer.specs.Marks.{mark_text}
use Rattle.stl_lexer.specs.declared.marks.Mark.TheVariants as mark
use Rattle.stl_ast.specs.Blocks.{is_date_and_time, is_parameter, may_have_section, part_rank}
use Rattle.stl_ast.specs.Declarations.{is_elementary}
use Rattle.stl_ast.specs.Outline.{level_behind}
use Rattle.stl_ast.specs.WellFormed.{AreSectionsInOrder, MayReturn}
use Rattle.stl_ast.specs.declared.blocks.Block.{Block}
use Rattle.stl_ast.specs.declared.blocks.Part.{Part}
use Rattle.stl_ast.specs.declared.blocks.PartKind.{PartKind}
use Rattle.stl_ast.specs.declared.blocks.PartKind.TheVariants as part
use Rattle.stl_ast.specs.declared.blocks.Setting.{Setting}
use Rattle.stl_ast.specs.declared.declarations.Bounds.{Bounds}
use Rattle.stl_ast.specs.declared.declarations.Declaration.{Declaration}
use Rattle.stl_ast.specs.declared.declarations.ElementType.{ElementType}
use Rattle.stl_ast.specs.declared.declarations.ElementType.TheVariants as element
use Rattle.stl_ast.specs.declared.declarations.Init.{Init}
use Rattle.stl_ast.specs.declared.declarations.Simple.{Simple}
use Rattle.stl_ast.specs.declared.declarations.TypeTree.{TypeTree}
use Rattle.stl_ast.specs.declared.names.BlockName.{BlockName}
use Rattle.stl_ast.specs.declared.names.BlockName.TheVariants as block
use Rattle.stl_ast.specs.declared.statements.Statement.{Statement}
use Rattle.stl_parser.specs.Frame.{next_place, next_place_between, next_place_in_body, next_place_in_head, next_place_outside, next_place_in_section, next_place_in_settings, next_place_in_shape}
use Rattle.stl_parser.specs.declared.clauses.Clause.{Clause}
use Rattle.stl_parser.specs.declared.clauses.Clause.TheVariants as clause
use Rattle.stl_parser.specs.declared.places.ClausePlace.{ClausePlace}
use Rattle.stl_parser.specs.declared.places.ClausePlace.TheVariants as place
use Rattle.stl_print.specs.Clauses.{clause_pieces}
use Rattle.stl_print.specs.Names.{block_name_pieces}
use Rattle.stl_print.specs.Pieces.{mark_piece, number_piece, word_piece}
use Rattle.stl_print.specs.Trees.{begin_clauses, block_clauses, declaration_clauses_from, instance_clauses, part_clauses, shape_clauses, structure_ends}
use Rattle.stl_print.specs.Words.{block_letters, end_word, section_word}
use Rattle.stl_print.specs.declared.gaps.Gap.{Gap}
use Rattle.stl_print.specs.declared.gaps.Gap.TheVariants as gap
use Rattle.print_laws.specs.Reading.{IsCodeBlock, IsPrintedDeclarationIn, IsFunctionBlock, IsNumberedBlockOf, IsPrintedDeclaration, IsPrintedPart, IsPrintedSetting, IsPrintedStatement, IsPrintedType}
use Rattle.print_laws.proofs.parsing.Bodies.{runs_line, runs_read}
use Rattle.print_laws.proofs.parsing.Declared.{declares_line, declares_read}
use Rattle.print_laws.proofs.parsing.Frames.{based_read, begin_read, end_section_read, ends_read, section_read, structure_end_read, structure_read}
use Rattle.print_laws.proofs.parsing.Heads.{head_line, head_read}
use Rattle.print_laws.proofs.parsing.Lines.{first_line}
use Rattle.print_laws.proofs.parsing.Settings.{sets_line, sets_read}
use Rattle.print_laws.proofs.parsing.Shown.{line_past}
use Rattle.print_laws.proofs.parsing.Tame.{flat, flat_block, flat_number}
use Rattle.print_laws.proofs.parsing.Walks.{IsStep, Walk, gap_line, walk_joined}

-- ---- steps

same_kind : (k : BlockKind) → nat_eq (kind_order k) (kind_order k) ≡ true
same_kind kinds.Ob = refl
same_kind kinds.Fc = refl
same_kind kinds.Fb = refl
same_kind kinds.Db = refl
same_kind kinds.Sfc = refl
same_kind kinds.Udt = refl

pub head_step : (line : ℕ) (k : BlockKind) (name : BlockName) (result : Option Simple) → (k ≡ kinds.Sfc → ⊥) → IsNumberedBlockOf k name → MayReturn k result
    → IsStep place.Outside (clause.Head line k name result) (place.Head k)
unfolding next_place next_place_outside
head_step line k name result apart is h =
    record {
      reads = λ source from n g rest here t. head_read source from n g place.Outside line k name result rest apart is h here t;
      lines = λ g n. head_line g line k name result n is;
      goes = refl;
    }

end_flat : (k : BlockKind) → flat (end_word k) ≡ true
unfolding end_word
end_flat kinds.Ob = refl
end_flat kinds.Fc = refl
end_flat kinds.Fb = refl
end_flat kinds.Db = refl
end_flat kinds.Sfc = refl
end_flat kinds.Udt = refl

ends_line : (line : ℕ) (k : BlockKind) (g : Gap) (n : ℕ) → line_past n (clause_pieces g (clause.Ends line k)) ≡ gap_line n g
unfolding clause_pieces
ends_line line k g n = first_line (word_piece g (end_word k)) [] n (end_flat k) refl

body_ends : (line : ℕ) (k : BlockKind) → (k ≡ kinds.Sfc → ⊥) → IsStep (place.Body k) (clause.Ends line k) place.Outside
unfolding next_place next_place_in_body
body_ends line k apart =
    record {
      reads = λ source from n g rest here t. ends_read source from n g (place.Body k) line k rest apart here t;
      lines = ends_line line k;
      goes = rw (same_kind k) refl;
    }

pub no_function : kinds.Db ≡ kinds.Sfc → ⊥
no_function e = absurd cc

pub data_ends : (line : ℕ) → IsStep place.Settings (clause.Ends line kinds.Db) place.Outside
unfolding next_place next_place_in_settings
data_ends line =
    record {
      reads = λ source from n g rest here t. ends_read source from n g place.Settings line kinds.Db rest no_function here t;
      lines = ends_line line kinds.Db;
      goes = refl;
    }

section_flat : (p : PartKind) → flat (section_word p) ≡ true
unfolding section_word
section_flat part.Input = refl
section_flat part.Output = refl
section_flat part.InOut = refl
section_flat part.Static = refl
section_flat part.Temp = refl

section_line : (line : ℕ) (p : PartKind) (g : Gap) (n : ℕ) → line_past n (clause_pieces g (clause.Section line p)) ≡ gap_line n g
unfolding clause_pieces
section_line line p g n = first_line (word_piece g (section_word p)) [] n (section_flat p) refl

section_step : (at : ClausePlace) (line : ℕ) (k : BlockKind) (p : PartKind) → next_place at (clause.Section line p) ≡ Some (place.Section k p 0)
    → IsStep at (clause.Section line p) (place.Section k p 0)
section_step at line k p goes =
    record {
      reads = λ source from n g rest here t. section_read source from n g at line p rest here t;
      lines = section_line line p;
      goes = goes;
    }

end_section_line : (g : Gap) (n : ℕ) → line_past n (clause_pieces g clause.EndSection) ≡ gap_line n g
unfolding clause_pieces
end_section_line g n = first_line (word_piece g (codes "END_VAR")) [] n refl refl

end_section_step : (k : BlockKind) (p : PartKind) → IsStep (place.Section k p 0) clause.EndSection (place.Between k p)
unfolding next_place next_place_in_section
end_section_step k p =
    record {
      reads = λ source from n g rest here t. end_section_read source from n g (place.Section k p 0) rest t;
      lines = end_section_line;
      goes = refl;
    }

begin_line : (g : Gap) (n : ℕ) → line_past n (clause_pieces g clause.Begins) ≡ gap_line n g
unfolding clause_pieces
begin_line g n = first_line (word_piece g (codes "BEGIN")) [] n refl refl

pub begin_step : (at next : ClausePlace) → next_place at clause.Begins ≡ Some next → IsStep at clause.Begins next
begin_step at next goes =
    record {
      reads = λ source from n g rest here t. begin_read source from n g at rest t;
      lines = begin_line;
      goes = goes;
    }

structure_line : (g : Gap) (n : ℕ) → line_past n (clause_pieces g clause.Structure) ≡ gap_line n g
unfolding clause_pieces
structure_line g n = first_line (word_piece g (codes "STRUCT")) [] n refl refl

pub structure_step : IsStep (place.Head kinds.Db) clause.Structure (place.Shape kinds.Db 0)
unfolding next_place next_place_in_head
structure_step =
    record {
      reads = λ source from n g rest here t. structure_read source from n g (place.Head kinds.Db) rest t;
      lines = structure_line;
      goes = refl;
    }

structure_end_line : (g : Gap) (n : ℕ) → line_past n (clause_pieces g clause.EndStructure) ≡ gap_line n g
unfolding clause_pieces mark_text
structure_end_line g n = first_line (word_piece g (codes "END_STRUCT")) (mark_piece gap.Nothing mark.Semicolon ∷ []) n refl refl

pub structure_end_step : IsStep (place.Shape kinds.Db 0) clause.EndStructure (place.Shaped kinds.Db)
unfolding next_place next_place_in_shape
structure_end_step =
    record {
      reads = λ source from n g rest here t. structure_end_read source from n g kinds.Db rest t;
      lines = structure_end_line;
      goes = refl;
    }

based_line : (name : BlockName) → IsFunctionBlock name → (g : Gap) (n : ℕ) → line_past n (clause_pieces g (clause.Based name)) ≡ gap_line n g
unfolding clause_pieces block_name_pieces
based_line (block.Number id) h g n = first_line (word_piece g (block_letters id.kind)) (number_piece gap.Blank id.number ∷ []) n (flat_block id.kind) (rw (flat_number id.number h.1) refl)
based_line (block.Quoted name) h g n = absurd h

pub based_step : (name : BlockName) → IsFunctionBlock name → IsStep (place.Head kinds.Db) (clause.Based name) (place.Shaped kinds.Db)
unfolding next_place next_place_in_head
based_step name h =
    record {
      reads = λ source from n g rest here t. based_read source from n g name rest h t;
      lines = based_line name h;
      goes = refl;
    }

pub runs_step : (k : BlockKind) (s : Statement) → IsPrintedStatement s → IsStep (place.Body k) (clause.Runs s) (place.Body k)
unfolding next_place next_place_in_body clause_pieces
runs_step k s h =
    record {
      reads = λ source from n g rest here t. runs_read source from n g k s rest h here t;
      lines = λ g n. runs_line g s n h;
      goes = refl;
    }

pub sets_step : (s : Setting) → IsPrintedSetting s → IsStep place.Settings (clause.Sets s) place.Settings
unfolding next_place next_place_in_settings clause_pieces
sets_step s h =
    record {
      reads = λ source from n g rest here t. sets_read source from n g s rest h here t;
      lines = λ g n. sets_line g s n h;
      goes = refl;
    }

-- a declaration leaves no structure open
pub same_level : (arrays : List Bounds) (e : ElementType) (init : List Init) (n : ℕ) → IsPrintedType arrays e init → level_behind n e ≡ n
same_level arrays (element.Plain k) init n h = refl
same_level arrays (element.Udt name) init n h = refl
same_level arrays element.DateAndTime init n h = refl
same_level [] element.Structure init n h = absurd h
same_level (b ∷ []) element.Structure init n h = absurd h
same_level (b ∷ c ∷ bs) element.Structure init n h = absurd h

no_date : (arrays : List Bounds) (e : ElementType) (init : List Init) → IsPrintedType arrays e init → is_date_and_time e ≡ false
no_date arrays (element.Plain k) init h = refl
no_date arrays (element.Udt name) init h = refl
no_date arrays element.Structure init h = refl
no_date [] element.DateAndTime init h = absurd h
no_date (b ∷ []) element.DateAndTime init h = absurd h
no_date (b ∷ c ∷ bs) element.DateAndTime init h = absurd h

no_exception : (a b : Bool) → (a ≡ true → b ≡ true) → (a && not b) ≡ false
no_exception false b h = refl
no_exception true true h = refl
no_exception true false h = absurd (false≢true (h refl))

pub section_declares : (k : BlockKind) (p : PartKind) (d : Declaration) → IsPrintedDeclarationIn k p d → IsStep (place.Section k p 0) (clause.Declares d) (place.Section k p 0)
unfolding next_place next_place_in_section clause_pieces
section_declares k p d h =
    record {
      reads = λ source from n g rest here t.
          declares_read source from n g (place.Section k p 0) d rest h.printed here refl refl refl (no_exception (is_parameter p) (is_elementary d) h.elementary) t;
      lines = λ g n. declares_line g d n h.printed;
      goes = rw h.allowed (ap (λ (n : ℕ). Some (place.Section k p n)) (same_level d.of.arrays d.of.of d.init 0 h.printed.type));
    }

pub component_declares : (d : Declaration) → IsPrintedDeclaration d → IsStep (place.Shape kinds.Db 0) (clause.Declares d) (place.Shape kinds.Db 0)
unfolding next_place next_place_in_shape clause_pieces
component_declares d h =
    record {
      reads = λ source from n g rest here t. declares_read source from n g (place.Shape kinds.Db 0) d rest h here refl refl refl refl t;
      lines = λ g n. declares_line g d n h;
      goes = rw (no_date d.of.arrays d.of.of d.init h.type) (ap (λ (n : ℕ). Some (place.Shape kinds.Db n)) (same_level d.of.arrays d.of.of d.init 0 h.type));
    }

-- ---- lists of clauses

all_run : (k : BlockKind) (ss : List Statement) → AllByRecursion IsPrintedStatement ss → Walk (place.Body k) (map clause.Runs ss) (place.Body k)
all_run k [] h = refl
all_run k (s ∷ ss) h = (place.Body k, runs_step k s h.0, all_run k ss h.1)

pub all_set : (ss : List Setting) → AllByRecursion IsPrintedSetting ss → Walk place.Settings (map clause.Sets ss) place.Settings
all_set [] h = refl
all_set (s ∷ ss) h = (place.Settings, sets_step s h.0, all_set ss h.1)

all_declared : (k : BlockKind) (p : PartKind) (ds : List Declaration) → AllByRecursion (IsPrintedDeclarationIn k p) ds
    → Walk (place.Section k p 0) (map clause.Declares ds) (place.Section k p 0)
all_declared k p [] h = refl
all_declared k p (d ∷ ds) h = (place.Section k p 0, section_declares k p d h.0, all_declared k p ds h.1)

pub all_components : (ds : List Declaration) → AllByRecursion IsPrintedDeclaration ds
    → Walk (place.Shape kinds.Db 0) (map clause.Declares ds) (place.Shape kinds.Db 0)
all_components [] h = refl
all_components (d ∷ ds) h = (place.Shape kinds.Db 0, component_declares d h.0, all_components ds h.1)

pub all_printed : (k : BlockKind) (p : PartKind) (ds : List Declaration) → AllByRecursion (IsPrintedDeclarationIn k p) ds → AllByRecursion IsPrintedDeclaration ds
all_printed k p [] h = tt
all_printed k p (d ∷ ds) h = (h.0.printed, all_printed k p ds h.1)

-- no structure is closed among declarations at the outermost level
pub flat_declared : (ds : List Declaration) → AllByRecursion IsPrintedDeclaration ds → declaration_clauses_from 0 ds ≡ map clause.Declares ds
flat_declared [] h = refl
flat_declared (d ∷ ds) h =
    ap (λ (n : ℕ). structure_ends n ++ (clause.Declares d ∷ declaration_clauses_from (level_behind d.level d.of.of) ds)) none
    ∙ ap (λ (n : ℕ). clause.Declares d ∷ declaration_clauses_from n ds) (same_level d.of.arrays d.of.of d.init d.level h.0.type ∙ h.0.level)
    ∙ ap (λ (cs : List Clause). clause.Declares d ∷ cs) (flat_declared ds h.1)
  where
    none : 0 - d.level ≡ 0
    none = omega arith

part_walk : (at : ClausePlace) (k : BlockKind) (p : Part) → IsPrintedPart k p → next_place at (clause.Section p.line p.kind) ≡ Some (place.Section k p.kind 0)
    → Walk at (part_clauses p) (place.Between k p.kind)
unfolding part_clauses
part_walk at k p h goes = (
  place.Section k p.kind 0,
  section_step at p.line k p.kind goes,
  walk_joined (declaration_clauses_from 0 p.items) (clause.EndSection ∷ []) (place.Section k p.kind 0) (place.Section k p.kind 0) (place.Between k p.kind)
      (subst (λ (cs : List Clause). Walk (place.Section k p.kind 0) cs (place.Section k p.kind 0)) (sym (flat_declared p.items (all_printed k p.kind p.items h.items)))
      (all_declared k p.kind p.items h.items))
      (place.Between k p.kind, end_section_step k p.kind, refl),
)

-- where sections may stand: in the head, or behind one
abbrev section_place : BlockKind → Option PartKind → ClausePlace
section_place k None = place.Head k
section_place k (Some last) = place.Between k last

abbrev rank_behind : Option PartKind → ℕ
rank_behind None = 0
rank_behind (Some last) = part_rank last + 1

section_goes : (k : BlockKind) (last : Option PartKind) (line : ℕ) (p : PartKind) → may_have_section k p ≡ true → rank_behind last ≤ part_rank p
    → next_place (section_place k last) (clause.Section line p) ≡ Some (place.Section k p 0)
unfolding next_place next_place_in_head next_place_between
section_goes k None line p may order = rw may refl
section_goes k (Some last) line p may order =
    let less : nat_lt (part_rank last) (part_rank p) ≡ true = grind (arith, nat_tests, order) in
    rw (may, less) refl

record HasWalk (k : BlockKind) (from_ : Option PartKind) (cs : List Clause) : Type 0 where
  last : Option PartKind
  walk : Walk (section_place k from_) cs (section_place k last)

parts_walk : (k : BlockKind) (ps : List Part) (last : Option PartKind) → AreSectionsInOrder (rank_behind last) ps → AllByRecursion (IsPrintedPart k) ps
    → HasWalk k last (flat_map part_clauses ps)
parts_walk k [] last order h = record { last = last; walk = refl }
parts_walk k (p ∷ ps) last order h =
    let rest : HasWalk k (Some p.kind) (flat_map part_clauses ps) = parts_walk k ps (Some p.kind) order.1 h.1 in
    record {
      last = rest.last;
      walk = walk_joined (part_clauses p) (flat_map part_clauses ps) (section_place k last) (place.Between k p.kind) (section_place k rest.last)
          (part_walk (section_place k last) k p h.0 (section_goes k last p.line p.kind h.0.allowed order.0)) rest.walk;
    }

-- ---- code blocks

code_begins : (k : BlockKind) (last : Option PartKind) → is_code k ≡ true → next_place (section_place k last) clause.Begins ≡ Some (place.Body k)
unfolding next_place next_place_in_head next_place_between
code_begins k None is = rw is refl
code_begins k (Some last) is = refl

code_no_type : (k : BlockKind) → is_code k ≡ true → is_data_type k ≡ false
code_no_type kinds.Ob is = refl
code_no_type kinds.Fc is = refl
code_no_type kinds.Fb is = refl
code_no_type kinds.Db is = refl
code_no_type kinds.Sfc is = refl
code_no_type kinds.Udt is = absurd (false≢true is)

code_no_system : (k : BlockKind) → is_code k ≡ true → k ≡ kinds.Sfc → ⊥
code_no_system k is e = false≢true (sym (ap is_code e) ∙ is)

code_begin : (k : BlockKind) (last : Option PartKind) → is_code k ≡ true → Walk (section_place k last) (begin_clauses k) (place.Body k)
code_begin k last is =
    subst (λ (b : Bool). Walk (section_place k last) (if b then [] else clause.Begins ∷ []) (place.Body k)) (sym (code_no_type k is))
    (place.Body k, begin_step (section_place k last) (place.Body k) (code_begins k last is), refl)

-- the clauses of a code block
abbrev pub code_clauses : Block → List Clause
code_clauses b =
    clause.Head b.line b.kind b.name b.result
    ∷ (flat_map part_clauses b.parts ++ (begin_clauses b.kind ++ (map clause.Runs b.body ++ clause.Ends b.end_line b.kind ∷ [])))

pub code_is : (b : Block) → IsCodeBlock b → block_clauses b ≡ code_clauses b
unfolding block_clauses
code_is b h =
    ap (λ (t : Option TypeTree). with_shape (shape_clauses t b.components)) h.shape
    ∙ ap (λ (i : Option BlockName). with_instance (instance_clauses i)) h.instance
    ∙ ap (λ (ss : List Setting). with_settings (map clause.Sets ss)) h.settings
  where
    with_settings : List Clause → List Clause
    with_settings cs =
        clause.Head b.line b.kind b.name b.result
        ∷ (flat_map part_clauses b.parts ++ (begin_clauses b.kind ++ (cs ++ (map clause.Runs b.body ++ clause.Ends b.end_line b.kind ∷ []))))

    with_instance : List Clause → List Clause
    with_instance cs =
        clause.Head b.line b.kind b.name b.result
        ∷ (flat_map part_clauses b.parts ++ (cs ++ (begin_clauses b.kind ++ (map clause.Sets b.settings ++ (map clause.Runs b.body ++ clause.Ends b.end_line b.kind ∷ [])))))

    with_shape : List Clause → List Clause
    with_shape cs =
        clause.Head b.line b.kind b.name b.result
        ∷ (flat_map part_clauses b.parts ++ (cs ++ (instance_clauses b.instance_of ++ (begin_clauses b.kind ++ (map clause.Sets b.settings ++ (map clause.Runs b.body ++ clause.Ends b.end_line b.kind ∷ []))))))

pub code_walk : (b : Block) → IsNumberedBlockOf b.kind b.name → IsCodeBlock b → Walk place.Outside (code_clauses b) place.Outside
code_walk b named h =
    let parts : HasWalk b.kind None (flat_map part_clauses b.parts) = parts_walk b.kind b.parts None h.order h.parts in (
      place.Head b.kind,
      head_step b.line b.kind b.name b.result (code_no_system b.kind h.kind) named h.result,
      walk_joined (flat_map part_clauses b.parts) (begin_clauses b.kind ++ (map clause.Runs b.body ++ clause.Ends b.end_line b.kind ∷ []))
          (place.Head b.kind) (section_place b.kind parts.last) place.Outside parts.walk
          (walk_joined (begin_clauses b.kind) (map clause.Runs b.body ++ clause.Ends b.end_line b.kind ∷ []) (section_place b.kind parts.last) (place.Body b.kind) place.Outside
          (code_begin b.kind parts.last h.kind)
          (walk_joined (map clause.Runs b.body) (clause.Ends b.end_line b.kind ∷ []) (place.Body b.kind) (place.Body b.kind) place.Outside
          (all_run b.kind b.body h.body)
          (place.Outside, body_ends b.end_line b.kind (code_no_system b.kind h.kind), refl))),
    )
