-- The frame: which kind of clause may follow where.
use Rattle.std.specs.Prelude.{ℕ, zero, suc, nat_lt, nat_eq, ◌&&◌, if◌then◌else◌, Option, Some, None}
use Rattle.plc_base.specs.Kinds.{is_code, kind_order}
use Rattle.plc_base.specs.declared.blocks.BlockKind.{BlockKind}
use Rattle.plc_base.specs.declared.blocks.BlockKind.TheVariants as kinds
use Rattle.stl_ast.specs.declared.blocks.PartKind.{PartKind}
use Rattle.stl_ast.specs.Blocks.{has_shape, part_rank, may_have_section, may_declare, is_date_and_time}
use Rattle.stl_ast.specs.Outline.{level_behind}
use Rattle.stl_parser.specs.declared.clauses.Clause.{Clause}
use Rattle.stl_parser.specs.declared.clauses.Clause.TheVariants as clause
use Rattle.stl_parser.specs.declared.places.ClausePlace.{ClausePlace}
use Rattle.stl_parser.specs.declared.places.ClausePlace.TheVariants as place

-- where the clauses behind an END_STRUCT in a section stand, which closes the innermost structure;
-- None where none is open, at level 0
abbrev pub section_behind : BlockKind → PartKind → ℕ → Option ClausePlace
section_behind k p zero = None
section_behind k p (suc level) = Some (place.Section k p level)

-- where the clauses behind an END_STRUCT in the structure of a data block or of a TYPE block stand;
-- at level 0 it closes that structure
abbrev pub shape_behind : BlockKind → ℕ → Option ClausePlace
shape_behind k zero = Some (place.Shaped k)
shape_behind k (suc level) = Some (place.Shape k level)

-- the place behind a clause in the head of a block; none where the clause may not stand there
unfoldable pub next_place_in_head : BlockKind → Clause → Option ClausePlace
next_place_in_head k clause.Note = Some (place.Head k)
next_place_in_head k clause.Title = Some (place.Head k)
next_place_in_head k (clause.Section line p) =
    if may_have_section k p then Some (place.Section k p 0) else None
next_place_in_head k clause.Begins = if is_code k then Some (place.Body k) else None
next_place_in_head k clause.Structure = if has_shape k then Some (place.Shape k 0) else None
next_place_in_head k (clause.Based name) =
    if nat_eq (kind_order k) (kind_order kinds.Db) then Some (place.Shaped k) else None
next_place_in_head k _ = None

-- the place behind a clause in a section; none where the clause may not stand there
unfoldable pub next_place_in_section : BlockKind → PartKind → ℕ → Clause → Option ClausePlace
next_place_in_section k p level clause.EndSection =
    if nat_eq level 0 then Some (place.Between k p) else None
next_place_in_section k p level (clause.Declares d) =
    if may_declare k p level d then Some (place.Section k p (level_behind level d.of.of)) else None
next_place_in_section k p level clause.EndStructure = section_behind k p level
next_place_in_section k p level _ = None

-- the place behind a clause that follows a section: a later section, or the body; none where the
-- clause may not stand there
unfoldable pub next_place_between : BlockKind → PartKind → Clause → Option ClausePlace
next_place_between k last (clause.Section line p) =
    if may_have_section k p && nat_lt (part_rank last) (part_rank p) then Some (place.Section k p 0)
    else None
next_place_between k last clause.Begins = Some (place.Body k)
next_place_between k last _ = None

-- the place behind a clause in the structure of a data block or of a TYPE block; none where the
-- clause may not stand there
unfoldable pub next_place_in_shape : BlockKind → ℕ → Clause → Option ClausePlace
next_place_in_shape k level (clause.Declares d) =
    if is_date_and_time d.of.of then None else Some (place.Shape k (level_behind level d.of.of))
next_place_in_shape k level clause.EndStructure = shape_behind k level
next_place_in_shape k level _ = None

-- the place behind a clause that follows the structure of a data block or of a TYPE block, or what
-- a data block is based on: in the settings of a data block, or outside behind the end of a TYPE
-- block; none where the clause may not stand there
unfoldable pub next_place_behind_shape : BlockKind → Clause → Option ClausePlace
next_place_behind_shape kinds.Db clause.Begins = Some place.Settings
next_place_behind_shape kinds.Udt (clause.Ends line kinds.Udt) = Some place.Outside
next_place_behind_shape _ _ = None

-- the place behind a clause in a body; none where the clause may not stand there
unfoldable pub next_place_in_body : BlockKind → Clause → Option ClausePlace
next_place_in_body k (clause.Runs s) = Some (place.Body k)
next_place_in_body k clause.Network = Some (place.Body k)
next_place_in_body k clause.Title = Some (place.Body k)
next_place_in_body k (clause.Ends line e) =
    if nat_eq (kind_order e) (kind_order k) then Some place.Outside else None
next_place_in_body k _ = None

-- the place behind a clause in the BEGIN part of a data block; none where the clause may not stand
-- there
unfoldable pub next_place_in_settings : Clause → Option ClausePlace
next_place_in_settings (clause.Sets s) = Some place.Settings
next_place_in_settings (clause.Ends line kinds.Db) = Some place.Outside
next_place_in_settings _ = None

-- the place behind a clause between blocks; none where the clause may not stand there
unfoldable pub next_place_outside : Clause → Option ClausePlace
next_place_outside (clause.Head line k name result) = Some (place.Head k)
next_place_outside _ = None

-- where the next clause stands, or None where such a clause may not stand here
unfoldable pub next_place : ClausePlace → Clause → Option ClausePlace
next_place place.Outside c = next_place_outside c
next_place (place.Head k) c = next_place_in_head k c
next_place (place.Section k p level) c = next_place_in_section k p level c
next_place (place.Between k last) c = next_place_between k last c
next_place (place.Shape k level) c = next_place_in_shape k level c
next_place (place.Shaped k) c = next_place_behind_shape k c
next_place (place.Body k) c = next_place_in_body k c
next_place place.Settings c = next_place_in_settings c
