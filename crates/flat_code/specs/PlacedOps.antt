-- Ops at their places in the code of a block.
use Rattle.std.specs.Prelude.{ℕ, ◌+◌, ◌-◌, nat_le, ◌==◌, Bool, true, false, ◌&&◌, if◌then◌else◌, List, [], ◌∷◌, ◌++◌, length, take, drop, slice_get, Option, Some, None}
use Rattle.flat_code.specs.declared.image_fields.OpenBracket.{OpenBracket}
use Rattle.flat_code.specs.Ops.{OpData}
use Rattle.flat_code.specs.Codes.{size_of_op}
use Rattle.flat_code.specs.OpCodes.{op_code_of}
use Rattle.flat_code.specs.declared.operations.Operation.TheVariants as operation
use Rattle.flat_code.specs.declared.operations.RelayOperation.TheVariants as relay
use Rattle.plc_base.specs.declared.instructions.Check.TheVariants as check

-- the op at the offset `at` and the offset behind it, among ops of which the first begins at the
-- offset `from`; None where no op begins at `at`
abbrev pub op_placed : ℕ → List OpData → ℕ → Option (OpData × ℕ)
op_placed from [] at = None
op_placed from (op ∷ ops) at =
    if from == at then Some (op, from + size_of_op op) else op_placed (from + size_of_op op) ops at

-- the source line of the statement that begins at the offset `at`, among ops of which the first
-- begins at the offset `from`; `begins`: whether a statement begins with that op, `lines`: the
-- lines of the statements from there on. None where no statement begins at `at`
abbrev pub line_placed : ℕ → Bool → List OpData → List ℕ → ℕ → Option ℕ
line_placed from begins [] lines at = None
line_placed from begins (op ∷ ops) lines at =
    if from == at then (if begins then slice_get lines 0 else None)
    else line_placed (from + size_of_op op) op.last ops (if op.last then drop 1 lines else lines) at

-- an op at its place in the code of a block
pub record PlacedOp : Type 0 where
  -- the offset in bytes at which the op begins in the code
  pub at : ℕ
  -- the brackets, A( to XN(, that stand open before the op in the text, the outermost first
  pub brackets : List OpenBracket
  -- the zones of the master control relay that stand open before the op in the text, by the offsets
  -- of their `MCR(`, the outermost first
  pub zones : List ℕ
  -- the ops of the same statement before the op
  pub before : List OpData
  -- the op itself
  pub op : OpData
  -- the ops behind it, to the end of the code
  pub rest : List OpData

-- whether an op code is one of A( to XN(, which open a bracket and whose codes stand together
abbrev pub is_opening : ℕ → Bool
is_opening code =
    nat_le (op_code_of (operation.Nest check.A)) code
    && nat_le code (op_code_of (operation.Nest check.Xn))

-- open brackets without the innermost, which is the last of the list; none where none is open
abbrev pub outer_brackets : List OpenBracket → List OpenBracket
outer_brackets brackets = take (length brackets - 1) brackets

-- the open brackets behind an op at an offset: A( to XN( stand open from there on, `)` closes the
-- innermost, and every other op leaves the brackets as they are
abbrev pub brackets_after : ℕ → ℕ → List OpenBracket → List OpenBracket
brackets_after at code brackets =
    if is_opening code then brackets ++ record { at = at; code = code } ∷ []
    else if code == op_code_of operation.Unnest then outer_brackets brackets
    else brackets

-- the open zones behind an op at an offset: `MCR(` opens a zone, `)MCR` ends the last one, and
-- every other op leaves the zones as they are
abbrev pub zones_behind_op : ℕ → ℕ → List ℕ → List ℕ
zones_behind_op at code zones =
    if code == op_code_of (operation.Relay relay.Open) then zones ++ at ∷ []
    else if code == op_code_of (operation.Relay relay.Close) then take (length zones - 1) zones
    else zones

-- the ops of its statement that stand before the op next to `op`; none where `op` ends its
-- statement
abbrev pub before_next : OpData → List OpData → List OpData
before_next op before = if op.last then [] else before ++ op ∷ []

-- ops at their places: the first of them begins at the offset `at`, behind these open brackets and
-- zones and behind the ops `before` of its own statement
abbrev pub ops_placed : ℕ → List OpenBracket → List ℕ → List OpData → List OpData → List PlacedOp
ops_placed at brackets zones before [] = []
ops_placed at brackets zones before (op ∷ ops) =
    record { at = at; brackets = brackets; zones = zones; before = before; op = op; rest = ops }
    ∷ ops_placed
    (at + size_of_op op)
    (brackets_after at op.code brackets)
    (zones_behind_op at op.code zones)
    (before_next op before)
    ops

-- the ops of a block's code, each at its place
abbrev pub code_places : List OpData → List PlacedOp
code_places ops = ops_placed 0 [] [] [] ops

-- whether a list is empty
abbrev pub is_empty_list : {A : Type 0} → List A → Bool
is_empty_list [] = true
is_empty_list (x ∷ xs) = false

-- whether an op is the first one of its statement
abbrev pub begins_its_statement : PlacedOp → Bool
begins_its_statement p = is_empty_list p.before

-- the op codes of open brackets, 16#18 A( to 16#1D XN(, the outermost first
abbrev pub bracket_codes : List OpenBracket → List ℕ
bracket_codes [] = []
bracket_codes (b ∷ bs) = b.code ∷ bracket_codes bs

-- how many brackets stand open at a place at most: seven
abbrev pub most_brackets : ℕ
most_brackets = 7

-- how many zones of the master control relay stand open at a place at most: eight
abbrev pub most_zones : ℕ
most_zones = 8

-- the op codes of open brackets, the outermost first; None where more than seven are open
abbrev pub codes_of_few_brackets : List OpenBracket → Option (List ℕ)
codes_of_few_brackets brackets =
    if nat_le (length brackets) most_brackets then Some (bracket_codes brackets) else None

-- a statement of a block, as a jump to it sees it
pub record StatementStart : Type 0 where
  -- the offset in bytes at which the statement begins in the block's code
  pub at : ℕ
  -- the op codes of the brackets that stand open there, the outermost first; None for more than
  -- seven
  pub codes : Option (List ℕ)
  -- how many zones of the master control relay stand open there
  pub zones : ℕ

-- the statements of ops of which the first begins at the offset `at`, behind these open brackets
-- and zones; `begin`: whether that op begins a statement or goes on with one
abbrev pub statement_starts_from : ℕ → Bool → List OpenBracket → List ℕ → List OpData
    → List StatementStart
statement_starts_from at begin brackets zones [] = []
statement_starts_from at begin brackets zones (op ∷ ops) =
    if begin
    then record { at = at; codes = codes_of_few_brackets brackets; zones = length zones }
    ∷ statement_starts_from
    (at + size_of_op op)
    op.last
    (brackets_after at op.code brackets)
    (zones_behind_op at op.code zones)
    ops
    else statement_starts_from
    (at + size_of_op op)
    op.last
    (brackets_after at op.code brackets)
    (zones_behind_op at op.code zones)
    ops

-- the statements of a block's code
abbrev pub starts_of_statements : List OpData → List StatementStart
starts_of_statements ops = statement_starts_from 0 true [] [] ops

-- the statement that begins at an offset; None where none begins there
abbrev pub statement_start_at : List StatementStart → ℕ → Option StatementStart
statement_start_at [] at = None
statement_start_at (s ∷ ss) at = if s.at == at then Some s else statement_start_at ss at

-- the op that ends the statement of the op `op`, by the ops behind it: the first with an end mark,
-- with none the last op of all
abbrev pub ending_op : OpData → List OpData → OpData
ending_op op [] = op
ending_op op (next ∷ ops) = if op.last then op else ending_op next ops

-- the op that ends the statement of a placed op: the first with an end mark from it on, with none
-- the last op of the code
abbrev pub last_op : PlacedOp → OpData
last_op p = ending_op p.op p.rest

-- the brackets that stand open behind the last of ops, by those that stand open before the first,
-- which begins at the offset `at`
abbrev pub open_behind : ℕ → List OpenBracket → List OpData → List OpenBracket
open_behind at brackets [] = brackets
open_behind at brackets (op ∷ ops) =
    open_behind (at + size_of_op op) (brackets_after at op.code brackets) ops

-- the zones that stand open behind the last of ops, by those that stand open before the first,
-- which begins at the offset `at`
abbrev pub zones_left : ℕ → List ℕ → List OpData → List ℕ
zones_left at zones [] = zones
zones_left at zones (op ∷ ops) =
    zones_left (at + size_of_op op) (zones_behind_op at op.code zones) ops
