-- Brackets and relay zones go by the instruction words and the lines of statements alone.
use Rattle.std.specs.Prelude.{◌≡◌, ℕ, false, List, [], ◌∷◌, None, if◌then◌else◌}
use Rattle.std.specs.List.{AllByRecursion, flat_map}
use Rattle.plc_base.specs.Least.{broken_if}
use Rattle.stl_ast.specs.Statements.{IsStatement, is_empty_statement}
use Rattle.stl_ast.specs.declared.blocks.Block.{Block}
use Rattle.stl_ast.specs.declared.mnemonics.Mnemonic.{Mnemonic}
use Rattle.stl_ast.specs.declared.statements.Statement.{Statement}
use Rattle.stl_types.specs.Brackets.{closes_no_bracket, is_eighth_bracket, brackets_left_open, with_brackets}
use Rattle.stl_types.specs.Context.{Context}
use Rattle.stl_types.specs.ResolvedStatement.{resolved_operand}
use Rattle.stl_types.specs.Zones.{ends_no_zone, is_ninth_zone, with_zones, zones_left_open}
use Rattle.stl_codegen.specs.CompiledBlock.{StatedBlock, compiled_block, lines_in}
use Rattle.stl_codegen.specs.GeneratedProgram.{statements_of}
use Rattle.stl_list.specs.Signatures.{Signature}
use Rattle.stl_list.specs.Statements.{body_of}

-- the instruction word of a statement, and its line
pub record NestingMark : Type 0 where
  -- the instruction word
  pub code : Mnemonic
  -- the line of the statement
  pub line : ℕ

-- the instruction word and the line of a statement; none of an empty one
abbrev pub nesting_mark_of : Statement → List NestingMark
nesting_mark_of s =
    if is_empty_statement s.code then [] else record { code = s.code; line = s.line } ∷ []

-- the instruction words and the lines of the statements of a body, without the empty ones
abbrev pub nesting_marks : List Statement → List NestingMark
nesting_marks body = flat_map nesting_mark_of body

-- two bodies break the same rules on brackets and zones, on the same lines
pub record AreNestedAlike (ss ts : List Statement) : Type 0 where
  -- rule 29: a `)` without an open bracket
  pub closing :
      with_brackets (λ brackets s. broken_if (closes_no_bracket brackets s) s.line 29) [] ss
      ≡ with_brackets (λ brackets s. broken_if (closes_no_bracket brackets s) s.line 29) [] ts
  -- rule 30: brackets that are left open
  pub brackets_left : brackets_left_open ss ≡ brackets_left_open ts
  -- rule 31: an eighth open bracket
  pub eighth :
      with_brackets (λ brackets s. broken_if (is_eighth_bracket brackets s) s.line 31) [] ss
      ≡ with_brackets (λ brackets s. broken_if (is_eighth_bracket brackets s) s.line 31) [] ts
  -- rule 47: a `)MCR` without an open zone
  pub ending : with_zones (λ zones s. broken_if (ends_no_zone zones s) s.line 47) [] ss
      ≡ with_zones (λ zones s. broken_if (ends_no_zone zones s) s.line 47) [] ts
  -- rule 48: zones that are left open
  pub zones_left : zones_left_open ss ≡ zones_left_open ts
  -- rule 49: a ninth open zone
  pub ninth : with_zones (λ zones s. broken_if (is_ninth_zone zones s) s.line 49) [] ss
      ≡ with_zones (λ zones s. broken_if (is_ninth_zone zones s) s.line 49) [] ts

-- bodies with the same instruction words on the same lines break the same rules on brackets and
-- zones, on the same lines
abbrev pub AreNestingsKept : Type 0
AreNestingsKept =
    (ss ts : List Statement) → nesting_marks ss ≡ nesting_marks ts → AreNestedAlike ss ts

-- a statement of a right source: its operand is one that its instruction takes
pub record IsReadable (c : Context) (s : Statement) : Type 0 where
  -- the statement is of the form of one of a source
  pub statement : IsStatement s
  -- unless it is an empty statement, its operand means something
  pub resolves : is_empty_statement s.code ≡ false → resolved_operand c s ≡ None → ⊥

-- the listed body of a block has the words of the block's own body, on its lines
abbrev pub AreMarksKept : Type 0
AreMarksKept =
    (c : Context) (b : Block) (stated : StatedBlock) (signatures : List Signature)
    → AllByRecursion (IsReadable c) b.body → stated.statements ≡ statements_of c b
    → nesting_marks (body_of signatures (lines_in stated.statements) (compiled_block stated))
    ≡ nesting_marks b.body

-- the listed body of a block breaks the same rules on brackets and zones as the block's own body,
-- on the same lines
abbrev pub AreListedNestingsKept : Type 0
AreListedNestingsKept =
    (c : Context) (b : Block) (stated : StatedBlock) (signatures : List Signature)
    → AllByRecursion (IsReadable c) b.body → stated.statements ≡ statements_of c b
    → AreNestedAlike
    (body_of signatures (lines_in stated.statements) (compiled_block stated)) b.body
