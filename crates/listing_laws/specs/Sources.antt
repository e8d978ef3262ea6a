-- The text of the listing of a program is read as its tree, where its ops are those of a source.
use Rattle.std.specs.Prelude.{◌≡◌, ℕ, length, List, []}
use Rattle.std.specs.List.{AllByRecursion}
use Rattle.flat_code.specs.Image.{IsProgram}
use Rattle.flat_code.specs.Ops.{OpData}
use Rattle.flat_code.specs.declared.operands.Operand.{Operand}
use Rattle.flat_code.specs.declared.operands.Operand.TheVariants as flat
use Rattle.flat_code.specs.declared.operands.Passed.{Passed}
use Rattle.flat_code.specs.declared.operands.Passed.TheVariants as passed
use Rattle.flat_code.specs.Programs.{CodeBlock, Program}
use Rattle.stl_ast.specs.WellFormed.{IsWellFormed}
use Rattle.stl_ast.specs.declared.blocks.Tree.{Tree}
use Rattle.stl_lexer.specs.Tokens.{AreTokens}
use Rattle.stl_lexer.specs.declared.kinds.Token.{Token}
use Rattle.stl_parser.specs.Source.{IsTree}
use Rattle.stl_symbols.specs.Symbol.{Symbol}
use Rattle.block_layout.specs.declared.blocks.BlockLayout.{BlockLayout}
use Rattle.stl_types.specs.Labels.{rule_26}
use Rattle.stl_codegen.specs.GeneratedProgram.{program_of}
use Rattle.stl_list.specs.Listing.{listed_source, listed_tree}
use Rattle.stl_list.specs.Runs.{StatementOps, runs}
use Rattle.listing_laws.specs.Bodies.{IsCallBy, IsEndFree, IsPlace, IsSourceRun}
use Rattle.listing_laws.specs.Ranges.{IsWrittenProgram}

-- a block whose statements are those of a source: as many as lines, and none jumps to the END
-- clause
pub record IsSourceBlock (b : CodeBlock) : Type 0 where
  -- the ops of each statement are such as a source has
  pub statements : AllByRecursion IsSourceRun (runs b.code)
  -- as many statements as lines
  pub count : length (runs b.code) ≡ length b.lines
  -- no jump leads to the END clause
  pub end : IsEndFree (length b.lines) b

-- the listing of a program whose statements are all those of a source has tokens, and these have
-- its tree
abbrev pub AreListingsRead : Type 0
AreListingsRead =
    (p : Program) → IsProgram p → IsWrittenProgram p → AllByRecursion IsSourceBlock p.code_blocks
    → (tokens : List Token) × AreTokens (listed_source p) tokens
    × IsTree (listed_source p) tokens (listed_tree p)

-- a place that is passed has a bit number as in a source, and is no bit of the peripherals
abbrev pub PassesNamedPlace : Passed → Type 0
PassesNamedPlace (passed.Direct a w byte bit) = IsPlace a w bit
PassesNamedPlace (passed.InBlock number a w byte bit) = IsPlace a w bit
PassesNamedPlace _ = Unit {0}

-- the operand of an op before a call: a place that it passes has a bit number as in a source, and
-- is no bit of the peripherals
abbrev pub PreparesOnNamed : Operand → Type 0
PreparesOnNamed (flat.Pass index p) = PassesNamedPlace p
PreparesOnNamed _ = Unit {0}

-- the operand of the last op of a statement: a place has a bit number as in a source, and is no bit
-- of the peripherals, and a call is one of a source. `before` are the ops before it, `code` is its
-- op code
abbrev pub ActsOnNamed : (before : List OpData) → (code : ℕ) → Operand → Type 0
ActsOnNamed before code (flat.Direct a w byte bit) = IsPlace a w bit
ActsOnNamed before code (flat.Called kind number instance) = IsCallBy before code kind instance
ActsOnNamed before code _ = Unit {0}

-- what a statement acts on, calls and passes is named as in a source
pub record IsRunNamed (r : StatementOps) : Type 0 where
  -- each place that the statement passes is named as in a source
  pub prepares : AllByRecursion (λ op. PreparesOnNamed op.operand) r.before
  -- a place that the statement acts on is named as in a source, and a call is one of a source
  pub acts : ActsOnNamed r.before r.op.code r.op.operand

-- what each statement of a program acts on, calls and passes is named as in a source
abbrev pub IsNamedProgram : Program → Type 0
IsNamedProgram p = AllByRecursion (λ b. AllByRecursion IsRunNamed (runs b.code)) p.code_blocks

-- the listing of the program of a source, each of whose jumps has its label, is read as its tree
abbrev pub AreSourcesRead : Type 0
AreSourcesRead =
    (t : Tree) (symbols : List Symbol) (layouts : List BlockLayout) → IsWellFormed t
    → rule_26 t.blocks ≡ [] → IsProgram (program_of t symbols layouts)
    → IsNamedProgram (program_of t symbols layouts)
    → (tokens : List Token) × AreTokens (listed_source (program_of t symbols layouts)) tokens
    × IsTree (listed_source (program_of t symbols layouts)) tokens
    (listed_tree (program_of t symbols layouts))
