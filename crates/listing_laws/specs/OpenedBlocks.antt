-- The fixed place on which a statement of a source acts that opens a data block lies in it.
use Rattle.std.specs.Prelude.{◌≡◌, ℕ, List, Option}
use Rattle.std.specs.List.{AllByRecursion}
use Rattle.plc_base.specs.declared.places.Area.TheVariants as area
use Rattle.flat_code.specs.declared.operands.Operand.{Operand}
use Rattle.flat_code.specs.declared.operands.Operand.TheVariants as flat
use Rattle.flat_code.specs.declared.operands.Passed.{Passed}
use Rattle.flat_code.specs.declared.operands.Passed.TheVariants as passed
use Rattle.block_layout.specs.declared.blocks.BlockLayout.{BlockLayout}
use Rattle.stl_ast.specs.declared.blocks.Tree.{Tree}
use Rattle.stl_codegen.specs.GeneratedProgram.{program_of}
use Rattle.stl_list.specs.Operands.{block_opened_by_ops}
use Rattle.stl_list.specs.Runs.{StatementOps, runs}
use Rattle.stl_symbols.specs.Symbol.{Symbol}
use Rattle.listing_laws.specs.Bodies.{IsOpenedIn}

-- an operand that is a fixed place lies in area DB, where the statement opens a data block first;
-- `opened` is the number of that block
abbrev pub ActsInOpened : (opened : Option ℕ) → Operand → Type 0
ActsInOpened opened (flat.Direct a w byte bit) = IsOpenedIn opened a
ActsInOpened opened _ = Unit {0}

-- what is passed as a place in a data block of its own number lies in area DB
abbrev pub PassesInOpened : Passed → Type 0
PassesInOpened (passed.InBlock number a w byte bit) = a ≡ area.Db
PassesInOpened _ = Unit {0}

-- the operand of an op before a call: where it passes a place in a data block of its own number,
-- the place lies in area DB
abbrev pub PreparesInOpened : Operand → Type 0
PreparesInOpened (flat.Pass index p) = PassesInOpened p
PreparesInOpened _ = Unit {0}

-- a statement, by its ops: where it opens a data block, or passes a place in one, this place lies
-- in area DB
pub record OpensRight (r : StatementOps) : Type 0 where
  -- a fixed place that the statement acts on lies in area DB, where the statement opens a data
  -- block
  pub acts : ActsInOpened (block_opened_by_ops r.before) r.op.operand
  -- a place that the statement passes, in a data block of its own number, lies in area DB
  pub prepares : AllByRecursion (λ op. PreparesInOpened op.operand) r.before

-- in the program of each source, with whatever layouts, each place that a statement acts on in a
-- data block that it opens, or passes, lies in area DB
abbrev pub AreOpenedRight : Type 0
AreOpenedRight =
    (t : Tree) (symbols : List Symbol) (layouts : List BlockLayout)
    → AllByRecursion (λ b. AllByRecursion OpensRight (runs b.code))
    (program_of t symbols layouts).code_blocks
