-- The blocks that a source names stand in the listing of its program.
use Rattle.std.specs.Prelude.{◌≡◌, ℕ, List, Some}
use Rattle.stl_ast.specs.declared.blocks.Tree.{Tree}
use Rattle.stl_ast.specs.declared.names.BlockName.{BlockName}
use Rattle.stl_symbols.specs.Symbol.{Symbol}
use Rattle.stl_types.specs.Context.{Context, data_number}
use Rattle.listing_laws.specs.ListedSource.{IsWholeAgain, again_at, source_context_at}
use Rattle.listing_laws.specs.Calling.{AreCalledAgain}
use Rattle.listing_laws.specs.Operands.{IsOpenedAgain}

-- the data blocks that the source may name stand in the tree of the listing
abbrev pub AreDataAgain : Context → Context → Type 0
AreDataAgain c listed =
    (name : BlockName) (number : ℕ) → data_number c name ≡ Some number
    → IsOpenedAgain listed (Some number)

-- the data blocks that a body of a source may name stand in the listing of the source's program,
-- where no block of the listing breaks a rule as a whole
abbrev pub AreDataFound : Type 0
AreDataFound =
    (symbols : List Symbol) (t : Tree) (others : List Symbol) (place again : ℕ)
    → IsWholeAgain symbols t others
    → AreDataAgain (source_context_at symbols t place) (again_at symbols t others again)

-- the blocks that a body of a source may call stand in the listing of the source's program, where
-- no block of the listing breaks a rule as a whole
abbrev pub AreCalledFound : Type 0
AreCalledFound =
    (symbols : List Symbol) (t : Tree) (others : List Symbol) (place again : ℕ)
    → IsWholeAgain symbols t others
    → AreCalledAgain (source_context_at symbols t place) (again_at symbols t others again)
