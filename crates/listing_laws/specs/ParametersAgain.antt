-- What a body of a source sees as its own parameters is there in the listing of the source's
-- program.
use Rattle.std.specs.Prelude.{◌≡◌, ℕ, List}
use Rattle.plc_base.specs.declared.blocks.BlockId.{BlockId}
use Rattle.stl_ast.specs.Literals.{AreBytes}
use Rattle.stl_ast.specs.declared.blocks.Block.{Block}
use Rattle.stl_ast.specs.declared.blocks.PartKind.{PartKind}
use Rattle.stl_ast.specs.declared.blocks.PathStep.{PathStep}
use Rattle.stl_ast.specs.declared.blocks.Tree.{Tree}
use Rattle.stl_ast.specs.declared.declarations.Simple.{Simple}
use Rattle.stl_symbols.specs.Symbol.{Symbol}
use Rattle.block_layout.specs.declared.blocks.BlockLayout.{BlockLayout}
use Rattle.stl_types.specs.Context.{Context}
use Rattle.stl_types.specs.Variables.{own_variable}
use Rattle.stl_types.specs.declared.parameters.Formal.{Formal}
use Rattle.stl_types.specs.declared.resolved_operands.Resolution.TheVariants.{Resolved}
use Rattle.stl_types.specs.declared.resolved_operands.ResolvedOperand.TheVariants as resolved
use Rattle.stl_list.specs.Signatures.{formals_of_block}
use Rattle.sem_kept.specs.AcceptedSource.{IsAccepted, program_in}
use Rattle.listing_laws.specs.ListedSource.{IsMadeOf, IsWholeAgain, again_at, source_context_at}
use Rattle.listing_laws.specs.ListedDeclarations.{signatures_in}
use Rattle.listing_laws.specs.Operands.{IsParameterAgain}

-- what a body sees as its own parameter is there, at a block of a listing, as the one of its index
abbrev pub AreOwnAgain : (c listed : Context) → List Formal → Type 0
AreOwnAgain c listed formals =
    (name : List ℕ) (steps : List PathStep) (index : ℕ) (section : PartKind) (kind : Simple)
    → own_variable c name steps ≡ Resolved (resolved.Parameter index section kind)
    → IsParameterAgain listed formals index section kind

-- what each body of an accepted source sees as its own parameter is there in the listing, at the
-- block that was made of its block, where no block of the listing breaks a rule as a whole
abbrev pub AreParametersAgain : Type 0
AreParametersAgain =
    (source file : List ℕ) (symbols : List Symbol) (t : Tree)
    → IsAccepted source file symbols t → AreBytes source → AreBytes file → (others : List Symbol)
    → IsWholeAgain symbols t others → (again place : ℕ) (b : Block) (l : BlockLayout) (id : BlockId)
    → IsMadeOf symbols t again place b l id
    → AreOwnAgain (source_context_at symbols t place) (again_at symbols t others again)
    (formals_of_block (signatures_in (program_in symbols t)) id)
