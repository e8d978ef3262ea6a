-- The declarations of a listed code block come to the parameters and the lengths of the block.
use Rattle.std.specs.Prelude.{◌≡◌, ℕ, true, List, [], ◌∷◌}
use Rattle.std.specs.List.{AllByRecursion}
use Rattle.plc_base.specs.Kinds.{is_code, is_function_block}
use Rattle.flat_code.specs.Loading.{Verifies}
use Rattle.flat_code.specs.Programs.{CodeBlock, Program}
use Rattle.flat_code.specs.declared.programs.Param.{Param}
use Rattle.stl_ast.specs.Literals.{AreBytes}
use Rattle.stl_ast.specs.declared.blocks.Block.{Block}
use Rattle.stl_ast.specs.declared.blocks.Tree.{Tree}
use Rattle.stl_symbols.specs.Symbol.{Symbol}
use Rattle.block_layout.specs.Cells.{components_of}
use Rattle.block_layout.specs.Lengths.{length_of_block, local_len}
use Rattle.block_layout.specs.Offsets.{width_of}
use Rattle.block_layout.specs.Types.{Types}
use Rattle.block_layout.specs.declared.blocks.BlockLayout.{BlockLayout}
use Rattle.stl_types.specs.declared.parameters.Formal.{Formal}
use Rattle.stl_codegen.specs.GeneratedProgram.{params_of}
use Rattle.stl_list.specs.CodeBlocks.{listed_block}
use Rattle.stl_list.specs.JoinedParameters.{chains_of}
use Rattle.stl_list.specs.Signatures.{Signature, signatures}
use Rattle.sem_kept.specs.AcceptedSource.{IsAccepted, program_in}

-- the types of formal parameters have the widths of the parameters
abbrev pub AreWide : List Param → List Formal → Type 0
AreWide [] [] = Unit {0}
AreWide (p ∷ ps) (f ∷ fs) = (width_of f.kind ≡ p.width) × AreWide ps fs
AreWide _ _ = ⊥

-- what a listing says of the code blocks of a program
abbrev pub signatures_in : Program → List Signature
signatures_in p = signatures (chains_of p.code_blocks) p.code_blocks

-- the types that chains of passings give to parameters have the widths of these
abbrev pub AreChainsWide : Program → Type 0
AreChainsWide p = AllByRecursion (λ s. AreWide s.params s.formals) (signatures_in p)

-- in a program that verifies, and whose code blocks are OBs, FBs or FCs by their kind, the types
-- that chains of passings give to parameters have the widths of these
abbrev pub AreKindsWide : Type 0
AreKindsWide =
    (p : Program) → AllByRecursion (λ b. is_code b.id.kind ≡ true) p.code_blocks → Verifies p
    → AreChainsWide p

-- the declarations of a listed code block come to its parameters, its local data and its instance,
-- whatever other blocks and types stand beside it
pub record IsDeclaredAgain (ss : List Signature) (b : CodeBlock) : Type 0 where
  -- the parameters, with their places
  pub params : (y : Types) (reached : ℕ) (l : BlockLayout)
      → l.components ≡ components_of y (listed_block ss reached b)
      → params_of (listed_block ss reached b) l ≡ b.params
  -- the listed block has as many bytes of local data as the code block
  pub local_len : (y : Types) (reached : ℕ) → local_len y (listed_block ss reached b) ≡ b.local_len
  -- an instance of a listed function block has as many bytes as one of the code block
  pub instance_len : (y : Types) (blocks : List Block) (reached : ℕ)
      → is_function_block b.id.kind ≡ true
      → length_of_block y blocks (listed_block ss reached b) ≡ b.instance_len

-- the declarations of each listed code block of an accepted source's program come to its
-- parameters, its local data and its instance
abbrev pub AreDeclaredAgain : Type 0
AreDeclaredAgain =
    (source file : List ℕ) (symbols : List Symbol) (t : Tree)
    → IsAccepted source file symbols t → AreBytes source → AreBytes file
    → AllByRecursion (IsDeclaredAgain (signatures_in (program_in symbols t)))
    (program_in symbols t).code_blocks
