-- The instances of function blocks, in the listing of an accepted source's program.
use Rattle.std.specs.Prelude.{◌≡◌, ℕ, false, List, [], ◌∷◌, length, Some, slice_get}
use Rattle.std.specs.List.{AllByRecursion}
use Rattle.flat_code.specs.Programs.{DataBlock}
use Rattle.stl_ast.specs.Literals.{AreBytes}
use Rattle.stl_ast.specs.declared.blocks.Block.{Block}
use Rattle.stl_ast.specs.declared.blocks.Tree.{Tree}
use Rattle.stl_symbols.specs.Symbol.{Symbol}
use Rattle.block_layout.specs.Layouts.{layouts_of}
use Rattle.block_layout.specs.Lengths.{length_of_block}
use Rattle.block_layout.specs.Measures.{types_of_source}
use Rattle.block_layout.specs.Rule41.{setting_misfits}
use Rattle.block_layout.specs.Rule42.{setting_is_outside}
use Rattle.block_layout.specs.Rule51.{is_too_long}
use Rattle.block_layout.specs.Settings.{on_settings}
use Rattle.block_layout.specs.declared.blocks.BlockLayout.{BlockLayout}
use Rattle.stl_types.specs.Unknown.{sets_unknown}
use Rattle.stl_codegen.specs.GeneratedProgram.{data_block_of, data_blocks_of}
use Rattle.stl_list.specs.DataBlocks.{listed_data}
use Rattle.sem_kept.specs.AcceptedSource.{IsAccepted, program_in}
use Rattle.listing_laws.specs.ListedSource.{IsWholeAgain, again_at, listed_tree_again}
use Rattle.listing_laws.specs.ListedDeclarations.{signatures_in}

-- the block that a data block of a source's program is listed as
abbrev pub data_again : (symbols : List Symbol) → Tree → (line : ℕ) → DataBlock → Block
data_again symbols t line d =
    listed_data (signatures_in (program_in symbols t)) line d.number d.bytes d.instance_of

-- an instance, listed, is as long as it was and not too long (rule 51)
pub record IsInstanceLong
    (symbols : List Symbol) (t : Tree) (others : List Symbol) (d : DataBlock)
    : Type 0 where
  -- the listed instance has as many bytes as the data block
  pub length : (line : ℕ)
      → length_of_block (types_of_source others (listed_tree_again symbols t).blocks)
      (listed_tree_again symbols t).blocks
      (data_again symbols t line d) ≡ length d.bytes
  -- the listed instance has at most 16,384 bytes
  pub by_51 : (line : ℕ)
      → is_too_long (types_of_source others (listed_tree_again symbols t).blocks)
      (listed_tree_again symbols t).blocks
      (data_again symbols t line d) ≡ false

-- each instance of an accepted source's program is listed as long as it was, and not too long,
-- whatever symbols stand beside the listing
abbrev pub AreInstancesLong : Type 0
AreInstancesLong =
    (source file : List ℕ) (symbols : List Symbol) (t : Tree)
    → IsAccepted source file symbols t → AreBytes source → AreBytes file → (others : List Symbol)
    → AllByRecursion (λ d. (n : ℕ) → d.instance_of ≡ Some n → IsInstanceLong symbols t others d)
    (program_in symbols t).data_blocks

-- where an instance stands in the listing, the program of the listing has it again, with its
-- number, its function block and its bytes
abbrev pub IsInstanceAgain :
    (symbols : List Symbol) → Tree → (others : List Symbol) → DataBlock → Type 0
IsInstanceAgain symbols t others d =
    (k line : ℕ) (l : BlockLayout)
    → slice_get (listed_tree_again symbols t).blocks k ≡ Some (data_again symbols t line d)
    → slice_get (layouts_of (listed_tree_again symbols t) others) k ≡ Some l
    → data_block_of (again_at symbols t others k) l l.id ≡ d ∷ []

-- the program of the listing has each instance of an accepted source's program again, where no
-- block of the listing breaks a rule as a whole
abbrev pub AreInstancesAgain : Type 0
AreInstancesAgain =
    (source file : List ℕ) (symbols : List Symbol) (t : Tree)
    → IsAccepted source file symbols t → AreBytes source → AreBytes file → (others : List Symbol)
    → IsWholeAgain symbols t others
    → AllByRecursion (λ d. (n : ℕ) → d.instance_of ≡ Some n → IsInstanceAgain symbols t others d)
    (program_in symbols t).data_blocks

-- the settings of a listing break none of the rules of settings
pub record AreSettingsRight (symbols : List Symbol) (t : Tree) (others : List Symbol) : Type 0 where
  -- no setting has an unknown name or component
  pub by_20 : on_settings (sets_unknown (layouts_of (listed_tree_again symbols t) others)) 20 0
      (listed_tree_again symbols t).blocks ≡ []
  -- each setting fits its component
  pub by_41 : on_settings (setting_misfits (layouts_of (listed_tree_again symbols t) others)) 41 0
      (listed_tree_again symbols t).blocks ≡ []
  -- no index of a setting is outside its array
  pub by_42 :
      on_settings (setting_is_outside (layouts_of (listed_tree_again symbols t) others)) 42 0
      (listed_tree_again symbols t).blocks ≡ []

-- the settings of the listing of an accepted source's program break no rule, where no block of the
-- listing breaks a rule as a whole
abbrev pub AreListedSettingsRight : Type 0
AreListedSettingsRight =
    (source file : List ℕ) (symbols : List Symbol) (t : Tree)
    → IsAccepted source file symbols t → AreBytes source → AreBytes file → (others : List Symbol)
    → IsWholeAgain symbols t others → AreSettingsRight symbols t others

-- the program of the listing has the data blocks of an accepted source's program, in their order,
-- where no block of the listing breaks a rule as a whole
abbrev pub AreDataBlocksAgain : Type 0
AreDataBlocksAgain =
    (source file : List ℕ) (symbols : List Symbol) (t : Tree)
    → IsAccepted source file symbols t → AreBytes source → AreBytes file → (others : List Symbol)
    → IsWholeAgain symbols t others
    → data_blocks_of (listed_tree_again symbols t) others
    (layouts_of (listed_tree_again symbols t) others)
    ≡ (program_in symbols t).data_blocks
