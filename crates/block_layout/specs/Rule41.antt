-- Rule 41: an initial value that doesn't fit, of a declaration or set in a data block. A structure,
-- an array or a data type that is set fits no value. The line is that of the declaration or of the
-- setting.
use Rattle.std.specs.Prelude.{ℕ, Bool, false, not, List, ◌++◌, Option, Some, None}
use Rattle.plc_base.specs.declared.refusals.Refusal.{Refusal}
use Rattle.stl_ast.specs.declared.blocks.Block.{Block}
use Rattle.stl_ast.specs.declared.blocks.Setting.{Setting}
use Rattle.stl_ast.specs.declared.declarations.Declaration.{Declaration}
use Rattle.stl_ast.specs.declared.declarations.Simple.{Simple}
use Rattle.stl_ast.specs.declared.literals.Literal.{Literal}
use Rattle.plc_base.specs.Least.{broken_if}
use Rattle.block_layout.specs.Around.{Outside, refusals_in_blocks}
use Rattle.block_layout.specs.Declarations.{init_fits}
use Rattle.block_layout.specs.Fits.{fits_elementary_type}
use Rattle.block_layout.specs.Paths.{folded_path, path_end_of_setting, elementary_at}
use Rattle.block_layout.specs.Settings.{on_settings}
use Rattle.block_layout.specs.declared.blocks.BlockLayout.{BlockLayout}
use Rattle.block_layout.specs.declared.path_ends.PathEnd.{PathEnd}
use Rattle.block_layout.specs.declared.path_ends.PathEnd.TheVariants as path_end

-- the refusal by rule 41 of a declaration whose initial values don't fit its type, at its line
abbrev pub refusals_41 : Outside → List Declaration → Declaration → List Refusal
refusals_41 o before d = broken_if (not (init_fits d)) d.line 41

-- a value fits an elementary data type; what is of another type fits none
abbrev pub fits_kind : Literal → Option Simple → Bool
fits_kind value None = false
fits_kind value (Some kind) = fits_elementary_type value kind

-- a value doesn't fit the component that a path leads to; it is not checked where there is none
abbrev pub misfits_component : List BlockLayout → Literal → PathEnd → Bool
misfits_component l value (path_end.Reaches component) =
    not (fits_kind value (elementary_at l component))
misfits_component l value _ = false

-- the value of a setting doesn't fit the component that its path leads to
abbrev pub setting_misfits : List BlockLayout → ℕ → Setting → Bool
setting_misfits l block s =
    misfits_component l s.value (path_end_of_setting l block (folded_path s.path))

-- rule 41: an initial value that doesn't fit
unfoldable pub rule_41 : List BlockLayout → List Block → List Refusal
rule_41 l blocks =
    refusals_in_blocks refusals_41 blocks ++ on_settings (setting_misfits l) 41 0 blocks
