-- Rules on the settings of data blocks: the line is that of the setting.
use Rattle.std.specs.Prelude.{ℕ, Bool, List}
use Rattle.std.specs.List.{flat_map}
use Rattle.plc_base.specs.declared.refusals.Refusal.{Refusal}
use Rattle.stl_ast.specs.declared.blocks.Block.{Block}
use Rattle.stl_ast.specs.declared.blocks.Setting.{Setting}
use Rattle.plc_base.specs.Least.{broken_if}
use Rattle.block_layout.specs.ByPlace.{by_place}

-- the refusals of the settings of one data block that break a rule, each at its line
abbrev pub in_settings : (breaks : Setting → Bool) → (rule : ℕ) → List Setting → List Refusal
in_settings breaks rule settings = flat_map (λ s. broken_if (breaks s) s.line rule) settings

-- the refusals of the settings of blocks, the first of which stands at the place `block`
abbrev pub on_settings : (breaks : ℕ → Setting → Bool) → (rule block : ℕ) → List Block
    → List Refusal
on_settings breaks rule block blocks =
    by_place (λ k b. in_settings (breaks k) rule b.settings) block blocks
