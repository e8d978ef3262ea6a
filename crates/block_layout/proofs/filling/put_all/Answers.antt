use Rattle.std.proofs.Common.{◌∙◌, ap, List}
use Rattle.std.specs.List.{fold, slice_get}
use Rattle.stl_ast.specs.declared.blocks.Setting.{Setting}
use Rattle.block_layout.specs.InitialBytes.{bytes_with_write, setting_writes, settings_at, structure_writes}
use Rattle.block_layout.specs.Paths.{structure_of}
use Rattle.block_layout.proofs.FillLemmas.{both}
use Rattle.block_layout.proofs.filling.put_all.Goals as goal

pub returns : goal.returns
returns c =
    let l = c.args.layouts.now in
    both c.args.bytes.now c.put_structure.new.bytes c.put_settings.new.bytes (structure_writes l (structure_of l c.args.block))
    (setting_writes l c.args.block (settings_at (slice_get c.args.blocks.now c.args.block))) c.in_ok-put_structure.ensures
    (c.in_ok-put_settings.ensures ∙ ap (λ (ss : List Setting). fold bytes_with_write c.put_structure.new.bytes (setting_writes l c.args.block ss)) c.settings_at.ensures)
