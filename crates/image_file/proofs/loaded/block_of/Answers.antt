use Rattle.std.proofs.Common.{◌∙◌, sym, ap, option_and_then, option_map, slice_get, ℕ}
use Rattle.std.specs.Borrow.{Bor}
use Rattle.flat_code.specs.Programs.{CodeBlock}
use Rattle.image_file.specs.declared.loaded_blocks.LoadedBlock.{LoadedBlock}
use Rattle.image_file.proofs.BlockTableLemmas.{found_by}
use Rattle.image_file.proofs.loaded.block_of.Goals as goal

pub returns-in_err-place : goal.returns-in_err-place
returns-in_err-place c =
    let blocks = c.args.blocks.now in
    ap (option_map {T = Bor LoadedBlock} {U = CodeBlock} (λ b. b.now)) c.from_residual.ensures
    ∙ ap (option_and_then (λ (place : ℕ). slice_get blocks place)) (sym c.in_err-place.was ∙ c.index_in_table.ensures)
    ∙ found_by c.args.block blocks c.args.table.now c.requires.finds c.requires.slots

pub returns : goal.returns
returns c =
    let blocks = c.args.blocks.now in
    c.block_at_place.ensures
    ∙ ap (option_and_then (λ (place : ℕ). slice_get blocks place)) (sym c.in_ok-place.was ∙ c.index_in_table.ensures)
    ∙ found_by c.args.block blocks c.args.table.now c.requires.finds c.requires.slots
