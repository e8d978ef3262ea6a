use Rattle.std.proofs.Common.{ℕ, ◌∙◌, ap, arith, length, List, ◌++◌, replicate}
use Rattle.std.specs.List.{fold, slice_get}
use Rattle.block_layout.specs.InitialBytes.{initial_bytes, bytes_with_write, setting_writes, settings_at, structure_writes}
use Rattle.block_layout.specs.Paths.{structure_of}
use Rattle.block_layout.proofs.FillLemmas.{written_back}
use Rattle.block_layout.proofs.filling.initial_bytes.Goals as goal

pub returns-clause-value : goal.returns-clause-value
unfolding initial_bytes
returns-clause-value c =
    let l = c.args.layouts.now in
    let writes = structure_writes l (structure_of l c.args.block) ++ setting_writes l c.args.block (settings_at (slice_get c.args.blocks.now c.args.block)) in
    written_back c.put_all.new.bytes _ _ (let kept = c.put_all.auto.bytes in let long = c.as_mut_slice.ensures.len in omega (arith, kept, long))
    ∙ c.in_ok-put_all.ensures
    ∙ ap (λ (b : List ℕ). fold bytes_with_write b writes) (c.as_mut_slice.ensures.value ∙ c.in_ok-bytes.ensures.items_if_clones_equal (λ y same. same) ∙ ap (λ (n : ℕ). replicate n 0) c.length_at-len.ensures)

pub returns-clause-len : goal.returns-clause-len
returns-clause-len c =
    let kept = c.put_all.auto.bytes in
    let long = c.as_mut_slice.ensures.len in
    let made = c.in_ok-bytes.ensures.len in
    let back = ap length (written_back c.put_all.new.bytes c.in_ok-bytes.bytes.items c.in_ok-bytes.bytes.len (omega (arith, kept, long))) in
    omega (arith, kept, long, made, back, c.length_at-len.ensures)
