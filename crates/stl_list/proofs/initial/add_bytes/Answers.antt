use Rattle.std.proofs.Common.{◌+◌, ◌++◌, ◌∙◌, List, ℕ, ap}
use Rattle.std.specs.List.{flat_map}
use Rattle.stl_ast.specs.declared.blocks.Setting.{Setting}
use Rattle.stl_codegen.proofs.AppendLemmas.{between_turn}
use Rattle.stl_list.specs.Initial.{byte_at, byte_here}
use Rattle.stl_list.proofs.RangeLemmas.{range_next}
use Rattle.stl_list.proofs.initial.add_bytes.Goals as goal

pub loop-index-preserved : goal.loop-index-preserved
loop-index-preserved c =
    let i = c.loop-index.index in
    let here : ℕ → List Setting = λ k. byte_here c.args.line k (byte_at c.args.bytes.now (c.args.start + k)) in
    between_turn c.args.settings.now.items c.loop-index.settings.items c.add_byte.new.settings.items _ (here i) _ _ c.loop-index.invariant
    (ap (flat_map here) (range_next i c.args.count c.loop-index-test.true))
    (c.in_ok-add_byte.ensures ∙ ap (λ (v : ℕ). c.loop-index.settings.items ++ byte_here c.args.line i v) c.byte_at-value.ensures)
