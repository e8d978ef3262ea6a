use Rattle.std.proofs.Common.{◌≡◌, ◌+◌, ◌∷◌, ◌++◌, [], length, true, false, Some, List, sym, subst, rules}
use Rattle.plc_base.specs.Profiles.{most_frames}
use Rattle.plc_base.specs.declared.blocks.BlockId.{BlockId}
use Rattle.image_file.specs.Readers.{block_by_id}
use Rattle.stack_bound.specs.Deepest.{IsMostCalled, is_chain_too_deep}
use Rattle.stack_bound.specs.Finding.{IsDeepChain}
use Rattle.stack_bound.proofs.ChainLemmas.{ends_deep, leads_on}
use Rattle.stack_bound.proofs.deepest.chain_from.Goals as goal

pub returns-then-is_chain_too_deep : goal.returns-then-is_chain_too_deep
returns-then-is_chain_too_deep c =
    let items : c.push.new.self.items ≡ c.loop-block.chain.items ++ c.loop-block.block ∷ [] = search rules in
    let there : block_by_id c.loop-block.block c.args.l.now.program.code_blocks ≡ Some c.in-Some.code = search rules in
    let deep : is_chain_too_deep c.args.l.now.profile (length (c.loop-block.chain.items ++ c.loop-block.block ∷ []))
    (c.loop-block.bytes + c.in-Some.code.local_len) ≡ true = search rules in
    subst (λ (chain : List BlockId). IsDeepChain c.args.l.now.profile c.args.l.now.program chain) (sym items)
    (ends_deep c.args.l.now.profile c.args.l.now.program c.args.over.measure c.args.layer.now
    c.loop-block.chain.items c.loop-block.block c.loop-block.bytes c.in-Some.code c.loop-block.invariant there deep)

pub loop-block-preserved : goal.loop-block-preserved
loop-block-preserved c =
    let items : c.push.new.self.items ≡ c.loop-block.chain.items ++ c.loop-block.block ∷ [] = search rules in
    let there : block_by_id c.loop-block.block c.args.l.now.program.code_blocks ≡ Some c.in-Some.code = search rules in
    let bytes : c.from-bytes.result ≡ c.in-Some.code.local_len = search rules in
    let fits : is_chain_too_deep c.args.l.now.profile (length (c.loop-block.chain.items ++ c.loop-block.block ∷ []))
    (c.loop-block.bytes + c.in-Some.code.local_len) ≡ false = search rules in
    let most : IsMostCalled c.args.over.measure c.args.layer.now c.in-Some.code.code (Some c.in-Some-block_most_called.called) = search rules in
    rw (items, bytes)
    (leads_on c.args.l.now.profile c.args.l.now.program c.args.over.measure (most_frames c.args.l.now.profile)
    c.args.layer.now c.loop-block.chain.items c.loop-block.block c.in-Some-block_most_called.called c.loop-block.bytes
    c.in-Some.code c.requires.layer c.loop-block.invariant there fits most)
