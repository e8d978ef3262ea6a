use Rattle.std.proofs.Common.{rules}
use Rattle.std.specs.BTreeMap.{get}
use Rattle.std.specs.Ordering.{nat_cmp}
use Rattle.block_layout.proofs.DirectoryLemmas.{place_skipped}
use Rattle.block_layout.proofs.directory.NumberedBlocks.skip.Goals as goal

pub invariant_of-self-2 : goal.invariant_of-self-2
invariant_of-self-2 c =
    place_skipped (λ q. get nat_cmp c.self.inside.places q) c.self.inside.list.items c.push.new.self.items c.self.invariant (search rules)
