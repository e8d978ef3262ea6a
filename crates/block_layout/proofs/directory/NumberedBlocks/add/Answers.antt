use Rattle.std.proofs.Common.{rules, ◌≡◌, length}
use Rattle.std.specs.BTreeMap.{get}
use Rattle.std.specs.Ordering.{nat_cmp}
use Rattle.block_layout.proofs.DirectoryLemmas.{number_known, number_new}
use Rattle.block_layout.proofs.directory.NumberedBlocks.add.Goals as goal

pub invariant_of-self-then-contains_key : goal.invariant_of-self-then-contains_key
invariant_of-self-then-contains_key c =
    number_known (λ q. get nat_cmp c.self.inside.places q) c.self.inside.list.items c.push.new.self.items c.args.number c.self.invariant (search rules) (search rules)

pub invariant_of-self-2 : goal.invariant_of-self-2
invariant_of-self-2 c =
    number_new (λ q. get nat_cmp c.self.inside.places q) (λ q. get nat_cmp c.insert.new.self q) c.self.inside.list.items c.push-2.new.self.items c.args.number
    c.self.invariant (search rules) (search rules) (λ q. (let l : c.len-place.result ≡ length c.self.inside.list.items = search rules in let u = c.in_ok-insert.ensures.updates.0 q in cc))
