use Rattle.std.proofs.Common.{rules, ◌≡◌, Some, length}
use Rattle.std.specs.BTreeMap.{get_by}
use Rattle.std.specs.Cmp.Lexicographic.{slice_cmp}
use Rattle.std.specs.Ordering.{nat_cmp}
use Rattle.stl_symbols.proofs.NameLemmas.{known_names, new_names, vec_updates}
use Rattle.stl_symbols.proofs.names.NameIndex.add.Goals as goal

pub invariant_of-self-then-contains_key : goal.invariant_of-self-then-contains_key
invariant_of-self-then-contains_key c =
    known_names (λ q. get_by (λ k. slice_cmp nat_cmp q k.items) c.self.inside.places) c.self.inside.list.items c.push.new.self.items c.in_ok-own.own c.args.name.now
    c.self.invariant (search rules) (search rules) (search rules)

pub invariant_of-self-2 : goal.invariant_of-self-2
invariant_of-self-2 c =
    new_names (λ q. get_by (λ k. slice_cmp nat_cmp q k.items) c.self.inside.places) (λ q. get_by (λ k. slice_cmp nat_cmp q k.items) c.insert.new.self)
    c.self.inside.list.items c.push-2.new.self.items c.in_ok-own.own c.args.name.now
    c.self.invariant (search rules) (search rules) (search rules)
    (λ q. (let u = vec_updates c.in_ok-key.key.items c.self.inside.places c.insert.new.self (Some c.len-place.result) c.in_ok-insert.ensures.updates q in
    let k : c.in_ok-key.key.items ≡ c.args.name.now = search rules in
    let l : c.len-place.result ≡ length c.self.inside.list.items = search rules in cc))
