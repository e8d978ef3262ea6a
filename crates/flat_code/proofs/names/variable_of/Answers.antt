use Rattle.std.proofs.Common.{rules, sym}
use Rattle.std.specs.Cmp.Lexicographic.{slice_cmp}
use Rattle.std.specs.Ordering.{nat_cmp}
use Rattle.std.proofs.lemmas.Fn.{always_returns_same}
use Rattle.plc_base.specs.Folding.{upper_case_name}
use Rattle.flat_code.proofs.NameLemmas.{rises, found_in, absent}
use Rattle.flat_code.proofs.names.variable_of.Goals as goal

pub returns-in-Ok : goal.returns-in-Ok
returns-in-Ok c =
    let entry = c.index-list-at.result in
    let held = c.in-Ok.ensures.position (λ y. slice_cmp nat_cmp y.name (upper_case_name c.args.name.now)) (always_returns_same _ _ _ (λ a r f' k. search rules)) in
    found_in c.args.name.now c.args.list.now c.requires c.in-Ok.at entry c.variable.result c.in-Ok.ensures.bound (held entry) c.index-list-at.is c.variable.ensures

pub returns-in-Err : goal.returns-in-Err
returns-in-Err c =
    let parts = c.in-Err.ensures.position (λ y. slice_cmp nat_cmp y.name (upper_case_name c.args.name.now)) (always_returns_same _ _ _ (λ a r f' k. search rules)) in
    sym (absent c.args.name.now c.args.list.now _ c.requires (parts (rises _ _ _ c.requires)))
