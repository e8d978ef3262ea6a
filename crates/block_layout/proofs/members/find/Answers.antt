use Rattle.std.proofs.Common.{rules, arith}
use Rattle.block_layout.proofs.MemberLemmas.{component_is, found_is, within_is}
use Rattle.block_layout.proofs.members.find.Goals as goal

pub returns-in_err-place-clause-value : goal.returns-in_err-place-clause-value
returns-in_err-place-clause-value c = let is = component_is c.args.level 0 0 c.args.name.now c.args.cells.now in grind (arith, is)

pub returns-clause-value : goal.returns-clause-value
returns-clause-value c = found_is c.args.level c.args.name.now c.args.cells.now c.args.name_list.now.members.items c.args.name_list.now.names c.place.result c.in_ok-place.place c.member_at.result
    c.requires.names c.requires.members c.place.ensures (search rules) (search rules)

pub returns-clause-within : goal.returns-clause-within
returns-clause-within c = within_is c.args.level c.args.name.now c.args.cells.now c.member_at.result (returns-clause-value c)
