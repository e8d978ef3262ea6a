use Rattle.std.proofs.Common.{rules, arith, ◌<◌}
use Rattle.block_layout.proofs.SizeLemmas.{size_within}
use Rattle.block_layout.proofs.NameListLemmas.{behind_elements, name_lists_next}
use Rattle.block_layout.proofs.layouts.name_lists.Goals as goal

pub numbers_behind-requires : goal.numbers_behind-requires
numbers_behind-requires c = let w = size_within c.args.cells.now c.loop-i.i c.args.elements.now c.requires c.loop-i-test.true in omega arith

pub name_list_of-requires : goal.name_list_of-requires
name_list_of-requires c = behind_elements c.args.cells.now c.behind.result.now c.args.elements.now c.numbers_behind.result.now _ c.requires c.numbers_behind.ensures c.behind.ensures

pub loop-i-preserved : goal.loop-i-preserved
loop-i-preserved c = record {
  count = search rules;
  first = name_lists_next c.args.cells.now c.behind.result.now c.loop-i.name_lists.items c.push.new.self.items c.loop-i.i c.index-cells-i.result c.in_ok-one.one c.loop-i.invariant.first c.loop-i.invariant.count
      c.index-cells-i.is c.loop-i-test.true c.behind.ensures c.in_ok-one.ensures (search rules);
}

pub returns-clause-name_lists : goal.returns-clause-name_lists
returns-clause-name_lists c = λ k d s within sound. let over = c.loop-i-test.false in let below : k < c.loop-i.i = omega arith in c.loop-i.invariant.first k d s below sound
