use Rattle.std.proofs.Common.{rules, refl}
use Rattle.block_layout.proofs.DeclarationFactLemmas.{fits_open, outline_next, facts_next, facts_done}
use Rattle.block_layout.proofs.declaration_facts.check_all.Goals as goal

pub loop-declaration-init : goal.loop-declaration-init
loop-declaration-init c = record {
  outline = (0, (c.requires.outline, c.requires.«open»));
  count = search rules;
  facts = λ o before are. (before, (are, refl, search rules));
}

pub enter-requires : goal.enter-requires
enter-requires c = fits_open c.args.declarations.now c.loop-declaration.declaration-index c.declaration-item.result c.loop-declaration.open_.items
    c.loop-declaration-test.true c.declaration-item.is c.loop-declaration.invariant.outline

pub loop-declaration-preserved : goal.loop-declaration-preserved
loop-declaration-preserved c = record {
  outline = outline_next c.args.types.now c.args.declarations.now c.loop-declaration.declaration-index c.declaration-item.result c.loop-declaration.open_.items c.enter.new.open_.items
      c.loop-declaration-test.true c.declaration-item.is c.loop-declaration.invariant.outline c.in_ok-facts.ensures.lists;
  count = search rules;
  facts = λ o before are. facts_next c.args.types.now o c.args.declarations.now c.loop-declaration.declaration-index c.declaration-item.result c.loop-declaration.open_.items c.enter.new.open_.items
      c.loop-declaration.all_facts.items c.push.new.self.items _ c.in_ok-facts.facts _
      c.loop-declaration-test.true c.declaration-item.is
      (fits_open c.args.declarations.now c.loop-declaration.declaration-index c.declaration-item.result c.loop-declaration.open_.items
      c.loop-declaration-test.true c.declaration-item.is c.loop-declaration.invariant.outline)
      c.in_ok-facts.ensures.lists c.in_ok-facts.ensures.facts (search rules)
      (c.loop-declaration.invariant.facts o before are);
}

pub returns-clause-facts : goal.returns-clause-facts
returns-clause-facts c = λ o before are. facts_done c.args.types.now o before c.args.declarations.now _ c.loop-declaration.open_.items c.loop-declaration.all_facts.items
    c.loop-declaration-test.false (c.loop-declaration.invariant.facts o before are)
