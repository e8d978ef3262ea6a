use Rattle.std.proofs.Common.{arith, ◌∙◌, ap, ◌++◌, List, ℕ}
use Rattle.std.proofs.lemmas.Grind.{common_steps}
use Rattle.stl_types.specs.Labels.{labels_of}
use Rattle.stl_types.specs.Landings.{Landing, SourceNesting, landings_at_labels}
use Rattle.stl_types.proofs.WalkLemmas.{landings_end, landings_turn}
use Rattle.stl_types.proofs.landings.targets_of.Goals as goal

pub loop-statement-init : goal.loop-statement-init
loop-statement-init c = record {
  labels = ap (λ (l : List (List ℕ)). l ++ labels_of c.args.body.now) c.new-labels.ensures;
  landings = ap (λ (l : List Landing). l ++ landings_at_labels c.new-nesting.result c.args.body.now) c.new-landings.ensures.items
      ∙ ap (λ (n : SourceNesting). landings_at_labels n c.args.body.now) c.new-nesting.ensures;
}

pub loop-statement-preserved : goal.loop-statement-preserved
loop-statement-preserved c = record {
  labels = grind (arith, common_steps);
  landings = landings_turn c.loop-statement.nesting c.pass.new.self c.loop-statement.landings.items c.add_landing.new.landings.items _ c.args.body.now c.loop-statement.statement-index c.statement-item.result
      c.loop-statement-test.true c.statement-item.is c.in_ok-pass.ensures c.in_ok-add_landing.ensures c.loop-statement.invariant.landings;
}

pub returns-clause-landings : goal.returns-clause-landings
returns-clause-landings c = landings_end c.loop-statement.nesting c.loop-statement.landings.items _ c.args.body.now _ c.loop-statement-test.false c.loop-statement.invariant.landings
