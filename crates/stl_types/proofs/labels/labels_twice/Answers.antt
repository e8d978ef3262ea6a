use Rattle.std.proofs.Common.{Bool, false, refl, ◌∙◌, ap, ◌++◌, List, ℕ}
use Rattle.stl_ast.specs.declared.statements.Statement.{Statement}
use Rattle.plc_base.specs.Least.{broken_if, least}
use Rattle.plc_base.proofs.GatheredLemmas.{gathered_done, gathered_next}
use Rattle.plc_base.proofs.LeastLemmas.{lesser_first}
use Rattle.stl_types.specs.Labels.{is_repeated_label, label_of, labels_twice}
use Rattle.stl_types.proofs.labels.labels_twice.Goals as goal

pub loop-statement-init : goal.loop-statement-init
loop-statement-init c = lesser_first _ ∙ ap (λ (l : List (List ℕ)). least (labels_twice l c.args.body.now)) c.new-before.ensures

pub loop-statement-preserved : goal.loop-statement-preserved
loop-statement-preserved c =
    let one = c.broken_if.ensures ∙ ap (λ (v : Bool). least (broken_if v c.statement-item.result.line 27)) c.is_repeated_label-twice.ensures in
    gathered_next (λ s. false) (λ before (s : Statement). broken_if (is_repeated_label before s.label) s.line 27) (λ before (s : Statement). before ++ label_of s.label)
    c.loop-statement.before c.add_label.new.labels c.args.body.now c.loop-statement.statement-index c.statement-item.result _ _ _ _ c.loop-statement-test.true c.statement-item.is refl
    one c.lesser-found.ensures c.in_ok-add_label.ensures c.loop-statement.invariant

pub returns : goal.returns
returns c =
    gathered_done (λ s. false) (λ before (s : Statement). broken_if (is_repeated_label before s.label) s.line 27) (λ before (s : Statement). before ++ label_of s.label)
    c.loop-statement.before c.args.body.now _ _ _ c.loop-statement-test.false c.loop-statement.invariant
