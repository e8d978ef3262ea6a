use Rattle.std.proofs.Common.{ℕ, suc, ◌++◌, ◌∙◌, List, [], add-one, ap, sym, append_assoc}
use Rattle.flat_code.specs.Ops.{OpData}
use Rattle.stl_ast.specs.declared.statements.Statement.{Statement}
use Rattle.stl_list.specs.Runs.{StatementOps, runs_from}
use Rattle.stl_list.specs.Statements.{statement_at, statements_from}
use Rattle.stl_list.proofs.RunLemmas.{run_ends, run_goes}
use Rattle.stl_list.proofs.statements.ListingContext.add_op.Goals as goal

pub returns-then-is_last-clause-value : goal.returns-then-is_last-clause-value
returns-then-is_last-clause-value c = λ rest.
    let s = c.args.self.now in
    let n = c.args.n in
    let before = c.args.before.now.items in
    let op = c.args.op.now in
    let run : List OpData → StatementOps = λ z. record { before = z; op = op } in
    let behind = statements_from s (suc n) (runs_from [] rest) in
    ap (λ (m : ℕ). c.add_statement.new.statements.items ++ statements_from s m (runs_from c.clear.new.self.items rest)) (add-one n)
    ∙ ap (λ (z : List OpData). c.add_statement.new.statements.items ++ statements_from s (suc n) (runs_from z rest)) c.clear.ensures.items
    ∙ ap (λ (z : List Statement). z ++ behind) (c.in_ok-add_statement.ensures ∙ ap (λ (z : List OpData). c.args.statements.now.items ++ statement_at s n (run z)) c.as_slice.ensures.value)
    ∙ append_assoc c.args.statements.now.items (statement_at s n (run before)) behind
    ∙ sym (ap (λ (z : List StatementOps). c.args.statements.now.items ++ statements_from s n z) (run_ends before op rest (sym c.is_last.ensures ∙ c.if-is_last.true)))

pub returns-clause-value : goal.returns-clause-value
returns-clause-value c = λ rest.
    ap (λ (z : List OpData). c.args.statements.now.items ++ statements_from c.args.self.now c.args.n (runs_from z rest)) c.in_ok-push.ensures.items
    ∙ sym (ap (λ (z : List StatementOps). c.args.statements.now.items ++ statements_from c.args.self.now c.args.n z) (run_goes c.args.before.now.items c.args.op.now rest (sym c.is_last.ensures ∙ c.if-is_last.false)))
