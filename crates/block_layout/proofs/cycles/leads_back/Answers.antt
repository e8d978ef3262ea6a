use Rattle.std.proofs.Common.{rules, arith, ◌≡◌, ◌∷◌, [], ℕ, List, Bool, false, get_or, length, map, refl, sym, ◌∙◌, ap, subst, replicate, add-one}
use Rattle.stl_ast.specs.declared.blocks.Block.{Block}
use Rattle.block_layout.specs.Cycles.{with_uses_marked}
use Rattle.block_layout.specs.Rule43.{leads_to}
use Rattle.block_layout.proofs.CycleLemmas.{IsRound, all_rounds, found_none_more, first_round, later_round, length-uses, next_round, none_there, slice_written}
use Rattle.block_layout.proofs.cycles.leads_back.Goals as goal

pub loop-step-init : goal.loop-step-init
loop-step-init c = λ y blocks are.
    let none : c.in_ok-reached.reached.items ≡ replicate (length c.args.uses.now) false = search rules in
    let only : c.push.new.self.items ≡ c.args.to ∷ [] = search rules in
    first_round y blocks c.args.to c.in_ok-reached.reached.items c.push.new.self.items
    (none ∙ ap (λ (n : ℕ). replicate n false) (length-uses y blocks c.args.uses.now are)) only

pub loop-step-preserved : goal.loop-step-preserved
loop-step-preserved c = λ y blocks are.
    let held = c.loop-step.invariant y blocks are in
    let after : (c.next_uses.new.reached, c.in_ok-next.next.items) ≡ with_uses_marked (map (λ u. u.items) c.args.uses.now) (c.loop-step.reached.items, []) c.loop-step.found.items = search rules in
    let r = next_round y blocks c.args.to c.loop-step.step (map (λ u. u.items) c.args.uses.now) c.loop-step.reached.items c.loop-step.found.items (c.next_uses.new.reached, c.in_ok-next.next.items) are after held in
    let long : length c.next_uses.new.reached ≡ c.loop-step.reached.len = r.size ∙ sym held.size ∙ sym c.loop-step.reached.ok.0 in
    later_round y blocks c.args.to c.loop-step.step _ c.next_uses.new.reached c.in_ok-next.next.items (slice_written c.loop-step.reached.len c.next_uses.new.reached c.loop-step.reached.items long) r

pub returns-then-is_empty : goal.returns-then-is_empty
returns-then-is_empty c = λ y blocks are.
    let held = c.loop-step.invariant y blocks are in
    let after : (c.next_uses.new.reached, c.in_ok-next.next.items) ≡ with_uses_marked (map (λ u. u.items) c.args.uses.now) (c.loop-step.reached.items, []) c.loop-step.found.items = search rules in
    let r = next_round y blocks c.args.to c.loop-step.step (map (λ u. u.items) c.args.uses.now) c.loop-step.reached.items c.loop-step.found.items (c.next_uses.new.reached, c.in_ok-next.next.items) are after held in
    let long : length c.next_uses.new.reached ≡ c.loop-step.reached.len = r.size ∙ sym held.size ∙ sym c.loop-step.reached.ok.0 in
    let none = none_there c.in_ok-next.next.items c.in_ok-next.next.len (sym c.is_empty.ensures ∙ c.if-is_empty.true) c.in_ok-next.next.ok.0 in
    let flag : c.flag_at.result ≡ get_or c.next_uses.new.reached c.args.to false =
    c.flag_at.ensures ∙ ap (λ (l : List Bool). get_or l c.args.to false) (c.deref.ensures.value ∙ slice_written c.loop-step.reached.len c.next_uses.new.reached c.loop-step.reached.items long) in
    let n = length-uses y blocks c.args.uses.now are in
    let within = c.loop-step-test.true in
    flag ∙ found_none_more y blocks c.args.to c.loop-step.step c.next_uses.new.reached c.in_ok-next.next.items r none (omega arith)
    ∙ ap (λ (k : ℕ). leads_to y blocks k c.args.to c.args.to) (sym n)

pub returns : goal.returns
returns c = λ y blocks are.
    let n = length-uses y blocks c.args.uses.now are in
    let over = c.loop-step-test.false in
    let most = c.loop-step.auto.step-end in
    c.flag_at-2.ensures ∙ ap (λ (l : List Bool). get_or l c.args.to false) c.deref-2.ensures.value
    ∙ all_rounds y blocks c.args.to c.loop-step.step c.loop-step.reached.items c.loop-step.found.items (c.loop-step.invariant y blocks are) (omega arith)
    ∙ ap (λ (k : ℕ). leads_to y blocks k c.args.to c.args.to) (sym n)
