-- The rules of calls, which one walk checks together.
use Rattle.std.proofs.Common.{ℕ, Bool, ◌≡◌, ◌<◌, ◌≤◌, ◌+◌, List, [], ◌∷◌, ◌++◌, Option, Some, None, length, drop, get_or, refl, sym, ◌∙◌, ap, arith}
use Rattle.std.proofs.Math.ListN.{drop_of_length-le}
use Rattle.std.proofs.lemmas.List.{append_assoc, drop_more}
use Rattle.std.specs.List.{flat_map}
use Rattle.plc_base.specs.declared.refusals.Refusal.{Refusal}
use Rattle.stl_ast.specs.declared.blocks.Block.{Block}
use Rattle.stl_ast.specs.declared.statements.Actual.{Actual}
use Rattle.stl_ast.specs.declared.statements.Statement.{Statement}
use Rattle.plc_base.specs.Least.{broken_if, least, lesser}
use Rattle.plc_base.proofs.LeastLemmas.{least-append, lesser_assoc, lesser_nothing}
use Rattle.stl_types.specs.RuleGroups.{broken_call, broken_statement, dates_of, in_statements, rules_of_calls, rules_of_jumps, rules_of_zones}
use Rattle.stl_types.specs.Actuals.{formal_named}
use Rattle.stl_types.specs.Calls.{by_callee, call_37, calls_unknown, has_wrong_instance, is_bare_call, lacks_actual, misfits_formal, rule_24_of_actuals, rule_34, rule_35, rule_36, rule_37, rule_38, rule_40, rule_46, is_resolved_date, actuals_supplied_twice, actuals_without_formal}
use Rattle.stl_types.specs.Resolution.{resolution_of}
use Rattle.stl_types.specs.declared.parameters.Formal.{Formal}
use Rattle.stl_types.specs.Context.{Context}
use Rattle.stl_types.specs.Brackets.{rule_29, rule_30, rule_31}
use Rattle.stl_types.specs.Labels.{rule_26, rule_27}
use Rattle.stl_types.specs.Landings.{rule_33}
use Rattle.stl_types.specs.Lists.{rule_32}
use Rattle.stl_types.specs.Operands.{rules_24_25_39}
use Rattle.stl_types.specs.Table.{statement_refusals_by}
use Rattle.stl_types.specs.Unknown.{rule_20}
use Rattle.block_layout.proofs.HeadLemmas.{two_lists}
use Rattle.stl_types.specs.Parameters.{Callee, callee_of}

-- which of two comes first doesn't matter
pub lesser_comm : (a b : Option Refusal) → lesser a b ≡ lesser b a
unfolding lesser
lesser_comm None None = refl
lesser_comm None (Some b) = refl
lesser_comm (Some a) None = refl
lesser_comm (Some a) (Some b) = grind arith

-- the second of three, last
pub lesser_last : (a b c : Option Refusal) → lesser (lesser a b) c ≡ lesser (lesser a c) b
lesser_last a b c = lesser_assoc a b c ∙ ap (λ (o : Option Refusal). lesser a o) (lesser_comm b c) ∙ sym (lesser_assoc a c b)

lesser_crossed : (a b c d : Option Refusal) → lesser (lesser a b) (lesser c d) ≡ lesser (lesser a c) (lesser b d)
lesser_crossed a b c d =
    sym (lesser_assoc (lesser a b) c d) ∙ ap (λ (o : Option Refusal). lesser o d) (lesser_last a b c) ∙ lesser_assoc (lesser a c) b d

-- the least of lists that are parted each in two is that of the parts
least_of_parts : (h hs f fs g gs : List Refusal) → least h ≡ lesser (least f) (least g) → least hs ≡ lesser (least fs) (least gs) → least (h ++ hs) ≡ lesser (least (f ++ fs)) (least (g ++ gs))
least_of_parts h hs f fs g gs is_h is_hs =
    least-append h hs ∙ ap (λ (o : Option Refusal). lesser o (least hs)) is_h ∙ ap (λ (o : Option Refusal). lesser (lesser (least f) (least g)) o) is_hs
    ∙ lesser_crossed (least f) (least g) (least fs) (least gs) ∙ ap (λ (o : Option Refusal). lesser o (lesser (least g) (least gs))) (sym (least-append f fs))
    ∙ ap (λ (o : Option Refusal). lesser (least (f ++ fs)) o) (sym (least-append g gs))

nothing : least [] ≡ lesser (least []) (least [])
unfolding lesser
nothing = refl

module _ (f g h : Context → Statement → List Refusal) (parts : (c : Context) (s : Statement) → least (h c s) ≡ lesser (least (f c s)) (least (g c s))) where
  body_parts : (c : Context) (body : List Statement) → least (flat_map (h c) body) ≡ lesser (least (flat_map (f c) body)) (least (flat_map (g c) body))
  body_parts c [] = nothing
  body_parts c (s ∷ ss) = least_of_parts (h c s) (flat_map (h c) ss) (f c s) (flat_map (f c) ss) (g c s) (flat_map (g c) ss) (parts c s) (body_parts c ss)

  pub statement_parts : (c : Context) (blocks : List Block) → least (in_statements h c blocks) ≡ lesser (least (in_statements f c blocks)) (least (in_statements g c blocks))
  statement_parts c [] = nothing
  statement_parts c (b ∷ bs) =
      let next : Context = record c { block = c.block + 1 } in
      least_of_parts (flat_map (h c) b.body) (in_statements h next bs) (flat_map (f c) b.body) (in_statements f next bs) (flat_map (g c) b.body) (in_statements g next bs)
      (body_parts c b.body) (statement_parts next bs)

-- what a statement breaks by one of the rules
by_34 : Context → Statement → List Refusal
by_34 c s = by_callee (λ callee s. actuals_without_formal callee.formals s.actuals) s (callee_of c s.operand)

by_35 : Context → Statement → List Refusal
by_35 c s = by_callee (λ callee s. actuals_supplied_twice callee.formals [] s.actuals) s (callee_of c s.operand)

by_36 : Context → Statement → List Refusal
by_36 c s = by_callee (λ callee s. broken_if (lacks_actual callee s) s.line 36) s (callee_of c s.operand)

by_37 : Context → Statement → List Refusal
by_37 c s = by_callee (call_37 c) s (callee_of c s.operand)

by_38 : Context → Statement → List Refusal
by_38 c s = by_callee (λ callee s. broken_if (has_wrong_instance c callee s.operand) s.line 38) s (callee_of c s.operand)

by_40 : Context → Statement → List Refusal
by_40 c s = by_callee (λ callee s. broken_if (is_bare_call callee s) s.line 40) s (callee_of c s.operand)

by_46 : Context → Statement → List Refusal
by_46 c s = broken_if (calls_unknown c s.operand) s.line 46

call_spread : (c : Context) (s : Statement) (o : Option Callee) → by_callee (broken_call c) s o
    ≡ by_callee (λ callee s. actuals_without_formal callee.formals s.actuals) s o ++ by_callee (λ callee s. actuals_supplied_twice callee.formals [] s.actuals) s o
    ++ by_callee (λ callee s. broken_if (lacks_actual callee s) s.line 36) s o ++ by_callee (call_37 c) s o
    ++ by_callee (λ callee s. broken_if (has_wrong_instance c callee s.operand) s.line 38) s o ++ by_callee (λ callee s. broken_if (is_bare_call callee s) s.line 40) s o
unfolding broken_call
call_spread c s None = refl
call_spread c s (Some callee) = refl

by_all : Context → Statement → List Refusal
by_all c s = by_34 c s ++ by_35 c s ++ by_36 c s ++ by_37 c s ++ by_38 c s ++ by_40 c s ++ by_46 c s

statement_spread : (c : Context) (s : Statement) → least (broken_statement c s) ≡ lesser (least (by_all c s)) (least (dates_of c s))
unfolding broken_statement by_all by_34 by_35 by_36 by_37 by_38 by_40 by_46
statement_spread c s =
    ap (λ (l : List Refusal). least (l ++ by_46 c s ++ dates_of c s)) (call_spread c s (callee_of c s.operand))
    ∙ least-append (by_all c s) (dates_of c s)

-- one rule more
least_with_rule : (f g : Context → Statement → List Refusal) (c : Context) (blocks : List Block) (found : List Refusal) → least (in_statements f c blocks) ≡ least found →
    least (in_statements (λ c s. f c s ++ g c s) c blocks) ≡ least (found ++ in_statements g c blocks)
least_with_rule f g c blocks found so_far =
    statement_parts f g (λ c s. f c s ++ g c s) (λ c s. least-append (f c s) (g c s)) c blocks
    ∙ ap (λ (o : Option Refusal). lesser o (least (in_statements g c blocks))) so_far ∙ sym (least-append found (in_statements g c blocks))

all_joined : (c : Context) (blocks : List Block) → least (in_statements by_all c blocks)
    ≡ least (rule_34 c blocks ++ rule_35 c blocks ++ rule_36 c blocks ++ rule_37 c blocks ++ rule_38 c blocks ++ rule_40 c blocks ++ rule_46 c blocks)
unfolding by_all by_34 by_35 by_36 by_37 by_38 by_40 by_46 rule_34 rule_35 rule_36 rule_37 rule_38 rule_40 rule_46
all_joined c blocks =
    least_with_rule (λ c s. by_34 c s ++ by_35 c s ++ by_36 c s ++ by_37 c s ++ by_38 c s ++ by_40 c s) by_46 c blocks _
    (least_with_rule (λ c s. by_34 c s ++ by_35 c s ++ by_36 c s ++ by_37 c s ++ by_38 c s) by_40 c blocks _
    (least_with_rule (λ c s. by_34 c s ++ by_35 c s ++ by_36 c s ++ by_37 c s) by_38 c blocks _
    (least_with_rule (λ c s. by_34 c s ++ by_35 c s ++ by_36 c s) by_37 c blocks _
    (least_with_rule (λ c s. by_34 c s ++ by_35 c s) by_36 c blocks _
    (least_with_rule by_34 by_35 c blocks (rule_34 c blocks) refl)))))

pub rules_joined : (c : Context) (blocks : List Block) → least (in_statements broken_statement c blocks) ≡ least (rules_of_calls c blocks)
unfolding rules_of_calls rule_24_of_actuals
rules_joined c blocks =
    statement_parts by_all dates_of broken_statement statement_spread c blocks
    ∙ ap (λ (o : Option Refusal). lesser o (least (rule_24_of_actuals c blocks))) (all_joined c blocks)
    ∙ sym (least-append (rule_34 c blocks ++ rule_35 c blocks ++ rule_36 c blocks ++ rule_37 c blocks ++ rule_38 c blocks ++ rule_40 c blocks ++ rule_46 c blocks) (rule_24_of_actuals c blocks))

-- the walk over the blocks with their places
pub contexts_turn : (broken : Context → Statement → List Refusal) (c : Context) (blocks : List Block) (i : ℕ) (b : Block) (found one next whole : Option Refusal) →
    i < length blocks → b ≡ get_or blocks i b → one ≡ least (flat_map (broken (record c { block = i })) b.body) → next ≡ lesser found one →
    lesser found (least (in_statements broken (record c { block = i }) (drop i blocks))) ≡ whole →
    lesser next (least (in_statements broken (record c { block = i + 1 }) (drop (i + 1) blocks))) ≡ whole
contexts_turn broken c blocks i b found one next whole within is_b is_one is_next so_far =
    let here : List Refusal = flat_map (broken (record c { block = i })) b.body in
    let rest : List Refusal = in_statements broken (record c { block = i + 1 }) (drop (i + 1) blocks) in
    let split : drop i blocks ≡ b ∷ drop (i + 1) blocks = drop_more blocks i b within ∙ ap (λ (y : Block). y ∷ drop (i + 1) blocks) (sym is_b) in
    ap (λ (o : Option Refusal). lesser o (least rest)) (is_next ∙ ap (λ (o : Option Refusal). lesser found o) is_one)
    ∙ lesser_assoc found (least here) (least rest)
    ∙ ap (λ (o : Option Refusal). lesser found o) (sym (least-append here rest) ∙ ap (λ (l : List Block). least (in_statements broken (record c { block = i }) l)) (sym split))
    ∙ so_far

pub contexts_end : (broken : Context → Statement → List Refusal) (c : Context) (blocks : List Block) (i : ℕ) (found whole : Option Refusal) → length blocks ≤ i →
    lesser found (least (in_statements broken (record c { block = i }) (drop i blocks))) ≡ whole → found ≡ whole
contexts_end broken c blocks i found whole over so_far =
    sym (lesser_nothing found) ∙ ap (λ (l : List Block). lesser found (least (in_statements broken (record c { block = i }) l))) (sym (drop_of_length-le blocks over)) ∙ so_far

-- what a call breaks, by the block that is called
pub call_joined : (x : Context) (callee : Callee) (s : Statement) (formals : List Formal) (actuals : List Actual) (lacks wrong is_bare : Bool)
    (one two missing misfit instance bare first second third fourth whole : Option Refusal) → formals ≡ callee.formals → actuals ≡ s.actuals →
    one ≡ least (actuals_without_formal formals actuals) → two ≡ least (actuals_supplied_twice formals [] actuals) → lacks ≡ lacks_actual callee s → missing ≡ least (broken_if lacks s.line 36) →
    misfit ≡ least (flat_map (λ a. broken_if (misfits_formal x a (formal_named formals a.name)) a.line 37) actuals) →
    wrong ≡ has_wrong_instance x callee s.operand → instance ≡ least (broken_if wrong s.line 38) → is_bare ≡ is_bare_call callee s → bare ≡ least (broken_if is_bare s.line 40) →
    first ≡ lesser one two → second ≡ lesser first missing → third ≡ lesser second misfit → fourth ≡ lesser third instance → whole ≡ lesser fourth bare →
    whole ≡ least (broken_call x callee s)
unfolding broken_call
call_joined x callee s formals actuals lacks wrong is_bare one two missing misfit instance bare first second third fourth whole are_formals are_actuals is_one is_two is_lacks is_missing is_misfit
    is_wrong is_instance bare_is is_bare' is_first is_second is_third is_fourth is_whole =
    let named : one ≡ least (actuals_without_formal callee.formals s.actuals) =
    is_one ∙ ap (λ (l : List Formal). least (actuals_without_formal l actuals)) are_formals ∙ ap (λ (l : List Actual). least (actuals_without_formal callee.formals l)) are_actuals in
    let twice : two ≡ least (actuals_supplied_twice callee.formals [] s.actuals) =
    is_two ∙ ap (λ (l : List Formal). least (actuals_supplied_twice l [] actuals)) are_formals ∙ ap (λ (l : List Actual). least (actuals_supplied_twice callee.formals [] l)) are_actuals in
    let lacking : missing ≡ least (broken_if (lacks_actual callee s) s.line 36) = is_missing ∙ ap (λ (b : Bool). least (broken_if b s.line 36)) is_lacks in
    let unfit : misfit ≡ least (call_37 x callee s) =
    is_misfit ∙ ap (λ (l : List Formal). least (flat_map (λ a. broken_if (misfits_formal x a (formal_named l a.name)) a.line 37) actuals)) are_formals
    ∙ ap (λ (l : List Actual). least (flat_map (λ a. broken_if (misfits_formal x a (formal_named callee.formals a.name)) a.line 37) l)) are_actuals in
    let of_other : instance ≡ least (broken_if (has_wrong_instance x callee s.operand) s.line 38) = is_instance ∙ ap (λ (b : Bool). least (broken_if b s.line 38)) is_wrong in
    let alone : bare ≡ least (broken_if (is_bare_call callee s) s.line 40) = is_bare' ∙ ap (λ (b : Bool). least (broken_if b s.line 40)) bare_is in
    let a = two_lists (actuals_without_formal callee.formals s.actuals) (actuals_supplied_twice callee.formals [] s.actuals) one two first named twice is_first in
    let b = two_lists _ (broken_if (lacks_actual callee s) s.line 36) first missing second a lacking is_second in
    let d = two_lists _ (call_37 x callee s) second misfit third b unfit is_third in
    let e = two_lists _ (broken_if (has_wrong_instance x callee s.operand) s.line 38) third instance fourth d of_other is_fourth in
    two_lists _ (broken_if (is_bare_call callee s) s.line 40) fourth bare whole e alone is_whole

-- what a statement breaks
pub statement_joined : (x : Context) (s : Statement) (o : Option Callee) (actuals : List Actual) (calls : Bool) (called unknown date first whole : Option Refusal) →
    o ≡ callee_of x s.operand → called ≡ least (by_callee (broken_call x) s o) → calls ≡ calls_unknown x s.operand → unknown ≡ least (broken_if calls s.line 46) → actuals ≡ s.actuals →
    date ≡ least (flat_map (λ a. broken_if (is_resolved_date (resolution_of x a.value)) a.line 24) actuals) → first ≡ lesser called unknown → whole ≡ lesser first date →
    whole ≡ least (broken_statement x s)
unfolding broken_statement
statement_joined x s o actuals calls called unknown date first whole is_o is_called is_calls is_unknown are_actuals is_date is_first is_whole =
    let by : called ≡ least (by_callee (broken_call x) s (callee_of x s.operand)) = is_called ∙ ap (λ (k : Option Callee). least (by_callee (broken_call x) s k)) is_o in
    let none : unknown ≡ least (broken_if (calls_unknown x s.operand) s.line 46) = is_unknown ∙ ap (λ (b : Bool). least (broken_if b s.line 46)) is_calls in
    let dates : date ≡ least (dates_of x s) = is_date ∙ ap (λ (l : List Actual). least (flat_map (λ a. broken_if (is_resolved_date (resolution_of x a.value)) a.line 24) l)) are_actuals in
    let two = two_lists (by_callee (broken_call x) s (callee_of x s.operand)) (broken_if (calls_unknown x s.operand) s.line 46) called unknown first by none is_first in
    two_lists _ (dates_of x s) first date whole two dates is_whole

-- the labels, brackets and jumps
pub jumps_joined : (blocks : List Block) (a b c d e f g labels closed left eighth list whole : Option Refusal) →
    a ≡ least (rule_26 blocks) → b ≡ least (rule_27 blocks) → c ≡ least (rule_29 blocks) → d ≡ least (rule_30 blocks) → e ≡ least (rule_31 blocks) → f ≡ least (rule_32 blocks) →
    g ≡ least (rule_33 blocks) → labels ≡ lesser a b → closed ≡ lesser labels c → left ≡ lesser closed d → eighth ≡ lesser left e → list ≡ lesser eighth f → whole ≡ lesser list g →
    whole ≡ least (rules_of_jumps blocks)
unfolding rules_of_jumps
jumps_joined blocks a b c d e f g labels closed left eighth list whole is_a is_b is_c is_d is_e is_f is_g is_labels is_closed is_left is_eighth is_list is_whole =
    let two = two_lists (rule_26 blocks) (rule_27 blocks) a b labels is_a is_b is_labels in
    let three = two_lists _ (rule_29 blocks) labels c closed two is_c is_closed in
    let four = two_lists _ (rule_30 blocks) closed d left three is_d is_left in
    let five = two_lists _ (rule_31 blocks) left e eighth four is_e is_eighth in
    let six = two_lists _ (rule_32 blocks) eighth f list five is_f is_list in
    two_lists _ (rule_33 blocks) list g whole six is_g is_whole

-- all rules of statements
pub table_joined : (c : Context) (blocks : List Block) (unknown operand jump call zone first second third whole : Option Refusal) → unknown ≡ least (rule_20 c blocks) →
    operand ≡ least (rules_24_25_39 c blocks) → jump ≡ least (rules_of_jumps blocks) → call ≡ least (rules_of_calls c blocks) → zone ≡ least (rules_of_zones blocks) →
    first ≡ lesser unknown operand → second ≡ lesser first jump → third ≡ lesser second call → whole ≡ lesser third zone → whole ≡ least (statement_refusals_by c blocks)
unfolding rules_of_jumps rules_of_calls rules_of_zones statement_refusals_by
table_joined c blocks unknown operand jump call zone first second third whole is_unknown is_operand is_jump is_call is_zone is_first is_second is_third is_whole =
    let heads : List Refusal = rule_20 c blocks ++ rules_24_25_39 c blocks in
    let jumps : List Refusal = rules_of_jumps blocks in
    let dates : List Refusal = rule_24_of_actuals c blocks in
    let others : List Refusal = rule_34 c blocks ++ rule_35 c blocks ++ rule_36 c blocks ++ rule_37 c blocks ++ rule_38 c blocks ++ rule_40 c blocks ++ rule_46 c blocks in
    let zones : List Refusal = rules_of_zones blocks in
    let table : ((heads ++ dates) ++ (jumps ++ others)) ++ zones ≡ statement_refusals_by c blocks = simp (append_assoc) refl in
    let head : first ≡ least heads = two_lists (rule_20 c blocks) (rules_24_25_39 c blocks) unknown operand first is_unknown is_operand is_first in
    let without_zones : third ≡ least ((heads ++ dates) ++ (jumps ++ others)) =
    is_third ∙ ap (λ (o : Option Refusal). lesser o call) (is_second ∙ ap (λ (o : Option Refusal). lesser o jump) head ∙ ap (λ (o : Option Refusal). lesser (least heads) o) is_jump)
    ∙ ap (λ (o : Option Refusal). lesser (lesser (least heads) (least jumps)) o) (is_call ∙ least-append others dates)
    ∙ ap (λ (o : Option Refusal). lesser (lesser (least heads) (least jumps)) o) (lesser_comm (least others) (least dates))
    ∙ lesser_crossed (least heads) (least jumps) (least dates) (least others)
    ∙ ap (λ (o : Option Refusal). lesser o (lesser (least jumps) (least others))) (sym (least-append heads dates))
    ∙ ap (λ (o : Option Refusal). lesser (least (heads ++ dates)) o) (sym (least-append jumps others))
    ∙ sym (least-append (heads ++ dates) (jumps ++ others)) in
    two_lists ((heads ++ dates) ++ (jumps ++ others)) zones third zone whole without_zones is_zone is_whole ∙ ap (λ (rs : List Refusal). least rs) table
