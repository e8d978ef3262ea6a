-- Walks over the statements of a body.
use Rattle.std.proofs.Common.{ℕ, ◌≡◌, ◌<◌, ◌≤◌, ◌+◌, List, ◌∷◌, ◌++◌, Option, length, drop, get_or, sym, ◌∙◌, ap}
use Rattle.std.proofs.Math.ListN.{drop_of_length-le}
use Rattle.std.proofs.lemmas.List.{append_assoc, append-nil, drop_more}
use Rattle.plc_base.specs.declared.refusals.Refusal.{Refusal}
use Rattle.stl_ast.specs.declared.statements.Statement.{Statement}
use Rattle.plc_base.specs.Least.{broken_if, least, lesser}
use Rattle.plc_base.proofs.LeastLemmas.{least-append, lesser_assoc, lesser_nothing}
use Rattle.stl_types.specs.Brackets.{brackets_behind, brackets_behind_all}
use Rattle.stl_types.specs.Labels.{label_of}
use Rattle.stl_types.specs.Landings.{Landing, SourceNesting, landing_here, landings_at_labels, nesting_behind}
use Rattle.stl_types.specs.Lists.{is_wrong_list, lists_from}
use Rattle.stl_types.specs.Zones.{zones_behind, zones_behind_all}
use Rattle.stl_types.specs.declared.brackets.SourceBracket.{SourceBracket}

-- the brackets that are open behind a body, with one statement more
pub behind_turn : (brackets after whole : List SourceBracket) (body : List Statement) (i : ℕ) (s : Statement) → i < length body → s ≡ get_or body i s → after ≡ brackets_behind brackets s →
    brackets_behind_all brackets (drop i body) ≡ whole → brackets_behind_all after (drop (i + 1) body) ≡ whole
behind_turn brackets after whole body i s within is_s is_after so_far =
    let split : drop i body ≡ s ∷ drop (i + 1) body = drop_more body i s within ∙ ap (λ (y : Statement). y ∷ drop (i + 1) body) (sym is_s) in
    ap (λ (b : List SourceBracket). brackets_behind_all b (drop (i + 1) body)) is_after ∙ ap (λ (l : List Statement). brackets_behind_all brackets l) (sym split) ∙ so_far

pub behind_end : (brackets whole : List SourceBracket) (body : List Statement) (i : ℕ) → length body ≤ i → brackets_behind_all brackets (drop i body) ≡ whole → brackets ≡ whole
behind_end brackets whole body i over so_far = ap (λ (l : List Statement). brackets_behind_all brackets l) (sym (drop_of_length-le body over)) ∙ so_far

-- the zones that are open behind a body, with one statement more
pub zones_turn : (zones after whole : List ℕ) (body : List Statement) (i : ℕ) (s : Statement) → i < length body → s ≡ get_or body i s → after ≡ zones_behind zones s →
    zones_behind_all zones (drop i body) ≡ whole → zones_behind_all after (drop (i + 1) body) ≡ whole
zones_turn zones after whole body i s within is_s is_after so_far =
    let split : drop i body ≡ s ∷ drop (i + 1) body = drop_more body i s within ∙ ap (λ (y : Statement). y ∷ drop (i + 1) body) (sym is_s) in
    ap (λ (z : List ℕ). zones_behind_all z (drop (i + 1) body)) is_after ∙ ap (λ (l : List Statement). zones_behind_all zones l) (sym split) ∙ so_far

pub zones_end : (zones whole : List ℕ) (body : List Statement) (i : ℕ) → length body ≤ i → zones_behind_all zones (drop i body) ≡ whole → zones ≡ whole
zones_end zones whole body i over so_far = ap (λ (l : List Statement). zones_behind_all zones l) (sym (drop_of_length-le body over)) ∙ so_far

-- the refusals by jump lists in a body, with one statement more
pub lists_turn : (before after : List (List ℕ)) (body : List Statement) (i : ℕ) (s : Statement) (found one next whole : Option Refusal) → i < length body → s ≡ get_or body i s →
    after ≡ before ++ label_of s.label → one ≡ least (broken_if (is_wrong_list after s (drop (i + 1) body)) s.line 32) → next ≡ lesser found one →
    lesser found (least (lists_from before (drop i body))) ≡ whole → lesser next (least (lists_from after (drop (i + 1) body))) ≡ whole
lists_turn before after body i s found one next whole within is_s is_after is_one is_next so_far =
    let rest : List Statement = drop (i + 1) body in
    let here : List Refusal = broken_if (is_wrong_list after s rest) s.line 32 in
    let split : drop i body ≡ s ∷ rest = drop_more body i s within ∙ ap (λ (y : Statement). y ∷ rest) (sym is_s) in
    let turn : lists_from before (s ∷ rest) ≡ here ++ lists_from after rest =
    ap (λ (b : List (List ℕ)). broken_if (is_wrong_list b s rest) s.line 32 ++ lists_from b rest) (sym is_after) in
    ap (λ (o : Option Refusal). lesser o (least (lists_from after rest))) (is_next ∙ ap (λ (o : Option Refusal). lesser found o) is_one)
    ∙ lesser_assoc found (least here) (least (lists_from after rest))
    ∙ ap (λ (o : Option Refusal). lesser found o) (sym (least-append here (lists_from after rest)) ∙ ap (λ (l : List Refusal). least l) (sym turn) ∙ ap (λ (l : List Statement). least (lists_from before l)) (sym split))
    ∙ so_far

pub lists_end : (before : List (List ℕ)) (body : List Statement) (i : ℕ) (found whole : Option Refusal) → length body ≤ i → lesser found (least (lists_from before (drop i body))) ≡ whole → found ≡ whole
lists_end before body i found whole over so_far =
    sym (lesser_nothing found) ∙ ap (λ (l : List Statement). lesser found (least (lists_from before l))) (sym (drop_of_length-le body over)) ∙ so_far

-- what is open at the labels of a body, with one statement more
pub landings_turn : (n after : SourceNesting) (landings more whole : List Landing) (body : List Statement) (i : ℕ) (s : Statement) → i < length body → s ≡ get_or body i s →
    after ≡ nesting_behind n s → more ≡ landings ++ landing_here n s.label → landings ++ landings_at_labels n (drop i body) ≡ whole →
    more ++ landings_at_labels after (drop (i + 1) body) ≡ whole
landings_turn n after landings more whole body i s within is_s is_after is_more so_far =
    let rest : List Statement = drop (i + 1) body in
    let split : drop i body ≡ s ∷ rest = drop_more body i s within ∙ ap (λ (y : Statement). y ∷ rest) (sym is_s) in
    ap (λ (l : List Landing). l ++ landings_at_labels after rest) is_more
    ∙ ap (λ (m : SourceNesting). (landings ++ landing_here n s.label) ++ landings_at_labels m rest) is_after
    ∙ append_assoc landings (landing_here n s.label) (landings_at_labels (nesting_behind n s) rest)
    ∙ ap (λ (l : List Statement). landings ++ landings_at_labels n l) (sym split) ∙ so_far

pub landings_end : (n : SourceNesting) (landings whole : List Landing) (body : List Statement) (i : ℕ) → length body ≤ i → landings ++ landings_at_labels n (drop i body) ≡ whole → landings ≡ whole
landings_end n landings whole body i over so_far =
    sym (append-nil landings) ∙ ap (λ (l : List Statement). landings ++ landings_at_labels n l) (sym (drop_of_length-le body over)) ∙ so_far
