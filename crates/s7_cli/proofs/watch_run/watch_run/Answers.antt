use Rattle.std.proofs.Common.{◌∙◌, ap, sym, subst, arith, is_ok, length, map, List}
use Rattle.var_access.specs.declared.Entry.{Entry}
use Rattle.s7_cli.specs.Working.{CanWork}
use Rattle.s7_cli.proofs.PassLemmas.{length_items}
use Rattle.s7_cli.proofs.RegularLemmas.{live_has_steps, live_is_regular}
use Rattle.s7_cli.proofs.WatchRunLemmas.{can_watch, last_fresh, last_of_six, lists_regular, padded_so, three_lists, watch_full, watch_lived, watch_missing, watch_views}
use Rattle.s7_cli.proofs.WorkingLemmas.{at_ok}
use Rattle.s7_cli.proofs.watch_run.watch_run.Goals as goal

pub watch_station-pass-requires-clause-some : goal.watch_station-pass-requires-clause-some
watch_station-pass-requires-clause-some g c κs within =
    let xs = map (λ v. v.items) c.args.scripts.items in
    let many = length_items (λ v. v.items) c.args.scripts.items in
    let pad = padded_so xs _ _ c.in_ok-scripts.ensures many in
    omega (arith, three_lists xs (omega (arith, many, c.requires.some.1)), ap length pad, length_items (λ v. v.items) c.in_ok-scripts.scripts.items, ap length c.deref.ensures.value)

pub watch_station-pass-requires-clause-ready : goal.watch_station-pass-requires-clause-ready
watch_station-pass-requires-clause-ready g c κs within =
    let s = c.in_ok-station.station in
    let xs = map (λ v. v.items) c.args.scripts.items in
    let many = length_items (λ v. v.items) c.args.scripts.items in
    let front = c.last_pass-last.new.passes.items in
    let pad = ap (λ ss. map (λ v. v.items) ss) c.deref.ensures.value ∙ padded_so xs _ _ c.in_ok-scripts.ensures many in
    let apart = last_of_six s _ front c.last_pass-last.result c.in_ok-station.ensures.passes c.last_pass-last.ensures in
    subst (λ (l : List (List Entry)). CanWork s front c.args.stimuli.now l) (sym pad)
    (can_watch s front c.args.stimuli.now xs apart.0 (omega (arith, many, c.requires.some.1)) c.requires.entries)

pub watch_station-pass-requires-clause-fresh : goal.watch_station-pass-requires-clause-fresh
watch_station-pass-requires-clause-fresh g c κs within =
    last_fresh c.in_ok-station.station c.last_pass-last.result
    (last_of_six c.in_ok-station.station _ c.last_pass-last.new.passes.items c.last_pass-last.result c.in_ok-station.ensures.passes c.last_pass-last.ensures).1

pub controller_at_end-requires-clause-all : goal.controller_at_end-requires-clause-all
controller_at_end-requires-clause-all g c =
    let r = c.watch_station-pass.result in
    let xs = map (λ v. v.items) c.args.scripts.items in
    let many = length_items (λ v. v.items) c.args.scripts.items in
    let pad = ap (λ ss. map (λ v. v.items) ss) c.deref.ensures.value ∙ padded_so xs _ _ c.in_ok-scripts.ensures many in
    watch_missing c.in_ok-station.station c.args.steps c.args.stimuli.now xs _ c.args.vars.now r.0 (is_ok r.1) _ c.last_pass-last.new.passes.items c.last_pass-last.result
    c.in_ok-station.ensures.passes c.last_pass-last.ensures pad (omega (arith, many, c.requires.some.1)) c.watch_station-pass.ensures.made c.in_ok-station.ensures.station.1

pub controller_at_end-requires-clause-room : goal.controller_at_end-requires-clause-room
controller_at_end-requires-clause-room g c d back =
    let r = c.watch_station-pass.result in
    let xs = map (λ v. v.items) c.args.scripts.items in
    let many = length_items (λ v. v.items) c.args.scripts.items in
    let pad = ap (λ ss. map (λ v. v.items) ss) c.deref.ensures.value ∙ padded_so xs _ _ c.in_ok-scripts.ensures many in
    watch_full c.in_ok-station.station c.args.steps c.args.stimuli.now xs _ c.args.vars.now r.0 (is_ok r.1) _ c.last_pass-last.new.passes.items c.last_pass-last.result
    c.in_ok-station.ensures.passes c.last_pass-last.ensures pad (omega (arith, many, c.requires.some.1)) c.watch_station-pass.ensures.made
    c.in_ok-controller.controller d c.in_ok-station.ensures.station.0 c.args.program c.in_ok-controller.ensures back r.1 c.watch_station-pass.ensures.fault c.requires.few

pub returns-clause-live : goal.returns-clause-live
returns-clause-live g c =
    let r = c.watch_station-pass.result in
    let xs = map (λ v. v.items) c.args.scripts.items in
    let many = length_items (λ v. v.items) c.args.scripts.items in
    let pad = ap (λ ss. map (λ v. v.items) ss) c.deref.ensures.value ∙ padded_so xs _ _ c.in_ok-scripts.ensures many in
    let e = c.in_ok-controller-2.ensures in
    watch_lived c.in_ok-station.station c.args.steps c.args.stimuli.now xs _ c.args.vars.now r.0 (is_ok r.1) _ c.last_pass-last.new.passes.items c.last_pass-last.result
    c.in_ok-station.ensures.passes c.last_pass-last.ensures pad (omega (arith, many, c.requires.some.1)) c.watch_station-pass.ensures.made
    c.in_ok-controller.controller c.in_ok-controller-2.controller c.in_ok-station.ensures.station.0 c.args.program c.in_ok-controller.ensures e.0
    c.watch_station-pass.ensures.agrees e.1

pub returns-clause-regular : goal.returns-clause-regular
returns-clause-regular g c =
    let xs = map (λ v. v.items) c.args.scripts.items in
    live_is_regular c.args.program c.args.steps c.args.stimuli.now _ c.in_ok-controller-2.controller.history (returns-clause-live g c)
    (lists_regular 100 c.args.stimuli.now xs c.args.vars.now (omega (arith, length_items (λ v. v.items) c.args.scripts.items, c.requires.some.1)) c.requires.entries c.requires.reads)

pub returns-clause-steps : goal.returns-clause-steps
returns-clause-steps g c =
    let xs = map (λ v. v.items) c.args.scripts.items in
    live_has_steps c.args.program c.args.steps c.args.stimuli.now _ c.in_ok-controller-2.controller.history (returns-clause-live g c)
    (lists_regular 100 c.args.stimuli.now xs c.args.vars.now (omega (arith, length_items (λ v. v.items) c.args.scripts.items, c.requires.some.1)) c.requires.entries c.requires.reads)

pub returns-clause-views : goal.returns-clause-views
returns-clause-views g c =
    let r = c.watch_station-pass.result in
    let xs = map (λ v. v.items) c.args.scripts.items in
    let many = length_items (λ v. v.items) c.args.scripts.items in
    let pad = ap (λ ss. map (λ v. v.items) ss) c.deref.ensures.value ∙ padded_so xs _ _ c.in_ok-scripts.ensures many in
    let e = c.in_ok-controller-2.ensures in
    watch_views c.in_ok-station.station c.args.steps c.args.stimuli.now xs _ c.args.vars.now r.0 (is_ok r.1) _ c.last_pass-last.new.passes.items c.last_pass-last.result
    c.in_ok-station.ensures.passes c.last_pass-last.ensures pad (omega (arith, many, c.requires.some.1)) c.watch_station-pass.ensures.made
    c.in_ok-controller.controller c.in_ok-controller-2.controller c.in_ok-station.ensures.station.0 c.args.program c.in_ok-controller.ensures e.0
    c.watch_station-pass.new.views.items (at_ok r.1 e.1 c.watch_station-pass.ensures.views)
