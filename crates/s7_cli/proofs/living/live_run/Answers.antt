use Rattle.std.proofs.Common.{sym, subst, arith, map, is_ok}
use Rattle.std.proofs.lemmas.Result.{IfOk-weaker}
use Rattle.s7_cli.specs.Working.{CanWork}
use Rattle.s7_cli.proofs.LivingLemmas.{made_live_history, never_full, none_missing}
use Rattle.s7_cli.proofs.NumberLemmas.{can_work}
use Rattle.s7_cli.proofs.PassLemmas.{length_items}
use Rattle.s7_cli.proofs.RegularLemmas.{live_has_steps, live_is_regular}
use Rattle.s7_cli.proofs.living.live_run.Goals as goal

pub work-pass-requires-clause-ready : goal.work-pass-requires-clause-ready
work-pass-requires-clause-ready g c κs within =
    let scripts = map (λ v. v.items) c.args.scripts.now in
    subst (λ ps. CanWork c.in_ok-station.station ps c.args.stimuli.now scripts) (sym c.in_ok-station.ensures.passes)
    (can_work c.in_ok-station.station _ c.args.stimuli.now scripts (omega (arith, length_items (λ v. v.items) c.args.scripts.now)) c.requires.entries)

pub controller_at_end-requires-clause-all : goal.controller_at_end-requires-clause-all
controller_at_end-requires-clause-all g c =
    let r = c.work-pass.result in
    let scripts = map (λ v. v.items) c.args.scripts.now in
    let station = c.in_ok-station.ensures in
    none_missing c.in_ok-station.station c.args.steps c.args.stimuli.now scripts r.0 (is_ok r.1) _ _ station.passes (omega (arith, length_items (λ v. v.items) c.args.scripts.now)) c.work-pass.ensures.made station.station.1

pub controller_at_end-requires-clause-room : goal.controller_at_end-requires-clause-room
controller_at_end-requires-clause-room g c d back =
    let r = c.work-pass.result in
    let scripts = map (λ v. v.items) c.args.scripts.now in
    let station = c.in_ok-station.ensures in
    never_full c.in_ok-station.station c.args.steps c.args.stimuli.now scripts r.0 (is_ok r.1) _ _ station.passes (omega (arith, length_items (λ v. v.items) c.args.scripts.now)) c.work-pass.ensures.made
    c.in_ok-controller.controller d station.station.0 c.args.program c.in_ok-controller.ensures back r.1 c.work-pass.ensures.fault c.requires.few

pub returns-clause-live : goal.returns-clause-live
returns-clause-live g c =
    let r = c.work-pass.result in
    let scripts = map (λ v. v.items) c.args.scripts.now in
    let station = c.in_ok-station.ensures in
    IfOk-weaker c.controller_at_end.result _ _ (λ d e. made_live_history c.in_ok-station.station c.args.steps c.args.stimuli.now scripts r.0 (is_ok r.1) _ _ station.passes (omega (arith, length_items (λ v. v.items) c.args.scripts.now)) c.work-pass.ensures.made
    c.in_ok-controller.controller d station.station.0 c.args.program c.in_ok-controller.ensures e.0 c.work-pass.ensures.agrees e.1) c.controller_at_end.ensures

pub returns-clause-regular : goal.returns-clause-regular
returns-clause-regular g c =
    IfOk-weaker c.controller_at_end.result _ _
    (λ d live. live_is_regular c.args.program c.args.steps c.args.stimuli.now (map (λ v. v.items) c.args.scripts.now) d.history live c.requires.entries)
    (returns-clause-live g c)

pub returns-clause-steps : goal.returns-clause-steps
returns-clause-steps g c =
    IfOk-weaker c.controller_at_end.result _ _
    (λ d live. live_has_steps c.args.program c.args.steps c.args.stimuli.now (map (λ v. v.items) c.args.scripts.now) d.history live c.requires.entries)
    (returns-clause-live g c)
