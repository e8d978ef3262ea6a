use Rattle.std.proofs.Common.{◌∙◌, ◌-◌, ◌≡◌, ◌≤◌, ap, refl, replicate, ℕ, Err, arith}
use Rattle.std.proofs.lemmas.Result.{err_from_is_err_and}
use Rattle.s7_cli.proofs.run.EntryLemmas.{follows-end, follows-none, follows-quiet, steps-cut, steps-next, steps-room}
use Rattle.s7_cli.proofs.run_text.entries.write_steps.Goals as goal

pub loop-left-init : goal.loop-left-init
loop-left-init g c = record {
  follows = follows-none c.args.controller.now (replicate c.args.count c.args.step.now) _;
}

pub step_silently-left-requires-clause-room : goal.step_silently-left-requires-clause-room
step_silently-left-requires-clause-room g c =
    steps-room _ _ c.args.step.now c.args.count c.loop-left.left _ _ c.loop-left.invariant.follows c.requires.room

pub returns-then-left-eq0-clause-text : goal.returns-then-left-eq0-clause-text
returns-then-left-eq0-clause-text g c =
    let none : c.loop-left.left - c.step_silently-left.result ≡ 0 = omega (arith, c.if-left-eq0.true) in
    follows-end _ _ _ _ _ _ _
    (follows-quiet c.continues_replay.ensures.more c.args.controller.now c.loop-left.controller c.step_silently-left.new.self
    (replicate c.args.count c.args.step.now) c.args.step.now c.step_silently-left.result c.loop-left.left _ _ _
    c.loop-left.invariant.follows c.requires.is c.step_silently-left.ensures.few refl c.step_silently-left.ensures.history
    c.step_silently-left.ensures.nothing)
    (ap (λ (n : ℕ). replicate n c.args.step.now) none)

pub write_applied-requires-clause-room : goal.write_applied-requires-clause-room
write_applied-requires-clause-room g c =
    let left = steps-room _ _ c.args.step.now c.args.count _ _ _
    (follows-quiet c.continues_replay.ensures.more c.args.controller.now c.loop-left.controller c.step_silently-left.new.self
    (replicate c.args.count c.args.step.now) c.args.step.now c.step_silently-left.result c.loop-left.left
    (c.loop-left.left - c.step_silently-left.result) _ _
    c.loop-left.invariant.follows c.requires.is c.step_silently-left.ensures.few refl c.step_silently-left.ensures.history
    c.step_silently-left.ensures.nothing)
    c.requires.room in
    omega (arith, left, c.if-left-eq0.false)

pub returns-in_err-write_applied-clause-text : goal.returns-in_err-write_applied-clause-text
returns-in_err-write_applied-clause-text g c =
    let handed = err_from_is_err_and c.from_residual.result c.from_residual.ensures.1 in
    let some : 1 ≤ c.loop-left.left - c.step_silently-left.result = omega (arith, c.if-left-eq0.false) in
    steps-cut c.continues_replay.ensures.more _ _ c.args.step.now c.args.count _ _ _ _ _ _
    (follows-quiet c.continues_replay.ensures.more c.args.controller.now c.loop-left.controller c.step_silently-left.new.self
    (replicate c.args.count c.args.step.now) c.args.step.now c.step_silently-left.result c.loop-left.left _ _ _
    c.loop-left.invariant.follows c.requires.is c.step_silently-left.ensures.few refl c.step_silently-left.ensures.history
    c.step_silently-left.ensures.nothing)
    some
    c.in_err-write_applied.ensures.text
    (handed.1 ∙ ap Err handed.2)

pub loop-left-preserved : goal.loop-left-preserved
loop-left-preserved g c =
    let some : 1 ≤ c.loop-left.left - c.step_silently-left.result = omega (arith, c.if-left-eq0.false) in
    record {
      follows =
          steps-next c.continues_replay.ensures.more _ _ _ c.args.step.now c.args.count _ _ _ _ _
          (follows-quiet c.continues_replay.ensures.more c.args.controller.now c.loop-left.controller c.step_silently-left.new.self
          (replicate c.args.count c.args.step.now) c.args.step.now c.step_silently-left.result c.loop-left.left _ _ _
          c.loop-left.invariant.follows c.requires.is c.step_silently-left.ensures.few refl c.step_silently-left.ensures.history
          c.step_silently-left.ensures.nothing)
          some
          c.in_ok-write_applied.ensures.applied
          c.in_ok-write_applied.ensures.text;
    }
