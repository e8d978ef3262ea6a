use Rattle.std.proofs.Common.{arith, ◌∙◌, ap, ◌+◌, ℕ, length, drop, refl, List}
use Rattle.flat_code.specs.Codes.{code_bytes}
use Rattle.flat_code.specs.Ops.{OpData}
use Rattle.image_file.specs.OpChecking.{environment_of}
use Rattle.image_file.proofs.CheckLemmas.{here_fits, left_next, room_here, same_place, faults_next, open_next, left_open_next, up_to_next, zones_next, check_done}
use Rattle.image_file.proofs.verifying.check_ops.Goals as goal

pub check_op-least-requires-clause-room : goal.check_op-least-requires-clause-room
check_op-least-requires-clause-room c =
    omega (arith, c.requires.room, ap (λ (z : List OpData). length (code_bytes z)) c.ops_from.ensures, room_here c.loop-i.at c.loop-i.i _ c.args.ops.now c.index-ops-i.result c.loop-i-test.true c.index-ops-i.is c.loop-i.invariant.left)

pub overflow_add-at : goal.overflow_add-at
overflow_add-at c = omega (arith, c.size-at.ensures.size, c.requires.room, here_fits c.loop-i.at c.loop-i.i _ c.args.ops.now c.index-ops-i.result c.loop-i-test.true c.index-ops-i.is c.loop-i.invariant.left)

pub loop-i-preserved : goal.loop-i-preserved
loop-i-preserved c =
    let op = c.index-ops-i.result in
    let size_is = ap (λ (k : ℕ). c.loop-i.at + k) c.size-at.ensures.size in
    let now = c.pass.new.self in
    let before = c.loop-i.nesting in
    record {
      faults = faults_next (environment_of c.args.environment.now) c.args.statements.now c.args.start c.loop-i.at c.loop-i.i before.brackets.items now.brackets.items before.zones.items now.zones.items c.loop-i.before.items c.prepare.new.before.items c.args.ops.now op c.loop-i.least c.check_op-least.result (c.loop-i.at + c.size-at.result) c.loop-i-test.true c.index-ops-i.is
          (c.check_op-least.ensures ∙ same_place (environment_of c.args.environment.now) _ c.args.statements.now c.args.start c.loop-i.at _ before.brackets.items _ before.zones.items _ c.loop-i.before.items op _ (drop (c.loop-i.i + 1) c.args.ops.now) c.loop-i.least refl c.as_slice.ensures.value c.as_slice-in-loop-i.ensures.value c.as_slice-in-loop-i-2.ensures.value c.ops_from.ensures)
          size_is c.in_ok-pass.ensures.brackets c.in_ok-pass.ensures.zones c.in_ok-prepare.ensures ∙ c.loop-i.invariant.faults;
      open_ones = open_next c.loop-i.at c.loop-i.i (c.loop-i.at + c.size-at.result) before.brackets.items now.brackets.items c.args.ops.now op c.loop-i-test.true c.index-ops-i.is size_is c.in_ok-pass.ensures.brackets ∙ c.loop-i.invariant.open_ones;
      open_zones = left_open_next c.loop-i.at c.loop-i.i (c.loop-i.at + c.size-at.result) before.zones.items now.zones.items c.args.ops.now op c.loop-i-test.true c.index-ops-i.is size_is c.in_ok-pass.ensures.zones ∙ c.loop-i.invariant.open_zones;
      left = left_next c.loop-i.at c.loop-i.i _ _ c.args.ops.now op c.loop-i-test.true c.index-ops-i.is size_is c.loop-i.invariant.left;
      within = up_to_next c.loop-i.at (c.loop-i.at + c.size-at.result) op.code before.brackets.items now.brackets.items (omega arith) c.in_ok-pass.ensures.brackets c.loop-i.invariant.within;
      zones_within = zones_next c.loop-i.at (c.loop-i.at + c.size-at.result) op.code before.zones.items now.zones.items (omega arith) c.in_ok-pass.ensures.zones c.loop-i.invariant.zones_within;
    }

pub returns : goal.returns
returns c = check_done (environment_of c.args.environment.now) c.args.statements.now c.args.start c.loop-i.at c.loop-i.i c.loop-i.nesting.brackets.items c.loop-i.nesting.zones.items c.loop-i.before.items c.args.ops.now c.loop-i.least c.args.least c.check_nesting.result c.loop-i-test.false c.requires.all c.loop-i.invariant.faults c.loop-i.invariant.open_ones c.loop-i.invariant.open_zones c.check_nesting.ensures
