use Rattle.std.proofs.Common.{arith, ◌≡◌, ◌<◌, ◌≤◌, ◌+◌, ◌-◌, ◌++◌, ◌∷◌, [], length, min, sym, ◌∙◌, ap, List, ℕ}
use Rattle.controller.specs.declared.observing.Outputs.TheInside.{Inside}
use Rattle.controller.proofs.ObservingLemmas.{changes_next, changes_end, changes_from, below_end, one_more_change}
use Rattle.controller.proofs.observing.Outputs.find.Goals as goal
use Rattle.controller.proofs.observing.Outputs.find.Goals.{in-Some-byte, in_default-byte}

pub loop-byte-preserved : goal.loop-byte-preserved
loop-byte-preserved c =
    let within : c.in-Some.byte < 768 = below_end c.in-Some.byte c.in-Some.ensures.exists in
    elim c.match-byte.branch [
      | in-Some-byte w ↦
          let items : c.match-byte.self-inside.list.items ≡ c.loop-byte.self-inside.list.items ++ (c.in-Some.byte, w.in-Some-byte.value) ∷ [] =
          ap (λ (s : Inside). s.list.items) w.self-inside-is ∙ w.push.ensures.items in
          let count : length c.match-byte.self-inside.list.items ≡ length c.loop-byte.self-inside.list.items + 1 =
          ap (λ (s : Inside). length s.list.items) w.self-inside-is ∙ w.push.ensures.len in
          let few : length c.loop-byte.self-inside.list.items + 1 ≤ min (c.in-Some.byte + 1) 128 + (c.in-Some.byte + 1 - 256) =
          one_more_change c.loop-byte.from c.in-Some.byte _ c.in-Some.ensures.first.0 c.in-Some.ensures.exists c.loop-byte.invariant.1 in (
            ap (λ (found : List (ℕ × ℕ)). found ++ changes_from c.args.before.now c.args.after.now (c.in-Some.byte + 1)) items
                ∙ changes_next _ _ c.args.before.now c.args.after.now c.loop-byte.from c.in-Some.byte w.in-Some-byte.value
                c.in-Some.ensures.first within (sym w.in-Some-byte.is ∙ c.byte.ensures.value) c.loop-byte.invariant.0,
            omega (arith, count, few),
            omega (arith, within),
          )
      | in_default-byte w ↦
          let there = w.in_default-byte.ensures.exists.1 c.in-Some.ensures.exists in absurd cc
    ]

pub returns : goal.returns
returns c =
    changes_end _ _ c.args.before.now c.args.after.now c.loop-byte.from c.in_default.ensures.first c.loop-byte.invariant.0
