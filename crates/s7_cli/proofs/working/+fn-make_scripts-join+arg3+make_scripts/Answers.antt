use Rattle.std.proofs.Common.{◌≡◌, ◌∙◌, length, map, arith}
use Rattle.std.proofs.lemmas.Bool.Decides.{nat_tests}
use Rattle.std.proofs.lemmas.Result.{on_ok_weaker}
use Rattle.s7_cli.proofs.PassLemmas.{begun_alone, length_items, whole_alone}
use Rattle.s7_cli.proofs.working.+fn-make_scripts-join+arg3+make_scripts.Goals as goal

pub returns-then-is_empty-clause-made : goal.returns-then-is_empty-clause-made
returns-then-is_empty-clause-made g t c =
    let others = c.first_and_others.result.1.now in
    let none : length others ≡ 0 = grind (arith, nat_tests) in
    on_ok_weaker c.make_entries.result.1
    (λ h. h ∙ whole_alone c.args.passes.items c.take_first_pass-first.new.passes.items c.take_first_pass-first.result _ (map (λ v. v.items) others) c.first_and_others.result.0.now c.take_first_pass-first.ensures c.first_and_others.ensures.parts (length_items (λ v. v.items) others ∙ none))
    c.make_entries.ensures.made

pub returns-then-is_empty-clause-begun : goal.returns-then-is_empty-clause-begun
returns-then-is_empty-clause-begun g t c =
    let others = c.first_and_others.result.1.now in
    let none : length others ≡ 0 = grind (arith, nat_tests) in
    begun_alone _ c.args.passes.items c.take_first_pass-first.new.passes.items c.take_first_pass-first.result c.make_entries.result.0 _ (map (λ v. v.items) others) c.first_and_others.result.0.now c.take_first_pass-first.ensures c.first_and_others.ensures.parts (length_items (λ v. v.items) others ∙ none) c.requires.ready c.make_entries.ensures.begun
